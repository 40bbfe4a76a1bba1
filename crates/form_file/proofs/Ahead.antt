-- Laws of `ahead`: a loop that goes on while bytes pass a test ends where they stop. Assumes nothing.
use mathlib.Core.Path.{◌≡◌, refl, ap}
use mathlib.Core.Bool.{Bool, true, false, not}
use mathlib.Core.List.{List, [], ◌∷◌}
use Prim.Native.Nat.{ℕ, suc, ◌+◌, ◌≤◌, ◌<◌}
use native.Mathlib.Omega.{arith}
use lib.Dec.{eqb}
use lib.ListN.{length, get_or, take, drop, length-drop, drop_of_length-le}
use lib.Seq.{drop-cons, get_or-drop}
use borrow.Author.Tests.{eq-eqb, ne_eqb}
use Rattle.form_file.specs.Words.{uncommented}
use Rattle.form_file.specs.Steps.{ahead, is_plain}

module _ (test : ℕ → Bool) where
  pub ahead_more : (b : ℕ) (bs : List ℕ) → test b ≡ true → ahead test (b ∷ bs) ≡ suc (ahead test bs)
  unfolding ahead
  ahead_more b bs e = rw (ahead, e)

  pub ahead_none : (b : ℕ) (bs : List ℕ) → test b ≡ false → ahead test (b ∷ bs) ≡ 0
  unfolding ahead
  ahead_none b bs e = rw (ahead, e)

  -- by cases: there is no byte, the first passes, or it does not
  pub ahead-cases : (C : List ℕ → ℕ → Type 0) → C [] 0 → ((b : ℕ) (bs : List ℕ) → test b ≡ true → C bs (ahead test bs) → C (b ∷ bs) (suc (ahead test bs)))
      → ((b : ℕ) (bs : List ℕ) → test b ≡ false → C (b ∷ bs) 0) → (xs : List ℕ) → C xs (ahead test xs)
  unfolding ahead
  ahead-cases C none more stop [] = none
  ahead-cases C none more stop (b ∷ bs) = by (test b) refl (ahead-cases C none more stop bs)
    where
      by : (t : Bool) → test b ≡ t → C bs (ahead test bs) → C (b ∷ bs) (ahead test (b ∷ bs))
      by true e c = rw (ahead_more b bs e) (more b bs e c)
      by false e c = rw (ahead_none b bs e) (stop b bs e)

  pub ahead_in : (xs : List ℕ) → ahead test xs ≤ length xs
  ahead_in = ahead-cases (λ (xs : List ℕ) (n : ℕ). n ≤ length xs) (omega arith) (λ b bs e h. omega arith) (λ b bs e. omega arith)

  -- where they stop inside
  pub ahead-stops : (xs : List ℕ) → ahead test xs < length xs → test (get_or xs (ahead test xs) 0) ≡ false
  ahead-stops = ahead-cases (λ (xs : List ℕ) (n : ℕ). n < length xs → test (get_or xs n 0) ≡ false) (λ l. absurd (omega arith)) (λ b bs e h l. h (omega arith)) (λ b bs e l. e)

  -- ---- A place of a text, and where a walk from it ends

  module _ (xs : List ℕ) (at : ℕ) where
    pub past-in : at ≤ length xs → at + ahead test (drop at xs) ≤ length xs
    past-in h = omega (arith, ahead_in (drop at xs), length-drop at xs)

    pub past-stops : at + ahead test (drop at xs) < length xs → test (get_or xs (at + ahead test (drop at xs)) 0) ≡ false
    past-stops l = rw get_or-drop at (ahead-stops (drop at xs) (omega (arith, length-drop at xs)))

    -- the walk from a place ends where that from another does
    pub record Walked (i : ℕ) : Type 0 where
      pub low : at ≤ i
      pub ends : at + ahead test (drop at xs) ≡ i + ahead test (drop i xs)

    pub walked-first : Walked at
    walked-first = record { low = omega arith; ends = refl }

    module _ {i : ℕ} (w : Walked i) where
      pub walked_next : i < length xs → test (get_or xs i 0) ≡ true → Walked (i + 1)
      walked_next l e = record {
        low = omega (arith, w.low);
        ends = omega (arith, w.ends, ap (ahead test) (drop-cons xs i 0 l), ahead_more _ (drop (suc i) xs) e, ap (λ (k : ℕ). ahead test (drop k xs)) one);
      }
        where
          one : i + 1 ≡ suc i
          one = omega arith

      pub walked_stop : i < length xs → test (get_or xs i 0) ≡ false → i ≡ at + ahead test (drop at xs)
      walked_stop l e = omega (arith, w.ends, ap (ahead test) (drop-cons xs i 0 l), ahead_none _ (drop (suc i) xs) e)

      pub walked_end : length xs ≤ i → i ≡ at + ahead test (drop at xs)
      unfolding ahead
      walked_end l = omega (arith, w.ends, ap (ahead test) (drop_of_length-le xs l))

-- what stands before a comment
pub before-comment : (xs : List ℕ) → take (ahead is_plain xs) xs ≡ uncommented xs
unfolding ahead uncommented
before-comment [] = refl
before-comment (b ∷ bs) = by (eqb b 35) refl (before-comment bs)
  where
    by : (t : Bool) → eqb b 35 ≡ t → take (ahead is_plain bs) bs ≡ uncommented bs → take (ahead is_plain (b ∷ bs)) (b ∷ bs) ≡ uncommented (b ∷ bs)
    by true e h = rw (ahead, uncommented, e)
    by false e h = rw (ahead, uncommented, e) (ap (λ (ys : List ℕ). b ∷ ys) h)

pub at-comment : (b : ℕ) → b ≡ 35 → is_plain b ≡ false
at-comment b e = ap not (eq-eqb b 35 e)

pub at_other : (b : ℕ) → (b ≡ 35 → ⊥) → is_plain b ≡ true
at_other b e = ap not (ne_eqb b 35 e)
