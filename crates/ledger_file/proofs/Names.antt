-- Laws of names where they stand in a text, compared from their ends. Assumes nothing.
use mathlib.Core.Path.{◌≡◌, refl, sym, ap, ◌∙◌}
use mathlib.Core.Bool.{Bool, true, false}
use mathlib.Core.List.{List, [], ◌∷◌}
use Prim.Native.Nat.{ℕ, zero, suc, ◌+◌, ◌-◌, ◌≤◌, ◌<◌}
use native.Mathlib.Omega.{arith}
use lib.Dec.{eqb, ltb}
use lib.ListN.{length, get_or, take, drop}
use lib.Seq.{get_or-drop, ext_get_or}
use borrow.Author.Tests.{eqb-true, eqb-false, eq-eqb, ne_eqb, ltb-true, ltb-false}
use Rattle.listing_text.specs.Lines.{onto, pieces}
use Rattle.form_file.specs.Words.{same}
use Rattle.form_file.proofs.Wording.{same_length, same_self, same-equal}
use Rattle.ledger_file.specs.Fields.{fields_of, field}
use Rattle.ledger_file.specs.Sums.{name_at}
use Rattle.ledger_file.specs.Tallying.{Tabbed}

-- ---- The first field

first-tab : (b : ℕ) (bs : List ℕ) → b ≡ 9 → field 0 (b ∷ bs) ≡ []
unfolding pieces
first-tab b bs e = rw (pieces, eq-eqb b 9 e)

first_more : (b : ℕ) (bs : List ℕ) → (b ≡ 9 → ⊥) → field 0 (b ∷ bs) ≡ b ∷ field 0 bs
unfolding pieces
first_more b bs n = rw (pieces, ne_eqb b 9 n) (by (fields_of bs))
  where
    by : (ps : List (List ℕ)) → get_or (onto b ps) 0 [] ≡ b ∷ get_or ps 0 []
    by [] = refl
    by (p ∷ ps) = refl

-- by cases: there is no byte, a tab comes first, or another
pub first-cases : (C : List ℕ → List ℕ → Type 0) → C [] [] → ((b : ℕ) (bs : List ℕ) → b ≡ 9 → C (b ∷ bs) [])
    → ((b : ℕ) (bs : List ℕ) → (b ≡ 9 → ⊥) → C bs (field 0 bs) → C (b ∷ bs) (b ∷ field 0 bs)) → (xs : List ℕ) → C xs (field 0 xs)
unfolding pieces
first-cases C none stop more [] = none
first-cases C none stop more (b ∷ bs) = by (eqb b 9) refl (first-cases C none stop more bs)
  where
    by : (t : Bool) → eqb b 9 ≡ t → C bs (field 0 bs) → C (b ∷ bs) (field 0 (b ∷ bs))
    by true e c = rw (first-tab b bs (eqb-true b 9 e)) (stop b bs (eqb-true b 9 e))
    by false e c = rw (first_more b bs (eqb-false b 9 e)) (more b bs (eqb-false b 9 e) c)

-- none of its bytes is a tab
first_plain : (xs : List ℕ) (k : ℕ) → k < length (field 0 xs) → get_or (field 0 xs) k 0 ≡ 9 → ⊥
first_plain =
    first-cases (λ (xs f : List ℕ). (k : ℕ) → k < length f → get_or f k 0 ≡ 9 → ⊥) (λ k l e. omega arith) (λ b bs t k l e. omega arith) more
  where
    more : (b : ℕ) (bs : List ℕ) → (b ≡ 9 → ⊥) → ((k : ℕ) → k < length (field 0 bs) → get_or (field 0 bs) k 0 ≡ 9 → ⊥) → (k : ℕ) → k < length (b ∷ field 0 bs)
        → get_or (b ∷ field 0 bs) k 0 ≡ 9 → ⊥
    more b bs n h zero l e = n e
    more b bs n h (suc k) l e = h k (omega arith) e

-- they are those that the text begins with
first_byte : (xs : List ℕ) (k : ℕ) → k < length (field 0 xs) → get_or (field 0 xs) k 0 ≡ get_or xs k 0
first_byte = first-cases (λ (xs f : List ℕ). (k : ℕ) → k < length f → get_or f k 0 ≡ get_or xs k 0) (λ k l. refl) (λ b bs t k l. absurd (omega arith)) more
  where
    more : (b : ℕ) (bs : List ℕ) → (b ≡ 9 → ⊥) → ((k : ℕ) → k < length (field 0 bs) → get_or (field 0 bs) k 0 ≡ get_or bs k 0) → (k : ℕ) → k < length (b ∷ field 0 bs)
        → get_or (b ∷ field 0 bs) k 0 ≡ get_or (b ∷ bs) k 0
    more b bs n h zero l = refl
    more b bs n h (suc k) l = h k (omega arith)

-- of a front with two fields or more, it is that of the whole, and a tab stands behind it
pub record Fronts (n : ℕ) (xs : List ℕ) : Type 0 where
  pub is : field 0 (take n xs) ≡ field 0 xs
  pub inside : length (field 0 xs) < length xs
  pub tab-is : get_or xs (length (field 0 xs)) 0 ≡ 9

pub fronts : (n : ℕ) (xs : List ℕ) → 1 < length (fields_of (take n xs)) → Fronts n xs
unfolding pieces
fronts zero xs h = absurd (omega arith)
fronts (suc n) [] h = absurd (omega arith)
fronts (suc n) (b ∷ bs) h = by (eqb b 9) refl (fronts n bs) h
  where
    onto-long : (ps : List (List ℕ)) → 1 < length (onto b ps) → 1 < length ps
    onto-long [] l = absurd (omega arith)
    onto-long (p ∷ ps) l = l

    by : (t : Bool) → eqb b 9 ≡ t → (1 < length (fields_of (take n bs)) → Fronts n bs)
        → 1 < length {A = List ℕ} (elim t as (λ (_ : Bool). List (List ℕ)) [ true ↦ [] ∷ fields_of (take n bs) | false ↦ onto b (fields_of (take n bs)) ]) → Fronts (suc n) (b ∷ bs)
    by true e r l =
        let z = eqb-true b 9 e in record {
          is = first-tab b (take n bs) z ∙ sym (first-tab b bs z);
          inside = omega (arith, ap length (first-tab b bs z));
          tab-is = ap (λ (f : List ℕ). get_or (b ∷ bs) (length f) 0) (first-tab b bs z) ∙ z;
        }
    by false e r l =
        let z = eqb-false b 9 e in
        let f = r (onto-long (fields_of (take n bs)) l) in record {
          is = first_more b (take n bs) z ∙ ap (λ (g : List ℕ). b ∷ g) f.is ∙ sym (first_more b bs z);
          inside = omega (arith, ap length (first_more b bs z), f.inside);
          tab-is = ap (λ (g : List ℕ). get_or (b ∷ bs) (length g) 0) (first_more b bs z) ∙ f.tab-is;
        }

-- ---- Two names

name-byte : (text : List ℕ) (s k : ℕ) → k < length (name_at text s) → get_or (name_at text s) k 0 ≡ get_or text (s + k) 0
name-byte text s k l = first_byte (drop s text) k l ∙ get_or-drop s text k 0

-- the bytes from a place on are the same
pub record Matching (text : List ℕ) (s at n i : ℕ) : Type 0 where
  pub low : i ≤ n
  pub alike : (k : ℕ) → i ≤ k → k < n → get_or text (s + k) 0 ≡ get_or text (at + k) 0

module _ (text : List ℕ) (s at n : ℕ) (ts : Tabbed text s) (ta : Tabbed text at) (en : n ≡ length (name_at text at)) where
  abbrev xs : List ℕ
  xs = name_at text s

  abbrev ys : List ℕ
  ys = name_at text at

  pub too_far : length text - s ≤ n → false ≡ same xs ys
  too_far h = same_length xs ys (λ e. omega (arith, ts.inside, en, e))

  pub no-tab : (get_or text (s + n) 0 ≡ 9 → ⊥) → false ≡ same xs ys
  no-tab h = same_length xs ys (λ e. h (ap (λ (k : ℕ). get_or text (s + k) 0) (en ∙ sym e) ∙ ts.tab-is))

  pub match-first : Matching text s at n n
  match-first = record { low = omega arith; alike = λ k l h. absurd (omega arith) }

  pub match-differ : (i : ℕ) → i < n → (get_or text (s + i) 0 ≡ get_or text (at + i) 0 → ⊥) → false ≡ same xs ys
  match-differ i l d = by (same xs ys) refl
    where
      by : (t : Bool) → same xs ys ≡ t → false ≡ t
      by false e = refl
      by true e =
          let z : xs ≡ ys = same-equal xs ys e in
          absurd (d (sym (name-byte text s i (omega (arith, en, ap length z))) ∙ ap (λ (f : List ℕ). get_or f i 0) z ∙ name-byte text at i (omega (arith, en))))

  module _ {i : ℕ} (m : Matching text s at n i) where
    pub match-next : 0 < i → get_or text (s + (i - 1)) 0 ≡ get_or text (at + (i - 1)) 0 → Matching text s at n (i - 1)
    match-next p e = record { low = omega (arith, m.low); alike = each }
      where
        each : (k : ℕ) → i - 1 ≤ k → k < n → get_or text (s + k) 0 ≡ get_or text (at + k) 0
        each k l h = by (ltb k i) refl
          where
            by : (t : Bool) → ltb k i ≡ t → get_or text (s + k) 0 ≡ get_or text (at + k) 0
            by true q = let z : i - 1 ≡ k = omega (arith, ltb-true k i q) in ap (λ (j : ℕ). get_or text (s + j) 0) (sym z) ∙ e ∙ ap (λ (j : ℕ). get_or text (at + j) 0) z
            by false q = m.alike k (ltb-false k i q) h

    pub match-all : i ≤ 0 → get_or text (s + n) 0 ≡ 9 → true ≡ same xs ys
    match-all z e = sym (ap (λ (f : List ℕ). same f ys) equal ∙ same_self ys)
      where
        every : (k : ℕ) → k < n → get_or text (s + k) 0 ≡ get_or text (at + k) 0
        every k l = m.alike k (omega arith) l

        not-longer : length xs ≤ n
        not-longer = by (ltb n (length xs)) refl
          where
            by : (t : Bool) → ltb n (length xs) ≡ t → length xs ≤ n
            by true q = absurd (first_plain (drop s text) n (ltb-true n (length xs) q) (name-byte text s n (ltb-true n (length xs) q) ∙ e))
            by false q = ltb-false n (length xs) q

        not-shorter : n ≤ length xs
        not-shorter = by (ltb (length xs) n) refl
          where
            by : (t : Bool) → ltb (length xs) n ≡ t → n ≤ length xs
            by true q =
                let l = ltb-true (length xs) n q in
                absurd (first_plain (drop at text) (length xs) (omega (arith, en)) (name-byte text at (length xs) (omega (arith, en)) ∙ sym (every (length xs) l) ∙ ts.tab-is))
            by false q = ltb-false (length xs) n q

        long : length xs ≡ length ys
        long = omega (arith, not-longer, not-shorter, en)

        equal : xs ≡ ys
        equal = ext_get_or 0 xs ys long (λ k l. name-byte text s k l ∙ every k (omega (arith, not-longer)) ∙ sym (name-byte text at k (omega (arith, long))))
