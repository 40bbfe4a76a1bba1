-- The test that a row ascends, by neighbours and its last change. Assumes nothing.
use mathlib.Core.Path.{◌≡◌, refl, sym, ap, ◌∙◌}
use mathlib.Core.Bool.{Bool, true, false, ◌&&◌, true≢false}
use mathlib.Core.List.{List, [], ◌∷◌}
use Prim.Native.Nat.{ℕ, zero, suc, ◌+◌, ◌-◌, ◌≤◌, ◌<◌}
use native.Mathlib.Numerals.{add-one}
use native.Mathlib.Omega.{arith}
use lib.Dec.{leb, ltb}
use lib.ListN.{length, get_or, drop, drop_of_length-le}
use lib.Seq.{drop-cons}
use borrow.Author.Tests.{le-leb, lt-leb, lt-ltb}
use Rattle.rules.specs.Pages.{ascends_from}
use Rattle.rules.specs.Rising.{Rising, none, some}
use Rattle.rules.proofs.Ascending.{ascends-rises, rises-ascends, rises-wider}

-- ---- Neighbours

and-true : (b : Bool) → (b && true) ≡ b
and-true true = refl
and-true false = refl

and-false : (b : Bool) → (b && false) ≡ false
and-false true = refl
and-false false = refl

-- what was noted, and the test of what lies behind the change before place `i`
abbrev pub left_test : ℕ → List ℕ → Bool → ℕ → Bool
left_test width row rising i = rising && ascends_from width (suc (get_or row (i - 1) 0)) (drop i row)

module _ (width : ℕ) (row : List ℕ) where
  abbrev at : ℕ → ℕ
  at i = get_or row i 0

  -- the first change has none before it
  pub first-left : 0 < length row → get_or row 0 0 < width → left_test width row true 1 ≡ ascends_from width 0 row
  unfolding ascends_from
  first-left h k = sym (ap (ascends_from width 0) (drop-cons row 0 0 h) ∙ rw (le-leb 0 (at 0) (omega arith), lt-ltb (at 0) width k))

  module _ (rising : Bool) (i : ℕ) where
    -- past the end only what was noted is left
    pub past-left : length row ≤ i → left_test width row rising i ≡ rising
    unfolding ascends_from
    past-left h = rw (drop_of_length-le row h) (and-true rising)

    module _ (h : i < length row) where
      abbrev before : ℕ
      before = suc (at (i - 1))

      abbrev later : Bool
      later = ascends_from width (suc (at i)) (drop (suc i) row)

      here : ascends_from width before (drop i row) ≡ (leb before (at i) && (ltb (at i) width && later))
      unfolding ascends_from
      here = ap (ascends_from width before) (drop-cons row i 0 h)

      -- a change that is not right of the one before it is noted
      pub noted-left : get_or row i 0 ≤ get_or row (i - 1) 0 → false ≡ left_test width row rising i
      noted-left e = sym (ap (λ b. rising && b) (here ∙ rw (lt-leb before (at i) (omega arith))) ∙ and-false rising)

      -- any other leaves what was noted
      pub next-left : get_or row (i - 1) 0 < get_or row i 0 → at i < width → left_test width row rising (i + 1) ≡ left_test width row rising i
      next-left e f = ap (λ b. rising && b) (sym (here ∙ rw (le-leb before (at i) (omega arith), lt-ltb (at i) width f) same))
        where
          same : later ≡ ascends_from width (suc (at (i + 1 - 1))) (drop (i + 1) row)
          same = rw (let e : i + 1 - 1 ≡ i = omega arith in e, add-one i) refl

-- ---- The last change

-- where changes rise, and the last, at place `i`, lies below a width, all do
narrower : {wide : ℕ} (low width : ℕ) (xs : List ℕ) (i : ℕ) → length xs ≡ suc i → get_or xs i 0 < width
    → Rising wide low xs → Rising width low xs
narrower low width [] i h k r = absurd (omega arith)
narrower low width (x ∷ []) zero h k (some a b r) = some a k none
narrower low width (x ∷ []) (suc i) h k r = absurd (omega arith)
narrower low width (x ∷ y ∷ ys) zero h k r = absurd (omega arith)
narrower low width (x ∷ y ∷ ys) (suc i) h k (some a b r) = behind (narrower (suc x) width (y ∷ ys) i (omega arith) k r)
  where
    behind : Rising width (suc x) (y ∷ ys) → Rising width low (x ∷ y ∷ ys)
    behind (some c d s) = some a (omega arith) (some c d s)

-- and where all do, the last does
last-below : (low width : ℕ) (xs : List ℕ) (i : ℕ) → length xs ≡ suc i → Rising width low xs → get_or xs i 0 < width
last-below low width [] i h r = absurd (omega arith)
last-below low width (x ∷ xs) zero h (some a b r) = b
last-below low width (x ∷ xs) (suc i) h (some a b r) = last-below (suc x) width xs i (omega arith) r

-- a row without changes ascends
pub ascends_none : (width : ℕ) (row : List ℕ) → length row ≡ 0 → true ≡ ascends_from width 0 row
unfolding ascends_from
ascends_none width [] h = refl
ascends_none width (x ∷ xs) h = absurd (omega arith)

module _ (width : ℕ) (row : List ℕ) (h : 0 < length row) where
  -- a last change at the width or right of it
  pub ascends-out : width ≤ get_or row (length row - 1) 0 → false ≡ ascends_from width 0 row
  ascends-out k = told (ascends_from width 0 row) refl
    where
      told : (b : Bool) → ascends_from width 0 row ≡ b → false ≡ b
      told true e = absurd (omega (arith, last-below 0 width row (length row - 1) (omega arith) (ascends-rises width 0 row e)))
      told false e = refl

  -- below it the test is that of any greater width
  pub ascends-narrow : (wide : ℕ) → width ≤ wide → get_or row (length row - 1) 0 < width
      → ascends_from wide 0 row ≡ ascends_from width 0 row
  ascends-narrow wide w k = told (ascends_from wide 0 row) refl (ascends_from width 0 row) refl
    where
      told : (a : Bool) → ascends_from wide 0 row ≡ a → (b : Bool) → ascends_from width 0 row ≡ b → a ≡ b
      told true e b f = sym (sym f ∙ rises-ascends (narrower 0 width row (length row - 1) (omega arith) k (ascends-rises wide 0 row e)))
      told false e true f = absurd (true≢false (sym (rises-ascends (rises-wider w (ascends-rises width 0 row f))) ∙ e))
      told false e false f = refl
