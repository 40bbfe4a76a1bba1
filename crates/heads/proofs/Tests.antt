-- Tests of all elements of a list, and of each of some positions. Assumes nothing.
use mathlib.Core.Path.{◌≡◌, refl, sym, ap, ◌∙◌}
use mathlib.Core.Bool.{Bool, true, false, ◌&&◌, true≢false}
use mathlib.Core.List.{List, [], ◌∷◌}
use Prim.Native.Nat.{ℕ, zero, suc, ◌+◌, ◌≤◌, ◌<◌}
use native.Mathlib.Numerals.{add-one}
use native.Mathlib.Omega.{arith}
use lib.Dec.{ltb}
use lib.ListN.{length, get_or, drop, drop_of_length-le}
use lib.Seq.{drop-cons}
use borrow.Author.Tests.{ltb-true, ltb-false}
use Rattle.heads.specs.Form.{all, every}

pub both : (a b : Bool) → (a && b) ≡ true → (a ≡ true) × (b ≡ true)
both true b e = (refl, e)
both false b e = absurd (true≢false (sym e))

-- two tests that hold together
pub same_truth : (a b : Bool) → (a ≡ true → b ≡ true) → (b ≡ true → a ≡ true) → a ≡ b
same_truth true b f g = sym (f refl)
same_truth false true f g = g refl
same_truth false false f g = refl

-- ---- All elements

-- the test of what is left
module _ {A : Type 0} (test : A → Bool) (l : List A) (k : ℕ) where
  pub all_past : length l ≤ k → true ≡ all test (drop k l)
  unfolding all
  all_past h = rw (drop_of_length-le l h)

  pub all_here : (d : A) → k < length l → all test (drop k l) ≡ (test (get_or l k d) && all test (drop (k + 1) l))
  unfolding all
  all_here d h = ap (all test) (drop-cons l k d h) ∙ rw (add-one k)

-- what it tells of each, what tells it, and what tells that they do not all pass
pub all-get : {A : Type 0} (test : A → Bool) (l : List A) (i : ℕ) (d : A) → all test l ≡ true → i < length l → test (get_or l i d) ≡ true
unfolding all
all-get test [] i d e h = absurd (omega arith)
all-get test (x ∷ xs) zero d e h = (both (test x) (all test xs) e).0
all-get test (x ∷ xs) (suc i) d e h = all-get test xs i d (both (test x) (all test xs) e).1 (omega arith)

pub all-all : {A : Type 0} (test : A → Bool) (l : List A) (d : A) → ((i : ℕ) → i < length l → test (get_or l i d) ≡ true) → all test l ≡ true
unfolding all
all-all test [] d f = refl
all-all test (x ∷ xs) d f = rw (f 0 (omega arith)) (all-all test xs d (λ i h. f (suc i) (omega arith)))

pub all-not : {A : Type 0} (test : A → Bool) (l : List A) (d : A) → all test l ≡ false → (i : ℕ) × (i < length l) × (test (get_or l i d) ≡ false)
unfolding all
all-not test [] d e = absurd (true≢false e)
all-not test (x ∷ xs) d e = by (test x) refl (all-not test xs d) e
  where
    by : (t : Bool) → test x ≡ t → (all test xs ≡ false → (i : ℕ) × (i < length xs) × (test (get_or xs i d) ≡ false)) → (t && all test xs) ≡ false
        → (i : ℕ) × (i < suc (length xs)) × (test (get_or (x ∷ xs) i d) ≡ false)
    by false p f e = (0, omega arith, p)
    by true p f e = let g = f e in (suc g.0, omega (arith, g.1), g.2)

-- ---- Each of some positions

pub every-at : (test : ℕ → Bool) (n i : ℕ) → every test n i ≡ true → (x : ℕ) → i ≤ x → x < i + n → test x ≡ true
unfolding every
every-at test zero i e x h k = absurd (omega arith)
every-at test (suc n) i e x h k =
    by (ltb i x) (ltb-true i x) (ltb-false i x) (λ p. every-at test n (suc i) (both (test i) (every test n (suc i)) e).1 x p (omega arith))
  where
    by : (t : Bool) → (t ≡ true → i < x) → (t ≡ false → x ≤ i) → (i < x → test x ≡ true) → test x ≡ true
    by true f g r = r (f refl)
    by false f g r = let q : x ≡ i = omega (arith, g refl) in rw q (both (test i) (every test n (suc i)) e).0

pub every-all : (test : ℕ → Bool) (n i : ℕ) → ((x : ℕ) → i ≤ x → x < i + n → test x ≡ true) → every test n i ≡ true
unfolding every
every-all test zero i f = refl
every-all test (suc n) i f = rw (f i (omega arith) (omega arith)) (every-all test n (suc i) (λ x h k. f x (omega arith) (omega arith)))

pub every-not : (test : ℕ → Bool) (n i : ℕ) → every test n i ≡ false → (x : ℕ) × (x < i + n) × (test x ≡ false)
unfolding every
every-not test zero i e = absurd (true≢false e)
every-not test (suc n) i e = by (test i) refl (every-not test n (suc i)) e
  where
    by : (t : Bool) → test i ≡ t → (every test n (suc i) ≡ false → (x : ℕ) × (x < suc i + n) × (test x ≡ false)) → (t && every test n (suc i)) ≡ false
        → (x : ℕ) × (x < i + suc n) × (test x ≡ false)
    by false p f e = (i, omega arith, p)
    by true p f e = let g = f e in (g.0, omega (arith, g.1), g.2)
