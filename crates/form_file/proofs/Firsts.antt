-- Laws of the first position that passes a test, as a loop finds it. Assumes nothing.
use mathlib.Core.Path.{◌≡◌, refl, sym, ap, ap₂, ◌∙◌}
use mathlib.Core.Bool.{Bool, true, false, not}
use Prim.Native.Nat.{ℕ, zero, suc, ◌+◌, ◌-◌, ◌≤◌, ◌<◌}
use native.Mathlib.Numerals.{add-one}
use native.Mathlib.Omega.{arith}
use lib.Dec.{ltb}
use borrow.Author.Tests.{ltb-true, ltb-false}
use Rattle.form_file.specs.First.{first_of}

module _ (test : ℕ → Bool) where
  -- it lies among the positions, or is the one behind them
  pub first-low : (n i : ℕ) → i ≤ first_of test n i
  unfolding first_of
  first-low zero i = omega arith
  first-low (suc n) i = by (test i) (first-low n (suc i))
    where
      by : (t : Bool) → suc i ≤ first_of test n (suc i) → i ≤ elim t [ true ↦ i | false ↦ first_of test n (suc i) ]
      by true h = omega arith
      by false h = omega arith

  pub first-high : (n i : ℕ) → first_of test n i ≤ i + n
  unfolding first_of
  first-high zero i = omega arith
  first-high (suc n) i = by (test i) (first-high n (suc i))
    where
      by : (t : Bool) → first_of test n (suc i) ≤ suc i + n → elim t [ true ↦ i | false ↦ first_of test n (suc i) ] ≤ i + suc n
      by true h = omega arith
      by false h = omega arith

  -- one that is not behind them passes
  pub first_passes : (n i : ℕ) → first_of test n i < i + n → test (first_of test n i) ≡ true
  unfolding first_of
  first_passes zero i h = absurd (omega arith)
  first_passes (suc n) i h = by (test i) refl (first_passes n (suc i)) h
    where
      by : (t : Bool) → test i ≡ t → (first_of test n (suc i) < suc i + n → test (first_of test n (suc i)) ≡ true)
          → elim t [ true ↦ i | false ↦ first_of test n (suc i) ] < i + suc n → test (elim t [ true ↦ i | false ↦ first_of test n (suc i) ]) ≡ true
      by true e r h = e
      by false e r h = r (omega arith)

  -- none before it passes
  pub first-before : (n i k : ℕ) → i ≤ k → k < first_of test n i → test k ≡ false
  unfolding first_of
  first-before zero i k l h = absurd (omega arith)
  first-before (suc n) i k l h = by (test i) refl (first-before n (suc i) k) h
    where
      by : (t : Bool) → test i ≡ t → (suc i ≤ k → k < first_of test n (suc i) → test k ≡ false)
          → k < elim t [ true ↦ i | false ↦ first_of test n (suc i) ] → test k ≡ false
      by true e r h = absurd (omega arith)
      by false e r h = apart (ltb i k) refl
        where
          apart : (t : Bool) → ltb i k ≡ t → test k ≡ false
          apart true p = r (ltb-true i k p) h
          apart false p = (let z : k ≡ i = omega (arith, ltb-false i k p) in ap test z) ∙ e

  -- ---- A loop from a position over n, with what it has passed

  pub record Sought (n i k : ℕ) : Type 0 where
    pub low : i ≤ k
    pub high : k ≤ i + n
    pub rest : first_of test (i + n - k) k ≡ first_of test n i

  pub sought-start : (n i : ℕ) → Sought n i i
  sought-start n i = record { low = omega arith; high = omega arith; rest = let e : i + n - i ≡ n = omega arith in rw e }

  here : (m k : ℕ) → 0 < m → test k ≡ true → first_of test m k ≡ k
  unfolding first_of
  here zero k h e = absurd (omega arith)
  here (suc m) k h e = ap (λ (t : Bool). elim t [ true ↦ k | false ↦ first_of test m (suc k) ]) e

  step : (m k : ℕ) → 0 < m → test k ≡ false → first_of test m k ≡ first_of test (m - 1) (k + 1)
  unfolding first_of
  step zero k h e = absurd (omega arith)
  step (suc m) k h e =
      ap (λ (t : Bool). elim t [ true ↦ k | false ↦ first_of test m (suc k) ]) e
      ∙ ap₂ (first_of test) (let z : m ≡ suc m - 1 = omega arith in z) (sym (add-one k))

  none : (m k : ℕ) → m ≤ 0 → first_of test m k ≡ k
  unfolding first_of
  none zero k h = refl
  none (suc m) k h = absurd (omega arith)

  module _ {n i k : ℕ} (s : Sought n i k) where
    -- the one at hand passes
    pub sought-hit : k < i + n → test k ≡ true → k ≡ first_of test n i
    sought-hit h e = sym (here (i + n - k) k (omega arith) e) ∙ s.rest

    -- it does not
    pub sought-next : k < i + n → test k ≡ false → Sought n i (k + 1)
    sought-next h e = record {
      low = omega arith;
      high = omega arith;
      rest = (let z : i + n - (k + 1) ≡ i + n - k - 1 = omega arith in ap (λ (m : ℕ). first_of test m (k + 1)) z) ∙ sym (step (i + n - k) k (omega arith) e) ∙ s.rest;
    }

    -- all are passed
    pub sought-none : i + n ≤ k → k ≡ first_of test n i
    sought-none h = sym (none (i + n - k) k (omega arith)) ∙ s.rest

-- two tests that agree on the positions
pub first-same : (test other : ℕ → Bool) (n i : ℕ) → ((k : ℕ) → i ≤ k → k < i + n → test k ≡ other k) → first_of test n i ≡ first_of other n i
unfolding first_of
first-same test other zero i h = refl
first-same test other (suc n) i h =
    ap₂ (λ (t : Bool) (r : ℕ). elim t [ true ↦ i | false ↦ r ]) (h i (omega arith) (omega arith)) (first-same test other n (suc i) (λ k a b. h k (omega arith) (omega arith)))

-- what a function told of a thing is what the test says of another that equals it
pub told-not : {A : Type 0} (test : A → Bool) {a b : A} {t u : Bool} → t ≡ test a → a ≡ b → not t ≡ u → not (test b) ≡ u
told-not {A} test told is e = ap (λ (x : A). not (test x)) (sym is) ∙ ap not (sym told) ∙ e
