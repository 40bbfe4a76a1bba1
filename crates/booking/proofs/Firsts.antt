-- The first of several positions that passes a test, and how many pass: as a loop goes over them, and what the answer tells. Assumes nothing.
use mathlib.Core.Path.{◌≡◌, refl, sym, ◌∙◌}
use mathlib.Core.Bool.{Bool, true, false}
use Prim.Native.Nat.{ℕ, zero, suc, ◌+◌, ◌-◌, ◌≤◌, ◌<◌, max}
use native.Mathlib.Omega.{arith}
use lib.Dec.{ltb}
use borrow.Author.Tests.{ltb-true, ltb-false}
use Rattle.form_file.specs.First.{first_of, count_of}
use Rattle.form_file.proofs.Firsts.{first-high, first_passes, first-before}

module _ (test : ℕ → Bool) where
  -- ---- A loop from i to its last position

  pub first-start : (n : ℕ) → first_of test (n - 0) 0 ≡ first_of test n 0
  first-start n = let e : n - 0 ≡ n = omega arith in rw e

  module _ (i last : ℕ) where
    pub first_past : last ≤ i → i ≡ first_of test (last - i) i
    unfolding first_of
    first_past h = let e : last - i ≡ 0 = omega arith in rw e

    -- behind a loop that ran from one position on, or not at all
    pub first_over : (from : ℕ) {k : ℕ} → k ≡ max last from → last ≤ i → (from ≤ last → i ≤ last) → first_of test (last - i) i ≡ first_of test (last - from) from
        → k ≡ first_of test (last - from) from
    unfolding first_of
    first_over from {k} m h g e = by (ltb last from) (ltb-true last from) (ltb-false last from)
      where
        by : (t : Bool) → (t ≡ true → last < from) → (t ≡ false → from ≤ last) → k ≡ first_of test (last - from) from
        by true p q =
            let n : last - from ≡ 0 = omega (arith, p refl) in
            let s : k ≡ from = omega (arith, p refl, m) in
            rw n s
        by false p q =
            let s : k ≡ i = omega (arith, q refl, g (q refl), m, h) in
            s ∙ first_past h ∙ e

    module _ (h : i < last) where
      one_more : last - i ≡ suc (last - (i + 1))
      one_more = omega arith

      pub first-here : test i ≡ true → i ≡ first_of test (last - i) i
      unfolding first_of
      first-here e = sym (rw (one_more, first_of, e))

      pub first_next : test i ≡ false → first_of test (last - (i + 1)) (i + 1) ≡ first_of test (last - i) i
      unfolding first_of
      first_next e = let g : i + 1 ≡ suc i = omega arith in sym (rw (one_more, first_of, e, g))

  -- ---- What the answer tells (more of it: form_file/proofs/Firsts.antt)

  -- it is not the one behind them, so it is among them
  pub first-within : (n : ℕ) {k : ℕ} → k ≡ first_of test n 0 → (k ≡ n → ⊥) → k < n
  first-within n e h = omega (arith, first-high test n 0)

  -- none passes, so it is the one behind them
  pub first-behind : (n i : ℕ) → ((x : ℕ) → i ≤ x → x < i + n → test x ≡ false) → first_of test n i ≡ i + n
  unfolding first_of
  first-behind zero i f = omega arith
  first-behind (suc n) i f = rw (first_of, f i (omega arith) (omega arith)) (first-behind n (suc i) (λ x h k. f x (omega arith) (omega arith)) ∙ (omega arith))

  -- one passes, so the first is not behind it
  pub first_some : (n i x : ℕ) → i ≤ x → x < i + n → test x ≡ true → first_of test n i ≤ x
  unfolding first_of
  first_some zero i x h k e = absurd (omega arith)
  first_some (suc n) i x h k e = by (test i) refl (ltb i x) (ltb-true i x) (ltb-false i x) (λ p. first_some n (suc i) x p (omega arith) e)
    where
      by : (t : Bool) → test i ≡ t → (u : Bool) → (u ≡ true → i < x) → (u ≡ false → x ≤ i) → (i < x → first_of test n (suc i) ≤ x) → elim t [ true ↦ i | false ↦ first_of test n (suc i) ] ≤ x
      by true p u f g r = h
      by false p true f g r = r (f refl)
      by false p false f g r =
          let q : x ≡ i = omega (arith, g refl) in
          absurd (let z : ◌≡◌ {A = ℕ} 0 1 = cc in omega arith)

  -- it is the one behind them, so none passes
  pub first-none : (n i : ℕ) → i + n ≤ first_of test n i → (x : ℕ) → i ≤ x → x < i + n → test x ≡ false
  first-none n i e x h k = by (test x) refl
    where
      by : (t : Bool) → test x ≡ t → test x ≡ false
      by true p = absurd (let q = first_some n i x h k p in omega arith)
      by false p = p

  -- from the first on: where none is told none passes, and one that is told does
  pub none_passes : (n : ℕ) → first_of test n 0 ≡ n → (k : ℕ) → k < n → test k ≡ false
  none_passes n e k h = first-before test n 0 k (omega arith) (omega arith)

  pub one_passes : (n : ℕ) → (first_of test n 0 ≡ n → ⊥) → test (first_of test n 0) ≡ true
  one_passes n z = first_passes test n 0 (omega (arith, first-high test n 0, z))

  -- ---- How many pass: those that are counted, and those that are left

  module _ (i last n : ℕ) {total : ℕ} (so : n + count_of test (last - i) i ≡ total) where
    pub count_past : last ≤ i → n ≡ total
    unfolding count_of
    count_past h =
        let e : last - i ≡ 0 = omega arith in
        let z : count_of test (last - i) i ≡ 0 = rw e in
        omega arith

    module _ (h : i < last) {next : ℕ} where
      pub count-here : test i ≡ true → next ≡ n + 1 → next + count_of test (last - (i + 1)) (i + 1) ≡ total
      unfolding count_of
      count-here e f =
          let g : i + 1 ≡ suc i = omega arith in
          let z : count_of test (last - i) i ≡ suc (count_of test (last - (i + 1)) (i + 1)) = rw (one_more i last h, count_of, e, g) in
          omega arith

      pub count_next : test i ≡ false → next ≡ n → next + count_of test (last - (i + 1)) (i + 1) ≡ total
      unfolding count_of
      count_next e f =
          let g : i + 1 ≡ suc i = omega arith in
          let z : count_of test (last - i) i ≡ count_of test (last - (i + 1)) (i + 1) = rw (one_more i last h, count_of, e, g) in
          omega arith
