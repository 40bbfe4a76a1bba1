-- The lowest bottom edge, as a loop goes over the boxes. Assumes nothing.
use mathlib.Core.Path.{◌≡◌, sym}
use Prim.Native.Nat.{ℕ, suc, ◌+◌, ◌-◌, ◌≤◌, ◌<◌}
use native.Mathlib.Omega.{arith}
use borrow.Author.Tests.{lt-ltb, le-ltb}
use Rattle.heads.specs.declared.Box.{Box}
use Rattle.booking.specs.Tests.{lowest}

module _ (at : ℕ → Box) where
  pub lowest_start : (n low : ℕ) → lowest at (n - 0) 0 low ≡ lowest at n 0 low
  lowest_start n low = let e : n - 0 ≡ n = omega arith in rw e

  module _ (k last low : ℕ) where
    pub lowest-past : last ≤ k → low ≡ lowest at (last - k) k low
    unfolding lowest
    lowest-past h = let e : last - k ≡ 0 = omega arith in rw e

    module _ (h : k < last) where
      one_more : last - k ≡ suc (last - (k + 1))
      one_more = omega arith

      pub lowest-lower : {next : ℕ} → low < (at k).bottom → next ≡ (at k).bottom → lowest at (last - (k + 1)) (k + 1) next ≡ lowest at (last - k) k low
      unfolding lowest
      lowest-lower l e = let g : k + 1 ≡ suc k = omega arith in rw e (sym (rw (one_more, lowest, lt-ltb low (at k).bottom l, g)))

      pub lowest-stays : {next : ℕ} → (at k).bottom ≤ low → next ≡ low → lowest at (last - (k + 1)) (k + 1) next ≡ lowest at (last - k) k low
      unfolding lowest
      lowest-stays l e = let g : k + 1 ≡ suc k = omega arith in rw e (sym (rw (one_more, lowest, le-ltb low (at k).bottom l, g)))
