-- One computed test of all numbers below a bound, and what it tells of each.
use mathlib.Core.Path.{◌≡◌, refl}
use mathlib.Core.Bool.{Bool, true, false, ◌&&◌}
use Prim.Native.Nat.{ℕ, zero, suc, ◌≤◌, ◌<◌}
use native.Mathlib.Omega.{arith}
use lib.Dec.{ltb}
use borrow.Author.Tests.{ltb-true, ltb-false}
use Rattle.rules.proofs.Bits.{both_true}

unfoldable pub every : (ℕ → Bool) → ℕ → Bool
every test zero = true
every test (suc n) = test n && every test n

pub every-at : (test : ℕ → Bool) (n : ℕ) → every test n ≡ true → (x : ℕ) → x < n → test x ≡ true
unfolding every
every-at test zero e x h = absurd (omega arith)
every-at test (suc n) e x h =
    by (ltb x n) (ltb-true x n) (ltb-false x n) (every-at test n (both_true (test n) (every test n) e).1 x)
  where
    by : (t : Bool) → (t ≡ true → x < n) → (t ≡ false → n ≤ x) → (x < n → test x ≡ true) → test x ≡ true
    by true f g r = r (f refl)
    by false f g r = let q : x ≡ n = omega (arith, g refl) in rw q (both_true (test n) (every test n) e).0
