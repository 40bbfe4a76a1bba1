-- An end that 01 allows stays one where it becomes 14 for want of rows. Assumes nothing.
use mathlib.Core.Path.{◌≡◌, refl}
use mathlib.Core.Logic.{inl}
use mathlib.Core.Bool.{true}
use Prim.Native.Nat.{ℕ}
use lib.Dec.{eqb}
use borrow.Author.Tests.{eqb-true}
use Rattle.rules.specs.Rows.{Settings}
use Rattle.rules.specs.Pages.{too_few}
use Rattle.rules.proofs.Bits.{both_true}
use Rattle.settings.specs.Ends.{Allowed}

pub short-allowed : (S : Settings) (n rows place bytes loose : ℕ) → too_few S n rows ≡ true → Allowed n place bytes loose → Allowed 14 0 0 loose
short-allowed S n rows place bytes loose e a = record { no_bytes = λ h. refl; no_place = λ h. refl; no_loose = λ h. a.no_loose (inl was-done) }
  where
    was-done : n ≡ 0
    was-done = eqb-true n 0 (both_true (eqb n 0) _ (both_true S.exact _ e).1).0
