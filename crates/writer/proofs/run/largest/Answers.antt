-- `writer::run::largest` meets its contract: the smaller of two numbers is told by their test. Assumes nothing.
use mathlib.Core.Path.{◌≡◌, refl, ◌∙◌}
use mathlib.Core.Bool.{Bool, true, false, cond}
use Prim.Native.Nat.{ℕ, min, ◌/◌}
use native.Mathlib.Omega.{arith}
use lib.Dec.{leb}
use borrow.Author.Tests.{leb-true, leb-false}
use Rattle.rules.specs.Write.{most_makeup}
use Rattle.writer.proofs.run.largest.Goals as goal

smaller : (n : ℕ) → min n most_makeup ≡ cond (leb most_makeup n) most_makeup n
smaller n = tests (leb most_makeup n) refl
  where
    tests : (b : Bool) → leb most_makeup n ≡ b → min n most_makeup ≡ cond b most_makeup n
    tests true e = omega (arith, leb-true most_makeup n e)
    tests false e = omega (arith, leb-false most_makeup n e)

pub returns : goal.returns
returns c = c.min.ensures ∙ smaller (c.args.left / 64)
