-- `group3::is_white_2d` meets its contract. Assumes nothing.
use mathlib.Core.Path.{sym, ap, ◌∙◌}
use Prim.Native.Nat.{ℕ}
use native.Mathlib.Omega.{arith}
use lib.Dec.{eqb}
use borrow.Author.Tests.{not-true, not-false}
use Rattle.group3.proofs.Swiftly.{two-behind}
use Rattle.group3.proofs.is_white_2d.Goals as goal

pub returns-then-not-is_tagged : goal.returns-then-not-is_tagged
returns-then-not-is_tagged c = rw (sym c.is_tagged.ensures ∙ not-true _ c.if-not-is_tagged.true-raw)

pub returns-then-not-is_under_white : goal.returns-then-not-is_under_white
returns-then-not-is_under_white c =
    rw (sym c.is_tagged.ensures ∙ not-false _ c.if-not-is_tagged.false-raw, sym c.is_under_white.ensures ∙ not-true _ c.if-not-is_under_white.true-raw)

pub returns : goal.returns
returns c =
    rw (sym c.is_tagged.ensures ∙ not-false _ c.if-not-is_tagged.false-raw, sym c.is_under_white.ensures ∙ not-false _ c.if-not-is_under_white.false-raw)
    (ap (λ (n : ℕ). eqb n 1) (two-behind c.ahead.ensures (omega arith)))
