-- `codes::mode::side` meets its contract. Assumes nothing.
use mathlib.Core.Path.{sym, ap, ◌∙◌}
use mathlib.Core.Bool.{Bool, cond}
use borrow.Author.Tests.{eq-eqb, ne_eqb}
use Rattle.rules.specs.Bits.{bit}
use Rattle.codes.proofs.Modes.{back}
use Rattle.codes.proofs.mode.side.Goals as goal

pub returns-then-bits-zeros-eq1 : goal.returns-then-bits-zeros-eq1
unfolding bit
returns-then-bits-zeros-eq1 c =
    let a = c.args in
    back c.ranges.right.sfits ∙ ap (λ (b : Bool). cond b a.right a.left) (sym (eq-eqb _ _ c.if-bits-zeros-eq1.true))

pub returns-else-bits-zeros-eq1 : goal.returns-else-bits-zeros-eq1
unfolding bit
returns-else-bits-zeros-eq1 c =
    let a = c.args in
    back c.ranges.left.sfits ∙ ap (λ (b : Bool). cond b a.right a.left) (sym (ne_eqb _ _ c.if-bits-zeros-eq1.false))
