-- Each count by its law: it fits, it is refused, or it is cut.
use native.Mathlib.Omega.{arith}
use Rattle.context.proofs.State.{push-whole, push-refused, push-cut}
use Rattle.context.proofs.line.push_pixels.Goals as goal

pub returns-then-count-left : goal.returns-then-count-left
returns-then-count-left c =
    push-whole c.args.changes.now c.args.line c.requires c.args.count c.args.strict c.if-count-left.true _ _ c.add.ensures

pub returns-then-strict : goal.returns-then-strict
returns-then-strict c =
    push-refused c.args.changes.now c.args.line c.requires c.args.count c.args.strict c.if-count-left.false c.if-strict.true

pub add-requires-2 : goal.add-requires-2
add-requires-2 c =
    let h = c.requires in
    rw c.with_cut.ensures (record { holds = record { narrow = h.narrow; fits = h.fits; held = h.held; coloured = h.coloured; flagged = omega arith }; within = omega arith })

pub returns : goal.returns
returns c =
    push-cut c.args.changes.now c.args.line c.requires c.args.count c.args.strict c.if-count-left.false c.if-strict.false _ _
    (rw c.with_cut.ensures at c.add-2.ensures)
