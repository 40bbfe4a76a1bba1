-- `ledger_file::onward::is_named` meets its contract. Assumes nothing.
use Rattle.ledger_file.proofs.Naming.{naming-not, naming-first, naming-differ, naming-next, naming-end}
use native.Mathlib.Omega.{arith}
use Rattle.ledger_file.proofs.onward.is_named.Goals as goal

pub field_end-requires : goal.field_end-requires
field_end-requires c = omega arith

pub returns-then-field_end-name : goal.returns-then-field_end-name
returns-then-field_end-name c = naming-not c.args.line.now c.args.name.now c.field_end.ensures c.if-field_end-name.true

pub loop-i-init : goal.loop-i-init
loop-i-init c = naming-first c.args.line.now c.args.name.now c.field_end.ensures c.if-field_end-name.false

pub bounds-line-i : goal.bounds-line-i
bounds-line-i c = omega (arith, c.loop-i.invariant.long)

pub returns-then-line-i : goal.returns-then-line-i
returns-then-line-i c = naming-differ c.args.line.now c.args.name.now c.loop-i.invariant c.loop-i-test.true c.shown_byte.ensures c.if-line-i.true

pub loop-i-preserved : goal.loop-i-preserved
loop-i-preserved c = naming-next c.args.line.now c.args.name.now c.loop-i.invariant c.loop-i-test.true c.shown_byte.ensures c.if-line-i.false

pub returns : goal.returns
returns c = naming-end c.args.line.now c.args.name.now c.loop-i.invariant c.loop-i-test.false
