use Rattle.by_unit.proofs.SwiftUnits.{swift-asks, none-asks, none-gives, swift-closing, swift-gives}
use native.Mathlib.Omega.{arith}
use Rattle.by_unit.proofs.unit.line_units.Goals as goal

pub swiftly-u-requires : goal.swiftly-u-requires
swiftly-u-requires c = swift-asks c.args.src.now c.args.settings c.args.changes.now c.args.ends.now c.args.marks.now c.args.kept c.args.line c.args.at c.args.seen c.requires.0

pub mode_unit-out-requires : goal.mode_unit-out-requires
mode_unit-out-requires c = none-asks c.args.src.now c.args.settings c.args.changes.now c.args.ends.now c.args.marks.now c.args.kept c.args.line c.args.at c.args.seen c.requires.0 c.swiftly-u.ensures c.if-u-left.true

pub returns-then-u-left : goal.returns-then-u-left
returns-then-u-left c = none-gives c.args.src.now c.args.settings c.args.changes.now c.args.ends.now c.args.marks.now c.args.kept c.args.line c.args.at c.args.seen c.requires.0 c.swiftly-u.ensures c.if-u-left.true _ _ _ _ c.mode_unit-out.ensures c.requires.1

pub settle-out-requires : goal.settle-out-requires
settle-out-requires c = swift-closing c.args.src.now c.args.settings c.args.changes.now c.args.ends.now c.args.marks.now c.args.kept c.args.line c.args.at c.args.seen c.requires.0 c.swiftly-u.ensures (omega arith)

pub overflow_sub-result : goal.overflow_sub-result
overflow_sub-result c = omega (arith, c.swiftly-u.ensures.spent.1)

pub returns : goal.returns
returns c = swift-gives c.args.src.now c.args.settings c.args.changes.now c.args.ends.now c.args.marks.now c.args.kept c.args.line c.args.at c.args.seen c.requires.0 c.swiftly-u.ensures c.if-u-left.false _ _ _ c.settle-out.ensures
