use Rattle.by_unit.proofs.SwiftUnits.{one-gives}
use Rattle.by_unit.proofs.Slices.{asks_at, gives_at, some_at, eol-gives}
use Rattle.by_unit.proofs.unit.units.Goals as goal

pub eol_unit-out-requires : goal.eol_unit-out-requires
eol_unit-out-requires c =
    let u = asks_at c.args.src.now c.args.settings c.args.changes.now c.args.ends.now c.args.marks.now c.args.kept c.args.stand c.args.seen _ c.in-Between.is c.requires.0 in
    record { size = u.asked.size; inside = u.stand }

pub line_units-requires : goal.line_units-requires
line_units-requires c = (asks_at c.args.src.now c.args.settings c.args.changes.now c.args.ends.now c.args.marks.now c.args.kept c.args.stand c.args.seen _ c.in-InLine.is c.requires.0, c.requires.1)

pub run_unit-out-requires : goal.run_unit-out-requires
run_unit-out-requires c = asks_at c.args.src.now c.args.settings c.args.changes.now c.args.ends.now c.args.marks.now c.args.kept c.args.stand c.args.seen _ c.in-InRun.is c.requires.0

pub returns-in-Between : goal.returns-in-Between
returns-in-Between c = one-gives c.args.src.now c.args.settings c.args.changes.now c.args.ends.now c.args.marks.now c.args.kept c.args.stand _ _ _ _ (eol-gives c.args.src.now c.args.settings c.args.changes.now c.args.ends.now c.args.marks.now c.args.kept c.args.stand c.args.seen _ c.in-Between.is c.requires.0 _ c.eol_unit-out.ensures) c.args.left c.requires.1

pub returns-in-InLine : goal.returns-in-InLine
returns-in-InLine c = some_at c.args.src.now c.args.settings c.args.changes.now c.args.ends.now c.args.marks.now c.args.kept c.args.stand c.args.seen _ c.in-InLine.is c.args.left _ _ _ _ c.line_units.ensures

pub returns-in-InRun : goal.returns-in-InRun
returns-in-InRun c = one-gives c.args.src.now c.args.settings c.args.changes.now c.args.ends.now c.args.marks.now c.args.kept c.args.stand _ _ _ _ (gives_at c.args.src.now c.args.settings c.args.changes.now c.args.ends.now c.args.marks.now c.args.kept c.args.stand c.args.seen _ c.in-InRun.is _ _ _ _ c.run_unit-out.ensures) c.args.left c.requires.1
