use mathlib.Core.Path.{subst}
use Rattle.by_unit.specs.Standing.{Settling}
use Rattle.by_unit.proofs.Parts.{settled-between, settled-row, settled-line, settled-run}
use Rattle.by_unit.proofs.stand.settle.Goals as goal

pub between-requires : goal.between-requires
between-requires c =
    let p = subst (Settling c.args.src.now c.args.kept) c.in-Between.is c.requires in
    record { size = p.0; inside = p.1 }

pub close_row-requires : goal.close_row-requires
close_row-requires c = subst (Settling c.args.src.now c.args.kept) c.in-InLine.is c.requires

pub returns-then-line-settings : goal.returns-then-line-settings
returns-then-line-settings c =
    let a = c.args in
    settled-row a.src.now a.settings a.ends.now a.marks.now a.kept a.stand a.seen _ _ c.in-InLine.is c.if-line-settings.true _ _ _ c.close_row.ensures

pub returns-in-Between : goal.returns-in-Between
returns-in-Between c =
    let a = c.args in
    settled-between a.src.now a.settings a.ends.now a.marks.now a.kept a.stand a.seen _ c.in-Between.is _ c.between.ensures

pub returns-else-line-settings : goal.returns-else-line-settings
returns-else-line-settings c =
    let a = c.args in
    settled-line a.src.now a.settings a.ends.now a.marks.now a.kept a.stand a.seen _ _ c.in-InLine.is c.if-line-settings.false

pub returns-in-InRun : goal.returns-in-InRun
returns-in-InRun c =
    let a = c.args in
    settled-run a.src.now a.settings a.ends.now a.marks.now a.kept a.stand a.seen _ _ _ _ _ c.in-InRun.is
