use mathlib.Core.Path.{ap}
use Rattle.by_unit.specs.declared.stand.Out.TheVariants.{Done}
use Rattle.by_unit.proofs.Parts.{close-none, no_end, no-mark, close-kept, aligned-inside}
use Rattle.by_unit.proofs.stand.close_row.Goals as goal

pub returns-then-ends-rows : goal.returns-then-ends-rows
returns-then-ends-rows c =
    let a = c.args in
    close-none a.src.now a.settings a.ends.now a.marks.now a.kept a.line a.at (no_end a.src.now a.settings a.ends.now a.marks.now a.kept a.line a.at c.if-ends-rows.true) _ (ap Done c.said.ensures)

pub returns-then-marks-rows : goal.returns-then-marks-rows
returns-then-marks-rows c =
    let a = c.args in
    close-none a.src.now a.settings a.ends.now a.marks.now a.kept a.line a.at (no-mark a.src.now a.settings a.ends.now a.marks.now a.kept a.line a.at c.if-marks-rows.true) _ (ap Done c.said-then-marks-rows.ensures)

pub between-requires : goal.between-requires
between-requires c =
    let a = c.args in
    let p = c.requires in
    aligned-inside a.src.now a.settings a.ends.now a.marks.now a.kept a.line a.at p.size p.inside c.align_if.result c.align_if.ensures

pub returns : goal.returns
returns c =
    let a = c.args in
    close-kept a.src.now a.settings a.ends.now a.marks.now a.kept a.line a.at c.if-ends-rows.false c.if-marks-rows.false c.row_end.result c.align_if.result c.row_end.ensures c.align_if.ensures _ c.between.ensures
