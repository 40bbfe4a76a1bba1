use mathlib.Core.Path.{ap, ◌∙◌}
use native.Mathlib.Omega.{arith}
use Rattle.std.specs.Prelude.{Ok}
use Rattle.by_unit.proofs.Slices.{row-holds, run-bad, run_more, run-last-ends, run-last}
use Rattle.by_unit.proofs.unit.run_unit.Goals as goal

pub end_run-step-requires : goal.end_run-step-requires
end_run-step-requires c =
    let a = c.args in
    let p = c.requires in
    row-holds a.src.now a.settings a.changes.now a.ends.now a.marks.now a.kept a.line a.at a.seen p.asked p.kept p.stand

pub after_run-requires : goal.after_run-requires
after_run-requires c =
    let a = c.args in
    let p = c.requires in
    run-last-ends a.src.now a.settings a.changes.now a.ends.now a.marks.now a.kept a.line a.at a.seen p.asked p.kept p.stand a.half a.from a.total c.run_code.result c.run_code.ensures _ _ (c.in-Ok-Last.is ∙ ap Ok c.in-Ok-Last.field-0-is) c.end_run-step.result _ (rw c.rules_of-rules.ensures at c.end_run-step.ensures) (omega arith)

pub returns-in-Err : goal.returns-in-Err
returns-in-Err c =
    let a = c.args in
    let p = c.requires in
    rw (c.said.ensures, c.number.ensures)
    (run-bad a.src.now a.settings a.changes.now a.ends.now a.marks.now a.kept a.line a.at a.seen p.asked p.kept p.stand a.half a.from a.total c.run_code.result c.run_code.ensures _ c.in-Err.is)

pub returns-in-Ok-More : goal.returns-in-Ok-More
returns-in-Ok-More c =
    let a = c.args in
    let p = c.requires in
    run_more a.src.now a.settings a.changes.now a.ends.now a.marks.now a.kept a.line a.at a.seen p.asked p.kept p.stand a.half a.from a.total c.run_code.result c.run_code.ensures _ _ (c.in-Ok-More.is ∙ ap Ok c.in-Ok-More.field-0-is)

pub returns-in-Ok-Last : goal.returns-in-Ok-Last
returns-in-Ok-Last c =
    let a = c.args in
    let p = c.requires in
    run-last a.src.now a.settings a.changes.now a.ends.now a.marks.now a.kept a.line a.at a.seen p.asked p.kept p.stand a.half a.from a.total c.run_code.result c.run_code.ensures _ _ (c.in-Ok-Last.is ∙ ap Ok c.in-Ok-Last.field-0-is) c.end_run-step.result _ (rw c.rules_of-rules.ensures at c.end_run-step.ensures) _ _ _ c.after_run.ensures
