use mathlib.Core.Path.{ap}
use Rattle.by_unit.specs.declared.stand.Out.TheVariants.{Done}
use Rattle.by_unit.proofs.Slices.{idle-ends, first-stopped, first_on, by-second}
use Rattle.by_unit.proofs.unit.after_run.Goals as goal

pub after_code-requires : goal.after_code-requires
after_code-requires c =
    let a = c.args in
    rw c.unless_unmoved-tested.ensures (idle-ends a.src.now a.kept a.step a.line _ _ c.requires)

pub returns-in-Err : goal.returns-in-Err
returns-in-Err c =
    let a = c.args in
    first-stopped a.src.now a.settings a.ends.now a.marks.now a.kept a.seen a.half a.line a.step _ c.in-First.is _ c.in-Err.is _ (ap Done c.said.ensures)

pub returns-in-Ok : goal.returns-in-Ok
returns-in-Ok c =
    let a = c.args in
    first_on a.src.now a.settings a.ends.now a.marks.now a.kept a.seen a.half a.line a.step _ c.in-First.is _ _ c.in-Ok.is

pub returns-in-Second : goal.returns-in-Second
returns-in-Second c =
    let a = c.args in
    by-second a.src.now a.settings a.ends.now a.marks.now a.kept a.seen a.half a.line a.step _ _ c.in-Second.is _ c.unless_unmoved-tested.ensures _ _ _ c.after_code.ensures
