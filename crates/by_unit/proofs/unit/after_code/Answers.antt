use mathlib.Core.Path.{subst, ap}
use Rattle.by_unit.specs.declared.stand.Out.TheVariants.{Done}
use Rattle.by_unit.specs.OneUnit.{CodeEnds}
use Rattle.by_unit.proofs.Slices.{code-stopped, code-on}
use Rattle.by_unit.proofs.unit.after_code.Goals as goal

pub settle-requires : goal.settle-requires
settle-requires c = subst (CodeEnds c.args.src.now c.args.kept) c.in-Ok.is c.requires

pub returns-in-Err : goal.returns-in-Err
returns-in-Err c =
    let a = c.args in
    code-stopped a.src.now a.settings a.ends.now a.marks.now a.kept a.seen a.step _ c.in-Err.is _ (ap Done c.said.ensures)

pub returns-in-Ok : goal.returns-in-Ok
returns-in-Ok c =
    let a = c.args in
    code-on a.src.now a.settings a.ends.now a.marks.now a.kept a.seen a.step _ _ c.in-Ok.is _ _ _ c.settle.ensures
