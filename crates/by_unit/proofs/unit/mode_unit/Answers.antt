use native.Mathlib.Omega.{arith}
use Rattle.by_unit.proofs.Slices.{mode-seeks, mode-asks, mode-ends, mode-runs, mode-did}
use Rattle.by_unit.proofs.unit.mode_unit.Goals as goal

pub find-found-requires : goal.find-found-requires
find-found-requires c =
    let a = c.args in
    let p = c.requires in
    mode-seeks a.src.now a.settings a.changes.now a.ends.now a.marks.now a.kept a.line a.at a.seen p.asked p.kept p.stand

pub mode_code-requires : goal.mode_code-requires
mode_code-requires c =
    let a = c.args in
    let p = c.requires in
    mode-asks a.src.now a.settings a.changes.now a.ends.now a.marks.now a.kept a.line a.at a.seen p.asked p.kept p.stand p.settled c.find-found.result c.find-found.ensures

pub after_code-requires : goal.after_code-requires
after_code-requires c =
    let a = c.args in
    let p = c.requires in
    mode-ends a.src.now a.settings a.changes.now a.ends.now a.marks.now a.kept a.line a.at a.seen p.asked p.kept p.stand p.settled c.find-found.result c.find-found.ensures c.mode_code.result _ (rw c.rules_of-rules.ensures at c.mode_code.ensures) (omega arith) _ c.in-Did.is

pub returns-in-Runs : goal.returns-in-Runs
returns-in-Runs c =
    let a = c.args in
    let p = c.requires in
    mode-runs a.src.now a.settings a.changes.now a.ends.now a.marks.now a.kept a.line a.at a.seen p.asked p.kept p.stand p.settled c.find-found.result c.find-found.ensures c.mode_code.result _ (rw c.rules_of-rules.ensures at c.mode_code.ensures) _ c.in-Runs.is

pub returns-in-Did : goal.returns-in-Did
returns-in-Did c =
    let a = c.args in
    let p = c.requires in
    mode-did a.src.now a.settings a.changes.now a.ends.now a.marks.now a.kept a.line a.at a.seen p.asked p.kept p.stand p.settled c.find-found.result c.find-found.ensures c.mode_code.result _ (rw c.rules_of-rules.ensures at c.mode_code.ensures) _ c.in-Did.is _ _ _ c.after_code.ensures
