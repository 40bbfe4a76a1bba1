-- The two runs, and then the test.
use Rattle.context.proofs.Idle.{runs-tested}
use Rattle.one_line.proofs.line_2d.horizontal.Goals as goal

pub returns : goal.returns
returns c =
    let a = c.args in
    rw c.unless_idle.ensures (runs-tested a.src.now a.changes.now a.line a.at a.next a.rules _ _ c.requires.holds c.runs-step.ensures)
