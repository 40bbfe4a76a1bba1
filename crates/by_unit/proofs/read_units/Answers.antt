-- `read_units` meets its contract: no units, a page that has ended, and one that goes on. Assumes nothing.
use Rattle.by_unit.proofs.Turning.{turn-none, turn-again, turn-opened}
use Rattle.by_unit.proofs.read_units.Goals as goal

pub returns-then-n-eq0 : goal.returns-then-n-eq0
returns-then-n-eq0 c =
    let a = c.args in
    turn-none a.src.now a.settings a.changes.now a.ends.now a.marks.now a.n a.reading c.if-n-eq0.true _ c.refusal.ensures _ c.still.ensures

pub returns-in-Ended : goal.returns-in-Ended
returns-in-Ended c =
    let a = c.args in
    turn-again a.src.now a.settings a.changes.now a.ends.now a.marks.now a.n c.if-n-eq0.false a.reading _ _ c.in-Ended.is _ c.answer_of.ensures _ c.still-in-Ended.ensures

pub returns-in-Open : goal.returns-in-Open
returns-in-Open c =
    let a = c.args in
    turn-opened a.src.now a.settings a.changes.now a.ends.now a.marks.now a.n c.if-n-eq0.false a.reading _ c.in-Open.is _ _ _ _ c.turn_on.ensures
