-- `booking::judging::judge` meets its contract: behind the reading the store holds the answer's page. Assumes nothing.
use Rattle.booking.proofs.Stored.{reading-held, page-judged}
use Rattle.booking.proofs.judging.judge.Goals as goal

pub judged-f-requires : goal.judged-f-requires
judged-f-requires c =
    let s = c.args in
    reading-held s.settings s.src.now s.changes.now s.ends.now s.marks.now s.form _ _ _ _ c.read_page-checked.ensures

pub returns : goal.returns
returns c =
    let s = c.args in
    page-judged s.settings s.src.now s.changes.now s.ends.now s.marks.now s.form _ _ _ _ c.read_page-checked.ensures
    s.boxes.now s.places.now _ c.judged-f.ensures _ c.verdict_of.ensures
