-- `booking::verdict_on` meets its contract: what is wrong with the form, or the verdict on the page. Assumes nothing.
use Rattle.booking.proofs.Whole.{form-refused, page-found}
use Rattle.booking.proofs.verdict_on.Goals as goal

pub returns-then-formed-ne-COMPLETE : goal.returns-then-formed-ne-COMPLETE
returns-then-formed-ne-COMPLETE c =
    let s = c.args in
    form-refused (record { text = s.text.now; src = s.src.now; how = s.how; settings = s.settings; boxes = s.boxes.now; places = s.places.now; changes = s.changes.now; ends = s.ends.now; marks = s.marks.now })
    _ _ _ c.read_form-formed.ensures c.if-formed-ne-COMPLETE.true _ c.unsound.ensures

pub returns : goal.returns
returns c =
    let s = c.args in
    page-found (record { text = s.text.now; src = s.src.now; how = s.how; settings = s.settings; boxes = s.boxes.now; places = s.places.now; changes = s.changes.now; ends = s.ends.now; marks = s.marks.now })
    _ _ _ c.read_form-formed.ensures c.if-formed-ne-COMPLETE.false _ c.read_as-read.ensures _ _ _ _ c.judge.ensures
