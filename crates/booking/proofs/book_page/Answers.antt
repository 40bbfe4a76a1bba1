-- `booking::book_page` meets its contract: the verdict, entered into the books. Assumes nothing.
use Rattle.booking.proofs.Whole.{page-booked}
use Rattle.booking.proofs.book_page.Goals as goal

pub returns : goal.returns
returns c =
    let s = c.args in
    page-booked (record { text = s.text.now; src = s.src.now; how = s.how; settings = s.settings; boxes = s.boxes.now; places = s.places.now; changes = s.changes.now; ends = s.ends.now; marks = s.marks.now })
    _ _ _ _ _ _ c.verdict_on-verdict.ensures s.name.now s.ledger s.out.now _ _ c.enter-entered.ensures
