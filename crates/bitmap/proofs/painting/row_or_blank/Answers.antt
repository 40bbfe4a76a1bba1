-- `bitmap::painting::row_or_blank` meets its contract. Assumes nothing.
use Rattle.bitmap.proofs.RowBytes.{no-changes}
use Rattle.bitmap.proofs.painting.row_or_blank.Goals as goal

pub returns-then-changes-eq0 : goal.returns-then-changes-eq0
returns-then-changes-eq0 c =
    no-changes c.args.one c.args.width c.args.changes.now c.if-changes-eq0.true
    c.blank.ensures
