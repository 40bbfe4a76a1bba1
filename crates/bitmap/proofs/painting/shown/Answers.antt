-- `bitmap::painting::shown` meets its contract. Assumes nothing.
use Rattle.bitmap.proofs.painting.shown.Goals as goal

pub returns : goal.returns
returns c = rw c.if-one.false
