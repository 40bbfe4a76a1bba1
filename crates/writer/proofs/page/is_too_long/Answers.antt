-- `writer::page::is_too_long` meets its contract: no page has more bits than its bound, and the count is the page's. Assumes nothing.
use Rattle.writer.proofs.Bounds.{page-few, surely, counted}
use Rattle.writer.proofs.page.is_too_long.Goals as goal

pub returns-then-surely_fits : goal.returns-then-surely_fits
returns-then-surely_fits c = surely (page-few _ _ _ c.requires.1.good) (c.surely_fits.ensures c.if-surely_fits.true)

pub returns : goal.returns
returns c = counted c.put_page-end.ensures
