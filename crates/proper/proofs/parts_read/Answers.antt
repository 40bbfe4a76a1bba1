-- `proper::parts_read` meets its contract: the front of the ends, and of the data. Assumes nothing.
use mathlib.Core.Path.{sym}
use lib.Seq.{length-take-le}
use Rattle.proper.proofs.parts_read.Goals as goal

pub slice_bounds-parts-end : goal.slice_bounds-parts-end
slice_bounds-parts-end c = sym (length-take-le c.args.rows c.args.ends.now c.requires.0)

pub slice_bounds-parts-end-2 : goal.slice_bounds-parts-end-2
slice_bounds-parts-end-2 c = sym (length-take-le c.args.bytes c.args.src.now c.requires.1)
