-- `writer::same_page::parts` meets its contract: the page that is met is the one that is told of. Assumes nothing.
use native.Mathlib.Omega.{arith}
use Rattle.writer.proofs.Leaving.{met-inside}
use Rattle.writer.proofs.same_page.parts.Goals as goal

pub parting-requires : goal.parting-requires
parting-requires c = met-inside (record { size = c.requires.small; inside = omega arith }) c.same_page-met.ensures

pub returns : goal.returns
returns c = c.parting.ensures _ c.same_page-met.ensures
