-- `writer::same_row3::same_row` meets its contract. What stands before the line, and then the line. Assumes nothing.
use mathlib.Core.Path.{refl}
use Rattle.writer.specs.Paging3.{layout_of}
use Rattle.writer.proofs.Leaving.{met-inside, passed_on}
use Rattle.writer.proofs.CodesMet3.{ahead-parts, row-met}
use Rattle.writer.proofs.same_row3.same_row.Goals as goal

pub returns-in_err-met : goal.returns-in_err-met
returns-in_err-met c = passed_on _ c.from_residual.ensures.1 (ahead-parts (layout_of c.args.layout) c.args.width c.args.single c.args.above.now c.args.row.now c.requires.2 c.in_err-met.ensures refl)

pub same_kind-requires : goal.same_kind-requires
same_kind-requires c = (c.requires.0, c.requires.1, met-inside c.requires.2 c.in_ok-met.ensures)

pub returns : goal.returns
returns c = row-met (layout_of c.args.layout) c.args.width c.args.single c.args.above.now c.args.row.now c.requires.2 c.in_ok-met.ensures refl c.same_kind.ensures
