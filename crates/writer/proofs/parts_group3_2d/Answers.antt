-- `writer::parts_group3_2d` meets its contract. The K that is found on the way is the definition's. Assumes nothing.
use mathlib.Core.Path.{◌∙◌}
use native.Mathlib.Omega.{arith}
use lib.ListN.{length}
use Rattle.writer.proofs.PartingLaws.{passed3, refused-2d, faced3, said-2d}
use Rattle.writer.proofs.parts_group3_2d.Goals as goal

pub returns-in-Some : goal.returns-in-Some
returns-in-Some c = c.not_asked.ensures ∙ refused-2d c.args.columns c.args.changes.now c.args.ends.now c.args.src.now _ c.in-Some.ensures.0 c.in-Some.ensures.1

pub parts-requires : goal.parts-requires
parts-requires c = faced3 c.args.columns c.args.changes.now c.args.ends.now c.args.src.now (passed3 c.args.columns c.args.changes.now c.args.ends.now (length c.args.src.now) c.in_default.ensures) (omega (arith, c.ranges.columns))

pub returns : goal.returns
returns c = c.parts.ensures ∙ said-2d c.args.columns c.args.changes.now c.args.ends.now c.args.src.now (passed3 c.args.columns c.args.changes.now c.args.ends.now (length c.args.src.now) c.in_default.ensures)
