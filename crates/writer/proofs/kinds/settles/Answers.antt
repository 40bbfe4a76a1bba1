-- `writer::kinds::settles` meets its contract. Assumes nothing.
use Rattle.writer.proofs.KindsLaws.{tag-alone}
use Rattle.writer.proofs.kinds.settles.Goals as goal

pub returns-else-tag : goal.returns-else-tag
returns-else-tag c = tag-alone c.args.tag _ c.if-tag.false
