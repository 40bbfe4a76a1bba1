-- `writer::kinds::known_turn` meets its contract. Assumes nothing.
use Rattle.writer.proofs.KindsLaws.{known-anew, known-less}
use Rattle.writer.proofs.kinds.known_turn.Goals as goal

pub returns-then-left-eq0 : goal.returns-then-left-eq0
returns-then-left-eq0 c = known-anew c.args.every c.args.left c.if-left-eq0.true

pub returns : goal.returns
returns c = known-less c.args.every c.args.left c.if-left-eq0.false
