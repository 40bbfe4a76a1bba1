-- `writer::kinds::open_turn` meets its contract. Assumes nothing.
use mathlib.Core.Path.{sym, ◌∙◌}
use Rattle.writer.proofs.KindsLaws.{open-first, open-settles, open-goes}
use Rattle.writer.proofs.kinds.open_turn.Goals as goal

pub returns-then-lines-eq0 : goal.returns-then-lines-eq0
returns-then-lines-eq0 c = open-first c.args.tag c.args.lines c.if-lines-eq0.true

pub returns-then-settles : goal.returns-then-settles
returns-then-settles c = open-settles c.args.tag c.args.lines c.if-lines-eq0.false (sym c.settles.ensures ∙ c.if-settles.true)

pub returns : goal.returns
returns c = open-goes c.args.tag c.args.lines c.if-lines-eq0.false (sym c.settles.ensures ∙ c.if-settles.false)
