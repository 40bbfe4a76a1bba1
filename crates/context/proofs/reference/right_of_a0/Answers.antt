-- Each way is a clause of the rule.
use Rattle.context.proofs.Search.{right_zero, right-more}
use Rattle.context.proofs.reference.right_of_a0.Goals as goal

pub returns-then-position-eq0 : goal.returns-then-position-eq0
returns-then-position-eq0 c = right_zero c.args.position c.if-position-eq0.true

pub returns : goal.returns
returns c = right-more c.args.position c.if-position-eq0.false
