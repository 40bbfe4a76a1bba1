-- By the flag that was tested.
use Rattle.one_line.proofs.line_1d.goes_on.Goals as goal

pub returns-then-two : goal.returns-then-two
returns-then-two c = rw c.if-two.true

pub returns : goal.returns
returns c = rw c.if-two.false
