-- By the push that was told, and the flag.
use Rattle.one_line.proofs.line_2d.after_push.Goals as goal

pub turned-requires : goal.turned-requires
turned-requires c = rw c.in-Ok.is at c.requires

pub returns-then-turns : goal.returns-then-turns
returns-then-turns c = rw (c.turned.ensures, c.in-Ok.is, c.if-turns.true)

pub returns-in-Err : goal.returns-in-Err
returns-in-Err c = rw (c.place_of.ensures, c.in-Err.is)

pub returns-else-turns : goal.returns-else-turns
returns-else-turns c = rw (c.in-Ok.is, c.if-turns.false)
