use Rattle.one_line.proofs.one_code.unless_unmoved.Goals as goal

pub returns-then-blank : goal.returns-then-blank
returns-then-blank c = rw c.if-blank.true c.unless_idle.ensures

pub returns : goal.returns
returns c = rw c.if-blank.false c.unless_idle-2.ensures
