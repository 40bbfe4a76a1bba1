-- `writer::bound::last_end` meets its contract. Assumes nothing.
use native.Mathlib.Omega.{arith}
use Rattle.writer.proofs.Bounds.{last-is, none_last}
use Rattle.writer.proofs.bound.last_end.Goals as goal

pub returns-then-rows-eq0 : goal.returns-then-rows-eq0
returns-then-rows-eq0 c = none_last _ c.if-rows-eq0.true

pub returns : goal.returns
returns c = last-is _ (omega (arith, c.if-rows-eq0.false))
