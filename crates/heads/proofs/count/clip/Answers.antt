-- `heads::count::clip` meets its contract. Assumes nothing.
use mathlib.Core.Path.{sym}
use borrow.Author.Tests.{lt-ltb, le-ltb}
use Rattle.heads.specs.Steps.{within}
use Rattle.heads.proofs.count.clip.Goals as goal

pub returns-then-x-low : goal.returns-then-x-low
unfolding within
returns-then-x-low c = sym (rw (lt-ltb _ _ c.if-x-low.true))

pub returns-then-high-x : goal.returns-then-high-x
unfolding within
returns-then-high-x c = sym (rw (le-ltb _ _ c.if-x-low.false, lt-ltb _ _ c.if-high-x.true))

pub returns : goal.returns
unfolding within
returns c = sym (rw (le-ltb _ _ c.if-x-low.false, le-ltb _ _ c.if-high-x.false))
