-- `bitmap::painting::last` meets its contract. By the colour in which the row ends, and where. Assumes nothing.
use native.Mathlib.Omega.{arith}
use mathlib.Core.Path.{◌∙◌}
use borrow.Author.Tests.{not-true, not-false}
use Rattle.bitmap.proofs.RowBytes.{word-inside, last-white, last-turns, last-black}
use Rattle.bitmap.proofs.painting.last.Goals as goal

pub returns-then-not-w : goal.returns-then-not-w
returns-then-not-w c =
    last-white c.word-w.ensures c.requires.1 c.requires.2 (not-true _ c.if-not-w.true)

pub returns-then-used-ge64 : goal.returns-then-used-ge64
returns-then-used-ge64 c = word-inside c.word-w.ensures (omega (arith, c.if-used-ge64.true))

pub turned-requires : goal.turned-requires
turned-requires c =
    (c.if-used-ge64.false, last-turns c.word-w.ensures c.requires.1 c.requires.2 (not-false _ c.if-not-w.false) (omega (arith, c.if-used-ge64.false)))

pub returns : goal.returns
returns c =
    c.turned.ensures ∙ last-black c.word-w.ensures c.requires.1 c.requires.2
    (not-false _ c.if-not-w.false) (omega (arith, c.if-used-ge64.false))
