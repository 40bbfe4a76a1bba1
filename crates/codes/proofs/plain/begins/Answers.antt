-- `codes::plain::begins` meets its contract. Assumes nothing.
use mathlib.Core.Path.{sym}
use Rattle.codes.proofs.Verdicts.{too_long, first-bits}
use Rattle.codes.proofs.plain.begins.Goals as goal

pub returns-then-size-taken : goal.returns-then-size-taken
returns-then-size-taken c = sym (too_long _ _ _ _ c.if-size-taken.true)

pub returns : goal.returns
returns c = sym (first-bits _ _ _ _ c.if-size-taken.false c.requires.small_code c.requires.small_word)
