-- `look::sheet::found_at` meets its contract. Assumes nothing.
use Rattle.look.proofs.Stating.{found-there, found-moved}
use mathlib.Core.Path.{sym, ◌∙◌}
use Rattle.look.proofs.sheet.found_at.Goals as goal

pub returns-then-is_there : goal.returns-then-is_there
returns-then-is_there c = let a = c.args in found-there a.leftward a.upward a.across a.down (sym c.is_there.ensures ∙ c.if-is_there.true)

pub returns : goal.returns
returns c = let a = c.args in found-moved a.leftward a.upward a.across a.down (sym c.is_there.ensures ∙ c.if-is_there.false) c.one.ensures.value c.one-2.ensures.value
