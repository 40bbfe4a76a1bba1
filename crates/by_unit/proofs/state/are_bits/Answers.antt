use mathlib.Core.Path.{◌∙◌}
use Rattle.by_unit.proofs.Tests.{over, within}
use Rattle.by_unit.proofs.state.are_bits.Goals as goal

pub returns-then-bits-saved : goal.returns-then-bits-saved
returns-then-bits-saved c = let s = c.args.saved in over s.at c.args.bits _ c.if-bits-saved.true

pub returns-then-bits-saved-2 : goal.returns-then-bits-saved-2
returns-then-bits-saved-2 c = let s = c.args.saved in over s.run_at c.args.bits _ c.if-bits-saved-2.true ∙ within s.at c.args.bits _ c.if-bits-saved.false

pub returns : goal.returns
returns c = let s = c.args.saved in within s.run_at c.args.bits _ c.if-bits-saved-2.false ∙ within s.at c.args.bits _ c.if-bits-saved.false
