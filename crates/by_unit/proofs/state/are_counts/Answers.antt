use mathlib.Core.Path.{◌∙◌}
use Rattle.by_unit.proofs.Tests.{over, within}
use Rattle.by_unit.proofs.state.are_counts.Goals as goal

pub returns-then-most-saved : goal.returns-then-most-saved
returns-then-most-saved c = let s = c.args.saved in over s.eols c.args.most _ c.if-most-saved.true

pub returns-then-most-saved-2 : goal.returns-then-most-saved-2
returns-then-most-saved-2 c = let s = c.args.saved in over s.rows c.args.most _ c.if-most-saved-2.true ∙ within s.eols c.args.most _ c.if-most-saved.false

pub returns-then-most-saved-3 : goal.returns-then-most-saved-3
returns-then-most-saved-3 c =
    let s = c.args.saved in
    over s.loose c.args.most _ c.if-most-saved-3.true ∙ within s.rows c.args.most _ c.if-most-saved-2.false ∙ within s.eols c.args.most _ c.if-most-saved.false

pub returns : goal.returns
returns c =
    let s = c.args.saved in
    within s.loose c.args.most _ c.if-most-saved-3.false ∙ within s.rows c.args.most _ c.if-most-saved-2.false ∙ within s.eols c.args.most _ c.if-most-saved.false
