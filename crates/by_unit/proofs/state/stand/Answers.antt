use mathlib.Core.Path.{sym, ap, ◌∙◌}
use Rattle.by_unit.specs.declared.stand.Half.TheVariants.{First, Second}
use Rattle.by_unit.specs.declared.stand.Stand.TheVariants.{InLine, InRun}
use Rattle.by_unit.specs.Reading.{stand_by}
use Rattle.by_unit.proofs.state.stand.Goals as goal

pub returns-in-Eols : goal.returns-in-Eols
returns-in-Eols c = ap (stand_by c.args.columns c.args.saved) (sym c.in-Eols.is)

pub returns-in-Mode : goal.returns-in-Mode
returns-in-Mode c = let s = c.args.saved in ap (λ l. InLine l s.at) c.line.ensures ∙ ap (stand_by c.args.columns s) (sym c.in-Mode.is)

pub returns-in-First : goal.returns-in-First
returns-in-First c = let s = c.args.saved in ap (λ l. InRun (First s.mode_at) l s.run_at s.run s.at) c.line-in-First.ensures ∙ ap (stand_by c.args.columns s) (sym c.in-First.is)

pub returns-in-Second : goal.returns-in-Second
returns-in-Second c = let s = c.args.saved in ap (λ l. InRun (Second s.mode_at s.blank) l s.run_at s.run s.at) c.line-in-Second.ensures ∙ ap (stand_by c.args.columns s) (sym c.in-Second.is)
