use mathlib.Core.Path.{sym, ap, ◌∙◌}
use Rattle.by_unit.specs.Reading.{saved_for}
use Rattle.by_unit.proofs.Tests.{saved-first, saved-second}
use Rattle.by_unit.proofs.state.saved.Goals as goal

pub returns-in-Between : goal.returns-in-Between
returns-in-Between c = c.saved_between.ensures ∙ ap (saved_for c.args.kept) (sym c.in-Between.is)

pub returns-in-InLine : goal.returns-in-InLine
returns-in-InLine c = c.saved_line.ensures ∙ ap (saved_for c.args.kept) (sym c.in-InLine.is)

pub returns-in-First : goal.returns-in-First
returns-in-First c = c.saved_line-in-First.ensures ∙ saved-first c.args.kept c.args.stand _ _ _ _ _ c.in-InRun.is _ c.in-First.is

pub returns-in-Second : goal.returns-in-Second
returns-in-Second c = c.saved_line-in-Second.ensures ∙ saved-second c.args.kept c.args.stand _ _ _ _ _ c.in-InRun.is _ _ c.in-Second.is
