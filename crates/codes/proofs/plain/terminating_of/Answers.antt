-- `codes::plain::terminating_of` meets its contract. Assumes nothing.
use mathlib.Core.Path.{sym, ap, ◌∙◌}
use Rattle.rules.specs.Codes.{white, black, terminating_of}
use Rattle.tables.specs.Tables.{rows}
use Rattle.tables.proofs.Colours.{picked}
use Rattle.codes.proofs.plain.terminating_of.Goals as goal

pub returns-then-colour-eq0 : goal.returns-then-colour-eq0
unfolding terminating_of
returns-then-colour-eq0 c = c.white_terminating.ensures ∙ ap (λ k. rows (terminating_of k)) (sym (picked white c.args.colour c.if-colour-eq0.true))

pub returns-else-colour-eq0 : goal.returns-else-colour-eq0
unfolding terminating_of
returns-else-colour-eq0 c = c.black_terminating.ensures ∙ ap (λ k. rows (terminating_of k)) (sym (picked black c.args.colour c.if-colour-eq0.false))
