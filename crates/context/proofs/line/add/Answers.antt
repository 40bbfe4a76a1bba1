-- Each way out hands its tests to a law of what a count that fits does.
use mathlib.Core.Path.{sym, ◌∙◌}
use Rattle.context.proofs.State.{add_nothing, add_turned, add-full, add_same}
use Rattle.context.proofs.line.add.Goals as goal

pub returns-then-count-eq0 : goal.returns-then-count-eq0
returns-then-count-eq0 c = λ strict at. let a = c.args in add_nothing a.changes.now a.line c.requires.holds a.count strict at c.if-count-eq0.true

pub returns-then-at-changes : goal.returns-then-at-changes
returns-then-at-changes c = λ strict at. let a = c.args in rw c.moved.ensures (add_turned a.changes.now a.line c.requires.holds a.count strict at c.if-count-eq0.false (sym c.is_change.ensures ∙ c.if-is_change.true) c.if-at-changes.true)

pub returns-then-is_change : goal.returns-then-is_change
returns-then-is_change c = λ strict at. let a = c.args in add-full a.changes.now a.line c.requires.holds a.count strict at c.if-count-eq0.false (sym c.is_change.ensures ∙ c.if-is_change.true) c.if-at-changes.false

pub returns : goal.returns
returns c = λ strict at. let a = c.args in rw c.moved-2.ensures (add_same a.changes.now a.line c.requires.holds a.count strict at c.if-count-eq0.false (sym c.is_change.ensures ∙ c.if-is_change.false))
