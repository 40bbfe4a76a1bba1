-- `look::ledger_parts::licence` meets its contract. Assumes nothing.
use mathlib.Core.Path.{ap}
use Rattle.ledger.specs.Balance.{opened}
use Rattle.ledger.specs.Books.{left, is_below, size}
use mir.Facts.{to_z-of_z}
use lib.IntN.{ℤ}
use Rattle.look.proofs.Stating.{licence-none, licence-some}
use mathlib.Core.Path.{sym, ◌∙◌}
use Rattle.look.proofs.ledger_parts.licence.Goals as goal

pub returns-then-is_passed : goal.returns-then-is_passed
returns-then-is_passed c = licence-none c.args.quota (sym (ap (λ (q : ℤ). is_below (left (opened q))) (to_z-of_z c.ranges.quota)) ∙ sym c.is_passed.ensures ∙ c.if-is_passed.true)

pub returns : goal.returns
returns c = licence-some c.args.quota (sym (ap (λ (q : ℤ). is_below (left (opened q))) (to_z-of_z c.ranges.quota)) ∙ sym c.is_passed.ensures ∙ c.if-is_passed.false) (c.size_left.ensures ∙ ap (λ (q : ℤ). size (left (opened q))) (to_z-of_z c.ranges.quota))
