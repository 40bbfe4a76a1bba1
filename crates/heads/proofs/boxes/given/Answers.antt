-- Each test by a law of the definition. Assumes nothing.
use mathlib.Core.Path.{◌≡◌, sym, ◌∙◌}
use mathlib.Core.Bool.{false}
use native.Mathlib.Omega.{arith}
use Rattle.std.proofs.Common.{inl, inr}
use Rattle.heads.specs.Form.{given}
use Rattle.heads.proofs.Quota.{held, given-boxes, given-least, given-rest}
use Rattle.heads.proofs.boxes.given.Goals as goal

pub returns-then-least-gt0 : goal.returns-then-least-gt0
returns-then-least-gt0 c =
    c.is_quota.ensures ∙ rw (held c.ranges.quota) (given-rest _ _ _ (sym c.all_ordered.ensures ∙ c.if-least-gt0.true.0) c.if-least-gt0.true.1)

pub returns-else-least-gt0 : goal.returns-else-least-gt0
returns-else-least-gt0 c =
    let a = c.args in
    let refused : false ≡ given a.form a.least a.quota = elim c.if-least-gt0.either [
      | inl h ↦ given-least a.form a.least a.quota (sym c.all_ordered.ensures ∙ h.0) (omega (arith, h.1))
      | inr h ↦ given-boxes a.form a.least a.quota (sym c.all_ordered.ensures ∙ h)
    ] in
    cc
