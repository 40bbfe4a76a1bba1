use mathlib.Core.Path.{ap, ◌∙◌}
use Prim.Native.Nat.{ℕ, ◌+◌, ◌-◌, ◌<◌, ◌≤◌}
use native.Mathlib.Omega.{arith}
use Rattle.ledger.specs.Books.{size}
use Rattle.ledger.proofs.Signs.{few, sign-is, size_is, size-yes, size-over, size-left}
use Rattle.ledger.proofs.quota.left_size.Goals as goal

pub overflow_add-result : goal.overflow_add-result
overflow_add-result c = record { fits = omega (arith, few c.args.quota c.ranges.quota, size_is c.ranges.quota c.magnitude-before.ensures) }

pub returns-then-is_negative : goal.returns-then-is_negative
returns-then-is_negative c = rw c.from-off.ensures (ap (λ (m : ℕ). m + c.args.heads) (size_is c.ranges.quota c.magnitude-before.ensures) ∙ size-yes c.args.quota c.args.heads (sign-is c.ranges.quota c.is_negative.ensures c.if-is_negative.true))

pub returns-then-before-off : goal.returns-then-before-off
returns-then-before-off c = let e = size_is c.ranges.quota c.magnitude-before.ensures in let l : size c.args.quota < c.args.heads = omega arith in rw c.from-off.ensures (ap (λ (m : ℕ). c.args.heads - m) e ∙ size-over c.args.quota c.args.heads (sign-is c.ranges.quota c.is_negative.ensures c.if-is_negative.false) l)

pub returns : goal.returns
returns c = let e = size_is c.ranges.quota c.magnitude-before.ensures in let l : c.args.heads ≤ size c.args.quota = omega arith in rw c.from-off.ensures (ap (λ (m : ℕ). m - c.args.heads) e ∙ size-left c.args.quota c.args.heads (sign-is c.ranges.quota c.is_negative.ensures c.if-is_negative.false) l)
