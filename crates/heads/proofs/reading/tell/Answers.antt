-- `heads::reading::tell` meets its contract. Assumes nothing.
use mathlib.Core.Path.{◌≡◌, refl, ap, ◌∙◌}
use Prim.Native.Nat.{ℕ, ◌<◌, ◌+◌, ◌*◌}
use native.Mathlib.Omega.{arith}
use lib.IntN.{ℤ}
use Rattle.heads.specs.Form.{refusal}
use Rattle.heads.specs.Steps.{told_by}
use Rattle.heads.specs.declared.reading.Digit.{Digit}
use Rattle.heads.specs.declared.reading.Digit.TheVariants.{Missing, One, Several}
use Rattle.heads.proofs.Quota.{left-fits, left_is}
use Rattle.heads.proofs.reading.tell.Goals as goal

-- neither of the other two is a digit
other : (tens units : Digit) (quota : ℤ) → ((t : ℕ) → tens ≡ One t → ⊥) → refusal 12 ≡ told_by quota tens units
other Missing units quota k = refl
other (One t) units quota k = absurd (k t refl)
other Several units quota k = refl

other-units : (t : ℕ) (units : Digit) (quota : ℤ) → ((u : ℕ) → units ≡ One u → ⊥) → refusal 12 ≡ told_by quota (One t) units
other-units t Missing quota k = refl
other-units t (One u) quota k = absurd (k u refl)
other-units t Several quota k = refl

pub returns-in_default : goal.returns-in_default
returns-in_default c =
    c.refused.ensures ∙ other c.args.tens c.args.units c.args.quota c.in_default.not-One

pub returns-in_default-units : goal.returns-in_default-units
returns-in_default-units c =
    c.refused-in_default-units.ensures ∙ rw c.in-One.is (other-units c.in-One.t c.args.units c.args.quota c.in_default-units.not-One)

pub overflow_mul-heads : goal.overflow_mul-heads
overflow_mul-heads c =
    let h : c.in-One.t < 10 = rw c.in-One.is at c.requires.0 in
    let k : c.in-One-units.u < 10 = rw c.in-One-units.is at c.requires.1 in
    omega arith

pub overflow_add-heads : goal.overflow_add-heads
overflow_add-heads c =
    let h : c.in-One.t < 10 = rw c.in-One.is at c.requires.0 in
    let k : c.in-One-units.u < 10 = rw c.in-One-units.is at c.requires.1 in
    omega arith

pub overflow_cast-result : goal.overflow_cast-result
overflow_cast-result c =
    let h : c.in-One.t < 10 = rw c.in-One.is at c.requires.0 in
    let k : c.in-One-units.u < 10 = rw c.in-One-units.is at c.requires.1 in
    record { sfits = omega arith }

pub overflow_sub-result : goal.overflow_sub-result
overflow_sub-result c =
    let h : c.in-One.t < 10 = rw c.in-One.is at c.requires.0 in
    let k : c.in-One-units.u < 10 = rw c.in-One-units.is at c.requires.1 in
    left-fits c.args.quota (10 * c.in-One.t + c.in-One-units.u) c.requires.2 (omega arith)

pub returns : goal.returns
returns c =
    let h : c.in-One.t < 10 = rw c.in-One.is at c.requires.0 in
    let k : c.in-One-units.u < 10 = rw c.in-One-units.is at c.requires.1 in
    rw (c.in-One.is, c.in-One-units.is)
    (ap (λ z. record { number = 0; heads = 10 * c.in-One.t + c.in-One-units.u; left = z }) (left_is c.args.quota (10 * c.in-One.t + c.in-One-units.u) c.requires.2 (omega arith)))
