-- `ledger_file::sums::add_up` meets its contract. Assumes nothing.
use Rattle.ledger_file.proofs.Adding.{adds-as}
use mir.Val.{to_z, of_z}
use mir.Facts.{to_z-of_z}
use mathlib.Core.Path.{◌≡◌}
use mir.Syntax.{w32}
use Rattle.ledger_file.proofs.Adding.{going_start, going-ends, going-stops, going_on}
use lib.ListN.{length}
use native.Mathlib.Omega.{arith}
use Prim.Native.Nat.{ℕ, ◌+◌, ◌-◌, ◌≤◌, ◌<◌}
use Rattle.ledger_file.proofs.sums.add_up.Goals as goal

differ : (a b : ℕ) → a ≤ b → (a ≡ b → ⊥) → a < b
differ a b l n = omega arith

below : (length at end : ℕ) → at ≤ end → end ≤ length → (end ≡ length → ⊥) → length - (end + 1) < length - at
below length at end l h n = omega arith

pub loop-t-init : goal.loop-t-init
loop-t-init c = going_start c.args.text.now c.args.starts.now (to_z w32 (of_z w32 c.args.quota))

pub line_end-end-requires : goal.line_end-end-requires
line_end-end-requires c = c.loop-t.invariant.inside

pub end_of-requires : goal.end_of-requires
end_of-requires c = c.line_end-end.ensures.behind

pub shape_of-starts-then-end-text : goal.shape_of-starts-then-end-text
shape_of-starts-then-end-text c = c.loop-t.invariant.long

pub returns-then-end-text : goal.returns-then-end-text
returns-then-end-text c = adds-as (to_z-of_z c.ranges.quota) (going-ends (to_z w32 (of_z w32 c.args.quota)) c.loop-t.invariant _ c.line_end-end.ensures c.if-end-text.true c.end_of.ensures)

pub line_taken-step-requires : goal.line_taken-step-requires
line_taken-step-requires c = (c.line_end-end.ensures, differ _ _ c.line_end-end.ensures.inside c.if-end-text.false, c.loop-t.invariant.stands)

pub shape_of-starts-in-Err : goal.shape_of-starts-in-Err
shape_of-starts-in-Err c = omega (arith, c.starts-1.given, c.loop-t.invariant.long)

pub returns-in-Err : goal.returns-in-Err
returns-in-Err c =
    let s = rw c.in-Err.is at c.line_taken-step.ensures in
    adds-as (to_z-of_z c.ranges.quota) (going-stops (to_z w32 (of_z w32 c.args.quota)) c.loop-t.invariant _ c.line_end-end.ensures c.if-end-text.false _ _ _ s c.answer.ensures)

pub overflow_add-at : goal.overflow_add-at
overflow_add-at c = record { fits = omega (arith, c.line_end-end.ensures.inside) }

pub loop-t-smaller : goal.loop-t-smaller
loop-t-smaller c = below _ _ _ c.line_end-end.ensures.behind c.line_end-end.ensures.inside c.if-end-text.false

pub loop-t-preserved : goal.loop-t-preserved
loop-t-preserved c =
    let s = rw c.in-Ok.is at c.line_taken-step.ensures in
    going_on (to_z w32 (of_z w32 c.args.quota)) c.loop-t.invariant _ c.line_end-end.ensures c.if-end-text.false _ _ s c.starts-1.given
