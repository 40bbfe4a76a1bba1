-- `form_file::hear` meets its contract. The invariant is `Going`: the reading of the lines that are left is that of all. Assumes nothing.
use mathlib.Core.Path.{◌≡◌}
use Prim.Native.Nat.{ℕ, ◌+◌, ◌-◌, ◌≤◌, ◌<◌}
use native.Mathlib.Omega.{arith}
use lib.ListN.{length}
use Rattle.form_file.proofs.Hearing.{going_start, said-small, going-stops, going-ends, going_on}
use Rattle.form_file.proofs.hear.Goals as goal

below : (length at end : ℕ) → at ≤ end → end ≤ length → (end ≡ length → ⊥) → length - (end + 1) < length - at
below length at end l h n = omega arith

pub loop-next-init : goal.loop-next-init
loop-next-init c = going_start _ _ _ _ _ _ c.requires c.places_for-room.ensures

pub overflow_add-line : goal.overflow_add-line
overflow_add-line c = omega (arith, c.loop-next.invariant.early, c.loop-next.invariant.inside, c.requires.short)

pub line_end-end-requires : goal.line_end-end-requires
line_end-end-requires c = c.loop-next.invariant.inside

pub slice_bounds-line_says-count : goal.slice_bounds-line_says-count
slice_bounds-line_says-count c = omega (arith, c.line_end-end.ensures.behind)

pub slice_bounds-line_says-start : goal.slice_bounds-line_says-start
slice_bounds-line_says-start c = omega (arith, c.line_end-end.ensures.behind)

pub slice_bounds-line_says-end : goal.slice_bounds-line_says-end
slice_bounds-line_says-end c = omega (arith, c.line_end-end.ensures.inside)

pub heard-went-requires : goal.heard-went-requires
heard-went-requires c = (c.loop-next.invariant.roomy, said-small c.loop-next.invariant _ c.line_end-end.ensures _ c.line_says-said.ensures)

pub shape_of-boxes-in-Err : goal.shape_of-boxes-in-Err
shape_of-boxes-in-Err c =
    omega (arith, c.boxes-1.given, c.loop-next.invariant.roomy.boxes_long, c.requires.boxes_long)

pub shape_of-lines-in-Err : goal.shape_of-lines-in-Err
shape_of-lines-in-Err c =
    omega (arith, c.lines-1.given, c.loop-next.invariant.roomy.lines_long, c.requires.lines_long)

pub shape_of-places-in-Err : goal.shape_of-places-in-Err
shape_of-places-in-Err c =
    omega (arith, c.places-1.given, c.loop-next.invariant.long)

pub returns-in-Err : goal.returns-in-Err
returns-in-Err c =
    let s = rw c.in-Err.is at c.heard-went.ensures in
    rw c.faulty.ensures (going-stops c.loop-next.invariant _ c.line_end-end.ensures _ c.line_says-said.ensures _ _ _ _ s)

pub whole-requires : goal.whole-requires
whole-requires c =
    let s = rw c.in-Ok.is at c.heard-went.ensures in record {
      boxes_long = omega (arith, c.boxes-1.given, c.loop-next.invariant.roomy.boxes_long);
      lines_long = omega (arith, c.lines-1.given, c.loop-next.invariant.roomy.lines_long);
      places_long = omega (arith, c.places-1.given, c.loop-next.invariant.roomy.places_long, s.fits);
    }

pub shape_of-boxes-then-end-text : goal.shape_of-boxes-then-end-text
shape_of-boxes-then-end-text c =
    omega (arith, c.boxes-1.given, c.loop-next.invariant.roomy.boxes_long, c.requires.boxes_long)

pub shape_of-lines-then-end-text : goal.shape_of-lines-then-end-text
shape_of-lines-then-end-text c =
    omega (arith, c.lines-1.given, c.loop-next.invariant.roomy.lines_long, c.requires.lines_long)

pub shape_of-places-then-end-text : goal.shape_of-places-then-end-text
shape_of-places-then-end-text c =
    omega (arith, c.places-1.given, c.loop-next.invariant.long)

pub returns-then-end-text : goal.returns-then-end-text
returns-then-end-text c =
    let s = rw c.in-Ok.is at c.heard-went.ensures in
    rw c.whole.ensures (going-ends c.loop-next.invariant _ c.line_end-end.ensures _ c.line_says-said.ensures _ _ _ _ s c.places-1.given c.if-end-text.true)

pub overflow_add-at : goal.overflow_add-at
overflow_add-at c = record { fits = omega (arith, c.line_end-end.ensures.inside) }

pub loop-next-smaller : goal.loop-next-smaller
loop-next-smaller c = below _ _ _ c.line_end-end.ensures.behind c.line_end-end.ensures.inside c.if-end-text.false

pub loop-next-preserved : goal.loop-next-preserved
loop-next-preserved c =
    let s = rw c.in-Ok.is at c.heard-went.ensures in
    going_on c.loop-next.invariant _ c.line_end-end.ensures _ c.line_says-said.ensures _ _ _ _ s c.places-1.given c.if-end-text.false
    (omega (arith, c.boxes-1.given, c.loop-next.invariant.roomy.boxes_long)) (omega (arith, c.lines-1.given, c.loop-next.invariant.roomy.lines_long))
