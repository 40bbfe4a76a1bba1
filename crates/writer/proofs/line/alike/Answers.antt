-- `writer::line::alike` meets its contract. The invariant is what it ensures, of those that were seen. Assumes nothing.
use mathlib.Core.Path.{◌≡◌}
use native.Mathlib.Omega.{arith}
use borrow.Author.Count.{below_more}
use Rattle.writer.proofs.line.alike.Goals as goal

pub loop-k-init : goal.loop-k-init
loop-k-init c = record { few = omega arith; each = λ j h. absurd (omega arith) }

pub overflow_add-place : goal.overflow_add-place
overflow_add-place c = record { fits = omega (arith, c.requires.1) }

pub returns-then-row-place : goal.returns-then-row-place
returns-then-row-place c = c.loop-k.invariant

pub overflow_add-above : goal.overflow_add-above
overflow_add-above c = record { fits = omega (arith, c.requires.0) }

pub returns-then-reference-above : goal.returns-then-reference-above
returns-then-reference-above c = c.loop-k.invariant

pub overflow_add-place-in-loop-k : goal.overflow_add-place-in-loop-k
overflow_add-place-in-loop-k c = record { fits = omega (arith, c.requires.1) }

pub offset_bounds-row-place : goal.offset_bounds-row-place
offset_bounds-row-place c = omega arith

pub bounds-row-place : goal.bounds-row-place
bounds-row-place c = omega arith

pub overflow_add-above-in-loop-k : goal.overflow_add-above-in-loop-k
overflow_add-above-in-loop-k c = record { fits = omega (arith, c.requires.0) }

pub offset_bounds-reference-above : goal.offset_bounds-reference-above
offset_bounds-reference-above c = omega arith

pub bounds-reference-above : goal.bounds-reference-above
bounds-reference-above c = omega arith

pub returns-then-row-place-2 : goal.returns-then-row-place-2
returns-then-row-place-2 c = c.loop-k.invariant

pub loop-k-preserved : goal.loop-k-preserved
loop-k-preserved c =
    let inv = c.loop-k.invariant in
    record { few = omega arith; each = below_more _ _ inv.each (c.if-reference-above.false, c.if-row-place.false, c.if-row-place-2.false) }

pub returns : goal.returns
returns c =
    let all : c.loop-k.k ≡ 8 = omega (arith, c.loop-k.invariant.few, c.loop-k-test.false) in
    rw all at c.loop-k.invariant
