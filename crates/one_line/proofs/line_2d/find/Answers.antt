-- Where the reference lies decides which slice is lent.
use native.Mathlib.Omega.{arith}
use Rattle.one_line.proofs.line_2d.find.Goals as goal

pub find-requires : goal.find-requires
find-requires c = rw c.in-Lent.is at c.requires.searches

pub offset_bounds-changes-start : goal.offset_bounds-changes-start
offset_bounds-changes-start c = omega (arith, rw c.in-Kept.is at c.requires.placed)

pub slice_bounds-find-count : goal.slice_bounds-find-count
slice_bounds-find-count c = omega (arith, rw c.in-Kept.is at c.requires.placed)

pub slice_bounds-find-start : goal.slice_bounds-find-start
slice_bounds-find-start c = omega (arith, rw c.in-Kept.is at c.requires.placed)

pub slice_bounds-find-end : goal.slice_bounds-find-end
slice_bounds-find-end c = omega (arith, rw c.in-Kept.is at c.requires.placed)

pub find-requires-in-Kept : goal.find-requires-in-Kept
find-requires-in-Kept c = rw c.in-Kept.is at c.requires.searches

pub returns-in-Lent : goal.returns-in-Lent
returns-in-Lent c = rw c.in-Lent.is c.find.ensures

pub returns-in-Kept : goal.returns-in-Kept
returns-in-Kept c = rw c.in-Kept.is c.find-in-Kept.ensures
