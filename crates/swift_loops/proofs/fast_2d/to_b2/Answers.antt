-- Pass mode is one code to b2.
use native.Mathlib.Omega.{arith}
use Rattle.swift_loops.proofs.Swiftly.{noted-part, ready-part, after-length, asks-place, pass-code}
use Rattle.swift_loops.proofs.fast_2d.to_b2.Goals as goal

pub offset_bounds-changes-base : goal.offset_bounds-changes-base
offset_bounds-changes-base c = omega (arith, c.requires.ready.placed)

pub slice_bounds-note-count : goal.slice_bounds-note-count
slice_bounds-note-count c = omega (arith, c.requires.ready.placed)

pub slice_bounds-note-start : goal.slice_bounds-note-start
slice_bounds-note-start c = omega (arith, c.requires.ready.placed)

pub note-count-requires : goal.note-count-requires
note-count-requires c = ready-part c.requires.ready

pub offset_bounds-changes-start : goal.offset_bounds-changes-start
offset_bounds-changes-start c =
    omega (arith, c.requires.ready.placed)

pub slice_bounds-change_or-count : goal.slice_bounds-change_or-count
slice_bounds-change_or-count c = omega (arith, c.requires.ready.placed)

pub slice_bounds-change_or-start : goal.slice_bounds-change_or-start
slice_bounds-change_or-start c = omega (arith, c.requires.ready.placed)

pub slice_bounds-change_or-end : goal.slice_bounds-change_or-end
slice_bounds-change_or-end c =
    omega (
      arith,
      c.requires.ready.placed,
      after-length c.requires.ready (noted-part c.requires.ready.placed.1 c.note-count.ensures),
    )

pub overflow_add-s : goal.overflow_add-s
overflow_add-s c = omega (arith, asks-place c.requires)

pub overflow_add-result : goal.overflow_add-result
overflow_add-result c = omega (arith, c.requires.low)

pub overflow_add-result-2 : goal.overflow_add-result-2
overflow_add-result-2 c = omega (arith, asks-place c.requires)

pub shape_of-changes : goal.shape_of-changes
shape_of-changes c =
    after-length c.requires.ready (noted-part c.requires.ready.placed.1 c.note-count.ensures)

pub returns : goal.returns
returns c =
    let noted = noted-part c.requires.ready.placed.1 c.note-count.ensures in
    λ bytes read. ((pass-code c.requires.ready noted bytes _ c.change_or-b2.ensures read).walked, omega arith)
