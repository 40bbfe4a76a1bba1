-- In 64 bits no sum of a place and an offset wraps; outside of the line the code is another.
use mathlib.Core.Path.{refl}
use native.Mathlib.Omega.{arith}
use Rattle.swift_loops.proofs.Beside.{side-turned}
use Rattle.swift_loops.proofs.Swiftly.{noted-part, ready-part, after-length, side-turning, side-code}
use Rattle.swift_loops.proofs.fast_2d.vertical.Goals as goal

pub returns-then-to-s : goal.returns-then-to-s
returns-then-to-s c = (λ bytes read. refl, tt)

pub returns-then-width-d : goal.returns-then-width-d
returns-then-width-d c = (λ bytes read. refl, tt)

pub offset_bounds-changes-base : goal.offset_bounds-changes-base
offset_bounds-changes-base c = omega (arith, c.requires.asks.ready.placed)

pub slice_bounds-note-count : goal.slice_bounds-note-count
slice_bounds-note-count c = omega (arith, c.requires.asks.ready.placed)

pub slice_bounds-note-start : goal.slice_bounds-note-start
slice_bounds-note-start c = omega (arith, c.requires.asks.ready.placed)

pub note-count-requires : goal.note-count-requires
note-count-requires c = ready-part c.requires.asks.ready

pub offset_bounds-changes-start : goal.offset_bounds-changes-start
offset_bounds-changes-start c =
    omega (arith, c.requires.asks.ready.placed)

pub slice_bounds-behind-count : goal.slice_bounds-behind-count
slice_bounds-behind-count c = omega (arith, c.requires.asks.ready.placed)

pub slice_bounds-behind-start : goal.slice_bounds-behind-start
slice_bounds-behind-start c = omega (arith, c.requires.asks.ready.placed)

pub slice_bounds-behind-end : goal.slice_bounds-behind-end
slice_bounds-behind-end c =
    omega (
      arith,
      c.requires.asks.ready.placed,
      after-length c.requires.asks.ready (noted-part c.requires.asks.ready.placed.1 c.note-count.ensures),
    )

pub behind-place-requires : goal.behind-place-requires
behind-place-requires c =
    side-turning c.requires c.if-to-s.false c.if-width-d.false
    (noted-part c.requires.asks.ready.placed.1 c.note-count.ensures)

pub overflow_add-result : goal.overflow_add-result
overflow_add-result c =
    omega (arith, c.requires.asks.low, c.requires.short)

pub shape_of-changes : goal.shape_of-changes
shape_of-changes c =
    after-length c.requires.asks.ready (noted-part c.requires.asks.ready.placed.1 c.note-count.ensures)

pub returns : goal.returns
returns c =
    let far = c.if-to-s.false in
    let within = c.if-width-d.false in
    let noted = noted-part c.requires.asks.ready.placed.1 c.note-count.ensures in
    let reached = c.behind-place.ensures in (
      λ bytes read. ((side-code c.requires far within noted _ reached bytes read).walked, omega (arith, c.requires.some_bits)),
      side-turned c.requires far within noted _ reached,
    )
