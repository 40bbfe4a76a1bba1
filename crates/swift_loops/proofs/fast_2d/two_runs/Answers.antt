-- Both runs are at the front of the same bits: the second behind the first.
use mathlib.Core.Path.{refl, ◌∙◌}
use Prim.Native.Nat.{◌+◌, ◌%◌, ◌<◌}
use native.Mathlib.Omega.{arith}
use Rattle.rules.specs.Codes.{opposite}
use Rattle.tables.specs.Tables.{colour_of}
use Rattle.codes.proofs.Fronts.{table-length}
use Rattle.bit_reader.proofs.Window.{ahead-shift}
use Rattle.swift_loops.proofs.Swiftly.{noted-part, stored-part, ready-part, after-length, two-index, both-length, two-onward}
use Rattle.swift_loops.proofs.Swiftly.{two-code}
use Rattle.swift_loops.proofs.Fronting.{own-table, other-table, front_reads}
use Rattle.swift_loops.proofs.fast_2d.two_runs.Goals as goal

pub front_run-one-requires : goal.front_run-one-requires
front_run-one-requires c =
    let colour = c.args.s.place % 2 in
    (c.top13.ensures.1, table-length (colour_of colour) (c.pick-own.ensures ∙ own-table c.requires.0 colour))

pub overflow_shl-rest : goal.overflow_shl-rest
overflow_shl-rest c = omega (arith, c.front_run-one.ensures.few)

pub front_run-two-requires : goal.front_run-two-requires
front_run-two-requires c =
    let colour = c.args.s.place % 2 in
    (c.top13-2.ensures.1, table-length (opposite (colour_of colour)) (c.pick-other.ensures ∙ other-table c.requires.0 colour))

pub returns-then-one-eq0 : goal.returns-then-one-eq0
returns-then-one-eq0 c = λ bytes live h k read. refl

pub returns-then-two-eq0 : goal.returns-then-two-eq0
returns-then-two-eq0 c = λ bytes live h k read. refl

pub overflow_sub-width : goal.overflow_sub-width
overflow_sub-width c =
    omega (arith, c.requires.1.ready.stands.fits)

pub overflow_add-one : goal.overflow_add-one
overflow_add-one c =
    omega (arith, c.front_run-one.ensures.narrow, c.front_run-two.ensures.narrow)

pub returns-then-width-s : goal.returns-then-width-s
returns-then-width-s c = λ bytes live h k read. refl

pub offset_bounds-changes-base : goal.offset_bounds-changes-base
offset_bounds-changes-base c =
    omega (arith, c.requires.1.ready.placed)

pub slice_bounds-note-count : goal.slice_bounds-note-count
slice_bounds-note-count c =
    omega (arith, c.requires.1.ready.placed)

pub slice_bounds-note-start : goal.slice_bounds-note-start
slice_bounds-note-start c =
    omega (arith, c.requires.1.ready.placed)

pub note-count-requires : goal.note-count-requires
note-count-requires c =
    ready-part c.requires.1.ready

pub overflow_add-a1 : goal.overflow_add-a1
overflow_add-a1 c =
    omega (arith, c.requires.1.ready.stands.fits, c.requires.1.ready.narrow, c.if-width-s.false)

pub overflow_add-last : goal.overflow_add-last
overflow_add-last c =
    omega (
      arith,
      two-index c.requires.1.ready (noted-part c.requires.1.ready.placed.1 c.note-count.ensures)
          c.front_run-one.result.pixels c.front_run-two.result.pixels (omega (arith, c.if-one-eq0.false))
          (omega (arith, c.if-two-eq0.false)) c.if-width-s.false,
      after-length c.requires.1.ready (noted-part c.requires.1.ready.placed.1 c.note-count.ensures),
    )

pub offset_bounds-changes-last : goal.offset_bounds-changes-last
offset_bounds-changes-last c =
    omega (
      arith,
      two-index c.requires.1.ready (noted-part c.requires.1.ready.placed.1 c.note-count.ensures)
          c.front_run-one.result.pixels c.front_run-two.result.pixels (omega (arith, c.if-one-eq0.false))
          (omega (arith, c.if-two-eq0.false)) c.if-width-s.false,
      after-length c.requires.1.ready (noted-part c.requires.1.ready.placed.1 c.note-count.ensures),
    )

pub bounds-changes-last : goal.bounds-changes-last
bounds-changes-last c =
    two-index c.requires.1.ready (noted-part c.requires.1.ready.placed.1 c.note-count.ensures)
    c.front_run-one.result.pixels c.front_run-two.result.pixels (omega (arith, c.if-one-eq0.false))
    (omega (arith, c.if-two-eq0.false)) c.if-width-s.false

pub overflow_add-position : goal.overflow_add-position
overflow_add-position c =
    omega (arith, c.requires.1.ready.stands.fits, c.requires.1.ready.narrow, c.if-width-s.false)

pub offset_bounds-changes-start : goal.offset_bounds-changes-start
offset_bounds-changes-start c =
    omega (arith, c.requires.1.ready.placed)

pub slice_bounds-onward-count : goal.slice_bounds-onward-count
slice_bounds-onward-count c =
    omega (arith, c.requires.1.ready.placed)

pub slice_bounds-onward-start : goal.slice_bounds-onward-start
slice_bounds-onward-start c =
    omega (arith, c.requires.1.ready.placed)

pub slice_bounds-onward-end : goal.slice_bounds-onward-end
slice_bounds-onward-end c =
    omega (
      arith,
      c.requires.1.ready.placed,
      both-length c.requires.1.ready (noted-part c.requires.1.ready.placed.1 c.note-count.ensures)
          c.front_run-one.result.pixels c.front_run-two.result.pixels (omega (arith, c.if-one-eq0.false))
          (omega (arith, c.if-two-eq0.false)) c.if-width-s.false (c.args.s.position + c.front_run-one.result.pixels) refl
          stored-part,
    )

pub onward-place-requires : goal.onward-place-requires
onward-place-requires c =
    two-onward c.requires.1.ready (noted-part c.requires.1.ready.placed.1 c.note-count.ensures)
    c.front_run-one.result.pixels c.front_run-two.result.pixels (omega (arith, c.if-one-eq0.false))
    (omega (arith, c.if-two-eq0.false)) c.if-width-s.false (c.args.s.position + c.front_run-one.result.pixels) refl
    stored-part _ (omega (arith, c.if-one-eq0.false))

pub overflow_add-result : goal.overflow_add-result
overflow_add-result c =
    omega (arith, c.requires.1.low)

pub overflow_add-result-2 : goal.overflow_add-result-2
overflow_add-result-2 c =
    omega (arith, c.requires.1.low, c.front_run-one.ensures.few)

pub overflow_add-result-3 : goal.overflow_add-result-3
overflow_add-result-3 c =
    omega (arith, c.requires.1.low, c.front_run-one.ensures.few, c.front_run-two.ensures.few)

pub overflow_add-result-4 : goal.overflow_add-result-4
overflow_add-result-4 c =
    omega (
      arith,
      two-index c.requires.1.ready (noted-part c.requires.1.ready.placed.1 c.note-count.ensures)
          c.front_run-one.result.pixels c.front_run-two.result.pixels (omega (arith, c.if-one-eq0.false))
          (omega (arith, c.if-two-eq0.false)) c.if-width-s.false,
      after-length c.requires.1.ready (noted-part c.requires.1.ready.placed.1 c.note-count.ensures),
    )

pub shape_of-changes : goal.shape_of-changes
shape_of-changes c =
    both-length c.requires.1.ready (noted-part c.requires.1.ready.placed.1 c.note-count.ensures)
    c.front_run-one.result.pixels c.front_run-two.result.pixels (omega (arith, c.if-one-eq0.false))
    (omega (arith, c.if-two-eq0.false)) c.if-width-s.false (c.args.s.position + c.front_run-one.result.pixels) refl
    stored-part

pub returns : goal.returns
returns c =
    λ bytes live h k read.
    let s = c.args.s in
    let one = c.front_run-one in
    let two = c.front_run-two in
    let some1 : 0 < one.result.pixels = omega (arith, c.if-one-eq0.false) in
    let some2 : 0 < two.result.pixels = omega (arith, c.if-two-eq0.false) in
    let first =
    front_reads (colour_of (s.place % 2)) (c.pick-own.ensures ∙ own-table c.requires.0 (s.place % 2))
    (ahead-shift h 3 (omega arith)) (omega arith) c.top13.ensures.0 one.ensures (omega (arith, some1)) in
    let second =
    front_reads (opposite (colour_of (s.place % 2))) (c.pick-other.ensures ∙ other-table c.requires.0 (s.place % 2))
    (ahead-shift (ahead-shift h 3 (omega arith)) one.result.size (omega (arith, first.within))) (omega (arith, first.within))
    c.top13-2.ensures.0 two.ensures (omega (arith, some2)) in
    let noted = noted-part c.requires.1.ready.placed.1 c.note-count.ensures in (
      (two-code c.requires.1.ready noted one.result.pixels two.result.pixels some1 some2 c.if-width-s.false
          (s.position + one.result.pixels) refl stored-part bytes (s.at + 3 + one.result.size)
          (s.at + 3 + one.result.size + two.result.size) _ _ refl read first.same second.same (omega arith)
          c.onward-place.ensures
          ).walked,
      omega arith,
    )
