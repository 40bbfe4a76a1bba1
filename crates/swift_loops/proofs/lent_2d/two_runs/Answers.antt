-- Both runs are at the front of the same bits: the second behind the first.
use mathlib.Core.Path.{refl, sym, ap}
use Prim.Native.Nat.{◌+◌, ◌%◌, ◌<◌}
use native.Mathlib.Omega.{arith}
use Rattle.rules.specs.Lookup.{lookup_table}
use Rattle.rules.specs.Codes.{opposite}
use Rattle.tables.specs.Tables.{colour_of}
use Rattle.bit_reader.proofs.Window.{ahead-shift}
use Rattle.swift_loops.proofs.Swiftly.{noted-whole, stored-whole, ready-note, two-index, two-onward, two-code}
use Rattle.swift_loops.proofs.Fronting.{turned-number, front_reads}
use Rattle.swift_loops.proofs.lent_2d.two_runs.Goals as goal

pub note-count-requires : goal.note-count-requires
note-count-requires c =
    ready-note c.requires.ready

pub overflow_add-a1 : goal.overflow_add-a1
overflow_add-a1 c =
    omega (arith, c.requires.ready.stands.fits, c.requires.ready.narrow, c.if-width-s.false)

pub offset_bounds-row-count : goal.offset_bounds-row-count
offset_bounds-row-count c =
    let noted = noted-whole c.note-count.ensures in
    let one = c.front_run_of-one.result.pixels in
    let two = c.front_run_of-two.result.pixels in
    omega (
      arith,
      two-index c.requires.ready noted one two (omega (arith, c.if-one-eq0.false)) (omega (arith, c.if-two-eq0.false)) c.if-width-s.false,
      c.note-count.auto,
    )

pub bounds-row-count : goal.bounds-row-count
bounds-row-count c =
    let noted = noted-whole c.note-count.ensures in
    let one = c.front_run_of-one.result.pixels in
    let two = c.front_run_of-two.result.pixels in
    omega (
      arith,
      two-index c.requires.ready noted one two (omega (arith, c.if-one-eq0.false)) (omega (arith, c.if-two-eq0.false)) c.if-width-s.false,
    )

pub overflow_add-position : goal.overflow_add-position
overflow_add-position c =
    omega (arith, c.requires.ready.stands.fits, c.requires.ready.narrow, c.if-width-s.false)

pub onward-place-requires : goal.onward-place-requires
onward-place-requires c =
    let noted = noted-whole c.note-count.ensures in
    let one = c.front_run_of-one.result.pixels in
    let two = c.front_run_of-two.result.pixels in
    two-onward c.requires.ready noted one two (omega (arith, c.if-one-eq0.false)) (omega (arith, c.if-two-eq0.false)) c.if-width-s.false
    (c.args.s.position + one) refl stored-whole
    _ (omega (arith, c.if-one-eq0.false))

pub overflow_add-result : goal.overflow_add-result
overflow_add-result c =
    omega (arith, c.requires.low)

pub overflow_add-result-2 : goal.overflow_add-result-2
overflow_add-result-2 c =
    omega (arith, c.requires.low, c.front_run_of-one.ensures.few)

pub overflow_add-result-3 : goal.overflow_add-result-3
overflow_add-result-3 c =
    omega (arith, c.requires.low, c.front_run_of-one.ensures.few, c.front_run_of-two.ensures.few)

pub overflow_add-result-4 : goal.overflow_add-result-4
overflow_add-result-4 c =
    let noted = noted-whole c.note-count.ensures in
    let one = c.front_run_of-one.result.pixels in
    let two = c.front_run_of-two.result.pixels in
    omega (
      arith,
      two-index c.requires.ready noted one two (omega (arith, c.if-one-eq0.false)) (omega (arith, c.if-two-eq0.false)) c.if-width-s.false,
      c.note-count.auto,
    )

pub returns : goal.returns
returns c =
    λ bytes live h k read.
    let asks = c.requires in
    let s = c.args.s in
    let noted = noted-whole c.note-count.ensures in
    let one = c.front_run_of-one in
    let two = c.front_run_of-two in
    let some1 : 0 < one.result.pixels = omega (arith, c.if-one-eq0.false) in
    let some2 : 0 < two.result.pixels = omega (arith, c.if-two-eq0.false) in
    let next = ahead-shift h 3 (omega arith) in
    let first =
    front_reads (colour_of (s.place % 2)) refl next (omega arith) c.top13.ensures.0 one.ensures (omega (arith, some1)) in
    let behind = ahead-shift next one.result.size (omega (arith, first.within)) in
    let second =
    front_reads (opposite (colour_of (s.place % 2))) (sym (ap lookup_table (turned-number (s.place % 2) (omega arith)))) behind
    (omega (arith, first.within))
    c.top13-2.ensures.0 two.ensures (omega (arith, some2)) in (
      (two-code asks.ready noted one.result.pixels two.result.pixels some1 some2 c.if-width-s.false
          (s.position + one.result.pixels) refl stored-whole
          bytes (s.at + 3 + one.result.size) (s.at + 3 + one.result.size + two.result.size) _ _ refl read first.same
          second.same (omega arith)
          c.onward-place.ensures
          ).walked,
      omega arith,
    )
