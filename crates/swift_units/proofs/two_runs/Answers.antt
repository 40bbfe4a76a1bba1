use Rattle.swift_units.proofs.Counting.{two-counted, left_of}
use Rattle.swift_loops.proofs.Fronting.{turned-number, front_reads}
use Rattle.swift_loops.proofs.Swiftly.{noted-part, stored-part, ready-part, after-length, two-index, both-length, two-onward, two-code}
use Rattle.bit_reader.proofs.Window.{ahead-shift}
use Rattle.tables.specs.Tables.{colour_of}
use Rattle.rules.specs.Lookup.{lookup_table}
use Rattle.rules.specs.Codes.{opposite}
use native.Mathlib.Omega.{arith}
use Prim.Native.Nat.{suc, ◌+◌, ◌-◌, ◌%◌, ◌<◌}
use mathlib.Core.Path.{refl, sym, ap, ◌∙◌}
use Rattle.swift_units.proofs.two_runs.Goals as goal

-- src/lib.rt:196:9
pub returns-then-left-lt5 : goal.returns-then-left-lt5
returns-then-left-lt5 c = λ bytes live h k read. refl

-- src/lib.rt:204:9
pub returns-then-one-eq0 : goal.returns-then-one-eq0
returns-then-one-eq0 c = λ bytes live h k read. refl

-- src/lib.rt:207:9
pub returns-then-two-eq0 : goal.returns-then-two-eq0
returns-then-two-eq0 c = λ bytes live h k read. refl

-- src/lib.rt:210:9
pub returns-then-width-s : goal.returns-then-width-s
returns-then-width-s c = λ bytes live h k read. refl

-- src/lib.rt:212:9
pub note-count-requires : goal.note-count-requires
note-count-requires c = ready-part c.requires.ready

-- src/lib.rt:213:14
pub overflow_add-a1 : goal.overflow_add-a1
overflow_add-a1 c = omega (arith, c.requires.ready.stands.fits, c.requires.ready.narrow, c.if-width-s.false)

-- src/lib.rt:214:16
pub overflow_add-last : goal.overflow_add-last
overflow_add-last c = omega (arith, two-index c.requires.ready (noted-part c.requires.ready.placed.1 c.note-count.ensures) c.front_run_of-one.result.pixels c.front_run_of-two.result.pixels (omega (arith, c.if-one-eq0.false)) (omega (arith, c.if-two-eq0.false)) c.if-width-s.false, after-length c.requires.ready (noted-part c.requires.ready.placed.1 c.note-count.ensures))

-- src/lib.rt:215:5
pub offset_bounds-changes-last : goal.offset_bounds-changes-last
offset_bounds-changes-last c = omega (arith, two-index c.requires.ready (noted-part c.requires.ready.placed.1 c.note-count.ensures) c.front_run_of-one.result.pixels c.front_run_of-two.result.pixels (omega (arith, c.if-one-eq0.false)) (omega (arith, c.if-two-eq0.false)) c.if-width-s.false, after-length c.requires.ready (noted-part c.requires.ready.placed.1 c.note-count.ensures))

-- src/lib.rt:215:5
pub bounds-changes-last : goal.bounds-changes-last
bounds-changes-last c = two-index c.requires.ready (noted-part c.requires.ready.placed.1 c.note-count.ensures) c.front_run_of-one.result.pixels c.front_run_of-two.result.pixels (omega (arith, c.if-one-eq0.false)) (omega (arith, c.if-two-eq0.false)) c.if-width-s.false

-- src/lib.rt:216:20
pub overflow_add-position : goal.overflow_add-position
overflow_add-position c = omega (arith, c.requires.ready.stands.fits, c.requires.ready.narrow, c.if-width-s.false)

-- src/lib.rt:217:33
pub offset_bounds-changes-start : goal.offset_bounds-changes-start
offset_bounds-changes-start c = omega (arith, c.requires.ready.placed)

-- src/lib.rt:217:33
pub slice_bounds-onward-count : goal.slice_bounds-onward-count
slice_bounds-onward-count c = omega (arith, c.requires.ready.placed)

-- src/lib.rt:217:33
pub slice_bounds-onward-start : goal.slice_bounds-onward-start
slice_bounds-onward-start c = omega (arith, c.requires.ready.placed)

-- src/lib.rt:217:33
pub slice_bounds-onward-end : goal.slice_bounds-onward-end
slice_bounds-onward-end c = omega (arith, c.requires.ready.placed, both-length c.requires.ready (noted-part c.requires.ready.placed.1 c.note-count.ensures) c.front_run_of-one.result.pixels c.front_run_of-two.result.pixels (omega (arith, c.if-one-eq0.false)) (omega (arith, c.if-two-eq0.false)) c.if-width-s.false (c.args.s.position + c.front_run_of-one.result.pixels) refl stored-part)

-- src/lib.rt:217:9
pub onward-place-requires : goal.onward-place-requires
onward-place-requires c = two-onward c.requires.ready (noted-part c.requires.ready.placed.1 c.note-count.ensures) c.front_run_of-one.result.pixels c.front_run_of-two.result.pixels (omega (arith, c.if-one-eq0.false)) (omega (arith, c.if-two-eq0.false)) c.if-width-s.false (c.args.s.position + c.front_run_of-one.result.pixels) refl stored-part _ (omega (arith, c.if-one-eq0.false))

-- src/lib.rt:219:13
pub overflow_add-stand : goal.overflow_add-stand
overflow_add-stand c = omega (arith, c.requires.low)

-- src/lib.rt:219:13
pub overflow_add-stand-2 : goal.overflow_add-stand-2
overflow_add-stand-2 c = omega (arith, c.requires.low, c.front_run_of-one.ensures.few)

-- src/lib.rt:219:13
pub overflow_add-stand-3 : goal.overflow_add-stand-3
overflow_add-stand-3 c = omega (arith, c.requires.low, c.front_run_of-one.ensures.few, c.front_run_of-two.ensures.few)

-- src/lib.rt:221:16
pub overflow_add-stand-4 : goal.overflow_add-stand-4
overflow_add-stand-4 c = omega (arith, two-index c.requires.ready (noted-part c.requires.ready.placed.1 c.note-count.ensures) c.front_run_of-one.result.pixels c.front_run_of-two.result.pixels (omega (arith, c.if-one-eq0.false)) (omega (arith, c.if-two-eq0.false)) c.if-width-s.false, after-length c.requires.ready (noted-part c.requires.ready.placed.1 c.note-count.ensures))

-- src/lib.rt:226:15
pub overflow_sub-result : goal.overflow_sub-result
overflow_sub-result c = omega (arith, c.if-left-lt5.false)

-- src/lib.rt:226:15
pub overflow_sub-result-2 : goal.overflow_sub-result-2
overflow_sub-result-2 c = omega (arith, c.if-left-lt5.false, c.codes_of.ensures.1)

-- src/lib.rt:226:15
pub overflow_sub-result-3 : goal.overflow_sub-result-3
overflow_sub-result-3 c = omega (arith, c.if-left-lt5.false, c.codes_of.ensures.1, c.codes_of-2.ensures.1)

-- src/lib.rt:182:1
pub shape_of-changes : goal.shape_of-changes
shape_of-changes c = both-length c.requires.ready (noted-part c.requires.ready.placed.1 c.note-count.ensures) c.front_run_of-one.result.pixels c.front_run_of-two.result.pixels (omega (arith, c.if-one-eq0.false)) (omega (arith, c.if-two-eq0.false)) c.if-width-s.false (c.args.s.position + c.front_run_of-one.result.pixels) refl stored-part

-- src/lib.rt:182:1
pub returns : goal.returns
returns c = λ bytes live h k read.
    let a = c.args in
    let s = a.s in
    let one = c.front_run_of-one in
    let two = c.front_run_of-two in
    let some1 : 0 < one.result.pixels = omega (arith, c.if-one-eq0.false) in
    let some2 : 0 < two.result.pixels = omega (arith, c.if-two-eq0.false) in
    let next = ahead-shift h 3 (omega arith) in
    let first = front_reads (colour_of (s.place % 2)) refl next (omega arith) c.top13.ensures.0 one.ensures (omega (arith, some1)) in
    let behind = ahead-shift next one.result.size (omega (arith, first.within)) in
    let second =
    front_reads (opposite (colour_of (s.place % 2))) (sym (ap lookup_table (turned-number (s.place % 2) (omega arith)))) behind
    (omega (arith, first.within)) c.top13-2.ensures.0 two.ensures (omega (arith, some2)) in
    let noted = (noted-part c.requires.ready.placed.1 c.note-count.ensures) in
    let code =
    two-code c.requires.ready noted one.result.pixels two.result.pixels some1 some2 c.if-width-s.false
    (s.position + one.result.pixels) refl stored-part bytes (s.at + 3 + one.result.size)
    (s.at + 3 + one.result.size + two.result.size) _ _ refl read first.same second.same (omega arith) c.onward-place.ensures in
    let counted =
    two-counted bytes a.start c.requires.ready (s.at + 3 + one.result.size) one.result.pixels c.codes_of.result c.codes_of-2.result code read first.same some1
    (omega (arith, c.if-width-s.false)) (first.codes ∙ sym c.codes_of.ensures.0) (second.codes ∙ sym c.codes_of-2.ensures.0) in (
      left_of bytes a.start (suc (c.codes_of.result + c.codes_of-2.result)) a.left (a.left - 1 - c.codes_of.result - c.codes_of-2.result) counted
          (omega (arith, c.if-left-lt5.false, c.codes_of.ensures.1, c.codes_of-2.ensures.1)) (λ e. absurd (omega (arith, c.if-left-lt5.false, c.codes_of.ensures.1, c.codes_of-2.ensures.1))),
      omega (arith, c.if-left-lt5.false, c.codes_of.ensures.1, c.codes_of-2.ensures.1),
    )
