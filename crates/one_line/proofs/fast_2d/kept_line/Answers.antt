-- The invariant is `Standing`, and each way through a turn is a law of it. The measure is what is left of the data.
use native.Mathlib.Omega.{arith}
use Rattle.swift_loops.proofs.Swiftly.{kept-long}
use Rattle.one_line.proofs.LineLoop.{passed-up}
use Rattle.one_line.proofs.SwiftLine.{standing-new, standing-length, standing-room, standing-back, standing-place}
use Rattle.one_line.proofs.SwiftLine.{standing-walks, standing-walked, standing-done, standing-codes, standing-stop}
use Rattle.one_line.proofs.SwiftLine.{standing-less, standing-searches, standing_on}
use Rattle.one_line.proofs.fast_2d.kept_line.Goals as goal

pub loop-rules-init : goal.loop-rules-init
loop-rules-init c = standing-new _ _ _ _ _ _ _ _ c.requires.0

pub swift_codes-t-requires : goal.swift_codes-t-requires
swift_codes-t-requires c = (c.requires.1, standing-walks _ _ _ _ _ _ _ _ c.loop-rules.invariant)

pub shape_of-changes-then-t-width : goal.shape_of-changes-then-t-width
shape_of-changes-then-t-width c =
    standing-length _ _ _ _ _ _ _ _ (standing-walked _ _ _ _ _ _ _ _ c.loop-rules.invariant c.swift_codes-t.ensures)

pub returns-then-t-width : goal.returns-then-t-width
returns-then-t-width c =
    rw c.line_at.ensures
    (standing-done _ _ _ _ _ _ _ _ (standing-walked _ _ _ _ _ _ _ _ c.loop-rules.invariant c.swift_codes-t.ensures) c.if-t-width.true)

pub offset_bounds-changes-first : goal.offset_bounds-changes-first
offset_bounds-changes-first c =
    omega (arith, c.requires.0.placed)

pub slice_bounds-change_or-count : goal.slice_bounds-change_or-count
slice_bounds-change_or-count c = omega (arith, c.requires.0.placed)

pub slice_bounds-change_or-start : goal.slice_bounds-change_or-start
slice_bounds-change_or-start c = omega (arith, c.requires.0.placed)

pub slice_bounds-change_or-end : goal.slice_bounds-change_or-end
slice_bounds-change_or-end c =
    standing-room _ _ _ _ _ _ _ _ (standing-walked _ _ _ _ _ _ _ _ c.loop-rules.invariant c.swift_codes-t.ensures)

pub offset_bounds-changes-first-in-loop-rules : goal.offset_bounds-changes-first-in-loop-rules
offset_bounds-changes-first-in-loop-rules c =
    omega (arith, c.requires.0.placed)

pub slice_bounds-change_or-count-in-loop-rules : goal.slice_bounds-change_or-count-in-loop-rules
slice_bounds-change_or-count-in-loop-rules c =
    omega (arith, c.requires.0.placed)

pub slice_bounds-change_or-start-in-loop-rules : goal.slice_bounds-change_or-start-in-loop-rules
slice_bounds-change_or-start-in-loop-rules c =
    omega (arith, c.requires.0.placed)

pub slice_bounds-change_or-end-in-loop-rules : goal.slice_bounds-change_or-end-in-loop-rules
slice_bounds-change_or-end-in-loop-rules c =
    standing-room _ _ _ _ _ _ _ _ (standing-walked _ _ _ _ _ _ _ _ c.loop-rules.invariant c.swift_codes-t.ensures)

pub overflow_add-t : goal.overflow_add-t
overflow_add-t c =
    omega (
      arith,
      standing-place _ _ _ _ _ _ _ _ (standing-walked _ _ _ _ _ _ _ _ c.loop-rules.invariant c.swift_codes-t.ensures)
          (kept-long c.args.first c.args.base c.args.changes.now (omega arith)),
    )

pub offset_bounds-changes-base : goal.offset_bounds-changes-base
offset_bounds-changes-base c =
    omega (arith, c.requires.0.placed)

pub slice_bounds-code_2d-count : goal.slice_bounds-code_2d-count
slice_bounds-code_2d-count c =
    standing-room _ _ _ _ _ _ _ _ (standing-walked _ _ _ _ _ _ _ _ c.loop-rules.invariant c.swift_codes-t.ensures)

pub slice_bounds-code_2d-start : goal.slice_bounds-code_2d-start
slice_bounds-code_2d-start c =
    standing-room _ _ _ _ _ _ _ _ (standing-walked _ _ _ _ _ _ _ _ c.loop-rules.invariant c.swift_codes-t.ensures)

pub code_2d-requires : goal.code_2d-requires
code_2d-requires c =
    let g = standing-walked _ _ _ _ _ _ _ _ c.loop-rules.invariant c.swift_codes-t.ensures in
    rw c.line_at-in-loop-rules.ensures
    (standing-codes _ _ _ _ _ _ _ _ g c.if-t-width.false c.change_or-b1.ensures c.change_or-b2.ensures)

pub shape_of-changes-in_err-next : goal.shape_of-changes-in_err-next
shape_of-changes-in_err-next c =
    let g = standing-walked _ _ _ _ _ _ _ _ c.loop-rules.invariant c.swift_codes-t.ensures in
    standing-back _ _ _ _ _ _ _ _ g c.code_2d.new.changes c.code_2d.auto.changes

pub returns-in_err-next : goal.returns-in_err-next
returns-in_err-next c =
    let g = standing-walked _ _ _ _ _ _ _ _ c.loop-rules.invariant c.swift_codes-t.ensures in
    rw (passed-up _ _ c.from_residual.ensures.1)
    (standing-stop _ _ _ _ _ _ _ _ g c.if-t-width.false c.change_or-b1.ensures c.change_or-b2.ensures _ _
    (rw c.line_at-in-loop-rules.ensures at c.code_2d.ensures) c.in_err-next.was)

pub offset_bounds-changes-first-in-loop-rules-2 : goal.offset_bounds-changes-first-in-loop-rules-2
offset_bounds-changes-first-in-loop-rules-2 c =
    omega (arith, c.requires.0.placed)

pub slice_bounds-stand_at-count : goal.slice_bounds-stand_at-count
slice_bounds-stand_at-count c =
    omega (arith, c.requires.0.placed)

pub slice_bounds-stand_at-start : goal.slice_bounds-stand_at-start
slice_bounds-stand_at-start c =
    omega (arith, c.requires.0.placed)

pub slice_bounds-stand_at-end : goal.slice_bounds-stand_at-end
slice_bounds-stand_at-end c =
    let g = standing-walked _ _ _ _ _ _ _ _ c.loop-rules.invariant c.swift_codes-t.ensures in
    omega (
      arith,
      c.requires.0.placed,
      standing-back _ _ _ _ _ _ _ _ g c.code_2d.new.changes c.code_2d.auto.changes,
    )

pub stand_at-s-requires : goal.stand_at-s-requires
stand_at-s-requires c =
    let g = standing-walked _ _ _ _ _ _ _ _ c.loop-rules.invariant c.swift_codes-t.ensures in
    standing-searches _ _ _ _ _ _ _ _ g c.if-t-width.false c.change_or-b1.ensures c.change_or-b2.ensures _ _
    (rw c.line_at-in-loop-rules.ensures at c.code_2d.ensures) c.in_ok-next.was

pub loop-rules-smaller : goal.loop-rules-smaller
loop-rules-smaller c =
    let g = standing-walked _ _ _ _ _ _ _ _ c.loop-rules.invariant c.swift_codes-t.ensures in
    omega (
      arith,
      standing-less _ _ _ _ _ _ _ _ g c.if-t-width.false c.change_or-b1.ensures c.change_or-b2.ensures _ _
          (rw c.line_at-in-loop-rules.ensures at c.code_2d.ensures) c.in_ok-next.was,
      c.swift_codes-t.ensures.forth,
      c.stand_at-s.ensures.at-is,
    )

pub loop-rules-preserved : goal.loop-rules-preserved
loop-rules-preserved c =
    let g = standing-walked _ _ _ _ _ _ _ _ c.loop-rules.invariant c.swift_codes-t.ensures in
    standing_on _ _ _ _ _ _ _ _ g c.if-t-width.false c.change_or-b1.ensures c.change_or-b2.ensures _ _
    (rw c.line_at-in-loop-rules.ensures at c.code_2d.ensures) c.in_ok-next.was _ c.stand_at-s.ensures
