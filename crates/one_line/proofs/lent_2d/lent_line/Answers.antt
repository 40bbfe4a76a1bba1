-- The invariant is `Standing`, as of a line under the row before it. The measure is what is left of the data.
use native.Mathlib.Omega.{arith}
use Rattle.one_line.proofs.LineLoop.{passed-up}
use Rattle.one_line.proofs.SwiftLine.{walks-part, walked-part, standing-new, standing-length, standing-room, standing-back}
use Rattle.one_line.proofs.SwiftLine.{standing-place, standing-walks, standing-walked, standing-done, standing-codes}
use Rattle.one_line.proofs.SwiftLine.{standing-stop, standing-less, standing-searches, standing_on}
use Rattle.one_line.proofs.lent_2d.lent_line.Goals as goal

pub loop-rules-init : goal.loop-rules-init
loop-rules-init c = standing-new _ _ _ _ _ _ _ _ c.requires

pub offset_bounds-changes-base : goal.offset_bounds-changes-base
offset_bounds-changes-base c = omega (arith, c.requires.placed)

pub slice_bounds-swift_codes-count : goal.slice_bounds-swift_codes-count
slice_bounds-swift_codes-count c = standing-room _ _ _ _ _ _ _ _ c.loop-rules.invariant

pub slice_bounds-swift_codes-start : goal.slice_bounds-swift_codes-start
slice_bounds-swift_codes-start c = standing-room _ _ _ _ _ _ _ _ c.loop-rules.invariant

pub swift_codes-t-requires : goal.swift_codes-t-requires
swift_codes-t-requires c = walks-part (standing-walks _ _ _ _ _ _ _ _ c.loop-rules.invariant)

pub shape_of-changes-then-t-width : goal.shape_of-changes-then-t-width
shape_of-changes-then-t-width c =
    let v = walked-part (standing-room _ _ _ _ _ _ _ _ c.loop-rules.invariant) c.swift_codes-t.ensures in
    standing-length _ _ _ _ _ _ _ _ (standing-walked _ _ _ _ _ _ _ _ c.loop-rules.invariant v)

pub returns-then-t-width : goal.returns-then-t-width
returns-then-t-width c =
    let v = walked-part (standing-room _ _ _ _ _ _ _ _ c.loop-rules.invariant) c.swift_codes-t.ensures in
    rw c.line_at.ensures (standing-done _ _ _ _ _ _ _ _ (standing-walked _ _ _ _ _ _ _ _ c.loop-rules.invariant v) c.if-t-width.true)

pub overflow_add-t : goal.overflow_add-t
overflow_add-t c =
    let v = walked-part (standing-room _ _ _ _ _ _ _ _ c.loop-rules.invariant) c.swift_codes-t.ensures in
    omega (
      arith,
      standing-place _ _ _ _ _ _ _ _ (standing-walked _ _ _ _ _ _ _ _ c.loop-rules.invariant v) (omega arith),
    )

pub offset_bounds-changes-base-in-loop-rules : goal.offset_bounds-changes-base-in-loop-rules
offset_bounds-changes-base-in-loop-rules c =
    omega (arith, c.requires.placed)

pub slice_bounds-code_2d-count : goal.slice_bounds-code_2d-count
slice_bounds-code_2d-count c =
    let v = walked-part (standing-room _ _ _ _ _ _ _ _ c.loop-rules.invariant) c.swift_codes-t.ensures in
    standing-room _ _ _ _ _ _ _ _ (standing-walked _ _ _ _ _ _ _ _ c.loop-rules.invariant v)

pub slice_bounds-code_2d-start : goal.slice_bounds-code_2d-start
slice_bounds-code_2d-start c =
    let v = walked-part (standing-room _ _ _ _ _ _ _ _ c.loop-rules.invariant) c.swift_codes-t.ensures in
    standing-room _ _ _ _ _ _ _ _ (standing-walked _ _ _ _ _ _ _ _ c.loop-rules.invariant v)

pub code_2d-requires : goal.code_2d-requires
code_2d-requires c =
    let v = walked-part (standing-room _ _ _ _ _ _ _ _ c.loop-rules.invariant) c.swift_codes-t.ensures in
    let g = standing-walked _ _ _ _ _ _ _ _ c.loop-rules.invariant v in
    rw c.line_at-in-loop-rules.ensures
    (standing-codes _ _ _ _ _ _ _ _ g c.if-t-width.false c.change_or-b1.ensures c.change_or-b2.ensures)

pub shape_of-changes-in_err-next : goal.shape_of-changes-in_err-next
shape_of-changes-in_err-next c =
    let v = walked-part (standing-room _ _ _ _ _ _ _ _ c.loop-rules.invariant) c.swift_codes-t.ensures in
    let g = standing-walked _ _ _ _ _ _ _ _ c.loop-rules.invariant v in
    standing-back _ _ _ _ _ _ _ _ g c.code_2d.new.changes c.code_2d.auto.changes

pub returns-in_err-next : goal.returns-in_err-next
returns-in_err-next c =
    let v = walked-part (standing-room _ _ _ _ _ _ _ _ c.loop-rules.invariant) c.swift_codes-t.ensures in
    let g = standing-walked _ _ _ _ _ _ _ _ c.loop-rules.invariant v in
    rw (passed-up _ _ c.from_residual.ensures.1)
    (standing-stop _ _ _ _ _ _ _ _ g c.if-t-width.false c.change_or-b1.ensures c.change_or-b2.ensures _ _
    (rw c.line_at-in-loop-rules.ensures at c.code_2d.ensures) c.in_err-next.was)

pub stand_at-s-requires : goal.stand_at-s-requires
stand_at-s-requires c =
    let v = walked-part (standing-room _ _ _ _ _ _ _ _ c.loop-rules.invariant) c.swift_codes-t.ensures in
    let g = standing-walked _ _ _ _ _ _ _ _ c.loop-rules.invariant v in
    standing-searches _ _ _ _ _ _ _ _ g c.if-t-width.false c.change_or-b1.ensures c.change_or-b2.ensures _ _
    (rw c.line_at-in-loop-rules.ensures at c.code_2d.ensures) c.in_ok-next.was

pub loop-rules-smaller : goal.loop-rules-smaller
loop-rules-smaller c =
    let v = walked-part (standing-room _ _ _ _ _ _ _ _ c.loop-rules.invariant) c.swift_codes-t.ensures in
    let g = standing-walked _ _ _ _ _ _ _ _ c.loop-rules.invariant v in
    let less =
    standing-less _ _ _ _ _ _ _ _ g c.if-t-width.false c.change_or-b1.ensures c.change_or-b2.ensures _ _
    (rw c.line_at-in-loop-rules.ensures at c.code_2d.ensures) c.in_ok-next.was in
    omega (arith, less, c.swift_codes-t.ensures.forth, c.stand_at-s.ensures.at-is)

pub loop-rules-preserved : goal.loop-rules-preserved
loop-rules-preserved c =
    let v = walked-part (standing-room _ _ _ _ _ _ _ _ c.loop-rules.invariant) c.swift_codes-t.ensures in
    let g = standing-walked _ _ _ _ _ _ _ _ c.loop-rules.invariant v in
    standing_on _ _ _ _ _ _ _ _ g c.if-t-width.false c.change_or-b1.ensures c.change_or-b2.ensures _ _
    (rw c.line_at-in-loop-rules.ensures at c.code_2d.ensures) c.in_ok-next.was _ c.stand_at-s.ensures
