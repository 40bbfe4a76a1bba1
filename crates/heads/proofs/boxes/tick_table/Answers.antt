-- The invariant: the rows below `digit` are those of the tick table, the others are zeros. Assumes nothing.
use mathlib.Core.Path.{refl, ◌∙◌}
use Prim.Native.Nat.{◌<◌}
use native.Mathlib.Omega.{arith}
use lib.ListN.{length}
use Rattle.heads.specs.Form.{tick_table, page_in}
use Rattle.heads.proofs.Twos.{no_ticks, stored_next, filled-all, table-long, table-row}
use Rattle.heads.proofs.Lengths.{form-row}
use Rattle.heads.proofs.boxes.tick_table.Goals as goal

pub loop-digit-init : goal.loop-digit-init
loop-digit-init c = (omega arith, refl)

pub offset_bounds-form-digit : goal.offset_bounds-form-digit
offset_bounds-form-digit c = omega arith

pub offset_bounds-table-digit : goal.offset_bounds-table-digit
offset_bounds-table-digit c = omega arith

pub bounds-table-digit : goal.bounds-table-digit
bounds-table-digit c = omega arith

pub offset_bounds-form-digit-in-loop-digit : goal.offset_bounds-form-digit-in-loop-digit
offset_bounds-form-digit-in-loop-digit c = omega arith

pub offset_bounds-table-digit-in-loop-digit : goal.offset_bounds-table-digit-in-loop-digit
offset_bounds-table-digit-in-loop-digit c = omega arith

pub bounds-table-digit-in-loop-digit : goal.bounds-table-digit-in-loop-digit
bounds-table-digit-in-loop-digit c = omega arith

pub loop-digit-preserved : goal.loop-digit-preserved
loop-digit-preserved c =
    let page = page_in c.args.columns c.args.changes.now c.args.ends.now in
    let h : c.loop-digit.digit < length c.args.form = omega (arith, c.loop-digit-test.true) in (
      omega arith,
      stored_next (tick_table page c.args.form) (table-long page c.args.form c.well_formed.1.1.1.0.1.0.1) c.loop-digit.table c.loop-digit.digit
          c.in_box.result c.in_box-in-loop-digit.result (omega (arith, c.loop-digit-test.true))
          (table-row page c.args.form c.loop-digit.digit (form-row c.args.form _ c.loop-digit.digit c.well_formed.1.1.1.0.1.1 h)
          ∙ rw (c.in_box.ensures, c.in_box-in-loop-digit.ensures)) c.loop-digit.invariant.1,
    )

pub returns : goal.returns
returns c =
    let page = page_in c.args.columns c.args.changes.now c.args.ends.now in
    filled-all no_ticks (tick_table page c.args.form) (table-long page c.args.form c.well_formed.1.1.1.0.1.0.1) c.loop-digit.table c.loop-digit.digit c.loop-digit-test.false c.loop-digit.invariant.0 c.loop-digit.invariant.1
