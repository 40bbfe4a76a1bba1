-- The invariant: the ticks so far, and then those that are left, are all of them. Assumes nothing.
use mathlib.Core.List.{[]}
use mathlib.Core.Path.{◌∙◌}
use Prim.Native.Nat.{◌<◌}
use native.Mathlib.Omega.{arith}
use lib.ListN.{length}
use Rattle.heads.specs.Form.{ticks}
use Rattle.heads.proofs.Ticks.{after-only, ticks-past, ticks-tick, ticks-blank, seen-small}
use Rattle.heads.proofs.reading.digit_in.Goals.{then-least-table, else-least-table}
use Rattle.heads.proofs.reading.digit_in.Goals as goal

pub loop-d-init : goal.loop-d-init
loop-d-init c = (omega arith, tt, after-only (ticks c.args.least c.args.column 0 c.args.table))

pub overflow_cast-i : goal.overflow_cast-i
overflow_cast-i c = omega arith

pub offset_bounds-table-i : goal.offset_bounds-table-i
offset_bounds-table-i c = omega arith

pub loop-d-preserved : goal.loop-d-preserved
loop-d-preserved c =
    let h : c.loop-d.d < length c.args.table = omega (arith, c.loop-d-test.true) in
    elim c.if-least-table.branch [
      | then-least-table w ↦ let e = w.digit-is ∙ w.after-digit.ensures in (
        omega arith,
        rw e (seen-small c.loop-d.digit c.loop-d.d (omega arith)),
        rw e (ticks-tick c.args.least c.args.column c.args.table c.loop-d.digit c.loop-d.d [] h w.if-least-table.true ∙ c.loop-d.invariant.2),
      )
      | else-least-table w ↦ (
        omega arith,
        rw w.digit-is c.loop-d.invariant.1,
        rw w.digit-is (ticks-blank c.args.least c.args.column c.args.table c.loop-d.digit c.loop-d.d [] h w.if-least-table.false ∙ c.loop-d.invariant.2),
      )
    ]

pub returns : goal.returns
returns c =
    record {
      is = ticks-past _ _ _ _ _ (omega arith) ∙ c.loop-d.invariant.2;
      small = c.loop-d.invariant.1;
    }
