-- The invariant: the test of the rows that are left is that of all. Assumes nothing.
use mathlib.Core.List.{[]}
use mathlib.Core.Path.{refl, sym, ◌∙◌}
use Prim.Native.Nat.{◌<◌}
use native.Mathlib.Omega.{arith}
use lib.ListN.{length}
use borrow.Author.Tests.{not-true, not-false}
use Rattle.heads.specs.Form.{all, ordered}
use Rattle.heads.proofs.Tests.{all_past}
use Rattle.heads.proofs.Twos.{no_box, twos-first, twos-second, twos-next}
use Rattle.heads.proofs.Lengths.{form-row}
use Rattle.heads.proofs.boxes.all_ordered.Goals as goal

pub loop-row-init : goal.loop-row-init
loop-row-init c = (omega arith, refl)

pub returns-then-not-ordered : goal.returns-then-not-ordered
returns-then-not-ordered c =
    let h : c.loop-row.row-index < length c.args.form = omega (arith, c.loop-row-test.true) in
    twos-first ordered c.args.form c.loop-row.row-index [] no_box h (form-row c.args.form _ c.loop-row.row-index c.well_formed.0.1.1 h)
    (sym c.ordered.ensures ∙ not-true _ c.if-not-ordered.true-raw) ∙ c.loop-row.invariant.1

pub returns-then-not-ordered-2 : goal.returns-then-not-ordered-2
returns-then-not-ordered-2 c =
    let h : c.loop-row.row-index < length c.args.form = omega (arith, c.loop-row-test.true) in
    twos-second ordered c.args.form c.loop-row.row-index [] no_box h (form-row c.args.form _ c.loop-row.row-index c.well_formed.0.1.1 h)
    (sym c.ordered.ensures ∙ not-false _ c.if-not-ordered.false-raw)
    (sym c.ordered-in-loop-row.ensures ∙ not-true _ c.if-not-ordered-2.true-raw) ∙ c.loop-row.invariant.1

pub loop-row-preserved : goal.loop-row-preserved
loop-row-preserved c =
    let h : c.loop-row.row-index < length c.args.form = omega (arith, c.loop-row-test.true) in (
      omega arith,
      twos-next ordered c.args.form c.loop-row.row-index [] no_box h (form-row c.args.form _ c.loop-row.row-index c.well_formed.0.1.1 h)
          (sym c.ordered.ensures ∙ not-false _ c.if-not-ordered.false-raw)
          (sym c.ordered-in-loop-row.ensures ∙ not-false _ c.if-not-ordered-2.false-raw) ∙ c.loop-row.invariant.1,
    )

pub returns : goal.returns
returns c =
    all_past (all ordered) c.args.form c.loop-row.row-index (omega (arith, c.loop-row-test.false)) ∙ c.loop-row.invariant.1
