-- The invariant: the test of the rows that are left is that of all. Assumes nothing.
use mathlib.Core.List.{[]}
use mathlib.Core.Path.{refl, sym, ◌∙◌}
use Prim.Native.Nat.{◌<◌}
use native.Mathlib.Omega.{arith}
use lib.ListN.{length}
use borrow.Author.Tests.{not-true, not-false}
use Rattle.heads.specs.Form.{all, clean, clean_under}
use Rattle.heads.proofs.Tests.{all_past}
use Rattle.heads.proofs.Twos.{no_box, twos-first, twos-second, twos-next}
use Rattle.heads.proofs.Lengths.{form-row}
use Rattle.heads.proofs.boxes.clean.Goals as goal

pub loop-row-init : goal.loop-row-init
unfolding clean
loop-row-init c = (omega arith, refl)

pub returns-then-not-clean_under : goal.returns-then-not-clean_under
returns-then-not-clean_under c =
    let a = c.args in
    let h : c.loop-row.row-index < length a.form = omega (arith, c.loop-row-test.true) in
    twos-first (clean_under a.columns a.rows a.marks.now) a.form c.loop-row.row-index [] no_box h (form-row a.form _ c.loop-row.row-index c.well_formed.1.1.1.0.1.1 h)
    (sym c.clean_under.ensures ∙ not-true _ c.if-not-clean_under.true-raw) ∙ c.loop-row.invariant.1

pub returns-then-not-clean_under-2 : goal.returns-then-not-clean_under-2
returns-then-not-clean_under-2 c =
    let a = c.args in
    let h : c.loop-row.row-index < length a.form = omega (arith, c.loop-row-test.true) in
    twos-second (clean_under a.columns a.rows a.marks.now) a.form c.loop-row.row-index [] no_box h (form-row a.form _ c.loop-row.row-index c.well_formed.1.1.1.0.1.1 h)
    (sym c.clean_under.ensures ∙ not-false _ c.if-not-clean_under.false-raw)
    (sym c.clean_under-in-loop-row.ensures ∙ not-true _ c.if-not-clean_under-2.true-raw) ∙ c.loop-row.invariant.1

pub loop-row-preserved : goal.loop-row-preserved
loop-row-preserved c =
    let a = c.args in
    let h : c.loop-row.row-index < length a.form = omega (arith, c.loop-row-test.true) in (
      omega arith,
      twos-next (clean_under a.columns a.rows a.marks.now) a.form c.loop-row.row-index [] no_box h (form-row a.form _ c.loop-row.row-index c.well_formed.1.1.1.0.1.1 h)
          (sym c.clean_under.ensures ∙ not-false _ c.if-not-clean_under.false-raw)
          (sym c.clean_under-in-loop-row.ensures ∙ not-false _ c.if-not-clean_under-2.false-raw) ∙ c.loop-row.invariant.1,
    )

pub returns : goal.returns
returns c =
    let a = c.args in
    all_past (all (clean_under a.columns a.rows a.marks.now)) a.form c.loop-row.row-index (omega (arith, c.loop-row-test.false)) ∙ c.loop-row.invariant.1
