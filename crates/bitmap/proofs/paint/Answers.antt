-- `bitmap::paint` meets its contract. The tests one after the other, and then every row. Assumes nothing.
use native.Mathlib.Omega.{arith}
use mathlib.Core.Path.{sym, ap, ◌∙◌}
use borrow.Author.Tests.{not-true, not-false}
use lib.ListN.{length}
use Rattle.bitmap.specs.Outcome.{answer_for}
use Rattle.bitmap.proofs.Fitting.{fits, paint-refused, paint-bad, sheets, paint-done}
use Rattle.bitmap.proofs.paint.Goals as goal

pub returns-in-Some : goal.returns-in-Some
returns-in-Some c =
    paint-refused c.args.one c.args.columns c.args.stride c.args.changes.now c.args.ends.now c.args.out.now
    c.in-Some.ensures.0 c.in-Some.ensures.1 c.refusal.ensures

pub returns-then-not-ascend : goal.returns-then-not-ascend
returns-then-not-ascend c =
    let zero = sym c.in_default.ensures in
    paint-bad c.args.one c.args.columns c.args.stride c.args.changes.now c.args.ends.now c.args.out.now zero
    (sym c.ascend.ensures ∙ not-true _ c.if-not-ascend.true-raw) c.refusal-then-not-ascend.ensures

pub end_of-end-requires : goal.end_of-end-requires
end_of-end-requires c =
    let zero = sym c.in_default.ensures in
    (fits c.args.columns c.args.stride (length c.args.ends.now) (length c.args.out.now) zero).room

pub rows-requires : goal.rows-requires
rows-requires c =
    let zero = sym c.in_default.ensures in
    sheets c.args.one c.args.columns c.args.stride c.args.changes.now c.args.ends.now c.args.out.now zero
    (sym c.ascend.ensures ∙ not-false _ c.if-not-ascend.false-raw) (omega (arith, c.ranges.columns))

pub returns : goal.returns
returns c =
    let zero = sym c.in_default.ensures in
    paint-done c.args.one c.args.columns c.args.stride c.args.changes.now c.args.ends.now c.args.out.now
    zero
    (sym c.ascend.ensures ∙ not-false _ c.if-not-ascend.false-raw)
    (c.done.ensures ∙ ap (answer_for 0) c.end_of-end.ensures)
    c.rows.ensures
