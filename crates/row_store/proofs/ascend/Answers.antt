-- `row_store::ascend` meets its contract. The loop's invariant: the test of the rows that are left is that of all. Assumes nothing.
use mathlib.Core.Path.{sym, ◌∙◌}
use Rattle.row_store.proofs.GoodRows.{good-past, good-falls, good-passes, good-not, good-next}
use Rattle.row_store.proofs.ascend.Goals as goal
use Rattle.row_store.proofs.ascend.Goals.{then-end-base-via-then-end-base, then-end-base-via-else-end-base+then-changes-end, then-end-base-via-else-end-base+else-changes-end+then-not-ascends}

pub returns-then-end-base : goal.returns-then-end-base
returns-then-end-base c =
    elim c.then-end-base.branch [
      | then-end-base-via-then-end-base w ↦ good-falls c.args.width c.args.changes.now c.loop-row_end.base c.args.ends.now c.loop-row_end.row_end-index
          c.loop-row_end-test.true w.if-end-base.true
          ∙ c.loop-row_end.invariant.1
      | then-end-base-via-else-end-base+then-changes-end w ↦ good-passes c.args.width c.args.changes.now c.loop-row_end.base c.args.ends.now c.loop-row_end.row_end-index
          c.loop-row_end-test.true w.if-end-base.false w.if-changes-end.true
          ∙ c.loop-row_end.invariant.1
      | then-end-base-via-else-end-base+else-changes-end+then-not-ascends w ↦ good-not c.args.width c.args.changes.now c.loop-row_end.base c.args.ends.now c.loop-row_end.row_end-index
          c.loop-row_end-test.true w.if-end-base.false w.if-changes-end.false
          (sym w.ascends.ensures ∙ w.if-not-ascends.true)
          ∙ c.loop-row_end.invariant.1
    ]

pub loop-row_end-preserved : goal.loop-row_end-preserved
loop-row_end-preserved c = (
  c.if-changes-end.false,
  good-next c.args.width c.args.changes.now c.loop-row_end.base c.args.ends.now
      c.loop-row_end.row_end-index c.loop-row_end-test.true c.if-end-base.false c.if-changes-end.false
      (sym c.ascends.ensures ∙ c.if-not-ascends.false) ∙ c.loop-row_end.invariant.1,
)

pub returns : goal.returns
returns c =
    good-past c.args.width c.args.changes.now c.loop-row_end.base c.args.ends.now c.loop-row_end.row_end-index c.loop-row_end-test.false
    ∙ c.loop-row_end.invariant.1
