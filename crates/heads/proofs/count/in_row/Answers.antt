-- `heads::count::in_row` meets its contract. The invariant: what is counted, and the black pixels that are left, are all of them. Assumes nothing.
use native.Mathlib.Omega.{arith}
use Rattle.heads.proofs.Runs.{few, counts-on, counts-out, cut_low, cut_high}
use Rattle.heads.proofs.count.in_row.Goals as goal

pub loop-change-init : goal.loop-change-init
loop-change-init c = (omega arith, omega arith, omega arith, omega arith, omega arith)

pub overflow_sub-turn : goal.overflow_sub-turn
overflow_sub-turn c = cut_low _ c.loop-change.invariant.1 c.clip-turn.ensures

pub overflow_add-count : goal.overflow_add-count
overflow_add-count c =
    let low = cut_low _ c.loop-change.invariant.1 c.clip-turn.ensures in
    let high = cut_high _ c.loop-change.invariant.1 c.clip-turn.ensures in
    omega (arith, few c.loop-change.black _ c.if_black-count.ensures, c.ranges.right)

pub loop-change-preserved : goal.loop-change-preserved
loop-change-preserved c =
    let low = cut_low _ c.loop-change.invariant.1 c.clip-turn.ensures in
    let high = cut_high _ c.loop-change.invariant.1 c.clip-turn.ensures in (
      omega (arith, c.loop-change.invariant.0),
      high,
      omega (arith, c.loop-change.invariant.2, few c.loop-change.black _ c.if_black-count.ensures),
      omega arith,
      counts-on c.loop-change.count c.loop-change.at c.args.right c.loop-change.black c.args.row.now c.loop-change.change-index c.loop-change.invariant.1 c.loop-change-test.true
          c.clip-turn.ensures c.if_black-count.ensures c.loop-change.invariant.4,
    )

pub overflow_sub-right : goal.overflow_sub-right
overflow_sub-right c = omega arith

pub overflow_add-result : goal.overflow_add-result
overflow_add-result c = omega (arith, few c.loop-change.black _ c.if_black.ensures, c.ranges.right)

pub returns : goal.returns
returns c =
    counts-out c.loop-change.count c.loop-change.at c.args.right c.loop-change.black c.args.row.now c.loop-change.change-index c.loop-change-test.false c.if_black.ensures c.loop-change.invariant.4
