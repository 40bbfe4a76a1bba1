-- `bitmap::painting::rows` meets its contract. The invariant: painting the rows that are left gives what painting all of them does.
-- Assumes nothing.
use native.Mathlib.Omega.{arith}
use mathlib.Core.Path.{◌≡◌, refl, ◌∙◌}
use Prim.Native.Nat.{◌+◌, ◌-◌, ◌*◌, ◌/◌}
use native.Mathlib.Nat.{zero-mul}
use lib.ListN.{length, get_or, take, drop, length-drop}
use lib.Seq.{length-take-le}
use Rattle.row_store.proofs.GoodRows.{good}
use Rattle.bitmap.proofs.RowBytes.{row_room, length-row, laid-length, painted-next, painted-all}
use Rattle.bitmap.proofs.painting.rows.Goals as goal

pub loop-k-init : goal.loop-k-init
loop-k-init c =
    (c.requires.good, refl, rw (zero-mul c.args.stride) refl)

pub overflow_mul-at : goal.overflow_mul-at
overflow_mul-at c =
    let g = good c.args.width c.args.changes.now c.loop-k.base c.args.ends.now c.loop-k.k
    c.loop-k-test.true c.loop-k.invariant.0 in
    let r = row_room c.args.width c.args.stride (length c.args.ends.now) c.loop-k.k (length c.args.out.now)
    c.loop-k-test.true c.requires.room in
    record { fits = omega (arith, r) }

pub overflow_add-to : goal.overflow_add-to
overflow_add-to c =
    let g = good c.args.width c.args.changes.now c.loop-k.base c.args.ends.now c.loop-k.k
    c.loop-k-test.true c.loop-k.invariant.0 in
    let r = row_room c.args.width c.args.stride (length c.args.ends.now) c.loop-k.k (length c.args.out.now)
    c.loop-k-test.true c.requires.room in
    record { fits = omega (arith, r) }

pub offset_bounds-changes-base : goal.offset_bounds-changes-base
offset_bounds-changes-base c =
    let g = good c.args.width c.args.changes.now c.loop-k.base c.args.ends.now c.loop-k.k
    c.loop-k-test.true c.loop-k.invariant.0 in
    let r = row_room c.args.width c.args.stride (length c.args.ends.now) c.loop-k.k (length c.args.out.now)
    c.loop-k-test.true c.requires.room in
    omega (arith, g.low, g.high)

pub slice_bounds-row_or_blank-count : goal.slice_bounds-row_or_blank-count
slice_bounds-row_or_blank-count c =
    let g = good c.args.width c.args.changes.now c.loop-k.base c.args.ends.now c.loop-k.k
    c.loop-k-test.true c.loop-k.invariant.0 in
    let r = row_room c.args.width c.args.stride (length c.args.ends.now) c.loop-k.k (length c.args.out.now)
    c.loop-k-test.true c.requires.room in
    g.low

pub slice_bounds-row_or_blank-start : goal.slice_bounds-row_or_blank-start
slice_bounds-row_or_blank-start c =
    let g = good c.args.width c.args.changes.now c.loop-k.base c.args.ends.now c.loop-k.k
    c.loop-k-test.true c.loop-k.invariant.0 in
    let r = row_room c.args.width c.args.stride (length c.args.ends.now) c.loop-k.k (length c.args.out.now)
    c.loop-k-test.true c.requires.room in
    g.low

pub slice_bounds-row_or_blank-end : goal.slice_bounds-row_or_blank-end
slice_bounds-row_or_blank-end c =
    let g = good c.args.width c.args.changes.now c.loop-k.base c.args.ends.now c.loop-k.k
    c.loop-k-test.true c.loop-k.invariant.0 in
    let r = row_room c.args.width c.args.stride (length c.args.ends.now) c.loop-k.k (length c.args.out.now)
    c.loop-k-test.true c.requires.room in
    g.high

pub slice_bounds-row_or_blank-count-in-loop-k : goal.slice_bounds-row_or_blank-count-in-loop-k
slice_bounds-row_or_blank-count-in-loop-k c = omega arith

pub slice_bounds-row_or_blank-start-in-loop-k : goal.slice_bounds-row_or_blank-start-in-loop-k
slice_bounds-row_or_blank-start-in-loop-k c = omega arith

pub slice_bounds-row_or_blank-end-in-loop-k : goal.slice_bounds-row_or_blank-end-in-loop-k
slice_bounds-row_or_blank-end-in-loop-k c =
    let g = good c.args.width c.args.changes.now c.loop-k.base c.args.ends.now c.loop-k.k
    c.loop-k-test.true c.loop-k.invariant.0 in
    let r = row_room c.args.width c.args.stride (length c.args.ends.now) c.loop-k.k (length c.args.out.now)
    c.loop-k-test.true c.requires.room in
    omega (arith, r, c.loop-k.invariant.1)

pub row_or_blank-requires : goal.row_or_blank-requires
row_or_blank-requires c =
    let g = good c.args.width c.args.changes.now c.loop-k.base c.args.ends.now c.loop-k.k
    c.loop-k-test.true c.loop-k.invariant.0 in
    let r = row_room c.args.width c.args.stride (length c.args.ends.now) c.loop-k.k (length c.args.out.now)
    c.loop-k-test.true c.requires.room in
    let at = c.loop-k.k * c.args.stride in
    let n = at + (c.args.width + 7) / 8 - at in
    let size = length-take-le n (drop at c.loop-k.out) (omega (arith, r, length-drop at c.loop-k.out, c.loop-k.invariant.1)) in
    record { some = c.requires.some; few = omega (arith, c.requires.few); rises = g.rises; size = omega (arith, size) }

pub loop-k-smaller : goal.loop-k-smaller
loop-k-smaller c = omega arith

pub loop-k-preserved : goal.loop-k-preserved
loop-k-preserved c =
    let g = good c.args.width c.args.changes.now c.loop-k.base c.args.ends.now c.loop-k.k
    c.loop-k-test.true c.loop-k.invariant.0 in
    let r = row_room c.args.width c.args.stride (length c.args.ends.now) c.loop-k.k (length c.args.out.now)
    c.loop-k-test.true c.requires.room in
    let at = c.loop-k.k * c.args.stride in
    let n = at + (c.args.width + 7) / 8 - at in
    let row = take (get_or c.args.ends.now c.loop-k.k 0 - c.loop-k.base) (drop c.loop-k.base c.args.changes.now) in
    let is = c.row_or_blank.ensures in
    let m : (c.args.width + 7) / 8 ≡ n = omega arith in (
      g.rest,
      laid-length at n ((c.args.width + 7) / 8) c.loop-k.out is (length-row c.args.one c.args.width row) m
          (omega (arith, r, c.loop-k.invariant.1)) ∙ c.loop-k.invariant.1,
      painted-next c.args.one c.args.width c.args.stride c.args.changes.now c.loop-k.base c.loop-k.k
          c.args.ends.now c.loop-k.out _
          c.loop-k-test.true (omega (arith, r, c.loop-k.invariant.1)) is c.loop-k.invariant.2,
    )

pub shape_of-out : goal.shape_of-out
shape_of-out c = c.loop-k.invariant.1

pub returns : goal.returns
returns c =
    painted-all c.args.one c.args.width c.args.stride c.args.changes.now (c.loop-k.k * c.args.stride) c.loop-k.base
    c.loop-k.k c.args.ends.now c.loop-k.out c.loop-k-test.false c.loop-k.invariant.2
