-- `bitmap::tracing::rows` meets its contract. The invariant is `Store`: what is read of the rows before. Assumes nothing.
use native.Mathlib.Omega.{arith}
use Rattle.bitmap.proofs.Tracings.{store-start, store-next, store-all, changes-length, ends-length, row-asks, row-roomy, end-roomy}
use Rattle.bitmap.proofs.tracing.rows.Goals as goal

pub loop-k-init : goal.loop-k-init
loop-k-init c = store-start _ _ _ _ _ _ _ _

pub overflow_mul-k : goal.overflow_mul-k
overflow_mul-k c =
    let r = row-asks c.args.one c.args.width c.args.stride c.args.src.now c.args.count c.args.write
    c.args.changes.now c.args.ends.now c.requires c.loop-k.invariant c.loop-k-test.true in
    record { fits = omega (arith, r.inside, r.small) }

pub row-next-requires : goal.row-next-requires
row-next-requires c =
    let h = c.loop-k-test.true in
    (row-asks c.args.one c.args.width c.args.stride c.args.src.now c.args.count c.args.write c.args.changes.now c.args.ends.now c.requires c.loop-k.invariant h, row-roomy c.args.one c.args.width c.args.stride c.args.src.now c.args.count c.args.write c.args.changes.now c.args.ends.now c.requires c.loop-k.invariant h)

pub note_end-requires : goal.note_end-requires
note_end-requires c =
    end-roomy c.args.one c.args.width c.args.stride c.args.src.now c.args.count c.args.write
    c.args.changes.now c.args.ends.now c.requires c.loop-k.invariant c.loop-k-test.true

pub loop-k-preserved : goal.loop-k-preserved
loop-k-preserved c =
    store-next c.args.one c.args.width c.args.stride c.args.src.now c.args.count c.args.write
    c.args.changes.now c.args.ends.now c.requires c.loop-k.invariant
    c.loop-k-test.true
    c.row-next.ensures c.note_end.ensures

pub shape_of-changes : goal.shape_of-changes
shape_of-changes c =
    changes-length c.args.one c.args.width c.args.stride c.args.src.now c.args.count c.args.write
    c.args.changes.now c.args.ends.now c.requires c.loop-k.invariant

pub shape_of-ends : goal.shape_of-ends
shape_of-ends c =
    ends-length c.args.one c.args.width c.args.stride c.args.src.now c.args.count c.args.write
    c.args.changes.now c.args.ends.now c.requires c.loop-k.invariant

pub returns : goal.returns
returns c =
    store-all c.args.one c.args.width c.args.stride c.args.src.now c.args.count c.args.write
    c.args.changes.now c.args.ends.now c.requires c.loop-k.invariant c.loop-k-test.false
