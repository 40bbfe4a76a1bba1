-- `bitmap::tracing::row` meets its contract. The invariant is `Read`: what is read of the words before. Assumes nothing.
use native.Mathlib.Omega.{arith}
use Rattle.bitmap.proofs.Tracings.{read-start, read_next, read_all, read_length, word_room, word-asks}
use Rattle.bitmap.proofs.tracing.row.Goals as goal

pub loop-from-init : goal.loop-from-init
loop-from-init c = read-start _ _ _ _ _

pub turns-t-requires : goal.turns-t-requires
turns-t-requires c =
    let h = c.loop-from-test.true in
    (word-asks c.args.one c.args.width c.args.src.now c.args.at c.args.first c.requires.0 c.loop-from.invariant h, word_room c.loop-from.invariant c.requires.1 h)

pub overflow_add-from : goal.overflow_add-from
overflow_add-from c =
    record { fits = omega (arith, c.loop-from.invariant.near, c.requires.0.few) }

pub loop-from-smaller : goal.loop-from-smaller
loop-from-smaller c =
    omega (arith, c.loop-from-test.true)

pub loop-from-preserved : goal.loop-from-preserved
loop-from-preserved c =
    read_next c.loop-from.invariant c.requires.1 c.loop-from-test.true c.turns-t.ensures

pub shape_of-changes : goal.shape_of-changes
shape_of-changes c =
    read_length c.loop-from.invariant c.requires.1

pub returns : goal.returns
returns c = read_all c.loop-from.invariant c.loop-from-test.false
