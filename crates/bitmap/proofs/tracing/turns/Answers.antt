-- `bitmap::tracing::turns` meets its contract. The invariant is `Scan`; the word falls with each change. Assumes nothing.
use native.Mathlib.Omega.{arith}
use mathlib.Core.Path.{refl, ap}
use Prim.Native.Nat.{◌-◌}
use lib.Count as Count
use Rattle.bitmap.proofs.Packing.{ones-shifted}
use Rattle.bitmap.proofs.Scanning.{scan-start, scan-few, scan-length, ends-clear, ends-width, zeros-few, word-less, word-falls, scan-room, scan-next}
use Rattle.bitmap.proofs.tracing.turns.Goals as goal

pub overflow_mul-at : goal.overflow_mul-at
overflow_mul-at c =
    let t = c.requires.0 in
    omega (arith, t.small, t.inside)

pub overflow_add-at : goal.overflow_add-at
overflow_add-at c =
    let t = c.requires.0 in
    omega (arith, t.small, t.inside, t.left, t.few)

pub load-requires : goal.load-requires
load-requires c =
    let t = c.requires.0 in
    (omega (arith, t.inside, t.left), omega (arith, t.even), t.small)

pub loop-rest-init : goal.loop-rest-init
loop-rest-init c =
    let t = c.requires.0 in
    scan-start c.args.one c.args.ink c.args.src.now c.args.at c.args.width c.args.from c.args.first
    c.args.write
    c.args.changes.now t.left t.shade c.load.ensures c.shown.ensures c.shown-rest.ensures

pub overflow_cast-z : goal.overflow_cast-z
overflow_cast-z c =
    record { fits = omega (arith, zeros-few c.loop-rest.invariant (Count.count_leading_zeros 64 c.loop-rest.rest) refl c.loop-rest-test.true) }

pub overflow_add-x : goal.overflow_add-x
overflow_add-x c =
    record
    { fits = omega (arith, zeros-few c.loop-rest.invariant (Count.count_leading_zeros 64 c.loop-rest.rest) refl c.loop-rest-test.true, c.requires.0.left, c.requires.0.few) }

pub shape_of-changes-then-width-x : goal.shape_of-changes-then-width-x
shape_of-changes-then-width-x c =
    scan-length c.loop-rest.invariant c.requires.1

pub returns-then-width-x : goal.returns-then-width-x
returns-then-width-x c =
    ends-width c.loop-rest.invariant (Count.count_leading_zeros 64 c.loop-rest.rest) refl c.loop-rest-test.true _ refl refl c.if-width-x.true

pub overflow_cast-x : goal.overflow_cast-x
overflow_cast-x c =
    record { fits = omega (arith, c.if-width-x.false, c.requires.0.few) }

pub note-requires : goal.note-requires
note-requires c =
    scan-room c.loop-rest.invariant (Count.count_leading_zeros 64 c.loop-rest.rest) refl c.loop-rest-test.true c.if-width-x.false
    c.requires.1

pub overflow_add-next : goal.overflow_add-next
overflow_add-next c =
    record { fits = omega (arith, scan-few c.loop-rest.invariant, c.requires.0.low) }

pub overflow_shr-rest : goal.overflow_shr-rest
overflow_shr-rest c =
    zeros-few c.loop-rest.invariant (Count.count_leading_zeros 64 c.loop-rest.rest) refl c.loop-rest-test.true

pub overflow_sub-rest : goal.overflow_sub-rest
overflow_sub-rest c =
    let z = zeros-few c.loop-rest.invariant (Count.count_leading_zeros 64 c.loop-rest.rest) refl
    c.loop-rest-test.true in
    rw (ones-shifted (Count.count_leading_zeros 64 c.loop-rest.rest) z)
    (word-falls c.loop-rest.invariant (Count.count_leading_zeros 64 c.loop-rest.rest) refl c.loop-rest-test.true c.if-width-x.false)

pub loop-rest-smaller : goal.loop-rest-smaller
loop-rest-smaller c =
    let z = zeros-few c.loop-rest.invariant (Count.count_leading_zeros 64 c.loop-rest.rest) refl
    c.loop-rest-test.true in
    rw (ones-shifted (Count.count_leading_zeros 64 c.loop-rest.rest) z)
    (word-less c.loop-rest.invariant (Count.count_leading_zeros 64 c.loop-rest.rest) refl c.loop-rest-test.true)

pub loop-rest-preserved : goal.loop-rest-preserved
loop-rest-preserved c =
    let z = zeros-few c.loop-rest.invariant (Count.count_leading_zeros 64 c.loop-rest.rest) refl
    c.loop-rest-test.true in
    scan-next c.loop-rest.invariant (Count.count_leading_zeros 64 c.loop-rest.rest) refl c.loop-rest-test.true
    c.if-width-x.false c.requires.1 c.note.ensures
    (ap (λ n. n - c.loop-rest.rest) (ones-shifted (Count.count_leading_zeros 64 c.loop-rest.rest) z))

pub shape_of-changes : goal.shape_of-changes
shape_of-changes c =
    scan-length c.loop-rest.invariant c.requires.1

pub returns : goal.returns
returns c =
    ends-clear c.loop-rest.invariant _ refl refl c.loop-rest-test.false
