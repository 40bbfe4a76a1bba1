-- `bitmap::painting::row` meets its contract. The invariant: so many bytes stand, and what the next word asks. Assumes nothing.
use native.Mathlib.Omega.{arith}
use mathlib.Core.Path.{◌≡◌, refl, ◌∙◌}
use Prim.Native.Nat.{◌+◌, ◌-◌, ◌*◌}
use lib.ListN.{length}
use Rattle.bitmap.proofs.RowBytes.{standing-start, word-inside, shown-word, bytes-none, bytes_next, bytes-all}
use Rattle.bitmap.proofs.painting.row.Goals as goal

pub loop-i-init : goal.loop-i-init
loop-i-init c =
    let s = c.requires in
    (standing-start s.rises, s.some, refl, bytes-none _ _ _)

pub overflow_add-i : goal.overflow_add-i
overflow_add-i c =
    let l = c.loop-i.invariant in
    record { fits = omega (arith, l.1, c.requires.few) }

pub overflow_mul-i : goal.overflow_mul-i
overflow_mul-i c =
    let l = c.loop-i.invariant in
    record { fits = omega (arith, l.1, c.requires.few) }

pub word-w-requires : goal.word-w-requires
word-w-requires c =
    let l = c.loop-i.invariant in
    (l.0, omega (arith, l.1, c.requires.few))

pub eight-requires : goal.eight-requires
eight-requires c = omega arith

pub overflow_add-i-in-loop-i : goal.overflow_add-i-in-loop-i
overflow_add-i-in-loop-i c =
    let l = c.loop-i.invariant in
    record { fits = omega (arith, l.1, c.requires.few) }

pub loop-i-smaller : goal.loop-i-smaller
loop-i-smaller c =
    omega (arith, c.loop-i.invariant.2, c.loop-i-test.true)

pub loop-i-preserved : goal.loop-i-preserved
loop-i-preserved c =
    let t = c.loop-i-test.true in
    let w = c.word-w.ensures in
    let e : 8 * c.loop-i.i + 64 ≡ 8 * (c.loop-i.i + 8) = omega arith in
    let i = c.loop-i.i in
    let bits = shown-word c.args.one c.args.width c.args.row.now (8 * i)
    (word-inside w (omega (arith, c.loop-i.invariant.2, c.requires.size, t))) c.shown.ensures in (
      rw (← e) w.standing,
      omega (arith, c.loop-i.invariant.2, c.requires.size, t),
      c.eight.ensures.size ∙ c.loop-i.invariant.2,
      bytes_next c.args.one c.args.width c.args.row.now 8 i _ (omega arith) bits c.eight.ensures
          c.loop-i.invariant.3,
    )

pub overflow_mul-i-2 : goal.overflow_mul-i-2
overflow_mul-i-2 c =
    let l = c.loop-i.invariant in
    record { fits = omega (arith, l.1, c.requires.few) }

pub last-requires : goal.last-requires
last-requires c =
    let l = c.loop-i.invariant in
    let s = c.requires in
    (l.0, l.1, omega (arith, l.2, s.size, c.loop-i-test.false))

pub overflow_add-i-2 : goal.overflow_add-i-2
overflow_add-i-2 c =
    let l = c.loop-i.invariant in
    record { fits = omega (arith, l.1, c.requires.few) }

pub eight-requires-then-i-out : goal.eight-requires-then-i-out
eight-requires-then-i-out c = omega (arith, c.if-i-out.true)

pub shape_of-out-then-i-out : goal.shape_of-out-then-i-out
shape_of-out-then-i-out c = c.eight-then-i-out.ensures.size ∙ c.loop-i.invariant.2

pub returns-then-i-out : goal.returns-then-i-out
returns-then-i-out c =
    let i = c.loop-i.i in
    let bits = shown-word c.args.one c.args.width c.args.row.now (8 * i)
    c.last.ensures c.shown-bits.ensures in
    let size = c.loop-i.invariant.2 ∙ c.requires.size in
    bytes-all c.args.one c.args.width c.args.row.now (i + 8) (c.eight-then-i-out.ensures.size ∙ size)
    (omega (arith, size, c.if-i-out.true))
    (bytes_next c.args.one c.args.width c.args.row.now 8 i _ (omega arith) bits c.eight-then-i-out.ensures c.loop-i.invariant.3)

pub rest-requires : goal.rest-requires
rest-requires c =
    (omega (arith, c.loop-i.invariant.1, c.loop-i.invariant.2, c.requires.size), omega (arith, c.loop-i-test.false))

pub shape_of-out : goal.shape_of-out
shape_of-out c = c.rest.ensures.size ∙ c.loop-i.invariant.2

pub returns : goal.returns
returns c =
    let i = c.loop-i.i in
    let bits = shown-word c.args.one c.args.width c.args.row.now (8 * i)
    c.last.ensures c.shown-bits.ensures in
    let size = c.loop-i.invariant.2 ∙ c.requires.size in
    let n = length c.loop-i.out - i in
    bytes-all c.args.one c.args.width c.args.row.now (i + n) (c.rest.ensures.size ∙ size)
    (omega (arith, size, c.loop-i.invariant.1))
    (bytes_next c.args.one c.args.width c.args.row.now n i _ (omega (arith, c.loop-i-test.false)) bits c.rest.ensures c.loop-i.invariant.3)
