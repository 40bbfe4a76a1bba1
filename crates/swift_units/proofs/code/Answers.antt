use Rattle.swift_loops.proofs.Beside.{one-sided}
use Rattle.swift_loops.proofs.Swiftly.{sides-bit, side-bit}
use Rattle.codes.proofs.Modes.{top-mode, top-sided}
use Rattle.rules.specs.Modes.{Mode, pass, horizontal, moded, mode_for}
use Rattle.rules.specs.Runs.{ok}
use native.Mathlib.Omega.{arith}
use Prim.Native.Nat.{◌+◌, ◌*◌, ◌/◌, ◌%◌, ◌^◌}
use mathlib.Core.Path.{refl, ap, ◌∙◌}
use Rattle.swift_units.proofs.code.Goals as goal

-- src/lib.rt:248:14
pub vertical-requires : goal.vertical-requires
vertical-requires c = (one-sided c.bit_of.result c.args.bits c.bit_of.ensures c.requires.0, c.requires.2)

-- src/lib.rt:262:14
pub vertical-requires-in-4 : goal.vertical-requires-in-4
vertical-requires-in-4 c =
    let bit = c.bit_of-in-4 in (
      record {
        asks = c.requires.0;
        some_pixels = omega arith;
        few = omega arith;
        small = omega (arith, bit.ensures);
        sides = sides-bit bit.result 2 (4 * bit.result) (omega (arith, bit.ensures)) (λ e. omega arith) (λ e. omega arith);
        some_bits = omega arith;
        short = omega arith;
      },
      c.requires.2,
    )

-- src/lib.rt:274:14
pub vertical-requires-in-5 : goal.vertical-requires-in-5
vertical-requires-in-5 c =
    let bit = c.bit_of-in-5 in (
      record {
        asks = c.requires.0;
        some_pixels = omega arith;
        few = omega arith;
        small = omega (arith, bit.ensures);
        sides = sides-bit bit.result 3 (6 * bit.result) (omega (arith, bit.ensures)) (λ e. omega arith) (λ e. omega arith);
        some_bits = omega arith;
        short = omega arith;
      },
      c.requires.2,
    )

-- src/lib.rt:231:1
pub returns-in-1 : goal.returns-in-1
unfolding mode_for
returns-in-1 c = λ bytes live h k.
    let a = c.args in
    let bit = c.bit_of in
    c.vertical.ensures bytes
    (top-sided h (omega arith) c.in-1.is (omega arith) 1 3 (λ side. refl) (omega arith)
    ∙ ap (λ (m : Mode). ok (moded (a.s.at + 3) m))
    (side-bit (a.bits / 2 ^ 61 % 2) 1 (2 * bit.result) (omega arith) (omega arith)
    (λ e. omega (arith, bit.ensures)) (λ e. omega (arith, bit.ensures))))

-- src/lib.rt:231:1
pub returns-in-2 : goal.returns-in-2
unfolding mode_for
returns-in-2 c = λ bytes live h k. c.two_runs.ensures bytes live h k (top-mode h (omega arith) c.in-2.is (omega arith) horizontal 3 (λ side. refl) (omega arith))

-- src/lib.rt:231:1
pub returns-in-3 : goal.returns-in-3
unfolding mode_for
returns-in-3 c = λ bytes live h k. c.to_b2.ensures bytes (top-mode h (omega arith) c.in-3.is (omega arith) pass 4 (λ side. refl) (omega arith))

-- src/lib.rt:231:1
pub returns-in-4 : goal.returns-in-4
unfolding mode_for
returns-in-4 c = λ bytes live h k.
    let a = c.args in
    let bit = c.bit_of-in-4 in
    c.vertical-in-4.ensures bytes
    (top-sided h (omega arith) c.in-4.is (omega arith) 2 6 (λ side. refl) (omega arith)
    ∙ ap (λ (m : Mode). ok (moded (a.s.at + 6) m))
    (side-bit (a.bits / 2 ^ 58 % 2) 2 (4 * bit.result) (omega arith) (omega arith)
    (λ e. omega (arith, bit.ensures)) (λ e. omega (arith, bit.ensures))))

-- src/lib.rt:231:1
pub returns-in-5 : goal.returns-in-5
unfolding mode_for
returns-in-5 c = λ bytes live h k.
    let a = c.args in
    let bit = c.bit_of-in-5 in
    c.vertical-in-5.ensures bytes
    (top-sided h (omega arith) c.in-5.is (omega arith) 3 7 (λ side. refl) (omega arith)
    ∙ ap (λ (m : Mode). ok (moded (a.s.at + 7) m))
    (side-bit (a.bits / 2 ^ 57 % 2) 3 (6 * bit.result) (omega arith) (omega arith)
    (λ e. omega (arith, bit.ensures)) (λ e. omega (arith, bit.ensures))))
