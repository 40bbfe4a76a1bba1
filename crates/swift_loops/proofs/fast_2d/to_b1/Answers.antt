use Prim.Native.Nat.{ℕ}
use mathlib.Core.Path.{◌≡◌, refl, sym, ◌∙◌}
use native.Mathlib.Omega.{arith}
use Rattle.rules.specs.Modes.{VR, mode_for}
use Rattle.codes.proofs.Modes.{top-mode}
use Rattle.swift_loops.proofs.Swiftly.{noted-part, ready-part, asks-place, straight-code}
use Rattle.swift_loops.proofs.Beside.{first-turned, one-sided, one-read}
use Rattle.swift_loops.proofs.fast_2d.to_b1.Goals as goal

pub note-count-requires : goal.note-count-requires
note-count-requires c = ready-part c.requires.0.ready

pub overflow_add-result-then-zeros-eq0 : goal.overflow_add-result-then-zeros-eq0
overflow_add-result-then-zeros-eq0 c = omega (arith, asks-place c.requires.0)

pub returns-then-zeros-eq0 : goal.returns-then-zeros-eq0
unfolding mode_for
returns-then-zeros-eq0 c =
    let q = c.requires in
    let noted = noted-part q.0.ready.placed.1 c.note-count.ensures in
    record {
      took = λ bytes live h k. (
        (straight-code q.0.ready noted bytes
            (top-mode h k (sym q.1 ∙ c.if-zeros-eq0.true) (omega arith) (VR 0) 1 (λ side. refl) (omega arith))
            ).walked,
        omega arith,
      );
      turned = (first-turned q.0 noted, omega arith, omega arith);
    }

pub vertical-requires : goal.vertical-requires
vertical-requires c = one-sided _ _ c.bit_of.ensures c.requires.0

pub returns : goal.returns
returns c =
    let q = c.requires in
    let one : ◌≡◌ {A = ℕ} c.args.zeros 1 = omega (arith, q.2, c.if-zeros-eq0.false) in
    record {
      took = λ bytes live h k. c.vertical.ensures.0 bytes (one-read _ _ c.bit_of.ensures h k (sym q.1 ∙ one));
      turned = c.vertical.ensures.1;
    }
