-- `writer::same_eols::same_times` meets its contract. The loop's invariant: the codes that are left come to all. Assumes nothing.
use mathlib.Core.Path.{◌≡◌, refl}
use Prim.Native.Nat.{◌+◌, ◌-◌}
use native.Mathlib.Omega.{arith}
use Rattle.rules.specs.Bits.{bits_for}
use Rattle.writer.proofs.Leaving.{left-all, passed_on}
use Rattle.writer.proofs.CodesMet3.{times-parts, times-on, times-met}
use Rattle.writer.proofs.same_eols.same_times.Goals as goal

pub loop-init : goal.loop-init
loop-init c =
    let all : c.args.n - 0 ≡ c.args.n = omega arith in
    (rw all (left-all _ c.requires.2), omega (arith, c.requires.0))

pub meet-requires : goal.meet-requires
meet-requires c = (c.loop.invariant.0.loading, c.requires.1)

pub returns-in_err-next : goal.returns-in_err-next
returns-in_err-next c = passed_on _ c.from_residual.ensures.1 (times-parts (bits_for c.args.code.size c.args.code.word) c.args.n (c.args.n - c.loop.counter) c.loop.invariant.0 c.loop.invariant.1 c.in_err-next.ensures refl)

pub loop-preserved : goal.loop-preserved
loop-preserved c =
    let less : c.args.n - (c.loop.counter + 1) ≡ c.args.n - c.loop.counter - 1 = omega arith in (
      rw less (times-on (bits_for c.args.code.size c.args.code.word) c.args.n (c.args.n - c.loop.counter) c.loop.invariant.0 c.loop.invariant.1 c.in_ok-next.ensures refl),
      omega (arith, c.loop-test.true),
    )

pub meet-requires-2 : goal.meet-requires-2
meet-requires-2 c = (c.loop.invariant.0.loading, c.requires.1)

pub returns : goal.returns
returns c = times-met (bits_for c.args.code.size c.args.code.word) c.args.n (c.args.n - c.loop.counter) c.loop.invariant.0 c.loop.invariant.1 c.meet-2.ensures (omega (arith, c.loop-test.false))
