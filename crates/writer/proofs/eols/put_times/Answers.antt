-- `writer::eols::put_times` meets its contract. The loop's invariant: the codes that are left come to all. Assumes nothing.
use mathlib.Core.Path.{◌≡◌}
use Prim.Native.Nat.{◌+◌, ◌-◌}
use native.Mathlib.Omega.{arith}
use Rattle.writer.proofs.Owing.{owes-all}
use Rattle.writer.proofs.EolCodes.{times-room, times-less, times-put}
use Rattle.writer.proofs.eols.put_times.Goals as goal

pub loop-init : goal.loop-init
loop-init c =
    let all : c.args.n - 0 ≡ c.args.n = omega arith in
    (rw all (owes-all _ _ _ _), omega (arith, c.requires.0))

pub put-next-requires : goal.put-next-requires
put-next-requires c =
    let l = c.loop in
    times-room c.args.code c.requires.1 c.args.n (c.args.n - l.counter) l.invariant.0 c.requires.2 l.invariant.1

pub loop-preserved : goal.loop-preserved
loop-preserved c =
    let l = c.loop in
    let less : c.args.n - (l.counter + 1) ≡ c.args.n - l.counter - 1 = omega arith in (
      rw less (times-less c.args.code c.requires.1 c.args.n (c.args.n - l.counter) l.invariant.0 c.requires.2 l.invariant.1 c.put-next.ensures),
      omega (arith, c.loop-test.true),
    )

pub put-requires : goal.put-requires
put-requires c =
    let l = c.loop in
    times-room c.args.code c.requires.1 c.args.n (c.args.n - l.counter) l.invariant.0 c.requires.2 l.invariant.1

pub returns : goal.returns
returns c =
    let l = c.loop in
    times-put c.args.code c.requires.1 c.args.n (c.args.n - l.counter) l.invariant.0 c.requires.2 l.invariant.1 c.put.ensures (omega (arith, c.loop-test.false))
