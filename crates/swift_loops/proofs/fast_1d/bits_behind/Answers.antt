-- A shift, or bits loaded anew.
use Prim.Native.Nat.{◌+◌, ◌-◌, ◌%◌}
use native.Mathlib.Omega.{arith}
use Rattle.bit_reader.proofs.Window.{ahead-shift}
use Rattle.swift_loops.proofs.fast_1d.bits_behind.Goals as goal

pub returns-then-size-le44 : goal.returns-then-size-le44
returns-then-size-le44 c = λ live h k far. record { live = live - c.args.size; enough = omega (arith, c.if-size-le44.true); next = ahead-shift h c.args.size (omega (arith, c.if-size-le44.true)) }

pub returns-then-last-at : goal.returns-then-last-at
returns-then-last-at c = λ live h k far. absurd (omega (arith, c.requires.last-is, c.if-last-at.true))

pub returns : goal.returns
returns c = λ live h k far. record { live = 64 - (c.args.at + c.args.size) % 8; enough = omega arith; next = c.ahead.ensures }
