-- `bit_reader::ahead` meets its contract: of the 64 bits from its byte, those before the offset are shifted out. Assumes nothing.
use mathlib.Core.Path.{◌∙◌}
use Prim.Native.Nat.{◌/◌}
use native.Mathlib.Omega.{arith}
use Rattle.rules.specs.Bits.{bits_of}
use Rattle.bit_reader.proofs.Window.{eight, top-at}
use Rattle.bit_reader.proofs.ahead.Goals as goal

pub returns : goal.returns
returns c =
    let a = c.args in
    record {
      most = omega arith;
      there = omega arith;
      holds =
          rw (c.fast.ensures ∙ eight a.src.now (λ i. omega (arith, c.type_inv.src i)) (a.at / 8))
          (top-at a.at (bits_of a.src.now));
    }
