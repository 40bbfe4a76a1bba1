-- `bit_reader::peek` meets its contract: the 32 bits are a part of the word from their byte on. Assumes nothing.
use Prim.Native.Nat.{◌-◌, ◌%◌}
use native.Mathlib.Omega.{arith}
use Rattle.rules.specs.Bits.{bits_of}
use Rattle.bit_reader.proofs.Window.{part}
use Rattle.bit_reader.proofs.peek.Goals as goal

pub returns : goal.returns
returns c =
    let a = c.args in
    rw c.word.ensures (part 64 32 (32 - a.at % 8) a.at (bits_of a.src.now) (omega arith))
