-- `bit_reader::peek13` meets its contract: the 13 bits are a part of the word from their byte on. Assumes nothing.
use Prim.Native.Nat.{◌-◌, ◌%◌}
use native.Mathlib.Omega.{arith}
use Rattle.rules.specs.Bits.{bits_of}
use Rattle.bit_reader.proofs.Window.{part}
use borrow.Author.Rules.{rules}
use Rattle.bit_reader.proofs.peek13.Goals as goal

pub returns : goal.returns
returns c =
    let a = c.args in
    record {
      value = rw c.word.ensures (part 64 13 (51 - a.at % 8) a.at (bits_of a.src.now) (omega arith));
      small = search rules;
    }
