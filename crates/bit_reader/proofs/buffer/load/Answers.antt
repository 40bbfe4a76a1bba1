-- `bit_reader::buffer::load` meets its contract: of the 64 bits, those before the offset are shifted out. Assumes nothing.
use mathlib.Core.Path.{refl}
use Prim.Native.Nat.{◌-◌, ◌%◌}
use native.Mathlib.Omega.{arith}
use Rattle.rules.specs.Bits.{bits_of}
use Rattle.bit_reader.proofs.Window.{top-at}
use Rattle.bit_reader.proofs.buffer.load.Goals as goal

pub returns : goal.returns
returns c =
    let a = c.args in
    record {
      place = refl;
      loaded =
          record {
            live = 64 - a.at % 8;
            most = omega arith;
            holds = rw c.word-w.ensures (top-at a.at (bits_of a.src.now));
            enough = omega arith;
            reached = omega arith;
            inside = omega arith;
          };
    }
