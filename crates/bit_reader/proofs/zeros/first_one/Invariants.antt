-- `bit_reader::zeros::first_one` meets its contract. The invariant: no one stands before byte `i`. Assumes nothing.
use Prim.Native.Nat.{◌+◌, ◌*◌}
use Rattle.bit_reader.proofs.Clear.{Clear}
use Rattle.bit_reader.proofs.zeros.first_one.Given as goal

abbrev pub invariant-loop-k : goal.invariant-loop-k
invariant-loop-k l = Clear l.src l.from ((l.next + 8 * l.k) * 8)
