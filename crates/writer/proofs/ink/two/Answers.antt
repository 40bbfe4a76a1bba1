-- `writer::ink::two` meets its contract. A byte, and one behind it. Assumes nothing.
use Prim.Native.Nat.{◌+◌, ◌*◌}
use native.Mathlib.Omega.{arith}
use Rattle.writer.proofs.Splicing.{byte_next}
use Rattle.writer.proofs.ink.two.Goals as goal

pub returns : goal.returns
returns c =
    byte_next c.args.i 8 ((c.args.i + 1) * 8) c.args.word (omega arith)
    (omega arith) (omega arith) c.one.ensures c.one-2.ensures
