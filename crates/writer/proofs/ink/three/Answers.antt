-- `writer::ink::three` meets its contract. Two bytes, and one behind them. Assumes nothing.
use Prim.Native.Nat.{◌+◌, ◌*◌}
use native.Mathlib.Omega.{arith}
use Rattle.writer.proofs.Splicing.{byte_next}
use Rattle.writer.proofs.ink.three.Goals as goal

pub returns : goal.returns
returns c =
    byte_next c.args.i 16 ((c.args.i + 2) * 8) c.args.word (omega arith)
    (omega arith) (omega arith) c.two.ensures c.one.ensures
