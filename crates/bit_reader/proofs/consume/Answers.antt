-- `bit_reader::consume` meets its contract: its test is the definition's. Assumes nothing.
use Prim.Native.Nat.{◌+◌, ◌*◌}
use native.Mathlib.Omega.{arith}
use borrow.Author.Tests.{le-leb, lt-leb}
use Rattle.bit_reader.proofs.consume.Goals as goal

pub returns-then-next-len : goal.returns-then-next-len
returns-then-next-len c =
    let a = c.args in
    rw (le-leb (a.at + a.n) (8 * a.len) (omega arith))

pub returns : goal.returns
returns c =
    let a = c.args in
    rw (lt-leb (a.at + a.n) (8 * a.len) (omega arith))
