-- `reader::cursor::align` meets its contract: its test is the definition's. Assumes nothing.
use borrow.Author.Tests.{le-leb, lt-leb}
use native.Mathlib.Omega.{arith}
use Rattle.bit_reader.specs.Cursor.{most_bits}
use Rattle.reader.proofs.cursor.align.Goals as goal

pub returns-then-at-le-MOST_BITS : goal.returns-then-at-le-MOST_BITS
returns-then-at-le-MOST_BITS c =
    let a = c.args in
    rw (le-leb a.at most_bits (omega arith)) c.align.ensures

pub returns : goal.returns
returns c =
    let a = c.args in
    rw (lt-leb a.at most_bits (omega arith))
