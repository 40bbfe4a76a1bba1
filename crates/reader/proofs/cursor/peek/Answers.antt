-- `reader::cursor::peek` meets its contract: at the end of the data, which the core's peek does not pass, there are only zeros. Assumes nothing.
use mathlib.Core.Path.{◌≡◌}
use mathlib.Core.Bool.{true, false}
use Prim.Native.Nat.{◌*◌}
use native.Mathlib.Omega.{arith}
use lib.Dec.{leb}
use lib.ListN.{length}
use borrow.Author.Tests.{leb-false}
use Rattle.reader.proofs.Laws.{peek-past}
use Rattle.reader.proofs.cursor.peek.Goals as goal

pub returns-then-at_end : goal.returns-then-at_end
returns-then-at_end c =
    let a = c.args in
    let e : leb (8 * length a.src.now) a.at ≡ true = cc in
    peek-past a.src.now a.at e

pub peek-requires : goal.peek-requires
peek-requires c =
    let a = c.args in
    let e : leb (8 * length a.src.now) a.at ≡ false = cc in
    omega (arith, leb-false (8 * length a.src.now) a.at e)
