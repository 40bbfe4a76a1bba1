-- `reader::cursor::take` meets its contract: each of its tests is one of the definition's. Assumes nothing.
use mathlib.Core.Path.{sym, ◌∙◌}
use native.Mathlib.Omega.{arith}
use lib.ListN.{length}
use Rattle.reader.proofs.Laws.{went-nowhere, went-to-end, went_on}
use Rattle.reader.proofs.cursor.take.Goals as goal

pub returns-then-len-gt-MOST_BYTES : goal.returns-then-len-gt-MOST_BYTES
returns-then-len-gt-MOST_BYTES c =
    let a = c.args in
    went-nowhere (length a.src.now) a.at a.n (omega arith)

pub returns-then-end-at : goal.returns-then-end-at
returns-then-end-at c =
    let a = c.args in
    went-to-end (length a.src.now) a.at a.n (omega arith) (omega arith)

pub returns-then-end-at-2 : goal.returns-then-end-at-2
returns-then-end-at-2 c =
    let a = c.args in
    went-to-end (length a.src.now) a.at a.n (omega arith) (omega arith)

pub returns-in-Some : goal.returns-in-Some
returns-in-Some c =
    let a = c.args in
    went_on (length a.src.now) a.at a.n (omega arith) _ (sym c.in-Some.is ∙ c.consume.ensures)

pub returns-in-None : goal.returns-in-None
returns-in-None c =
    let a = c.args in
    went_on (length a.src.now) a.at a.n (omega arith) _ (sym c.in-None.is ∙ c.consume.ensures)
