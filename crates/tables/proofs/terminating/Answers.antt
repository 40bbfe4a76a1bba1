-- Each way reads a row of its colour's table.
use Rattle.rules.specs.Codes.{white, black, terminating_of}
use Rattle.tables.proofs.Rows.{terminating-at}
use Rattle.tables.proofs.terminating.Goals as goal

pub returns-then-colour-eq0 : goal.returns-then-colour-eq0
unfolding terminating_of
returns-then-colour-eq0 c =
    terminating-at white _ _ c.if-colour-eq0.true c.requires.1.of_white c.from_row.ensures

pub returns-else-colour-eq0 : goal.returns-else-colour-eq0
unfolding terminating_of
returns-else-colour-eq0 c =
    terminating-at black _ _ c.if-colour-eq0.false c.requires.1.of_black c.from_row-else-colour-eq0.ensures
