-- The first way reads a row that both colours share, and each other way a row of its colour's table.
use borrow.Author.Rules.{rules}
use Rattle.rules.specs.Codes.{white, black}
use Rattle.tables.proofs.Rows.{own_of, own_at, common-at}
use Rattle.tables.proofs.makeup.Goals as goal

pub returns-then-m-gt27 : goal.returns-then-m-gt27
returns-then-m-gt27 c = common-at _ _ (search rules) c.requires.2.of_both c.from_row.ensures

pub returns-then-colour-eq0 : goal.returns-then-colour-eq0
unfolding own_of
returns-then-colour-eq0 c =
    own_at white _ _ c.if-colour-eq0.true (search rules) c.requires.2.of_white c.from_row-then-colour-eq0.ensures

pub returns-else-colour-eq0 : goal.returns-else-colour-eq0
unfolding own_of
returns-else-colour-eq0 c =
    own_at black _ _ c.if-colour-eq0.false (search rules) c.requires.2.of_black c.from_row-else-colour-eq0.ensures
