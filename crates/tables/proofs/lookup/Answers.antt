-- Each way reads the table of its colour at the bits.
use Rattle.rules.specs.Codes.{white, black}
use borrow.Author.Rules.{rules}
use Rattle.tables.proofs.Entries.{entry_at}
use Rattle.tables.proofs.lookup.Goals as goal

pub returns-then-colour-eq0 : goal.returns-then-colour-eq0
returns-then-colour-eq0 c = entry_at white _ _ c.if-colour-eq0.true c.requires.1.of_white (search rules)

pub returns-else-colour-eq0 : goal.returns-else-colour-eq0
returns-else-colour-eq0 c = entry_at black _ _ c.if-colour-eq0.false c.requires.1.of_black (search rules)
