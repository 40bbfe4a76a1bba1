-- `ledger::said::put_line` meets its contract. Assumes nothing.
use Rattle.ledger.proofs.Whole.{page-parts, head_as}
use mathlib.Core.Path.{sym}
use Rattle.ledger.proofs.said.put_line.Goals as goal

pub returns : goal.returns
returns c = let a = c.args in rw (sym (page-parts a.name.now a.v a.b c.numbers-ns.ensures (head_as a.v a.b c.one.ensures.value c.one-2.ensures.value c.is_passed.ensures))) c.put_known.ensures
