-- `ledger_file::tally::total_taken` meets its contract. Assumes nothing.
use Rattle.ledger_file.proofs.Tallies.{total-looked, total-heads, total-pages, total-on}
use Rattle.ledger_file.proofs.tally.total_taken.Goals as goal

pub returns-then-number_of-since : goal.returns-then-number_of-since
returns-then-number_of-since c = λ text starts st. let a = c.args in total-looked a.line.now a.t text starts st c.number_of.ensures c.since.ensures c.if-number_of-since.true

pub returns-then-number_of-since-2 : goal.returns-then-number_of-since-2
returns-then-number_of-since-2 c = λ text starts st. let a = c.args in total-heads a.line.now a.t text starts st c.number_of.ensures c.since.ensures c.if-number_of-since.false c.number_of-2.ensures c.since-2.ensures c.if-number_of-since-2.true

pub returns-then-total_pages-since : goal.returns-then-total_pages-since
returns-then-total_pages-since c = λ text starts st. let a = c.args in total-pages a.line.now a.t text starts st c.number_of.ensures c.since.ensures c.if-number_of-since.false c.number_of-2.ensures c.since-2.ensures c.if-number_of-since-2.false c.total_pages.ensures c.since-3.ensures c.if-total_pages-since.true

pub returns : goal.returns
returns c = λ text starts st. let a = c.args in total-on a.line.now a.t text starts st c.number_of.ensures c.since.ensures c.if-number_of-since.false c.number_of-2.ensures c.since-2.ensures c.if-number_of-since-2.false c.total_pages.ensures c.since-3.ensures c.if-total_pages-since.false
