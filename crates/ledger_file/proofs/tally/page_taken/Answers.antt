-- `ledger_file::tally::page_taken` meets its contract. Assumes nothing.
use Rattle.ledger_file.proofs.Tallies.{page-roomless, page-twice, page-full, page-on}
use borrow.Author.Tests.{not-true, not-false}
use mathlib.Core.Path.{sym, ◌∙◌}
use Rattle.ledger_file.proofs.tally.page_taken.Goals as goal

pub returns-then-starts-count : goal.returns-then-starts-count
returns-then-starts-count c = let a = c.args in page-roomless a.text.now a.at a.v a.t a.starts.now c.requires.0 c.if-starts-count.true

pub returns-then-k-count : goal.returns-then-k-count
returns-then-k-count c = let a = c.args in page-twice a.text.now a.at a.v a.t a.starts.now c.requires.0 c.if-starts-count.false c.namesake-k.ensures c.if-k-count.true

pub returns-then-not-has_room : goal.returns-then-not-has_room
returns-then-not-has_room c = let a = c.args in page-full a.text.now a.at a.v a.t a.starts.now c.requires.0 c.if-starts-count.false c.namesake-k.ensures c.if-k-count.false (sym c.has_room.ensures ∙ not-true _ c.if-not-has_room.true-raw)

pub returns : goal.returns
returns c = let a = c.args in page-on a.text.now a.at a.v a.t a.starts.now c.requires.0 c.if-starts-count.false c.namesake-k.ensures c.if-k-count.false (sym c.has_room.ensures ∙ not-false _ c.if-not-has_room.false-raw) c.book.ensures c.requires.1
