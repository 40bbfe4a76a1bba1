-- Each guess is taken only where it is passed. Assumes nothing.
use Rattle.by_unit.proofs.swift.search_from.Goals as goal

pub returns-then-is_passed : goal.returns-then-is_passed
returns-then-is_passed c = c.is_passed.ensures c.if-is_passed.true

pub returns-then-is_passed-2 : goal.returns-then-is_passed-2
returns-then-is_passed-2 c = c.is_passed-then-guess-ge-LESS.ensures c.if-is_passed-2.true

pub returns-then-is_passed-3 : goal.returns-then-is_passed-3
returns-then-is_passed-3 c = c.is_passed-then-guess-ge-MUCH_LESS.ensures c.if-is_passed-3.true

pub returns-then-is_passed-4 : goal.returns-then-is_passed-4
returns-then-is_passed-4 c = c.is_passed-2.ensures c.if-is_passed-4.true

pub returns : goal.returns
returns c = c.requires.passed
