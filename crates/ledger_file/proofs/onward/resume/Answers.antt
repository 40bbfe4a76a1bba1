-- `ledger_file::onward::resume` meets its contract. Assumes nothing.
use Rattle.ledger_file.proofs.Resuming.{not-page, not_named, not-room, not_left, goes_on}
use borrow.Author.Tests.{not-true, not-false}
use mathlib.Core.Path.{◌∙◌}
use Rattle.ledger_file.proofs.onward.resume.Goals as goal

pub returns-then-not-p : goal.returns-then-not-p
returns-then-not-p c = c.stays.ensures ∙ not-page c.args.line.now c.args.name.now c.args.b c.page_line-p.ensures (not-true _ c.if-not-p.true)

pub returns-then-not-is_named : goal.returns-then-not-is_named
returns-then-not-is_named c = c.stays-then-not-is_named.ensures ∙ not_named c.args.line.now c.args.name.now c.args.b c.page_line-p.ensures (not-false _ c.if-not-p.false) c.is_named.ensures (not-true _ c.if-not-is_named.true-raw)

pub returns-then-not-has_room : goal.returns-then-not-has_room
returns-then-not-has_room c =
    c.stays-then-not-has_room.ensures
    ∙ not-room c.args.line.now c.args.name.now c.args.b c.page_line-p.ensures (not-false _ c.if-not-p.false) c.is_named.ensures (not-false _ c.if-not-is_named.false-raw) c.verdict_of-v.ensures
    c.has_room.ensures (not-true _ c.if-not-has_room.true-raw)

pub returns-then-not-says_left : goal.returns-then-not-says_left
returns-then-not-says_left c =
    c.stays-then-not-says_left.ensures
    ∙ not_left c.args.line.now c.args.name.now c.args.b c.page_line-p.ensures (not-false _ c.if-not-p.false) c.is_named.ensures (not-false _ c.if-not-is_named.false-raw) c.verdict_of-v.ensures
    c.has_room.ensures (not-false _ c.if-not-has_room.false-raw) c.book-after.ensures c.says_left.ensures (not-true _ c.if-not-says_left.true-raw)

pub returns : goal.returns
returns c =
    goes_on c.args.line.now c.args.name.now c.args.b c.page_line-p.ensures (not-false _ c.if-not-p.false) c.is_named.ensures (not-false _ c.if-not-is_named.false-raw) c.verdict_of-v.ensures
    c.has_room.ensures (not-false _ c.if-not-has_room.false-raw) c.book-after.ensures c.says_left.ensures (not-false _ c.if-not-says_left.false-raw)
