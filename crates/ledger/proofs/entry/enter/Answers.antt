-- `ledger::entry::enter` meets its contract. Assumes nothing.
use mathlib.Core.Path.{sym, ◌∙◌}
use Rattle.ledger.proofs.Entering.{no-books, no_line, goes_in}
use Rattle.ledger.proofs.entry.enter.Goals.{then-not-has_room-via-then-not-has_room, then-not-has_room-via-else-not-has_room+then-not-has_room-2}
use Rattle.ledger.proofs.entry.enter.Goals as goal

pub returns-then-not-has_room : goal.returns-then-not-has_room
returns-then-not-has_room c =
    let a = c.args in
    elim c.then-not-has_room.branch [
      | then-not-has_room-via-then-not-has_room w ↦ no-books a.name.now a.b a.v a.out.now (sym c.has_room.ensures ∙ w.if-not-has_room.true)
      | then-not-has_room-via-else-not-has_room+then-not-has_room-2 w ↦
          no_line a.name.now a.b a.v a.out.now (sym c.has_room.ensures ∙ w.if-not-has_room.false) (sym w.has_room-else-not-has_room.ensures ∙ w.if-not-has_room-2.true)
    ]

pub returns : goal.returns
returns c =
    goes_in c.args.name.now c.args.b c.args.v c.args.out.now (sym c.has_room.ensures ∙ c.if-not-has_room.false)
    (sym c.has_room-else-not-has_room.ensures ∙ c.if-not-has_room-2.false) c.book-after.ensures c.put_line-text.ensures
