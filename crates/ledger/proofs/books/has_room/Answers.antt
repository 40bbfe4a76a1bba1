-- `ledger::books::has_room` meets its contract. Assumes nothing.
use mathlib.Core.Path.{◌≡◌}
use mathlib.Core.Bool.{false}
use native.Mathlib.Omega.{arith}
use Rattle.std.proofs.Common.{inl, inr}
use Rattle.ledger.specs.Books.{has_room}
use Rattle.ledger.proofs.Rooms.{no_pages, no-looked, heads-room}
use Rattle.ledger.proofs.books.has_room.Goals as goal

pub returns-then-b-lt4294967295-2 : goal.returns-then-b-lt4294967295-2
returns-then-b-lt4294967295-2 c =
    let h = c.if-b-lt4294967295-2.true in
    rw (c.from.ensures, c.from-then-b-lt4294967295-2.ensures) (heads-room c.args.b c.args.v (omega (arith, h.0)) (omega (arith, h.1)))

pub returns-else-b-lt4294967295-2 : goal.returns-else-b-lt4294967295-2
returns-else-b-lt4294967295-2 c =
    let full : false ≡ has_room c.args.b c.args.v = elim c.if-b-lt4294967295-2.either [
      | inl h ↦ no-looked c.args.b c.args.v (omega (arith, h.0)) (omega (arith, h.1))
      | inr h ↦ no_pages c.args.b c.args.v (omega (arith, h))
    ] in
    cc
