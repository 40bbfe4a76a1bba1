-- `look::named::put_named` meets its contract. Assumes nothing.
use Rattle.look.proofs.Naming.{named-room}
use Rattle.look.proofs.Spoken.{tells-no, tells-yes}
use borrow.Author.Tests.{leb-true, not-true, not-false}
use native.Mathlib.Omega.{arith}
use mathlib.Core.Path.{◌≡◌, sym, ◌∙◌}
use Rattle.look.proofs.named.put_named.Goals as goal

pub returns-then-not-has_room : goal.returns-then-not-has_room
returns-then-not-has_room c = tells-no (sym c.has_room.ensures ∙ not-true _ c.if-not-has_room.true-raw)

pub put_parts-requires : goal.put_parts-requires
put_parts-requires c = named-room _ c.args.name.now c.args.numbers.now c.args.v c.args.first c.args.middle c.args.last (λ i. omega (arith, c.type_inv.numbers i)) (λ i. omega (arith, c.type_inv.name i)) (leb-true _ _ (sym c.has_room.ensures ∙ not-false _ c.if-not-has_room.false-raw))

pub returns : goal.returns
returns c = tells-yes (sym c.has_room.ensures ∙ not-false _ c.if-not-has_room.false-raw) c.put_parts.ensures
