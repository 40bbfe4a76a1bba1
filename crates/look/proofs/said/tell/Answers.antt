-- `look::said::tell` meets its contract. Assumes nothing.
use Rattle.look.proofs.Spoken.{said-room, tells-no, tells-yes, prints-all}
use borrow.Author.Tests.{leb-true, not-true, not-false}
use native.Mathlib.Omega.{arith}
use mathlib.Core.Path.{◌≡◌, sym, ◌∙◌}
use Rattle.look.proofs.said.tell.Goals as goal

pub returns-then-not-has_room : goal.returns-then-not-has_room
returns-then-not-has_room c = tells-no (sym c.has_room.ensures ∙ not-true _ c.if-not-has_room.true-raw)

pub put_said-requires : goal.put_said-requires
put_said-requires c = said-room _ c.args.numbers.now c.args.k (λ i. omega (arith, c.type_inv.numbers i)) (leb-true _ _ (sym c.has_room.ensures ∙ not-false _ c.if-not-has_room.false-raw))

pub returns : goal.returns
returns c = tells-yes (sym c.has_room.ensures ∙ not-false _ c.if-not-has_room.false-raw) (prints-all c.put_said.ensures)
