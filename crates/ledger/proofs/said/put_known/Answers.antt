-- `ledger::said::put_known` meets its contract. Assumes nothing.
use mathlib.Core.Path.{sym, ◌∙◌}
use native.Mathlib.Omega.{arith}
use lib.ListN.{length}
use borrow.Author.Tests.{leb-true, not-true, not-false}
use Rattle.ledger.specs.Said.{line_of}
use Rattle.ledger.proofs.Whole.{line-room, tells-no, tells-yes}
use Rattle.ledger.proofs.said.put_known.Goals as goal

pub returns-then-not-has_room : goal.returns-then-not-has_room
returns-then-not-has_room c = let a = c.args in tells-no (length a.name.now) (line_of a.name.now a.v a.ns.now a.k) a.out.now (sym c.has_room.ensures ∙ not-true _ c.if-not-has_room.true-raw)

pub put_parts-requires : goal.put_parts-requires
put_parts-requires c = let a = c.args in line-room _ a.name.now a.ns.now a.v a.k (λ i. omega (arith, c.type_inv.ns i)) (leb-true _ _ (sym c.has_room.ensures ∙ not-false _ c.if-not-has_room.false-raw))

pub returns : goal.returns
returns c = let a = c.args in tells-yes (length a.name.now) (line_of a.name.now a.v a.ns.now a.k) a.out.now (sym c.has_room.ensures ∙ not-false _ c.if-not-has_room.false-raw) c.put_parts.ensures
