use mathlib.Core.Path.{sym, ◌∙◌}
use native.Mathlib.Omega.{arith}
use borrow.Author.Tests.{leb-true, not-true, not-false}
use Rattle.ledger.specs.Said.{total_line}
use Rattle.ledger.proofs.Whole.{total-room, tells-no, tells-yes}
use Rattle.ledger.proofs.said.put_known_total.Goals as goal

pub returns-then-not-has_room : goal.returns-then-not-has_room
returns-then-not-has_room c = tells-no 0 (total_line c.args.b) c.args.out.now (sym c.has_room.ensures ∙ not-true _ c.if-not-has_room.true-raw)

pub put_total_line-requires : goal.put_total_line-requires
put_total_line-requires c = (total-room _ c.args.ns.now c.args.b c.requires (λ i. omega (arith, c.type_inv.ns i)) (leb-true _ _ (sym c.has_room.ensures ∙ not-false _ c.if-not-has_room.false-raw)), c.requires)

pub returns : goal.returns
returns c = tells-yes 0 (total_line c.args.b) c.args.out.now (sym c.has_room.ensures ∙ not-false _ c.if-not-has_room.false-raw) c.put_total_line.ensures
