-- `ledger::books::book` meets its contract. Assumes nothing.
use mathlib.Core.Path.{sym, ◌∙◌}
use native.Mathlib.Omega.{arith}
use borrow.Author.Tests.{not-true, not-false}
use mir.Facts.{to_z-of_z}
use mir.Syntax.{w32}
use Rattle.ledger.proofs.Rooms.{fits, stays, counts, looks}
use Rattle.ledger.proofs.books.book.Goals as goal

pub returns-then-not-has_room : goal.returns-then-not-has_room
returns-then-not-has_room c = stays c.args.b c.args.v (sym c.has_room.ensures ∙ not-true _ c.if-not-has_room.true-raw)

pub overflow_add-result : goal.overflow_add-result
overflow_add-result c = let r = fits _ _ (sym c.has_room.ensures ∙ not-false _ c.if-not-has_room.false-raw) in record { fits = omega (arith, r.heads) }

pub overflow_add-result-then-v-eq0 : goal.overflow_add-result-then-v-eq0
overflow_add-result-then-v-eq0 c = let r = fits _ _ (sym c.has_room.ensures ∙ not-false _ c.if-not-has_room.false-raw) in record { fits = omega (arith, r.pages) }

pub returns-then-v-eq0 : goal.returns-then-v-eq0
returns-then-v-eq0 c = counts c.args.b c.args.v (to_z-of_z {w = w32} (record { sfits = omega arith })) (sym c.has_room.ensures ∙ not-false _ c.if-not-has_room.false-raw) c.if-v-eq0.true

pub overflow_add-result-2 : goal.overflow_add-result-2
overflow_add-result-2 c = let r = fits _ _ (sym c.has_room.ensures ∙ not-false _ c.if-not-has_room.false-raw) in record { fits = omega (arith, r.pages) }

pub overflow_add-result-3 : goal.overflow_add-result-3
overflow_add-result-3 c = let r = fits _ _ (sym c.has_room.ensures ∙ not-false _ c.if-not-has_room.false-raw) in record { fits = omega (arith, r.looked) }

pub returns : goal.returns
returns c = looks c.args.b c.args.v (to_z-of_z {w = w32} (record { sfits = omega arith })) (sym c.has_room.ensures ∙ not-false _ c.if-not-has_room.false-raw) c.if-v-eq0.false
