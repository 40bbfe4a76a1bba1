-- `exports::unit_state::ended_in` meets its contract, by the tests, one after the other. Assumes nothing.
use mathlib.Core.Path.{sym, ◌∙◌, refl}
use borrow.Author.Tests.{not-true, not-false}
use lib.Dec.{eqb}
use lib.ListN.{get_or}
use Rattle.exports.proofs.UnitState.{and_again, ended-zeros, ended_is}
use Rattle.exports.proofs.unit_state.ended_in.Goals as goal

pub returns-then-not-zeros : goal.returns-then-not-zeros
returns-then-not-zeros c = ended-zeros c.args.state.now c.requires.1 0 1 2 4 (λ e n. (refl, refl, refl, refl)) (sym c.zeros.ensures ∙ not-true c.zeros.result c.if-not-zeros.true-raw)

pub returns-then-not-zeros-2 : goal.returns-then-not-zeros-2
returns-then-not-zeros-2 c = ended-zeros c.args.state.now c.requires.1 5 7 8 9 (λ e n. (refl, refl, refl, refl)) (sym c.zeros-2.ensures ∙ not-true c.zeros-2.result c.if-not-zeros-2.true-raw)

pub returns-then-not-zeros-3 : goal.returns-then-not-zeros-3
returns-then-not-zeros-3 c =
    ended-zeros c.args.state.now c.requires.1 10 11 10 11 (λ e n. (refl, refl, refl, refl))
    (and_again (eqb (get_or c.args.state.now 10 0) 0) (eqb (get_or c.args.state.now 11 0) 0) (sym c.zeros-3.ensures ∙ not-true c.zeros-3.result c.if-not-zeros-3.true-raw))

pub returns : goal.returns
returns c =
    ended_is c.args.state.now c.requires.1 c.requires.0 (sym c.zeros.ensures ∙ not-false c.zeros.result c.if-not-zeros.false-raw)
    (sym c.zeros-2.ensures ∙ not-false c.zeros-2.result c.if-not-zeros-2.false-raw)
    (sym c.zeros-3.ensures ∙ not-false c.zeros-3.result c.if-not-zeros-3.false-raw) c.in_ok-end.end c.in_ok-end.ensures
