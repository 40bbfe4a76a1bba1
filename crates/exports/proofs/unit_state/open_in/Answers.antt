-- `exports::unit_state::open_in` meets its contract, by the tests, one after the other. Assumes nothing.
use mathlib.Core.Path.{sym, ◌∙◌}
use borrow.Author.Tests.{not-true, not-false, leb-true}
use native.Mathlib.Omega.{arith}
use lib.Dec.{leb}
use lib.ListN.{get_or}
use Rattle.rules.proofs.Bits.{both_true}
use Rattle.exports.proofs.UnitState.{open-zeros, open-flags, open-words, open-phase, open_is}
use Rattle.exports.proofs.unit_state.open_in.Goals as goal

pub returns-then-not-zeros : goal.returns-then-not-zeros
returns-then-not-zeros c = open-zeros c.args.state.now c.requires.1 (sym c.zeros.ensures ∙ not-true c.zeros.result c.if-not-zeros.true-raw)

pub returns-then-not-flags : goal.returns-then-not-flags
returns-then-not-flags c = open-flags c.args.state.now c.requires.1 (sym c.flags.ensures ∙ not-true c.flags.result c.if-not-flags.true-raw)

pub returns-then-not-words : goal.returns-then-not-words
returns-then-not-words c = open-words c.args.state.now c.requires.1 (sym c.words.ensures ∙ not-true c.words.result c.if-not-words.true-raw)

pub returns-then-state-gt3 : goal.returns-then-state-gt3
returns-then-state-gt3 c = open-phase c.args.state.now c.requires.1 c.if-state-gt3.true

pub overflow_cast-result : goal.overflow_cast-result
overflow_cast-result c =
    let xs = c.args.state.now in
    omega (arith, leb-true (get_or xs 4 0) 4294967295 (both_true (leb (get_or xs 4 0) 4294967295) (leb (get_or xs 8 0) 4294967295) (sym c.words.ensures ∙ not-false c.words.result c.if-not-words.false-raw)).0)

pub overflow_cast-result-2 : goal.overflow_cast-result-2
overflow_cast-result-2 c =
    let xs = c.args.state.now in
    omega (arith, leb-true (get_or xs 8 0) 4294967295 (both_true (leb (get_or xs 4 0) 4294967295) (leb (get_or xs 8 0) 4294967295) (sym c.words.ensures ∙ not-false c.words.result c.if-not-words.false-raw)).1)

pub returns : goal.returns
returns c =
    open_is c.args.state.now c.requires.1 c.requires.0 (sym c.zeros.ensures ∙ not-false c.zeros.result c.if-not-zeros.false-raw)
    (sym c.flags.ensures ∙ not-false c.flags.result c.if-not-flags.false-raw)
    (sym c.words.ensures ∙ not-false c.words.result c.if-not-words.false-raw) c.phase_in-phase.result c.phase_in-phase.ensures
