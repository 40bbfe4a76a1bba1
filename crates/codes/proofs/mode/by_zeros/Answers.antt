-- `codes::mode::by_zeros` meets its contract: each arm by its count of leading zeros. Assumes nothing.
use mathlib.Core.Path.{refl, ◌∙◌}
use native.Mathlib.Omega.{arith}
use Rattle.rules.specs.Modes.{mode_for}
use Rattle.codes.proofs.Modes.{back, plain, sided, no_mode}
use Rattle.codes.proofs.mode.by_zeros.Goals as goal

pub returns-in-0 : goal.returns-in-0
unfolding mode_for
returns-in-0 c =
    c.coded.ensures ∙ plain c.args.src.now c.args.at c.requires.1 c.in-0.is _ (λ side. refl)

pub returns-in-1 : goal.returns-in-1
unfolding mode_for
returns-in-1 c =
    c.coded-in-1.ensures
    ∙ sided c.args.src.now c.args.at c.requires.1 c.in-1.is 0 3 (λ side. refl) (omega arith)
    (back c.side.type_inv ∙ c.side.ensures)

pub returns-in-2 : goal.returns-in-2
unfolding mode_for
returns-in-2 c =
    c.coded-in-2.ensures ∙ plain c.args.src.now c.args.at c.requires.1 c.in-2.is _ (λ side. refl)

pub returns-in-3 : goal.returns-in-3
unfolding mode_for
returns-in-3 c =
    c.coded-in-3.ensures ∙ plain c.args.src.now c.args.at c.requires.1 c.in-3.is _ (λ side. refl)

pub returns-in-4 : goal.returns-in-4
unfolding mode_for
returns-in-4 c =
    c.coded-in-4.ensures
    ∙ sided c.args.src.now c.args.at c.requires.1 c.in-4.is 1 6 (λ side. refl) (omega arith)
    (back c.side-in-4.type_inv ∙ c.side-in-4.ensures)

pub returns-in-5 : goal.returns-in-5
unfolding mode_for
returns-in-5 c =
    c.coded-in-5.ensures
    ∙ sided c.args.src.now c.args.at c.requires.1 c.in-5.is 2 7 (λ side. refl) (omega arith)
    (back c.side-in-5.type_inv ∙ c.side-in-5.ensures)

pub returns-in-6-to-4294967295 : goal.returns-in-6-to-4294967295
returns-in-6-to-4294967295 c =
    c.no_mode.ensures ∙ plain c.args.src.now c.args.at c.requires.1 refl _ (no_mode _ (omega arith))
