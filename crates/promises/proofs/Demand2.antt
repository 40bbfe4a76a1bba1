-- Demand 2, from the laws of the rules. Assumes nothing.
use mathlib.Core.Path.{◌≡◌, sym, ap, ◌∙◌}
use mathlib.Core.List.{List, ◌++◌}
use Prim.Native.Nat.{ℕ, ◌≤◌}
use native.Mathlib.Omega.{arith}
use lib.ListN.{length, drop}
use Rattle.rules.specs.Bits.{bits_of}
use Rattle.rules.specs.Lines.{head_or, tail}
use Rattle.rules.specs.Modes.{mode_take, read_mode}
use Rattle.rules.specs.Pixels.{A0, right_of}
use Rattle.rules.specs.Rising.{Rising}
use Rattle.rules.specs.Runs.{sum}
use Rattle.rules.proofs.WriteRuns.{read-codes, stands-codes}
use Rattle.rules.proofs.Modes.{modes-agree}
use Rattle.rules.proofs.Ascending.{rises-append}
use Rattle.rules.proofs.Pixels.{changes_from, a1-agrees, a2-agrees, b1-agrees, b2-agrees, b1-agrees-first, b2-agrees-first, rest-agrees}
use Rattle.promises.specs.Demand2.{RunsAreTheStandards, ModesAreTheStandards, ChangingElementsAreTheStandards, DefinedElementsAreTheStandards, WrittenElementsAreTheStandards}

pub runs-are-the-standards : RunsAreTheStandards
runs-are-the-standards colour bytes at r k =
    (λ n cs rest m e h. k.same ∙ read-codes colour (bits_of bytes) at rest m e h, λ end n e. stands-codes colour (bits_of bytes) at (sum end n) (sym k.same ∙ e))

pub modes-are-the-standards : ModesAreTheStandards
unfolding read_mode
modes-are-the-standards bytes at r e = e ∙ ap (mode_take (length (bits_of bytes)) at) (modes-agree (drop at (bits_of bytes)))

pub changing-elements-are-the-standards : ChangingElementsAreTheStandards
changing-elements-are-the-standards reference width position colour r up f = (f.b1-is ∙ sym (b1-agrees up position colour), f.b2-is ∙ sym (b2-agrees up position colour))

pub defined-elements-are-the-standards : DefinedElementsAreTheStandards
defined-elements-are-the-standards reference width up =
    (λ position colour. (sym (b1-agrees up position colour), sym (b2-agrees up position colour)), sym (b1-agrees-first up), sym (b2-agrees-first up))

pub written-elements-are-the-standards : WrittenElementsAreTheStandards
written-elements-are-the-standards width past left a0 low up on-up =
    (sym (a1-agrees whole a0 ∙ ap (head_or width) rest), sym (a2-agrees whole a0 ∙ ap (λ (xs : List ℕ). head_or width (tail xs)) rest))
  where
    whole : Rising width 0 (past ++ left)
    whole = rises-append (omega arith) low up on-up

    rest : changes_from (right_of a0) (past ++ left) ≡ left
    rest = rest-agrees up on-up
