-- The entry of the pairs at its own number.
use mathlib.Core.Path.{sym, ◌∙◌}
use borrow.Author.Rules.{rules}
use Rattle.squeezed.specs.Words.{pair_of}
use Rattle.squeezed.proofs.Quarters.{entry-back}
use Rattle.squeezed.proofs.Squeezed.{pair-of, pairs-fit}
use Rattle.squeezed.proofs.pair.Goals as goal

pub returns : goal.returns
returns c =
    c.quarter.ensures
    ∙ entry-back pair_of 512 pairs-fit _ c.pair_word.ensures (search rules)
    ∙ sym (pair-of _ (search rules))
