-- The entry at its place in the squeezed lookups.
use mathlib.Core.Path.{sym, ◌∙◌}
use borrow.Author.Rules.{rules}
use Rattle.squeezed.specs.Words.{squeezed}
use Rattle.squeezed.proofs.Quarters.{entry-back}
use Rattle.squeezed.proofs.Squeezed.{entry-of, entries_fit}
use Rattle.squeezed.proofs.entry.Goals as goal

pub code_word-requires : goal.code_word-requires
code_word-requires c = search (rules, c.place-at.ensures.0)

pub returns : goal.returns
returns c =
    c.quarter.ensures
    ∙ entry-back squeezed 280 entries_fit _ c.code_word.ensures (search (rules, c.place-at.ensures.0))
    ∙ c.place-at.ensures.1
    ∙ sym (entry-of _ _ (search rules))
