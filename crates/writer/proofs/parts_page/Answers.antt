-- `writer::parts_page` meets its contract. Each test is the definition's, and what is left is `same_page::parts`'s. Assumes nothing.
use mathlib.Core.Path.{sym, ◌∙◌}
use native.Mathlib.Omega.{arith}
use borrow.Author.Tests.{not-true, not-false}
use Rattle.rules.specs.Rows.{group4}
use Rattle.writer.proofs.Answering.{first-passed}
use Rattle.writer.proofs.PartingLaws.{first_said, rows-said-4, page-said-4, faced}
use Rattle.writer.proofs.parts_page.Goals as goal

pub returns-in-Some : goal.returns-in-Some
returns-in-Some c =
    c.not_asked.ensures ∙ first_said group4 _ _ _ _ _ c.in-Some.ensures.0 c.in-Some.ensures.1

pub returns-then-not-ascend : goal.returns-then-not-ascend
returns-then-not-ascend c =
    c.not_asked-then-not-ascend.ensures
    ∙ rows-said-4 _ _ _ _ (first-passed _ _ c.in_default.ensures) (sym c.ascend.ensures ∙ not-true _ c.if-not-ascend.true-raw)

pub parts-requires : goal.parts-requires
parts-requires c =
    faced (first-passed _ _ c.in_default.ensures) (omega (arith, c.ranges.columns)) _ _ (sym c.ascend.ensures ∙ not-false _ c.if-not-ascend.false-raw)

pub returns : goal.returns
returns c =
    c.parts.ensures ∙ page-said-4 _ _ _ _ (first-passed _ _ c.in_default.ensures) (sym c.ascend.ensures ∙ not-false _ c.if-not-ascend.false-raw)
