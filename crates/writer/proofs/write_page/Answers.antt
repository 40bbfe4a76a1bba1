-- `writer::write_page` meets its contract. Each test is the definition's, and what is left is `page::write`'s.
-- Assumes nothing.
use mathlib.Core.Path.{sym, ◌∙◌}
use native.Mathlib.Omega.{arith}
use borrow.Author.Tests.{not-true, not-false}
use Rattle.writer.proofs.Answering.{page-writing, first-passed, sheet, refused-first, refused-8}
use Rattle.writer.proofs.write_page.Goals as goal

pub returns-in-Some : goal.returns-in-Some
returns-in-Some c = refused-first (page-writing _ _ _ _) _ c.in-Some.ensures.0 c.in-Some.ensures.1 c.refusal.ensures

pub returns-then-not-ascend : goal.returns-then-not-ascend
returns-then-not-ascend c =
    refused-8 (page-writing _ _ _ _) (first-passed _ _ c.in_default.ensures)
    (sym c.ascend.ensures ∙ not-true _ c.if-not-ascend.true-raw) c.refusal-then-not-ascend.ensures

pub write-requires : goal.write-requires
write-requires c =
    sheet (first-passed _ _ c.in_default.ensures) (omega (arith, c.ranges.columns)) _ _ _
    (sym c.ascend.ensures ∙ not-false _ c.if-not-ascend.false-raw)
