-- `writer::page3::write` meets its contract. Each test is the definition's, and what is left is `counted`'s.
-- Assumes nothing.
use mathlib.Core.Path.{sym, ◌∙◌}
use native.Mathlib.Omega.{arith}
use borrow.Author.Tests.{not-true, not-false}
use Rattle.writer.proofs.Answering.{first-passed, sheet, refused-8}
use Rattle.writer.proofs.Answering3.{no_rows, bad-rows, group3-writing, refused3-first, refused-10, answers-3}
use Rattle.writer.proofs.page3.write.Goals as goal

pub returns-in-Some : goal.returns-in-Some
returns-in-Some c = refused3-first _ _ _ _ _ _ _ c.in-Some.ensures.0 c.in-Some.ensures.1 c.refusal.ensures

pub returns-then-not-allowed : goal.returns-then-not-allowed
returns-then-not-allowed c = refused-10 _ _ _ _ _ _ (not-true _ c.if-not-allowed.true-raw) (first-passed _ _ c.in_default.ensures) c.refusal-then-not-allowed.ensures

pub returns-then-ends-eq0 : goal.returns-then-ends-eq0
returns-then-ends-eq0 c =
    let a = c.args in
    refused-8 (group3-writing _ _ _ _ _ _ (not-false _ c.if-not-allowed.false-raw)) (first-passed _ _ c.in_default.ensures)
    (no_rows a.columns a.changes.now a.ends.now c.if-ends-eq0.true) c.refusal-then-ends-eq0.ensures

pub returns-then-not-ascend : goal.returns-then-not-ascend
returns-then-not-ascend c =
    let a = c.args in
    refused-8 (group3-writing _ _ _ _ _ _ (not-false _ c.if-not-allowed.false-raw)) (first-passed _ _ c.in_default.ensures)
    (bad-rows a.columns a.changes.now a.ends.now c.if-ends-eq0.false (sym c.ascend.ensures ∙ not-true _ c.if-not-ascend.true-raw)) c.refusal-then-not-ascend.ensures

pub fitted-requires : goal.fitted-requires
fitted-requires c = (
  c.requires (not-false _ c.if-not-allowed.false-raw),
  sheet (first-passed _ _ c.in_default.ensures) (omega (arith, c.ranges.columns)) _ _ _ (sym c.ascend.ensures ∙ not-false _ c.if-not-ascend.false-raw),
  omega (arith, c.if-ends-eq0.false),
)

pub returns : goal.returns
returns c = answers-3 _ _ _ _ _ _ (not-false _ c.if-not-allowed.false-raw) c.fitted.ensures
