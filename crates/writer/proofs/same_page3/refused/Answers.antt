-- `writer::same_page3::refused` meets its contract. Each test is the definition's. Assumes nothing.
use mathlib.Core.Path.{sym, ◌∙◌}
use native.Mathlib.Omega.{arith}
use borrow.Author.Tests.{not-true, not-false}
use Rattle.writer.proofs.Answering.{first-passed}
use Rattle.writer.proofs.Answering3.{no_rows, bad-rows, all-good}
use Rattle.writer.proofs.PartingLaws.{tests-first, tests-bad, tests-good}
use Rattle.writer.proofs.same_page3.refused.Goals as goal

pub returns-in-Some : goal.returns-in-Some
returns-in-Some c = (tests-first c.args.columns c.args.changes.now c.args.ends.now c.args.bytes _ c.in-Some.ensures.0 c.in-Some.ensures.1, c.in-Some.ensures.1)

pub returns-then-ends-eq0 : goal.returns-then-ends-eq0
returns-then-ends-eq0 c = (tests-bad c.args.columns c.args.changes.now c.args.ends.now c.args.bytes (first-passed c.args.columns c.args.bytes c.in_default.ensures) (no_rows c.args.columns c.args.changes.now c.args.ends.now c.if-ends-eq0.true), λ e. omega (arith, e))

pub returns-then-not-ascend : goal.returns-then-not-ascend
returns-then-not-ascend c = (tests-bad c.args.columns c.args.changes.now c.args.ends.now c.args.bytes (first-passed c.args.columns c.args.bytes c.in_default.ensures) (bad-rows c.args.columns c.args.changes.now c.args.ends.now c.if-ends-eq0.false (sym c.ascend.ensures ∙ not-true _ c.if-not-ascend.true-raw)), λ e. omega (arith, e))

pub returns : goal.returns
returns c =
    sym (tests-good c.args.columns c.args.changes.now c.args.ends.now c.args.bytes (first-passed c.args.columns c.args.bytes c.in_default.ensures) (all-good c.args.columns c.args.changes.now c.args.ends.now (omega (arith, c.if-ends-eq0.false)) (sym c.ascend.ensures ∙ not-false _ c.if-not-ascend.false-raw)))
