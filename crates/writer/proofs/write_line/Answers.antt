-- `writer::write_line` meets its contract. Each test is the definition's, and what is left is `line::write`'s.
-- Assumes nothing.
use mathlib.Core.Path.{refl, sym, ◌∙◌}
use native.Mathlib.Omega.{arith}
use lib.ListN.{length}
use borrow.Author.Tests.{not-true, not-false}
use Rattle.writer.proofs.Answering.{line-writing, first-passed, lined, both_true, first-false, second-false, refused-first, refused-8, refused-9}
use Rattle.writer.proofs.write_line.Goals as goal

pub returns-in-Some : goal.returns-in-Some
returns-in-Some c = refused-first (line-writing _ _ _ _ _) _ c.in-Some.ensures.0 c.in-Some.ensures.1 c.refusal.ensures

pub returns-then-not-ascends : goal.returns-then-not-ascends
returns-then-not-ascends c =
    refused-8 (line-writing _ _ _ _ _) (first-passed _ _ c.in_default.ensures)
    (first-false _ (sym c.ascends.ensures ∙ not-true _ c.if-not-ascends.true-raw)) c.refusal-then-not-ascends.ensures

pub returns-then-not-ascends-2 : goal.returns-then-not-ascends-2
returns-then-not-ascends-2 c =
    refused-8 (line-writing _ _ _ _ _) (first-passed _ _ c.in_default.ensures)
    (second-false (sym c.ascends.ensures ∙ not-false _ c.if-not-ascends.false-raw)
    (sym c.ascends-2.ensures ∙ not-true _ c.if-not-ascends-2.true-raw)) c.refusal-then-not-ascends-2.ensures

pub overflow_mul-out : goal.overflow_mul-out
overflow_mul-out c =
    let first = first-passed c.args.columns (length c.args.out.now) c.in_default.ensures in
    omega (arith, first.small)

pub returns-then-out-start : goal.returns-then-out-start
returns-then-out-start c =
    refused-9 (line-writing _ _ _ _ _) (first-passed _ _ c.in_default.ensures)
    (both_true (sym c.ascends.ensures ∙ not-false _ c.if-not-ascends.false-raw)
    (sym c.ascends-2.ensures ∙ not-false _ c.if-not-ascends-2.false-raw)) (omega
    (arith, c.if-out-start.true)) c.refusal-then-out-start.ensures refl

pub write-requires : goal.write-requires
write-requires c =
    let first = first-passed c.args.columns (length c.args.out.now)
    c.in_default.ensures in (
      lined first (omega (arith, c.ranges.columns)) _ _ (sym c.ascends.ensures ∙ not-false _ c.if-not-ascends.false-raw)
          (sym c.ascends-2.ensures ∙ not-false _ c.if-not-ascends-2.false-raw) _ c.if-out-start.false,
      first.small,
    )
