-- `writer::line::write` meets its contract. The count tells whether the line fits, and what is then put is the line.
-- Assumes nothing.
use mathlib.Core.Path.{refl, ap, ◌∙◌}
use native.Mathlib.Omega.{arith}
use Rattle.writer.specs.Outcome.{done_at}
use Rattle.writer.proofs.Answering.{lent, line-writing, first-of, lined-good, lined-inside, refused-9, answers-0}
use Rattle.writer.proofs.line.write.Goals as goal

pub put_line-end-requires : goal.put_line-end-requires
put_line-end-requires c = (
  lent c.white_terminating-wt.ensures c.black_terminating-bt.ensures c.white_makeup-wm.ensures
      c.black_makeup-bm.ensures c.common_makeup-common.ensures,
  c.requires.0,
)

pub overflow_mul-out : goal.overflow_mul-out
overflow_mul-out c =
    omega (arith, c.requires.1, c.put_line-end.ensures.size)

pub returns-then-out-end : goal.returns-then-out-end
returns-then-out-end c =
    let l = c.requires.0 in
    let counted = c.put_line-end.ensures in
    refused-9 (line-writing _ _ _ _ _) (first-of l.wide l.narrow c.requires.1) (lined-good l)
    (omega (arith, c.if-out-end.true, counted.next, counted.size)) c.refusal.ensures (counted.kept refl)

pub put_line-requires : goal.put_line-requires
put_line-requires c =
    let counted = c.put_line-end.ensures in (
      lent c.white_terminating-wt.ensures c.black_terminating-bt.ensures c.white_makeup-wm.ensures
          c.black_makeup-bm.ensures c.common_makeup-common.ensures,
      rw counted.size (lined-inside c.requires.0 (omega (arith, c.if-out-end.false, counted.next, counted.size))),
    )

pub returns : goal.returns
returns c =
    let l = c.requires.0 in
    let counted = c.put_line-end.ensures in
    answers-0 (line-writing _ _ _ _ _) (first-of l.wide l.narrow c.requires.1) (lined-good l)
    (omega (arith, c.if-out-end.false, counted.next, counted.size)) (counted.kept refl) c.put_line.ensures
    (c.done.ensures ∙ ap done_at counted.next)
