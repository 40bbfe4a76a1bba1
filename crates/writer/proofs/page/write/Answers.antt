-- `writer::page::write` meets its contract: what is put where the page fits is the page. Assumes nothing.
use mathlib.Core.Path.{ap, ◌∙◌}
use native.Mathlib.Nat.{zero-add}
use native.Mathlib.Omega.{arith}
use Rattle.rules.specs.Rows.{bytes_to}
use Rattle.writer.specs.Outcome.{done_at}
use Rattle.writer.proofs.Answering.{lent, page-writing, first-of, sheet-inside, refused-9, answers-0}
use Rattle.writer.proofs.BetweenRows.{page-put}
use Rattle.writer.proofs.page.write.Goals as goal

pub returns-then-is_too_long : goal.returns-then-is_too_long
returns-then-is_too_long c =
    let s = c.requires in
    let m = c.is_too_long.ensures in
    refused-9 (page-writing _ _ _ _) (first-of s.wide s.narrow s.small) s.good (omega (arith, m.over c.if-is_too_long.true)) c.refusal.ensures m.kept

pub put_page-end-requires : goal.put_page-end-requires
put_page-end-requires c =
    let m = c.is_too_long.ensures in (
      lent c.white_terminating-wt.ensures c.black_terminating-bt.ensures c.white_makeup-wm.ensures c.black_makeup-bm.ensures c.common_makeup-common.ensures,
      rw m.kept (sheet-inside c.requires (m.fits c.if-is_too_long.false)),
    )

pub overflow_add-end : goal.overflow_add-end
overflow_add-end c =
    let m = c.is_too_long.ensures in
    omega (arith, c.requires.small, m.fits c.if-is_too_long.false, (page-put c.put_page-end.ensures (rw m.kept (m.fits c.if-is_too_long.false))).next)

pub returns : goal.returns
returns c =
    let s = c.requires in
    let m = c.is_too_long.ensures in
    let put = page-put c.put_page-end.ensures (rw m.kept (m.fits c.if-is_too_long.false)) in
    answers-0 (page-writing _ _ _ _) (first-of s.wide s.narrow s.small) s.good (omega (arith, m.fits c.if-is_too_long.false)) m.kept put (c.done.ensures ∙ ap (λ n. done_at (bytes_to n)) (put.next ∙ zero-add _))
