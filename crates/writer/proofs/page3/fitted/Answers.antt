-- `writer::page3::fitted` meets its contract: what is put where the page fits is the page. Assumes nothing.
use mathlib.Core.Path.{refl, ap, ◌∙◌}
use native.Mathlib.Nat.{zero-add}
use native.Mathlib.Omega.{arith}
use Rattle.rules.specs.Rows.{bytes_to}
use Rattle.writer.specs.Outcome.{done_at}
use Rattle.writer.proofs.Answering3.{group3-writing, all-good}
use Rattle.writer.proofs.Answering.{lent, first-of, sheet-inside, refused-9, answers-0}
use Rattle.writer.proofs.BetweenRows.{page-put}
use Rattle.writer.proofs.page3.fitted.Goals as goal

pub returns-then-is_too_long : goal.returns-then-is_too_long
returns-then-is_too_long c =
    let s = c.requires.1 in
    let m = c.is_too_long.ensures in
    refused-9 (group3-writing _ _ _ _ _ _ refl) (first-of s.wide s.narrow s.small) (all-good c.args.columns c.args.changes.now c.args.ends.now c.requires.2 s.good) (omega (arith, m.over c.if-is_too_long.true)) c.refusal.ensures m.kept

pub put_page3-end-requires : goal.put_page3-end-requires
put_page3-end-requires c =
    let m = c.is_too_long.ensures in (
      lent c.white_terminating-wt.ensures c.black_terminating-bt.ensures c.white_makeup-wm.ensures c.black_makeup-bm.ensures c.common_makeup-common.ensures,
      c.requires.0,
      rw m.kept (sheet-inside c.requires.1 (m.fits c.if-is_too_long.false)),
    )

pub overflow_add-end : goal.overflow_add-end
overflow_add-end c =
    let m = c.is_too_long.ensures in
    omega (arith, c.requires.1.small, m.fits c.if-is_too_long.false, (page-put c.put_page3-end.ensures (rw m.kept (m.fits c.if-is_too_long.false))).next)

pub returns : goal.returns
returns c =
    let s = c.requires.1 in
    let m = c.is_too_long.ensures in
    let put = page-put c.put_page3-end.ensures (rw m.kept (m.fits c.if-is_too_long.false)) in
    answers-0 (group3-writing _ _ _ _ _ _ refl) (first-of s.wide s.narrow s.small) (all-good c.args.columns c.args.changes.now c.args.ends.now c.requires.2 s.good) (omega (arith, m.fits c.if-is_too_long.false)) m.kept put (c.done.ensures ∙ ap (λ n. done_at (bytes_to n)) (put.next ∙ zero-add _))
