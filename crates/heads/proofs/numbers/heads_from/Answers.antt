-- `heads::numbers::heads_from` meets its contract: 8, 11 for another length, or the answer on the page. Assumes nothing.
use mathlib.Core.Path.{sym, ◌∙◌}
use borrow.Author.Tests.{not-true, not-false}
use Rattle.heads.specs.Form.{page_in}
use Rattle.heads.proofs.Quota.{held}
use Rattle.heads.proofs.Answering.{on-held, from-8, from-11, from_on}
use Rattle.heads.proofs.numbers.heads_from.Goals as goal

pub returns-then-not-sound : goal.returns-then-not-sound
returns-then-not-sound c = c.refused.ensures ∙ from-8 _ _ _ _ _ _ _ (sym c.sound.ensures ∙ not-true _ c.if-not-sound.true-raw)

pub returns-then-boxes-ne80 : goal.returns-then-boxes-ne80
returns-then-boxes-ne80 c =
    c.refused-then-boxes-ne80.ensures
    ∙ from-11 _ _ _ _ _ _ _ (sym c.sound.ensures ∙ not-false _ c.if-not-sound.false-raw) c.if-boxes-ne80.true

pub on_page-requires : goal.on_page-requires
on_page-requires c = sym c.sound.ensures ∙ not-false _ c.if-not-sound.false-raw

pub returns : goal.returns
returns c =
    c.on_page.ensures
    ∙ on-held (page_in c.args.columns c.args.changes.now c.args.ends.now) c.args.marks.now c.form_in.result c.args.least (held c.ranges.quota)
    ∙ rw c.form_in.ensures
    (from_on c.args.columns c.args.changes.now c.args.ends.now c.args.marks.now c.args.boxes.now c.args.least c.args.quota
    (sym c.sound.ensures ∙ not-false _ c.if-not-sound.false-raw) c.if-boxes-ne80.false)
