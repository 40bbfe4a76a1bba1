-- `heads::heads` meets its contract: 8, or the answer on the page. Assumes nothing.
use mathlib.Core.Path.{sym, ◌∙◌}
use borrow.Author.Tests.{not-true, not-false}
use Rattle.heads.specs.Form.{page_in}
use Rattle.heads.proofs.Quota.{held}
use Rattle.heads.proofs.Answering.{on-held, heads-8, heads-on}
use Rattle.heads.proofs.heads.Goals as goal

pub returns-then-not-sound : goal.returns-then-not-sound
returns-then-not-sound c = c.refused.ensures ∙ heads-8 _ _ _ _ _ _ _ (sym c.sound.ensures ∙ not-true _ c.if-not-sound.true-raw)

pub on_page-requires : goal.on_page-requires
on_page-requires c = sym c.sound.ensures ∙ not-false _ c.if-not-sound.false-raw

pub returns : goal.returns
returns c =
    c.on_page.ensures
    ∙ on-held (page_in c.args.columns c.args.changes.now c.args.ends.now) c.args.marks.now c.args.form c.args.least (held c.ranges.quota)
    ∙ heads-on c.args.columns c.args.changes.now c.args.ends.now c.args.marks.now c.args.form c.args.least c.args.quota
    (sym c.sound.ensures ∙ not-false _ c.if-not-sound.false-raw)
