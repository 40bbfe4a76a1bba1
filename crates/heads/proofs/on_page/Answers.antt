-- `heads::on_page` meets its contract: each test hands its outcome to a law of the definition. Assumes nothing.
use mathlib.Core.Path.{sym, ◌∙◌}
use borrow.Author.Tests.{not-true, not-false}
use Rattle.heads.proofs.Quota.{held}
use Rattle.heads.proofs.Answering.{read_held, given-quota, sound-rows, sound-enough, on-11, on-13, on_read}
use Rattle.heads.proofs.on_page.Goals as goal

pub returns-then-not-given : goal.returns-then-not-given
returns-then-not-given c =
    c.refused.ensures ∙ on-11 c.args.columns c.args.changes.now c.args.ends.now c.args.marks.now c.args.form c.args.least c.args.quota
    (rw (held c.ranges.quota) at (sym c.given.ensures ∙ not-true _ c.if-not-given.true-raw))

pub clean-requires : goal.clean-requires
clean-requires c = sound-enough _ _ _ _ c.requires

pub returns-then-not-clean : goal.returns-then-not-clean
returns-then-not-clean c =
    c.refused-then-not-clean.ensures ∙ on-13 c.args.columns c.args.changes.now c.args.ends.now c.args.marks.now c.args.form c.args.least c.args.quota
    (rw (held c.ranges.quota) at (sym c.given.ensures ∙ not-false _ c.if-not-given.false-raw))
    (sym c.clean.ensures ∙ not-true _ c.if-not-clean.true-raw)

pub tick_table-table-requires : goal.tick_table-table-requires
tick_table-table-requires c = sound-rows _ _ _ _ c.requires

pub heads_in-requires : goal.heads_in-requires
heads_in-requires c = given-quota _ _ _ (sym c.given.ensures ∙ not-false _ c.if-not-given.false-raw)

pub returns : goal.returns
returns c =
    c.heads_in.ensures ∙ read_held c.args.least (held c.ranges.quota) c.tick_table-table.ensures
    ∙ on_read c.args.columns c.args.changes.now c.args.ends.now c.args.marks.now c.args.form c.args.least c.args.quota
    (rw (held c.ranges.quota) at (sym c.given.ensures ∙ not-false _ c.if-not-given.false-raw))
    (sym c.clean.ensures ∙ not-false _ c.if-not-clean.false-raw)
