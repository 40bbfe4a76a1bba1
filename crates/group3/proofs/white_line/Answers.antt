-- `group3::white_line` meets its contract. Assumes nothing.
use mathlib.Core.Path.{sym, ◌∙◌}
use borrow.Author.Tests.{not-false}
use Rattle.group3.proofs.Swiftly.{white-seen}
use Rattle.group3.proofs.white_line.Goals as goal

pub whole_run-requires : goal.whole_run-requires
whole_run-requires c = let pre = c.requires in (pre.0, λ e. pre.1 (sym c.is_kept.ensures ∙ e))

pub returns : goal.returns
returns c =
    let a = c.args in
    white-seen a.src.now a.settings a.room a.at (c.follows_white.ensures (not-false _ c.if-not-follows_white.false-raw)) c.whole_run.result c.whole_run.ensures
