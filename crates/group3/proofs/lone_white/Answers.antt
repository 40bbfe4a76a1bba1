-- As `white_line`. Assumes nothing.
use mathlib.Core.Path.{sym, ◌∙◌}
use Rattle.group3.proofs.Swiftly.{white-seen}
use Rattle.group3.proofs.lone_white.Goals as goal

pub returns : goal.returns
returns c =
    let a = c.args in
    white-seen a.src.now a.settings a.room a.at (sym c.is_tagged-tagged.ensures ∙ c.if-tagged.false) c.whole_run.result c.whole_run.ensures
