-- `codes::mode::no_mode` meets its contract. Assumes nothing.
use mathlib.Core.Path.{sym, ◌∙◌}
use Rattle.codes.proofs.Modes.{mode-missed}
use Rattle.codes.proofs.mode.no_mode.Goals as goal

pub returns-in-Some : goal.returns-in-Some
returns-in-Some c =
    let a = c.args in
    rw c.new.ensures (mode-missed a.len a.at (sym c.consume.ensures ∙ c.in-Some.is))

pub returns-in-None : goal.returns-in-None
returns-in-None c =
    let a = c.args in
    rw c.new-in-None.ensures (mode-missed a.len a.at (sym c.consume.ensures ∙ c.in-None.is))
