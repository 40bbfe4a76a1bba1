-- `codes::mode::coded` meets its contract. Assumes nothing.
use mathlib.Core.Path.{refl, sym, ◌∙◌}
use Rattle.codes.specs.Modes.{kind_of}
use Rattle.codes.proofs.Modes.{mode-moved}
use Rattle.codes.proofs.mode.coded.Goals as goal

pub returns-in-Some : goal.returns-in-Some
returns-in-Some c =
    let a = c.args in
    mode-moved a.len a.at a.size refl (sym c.consume.ensures ∙ c.in-Some.is)

pub returns-in-None : goal.returns-in-None
returns-in-None c =
    let a = c.args in
    rw c.new.ensures (mode-moved a.len a.at a.size {k = kind_of a.mode} refl (sym c.consume.ensures ∙ c.in-None.is))
