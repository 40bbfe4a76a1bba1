use Rattle.swift_units.proofs.Counting.{mode-counted, one_left}
use Rattle.swift_loops.proofs.Swiftly.{noted-part, ready-part, pass-code}
use Rattle.rules.specs.Modes.{pass}
use Prim.Native.Nat.{◌+◌}
use mathlib.Core.Path.{refl}
use Rattle.swift_units.proofs.to_b2.Goals as goal

-- src/lib.rt:160:9
pub note-count-requires : goal.note-count-requires
note-count-requires c = ready-part c.requires.0.ready

-- src/lib.rt:148:1
pub returns : goal.returns
returns c = λ bytes read.
    let a = c.args in
    let noted = noted-part c.requires.0.ready.placed.1 c.note-count.ensures in
    one_left bytes a.start a.left
    (mode-counted (pass-code c.requires.0.ready noted bytes _ c.change_or-b2.ensures read) (a.s.at + 4) pass read (λ R l. refl))
    c.requires.1
