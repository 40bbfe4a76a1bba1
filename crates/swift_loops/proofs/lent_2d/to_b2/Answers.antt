-- Pass mode is one code to b2.
use native.Mathlib.Omega.{arith}
use Rattle.swift_loops.proofs.Swiftly.{noted-whole, ready-note, pass-code}
use Rattle.swift_loops.proofs.lent_2d.to_b2.Goals as goal

pub note-count-requires : goal.note-count-requires
note-count-requires c = ready-note c.requires.ready

pub returns : goal.returns
returns c =
    λ bytes read.
    ((pass-code c.requires.ready (noted-whole c.note-count.ensures) bytes _ c.change_or-b2.ensures read).walked, omega arith)
