-- In 64 bits no sum of a place and an offset wraps; outside of the line the code is another.
use native.Mathlib.Omega.{arith}
use Rattle.swift_loops.proofs.Swiftly.{noted-whole, ready-note, side-turning, side-code}
use Rattle.swift_loops.proofs.Beside.{side-turned}
use Rattle.swift_loops.proofs.lent_2d.vertical.Goals as goal

pub note-count-requires : goal.note-count-requires
note-count-requires c = ready-note c.requires.asks.ready

pub behind-place-requires : goal.behind-place-requires
behind-place-requires c =
    side-turning c.requires c.if-to-s.false c.if-width-d.false (noted-whole c.note-count.ensures)

pub returns : goal.returns
returns c =
    let noted = noted-whole c.note-count.ensures in
    let far = c.if-to-s.false in
    let within = c.if-width-d.false in
    let reached = c.behind-place.ensures in (
      λ bytes read. ((side-code c.requires far within noted _ reached bytes read).walked, omega (arith, c.requires.some_bits)),
      side-turned c.requires far within noted _ reached,
    )
