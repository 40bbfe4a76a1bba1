use Rattle.swift_units.proofs.Counting.{mode-counted, side-none, one_left}
use Rattle.swift_loops.proofs.Swiftly.{noted-part, ready-part, side-turning, side-code}
use Rattle.swift_loops.specs.Swift.{side_mode}
use Rattle.rules.specs.Bits.{bits_of}
use Prim.Native.Nat.{◌+◌}
use mathlib.Core.Path.{refl}
use Rattle.swift_units.proofs.vertical.Goals as goal

-- src/lib.rt:49:9
pub returns-then-to-s : goal.returns-then-to-s
returns-then-to-s c = λ bytes read. refl

-- src/lib.rt:52:9
pub returns-then-width-d : goal.returns-then-width-d
returns-then-width-d c = λ bytes read. refl

-- src/lib.rt:55:9
pub note-count-requires : goal.note-count-requires
note-count-requires c = ready-part c.requires.0.asks.ready

-- src/lib.rt:56:9
pub behind-place-requires : goal.behind-place-requires
behind-place-requires c = side-turning c.requires.0 c.if-to-s.false c.if-width-d.false (noted-part c.requires.0.asks.ready.placed.1 c.note-count.ensures)

-- src/lib.rt:32:1
pub returns : goal.returns
returns c = λ bytes read.
    let a = c.args in
    let noted = noted-part c.requires.0.asks.ready.placed.1 c.note-count.ensures in
    one_left bytes a.start a.left
    (mode-counted (side-code c.requires.0 c.if-to-s.false c.if-width-d.false noted _ c.behind-place.ensures bytes read) (a.s.at + a.size) (side_mode a.d a.twice) read
    (side-none (bits_of bytes) a.d a.twice))
    c.requires.1
