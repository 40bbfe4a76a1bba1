use lib.ListN.{length-drop}
use Rattle.swift_units.proofs.Counting.{mode-counted, counted-further, left_of}
use Rattle.swift_loops.proofs.Beside.{first-turned}
use Rattle.swift_loops.proofs.Swiftly.{noted-part, ready-part, ready-note, noted-few, straight-code}
use Rattle.codes.proofs.Modes.{top-straight}
use Rattle.bit_reader.proofs.Window.{ahead-shift}
use Rattle.rules.specs.Modes.{VR}
use native.Mathlib.Omega.{arith}
use Prim.Native.Nat.{◌+◌, ◌-◌}
use mathlib.Core.Path.{refl}
use Rattle.swift_units.proofs.straight.Goals as goal

-- src/lib.rt:131:9
pub note-count-requires : goal.note-count-requires
note-count-requires c = ready-part c.requires.0.ready

-- src/lib.rt:139:16
pub overflow_add-most : goal.overflow_add-most
overflow_add-most c = omega (arith, c.at_most_64.ensures.1, ready-note c.requires.0.ready, length-drop c.args.base c.args.changes.now, noted-few c.requires.0.ready (noted-part c.requires.0.ready.placed.1 c.note-count.ensures))

-- src/lib.rt:140:9
pub to_each-last-requires : goal.to_each-last-requires
to_each-last-requires c = (first-turned c.requires.0 (noted-part c.requires.0.ready.placed.1 c.note-count.ensures), omega (arith, c.requires.1), omega arith)

-- src/lib.rt:118:1
pub returns : goal.returns
returns c = λ bytes live h k.
    let a = c.args in
    let noted = noted-part c.requires.0.ready.placed.1 c.note-count.ensures in
    let read = top-straight h c.requires.2 in
    let one = mode-counted (straight-code c.requires.0.ready noted bytes read) (a.s.at + 1) (VR 0) read (λ R l. refl) in
    let went = c.to_each-last.ensures in
    let others = went.counted bytes (live - 1) (ahead-shift h 1 (omega arith)) in
    let d = c.to_each-last.result.count - c.note-count.result in (
      left_of bytes a.start (1 + d) a.left (a.left - 1 - d) (counted-further bytes a.start c.requires.0.ready.placed one others)
          (omega (arith, went.longer, went.few, c.at_most_64.ensures.0, c.requires.3)) (λ e. absurd (omega (arith, c.requires.3))),
      omega (arith, c.requires.3),
    )
