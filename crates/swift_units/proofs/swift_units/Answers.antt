use Rattle.swift_units.proofs.Counting.{counted_none, left_of}
use borrow.Author.Tests.{leb-true}
use lib.ListN.{length, length-drop}
use native.Mathlib.Omega.{arith}
use Prim.Native.Nat.{◌-◌}
use mathlib.Core.Path.{refl, sym, ◌∙◌}
use Rattle.swift_units.proofs.swift_units.Goals as goal

-- src/lib.rt:348:8
pub has_room-requires : goal.has_room-requires
has_room-requires c = (c.requires.stands.fits, omega (arith, c.requires.stands.held, length-drop c.args.base c.args.changes.now))

-- src/lib.rt:349:9
pub codes-requires : goal.codes-requires
codes-requires c =
    let a = c.args in
    let walks = c.requires in
    let room = length-drop a.base a.changes.now in
    let roomy = leb-true (a.width - a.from.position) (length a.changes.now - a.base - a.from.count) (sym c.has_room.ensures ∙ c.if-has_room.true) in
    (walks, omega (arith, roomy, walks.stands.fits, walks.stands.held, room))

-- src/lib.rt:336:1
pub returns : goal.returns
returns c = left_of c.args.src.now c.args.start 0 c.args.units c.args.units (counted_none c.requires) (omega arith) (λ e. refl)
