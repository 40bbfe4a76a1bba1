-- Room once for the whole line, or no code.
use mathlib.Core.Path.{sym, ◌∙◌}
use Prim.Native.Nat.{◌-◌}
use native.Mathlib.Omega.{arith}
use lib.ListN.{length, length-drop}
use borrow.Author.Tests.{leb-true}
use Rattle.swift_loops.proofs.Swiftly.{walks-none}
use Rattle.swift_loops.proofs.fast_2d.swift_codes.Goals as goal

pub overflow_sub-changes : goal.overflow_sub-changes
overflow_sub-changes c = omega (arith, c.requires.1.placed)

pub has_room-requires : goal.has_room-requires
has_room-requires c =
    (c.requires.1.stands.fits, omega (arith, c.requires.1.stands.held, length-drop c.args.base c.args.changes.now))

pub codes-requires : goal.codes-requires
codes-requires c =
    let a = c.args in
    let walks = c.requires.1 in
    let room = length-drop a.base a.changes.now in
    let roomy =
    leb-true (a.width - a.from.position) (length a.changes.now - a.base - a.from.count)
    (sym c.has_room.ensures ∙ c.if-has_room.true) in
    (c.requires.0, walks, omega (arith, roomy, walks.stands.fits, walks.stands.held, room))

pub returns-then-has_room : goal.returns-then-has_room
returns-then-has_room c = c.codes.ensures

pub returns : goal.returns
returns c = walks-none c.requires.1
