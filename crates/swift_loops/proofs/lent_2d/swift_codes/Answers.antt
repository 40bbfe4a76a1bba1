-- Room once for the whole line, or no code.
use mathlib.Core.Path.{sym, ◌∙◌}
use Prim.Native.Nat.{◌-◌}
use native.Mathlib.Omega.{arith}
use lib.ListN.{length}
use borrow.Author.Tests.{leb-true}
use Rattle.swift_loops.proofs.Swiftly.{walks-none}
use Rattle.swift_loops.proofs.lent_2d.swift_codes.Goals as goal

pub codes-requires : goal.codes-requires
codes-requires c =
    let a = c.args in
    let roomy =
    leb-true (a.width - a.from.position) (length a.row.now - a.from.count)
    (sym c.has_room.ensures ∙ c.if-has_room.true) in
    (c.requires, omega (arith, roomy, c.requires.stands.fits, c.requires.stands.held))

pub returns : goal.returns
returns c = walks-none c.requires
