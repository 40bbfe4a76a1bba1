-- The invariant: the first of the places that are left is that of all. Assumes nothing.
use mathlib.Core.Path.{◌≡◌, ◌∙◌}
use native.Mathlib.Omega.{arith}
use Rattle.heads.specs.Form.{page_in}
use Rattle.booking.specs.Testing.{fails_at}
use Rattle.booking.proofs.Firsts.{first-start, first_past, first-here, first_next}
use Rattle.booking.proofs.tests.wrong_place.Goals as goal

pub loop-k-init : goal.loop-k-init
loop-k-init c = first-start _ _

pub place_holds-requires : goal.place_holds-requires
place_holds-requires c = (c.requires.0, omega arith)

pub returns-then-not-place_holds : goal.returns-then-not-place_holds
returns-then-not-place_holds c =
    let a = c.args in
    first-here (fails_at (page_in a.columns a.changes.now a.ends.now) a.places.now) c.loop-k.k a.count c.loop-k-test.true
    (rw (← c.place_holds.ensures) c.if-not-place_holds.true-raw) ∙ c.loop-k.invariant

pub loop-k-preserved : goal.loop-k-preserved
loop-k-preserved c =
    let a = c.args in
    first_next (fails_at (page_in a.columns a.changes.now a.ends.now) a.places.now) c.loop-k.k a.count c.loop-k-test.true
    (rw (← c.place_holds.ensures) c.if-not-place_holds.false-raw) ∙ c.loop-k.invariant

pub returns : goal.returns
returns c =
    let a = c.args in
    let e : c.args.count ≡ c.loop-k.k = omega arith in
    e ∙ first_past (fails_at (page_in a.columns a.changes.now a.ends.now) a.places.now) c.loop-k.k a.count c.loop-k-test.false ∙ c.loop-k.invariant
