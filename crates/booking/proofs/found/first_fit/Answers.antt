-- The invariant: the first of the offsets that are left is that of all. Assumes nothing.
use Rattle.booking.proofs.Firsts.{first-start, first_past, first-here, first_next}
use Rattle.booking.specs.Found.{fits_at}
use Rattle.heads.specs.Form.{page_in}
use native.Mathlib.Omega.{arith}
use mathlib.Core.Path.{◌≡◌, sym, ◌∙◌}
use Rattle.booking.proofs.found.first_fit.Goals as goal

pub loop-i-init : goal.loop-i-init
loop-i-init c = first-start _ _

pub fits_at-fit-requires : goal.fits_at-fit-requires
fits_at-fit-requires c = c.requires

pub returns-in-Ok : goal.returns-in-Ok
returns-in-Ok c =
    let a = c.args in
    first-here (fits_at a.across a.down a.count a.boxes.now a.places.now (page_in a.columns a.changes.now a.ends.now)) c.loop-i.i a.offsets c.loop-i-test.true
    (sym (rw c.in-Ok.is at c.fits_at-fit.ensures)) ∙ c.loop-i.invariant

pub loop-i-preserved : goal.loop-i-preserved
loop-i-preserved c =
    let a = c.args in
    first_next (fits_at a.across a.down a.count a.boxes.now a.places.now (page_in a.columns a.changes.now a.ends.now)) c.loop-i.i a.offsets c.loop-i-test.true
    (sym (rw c.in-Err.is at c.fits_at-fit.ensures)) ∙ c.loop-i.invariant

pub returns : goal.returns
returns c =
    let a = c.args in
    let e : c.args.offsets ≡ c.loop-i.i = omega arith in
    e ∙ first_past (fits_at a.across a.down a.count a.boxes.now a.places.now (page_in a.columns a.changes.now a.ends.now)) c.loop-i.i a.offsets c.loop-i-test.false ∙ c.loop-i.invariant
