-- The invariant: the test of the places that are left is that of all. Assumes nothing.
use Rattle.booking.proofs.Moved.{every-start, every-past, every_here, every-next, inside-told}
use Rattle.booking.specs.Found.{box_inside}
use Rattle.form_file.specs.FormFile.{place_at}
use borrow.Author.Tests.{not-true, not-false}
use native.Mathlib.Omega.{arith}
use mathlib.Core.Path.{◌∙◌}
use Rattle.booking.proofs.moving.places_inside.Goals as goal

pub loop-k-init : goal.loop-k-init
loop-k-init c = every-start _ _

pub overflow_mul-k : goal.overflow_mul-k
overflow_mul-k c = omega (arith, c.requires)

pub overflow_add-k : goal.overflow_add-k
overflow_add-k c = omega (arith, c.requires)

pub box_at-requires : goal.box_at-requires
box_at-requires c = omega (arith, c.requires)

pub returns-then-not-inside : goal.returns-then-not-inside
returns-then-not-inside c =
    let a = c.args in
    every_here (λ j. box_inside a.across a.down a.u a.v a.columns a.rows (place_at a.places.now j)) c.loop-k.k a.count c.loop-k-test.true
    (inside-told a.across a.down a.u a.v a.columns a.rows c.inside.ensures c.box_at.ensures (not-true _ c.if-not-inside.true-raw)) ∙ c.loop-k.invariant

pub loop-k-preserved : goal.loop-k-preserved
loop-k-preserved c =
    let a = c.args in
    every-next (λ j. box_inside a.across a.down a.u a.v a.columns a.rows (place_at a.places.now j)) c.loop-k.k a.count c.loop-k-test.true
    (inside-told a.across a.down a.u a.v a.columns a.rows c.inside.ensures c.box_at.ensures (not-false _ c.if-not-inside.false-raw)) ∙ c.loop-k.invariant

pub returns : goal.returns
returns c =
    let a = c.args in
    every-past (λ j. box_inside a.across a.down a.u a.v a.columns a.rows (place_at a.places.now j)) c.loop-k.k a.count c.loop-k-test.false ∙ c.loop-k.invariant
