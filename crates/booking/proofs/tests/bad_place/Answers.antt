-- The invariant: the first of those that are left is that of all. Assumes nothing.
use mathlib.Core.Path.{◌≡◌, ◌∙◌}
use native.Mathlib.Omega.{arith}
use Rattle.booking.specs.Testing.{place_touches}
use Rattle.booking.proofs.Firsts.{first-start, first_past, first-here, first_next}
use Rattle.booking.proofs.tests.bad_place.Goals as goal

pub loop-k-init : goal.loop-k-init
loop-k-init c = first-start _ _

pub overflow_mul-k : goal.overflow_mul-k
overflow_mul-k c = omega arith

pub overflow_add-k : goal.overflow_add-k
overflow_add-k c = omega arith

pub box_at-requires : goal.box_at-requires
box_at-requires c = omega arith

pub returns-then-not-clean_under : goal.returns-then-not-clean_under
returns-then-not-clean_under c =
    let a = c.args in
    first-here (place_touches a.columns a.marks.now a.places.now) c.loop-k.k a.count c.loop-k-test.true
    (rw (← c.box_at.ensures, ← c.clean_under.ensures) c.if-not-clean_under.true-raw) ∙ c.loop-k.invariant

pub loop-k-preserved : goal.loop-k-preserved
loop-k-preserved c =
    let a = c.args in
    first_next (place_touches a.columns a.marks.now a.places.now) c.loop-k.k a.count c.loop-k-test.true
    (rw (← c.box_at.ensures, ← c.clean_under.ensures) c.if-not-clean_under.false-raw) ∙ c.loop-k.invariant

pub returns : goal.returns
returns c =
    let a = c.args in
    let e : c.args.count ≡ c.loop-k.k = omega arith in
    e ∙ first_past (place_touches a.columns a.marks.now a.places.now) c.loop-k.k a.count c.loop-k-test.false ∙ c.loop-k.invariant
