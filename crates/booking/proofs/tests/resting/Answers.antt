-- By whether a row is read under the one above it. Assumes nothing.
use mathlib.Core.Path.{sym, ◌∙◌}
use Prim.Native.Nat.{◌<◌}
use native.Mathlib.Omega.{arith}
use Rattle.booking.specs.Testing.{place_touches}
use Rattle.booking.proofs.Firsts.{first-within}
use Rattle.booking.proofs.Resting.{rests-above, rests-nowhere, rests-place}
use Rattle.booking.proofs.tests.resting.Goals.{Else-k-count}
use Rattle.booking.proofs.tests.resting.Goals as goal

-- a place that touches such a row is one of the form's
placed : (c : Else-k-count) → c.bad_place-k.result < c.args.form.places
placed c =
    let a = c.args in
    first-within (place_touches a.columns a.marks.now a.places.now) a.form.places c.bad_place-k.ensures c.if-k-count.false

pub returns-then-under_above : goal.returns-then-under_above
returns-then-under_above c =
    λ page s.
    let a = c.args in
    rests-above a.form a.boxes.now a.places.now a.encoding a.columns a.marks.now page s
    (sym c.under_above.ensures ∙ c.if-under_above.true) c.bad_above.ensures
    c.lowest_place-low.ensures c.lowest_box.ensures

pub returns-then-k-count : goal.returns-then-k-count
returns-then-k-count c =
    λ page s.
    let a = c.args in
    rests-nowhere a.form a.boxes.now a.places.now a.encoding a.columns a.marks.now page s
    (sym c.under_above.ensures ∙ c.if-under_above.false) c.bad_place-k.ensures c.if-k-count.true

pub overflow_mul-k : goal.overflow_mul-k
overflow_mul-k c = omega (arith, placed c)

pub overflow_add-k : goal.overflow_add-k
overflow_add-k c = omega (arith, placed c)

pub box_at-b-requires : goal.box_at-b-requires
box_at-b-requires c = omega (arith, placed c)

pub returns : goal.returns
returns c =
    λ page s.
    let a = c.args in
    rests-place a.form a.boxes.now a.places.now a.encoding a.columns a.marks.now page s
    (sym c.under_above.ensures ∙ c.if-under_above.false)
    c.bad_place-k.ensures c.if-k-count.false c.box_at-b.ensures c.bad_row.ensures
