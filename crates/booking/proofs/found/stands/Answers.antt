-- By the kind of the place, where it lies inside. Assumes nothing.
use Rattle.booking.proofs.Seeking.{stands-outside, stands-black, stands-white}
use Rattle.booking.proofs.Moved.{inside-movable}
use Rattle.heads.specs.Form.{page_in}
use borrow.Author.Tests.{not-true, not-false}
use native.Mathlib.Omega.{arith}
use Prim.Native.Nat.{◌+◌, ◌*◌}
use mathlib.Core.Path.{sym, ◌∙◌}
use Rattle.booking.proofs.found.stands.Reads as reads
use Rattle.booking.proofs.found.stands.Lts as lts
use Rattle.booking.proofs.moving.inside.Reads as inside-reads
use Rattle.booking.proofs.moving.moved.Reads as moved-reads
use Rattle.booking.proofs.tests.box_at.Reads as box-at-reads
use Rattle.heads.proofs.count.in_box.Reads as in-box-reads
use Rattle.booking.proofs.found.stands.Goals as goal

pub returns-then-not-inside : goal.returns-then-not-inside
returns-then-not-inside c = λ count h.
    let a = c.args in
    stands-outside a.rows a.across a.down a.u a.v (page_in a.columns a.changes.now a.ends.now) a.places.now a.k
    c.box_at-b.ensures c.inside.ensures count (not-true _ c.if-not-inside.true-raw)

pub moved-requires : goal.moved-requires
moved-requires c =
    let a = c.args in
    inside-movable a.across a.down a.u a.v a.columns a.rows _ (omega arith) (omega arith) (sym c.inside.ensures ∙ not-false _ c.if-not-inside.false-raw)

pub overflow_cast-asked : goal.overflow_cast-asked
overflow_cast-asked c = omega (arith, c.type_inv.places (7 * c.args.k + 5))

pub returns-then-places-k-eq1 : goal.returns-then-places-k-eq1
returns-then-places-k-eq1 c = λ count h.
    let a = c.args in
    stands-black a.rows a.across a.down a.u a.v (page_in a.columns a.changes.now a.ends.now) a.places.now a.k
    c.box_at-b.ensures c.inside.ensures count (not-false _ c.if-not-inside.false-raw) h c.in_box-count.ensures c.moved.ensures c.if-places-k-eq1.true

pub returns : goal.returns
returns c = λ count h.
    let a = c.args in
    stands-white a.rows a.across a.down a.u a.v (page_in a.columns a.changes.now a.ends.now) a.places.now a.k
    c.box_at-b.ensures c.inside.ensures count (not-false _ c.if-not-inside.false-raw) h c.in_box-count.ensures c.moved.ensures c.if-places-k-eq1.false
