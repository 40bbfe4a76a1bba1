-- The invariant: the places that failed, and those that fail among the rest, are all of them. Assumes nothing.
use Rattle.booking.proofs.Seeking.{count-start}
use Rattle.booking.proofs.Firsts.{count_past, count-here, count_next}
use Rattle.booking.specs.Moving.{fails_by}
use Rattle.heads.specs.Form.{page_in}
use native.Mathlib.Omega.{arith}
use mathlib.Core.Bool.{not}
use mathlib.Core.Path.{sym, ap, ◌∙◌}
use Rattle.booking.proofs.found.failing.Goals.{then-not-stands, else-not-stands}
use Rattle.booking.proofs.found.failing.Goals as goal

pub loop-k-init : goal.loop-k-init
loop-k-init c = (omega arith, count-start _ _)

pub returns-then-limit-n : goal.returns-then-limit-n
returns-then-limit-n c = record { few = omega (arith, c.loop-k.invariant.1); small = c.loop-k.invariant.0; all = λ z. absurd (omega arith) }

pub stands-requires : goal.stands-requires
stands-requires c = (c.requires.0, omega (arith, c.requires.1))

pub overflow_add-n : goal.overflow_add-n
overflow_add-n c = omega arith

pub loop-k-preserved : goal.loop-k-preserved
loop-k-preserved c =
    let a = c.args in
    let test = fails_by a.rows a.count a.across a.down a.u a.v (page_in a.columns a.changes.now a.ends.now) a.places.now in (
      elim c.if-not-stands.branch [ then-not-stands w ↦ omega arith | else-not-stands w ↦ omega (arith, c.loop-k.invariant.0) ],
      elim c.if-not-stands.branch [
        | then-not-stands w ↦
            count-here test c.loop-k.k a.count c.loop-k.n c.loop-k.invariant.1 c.loop-k-test.true
            (ap not (sym (c.stands.ensures a.count c.loop-k-test.true)) ∙ w.if-not-stands.true-raw) w.n-is
        | else-not-stands w ↦
            count_next test c.loop-k.k a.count c.loop-k.n c.loop-k.invariant.1 c.loop-k-test.true
            (ap not (sym (c.stands.ensures a.count c.loop-k-test.true)) ∙ w.if-not-stands.false-raw) w.n-is
      ],
    )

pub returns : goal.returns
returns c =
    let a = c.args in
    let e = count_past (fails_by a.rows a.count a.across a.down a.u a.v (page_in a.columns a.changes.now a.ends.now) a.places.now) c.loop-k.k a.count c.loop-k.n c.loop-k.invariant.1 c.loop-k-test.false in
    record { few = omega arith; small = c.loop-k.invariant.0; all = λ z. e }
