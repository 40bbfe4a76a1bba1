-- The invariant: the best of the offsets that are left is that of all. Assumes nothing.
use Rattle.booking.proofs.Seeking.{best-start, best-past, best-hit, best-miss}
use Rattle.booking.specs.Found.{best_from}
use Rattle.heads.specs.Form.{page_in}
use native.Mathlib.Omega.{arith}
use native.Mathlib.Numerals.{add-one}
use Prim.Native.Nat.{ℕ}
use mathlib.Core.Path.{ap, ◌∙◌}
use Rattle.booking.proofs.found.best_fit.Goals.{then-n-fewest, else-n-fewest}
use Rattle.booking.proofs.found.best_fit.Goals as goal

pub overflow_cast-fewest : goal.overflow_cast-fewest
overflow_cast-fewest c = omega (arith, c.requires.few)

pub overflow_add-fewest : goal.overflow_add-fewest
overflow_add-fewest c = omega (arith, c.requires.few)

pub loop-i-init : goal.loop-i-init
loop-i-init c =
    let a = c.args in
    let page = page_in a.columns a.changes.now a.ends.now in
    best-start a.across a.down a.count a.boxes.now a.places.now page a.offsets a.offsets _
    ∙ ap (λ (n : ℕ). best_from a.across a.down a.count a.boxes.now a.places.now page a.offsets 0 a.offsets n) (add-one a.count)

pub failing_at-n-requires : goal.failing_at-n-requires
failing_at-n-requires c = c.requires

pub loop-i-preserved : goal.loop-i-preserved
loop-i-preserved c =
    let a = c.args in
    let page = page_in a.columns a.changes.now a.ends.now in
    elim c.if-n-fewest.branch [
      | then-n-fewest w ↦
          rw (w.best-is, w.fewest-is)
          (best-hit a.across a.down a.count a.boxes.now a.places.now page c.loop-i.i a.offsets c.loop-i.best c.loop-i.fewest c.loop-i-test.true c.failing_at-n.ensures w.if-n-fewest.true ∙ c.loop-i.invariant)
      | else-n-fewest w ↦
          rw (w.best-is, w.fewest-is)
          (best-miss a.across a.down a.count a.boxes.now a.places.now page c.loop-i.i a.offsets c.loop-i.best c.loop-i.fewest c.loop-i-test.true c.failing_at-n.ensures w.if-n-fewest.false ∙ c.loop-i.invariant)
    ]

pub returns : goal.returns
returns c =
    let a = c.args in
    best-past a.across a.down a.count a.boxes.now a.places.now (page_in a.columns a.changes.now a.ends.now) c.loop-i.i a.offsets c.loop-i.best c.loop-i.fewest c.loop-i-test.false ∙ c.loop-i.invariant
