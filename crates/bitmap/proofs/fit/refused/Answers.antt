-- `bitmap::fit::refused` meets its contract. Test by test. Assumes nothing.
use mathlib.Core.Path.{sym}
use native.Mathlib.Omega.{arith}
use Rattle.bitmap.proofs.Fitting.{tests-zero, tests-most, tests-long, tests-short, tests-past, tests-passed, reach-short, reach-past, reach-fits}
use Rattle.bitmap.proofs.fit.refused.Goals as goal
use Rattle.bitmap.proofs.fit.refused.Goals.{then-width-eq0-via-then-width-eq0, then-width-eq0-via-else-width-eq0+then-width-eq-MOST_PIXELS}

pub returns-then-width-eq0 : goal.returns-then-width-eq0
returns-then-width-eq0 c =
    let a = c.args in
    elim c.then-width-eq0.branch [
      | then-width-eq0-via-then-width-eq0 w ↦ (tests-zero a.width a.stride a.rows a.size w.if-width-eq0.true, λ e. omega (arith, e))
      | then-width-eq0-via-else-width-eq0+then-width-eq-MOST_PIXELS w ↦ (tests-most a.width a.stride a.rows a.size w.if-width-eq0.false w.if-width-eq-MOST_PIXELS.true, λ e. omega (arith, e))
    ]

pub returns-then-size-gt-MOST_BYTES : goal.returns-then-size-gt-MOST_BYTES
returns-then-size-gt-MOST_BYTES c =
    let a = c.args in
    (tests-long a.width a.stride a.rows a.size c.if-width-eq0.false c.if-width-eq-MOST_PIXELS.false c.if-size-gt-MOST_BYTES.true, λ e. omega (arith, e))

pub returns-then-stride-row : goal.returns-then-stride-row
returns-then-stride-row c =
    let a = c.args in
    let some = c.if-width-eq0.false in
    let few = c.if-width-eq-MOST_PIXELS.false in
    let short = c.if-size-gt-MOST_BYTES.false in
    let size = c.row_size-row.ensures in
    (tests-short a.width a.stride a.rows a.size some few short (omega (arith, size, c.if-stride-row.true)), λ e. omega (arith, e))

pub returns-then-rows-eq0 : goal.returns-then-rows-eq0
returns-then-rows-eq0 c =
    let a = c.args in
    let some = c.if-width-eq0.false in
    let few = c.if-width-eq-MOST_PIXELS.false in
    let short = c.if-size-gt-MOST_BYTES.false in
    let size = c.row_size-row.ensures in
    sym (tests-passed a.width a.stride a.rows a.size some few short (omega (arith, size, c.if-stride-row.false))
    (rw c.if-rows-eq0.true (omega arith)))

pub returns-then-size-row : goal.returns-then-size-row
returns-then-size-row c =
    let a = c.args in
    let some = c.if-width-eq0.false in
    let few = c.if-width-eq-MOST_PIXELS.false in
    let short = c.if-size-gt-MOST_BYTES.false in
    let size = c.row_size-row.ensures in (
      tests-past a.width a.stride a.rows a.size some few short (omega (arith, size, c.if-stride-row.false))
          (reach-short a.width a.stride a.rows a.size c.if-rows-eq0.false (omega (arith, size, c.if-size-row.true))),
      λ e. omega (arith, e),
    )

pub returns-then-size-row-2 : goal.returns-then-size-row-2
returns-then-size-row-2 c =
    let a = c.args in
    let some = c.if-width-eq0.false in
    let few = c.if-width-eq-MOST_PIXELS.false in
    let short = c.if-size-gt-MOST_BYTES.false in
    let size = c.row_size-row.ensures in
    let wide = c.if-stride-row.false in (
      tests-past a.width a.stride a.rows a.size some few short (omega (arith, size, wide))
          (reach-past a.width a.stride a.rows a.size c.if-rows-eq0.false (omega (arith, size, wide, some)) (omega (arith, size, c.if-size-row.false)) (rw size at c.if-size-row-2.true)),
      λ e. omega (arith, e),
    )

pub returns : goal.returns
returns c =
    let a = c.args in
    let some = c.if-width-eq0.false in
    let few = c.if-width-eq-MOST_PIXELS.false in
    let short = c.if-size-gt-MOST_BYTES.false in
    let size = c.row_size-row.ensures in
    let wide = c.if-stride-row.false in
    sym (tests-passed a.width a.stride a.rows a.size some few short (omega (arith, size, wide))
    (reach-fits a.width a.stride a.rows a.size c.if-rows-eq0.false (omega (arith, size, wide, some)) (omega (arith, size, c.if-size-row.false)) (rw size at c.if-size-row-2.false)))
