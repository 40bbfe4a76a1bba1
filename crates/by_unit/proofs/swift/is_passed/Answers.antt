-- The changes ascend, so that those before one that lies left of the line lie left of it too. Assumes nothing.
use Rattle.by_unit.proofs.SwiftUnits.{guess-passed}
use mathlib.Core.Path.{sym}
use mathlib.Core.Bool.{true≢false}
use native.Mathlib.Omega.{arith}
use borrow.Author.Tests.{leb-true}
use Rattle.by_unit.proofs.swift.is_passed.Goals as goal

pub returns-then-guess-seen : goal.returns-then-guess-seen
returns-then-guess-seen c = λ e. absurd (true≢false (sym e))

pub returns-then-reference-guess : goal.returns-then-reference-guess
returns-then-reference-guess c = λ e. absurd (true≢false (sym e))

pub returns-then-position-eq0 : goal.returns-then-position-eq0
returns-then-position-eq0 c = λ e. absurd (true≢false (sym e))

pub overflow_sub-result : goal.overflow_sub-result
overflow_sub-result c = omega (arith, c.if-guess-seen.false)

pub offset_bounds-reference-guess : goal.offset_bounds-reference-guess
offset_bounds-reference-guess c = omega (arith, c.if-reference-guess.false)

pub bounds-reference-guess : goal.bounds-reference-guess
bounds-reference-guess c = omega (arith, c.if-guess-seen.false, c.if-reference-guess.false)

pub returns : goal.returns
returns c = λ e.
    guess-passed c.requires (omega (arith, c.if-guess-seen.false)) (omega (arith, c.if-reference-guess.false)) c.if-position-eq0.false (leb-true _ _ e)
