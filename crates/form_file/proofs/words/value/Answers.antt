-- `form_file::words::value` meets its contract. The invariant: the number of the digits that were passed. Assumes nothing.
use mathlib.Core.Path.{refl, subst}
use native.Mathlib.Omega.{arith}
use lib.ListN.{get_or}
use Rattle.listing_text.specs.Reading.{DigitIs}
use Rattle.form_file.proofs.Wording.{valuing-first, valuing-end, valuing-other, valuing-over, valuing-next}
use Rattle.form_file.proofs.words.value.Goals as goal

pub loop-b-init : goal.loop-b-init
loop-b-init c = valuing-first _

pub returns-in_default : goal.returns-in_default
returns-in_default c = valuing-other c.args.word.now c.loop-b.invariant c.loop-b-test.true _ refl (subst (DigitIs (get_or c.args.word.now c.loop-b.b-index 0)) c.in_default.is c.digit.ensures)

pub overflow_mul-n : goal.overflow_mul-n
overflow_mul-n c = omega (arith, c.loop-b.invariant.small)

pub overflow_add-n : goal.overflow_add-n
overflow_add-n c = omega (arith, c.loop-b.invariant.small)

pub returns-then-n-ge-NONE : goal.returns-then-n-ge-NONE
returns-then-n-ge-NONE c = valuing-over c.args.word.now c.loop-b.invariant c.loop-b-test.true _ c.in-Some.ensures.0 c.in-Some.ensures.1 c.if-n-ge-NONE.true

pub loop-b-preserved : goal.loop-b-preserved
loop-b-preserved c = valuing-next c.args.word.now c.loop-b.invariant c.loop-b-test.true _ c.in-Some.ensures.0 c.in-Some.ensures.1 (omega arith)

pub returns : goal.returns
returns c = valuing-end c.args.word.now c.loop-b.invariant c.loop-b-test.false
