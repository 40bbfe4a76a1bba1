-- The invariant is `Going`, and each way through a turn is a law of it. What falls is the bits left.
use mathlib.Core.Path.{sym, ◌∙◌}
use native.Mathlib.Omega.{arith}
use Rattle.one_line.proofs.RunLoop.{going-new, going-length, going-holds, going_done, going-bad, going_less, going-stop, going-coloured, going_on}
use Rattle.one_line.proofs.line_1d.runs.Goals as goal

pub loop-rules-init : goal.loop-rules-init
loop-rules-init c =
    going-new c.requires.holds c.load-buffer.ensures

pub overflow_cast-line : goal.overflow_cast-line
overflow_cast-line c =
    omega (arith, (going-holds c.loop-rules.invariant).coloured)

pub next_run-requires : goal.next_run-requires
next_run-requires c = record { size = c.requires.loading.size; loaded = c.loop-rules.invariant.loaded }

pub shape_of-changes-in-Err : goal.shape_of-changes-in-Err
shape_of-changes-in-Err c =
    going-length c.loop-rules.invariant

pub returns-in-Err : goal.returns-in-Err
returns-in-Err c =
    rw c.number.ensures
    (going-bad c.loop-rules.invariant (sym c.goes_on.ensures ∙ c.loop-rules-test.true) (rw c.in-Err.is at c.next_run.ensures))

pub push_pixels-requires : goal.push_pixels-requires
push_pixels-requires c =
    going-holds c.loop-rules.invariant

pub shape_of-changes-in-Err-push_pixels : goal.shape_of-changes-in-Err-push_pixels
shape_of-changes-in-Err-push_pixels c =
    c.push_pixels.auto.changes ∙ going-length c.loop-rules.invariant

pub returns-in-Err-push_pixels : goal.returns-in-Err-push_pixels
returns-in-Err-push_pixels c =
    rw c.place_of.ensures
    (going-stop c.loop-rules.invariant (sym c.goes_on.ensures ∙ c.loop-rules-test.true) (rw c.in-Ok.is at c.next_run.ensures) _ _ c.push_pixels.ensures c.in-Err-push_pixels.is)

pub turned-line-requires : goal.turned-line-requires
turned-line-requires c =
    going-coloured c.loop-rules.invariant (sym c.goes_on.ensures ∙ c.loop-rules-test.true) (rw c.in-Ok.is at c.next_run.ensures) _ _ c.push_pixels.ensures c.in-Ok-push_pixels.is

pub overflow_add-count : goal.overflow_add-count
overflow_add-count c =
    omega (arith, c.requires.loading.size, c.loop-rules.invariant.few, going_less c.loop-rules.invariant (sym c.goes_on.ensures ∙ c.loop-rules-test.true) (rw c.in-Ok.is at c.next_run.ensures))

pub loop-rules-smaller : goal.loop-rules-smaller
loop-rules-smaller c =
    omega (arith, going_less c.loop-rules.invariant (sym c.goes_on.ensures ∙ c.loop-rules-test.true) (rw c.in-Ok.is at c.next_run.ensures))

pub loop-rules-preserved : goal.loop-rules-preserved
loop-rules-preserved c =
    rw c.turned-line.ensures
    (going_on c.loop-rules.invariant (sym c.goes_on.ensures ∙ c.loop-rules-test.true) (rw c.in-Ok.is at c.next_run.ensures) _ _ c.push_pixels.ensures c.in-Ok-push_pixels.is)

pub shape_of-changes : goal.shape_of-changes
shape_of-changes c =
    going-length c.loop-rules.invariant

pub returns : goal.returns
returns c =
    going_done c.loop-rules.invariant (sym c.goes_on.ensures ∙ c.loop-rules-test.false)
