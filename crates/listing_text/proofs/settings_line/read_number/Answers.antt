-- `listing_text::settings_line::read_number` meets its contract. The invariant: the digits up to `next` spell `n`. Assumes nothing.
use mathlib.Core.Path.{refl}
use Rattle.listing_text.proofs.Spelling.{no_number, first-digit, next-digit, zero-leads, too_large}
use Rattle.listing_text.proofs.settings_line.read_number.Goals as goal

pub returns-in_err-n : goal.returns-in_err-n
returns-in_err-n c = rw c.from_residual.ensures (no_number c.args.bytes.now c.args.at _ refl c.in_err-n.ensures)

pub loop-d-init : goal.loop-d-init
loop-d-init c = first-digit _ _ _ c.in_ok-n.ensures.0 c.in_ok-n.ensures.1

pub returns-then-n-eq0 : goal.returns-then-n-eq0
returns-then-n-eq0 c = zero-leads _ _ _ c.in-Some.ensures.0 c.in-Some.ensures.1 _ _ c.loop-d.invariant c.if-n-eq0.true

pub returns-then-n-gt-MOST_NUMBER : goal.returns-then-n-gt-MOST_NUMBER
returns-then-n-gt-MOST_NUMBER c = too_large _ _ _ c.in-Some.ensures.0 c.in-Some.ensures.1 _ _ c.loop-d.invariant c.if-n-gt-MOST_NUMBER.true

pub loop-d-preserved : goal.loop-d-preserved
loop-d-preserved c = next-digit _ _ _ c.in-Some.ensures.0 c.in-Some.ensures.1 _ _ c.loop-d.invariant c.if-n-eq0.false c.if-n-gt-MOST_NUMBER.false
