-- `listing_text::lines::put_fields` meets its contract. The invariant: the numbers from `i` on are left. Assumes nothing.
use mathlib.Core.Path.{ap}
use native.Mathlib.Omega.{arith}
use lib.ListN.{drop_of_length-le}
use Rattle.listing_text.proofs.Lined.{tabbed-at}
use Rattle.listing_text.proofs.Written.{owes-all, owes-room, owes-some, owes-none}
use Rattle.listing_text.specs.Sheet.{tabbed}
use Rattle.listing_text.proofs.lines.put_fields.Goals as goal

pub loop-number-init : goal.loop-number-init
loop-number-init c = (owes-all c.requires, omega arith)

pub put_field-p-requires : goal.put_field-p-requires
put_field-p-requires c = rw c.from.ensures (owes-room c.loop-number.invariant.0 _ _ (tabbed-at _ _ c.loop-number-test.true))

pub loop-number-preserved : goal.loop-number-preserved
loop-number-preserved c = (owes-some c.loop-number.invariant.0 _ _ (tabbed-at _ _ c.loop-number-test.true) (rw c.from.ensures at c.put_field-p.ensures), omega arith)

pub shape_of-out : goal.shape_of-out
shape_of-out c = c.loop-number.invariant.0.size

pub returns : goal.returns
unfolding tabbed
returns c = owes-none c.loop-number.invariant.0 (ap tabbed (drop_of_length-le _ c.loop-number-test.false))
