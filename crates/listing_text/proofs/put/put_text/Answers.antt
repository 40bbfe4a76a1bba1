-- `listing_text::put::put_text` meets its contract. The invariant: the bytes from `i` on are left. Assumes nothing.
use native.Mathlib.Omega.{arith}
use lib.ListN.{drop_of_length-le}
use Rattle.listing_text.proofs.Spelling.{split}
use Rattle.listing_text.proofs.Written.{owes-all, owes-room, owes-some, owes-none}
use Rattle.listing_text.proofs.put.put_text.Goals as goal

pub loop-b-init : goal.loop-b-init
loop-b-init c = (owes-all c.requires, omega arith)

pub put_byte-p-requires : goal.put_byte-p-requires
put_byte-p-requires c = owes-room c.loop-b.invariant.0 _ _ (split _ _ c.loop-b-test.true)

pub loop-b-preserved : goal.loop-b-preserved
loop-b-preserved c = (owes-some c.loop-b.invariant.0 _ _ (split _ _ c.loop-b-test.true) c.put_byte-p.ensures, omega arith)

pub shape_of-out : goal.shape_of-out
shape_of-out c = c.loop-b.invariant.0.size

pub returns : goal.returns
returns c = owes-none c.loop-b.invariant.0 (drop_of_length-le _ c.loop-b-test.false)
