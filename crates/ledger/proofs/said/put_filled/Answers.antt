use native.Mathlib.Omega.{arith}
use Rattle.listing_text.proofs.Written.{owes-all, owes-room, owes-some, owes-none}
use Rattle.ledger.proofs.Filling.{fill-split, fill_none}
use lib.ListN.{drop_of_length-le}
use Rattle.ledger.proofs.said.put_filled.Goals as goal

pub loop-b-init : goal.loop-b-init
loop-b-init c = (owes-all c.requires, omega arith)

pub put_piece-p-requires : goal.put_piece-p-requires
put_piece-p-requires c = owes-room c.loop-b.invariant.0 _ _ (fill-split _ _ _ c.loop-b-test.true)

pub loop-b-preserved : goal.loop-b-preserved
loop-b-preserved c = (owes-some c.loop-b.invariant.0 _ _ (fill-split _ _ _ c.loop-b-test.true) c.put_piece-p.ensures, omega arith)

pub shape_of-out : goal.shape_of-out
shape_of-out c = c.loop-b.invariant.0.size

pub returns : goal.returns
returns c = owes-none c.loop-b.invariant.0 (fill_none _ _ (drop_of_length-le _ c.loop-b-test.false))
