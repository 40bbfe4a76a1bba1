-- `look::escaped::put_escaped` meets its contract. Assumes nothing.
use Rattle.look.proofs.Escaping.{escaped-split, escaped-none}
use Rattle.listing_text.proofs.Written.{owes-all, owes-room, owes-some, owes-none}
use lib.ListN.{drop_of_length-le}
use native.Mathlib.Omega.{arith}
use Prim.Native.Nat.{◌-◌, ◌+◌, ◌≤◌}
use mathlib.Core.Path.{◌≡◌}
use Rattle.look.proofs.escaped.put_escaped.Goals as goal

pub loop-b-init : goal.loop-b-init
loop-b-init c = (owes-all c.requires, omega arith)

pub put_escaped_byte-p-requires : goal.put_escaped_byte-p-requires
put_escaped_byte-p-requires c = owes-room c.loop-b.invariant.0 _ _ (escaped-split _ _ c.loop-b-test.true)

pub loop-b-preserved : goal.loop-b-preserved
loop-b-preserved c = (owes-some c.loop-b.invariant.0 _ _ (escaped-split _ _ c.loop-b-test.true) c.put_escaped_byte-p.ensures, omega arith)

pub shape_of-out : goal.shape_of-out
shape_of-out c = c.loop-b.invariant.0.size

pub returns : goal.returns
returns c = owes-none c.loop-b.invariant.0 (escaped-none _ (drop_of_length-le _ c.loop-b-test.false))
