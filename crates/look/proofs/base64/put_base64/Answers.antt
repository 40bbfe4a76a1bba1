-- `look::base64::put_base64` meets its contract. Assumes nothing.
use Rattle.look.proofs.Spoken.{prints-all}
use Rattle.look.proofs.Coding.{encodes-no, encodes-yes, coded-room}
use native.Mathlib.Omega.{arith}
use Rattle.look.proofs.base64.put_base64.Goals as goal

pub returns-then-out-groups : goal.returns-then-out-groups
returns-then-out-groups c = encodes-no c.args.bytes.now c.args.out.now (omega (arith, c.groups.ensures))

pub put_all-requires : goal.put_all-requires
put_all-requires c = coded-room c.args.bytes.now _ (omega (arith, c.groups.ensures))

pub returns : goal.returns
returns c = encodes-yes c.args.bytes.now c.args.out.now (omega (arith, c.groups.ensures)) (prints-all c.put_all.ensures)
