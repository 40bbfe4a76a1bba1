-- `look::base64::put_four` meets its contract. Assumes nothing.
use Rattle.look.proofs.Coding.{four-end}
use mathlib.Core.List.{◌∷◌}
use Rattle.look.proofs.base64.put_four.Goals as goal

pub returns : goal.returns
returns c = four-end c.requires c.put_byte-p.ensures c.put_byte-p-2.ensures c.put_byte-p-3.ensures c.put_byte.ensures
