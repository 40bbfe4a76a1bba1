-- `look::base64::put_one` meets its contract. Assumes nothing.
use Rattle.look.proofs.Coding.{one-as}
use Rattle.listing_text.proofs.Written.{room_as, puts-as}
use mathlib.Core.Path.{sym}
use Rattle.look.proofs.base64.put_one.Goals as goal

pub put_four-requires : goal.put_four-requires
put_four-requires c = room_as (sym (one-as c.args.a c.letter.ensures c.letter-second.ensures)) c.requires

pub returns : goal.returns
returns c = puts-as (one-as c.args.a c.letter.ensures c.letter-second.ensures) c.put_four.ensures
