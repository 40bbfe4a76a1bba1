-- `look::base64::put_two` meets its contract. Assumes nothing.
use Rattle.look.proofs.Coding.{two-as}
use Rattle.listing_text.proofs.Written.{room_as, puts-as}
use mathlib.Core.Path.{sym}
use Rattle.look.proofs.base64.put_two.Goals as goal

pub put_four-requires : goal.put_four-requires
put_four-requires c = room_as (sym (two-as c.args.a c.args.b c.letter.ensures c.letter-second.ensures c.letter-third.ensures)) c.requires

pub returns : goal.returns
returns c = puts-as (two-as c.args.a c.args.b c.letter.ensures c.letter-second.ensures c.letter-third.ensures) c.put_four.ensures
