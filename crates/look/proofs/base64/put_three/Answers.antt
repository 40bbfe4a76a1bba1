-- `look::base64::put_three` meets its contract. Assumes nothing.
use Rattle.look.proofs.Coding.{three-as}
use Rattle.listing_text.proofs.Written.{room_as, puts-as}
use mathlib.Core.Path.{sym}
use Rattle.look.proofs.base64.put_three.Goals as goal

pub put_four-requires : goal.put_four-requires
put_four-requires c = room_as (sym (three-as c.args.a c.args.b c.args.c c.letter.ensures c.letter-second.ensures c.letter-third.ensures c.letter-2.ensures)) c.requires

pub returns : goal.returns
returns c = puts-as (three-as c.args.a c.args.b c.args.c c.letter.ensures c.letter-second.ensures c.letter-third.ensures c.letter-2.ensures) c.put_four.ensures
