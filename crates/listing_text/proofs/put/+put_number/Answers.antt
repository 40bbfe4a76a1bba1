-- `listing_text::put::put_number` meets its contract: all digits but the last by the call, and the last.
use Rattle.std.proofs.Common.{refl, sym, arith}
use Rattle.listing_text.proofs.Digits.{text-one, text-more}
use Rattle.listing_text.proofs.Written.{room_as, puts-as, owes-all, owes-room, owes-some, owes-last-room, owes-last}
use Rattle.listing_text.proofs.put.+put_number.Goals as goal

pub put_byte-requires : goal.put_byte-requires
put_byte-requires t c = room_as (sym (text-one _ _ c.if-n-lt10.true c.glyph.ensures)) c.requires

pub returns-then-n-lt10 : goal.returns-then-n-lt10
returns-then-n-lt10 t c = puts-as (text-one _ _ c.if-n-lt10.true c.glyph.ensures) c.put_byte.ensures

pub put_number-p-requires : goal.put_number-p-requires
put_number-p-requires t c = (omega arith, owes-room (owes-all c.requires) _ _ (text-more _ _ c.if-n-lt10.false refl))

pub put_byte-requires-2 : goal.put_byte-requires-2
put_byte-requires-2 t c =
    owes-last-room (owes-some (owes-all c.requires) _ _ (text-more _ _ c.if-n-lt10.false c.glyph-2.ensures) c.put_number-p.ensures)

pub returns : goal.returns
returns t c =
    owes-last (owes-some (owes-all c.requires) _ _ (text-more _ _ c.if-n-lt10.false c.glyph-2.ensures) c.put_number-p.ensures) c.put_byte-2.ensures
