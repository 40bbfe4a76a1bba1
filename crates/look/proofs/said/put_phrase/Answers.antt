-- `look::said::put_phrase` meets its contract. Assumes nothing.
use Rattle.look.proofs.Spoken.{as_line}
use Rattle.listing_text.proofs.Written.{room_as, puts-as}
use mathlib.Core.Path.{◌≡◌, sym, ◌∙◌}
use Rattle.look.proofs.said.put_phrase.Goals as goal

pub put_line_of-requires : goal.put_line_of-requires
put_line_of-requires c = room_as (sym (as_line _ c.args.numbers.now c.args.k c.phrases-text.ensures)) c.requires

pub returns : goal.returns
returns c = puts-as (as_line _ c.args.numbers.now c.args.k c.phrases-text.ensures) c.put_line_of.ensures
