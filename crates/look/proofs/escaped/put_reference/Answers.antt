-- `look::escaped::put_reference` meets its contract. Assumes nothing.
use Rattle.look.proofs.Escaping.{reference-line}
use Rattle.listing_text.proofs.Written.{room_as, puts-as}
use mathlib.Core.Path.{◌≡◌, sym}
use Rattle.look.proofs.escaped.put_reference.Goals as goal

pub put_line_of-requires : goal.put_line_of-requires
put_line_of-requires c = room_as (sym (reference-line c.args.n)) c.requires

pub returns : goal.returns
returns c = puts-as (reference-line c.args.n) c.put_line_of.ensures
