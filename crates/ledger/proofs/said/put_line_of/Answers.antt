use mathlib.Core.Path.{sym, ap}
use Rattle.listing_text.proofs.Written.{room_as, puts-as}
use Rattle.ledger.specs.Said.{fill}
use Rattle.listing_text.proofs.Lining.{line-is}
use Rattle.ledger.proofs.said.put_line_of.Goals as goal

pub put_filled-requires : goal.put_filled-requires
put_filled-requires c = room_as (ap (fill c.args.numbers.now) (line-is c.line_start-from.ensures c.line_end-end.ensures)) c.requires

pub returns : goal.returns
returns c = puts-as (sym (ap (fill c.args.numbers.now) (line-is c.line_start-from.ensures c.line_end-end.ensures))) c.put_filled.ensures
