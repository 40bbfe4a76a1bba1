-- `listing_text::lines::put_columns` meets its contract, piece by piece. Assumes nothing.
use mathlib.Core.List.{[]}
use Rattle.listing_text.proofs.Lined.{word_room, word-put, field_room, after_one}
use Rattle.listing_text.proofs.Written.{owes-last-room, owes-last}
use Rattle.listing_text.specs.Sheet.{tabbed}
use Rattle.listing_text.specs.Text.{ascii}
use Rattle.listing_text.proofs.lines.put_columns.Goals as goal

pub put_text-p-requires : goal.put_text-p-requires
unfolding ascii
put_text-p-requires c = word_room "columns" _ c.requires

pub put_field-p-requires : goal.put_field-p-requires
unfolding ascii
put_field-p-requires c = field_room _ [] _ (word-put "columns" _ c.requires c.put_text-p.ensures)

pub put_byte-requires : goal.put_byte-requires
unfolding ascii tabbed
put_byte-requires c = owes-last-room (after_one "columns" _ [] c.requires c.put_text-p.ensures c.put_field-p.ensures)

pub returns : goal.returns
unfolding ascii tabbed
returns c = owes-last (after_one "columns" _ [] c.requires c.put_text-p.ensures c.put_field-p.ensures) c.put_byte.ensures
