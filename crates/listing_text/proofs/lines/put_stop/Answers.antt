-- `listing_text::lines::put_stop` meets its contract, piece by piece. Assumes nothing.
use mathlib.Core.List.{[], ◌∷◌}
use Rattle.listing_text.proofs.Lined.{word_room, word-put, field_room, after_one, after_two, after-three}
use Rattle.listing_text.proofs.Written.{owes-last-room, owes-last}
use Rattle.listing_text.specs.Sheet.{tabbed}
use Rattle.listing_text.specs.Text.{ascii}
use Rattle.listing_text.proofs.lines.put_stop.Goals as goal

pub put_text-p-requires : goal.put_text-p-requires
unfolding ascii
put_text-p-requires c = word_room "stop" _ c.requires

pub put_field-p-requires : goal.put_field-p-requires
unfolding ascii
put_field-p-requires c = field_room _ _ _ (word-put "stop" _ c.requires c.put_text-p.ensures)

pub put_field-p-requires-2 : goal.put_field-p-requires-2
unfolding ascii
put_field-p-requires-2 c = field_room _ _ _ (after_one "stop" _ (_ ∷ _ ∷ []) c.requires c.put_text-p.ensures c.put_field-p.ensures)

pub put_field-p-requires-3 : goal.put_field-p-requires-3
unfolding ascii
put_field-p-requires-3 c = field_room _ _ _ (after_two "stop" _ _ (_ ∷ []) c.requires c.put_text-p.ensures c.put_field-p.ensures c.put_field-p-2.ensures)

pub put_byte-requires : goal.put_byte-requires
unfolding ascii tabbed
put_byte-requires c =
    owes-last-room (after-three "stop" _ _ _ [] c.requires c.put_text-p.ensures c.put_field-p.ensures c.put_field-p-2.ensures c.put_field-p-3.ensures)

pub returns : goal.returns
unfolding ascii tabbed
returns c =
    owes-last (after-three "stop" _ _ _ [] c.requires c.put_text-p.ensures c.put_field-p.ensures c.put_field-p-2.ensures c.put_field-p-3.ensures) c.put_byte.ensures
