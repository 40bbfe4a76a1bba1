-- `listing_text::lines::put_row` meets its contract, piece by piece. Assumes nothing.
use Rattle.listing_text.specs.Text.{ascii, newline}
use Rattle.listing_text.proofs.Written.{owes-room, owes-some, owes-last-room, owes-last}
use Rattle.listing_text.proofs.Lined.{word_room, word-put, field_room, after_one, after_two, after-three}
use mathlib.Core.Path.{refl}
use mathlib.Core.List.{[], ◌∷◌}
use Rattle.listing_text.proofs.lines.put_row.Goals as goal

pub put_text-p-requires : goal.put_text-p-requires
unfolding ascii
put_text-p-requires c = word_room "row" _ c.requires

pub put_field-p-requires : goal.put_field-p-requires
unfolding ascii
put_field-p-requires c = field_room _ _ _ (word-put "row" _ c.requires c.put_text-p.ensures)

pub put_field-p-requires-2 : goal.put_field-p-requires-2
unfolding ascii
put_field-p-requires-2 c = field_room _ _ _ (after_one "row" _ (_ ∷ _ ∷ c.args.row.now) c.requires c.put_text-p.ensures c.put_field-p.ensures)

pub put_field-p-requires-3 : goal.put_field-p-requires-3
unfolding ascii
put_field-p-requires-3 c = field_room _ _ _ (after_two "row" _ _ (_ ∷ c.args.row.now) c.requires c.put_text-p.ensures c.put_field-p.ensures c.put_field-p-2.ensures)

pub put_fields-p-requires : goal.put_fields-p-requires
unfolding ascii
put_fields-p-requires c =
    owes-room (after-three "row" _ _ _ c.args.row.now c.requires c.put_text-p.ensures c.put_field-p.ensures c.put_field-p-2.ensures c.put_field-p-3.ensures) _ (newline ∷ []) refl

pub put_byte-requires : goal.put_byte-requires
unfolding ascii
put_byte-requires c =
    owes-last-room
    (owes-some (after-three "row" _ _ _ c.args.row.now c.requires c.put_text-p.ensures c.put_field-p.ensures c.put_field-p-2.ensures c.put_field-p-3.ensures) _ (newline ∷ []) refl c.put_fields-p.ensures)

pub returns : goal.returns
unfolding ascii
returns c =
    owes-last
    (owes-some (after-three "row" _ _ _ c.args.row.now c.requires c.put_text-p.ensures c.put_field-p.ensures c.put_field-p-2.ensures c.put_field-p-3.ensures) _ (newline ∷ []) refl c.put_fields-p.ensures)
    c.put_byte.ensures
