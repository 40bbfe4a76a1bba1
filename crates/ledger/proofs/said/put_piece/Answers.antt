use mathlib.Core.Path.{sym, ap, ◌∙◌}
use Rattle.listing_text.specs.Text.{decimal}
use Rattle.listing_text.proofs.Written.{room_as, puts-as}
use Rattle.ledger.proofs.Filling.{letter-low, fill-letter, fill-plain}
use Rattle.ledger.proofs.said.put_piece.Goals as goal

pub overflow_sub-b : goal.overflow_sub-b
overflow_sub-b c = letter-low _ (sym c.is_letter.ensures ∙ c.if-is_letter.true)

pub put_number-requires : goal.put_number-requires
put_number-requires c = room_as (fill-letter _ _ (sym c.is_letter.ensures ∙ c.if-is_letter.true) ∙ ap decimal (sym (rw c.from.ensures at c.number_at.ensures))) c.requires

pub returns-then-is_letter : goal.returns-then-is_letter
returns-then-is_letter c = puts-as (ap decimal (rw c.from.ensures at c.number_at.ensures) ∙ sym (fill-letter _ _ (sym c.is_letter.ensures ∙ c.if-is_letter.true))) c.put_number.ensures

pub put_byte-requires : goal.put_byte-requires
put_byte-requires c = room_as (fill-plain _ _ (sym c.is_letter.ensures ∙ c.if-is_letter.false)) c.requires

pub returns : goal.returns
returns c = puts-as (sym (fill-plain _ _ (sym c.is_letter.ensures ∙ c.if-is_letter.false))) c.put_byte.ensures
