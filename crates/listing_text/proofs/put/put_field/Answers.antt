-- `listing_text::put::put_field` meets its contract. Assumes nothing.
use mathlib.Core.List.{[], ◌∷◌}
use mathlib.Core.Path.{refl}
use Rattle.listing_text.proofs.Written.{owes-all, owes-some, owes-last}
use Rattle.listing_text.specs.Text.{tab}
use Rattle.listing_text.proofs.put.put_field.Goals as goal

pub returns : goal.returns
returns c = owes-last (owes-some (owes-all c.requires) (tab ∷ []) _ refl c.put_byte-p.ensures) c.put_number.ensures
