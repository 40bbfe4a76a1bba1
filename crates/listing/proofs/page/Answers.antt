-- `listing::page` meets its contract: what `decode` leaves in the store can be listed. Assumes nothing.
use Rattle.listing.proofs.Answering.{page-can, page-is, prints-as}
use mathlib.Core.Path.{refl}
use Rattle.listing.proofs.page.Goals as goal

pub list-requires : goal.list-requires
list-requires c = page-can _ _ _ _ _ refl refl refl c.decode-answer.ensures _ c.requires

pub returns : goal.returns
returns c = prints-as (page-is _ _ _ _ _ refl refl refl c.decode-answer.ensures) c.list.ensures
