-- `listing_text::lines::bad_input` meets its contract. Assumes nothing.
use Rattle.listing_text.proofs.Whole.{prints}
use Rattle.listing_text.specs.Sheet.{bad_input}
use Rattle.listing_text.specs.Text.{ascii}
use Rattle.listing_text.proofs.lines.bad_input.Goals as goal

pub put_text-requires : goal.put_text-requires
unfolding bad_input ascii
put_text-requires c = c.requires

pub returns : goal.returns
unfolding bad_input ascii
returns c = prints c.put_text.ensures
