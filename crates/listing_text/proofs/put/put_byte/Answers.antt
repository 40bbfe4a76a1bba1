-- `listing_text::put::put_byte` meets its contract. Assumes nothing.
use Rattle.listing_text.proofs.Written.{byte_put}
use Rattle.listing_text.proofs.put.put_byte.Goals as goal

pub returns : goal.returns
returns c = byte_put _ _ _ c.requires
