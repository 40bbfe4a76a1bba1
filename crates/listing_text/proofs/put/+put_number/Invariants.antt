-- `listing_text::put::put_number` meets its contract. The measure is the number.
use Rattle.listing_text.proofs.put.+put_number.Given as goal

abbrev pub decreases-put_number : goal.decreases-put_number
decreases-put_number l = l.n
