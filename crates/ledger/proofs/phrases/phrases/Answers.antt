use mathlib.Core.Path.{refl}
use Rattle.listing_text.specs.Text.{ascii}
use Rattle.ledger.specs.Phrases.{words, lined}
use Rattle.ledger.proofs.phrases.phrases.Goals as goal

pub returns : goal.returns
unfolding words lined ascii
returns c = refl
