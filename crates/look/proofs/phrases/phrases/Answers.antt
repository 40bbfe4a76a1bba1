-- `look::phrases::phrases` meets its contract. Assumes nothing.
use Rattle.look.specs.Phrases.{words, spelt, lined}
use Rattle.listing_text.specs.Text.{ascii}
use mathlib.Core.Path.{refl}
use Rattle.look.proofs.phrases.phrases.Goals as goal

pub returns : goal.returns
unfolding words lined spelt ascii
returns c = refl
