-- `writer::outcome::done` meets its contract. The other counts are 0. Assumes nothing.
use mathlib.Core.Path.{refl}
use Rattle.rules.specs.Pages.{entries}
use Rattle.writer.proofs.outcome.done.Goals as goal

pub returns : goal.returns
unfolding entries
returns c = refl
