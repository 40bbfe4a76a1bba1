-- `answer::refusal` meets its contract. Assumes nothing.
use mathlib.Core.Path.{refl}
use Rattle.rules.specs.Pages.{entries}
use Rattle.answer.proofs.refusal.Goals as goal

pub returns : goal.returns
unfolding entries
returns c = refl
