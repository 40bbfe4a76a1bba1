use Rattle.rules.specs.Pages.{entries}
use Rattle.by_row.proofs.refused.Goals as goal

pub returns : goal.returns
unfolding entries
returns c = rw (c.told.ensures, c.refusal.ensures)
