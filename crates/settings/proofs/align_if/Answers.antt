-- `settings::align_if` meets its contract. Assumes nothing.
use Rattle.settings.proofs.align_if.Goals as goal

pub returns-then-aligned : goal.returns-then-aligned
returns-then-aligned c = rw c.if-aligned.true c.align.ensures
