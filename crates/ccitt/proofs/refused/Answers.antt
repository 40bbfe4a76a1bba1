-- By the answer that it holds.
use Rattle.ccitt.proofs.refused.Goals as goal

pub returns : goal.returns
returns c = rw c.refusal.ensures
