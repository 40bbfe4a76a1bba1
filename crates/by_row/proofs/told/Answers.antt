use Rattle.by_row.proofs.told.Goals as goal

pub returns : goal.returns
returns c = rw c.other.ensures
