use Rattle.by_row.proofs.given.Goals as goal

pub returns : goal.returns
returns c = rw c.other-array.ensures
