use Rattle.by_unit.proofs.stand.most_eols.Goals as goal

pub returns : goal.returns
returns c = rw c.if-settings.false
