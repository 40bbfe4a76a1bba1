-- `group4::eols_before` meets its contract. Assumes nothing.
use Rattle.group4.proofs.eols_before.Goals as goal

pub returns-then-settings : goal.returns-then-settings
returns-then-settings c = rw c.if-settings.true c.read_eols.ensures

pub returns : goal.returns
returns c = rw c.if-settings.false c.read_all_eols.ensures
