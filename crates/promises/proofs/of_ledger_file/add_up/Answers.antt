-- `promises::of_ledger_file::add_up` meets its contract, which is that of `ledger_file::add_up`; a quota that is handed on is the quota that came. Assumes nothing.
use Rattle.heads.proofs.Quota.{held}
use Rattle.ledger_file.proofs.Adding.{adds-as}
use Rattle.promises.proofs.of_ledger_file.add_up.Goals as goal

pub returns : goal.returns
returns c = adds-as (held c.ranges.quota) c.add_up.ensures
