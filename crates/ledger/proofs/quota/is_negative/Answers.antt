use mir.Facts.{to_z-of_z}
use Rattle.ledger.proofs.Signs.{negative}
use Rattle.ledger.proofs.quota.is_negative.Goals as goal

-- src/said.rt:163:1
pub returns : goal.returns
returns c = rw (to_z-of_z c.ranges.n) (negative c.args.n)
