-- `heads::reading::heads_in` meets its contract. Assumes nothing.
use mathlib.Core.Path.{◌∙◌}
use Rattle.heads.specs.Form.{ticks, heads_in}
use Rattle.heads.proofs.Quota.{held}
use Rattle.heads.proofs.Answering.{told-held}
use Rattle.heads.proofs.reading.heads_in.Goals as goal

pub returns : goal.returns
unfolding heads_in
returns c =
    c.tell.ensures ∙ told-held (ticks c.args.least 0 0 c.args.table) (ticks c.args.least 1 0 c.args.table) (held c.ranges.quota) c.digit_in-tens.ensures.is c.digit_in-units.ensures.is
