-- `promises::of_heads_numbers::heads_from` meets its contract, which is that of `heads::numbers::heads_from`; a quota that is handed on is the quota that came. Assumes nothing.
use mathlib.Core.Path.{ap, ◌∙◌}
use Rattle.heads.specs.Numbers.{heads_from}
use Rattle.heads.proofs.Quota.{held}
use Rattle.promises.proofs.of_heads_numbers.heads_from.Goals as goal

pub returns : goal.returns
returns c =
    c.heads_from.ensures
    ∙ ap (heads_from c.args.columns c.args.changes.now c.args.ends.now c.args.marks.now c.args.boxes.now c.args.least) (held c.ranges.quota)
