-- `promises::of_heads::heads` meets its contract, which is that of `heads::heads`; a quota that is handed on is the quota that came. Assumes nothing.
use mathlib.Core.Path.{ap, ◌∙◌}
use Rattle.heads.specs.Form.{heads}
use Rattle.heads.proofs.Quota.{held}
use Rattle.promises.proofs.of_heads.heads.Goals as goal

pub returns : goal.returns
returns c =
    c.heads.ensures
    ∙ ap (heads c.args.columns c.args.changes.now c.args.ends.now c.args.marks.now c.args.form c.args.least) (held c.ranges.quota)
