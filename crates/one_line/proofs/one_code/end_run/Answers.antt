use Rattle.one_line.proofs.OneCode.{run-ended}
use Rattle.one_line.proofs.ModeCode.{comes-coloured}
use Rattle.one_line.proofs.one_code.end_run.Goals as goal

pub after_push-requires : goal.after_push-requires
after_push-requires c = comes-coloured _ _ _ _ _ (c.push_pixels-pushed.ensures 0 0)

pub returns : goal.returns
returns c =
    let a = c.args in
    rw c.after_push.ensures (run-ended a.changes.now a.line a.rules a.from a.next a.pixels _ _ c.push_pixels-pushed.ensures)
