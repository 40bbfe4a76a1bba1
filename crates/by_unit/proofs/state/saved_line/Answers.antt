use Rattle.by_unit.proofs.state.saved_line.Goals as goal

pub returns : goal.returns
returns c =
    let a = c.args in
    λ i. record { phase = a.phase; at = a.at; eols = 0; rows = a.rows; position = a.line.position; black = c.is_set.ensures i; loose = a.line.changes; cut = c.is_set-2.ensures i; run = a.run; run_at = a.run_at; mode_at = a.mode_at; blank = a.blank }
