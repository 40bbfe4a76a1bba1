use mathlib.Core.Path.{refl, sym, subst}
use Rattle.rules.specs.ByRow.{RowState, End}
use Rattle.by_row.specs.ByRow.{row_state_of, Ends}
use Rattle.by_row.proofs.ends.Goals as goal

pub returns : goal.returns
returns c =
    let a = c.args in
    subst (Ends a.state a.number a.place a.bytes a.loose) (sym c.said.ensures)
    (record { answer = refl; array = refl; count = refl; state = λ i. ended_as (row_state_of a.state) (c.end_of.ensures i) })
  where
    ended_as : RowState → End → RowState
    ended_as p e = record { at = p.at; rows = p.rows; entries = p.entries; eols = p.eols; side = p.side; held = p.held; end = e }
