-- `heads::store::end_after` meets its contract. Assumes nothing.
use Rattle.heads.proofs.RowsAt.{end_none, end-some}
use Rattle.heads.proofs.store.end_after.Goals as goal

pub returns-then-rows-eq0 : goal.returns-then-rows-eq0
returns-then-rows-eq0 c = end_none _ _ c.if-rows-eq0.true

pub returns : goal.returns
returns c = end-some _ _ c.if-rows-eq0.false
