-- `group3::eob::between` meets its contract. Assumes nothing.
use borrow.Author.Tests.{eq-eqb, ne_eqb}
use Rattle.group3.proofs.Judging.{first_read, first-unread}
use Rattle.group3.proofs.eob.between.Goals as goal

pub returns-then-state-ne0 : goal.returns-then-state-ne0
returns-then-state-ne0 c = rw (ne_eqb _ 0 c.if-state-ne0.true) c.check_eob.ensures

pub returns-then-eols-gt0 : goal.returns-then-eols-gt0
returns-then-eols-gt0 c =
    let a = c.args in
    rw (eq-eqb a.state.rows 0 c.if-state-ne0.false)
    (first_read a.settings a.src.now a.state c.read_all_eols-eols.result c.read_all_eols-eols.ensures c.if-eols-gt0.true)

pub returns : goal.returns
returns c =
    let a = c.args in
    rw (eq-eqb a.state.rows 0 c.if-state-ne0.false)
    (first-unread a.settings a.src.now a.state c.read_all_eols-eols.result c.read_all_eols-eols.ensures c.if-eols-gt0.false)
