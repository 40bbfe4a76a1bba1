-- `group3::eob::lacks_eol` meets its contract. Assumes nothing.
use mathlib.Core.Path.{ap, ◌∙◌}
use mathlib.Core.Bool.{not}
use lib.Dec.{eqb, leb}
use lib.ListN.{length}
use borrow.Author.Tests.{eq-eqb, ne_eqb, not-true, not-false}
use Rattle.rules.specs.Bits.{bits_of}
use Rattle.group3.proofs.Judging.{end_is, lacks-none, lacks-unexpected, lacks-done, lacks}
use Rattle.group3.proofs.eob.lacks_eol.Goals as goal

pub returns-then-eols-ne0 : goal.returns-then-eols-ne0
returns-then-eols-ne0 c S t = let a = c.args in lacks-none (eqb a.eols.count 0) a.state.eols a.rows_done (leb (length (bits_of a.src.now)) a.eols.at) (ne_eqb a.eols.count 0 c.if-eols-ne0.true)

pub returns-then-not-state : goal.returns-then-not-state
returns-then-not-state c S t = let a = c.args in lacks-unexpected (eqb a.eols.count 0) a.state.eols a.rows_done (leb (length (bits_of a.src.now)) a.eols.at) (not-true _ c.if-not-state.true)

pub returns-then-rows_done : goal.returns-then-rows_done
returns-then-rows_done c S t = let a = c.args in lacks-done (eqb a.eols.count 0) a.state.eols a.rows_done (leb (length (bits_of a.src.now)) a.eols.at) c.if-rows_done.true

pub returns : goal.returns
returns c S t =
    let a = c.args in
    ap not (end_is a.src.now a.eols.at _ c.at_end.ensures)
    ∙ lacks (eqb a.eols.count 0) a.state.eols a.rows_done (leb (length (bits_of a.src.now)) a.eols.at) (eq-eqb a.eols.count 0 c.if-eols-ne0.false) (not-false _ c.if-not-state.false) c.if-rows_done.false
