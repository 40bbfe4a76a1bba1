use Rattle.by_unit.proofs.Parts.{next-none, next-nothing, next-after}
use Rattle.by_unit.proofs.stand.next_eol.Goals as goal

pub returns-then-most_eols-eols : goal.returns-then-most_eols-eols
returns-then-most_eols-eols c =
    let a = c.args in
    next-none a.src.now a.settings a.eols (rw c.most_eols.ensures at c.if-most_eols-eols.true)

pub returns-then-read-eq0 : goal.returns-then-read-eq0
returns-then-read-eq0 c =
    let a = c.args in
    next-nothing a.src.now a.settings a.eols (rw c.most_eols.ensures at c.if-most_eols-eols.false) _ c.read_eols-read.ensures c.if-read-eq0.true

pub returns : goal.returns
returns c =
    let a = c.args in
    next-after a.src.now a.settings a.eols (rw c.most_eols.ensures at c.if-most_eols-eols.false) _ c.read_eols-read.ensures c.if-read-eq0.false
