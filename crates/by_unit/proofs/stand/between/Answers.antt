use mathlib.Core.Path.{sym, ap, ◌∙◌}
use Rattle.by_unit.specs.declared.stand.Stand.TheVariants.{InLine}
use Rattle.by_unit.specs.declared.stand.Out.TheVariants.{More, Done}
use Rattle.by_unit.proofs.Parts.{between-after, between-over, between-line}
use Rattle.by_unit.proofs.stand.between.Goals as goal

pub returns-then-is_over : goal.returns-then-is_over
returns-then-is_over c =
    let a = c.args in
    ap Done c.said.ensures
    ∙ between-over a.src.now a.settings a.eols a.kept c.next_eol.result c.in-None.is c.next_eol.ensures (sym c.if-is_over.true ∙ c.is_over.ensures) c.byte_pos-bytes.result c.align.result c.align.ensures c.byte_pos-bytes.ensures

pub returns-in-Some : goal.returns-in-Some
returns-in-Some c =
    let a = c.args in
    between-after a.src.now a.settings a.eols a.kept _ c.next_eol.result c.in-Some.is c.next_eol.ensures

pub returns-else-is_over : goal.returns-else-is_over
returns-else-is_over c =
    let a = c.args in
    ap (λ l. More a.kept (InLine l a.eols.at) 0) c.new_line.ensures
    ∙ between-line a.src.now a.settings a.eols a.kept c.next_eol.result c.in-None.is c.next_eol.ensures (sym c.if-is_over.false ∙ c.is_over.ensures)
