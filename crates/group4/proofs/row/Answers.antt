-- `group4::row` meets its contract. Assumes nothing.
use mathlib.Core.Path.{sym, ◌∙◌}
use Rattle.group4.proofs.Outcomes.{end-loading, line-from, row_ends, row-lined}
use Rattle.group4.proofs.row.Goals as goal

pub end_at-requires : goal.end_at-requires
end_at-requires c = end-loading c.requires.0 c.eols_before-eols.result c.eols_before-eols.ensures

pub returns-then-is_over : goal.returns-then-is_over
returns-then-is_over c = row_ends c.requires.0 c.eols_before-eols.result c.eols_before-eols.ensures (sym c.if-is_over.true ∙ c.is_over.ensures) _ c.end_at.ensures

pub row_at-requires : goal.row_at-requires
row_at-requires c = (line-from c.requires.0 c.eols_before-eols.result c.eols_before-eols.ensures, c.requires.1)

pub returns : goal.returns
returns c = row-lined c.requires.0 c.eols_before-eols.result c.eols_before-eols.ensures (sym c.if-is_over.false ∙ c.is_over.ensures) _ _ c.row_at.ensures
