-- `codes::plain::makeup_of` meets its contract. Assumes nothing.
use mathlib.Core.Path.{sym, ap, ◌∙◌}
use mathlib.Core.List.{◌++◌, map-append}
use Rattle.rules.specs.Codes.{white, black, white_makeup, black_makeup, common_makeup, makeup_of}
use Rattle.tables.specs.Tables.{row, rows}
use Rattle.tables.proofs.Colours.{picked}
use Rattle.codes.proofs.plain.makeup_of.Goals as goal

pub returns-then-colour-eq0 : goal.returns-then-colour-eq0
unfolding makeup_of
returns-then-colour-eq0 c =
    ap (λ l. l ++ rows common_makeup) c.white_makeup.ensures
    ∙ sym (map-append row white_makeup common_makeup)
    ∙ ap (λ k. rows (makeup_of k)) (sym (picked white c.args.colour c.if-colour-eq0.true))

pub returns-else-colour-eq0 : goal.returns-else-colour-eq0
unfolding makeup_of
returns-else-colour-eq0 c =
    ap (λ l. l ++ rows common_makeup) c.black_makeup.ensures
    ∙ sym (map-append row black_makeup common_makeup)
    ∙ ap (λ k. rows (makeup_of k)) (sym (picked black c.args.colour c.if-colour-eq0.false))
