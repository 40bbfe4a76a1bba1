use mathlib.Core.Path.{sym, ap, ◌∙◌}
use native.Mathlib.Omega.{arith}
use Rattle.by_unit.specs.Standing.{eol_of}
use Rattle.by_unit.proofs.Parts.{next-inside, eol-after, eol-none}
use Rattle.by_unit.proofs.unit.eol_unit.Goals as goal

pub overflow_add-count : goal.overflow_add-count
overflow_add-count c = omega (arith, (next-inside c.args.src.now c.args.settings c.args.eols _ (sym c.next_eol.ensures ∙ ap eol_of c.in-Some.is)).0, c.requires.size)

pub between-requires-in-Some : goal.between-requires-in-Some
between-requires-in-Some c = record { size = c.requires.size; inside = (next-inside c.args.src.now c.args.settings c.args.eols _ (sym c.next_eol.ensures ∙ ap eol_of c.in-Some.is)).1 }

pub returns-in-None : goal.returns-in-None
returns-in-None c = c.between.ensures ∙ eol-none c.args.src.now c.args.settings c.args.eols c.args.kept c.next_eol.result c.in-None.is c.next_eol.ensures

pub returns-in-Some : goal.returns-in-Some
returns-in-Some c = c.between-in-Some.ensures ∙ eol-after c.args.src.now c.args.settings c.args.eols c.args.kept _ c.next_eol.result c.in-Some.is c.next_eol.ensures
