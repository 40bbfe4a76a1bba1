-- What the answers of the EOL readers mean.
use Rattle.std.proofs.Math.Option as Numbered
use Rattle.std.specs.Prelude.{ℕ, Option, Some, None}
use Rattle.rules.specs.Eols as Rule
use Rattle.rules.specs.Eols.{eols_to}
use Rattle.codes.specs.declared.eol.Eols.{Eols}

abbrev pub eols_of : Eols → Rule.Eols
eols_of e = eols_to e.count e.at

abbrev pub skip_of : Option ℕ → Numbered.Option ℕ
skip_of (Some at) = Numbered.some at
skip_of None = Numbered.none
