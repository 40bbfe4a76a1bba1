-- Tag bits, and what a reading of the EOLs between them asks.
use Rattle.std.specs.Prelude.{Bool, true, false, List, ℕ, ◌≤◌}
use Rattle.rules.specs.Group3 as Rule
use Rattle.rules.specs.Group3.{untagged, tagged}
use Rattle.bit_reader.specs.Loaded.{Loading}
use Rattle.codes.specs.declared.eol.Eols.{Eols}

abbrev pub is_tagged : Rule.Tagging → Bool
is_tagged untagged = false
is_tagged tagged = true

-- EOLs that were read up to a bit of the data: each took a bit
pub record EolsRead (bytes : List ℕ) (e : Eols) : Type 0 where
  pub loading : Loading bytes e.at
  pub few : e.count ≤ e.at
