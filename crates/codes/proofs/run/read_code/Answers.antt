-- `codes::run::read_code` meets its contract: the code that the lookup has, added, is one step of the run. Assumes nothing.
use mathlib.Core.Path.{◌≡◌, sym, ◌∙◌}
use lib.ListN.{drop}
use Rattle.rules.specs.Bits.{bits_of}
use Rattle.rules.specs.Plain.{plain}
use Rattle.rules.proofs.Plain.{plain-is-lookup}
use Rattle.tables.specs.Tables.{colour_of}
use Rattle.codes.specs.Plain.{found_of}
use Rattle.codes.proofs.Comparing.{addable, code-steps}
use Rattle.codes.proofs.run.read_code.Goals.{After-look_up-found}
use Rattle.codes.proofs.run.read_code.Goals as goal

-- the plain engine would find it too
code : (c : After-look_up-found) → let s = c.args in found_of c.look_up-found.result ≡ plain (colour_of s.colour) (drop s.at (bits_of s.src.now))
code c = c.look_up-found.ensures ∙ sym (plain-is-lookup _ _)

pub add_code-requires : goal.add_code-requires
add_code-requires c = let p = c.requires in addable _ _ _ p.inside p.size c.look_up-found.result (code c)

pub returns : goal.returns
returns c = c.add_code.ensures ∙ code-steps _ _ _ c.requires.inside _ _ (code (goal.at.returns c).After-look_up-found)
