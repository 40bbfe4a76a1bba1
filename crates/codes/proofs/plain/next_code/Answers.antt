-- `codes::plain::next_code` meets its contract: the code that was found, added, is one step of the run. Assumes nothing.
use mathlib.Core.Path.{◌∙◌}
use Rattle.codes.proofs.Comparing.{addable, code-steps}
use Rattle.codes.proofs.plain.next_code.Goals as goal

pub add_code-requires : goal.add_code-requires
add_code-requires c = let p = c.requires in addable _ _ _ p.inside p.size c.read_code-found.result c.read_code-found.ensures

pub returns : goal.returns
returns c = c.add_code.ensures ∙ code-steps _ _ _ c.requires.inside _ _ c.read_code-found.ensures
