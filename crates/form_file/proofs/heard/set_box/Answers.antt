-- `form_file::heard::set_box` meets its contract: the four stores are those of `set_four`. Assumes nothing.
use mathlib.Core.Path.{refl}
use native.Mathlib.Omega.{arith}
use lib.ListN.{length-set}
use Rattle.form_file.specs.Heard.{set_four}
use Rattle.form_file.proofs.heard.set_box.Goals as goal

pub bounds-numbers-at-2 : goal.bounds-numbers-at-2
bounds-numbers-at-2 c = simp length-set (omega arith)

pub bounds-numbers-at-3 : goal.bounds-numbers-at-3
bounds-numbers-at-3 c = simp length-set (omega arith)

pub bounds-numbers-at-4 : goal.bounds-numbers-at-4
bounds-numbers-at-4 c = simp length-set (omega arith)

pub returns : goal.returns
unfolding set_four
returns c = refl
