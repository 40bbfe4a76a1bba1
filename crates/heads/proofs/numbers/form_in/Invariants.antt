-- The invariant: the rows below `digit` are those of the numbers, the others are blank. Assumes nothing.
use mathlib.Core.List.{List, [], ◌∷◌}
use mathlib.Core.Path.{◌≡◌}
use Prim.Native.Nat.{◌≤◌}
use Rattle.heads.specs.Numbers.{form_in}
use Rattle.heads.specs.declared.Box.{Box}
use Rattle.heads.proofs.Twos.{no_box, filled}
use Rattle.heads.proofs.numbers.form_in.Given as goal

abbrev no_boxes : List Box
no_boxes = no_box ∷ no_box ∷ []

abbrev pub invariant-loop-digit : goal.invariant-loop-digit
invariant-loop-digit l = (l.digit ≤ 10) × (l.form ≡ filled no_boxes (form_in l.numbers) l.digit)
