-- What was closed first is the start, and before each unit the others led here. The measure is the units left of n. Assumes nothing.
use Prim.Native.Nat.{ℕ}
use mathlib.Core.List.{List}
use Rattle.by_unit.specs.declared.stand.Stand.{Stand}
use Rattle.by_unit.specs.declared.stand.Kept.{Kept}
use Rattle.by_unit.specs.Standing.{Settles}
use Rattle.by_unit.specs.Taking.{TakeFrom}
use Rattle.by_unit.proofs.Taking.{Running}
use Rattle.by_unit.proofs.take.take.Given as goal

abbrev pub invariant-loop-left : goal.invariant-loop-left
invariant-loop-left l =
    (k : Kept) (s : Stand) (es ms : List ℕ) (from : TakeFrom l.src l.settings l.initial.changes es ms k s) → Settles l.src l.settings es ms k s 0 l.initial.out l.initial.ends l.initial.marks → Running from l.n l.left l.out l.changes l.ends l.marks

abbrev pub decreases-loop-left : goal.decreases-loop-left
decreases-loop-left l = l.left
