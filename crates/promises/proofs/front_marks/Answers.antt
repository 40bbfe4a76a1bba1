-- `promises::front_marks` meets its contract. Assumes nothing.
use mathlib.Core.Path.{sym, ap}
use Prim.Native.Nat.{ℕ}
use native.Mathlib.Nat.{sub-zero}
use native.Mathlib.Omega.{arith}
use lib.ListN.{take}
use lib.Seq.{take_all}
use Rattle.promises.proofs.front_marks.Goals as goal

pub returns-then-n-s : goal.returns-then-n-s
returns-then-n-s c = let a = c.args in ap (λ (k : ℕ). take k a.s.now) (sub-zero a.n)

pub returns : goal.returns
returns c = let a = c.args in sym (take_all a.n a.s.now (omega arith))
