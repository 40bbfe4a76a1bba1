-- `group4::is_white` meets its contract. Assumes nothing.
use mathlib.Core.Path.{sym, ap, ◌∙◌}
use Prim.Native.Nat.{ℕ}
use native.Mathlib.Omega.{arith}
use lib.Dec.{eqb}
use Rattle.bit_reader.proofs.Window.{ahead-first}
use Rattle.group4.proofs.is_white.Goals as goal

pub returns-then-is_under_white : goal.returns-then-is_under_white
returns-then-is_under_white c =
    rw (sym c.is_under_white.ensures ∙ c.if-is_under_white.true)
    (ap (λ (n : ℕ). eqb n 1) (ahead-first c.ahead.ensures 1 (omega arith)))
