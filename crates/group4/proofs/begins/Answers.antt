-- The tests, one after the other: what is seen of the word stands for the next eleven bits.
use mathlib.Core.Path.{sym, ap, ◌∙◌}
use mathlib.Core.Bool.{not}
use Prim.Native.Nat.{ℕ}
use native.Mathlib.Omega.{arith}
use lib.Dec.{eqb}
use borrow.Author.Tests.{not-true}
use Rattle.bit_reader.proofs.Window.{ahead-first}
use Rattle.group4.proofs.begins.Goals as goal

pub returns-then-state-src : goal.returns-then-state-src
returns-then-state-src c = λ e. (
  rw (sym c.is_full.ensures ∙ not-true _ c.if-not-is_full.true-raw)
      (ap (λ (n : ℕ). not (eqb n 0)) (sym (ahead-first c.ahead.ensures 11 (omega arith))) ∙ e),
  c.if-state-src.true,
)
