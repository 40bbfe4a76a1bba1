-- `ledger_file::fields::count` meets its contract. Assumes nothing.
use Rattle.ledger_file.proofs.Fielding.{Counting, counting-first, counting-tab, counting-other, counting-end}
use native.Mathlib.Omega.{arith}
use mathlib.Core.Path.{sym, subst}
use Prim.Native.Nat.{ℕ, ◌+◌}
use Rattle.ledger_file.proofs.fields.count.Goals.{then-b-eq9, else-b-eq9}
use Rattle.ledger_file.proofs.fields.count.Goals as goal

pub loop-b-init : goal.loop-b-init
loop-b-init c = counting-first _

pub overflow_add-n : goal.overflow_add-n
overflow_add-n c = omega (arith, c.loop-b.invariant.few, c.loop-b.invariant.inside)

pub loop-b-preserved : goal.loop-b-preserved
loop-b-preserved c =
    elim c.if-b-eq9.branch [
      | then-b-eq9 w ↦ subst (λ (n : ℕ). Counting c.args.line.now n (c.loop-b.b-index + 1)) (sym w.n-is) (counting-tab c.loop-b.invariant c.loop-b-test.true w.if-b-eq9.true)
      | else-b-eq9 w ↦ subst (λ (n : ℕ). Counting c.args.line.now n (c.loop-b.b-index + 1)) (sym w.n-is) (counting-other c.loop-b.invariant c.loop-b-test.true w.if-b-eq9.false)
    ]

pub returns : goal.returns
returns c = counting-end c.loop-b.invariant c.loop-b-test.false
