-- `ledger::said::put_reason` meets its contract. Assumes nothing.
use Rattle.ledger.proofs.Whole.{reason-parts}
use Prim.Native.Nat.{ℕ, ◌+◌}
use mathlib.Core.Path.{sym, ap}
use Rattle.ledger.proofs.said.put_reason.Goals as goal

pub returns : goal.returns
returns c = let a = c.args in rw (sym (reason-parts a.v c.reason_numbers-ns.ensures (ap (λ (n : ℕ). 69 + n) c.one-k.ensures.value))) c.put_known.ensures
