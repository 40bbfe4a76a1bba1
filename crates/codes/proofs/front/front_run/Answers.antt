-- A terminating code is all of the run; any other entry is joined with the one behind it.
use mathlib.Core.Path.{ap}
use Prim.Native.Nat.{ℕ}
use lib.ListN.{get_or}
use Rattle.codes.proofs.Fronts.{one-front}
use Rattle.codes.proofs.front.front_run.Goals as goal

pub returns-then-run-lt64 : goal.returns-then-run-lt64
returns-then-run-lt64 c = one-front _ c.run_in-run.ensures c.size_in.ensures c.if-run-lt64.true

pub returns : goal.returns
returns c = c.joined.ensures _ _ (ap (λ (i : ℕ). get_or c.args.table.now i 0) c.behind.ensures.0)
