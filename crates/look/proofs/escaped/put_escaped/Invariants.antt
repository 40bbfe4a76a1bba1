-- `look::escaped::put_escaped` meets its contract. Assumes nothing.
use Rattle.look.specs.Escaped.{escaped}
use Rattle.listing_text.proofs.Written.{Owes}
use lib.ListN.{length, drop}
use Prim.Native.Nat.{◌-◌, ◌+◌, ◌≤◌}
use mathlib.Core.Path.{◌≡◌}
use Rattle.look.proofs.escaped.put_escaped.Given as goal

abbrev pub invariant-loop-b : goal.invariant-loop-b
invariant-loop-b l = Owes l.at (escaped l.name) l.initial.out l.p (escaped (drop l.b-index l.name)) l.out × (l.b-index ≤ length l.name)
