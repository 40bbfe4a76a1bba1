-- `look::base64::put_all` meets its contract. Assumes nothing.
use Rattle.look.specs.Base64.{base64}
use Rattle.listing_text.proofs.Written.{Owes}
use lib.ListN.{length, drop}
use Prim.Native.Nat.{◌-◌, ◌+◌, ◌≤◌}
use mathlib.Core.Path.{◌≡◌}
use Rattle.look.proofs.base64.put_all.Given as goal

abbrev pub invariant-loop-i : goal.invariant-loop-i
invariant-loop-i l = Owes 0 (base64 l.bytes) l.initial.out l.p (base64 (drop l.i l.bytes)) l.out × (l.i ≤ length l.bytes) × (l.n ≡ length l.bytes)

abbrev pub decreases-loop-i : goal.decreases-loop-i
decreases-loop-i l = length l.bytes - l.i
