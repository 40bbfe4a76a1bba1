-- The invariant: the places that failed, and those that fail among the rest, are all of them. Assumes nothing.
use Rattle.booking.specs.Moving.{fails_by}
use Rattle.form_file.specs.First.{count_of}
use Rattle.heads.specs.Form.{page_in}
use Prim.Native.Nat.{◌+◌, ◌-◌, ◌≤◌}
use mathlib.Core.Path.{◌≡◌}
use Rattle.booking.proofs.found.failing.Given as goal

abbrev pub invariant-loop-k : goal.invariant-loop-k
invariant-loop-k l = (l.n ≤ l.limit) × (l.n + count_of (fails_by l.rows l.count l.across l.down l.u l.v (page_in l.columns l.changes l.ends) l.places) (l.count - l.k) l.k ≡ count_of (fails_by l.rows l.count l.across l.down l.u l.v (page_in l.columns l.changes l.ends) l.places) l.count 0)
