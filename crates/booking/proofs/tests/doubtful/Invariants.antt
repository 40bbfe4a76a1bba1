-- The invariant: the first of the boxes that are left is that of all. Assumes nothing.
use mathlib.Core.Path.{◌≡◌}
use Prim.Native.Nat.{◌-◌}
use Rattle.heads.specs.Form.{page_in}
use Rattle.form_file.specs.First.{first_of}
use Rattle.booking.specs.Testing.{doubts_at}
use Rattle.booking.proofs.tests.doubtful.Given as goal

abbrev pub invariant-loop-k : goal.invariant-loop-k
invariant-loop-k l = first_of (doubts_at (page_in l.columns l.changes l.ends) l.doubt l.tick l.boxes) (20 - l.k) l.k ≡ first_of (doubts_at (page_in l.columns l.changes l.ends) l.doubt l.tick l.boxes) 20 0
