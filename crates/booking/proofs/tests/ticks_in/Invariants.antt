-- The invariant: the ticks that are counted, and those that are left, are all of them. Assumes nothing.
use mathlib.Core.Path.{◌≡◌}
use Prim.Native.Nat.{◌+◌, ◌-◌, ◌≤◌}
use Rattle.heads.specs.Form.{page_in}
use Rattle.form_file.specs.First.{count_of}
use Rattle.booking.specs.Testing.{ticked_at, ticks_of}
use Rattle.booking.proofs.tests.ticks_in.Given as goal

abbrev pub invariant-loop-d : goal.invariant-loop-d
invariant-loop-d l = (l.n ≤ l.d) × (l.n + count_of (ticked_at (page_in l.columns l.changes l.ends) l.boxes l.tick l.column) (10 - l.d) l.d ≡ ticks_of (page_in l.columns l.changes l.ends) l.boxes l.tick l.column)
