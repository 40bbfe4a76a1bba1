-- The invariant: the first of the offsets that are left is that of all. Assumes nothing.
use Rattle.booking.specs.Found.{differs}
use Rattle.form_file.specs.First.{first_of}
use Rattle.heads.specs.Form.{page_in}
use Prim.Native.Nat.{◌-◌}
use mathlib.Core.Path.{◌≡◌}
use Rattle.booking.proofs.found.other_fit.Given as goal

abbrev pub invariant-loop-i : goal.invariant-loop-i
invariant-loop-i l = first_of (differs l.f l.boxes l.places l.e (page_in l.columns l.changes l.ends) l.marks l.heads) (l.offsets - l.i) l.i ≡ first_of (differs l.f l.boxes l.places l.e (page_in l.columns l.changes l.ends) l.marks l.heads) (l.offsets - l.from) l.from
