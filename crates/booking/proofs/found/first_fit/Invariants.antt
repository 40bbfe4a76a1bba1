-- The invariant: the first of the offsets that are left is that of all. Assumes nothing.
use Rattle.booking.specs.Found.{fits_at}
use Rattle.form_file.specs.First.{first_of}
use Rattle.heads.specs.Form.{page_in}
use Prim.Native.Nat.{◌-◌}
use mathlib.Core.Path.{◌≡◌}
use Rattle.booking.proofs.found.first_fit.Given as goal

abbrev pub invariant-loop-i : goal.invariant-loop-i
invariant-loop-i l = first_of (fits_at l.across l.down l.count l.boxes l.places (page_in l.columns l.changes l.ends)) (l.offsets - l.i) l.i ≡ first_of (fits_at l.across l.down l.count l.boxes l.places (page_in l.columns l.changes l.ends)) l.offsets 0
