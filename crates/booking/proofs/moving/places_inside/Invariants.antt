-- The invariant: the test of the places that are left is that of all. Assumes nothing.
use Rattle.booking.specs.Found.{box_inside, places_inside}
use Rattle.form_file.specs.FormFile.{place_at}
use Rattle.heads.specs.Form.{every}
use Prim.Native.Nat.{◌-◌}
use mathlib.Core.Path.{◌≡◌}
use Rattle.booking.proofs.moving.places_inside.Given as goal

abbrev pub invariant-loop-k : goal.invariant-loop-k
invariant-loop-k l = every (λ j. box_inside l.across l.down l.u l.v l.columns l.rows (place_at l.places j)) (l.count - l.k) l.k ≡ places_inside l.across l.down l.u l.v l.columns l.rows l.count l.places
