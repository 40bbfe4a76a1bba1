-- What lies in the lent arrays after a page can be listed. Assumes nothing.
use mathlib.Core.List.{List}
use Prim.Native.Nat.{ℕ, ◌+◌, ◌*◌, ◌≤◌}
use native.Mathlib.Omega.{arith}
use lib.ListN.{length}
use Rattle.rules.specs.Pages as Page
use Rattle.rules.specs.Pages.{places_in, ends_from, changes_after, ends_after, marks_after}
use Rattle.rules.proofs.Store.{length-overlaid, length-ends}
use Rattle.rules.proofs.Stored.{Holds, changes_long, ends-stored}
use Rattle.answer.specs.Answer.{answer_of}
use Rattle.listing_text.specs.Listed.{Listing}

module _ (a : Page.Answer) (xs es ms : List ℕ) (h : Holds (length xs) (places_in es ms) a) where
  pub can-list : (out : List ℕ) → 77 + 50 * length es + 11 * length xs ≤ length out → Listing out (answer_of a) (changes_after a xs) (ends_after a es) (marks_after a ms)
  unfolding ends_after marks_after
  can-list out room = record {
    placed = omega (arith, h.placed, length-overlaid (ends_from 0 a.rows) es (omega (arith, h.placed, length-ends 0 a.rows)));
    marked = omega (arith, h.placed, h.as_many, length-overlaid a.marks ms (omega (arith, h.placed, h.as_many)));
    rising = ends-stored a xs es ms h;
    room = omega (arith, room, h.placed, changes_long a xs es ms h);
  }
