-- The verdict on a faxed form, for C: an encoding off the list of three is refused with 10, and leaves every array as it was.
use Rattle.std.specs.Prelude.{◌≡◌, true, false, List, ℕ, leb}
use Rattle.rules.specs.Answers.{bad_number}
use Rattle.booking.specs.Booked.{Given, Finds}
use Rattle.ledger.specs.declared.Verdict.{Verdict}

abbrev pub no_encoding : Verdict
no_encoding = record { number = bad_number; heads = 0; which = 0; line = 0; rows = 0; bytes = 0; place = 0; row = 0; count = 0; least = 0; most = 0 }

pub record Unread (g : Given) (r : Verdict) (boxes places changes ends marks : List ℕ) : Type 0 where
  pub verdict : r ≡ no_encoding
  pub boxes_are : boxes ≡ g.boxes
  pub places_are : places ≡ g.places
  pub changes_are : changes ≡ g.changes
  pub ends_are : ends ≡ g.ends
  pub marks_are : marks ≡ g.marks

abbrev pub FindsForC : ℕ → Given → Verdict → List ℕ → List ℕ → List ℕ → List ℕ → List ℕ → Type 0
FindsForC encoding g r boxes places changes ends marks =
    elim (leb encoding 2) [ true ↦ Finds g r boxes places changes ends marks | false ↦ Unread g r boxes places changes ends marks ]
