-- Where a form lies on a page, for a program that shows it, and its numbers there.
use Rattle.std.specs.Prelude.{◌≡◌, Bool, true, false, ◌&&◌, List, ℕ, ◌*◌, ◌/◌, eqb, leb, ltb, length}
use Rattle.rules.specs.Pages.{overlaid}
use Rattle.row_store.specs.Store.{good_rows}
use Rattle.heads.specs.Form.{Page, page_in}
use Rattle.form_file.specs.Heard.{has_shift}
use Rattle.form_file.specs.declared.Form.{Form}
use Rattle.booking.specs.Found.{offsets, first_fit, best_fit, right_of, down_of, can_look_for, moved_boxes, moved_places, boxes_inside, places_inside}
use Rattle.booking.specs.declared.Lies.{Lies}

-- ---- Where it lies

-- by the numbers of an offset, with whether the form fits there
abbrev pub lies_by : Bool → ℕ → ℕ → Lies
lies_by fits across down = record { fits = fits; across = across; down = down }

-- at its place
abbrev pub lies_still : Form → Lies
lies_still form = lies_by false form.across form.down

module _ (form : Form) (boxes places : List ℕ) (page : Page) where
  abbrev pub lies_first : ℕ
  lies_first = first_fit form.across form.down form.places boxes places page

  abbrev pub lies_best : ℕ
  lies_best = best_fit form.across form.down form.places boxes places page

  abbrev pub offset_of : Bool → ℕ → Lies
  offset_of fits i =
      lies_by fits (right_of form.across form.down form.places boxes places page i) (down_of form.across form.down form.places boxes places page i)

  -- where its verdict comes from: at the first offset that fits, or at the one that comes next to that
  unfoldable pub lies_on : Lies
  lies_on =
      elim (ltb lies_first (offsets form.across form.down)) [
        | true ↦ offset_of true lies_first
        | false ↦ elim (ltb lies_best (offsets form.across form.down)) [ true ↦ offset_of false lies_best | false ↦ lies_still form ]
      ]

-- the rows are in order, and no more than 32 bits count; else, and without a shift, the form lies at its place
unfoldable pub lies_at : ℕ → List ℕ → List ℕ → Form → List ℕ → List ℕ → Lies
lies_at columns changes ends form boxes places =
    elim ((has_shift form && can_look_for form boxes places) && (leb (length ends) 4294967295 && good_rows columns changes 0 ends)) [
      | false ↦ lies_still form
      | true ↦ lies_on form boxes places (page_in columns changes ends)
    ]

-- ---- Its numbers there

-- all numbers are there, and room for them, and the form lies inside a page of its columns and so many rows
unfoldable pub can_move : Form → ℕ → ℕ → ℕ → List ℕ → List ℕ → ℕ → ℕ → Bool
can_move form rows u v boxes places box-room place-room =
    ((eqb (length boxes) 80 && leb form.places (length places / 7)) && (leb 80 box-room && leb form.places (place-room / 7)))
    && (boxes_inside form.across form.down u v form.columns rows boxes && places_inside form.across form.down u v form.columns rows form.places places)

-- they stand at the front of what is lent; or nothing is moved
pub record Moves (form : Form) (rows u v : ℕ) (boxes places lent lent' : List ℕ) (r : Bool) (out out' : List ℕ) : Type 0 where
  pub told : r ≡ can_move form rows u v boxes places (length lent) (length lent')
  pub boxes_are : r ≡ true → out ≡ overlaid (moved_boxes form.across form.down u v boxes) lent
  pub places_are : r ≡ true → out' ≡ overlaid (moved_places form.across form.down u v form.places places) lent'
  pub boxes_kept : r ≡ false → out ≡ lent
  pub places_kept : r ≡ false → out' ≡ lent'
