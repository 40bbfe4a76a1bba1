-- A form that has a shift is looked for on the page: at which of its offsets it fits, by its black and white places, and what is found there.
use Rattle.std.specs.Prelude.{Bool, true, false, ◌&&◌, not, List, [], ◌∷◌, ◌++◌, ℕ, zero, suc, ◌+◌, ◌-◌, ◌*◌, ◌/◌, ◌%◌, eqb, leb, ltb, length, get_or}
use Rattle.rules.specs.Answers.{complete, bad_form}
use Rattle.settings.specs.declared.EncodingMode.{EncodingMode}
use Rattle.heads.specs.Form.{Page, every}
use Rattle.heads.specs.declared.Box.{Box}
use Rattle.form_file.specs.First.{first_of, count_of}
use Rattle.form_file.specs.Heard.{has_shift, most_shift, place_numbers}
use Rattle.form_file.specs.FormFile.{box_at, place_at}
use Rattle.form_file.specs.declared.Form.{Form}
use Rattle.ledger.specs.Verdicts.{other_ticks}
use Rattle.booking.specs.Tests.{finding, plainly, on_page}
use Rattle.booking.specs.Testing.{holds_at, tested_on}
use Rattle.booking.specs.declared.Finding.{Finding}

-- the lists of n positions from i on, one behind the other
unfoldable pub listed : (ℕ → List ℕ) → ℕ → ℕ → List ℕ
listed f zero i = []
listed f (suc n) i = f i ++ listed f n (suc i)

-- ---- A form, moved: by u to the right and `across` back, by v down and `down` back

module _ (across down u v : ℕ) where
  abbrev pub moved_box : Box → Box
  moved_box b = record { left = b.left + u - across; right = b.right + u - across; top = b.top + v - down; bottom = b.bottom + v - down }

  -- the four numbers of a box, and the seven of a place: its kind, its edges, its count and its line
  abbrev pub moved_four : List ℕ → ℕ → List ℕ
  moved_four boxes k = (moved_box (box_at boxes k)).left ∷ (moved_box (box_at boxes k)).right ∷ (moved_box (box_at boxes k)).top ∷ (moved_box (box_at boxes k)).bottom ∷ []

  abbrev pub moved_seven : List ℕ → ℕ → List ℕ
  moved_seven places k = place_numbers (get_or places (7 * k) 0) (moved_box (place_at places k)) (get_or places (7 * k + 5) 0) (get_or places (7 * k + 6) 0)

  -- the numbers of all boxes, and of so many places
  unfoldable pub moved_boxes : List ℕ → List ℕ
  moved_boxes boxes = listed (moved_four boxes) 20 0

  unfoldable pub moved_places : ℕ → List ℕ → List ℕ
  moved_places count places = listed (moved_seven places) count 0

  -- a box that is in order, and that lies, moved, inside a page of so many columns and rows
  unfoldable pub box_inside : ℕ → ℕ → Box → Bool
  box_inside columns rows b =
      (leb across (b.left + u) && (leb b.left b.right && leb (b.right + u) (columns + across)))
      && (leb down (b.top + v) && (leb b.top b.bottom && leb (b.bottom + v) (rows + down)))

  -- every box, every place
  abbrev pub boxes_inside : ℕ → ℕ → List ℕ → Bool
  boxes_inside columns rows boxes = every (λ k. box_inside columns rows (box_at boxes k)) 20 0

  abbrev pub places_inside : ℕ → ℕ → ℕ → List ℕ → Bool
  places_inside columns rows count places = every (λ k. box_inside columns rows (place_at places k)) count 0

-- ---- Where it fits, on a page: a shift, how many places there are, and the numbers of the boxes and the places

-- offsets have numbers, from left to right and then down: how many lie beside each other, and how many there are
abbrev pub beside : ℕ → ℕ
beside across = 2 * across + 1

abbrev pub offsets : ℕ → ℕ → ℕ
offsets across down = beside across * (2 * down + 1)

module _ (across down count : ℕ) (boxes places : List ℕ) (page : Page) where
  -- how far an offset lies to the right of the first, and below it
  abbrev pub right_of : ℕ → ℕ
  right_of i = i % beside across

  abbrev pub down_of : ℕ → ℕ
  down_of i = i / beside across

  -- the boxes and the places there
  abbrev pub boxes_at : ℕ → List ℕ
  boxes_at i = moved_boxes across down (right_of i) (down_of i) boxes

  abbrev pub places_at : ℕ → List ℕ
  places_at i = moved_places across down (right_of i) (down_of i) count places

  -- every box and every place lies inside the page
  abbrev pub is_inside : ℕ → Bool
  is_inside i =
      boxes_inside across down (right_of i) (down_of i) page.columns (length page.rows) boxes
      && places_inside across down (right_of i) (down_of i) page.columns (length page.rows) count places

  -- a place that lies inside the page and has the black pixels that it must have; and how many have not
  abbrev pub stands : ℕ → ℕ → Bool
  stands i k = box_inside across down (right_of i) (down_of i) page.columns (length page.rows) (place_at places k) && holds_at page (places_at i) k

  abbrev pub failing : ℕ → ℕ
  failing i = count_of (λ k. not (stands i k)) count 0

  -- the form fits where all of it lies inside the page and no place fails
  unfoldable pub fits_at : ℕ → Bool
  fits_at i = is_inside i && eqb (failing i) 0

  abbrev pub first_fit : ℕ
  first_fit = first_of fits_at (offsets across down) 0

  -- the first of n offsets from i on that lies inside with the fewest places that fail; `best` where none has fewer than `fewest`
  unfoldable pub best_from : ℕ → ℕ → ℕ → ℕ → ℕ
  best_from zero i best fewest = best
  best_from (suc n) i best fewest =
      elim (is_inside i && ltb (failing i) fewest) [ true ↦ best_from n (suc i) i (failing i) | false ↦ best_from n (suc i) best fewest ]

  abbrev pub best_fit : ℕ
  best_fit = best_from (offsets across down) 0 (offsets across down) (suc count)

-- the boxes and the places are there, no more of them than a form file has, and the shift is one that it may have
unfoldable pub can_look_for : Form → List ℕ → List ℕ → Bool
can_look_for form boxes places =
    (eqb (length boxes) 80 && leb form.places (length places / 7))
    && (leb form.places 256 && (leb form.across most_shift && leb form.down most_shift))

-- ---- What is found

module _ (form : Form) (boxes places : List ℕ) (encoding : EncodingMode) (page : Page) (marks : List ℕ) where
  -- how many offsets the form has, and whether it fits at one
  abbrev pub reach : ℕ
  reach = offsets form.across form.down

  abbrev pub fits_in : ℕ → Bool
  fits_in = fits_at form.across form.down form.places boxes places page

  -- its numbers there, and what is found: the tests of a page, on the form that lies there
  abbrev pub boxes_in : ℕ → List ℕ
  boxes_in = boxes_at form.across form.down form.places boxes places page

  abbrev pub places_in : ℕ → List ℕ
  places_in = places_at form.across form.down form.places boxes places page

  unfoldable pub found_at : ℕ → Finding
  found_at i = tested_on form (boxes_in i) (places_in i) encoding page marks

  -- an offset that fits, and at which these heads are not counted; the first of them from one on
  abbrev pub differs : ℕ → ℕ → Bool
  differs heads i = fits_in i && not (eqb (found_at i).number complete && eqb (found_at i).heads heads)

  abbrev pub other_fit : ℕ → ℕ → ℕ
  other_fit heads i = first_of (differs heads) (reach - i) i

  -- behind one that counts heads: another may tell otherwise
  unfoldable pub found_behind : ℕ → Finding
  found_behind i =
      elim (ltb (other_fit (found_at i).heads (suc i)) reach) [
        | false ↦ found_at i
        | true ↦
            elim (eqb (found_at (other_fit (found_at i).heads (suc i))).number complete) [
              | false ↦ found_at (other_fit (found_at i).heads (suc i))
              | true ↦ finding other_ticks 0 0 0 0 (found_at i).heads (found_at (other_fit (found_at i).heads (suc i))).heads
            ]
      ]

  abbrev pub first : ℕ
  first = first_fit form.across form.down form.places boxes places page

  abbrev pub best : ℕ
  best = best_fit form.across form.down form.places boxes places page

  -- it fits: what is found at the first, and behind it. It does not: what is found where it comes next to that. It lies inside nowhere: it is no form
  unfoldable pub looked_for : Finding
  looked_for =
      elim (ltb first reach) [
        | true ↦ elim (eqb (found_at first).number complete) [ false ↦ found_at first | true ↦ found_behind first ]
        | false ↦ elim (ltb best reach) [ true ↦ found_at best | false ↦ plainly bad_form ]
      ]

  -- a form without a shift lies at its place
  unfoldable pub on_form : Finding
  on_form =
      elim (has_shift form) [
        | false ↦ on_page form boxes places encoding page marks
        | true ↦ elim (can_look_for form boxes places) [ false ↦ plainly bad_form | true ↦ looked_for ]
      ]
