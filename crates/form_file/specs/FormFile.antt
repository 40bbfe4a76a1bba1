-- A form file: whether what its lines say is a form, and what is wrong with it.
use Rattle.std.specs.Prelude.{◌≡◌, Bool, true, false, ◌&&◌, ◌||◌, not, List, [], ◌∷◌, ℕ, suc, ◌+◌, ◌*◌, ◌/◌, eqb, leb, ltb, length, get_or, take, drop}
use Rattle.rules.specs.Pages.{overlaid}
use Rattle.listing_text.specs.Lines.{lines_of}
use Rattle.heads.specs.Numbers.{box_in}
use Rattle.heads.specs.declared.Box.{Box}
use Rattle.ledger.specs.Verdicts.{bad_numbers, missing_line, outside_page, overlapping, no_room_for_boxes, long_form}
use Rattle.form_file.specs.First.{first_of}
use Rattle.form_file.specs.Words.{words_of, same}
use Rattle.form_file.specs.Said.{line_says}
use Rattle.form_file.specs.Heard.{Heard, form_of, no_form, has_shift, unheard, heard, on, fault}
use Rattle.form_file.specs.declared.Form.{Form}
use Rattle.form_file.specs.declared.Formed.{Formed}

-- ---- A form that is sound

-- "every box and place is inside its page", for every number of rows that the page may have
abbrev pub inside : Form → Box → Bool
inside f b = leb b.right f.columns && leb b.bottom f.least

abbrev pub apart : Box → Box → Bool
apart a b = (leb a.right b.left || leb b.right a.left) || (leb a.bottom b.top || leb b.bottom a.top)

abbrev pub box_at : List ℕ → ℕ → Box
box_at boxes which = box_in boxes (4 * which)

-- the edges of a place stand behind its kind
abbrev pub place_at : List ℕ → ℕ → Box
place_at places k = box_in places (7 * k + 1)

-- "no box overlaps another": one of those before it
abbrev pub overlaps : List ℕ → ℕ → Bool
overlaps boxes which = ltb (first_of (λ k. not (apart (box_at boxes k) (box_at boxes which))) which 0) which

-- What is missing: the page, then the tick, then the boxes by their numbers, then a place to find a form by that has a shift
abbrev pub no_page : ℕ
no_page = 20

abbrev pub no_tick : ℕ
no_tick = 21

abbrev pub no_place : ℕ
no_place = 22

abbrev pub nothing_missing : ℕ
nothing_missing = 23

abbrev pub first_unsaid : Heard → ℕ
first_unsaid h = first_of (λ k. eqb (get_or h.lines k 0) 0) 20 0

unfoldable pub first_missing : Heard → ℕ
first_missing h =
    elim (eqb h.form.columns 0) [
      | true ↦ no_page
      | false ↦
          elim (eqb h.form.tick 0) [
            | true ↦ no_tick
            | false ↦
                elim (ltb (first_unsaid h) 20) [
                  | true ↦ first_unsaid h
                  | false ↦ elim (has_shift h.form && eqb h.form.places 0) [ true ↦ no_place | false ↦ nothing_missing ]
                ]
          ]
    ]

abbrev pub box_outside : Heard → ℕ
box_outside h = first_of (λ k. not (inside h.form (box_at h.boxes k))) 20 0

abbrev pub box_over : Heard → ℕ
box_over h = first_of (overlaps h.boxes) 20 0

abbrev pub place_outside : Heard → ℕ
place_outside h = first_of (λ k. not (inside h.form (place_at h.places k))) h.form.places 0

-- ---- The whole

-- "What is wrong is told with its line"; and with its box, where it is about one
abbrev pub faulty : ℕ → ℕ → ℕ → Formed
faulty number which line = record { number = number; which = which; line = line; form = no_form }

-- "if missing the tick's"
abbrev pub doubted : Form → Form
doubted f =
    form_of f.columns f.least f.most f.tick (elim (eqb f.doubt 0) [ true ↦ f.tick | false ↦ f.doubt ]) f.places f.proper f.across f.down

-- the number of no box, for a fault that is about a place
abbrev pub no_box : ℕ
no_box = 20

unfoldable pub whole : Heard → Formed
whole h =
    elim (eqb (first_missing h) nothing_missing) [
      | false ↦ faulty missing_line (first_missing h) 0
      | true ↦
          -- "N at most the tick's"
          elim (leb h.form.doubt h.form.tick) [
            | false ↦ faulty bad_numbers 0 0
            | true ↦
                elim (eqb (box_outside h) 20) [
                  | false ↦ faulty outside_page (box_outside h) (get_or h.lines (box_outside h) 0)
                  | true ↦
                      elim (eqb (box_over h) 20) [
                        | false ↦ faulty overlapping (box_over h) (get_or h.lines (box_over h) 0)
                        | true ↦
                            elim (eqb (place_outside h) h.form.places) [
                              | false ↦ faulty outside_page no_box (get_or h.places (7 * place_outside h + 6) 0)
                              | true ↦ record { number = 0; which = 0; line = 0; form = doubted h.form }
                            ]
                      ]
                ]
          ]
    ]

-- A form file that was read: the answer, the boxes, and the numbers of the places, which stand at the front of what was lent for them
pub record Read : Type 0 where
  pub formed : Formed
  pub boxes : List ℕ
  pub places : List ℕ

-- the lines from one on, which is the line of a number
unfoldable pub hearing : ℕ → ℕ → Heard → List (List ℕ) → Read
hearing room line h [] = record { formed = whole h; boxes = h.boxes; places = h.places }
hearing room line h (l ∷ ls) =
    elim (heard room line h (line_says (words_of l))) [
      | on h' ↦ hearing room (suc line) h' ls
      | fault number which ↦ record { formed = faulty number which line; boxes = h.boxes; places = h.places }
    ]

-- "Any number up to 256", and no more than the lent array has room for
abbrev pub places_for : ℕ → ℕ
places_for lent = elim (ltb 256 (lent / 7)) [ true ↦ 256 | false ↦ lent / 7 ]

-- a byte-order mark, as some editors write it in front of a text, is none of it
abbrev pub text_start : List ℕ → ℕ
text_start text = elim (same (take 3 text) (239 ∷ 187 ∷ 191 ∷ [])) [ true ↦ 3 | false ↦ 0 ]

-- a text, the eighty numbers that are lent for the boxes, and how many are for the places
unfoldable pub read_form : List ℕ → List ℕ → ℕ → Read
read_form text boxes lent =
    elim (eqb (length boxes) 80) [
      | false ↦ record { formed = faulty no_room_for_boxes 0 0; boxes = boxes; places = [] }
      | true ↦
          elim (ltb 65536 (length text)) [
            | true ↦ record { formed = faulty long_form 0 0; boxes = boxes; places = [] }
            | false ↦ hearing (places_for lent) 1 (unheard boxes) (lines_of (drop (text_start text) text))
          ]
    ]

-- the answer, and every entry of the two lent arrays behind it
pub record Forms (text boxes places : List ℕ) (r : Formed) (boxes' places' : List ℕ) : Type 0 where
  pub formed : r ≡ (read_form text boxes (length places)).formed
  pub boxes_are : boxes' ≡ (read_form text boxes (length places)).boxes
  pub places_are : places' ≡ overlaid (read_form text boxes (length places)).places places
