-- The desk's tests on a page that was read to its end: each finds what its words need.
use Rattle.std.specs.Prelude.{Bool, true, false, ◌&&◌, not, List, ℕ, zero, suc, ◌+◌, ◌-◌, ◌*◌, ◌/◌, eqb, leb, ltb, pos, length, get_or}
use Rattle.rules.specs.Answers.{complete, bad_form, not_one_tick, mended_row}
use Rattle.settings.specs.declared.EncodingMode.{EncodingMode}
use Rattle.settings.specs.declared.EncodingMode.TheVariants.{Group4, Group3_1D, Group3_2D}
use Rattle.heads.specs.Form.{Page, black_in, clean_under, heads_on}
use Rattle.heads.specs.Numbers.{form_in}
use Rattle.heads.specs.declared.Box.{Box}
use Rattle.heads.specs.declared.HeadsAnswer.{HeadsAnswer}
use Rattle.form_file.specs.First.{first_of, count_of}
use Rattle.form_file.specs.Said.{black_kind}
use Rattle.form_file.specs.FormFile.{box_at, place_at}
use Rattle.form_file.specs.declared.Form.{Form}
use Rattle.ledger.specs.Verdicts.{unclean_row, not_black, not_white, in_doubt}
use Rattle.booking.specs.declared.Finding.{Finding}

-- ---- What is found

-- the number, and what its words need: the box or column, the form's line, the row from 1, the count that was found, and its bounds
abbrev pub finding : ℕ → ℕ → ℕ → ℕ → ℕ → ℕ → ℕ → Finding
finding number which line row count least most = record { number = number; heads = 0; which = which; line = line; row = row; count = count; least = least; most = most }

-- the number alone
abbrev pub plainly : ℕ → Finding
plainly number = finding number 0 0 0 0 0 0

abbrev pub counted_as : ℕ → Finding
counted_as heads = record { number = complete; heads = heads; which = 0; line = 0; row = 0; count = 0; least = 0; most = 0 }

-- the lowest bottom edge of n boxes from i on, and of those before
unfoldable pub lowest : (ℕ → Box) → ℕ → ℕ → ℕ → ℕ
lowest at zero i low = low
lowest at (suc n) i low = elim (ltb low (at i).bottom) [ true ↦ lowest at n (suc i) (at i).bottom | false ↦ lowest at n (suc i) low ]

-- "a 2D row is read under the row above it"
abbrev pub under_above : EncodingMode → Bool
under_above Group4 = true
under_above Group3_1D = false
under_above Group3_2D = true

-- A form, the numbers of its boxes and its places, the encoding, a page and its marks
module _ (form : Form) (boxes places : List ℕ) (encoding : EncodingMode) (page : Page) (marks : List ℕ) where
  abbrev pub row_count : ℕ
  row_count = length page.rows

  -- ---- Rows

  abbrev pub unclean : ℕ → Bool
  unclean y = not (eqb (get_or marks y 0) 0)

  -- the first row of a box that is not clean
  abbrev pub bad_row_in : Box → ℕ
  bad_row_in b = first_of unclean (b.bottom - b.top) b.top

  -- A11's 13: the first box that touches such a row
  abbrev pub bad_box : ℕ
  bad_box = first_of (λ k. not (clean_under page.columns row_count marks (box_at boxes k))) 20 0

  -- the first place that touches one
  abbrev pub bad_place : ℕ
  bad_place = first_of (λ k. not (clean_under page.columns row_count marks (place_at places k))) form.places 0

  -- "any row at or above the lowest box", or place
  abbrev pub lowest_of_all : ℕ
  lowest_of_all = lowest (place_at places) form.places 0 (lowest (box_at boxes) 20 0 0)

  -- the first row that is not clean and that the form rests on; as many as there are rows, if there is none
  unfoldable pub bad_row : ℕ
  bad_row =
      elim (under_above encoding) [
        | true ↦ first_of (λ y. ltb y lowest_of_all && unclean y) row_count 0
        | false ↦ elim (eqb bad_place form.places) [ true ↦ row_count | false ↦ bad_row_in (place_at places bad_place) ]
      ]

  -- ---- Places and boxes

  abbrev pub in_place : ℕ → ℕ
  in_place k = black_in page (place_at places k)

  -- the kind of a place, the number that it asks for, and its line
  abbrev pub is_black : ℕ → Bool
  is_black k = eqb (get_or places (7 * k) 0) black_kind

  abbrev pub asked : ℕ → ℕ
  asked k = get_or places (7 * k + 5) 0

  abbrev pub line_of : ℕ → ℕ
  line_of k = get_or places (7 * k + 6) 0

  -- "a place on the form that must have at least, at most N black pixels"
  abbrev pub place_holds : ℕ → Bool
  place_holds k = elim (is_black k) [ true ↦ leb (asked k) (in_place k) | false ↦ leb (in_place k) (asked k) ]

  abbrev pub wrong_place : ℕ
  wrong_place = first_of (λ k. not (place_holds k)) form.places 0

  abbrev pub in_box : ℕ → ℕ
  in_box k = black_in page (box_at boxes k)

  -- "a box with N black pixels or more and fewer than the tick's is in doubt"
  abbrev pub doubts : ℕ → Bool
  doubts k = leb form.doubt (in_box k) && ltb (in_box k) form.tick

  abbrev pub doubtful : ℕ
  doubtful = first_of doubts 20 0

  -- the ticks of a column: 0 tens, 1 units
  abbrev pub ticks_in : ℕ → ℕ
  ticks_in column = count_of (λ d. leb form.tick (in_box (2 * d + column))) 10 0

  -- ---- In their order

  unfoldable pub wrong_at : ℕ → Finding
  wrong_at k =
      elim (is_black k) [
        | true ↦ finding not_black 0 (line_of k) 0 (in_place k) (asked k) 0
        | false ↦ finding not_white 0 (line_of k) 0 (in_place k) 0 (asked k)
      ]

  -- the column that has not one tick: the tens first
  unfoldable pub not_one : Finding
  not_one =
      elim (eqb (ticks_in 0) 1) [
        | false ↦ finding not_one_tick 0 0 0 (ticks_in 0) 1 1
        | true ↦ finding not_one_tick 1 0 0 (ticks_in 1) 1 1
      ]

  -- the first row that is not clean under the first box that touches one
  abbrev pub mended : Finding
  mended = finding mended_row bad_box 0 (suc (bad_row_in (box_at boxes bad_box))) (get_or marks (bad_row_in (box_at boxes bad_box)) 0) 0 0

  -- by A11's answer
  unfoldable pub tested : HeadsAnswer → Finding
  tested h =
      elim (eqb h.number bad_form) [
        | true ↦ plainly bad_form
        | false ↦
            elim (eqb h.number mended_row) [
              | true ↦ mended
              | false ↦
                  elim (eqb bad_row row_count) [
                    | false ↦ finding unclean_row 0 0 (suc bad_row) (get_or marks bad_row 0) 0 0
                    | true ↦
                        elim (eqb wrong_place form.places) [
                          | false ↦ wrong_at wrong_place
                          | true ↦
                              elim (eqb doubtful 20) [
                                | false ↦ finding in_doubt doubtful 0 0 (in_box doubtful) form.doubt form.tick
                                | true ↦ elim (eqb h.number complete) [ false ↦ not_one | true ↦ counted_as h.heads ]
                              ]
                        ]
                  ]
            ]
      ]

  -- A11 is asked with no quota: the books take the heads off. Boxes that are not eighty numbers, and places that are not there, are no form: 11.
  unfoldable pub on_page : Finding
  on_page =
      elim (eqb (length boxes) 80 && leb form.places (length places / 7)) [
        | false ↦ plainly bad_form
        | true ↦ tested (heads_on page marks (form_in boxes) form.tick (pos 0))
      ]
