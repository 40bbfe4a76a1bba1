-- The verdict on a page, from its bytes, the settings and the form.
use Rattle.std.specs.Prelude.{◌≡◌, Bool, true, false, ◌&&◌, ◌||◌, not, List, ℕ, suc, ◌-◌, eqb, leb, ltb, length}
use Rattle.rules.specs.Answers.{complete}
use Rattle.rules.specs.Pages as Page
use Rattle.rules.specs.Pages.{decode, places_in, changes_after, ends_after, marks_after}
use Rattle.rules.specs.Standing.{has_given_up}
use Rattle.rules.specs.Proper.{is_proper, parts_in}
use Rattle.settings.specs.Settings.{settings_of}
use Rattle.settings.specs.declared.DecodeSettings.{DecodeSettings}
use Rattle.settings.specs.declared.EncodingMode.{EncodingMode}
use Rattle.settings.specs.declared.EncodingMode.TheVariants.{Group4, Group3_1D, Group3_2D}
use Rattle.heads.specs.Form as Heads
use Rattle.form_file.specs.declared.Form.{Form}
use Rattle.ledger.specs.Verdicts.{other_columns, bytes_behind, other_rows, eols_given_up, not_proper, unfit_form}
use Rattle.ledger.specs.declared.Verdict.{Verdict}
use Rattle.booking.specs.Tests.{finding, plainly}
use Rattle.booking.specs.Found.{on_form}
use Rattle.booking.specs.declared.Finding.{Finding}

-- ---- How a page is read

-- as the desk reads, leniently, strictly, and with every other number exactly
abbrev pub as_the_desk : ℕ
as_the_desk = 0

abbrev pub leniently : ℕ
leniently = 1

abbrev pub strictly : ℕ
strictly = 2

-- "Group 3 with EOLs leniently by default": there one bad line costs one row (02 A13). Else damage moves every row behind it: exactly.
abbrev pub by_lines : EncodingMode → Bool → Bool
by_lines Group4 eols = false
by_lines Group3_1D eols = eols
by_lines Group3_2D eols = eols

abbrev pub reading : DecodeSettings → ℕ → Bool → Bool → DecodeSettings
reading s columns strict exact = record {
  columns = columns;
  rows = s.rows;
  end_of_block = s.end_of_block;
  end_of_line = s.end_of_line;
  rows_are_byte_aligned = s.rows_are_byte_aligned;
  encoding = s.encoding;
  strict = strict;
  exact = exact;
  plain = s.plain;
}

-- settings of no columns have the form's
abbrev pub columns_for : Form → DecodeSettings → ℕ
columns_for form s = elim (eqb s.columns 0) [ true ↦ form.columns | false ↦ s.columns ]

unfoldable pub read_as : ℕ → Form → DecodeSettings → DecodeSettings
read_as how form s =
    elim (eqb how as_the_desk) [
      | true ↦ reading s (columns_for form s) false (not (by_lines s.encoding s.end_of_line))
      | false ↦
          elim (eqb how leniently) [
            | true ↦ reading s (columns_for form s) false false
            | false ↦
                elim (eqb how strictly) [ true ↦ reading s (columns_for form s) true false | false ↦ reading s (columns_for form s) true true ]
          ]
    ]

-- ---- The tests, in their order

-- "A form that gives a range of rows and no places is told as unfit, unless the reading is exact": rows that slide would carry a tick into the next box
abbrev pub fits : Form → DecodeSettings → Bool
fits form s = s.exact || (eqb form.least form.most || ltb 0 form.places)

module _ (form : Form) (boxes places : List ℕ) (s : DecodeSettings) (size : ℕ) (a : Page.Answer) where
  -- the page that was read
  abbrev pub page_of : Heads.Page
  page_of = record { columns = s.columns; rows = a.rows }

-- and with it whether EOLs were given up in it, whether it is proper, and else the first bit at which it parts from what would be written
module _ (form : Form) (boxes places : List ℕ) (s : DecodeSettings) (size : ℕ) (gave proper : Bool) (parts : ℕ) (a : Page.Answer) where
  unfoldable pub judged : Finding
  judged =
      elim (fits form s) [
        | false ↦ finding unfit_form 0 0 0 0 form.least form.most
        | true ↦
            -- "the reading's own answer", which stopped in the row behind those that were kept
            elim (eqb a.number complete) [
              | false ↦ finding a.number 0 0 (suc (length a.rows)) 0 0 0
              | true ↦
                  elim (eqb s.columns form.columns) [
                    | false ↦ finding other_columns 0 0 0 s.columns form.columns 0
                    | true ↦
                        elim (eqb a.bytes size) [
                          | false ↦ finding bytes_behind 0 0 0 (size - a.bytes) 0 0
                          | true ↦
                              -- a row that is read behind EOLs that were given up may hang on bytes far behind it
                              elim gave [
                                | true ↦ plainly eols_given_up
                                | false ↦
                                    elim (leb form.least (length a.rows) && leb (length a.rows) form.most) [
                                      | false ↦ finding other_rows 0 0 0 (length a.rows) form.least form.most
                                      | true ↦
                                          -- only where the form asks for it
                                          elim (form.proper && not proper) [
                                            | true ↦ finding not_proper 0 0 0 parts 0 0
                                            | false ↦ on_form form boxes places s.encoding (page_of form boxes places s size a) a.marks
                                          ]
                                    ]
                              ]
                        ]
                  ]
            ]
      ]

-- a finding, and the rows, the bytes and the place of the reading
abbrev pub verdict_of : Page.Answer → Finding → Verdict
verdict_of a f = record {
  number = f.number;
  heads = f.heads;
  which = f.which;
  line = f.line;
  rows = length a.rows;
  bytes = a.bytes;
  place = a.place;
  row = f.row;
  count = f.count;
  least = f.least;
  most = f.most;
}

-- ---- The page's bytes

-- as they are read where there is room for so many changes and rows
abbrev pub reading_of : DecodeSettings → List ℕ → List ℕ → List ℕ → List ℕ → Page.Answer
reading_of s src changes ends marks = decode (settings_of s) src (length changes) (places_in ends marks)

-- and whether EOLs are given up in one of the rows
abbrev pub gave_up_in : DecodeSettings → List ℕ → List ℕ → List ℕ → List ℕ → Bool
gave_up_in s src changes ends marks = has_given_up (settings_of s) src (length changes) (places_in ends marks)

unfoldable pub verdict_on : Form → List ℕ → List ℕ → DecodeSettings → List ℕ → Bool → Page.Answer → Verdict
verdict_on form boxes places s src gave a =
    verdict_of a (judged form boxes places s (length src) gave (is_proper (settings_of s) src a) (parts_in (settings_of s) src a) a)

-- the verdict, and the arrays behind it: they hold what was read
pub record Judges (form : Form) (boxes places : List ℕ) (s : DecodeSettings) (src : List ℕ) (xs es ms : List ℕ) (r : Verdict) (ys fs ns : List ℕ) : Type 0 where
  pub verdict : r ≡ verdict_on form boxes places s src (gave_up_in s src xs es ms) (reading_of s src xs es ms)
  pub changes : ys ≡ changes_after (reading_of s src xs es ms) xs
  pub ends : fs ≡ ends_after (reading_of s src xs es ms) es
  pub marks : ns ≡ marks_after (reading_of s src xs es ms) ms
