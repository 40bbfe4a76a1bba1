-- The words of the lines: one phrase for each thing that is said. In a phrase a capital letter stands for a number (specs/Said.antt, `numbers`).
use Rattle.std.specs.Prelude.{Bool, true, false, not, ◌&&◌, List, [], ◌∷◌, ◌++◌, map, ℕ, ◌+◌, ◌*◌, ◌%◌, eqb, leb, ltb, get_or}
use Prim.Native.String.{String}
use Rattle.rules.specs.Answers.{not_one_tick, mended_row}
use Rattle.listing_text.specs.Text.{ascii, newline}
use Rattle.ledger.specs.Verdicts.{other_rows, unclean_row, in_doubt, bad_numbers, missing_line, last_of_page, first_of_form, last_verdict}
use Rattle.ledger.specs.declared.Verdict.{Verdict}

-- ---- The phrases

unfoldable pub words : List String
words =
    -- the line of a page: counted, over the quota, to be looked at; and with a quota that is passed
    "\tA\tH\tN\tcounted" ∷
    "\tA\tH\t-N\tover by N" ∷
    "\tA\t-\tN\tA: " ∷
    "\tA\t-\t-N\tA: " ∷
    -- the line of the total: of several pages, and of one
    "total\tK\tI\tN\tP pages, G counted, K to be looked at" ∷
    "total\tK\tI\t-N\tP pages, G counted, K to be looked at; over by N" ∷
    "total\tK\tI\tN\t1 page, G counted, K to be looked at" ∷
    "total\tK\tI\t-N\t1 page, G counted, K to be looked at; over by N" ∷
    -- 1
    "a code that stands in no table, or a row that does not fit, at byte B, bit E, row O" ∷
    -- 2
    "the data ends inside a code, at byte B, bit E, row O" ∷
    -- 3
    "a run or a move that is out of range, at byte B, bit E, row O" ∷
    -- 4
    "more changes of colour than the tool holds" ∷
    -- 5
    "more rows than the tool holds" ∷
    -- 6
    "no page has 4294967295 columns" ∷
    -- 7
    "more than 4294967296 bytes" ∷
    -- 8
    "the rows are out of order" ∷
    -- 9
    "no answer that a page has" ∷
    -- 10
    "no answer that a page has" ∷
    -- 11
    "the form's boxes are out of order" ∷
    -- 12
    "(said by its lines below)" ∷
    -- 13
    "(said by its lines below)" ∷
    -- 14
    "fewer rows than were asked for" ∷
    -- 15
    "no answer that a page has" ∷
    -- 16
    "the page is read C columns wide, and the form's page is L wide" ∷
    -- 17
    "bytes behind the page: C; a second page?" ∷
    -- 18
    "the page has C rows, and the form's page has L to M" ∷
    -- 19
    "(said by its lines below)" ∷
    -- 20
    "the place of the form's line F has C black pixels, and must have L or more" ∷
    -- 21
    "the place of the form's line F has C black pixels, and may have M at most" ∷
    -- 22
    "(said by its lines below)" ∷
    -- 23
    "the page's end-of-line marks stop before its end" ∷
    -- 24
    "the page's bits are not those that a writer writes for its rows: they part at bit C" ∷
    -- 25
    "the form fits at two places of the page, and they read other heads: L and M" ∷
    -- 32
    "the form's line F is none of a form" ∷
    -- 33
    "the form's line F says what a line above it says" ∷
    -- 34
    "the form's line F has numbers out of order" ∷
    -- 35
    "the form's line F is one place too many" ∷
    -- 36
    "(said by its lines below)" ∷
    -- 37
    "the form's line F lies outside its page" ∷
    -- 38
    "the form's line F overlaps another box" ∷
    -- 39
    "no room for the form's boxes" ∷
    -- 40
    "a form has at most 65536 bytes" ∷
    -- 41
    "the form has L to M rows and no black or white place: it serves exact reading alone" ∷
    -- 42
    "there is no such file" ∷
    -- 43
    "the file cannot be read" ∷
    -- 44
    "a folder, and no file" ∷
    -- 45
    "the file is empty" ∷
    -- 46
    "the file is longer than the tool holds" ∷
    -- 47
    "neither the name's ending nor --encoding says how the page is written" ∷
    -- 48
    "fewer bytes could be read than the file has" ∷
    -- 12: a column with no tick, with several
    "the tens column has no tick" ∷
    "the tens column has C ticks" ∷
    "the units column has no tick" ∷
    "the units column has C ticks" ∷
    -- 13: a box on a row that is not clean
    "the box of tens D touches row O, which was cut to the width" ∷
    "the box of tens D touches row O, which was recovered" ∷
    "the box of units D touches row O, which was cut to the width" ∷
    "the box of units D touches row O, which was recovered" ∷
    -- 18, where the form has one number of rows
    "the page has C rows, and the form's page has L" ∷
    -- 19
    "row O was cut to the width, and the form rests on it" ∷
    "row O was recovered, and the form rests on it" ∷
    -- 22
    "the box of tens D has C black pixels: in doubt from L on, ticked from M on" ∷
    "the box of units D has C black pixels: in doubt from L on, ticked from M on" ∷
    -- 34, of no line
    "the form's doubt is above its tick" ∷
    -- 36: the page, the tick, a place, a box
    "the form has no line that says its page" ∷
    "the form has no line that says its tick" ∷
    "the form has a shift, and no black or white place to find it by" ∷
    "the form has no box of tens D" ∷
    "the form has no box of units D" ∷
    -- a reason alone, and that there is none
    "A: " ∷
    "A: done" ∷
    []

-- the phrase of a number
abbrev pub phrase : ℕ → List ℕ
phrase k = get_or (map ascii words) k []

-- all of them as one text, a line for each
unfoldable pub lined : List String → List ℕ
lined [] = []
lined (w ∷ ws) = ascii w ++ newline ∷ lined ws

-- ---- Which phrase gives a verdict's reason

abbrev pub one : Bool → ℕ
one false = 0
one true = 1

-- a box or a column of units
abbrev pub is_units : Verdict → Bool
is_units v = not (eqb (v.which % 2) 0)

-- where the phrases of some numbers begin
abbrev pub ticks_said : ℕ
ticks_said = 50

abbrev pub mended_said : ℕ
mended_said = 54

abbrev pub rows_said : ℕ
rows_said = 58

abbrev pub unclean_said : ℕ
unclean_said = 59

abbrev pub doubt_said : ℕ
doubt_said = 61

abbrev pub doubt_above_said : ℕ
doubt_above_said = 63

abbrev pub missing_said : ℕ
missing_said = 64

abbrev pub alone_said : ℕ
alone_said = 69

-- for a number that no verdict on a page has
abbrev pub no_answer_said : ℕ
no_answer_said = 16

-- the phrase of a number by itself: they stand behind the eight of a line and the total, without the numbers from 26 to 31
unfoldable pub plain_at : ℕ → ℕ
plain_at n =
    elim (leb n last_of_page) [
      | true ↦ 7 + n
      | false ↦ elim (leb first_of_form n && leb n last_verdict) [ true ↦ 1 + n | false ↦ no_answer_said ]
    ]

-- the page, the tick, the place or the box that is missing
unfoldable pub missing_at : Verdict → ℕ
missing_at v =
    elim (leb 20 v.which) [
      | true ↦
          elim (eqb v.which 20) [
            | true ↦ missing_said
            | false ↦ elim (eqb v.which 21) [ true ↦ missing_said + 1 | false ↦ missing_said + 2 ]
          ]
      | false ↦ missing_said + 3 + one (is_units v)
    ]

-- "the page has C rows", where the form has one number of rows
abbrev pub is_of_one_number : Verdict → Bool
is_of_one_number v = eqb v.number other_rows && eqb v.least v.most

-- a doubt above the tick is the fault of no line
abbrev pub is_of_no_line : Verdict → Bool
is_of_no_line v = eqb v.number bad_numbers && eqb v.line 0

-- the reason's phrase
unfoldable pub reason_at : Verdict → ℕ
reason_at v =
    elim (eqb v.number not_one_tick) [
      | true ↦ ticks_said + 2 * one (is_units v) + one (ltb 0 v.count)
      | false ↦
          -- a mark of 1 is of a row that was cut, and of 2 of one that was recovered (02 A5)
          elim (eqb v.number mended_row) [
            | true ↦ mended_said + 2 * one (is_units v) + one (ltb 1 v.count)
            | false ↦
                elim (eqb v.number unclean_row) [
                  | true ↦ unclean_said + one (ltb 1 v.count)
                  | false ↦
                      elim (eqb v.number in_doubt) [
                        | true ↦ doubt_said + one (is_units v)
                        | false ↦
                            elim (eqb v.number missing_line) [
                              | true ↦ missing_at v
                              | false ↦
                                  elim (is_of_one_number v) [
                                    | true ↦ rows_said
                                    | false ↦ elim (is_of_no_line v) [ true ↦ doubt_above_said | false ↦ plain_at v.number ]
                                  ]
                            ]
                      ]
                ]
          ]
    ]
