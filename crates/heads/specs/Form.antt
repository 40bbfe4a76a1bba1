-- Heads on the form (02 A11): the black pixels of a box, the tick table, the heads, the quota left, and the refusals in their order.
-- A page is the store that the decoder fills (01 "The row store"; marks by A5); its pixels are those of the standard (rules/specs/Pixels.antt).
use Rattle.std.specs.Prelude.{Bool, true, false, cond, not, ◌&&◌, ◌||◌, List, [], ◌∷◌, map, ℕ, zero, suc, ◌+◌, ◌-◌, ◌*◌, eqb, leb, ltb, ℤ, pos, neg_ℤ, ◌-ℤ◌, length, get_or, take}
use Rattle.std.specs.Int.Signed.{le_z}
use Rattle.rules.specs.Answers.{complete, bad_rows, bad_form, not_one_tick, mended_row}
use Rattle.rules.specs.Codes.{Colour, white, black}
use Rattle.rules.specs.Pixels.{pixels_of}
use Rattle.rules.specs.Write.{rows_in}
use Rattle.row_store.specs.Store.{good_rows}
use Rattle.heads.specs.declared.Box.{Box}
use Rattle.heads.specs.declared.HeadsAnswer.{HeadsAnswer}

-- f added up over n positions from i on
unfoldable pub sum : (ℕ → ℕ) → ℕ → ℕ → ℕ
sum f zero i = 0
sum f (suc n) i = f i + sum f n (suc i)

-- whether each of n positions from i on passes a test
unfoldable pub every : (ℕ → Bool) → ℕ → ℕ → Bool
every test zero i = true
every test (suc n) i = test i && every test n (suc i)

-- whether all elements of a list pass a test
unfoldable pub all : {A : Type 0} → (A → Bool) → List A → Bool
all test [] = true
all test (x ∷ xs) = test x && all test xs

-- ---- The pixels of a page

-- its columns, and the changes of each row
pub record Page : Type 0 where
  pub columns : ℕ
  pub rows : List (List ℕ)

-- the page in a store
abbrev pub page_in : ℕ → List ℕ → List ℕ → Page
page_in columns changes ends = record { columns = columns; rows = rows_in 0 changes ends }

-- the colour at a row and a column: "parts outside the page count as white"
unfoldable pub pixel : Page → ℕ → ℕ → Colour
pixel page y x = cond (ltb x page.columns) (pixels_of (get_or page.rows y []) x) white

-- ---- The tick table

abbrev pub ink : Colour → ℕ
ink white = 0
ink black = 1

-- "the count of black pixels in its box", "the right and bottom edges not included"
unfoldable pub black_in : Page → Box → ℕ
black_in page b = sum (λ y. sum (λ x. ink (pixel page y x)) (b.right - b.left) b.left) (b.bottom - b.top) b.top

-- "The tick table is ten rows of two cells", as the form is ten rows of two boxes: for each digit its tens box and its units box.
unfoldable pub tick_table : Page → List (List Box) → List (List ℕ)
tick_table page form = map (map (black_in page)) form

-- ---- Heads

-- "A cell is ticked when its count reaches the caller's mark"
abbrev pub ticked : ℕ → ℕ → Bool
ticked least count = leb least count

-- the digits that are ticked in a column (0 tens, 1 units) of the table's rows, the first of which is for `digit`
unfoldable pub ticks : ℕ → ℕ → ℕ → List (List ℕ) → List ℕ
ticks least column digit [] = []
ticks least column digit (row ∷ rows) =
    cond (ticked least (get_or row column 0)) (digit ∷ ticks least column (suc digit) rows) (ticks least column (suc digit) rows)

abbrev pub refusal : ℕ → HeadsAnswer
refusal n = record { number = n; heads = 0; left = pos 0 }

-- The answer by the digits that are ticked in each column. "Heads are ten times the ticked tens digit plus the ticked units digit. Not exactly one tick
-- in a column answers 12"; "Then subtract heads from a quota: the quota left is a signed number, and below zero is an answer".
abbrev pub told : ℤ → List ℕ → List ℕ → HeadsAnswer
told quota (tens ∷ []) (units ∷ []) = record { number = complete; heads = 10 * tens + units; left = quota -ℤ pos (10 * tens + units) }
told quota (tens ∷ []) [] = refusal not_one_tick
told quota (tens ∷ []) (units ∷ other ∷ more) = refusal not_one_tick
told quota [] units = refusal not_one_tick
told quota (tens ∷ other ∷ more) units = refusal not_one_tick

unfoldable pub heads_in : List (List ℕ) → ℕ → ℤ → HeadsAnswer
heads_in table least quota = told quota (ticks least 0 0 table) (ticks least 1 0 table)

-- ---- The tests, in the order 8, 11, 13, 12

-- each of so many rows has a mark, which is 0, 1 or 2
unfoldable pub marked : ℕ → List ℕ → Bool
marked rows marks = leb rows (length marks) && all (λ m. leb m 2) (take rows marks)

-- "A store that 8 would refuse, or with a row unmarked, answers 8." The test is that of a store: no end falls or passes the array, and each row
-- ascends strictly below the width.
unfoldable pub sound : ℕ → List ℕ → List ℕ → List ℕ → Bool
sound columns changes ends marks = good_rows columns changes 0 ends && marked (length ends) marks

-- "an edge pair out of order answers 11"; equal edges make an empty box
abbrev pub ordered : Box → Bool
ordered b = leb b.left b.right && leb b.top b.bottom

-- "Quotas run from −1,000,000 to 1,000,000; one given outside is 11"
abbrev pub quota_given : ℤ → Bool
quota_given quota = le_z (neg_ℤ (pos 1000000)) quota && le_z quota (pos 1000000)

-- what is given is in order; "a mark of 0 answers 11 too"
unfoldable pub given : List (List Box) → ℕ → ℤ → Bool
given form least quota = all (all ordered) form && (ltb 0 least && quota_given quota)

-- "it touches a row if it holds at least one of that row's pixels inside the page"
abbrev pub touches : ℕ → Box → ℕ → Bool
touches columns b y = (leb b.top y && ltb y b.bottom) && (ltb b.left b.right && ltb b.left columns)

-- each row of the page that the box touches is marked clean: 0 (A5; 1 is cut to width, 2 recovered)
unfoldable pub clean_under : ℕ → ℕ → List ℕ → Box → Bool
clean_under columns rows marks b = every (λ y. not (touches columns b y) || eqb (get_or marks y 0) 0) rows 0

-- "any box touching a row that A5 marked other than clean answers 13"
unfoldable pub clean : ℕ → ℕ → List ℕ → List (List Box) → Bool
clean columns rows marks form = all (all (clean_under columns rows marks)) form

-- the answer on a page whose store passed test 8
unfoldable pub heads_on : Page → List ℕ → List (List Box) → ℕ → ℤ → HeadsAnswer
heads_on page marks form least quota =
    elim (given form least quota) [
      | false ↦ refusal bad_form
      | true ↦ elim (clean page.columns (length page.rows) marks form) [
        | false ↦ refusal mended_row
        | true ↦ heads_in (tick_table page form) least quota
      ]
    ]

unfoldable pub heads : ℕ → List ℕ → List ℕ → List ℕ → List (List Box) → ℕ → ℤ → HeadsAnswer
heads columns changes ends marks form least quota =
    elim (sound columns changes ends marks) [ false ↦ refusal bad_rows | true ↦ heads_on (page_in columns changes ends) marks form least quota ]
