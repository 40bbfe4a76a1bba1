-- Heads on the form (02 A11), what an auditor asks of them: which answers there are, and exactly when; that the heads are those that are ticked, by the pixels in
-- the twenty boxes alone; and that no row is counted that was not read clean. A statement is about whatever answer the contract of `heads` permits.
use Rattle.std.specs.Prelude.{◌≡◌, Bool, true, false, List, [], ◌∷◌, ◌⊎◌, ◌↔◌, ℕ, ◌+◌, ◌-◌, ◌*◌, ◌≤◌, ◌<◌, eqb, ℤ, pos, ◌-ℤ◌, length, get_or}
use Rattle.rules.specs.Answers.{complete, bad_rows, bad_form, not_one_tick, mended_row}
use Rattle.rules.specs.Rising.{Rising}
use Rattle.heads.specs.Form.{sum, Page, page_in, pixel, black_in, ticked, sound, given, clean, refusal, heads}
use Rattle.heads.specs.Numbers.{form_in, heads_from}
use Rattle.heads.specs.Steps.{within}
use Rattle.heads.specs.declared.Box.{Box}
use Rattle.heads.specs.declared.HeadsAnswer.{HeadsAnswer}

-- ---- What is asked

-- what `heads` is called with, and its contract
pub record Asked : Type 0 where
  pub columns : ℕ
  pub changes : List ℕ
  pub ends : List ℕ
  pub marks : List ℕ
  pub form : List (List Box)
  pub least : ℕ
  pub quota : ℤ

abbrev pub Answers : Asked → HeadsAnswer → Type 0
Answers a r = r ≡ heads a.columns a.changes a.ends a.marks a.form a.least a.quota

-- what its type says of a form: ten rows of two boxes
pub record Shaped (form : List (List Box)) : Type 0 where
  pub ten : length form ≡ 10
  pub two : (digit : ℕ) → digit < 10 → length (get_or form digit []) ≡ 2

-- the tests of 8, of 11 and of 13, as the definition has them
abbrev pub is_sound : Asked → Bool
is_sound a = sound a.columns a.changes a.ends a.marks

abbrev pub is_given : Asked → Bool
is_given a = given a.form a.least a.quota

abbrev pub is_clean : Asked → Bool
is_clean a = clean a.columns (length a.ends) a.marks a.form

pub record Passes (a : Asked) : Type 0 where
  pub sound : is_sound a ≡ true
  pub given : is_given a ≡ true
  pub clean : is_clean a ≡ true

-- the page, the box of a digit in a column (0 tens, 1 units), and whether it is ticked
abbrev pub page_of : Asked → Page
page_of a = page_in a.columns a.changes a.ends

abbrev pub box_at : List (List Box) → ℕ → ℕ → Box
box_at form digit column = get_or (get_or form digit []) column (record { left = 0; right = 0; top = 0; bottom = 0 })

abbrev pub is_ticked : Asked → ℕ → ℕ → Bool
is_ticked a column digit = ticked a.least (black_in (page_of a) (box_at a.form digit column))

-- a position in a box: "the right and bottom edges not included"
pub record In (b : Box) (y x : ℕ) : Type 0 where
  pub left : b.left ≤ x
  pub right : x < b.right
  pub top : b.top ≤ y
  pub bottom : y < b.bottom

-- a pixel of a row of the page, in one of the twenty boxes
pub record Touched (a : Asked) (y x : ℕ) : Type 0 where
  pub digit : ℕ
  pub column : ℕ
  pub of_ten : digit < 10
  pub of_two : column < 2
  pub inside : In (box_at a.form digit column) y x
  pub row : y < length a.ends
  pub place : x < a.columns

-- ---- The ticks

-- in a column one digit's box is ticked, and no other
pub record OneTick (a : Asked) (column digit : ℕ) : Type 0 where
  pub of_ten : digit < 10
  pub each : (other : ℕ) → other < 10 → is_ticked a column other ≡ eqb other digit

pub record OneEach (a : Asked) (tens units : ℕ) : Type 0 where
  pub of_tens : OneTick a 0 tens
  pub of_units : OneTick a 1 units

-- the heads that are answered are those that are ticked
abbrev pub HeadsAreTicked : Type 0
HeadsAreTicked =
    (a : Asked) (r : HeadsAnswer) → Shaped a.form → Answers a r → r.number ≡ complete
    → (tens units : ℕ) × OneEach a tens units × (r.heads ≡ 10 * tens + units)

-- and heads that are ticked are answered, where 8, 11 and 13 do not apply
abbrev pub TickedAreHeads : Type 0
TickedAreHeads =
    (a : Asked) (r : HeadsAnswer) (tens units : ℕ) → Shaped a.form → Answers a r → Passes a → OneEach a tens units
    → (r.number ≡ complete) × (r.heads ≡ 10 * tens + units)

-- one tick more, less or elsewhere is another answer, or a refusal: two calls that answer the same heads have the same ticks
abbrev pub EveryTickTells : Type 0
EveryTickTells =
    (a b : Asked) (r s : HeadsAnswer) → Shaped a.form → Shaped b.form → Answers a r → Answers b s
    → r.number ≡ complete → s.number ≡ complete → r.heads ≡ s.heads
    → (column digit : ℕ) → column < 2 → digit < 10 → is_ticked a column digit ≡ is_ticked b column digit

-- the quota left is the quota less the heads, exactly, also below zero, and a form says at most 99
abbrev pub QuotaLeft : Type 0
QuotaLeft =
    (a : Asked) (r : HeadsAnswer) → Shaped a.form → Answers a r → r.number ≡ complete
    → (r.heads ≤ 99) × (r.left ≡ a.quota -ℤ pos r.heads)

-- ---- The answers

-- 0; or 8, 11, 13 or 12, with no heads and nothing left
abbrev pub HeadsListed : Type 0
HeadsListed =
    (a : Asked) (r : HeadsAnswer) → Answers a r
    → (r.number ≡ complete) ⊎ ((r ≡ refusal bad_rows) ⊎ ((r ≡ refusal bad_form) ⊎ ((r ≡ refusal mended_row) ⊎ (r ≡ refusal not_one_tick))))

-- each exactly where A11 says so, in the order 8, 11, 13, 12
pub record Exactly (a : Asked) (r : HeadsAnswer) : Type 0 where
  pub eight : (r.number ≡ bad_rows) ↔ (is_sound a ≡ false)
  pub eleven : (r.number ≡ bad_form) ↔ ((is_sound a ≡ true) × (is_given a ≡ false))
  pub thirteen : (r.number ≡ mended_row) ↔ ((is_sound a ≡ true) × (is_given a ≡ true) × (is_clean a ≡ false))
  pub twelve : (r.number ≡ not_one_tick) ↔ (Passes a × ((tens units : ℕ) → OneEach a tens units → ⊥))

abbrev pub HeadsRefused : Type 0
HeadsRefused = (a : Asked) (r : HeadsAnswer) → Shaped a.form → Answers a r → Exactly a r

-- ---- The rows under the boxes

-- under an answer 0, each row of which a box holds a pixel was read clean
abbrev pub OnlyCleanRows : Type 0
OnlyCleanRows =
    (a : Asked) (r : HeadsAnswer) → Shaped a.form → Answers a r → r.number ≡ complete
    → (y x : ℕ) → Touched a y x → get_or a.marks y 0 ≡ 0

-- "any box touching a row that A5 marked other than clean answers 13", where 8 and 11 do not apply,
abbrev pub MendedAnswers13 : Type 0
MendedAnswers13 =
    (a : Asked) (r : HeadsAnswer) → Shaped a.form → Answers a r → is_sound a ≡ true → is_given a ≡ true
    → (y x : ℕ) → Touched a y x → (get_or a.marks y 0 ≡ 0 → ⊥) → r.number ≡ mended_row

-- and only there
abbrev pub ThirteenIsMended : Type 0
ThirteenIsMended =
    (a : Asked) (r : HeadsAnswer) → Shaped a.form → Answers a r → r.number ≡ mended_row
    → (y x : ℕ) × Touched a y x × (get_or a.marks y 0 ≡ 0 → ⊥)

-- ---- The pixels in the boxes

-- A party of forty cannot come off as one: the answer depends on the pixels in the twenty boxes alone. Two stores that pass 8 and 13, whatever their
-- changes, row ends and sizes, with the same pixels there give the same answer.
abbrev pub SamePixelsSameHeads : Type 0
SamePixelsSameHeads =
    (a b : Asked) (r s : HeadsAnswer) → Shaped a.form → Answers a r → Answers b s
    → a.form ≡ b.form → a.least ≡ b.least → a.quota ≡ b.quota
    → is_sound a ≡ true → is_sound b ≡ true → is_clean a ≡ true → is_clean b ≡ true
    → ((digit column y x : ℕ) → digit < 10 → column < 2 → In (box_at a.form digit column) y x → pixel (page_of a) y x ≡ pixel (page_of b) y x)
    → r ≡ s

-- the black pixels of a row between two edges, by its black runs: from each change at an even place to the next, or to the right edge, cut to the edges
unfoldable pub runs_black : ℕ → ℕ → List ℕ → ℕ
runs_black left right [] = 0
runs_black left right (x ∷ []) = right - within left right x
runs_black left right (x ∷ y ∷ xs) = (within left right y - within left right x) + runs_black left right xs

-- On a page whose rows ascend, the count of a box, which is over pixels, is that of the runs, cut to the box and to the page. (A box that begins right of
-- the page has none.)
abbrev pub RunsAreCounted : Type 0
RunsAreCounted =
    (page : Page) (b : Box) → ((y : ℕ) → Rising page.columns 0 (get_or page.rows y []))
    → b.left ≤ within 0 page.columns b.right
    → black_in page b ≡ sum (λ y. runs_black b.left (within 0 page.columns b.right) (get_or page.rows y [])) (b.bottom - b.top) b.top

-- ---- A form in an array, as C lends it

-- Eighty numbers are a form: `heads_from`, and so `ccitt_heads`, answers what `heads` answers for it, so that every statement above is of them too.
abbrev pub EightyAreAForm : Type 0
EightyAreAForm =
    (a : Asked) (boxes : List ℕ) (r : HeadsAnswer) → length boxes ≡ 80 → a.form ≡ form_in boxes
    → r ≡ heads_from a.columns a.changes a.ends a.marks boxes a.least a.quota
    → Shaped a.form × Answers a r

-- any other count of numbers is none: 8 where the store is not sound, and else 11
abbrev pub OthersAreNone : Type 0
OthersAreNone =
    (a : Asked) (boxes : List ℕ) (r : HeadsAnswer) → (length boxes ≡ 80 → ⊥)
    → r ≡ heads_from a.columns a.changes a.ends a.marks boxes a.least a.quota
    → (is_sound a ≡ false → r ≡ refusal bad_rows) × (is_sound a ≡ true → r ≡ refusal bad_form)
