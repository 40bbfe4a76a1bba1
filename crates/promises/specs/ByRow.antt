-- A1, "A row at a time": page and row form agree, once over the encoding; a call after the end repeats it; each refusal is given exactly when 01 says so; the states that calls hand
-- back are never refused; 4 and 5. A statement is about whatever a contract permits of one call, or of calls one after the other.
use Rattle.std.specs.Prelude.{◌≡◌, ◌⊎◌, ◌↔◌, List, [], ◌∷◌, map, ℕ, ◌+◌, ◌*◌, ◌≤◌, ◌<◌, length, take}
use Rattle.rules.specs.Answers.{complete, no_entry, no_row_end, bad_width, too_long, bad_rows, more_to_come, most_pixels}
use Rattle.rules.specs.Pages.{most_bytes}
use Rattle.rules.specs.ByRow.{row_start, FitIn}
use Rattle.rules.specs.Rising.{Rising}
use Rattle.settings.specs.declared.DecodeSettings.{DecodeSettings}
use Rattle.by_row.specs.declared.Side.{Side}
use Rattle.by_row.specs.declared.Side.TheVariants.{First, Second}
use Rattle.by_row.specs.declared.End.TheVariants.{Unended}
use Rattle.by_row.specs.declared.RowState.{RowState}
use Rattle.by_row.specs.declared.RowStep.{RowStep}
use Rattle.by_row.specs.ByRow.{Ending, row_state_of, other_side, ReadsRow}
use Rattle.promises.specs.Rooms.{Call, Reading, rows_of, marks_of, loose_of}

-- ---- A call

-- the state and the two arrays that were handed to it, what it said, and the arrays after it
pub record RowCall : Type 0 where
  pub state : RowState
  pub first : List ℕ
  pub second : List ℕ
  pub step : RowStep
  pub first' : List ℕ
  pub second' : List ℕ

-- a call of `read_row` on these bytes with these settings
abbrev pub RowReading : List ℕ → DecodeSettings → RowCall → Type 0
RowReading bytes settings c = ReadsRow bytes settings c.state c.first c.second c.step c.first' c.second'

abbrev pub number_of : RowCall → ℕ
number_of c = c.step.answer.number

abbrev pub mark_of : RowCall → ℕ
mark_of c = c.step.answer.mark

abbrev pub array_of : Side → List ℕ → List ℕ → List ℕ
array_of First xs ys = xs
array_of Second xs ys = ys

-- the changes that it speaks of: the first `count` entries of `array`
abbrev pub changes_of : RowCall → List ℕ
changes_of c = take c.step.count (array_of c.step.array c.first' c.second')

-- the reference that was handed to it, and the array that its row goes to
abbrev pub reference_of : RowCall → List ℕ
reference_of c = array_of c.state.side c.first c.second

abbrev pub row_array_of : RowCall → List ℕ
row_array_of c = array_of (other_side c.state.side) c.first c.second

-- ---- Calls one after the other

-- a call is handed this state and these arrays
abbrev pub Handed : RowState → List ℕ → List ℕ → RowCall → Type 0
Handed st xs ys c = (c.state ≡ st) × (c.first ≡ xs) × (c.second ≡ ys)

module _ (bytes : List ℕ) (settings : DecodeSettings) where
  -- "arrays handed back as left", and the state too: calls that each gave a row, and then one more
  unfoldable pub Follows : RowState → List ℕ → List ℕ → List RowCall → RowCall → Type 0
  Follows st xs ys [] last = Handed st xs ys last × RowReading bytes settings last
  Follows st xs ys (c ∷ cs) last = Handed st xs ys c × RowReading bytes settings c × (number_of c ≡ more_to_come) × Follows c.step.state c.first' c.second' cs last

  -- the calls of a page, from the state that `row_start` gives
  pub record Page (first second : List ℕ) (given : List RowCall) (last : RowCall) : Type 0 where
    pub start : RowState
    pub is_start : row_state_of start ≡ row_start
    pub follows : Follows start first second given last

-- ---- Page and row form agree

-- "Called to the end on the same data, with room enough and arrays handed back as left, it gives the page form's rows, answer and bytes, for all three encodings, strict or lenient",
-- and exact; with their marks, the place of a fault, and the loose entries. Room enough: the page form's answer is neither 4 nor 5, and each row of it, and the loose one, fits the line array that it
-- goes to, of the two in turn.
abbrev pub FormsAgree : Type 0
FormsAgree =
    (bytes : List ℕ) (settings : DecodeSettings) (page : Call) → Reading bytes settings page
    → (page.answer.number ≡ no_entry → ⊥)
    → (page.answer.number ≡ no_row_end → ⊥)
    → (first second : List ℕ) → FitIn (length first) (length second) (rows_of page) (loose_of page)
    → (given : List RowCall) (last : RowCall) → Page bytes settings first second given last → (number_of last ≡ more_to_come → ⊥)
    → (map changes_of given ≡ rows_of page) × (map mark_of given ≡ marks_of page) × (last.step.answer ≡ page.answer) × (changes_of last ≡ loose_of page)

-- So n rows take n + 1 calls. And there is an end: calls that give a row are at most 8 × bytes + 1.
abbrev pub RowsEnd : Type 0
RowsEnd =
    (bytes : List ℕ) (settings : DecodeSettings) (first second : List ℕ) (given : List RowCall) (last : RowCall) → Page bytes settings first second given last
    → length given ≤ 8 * length bytes + 1

-- ---- After the end

-- "A call after the end repeats the last answer and writes nothing", whatever settings, data and arrays it is handed with the state: the whole of what it says is the same.
abbrev pub RowFormRepeats : Type 0
RowFormRepeats =
    (bytes : List ℕ) (settings : DecodeSettings) (c : RowCall) → RowReading bytes settings c → Ending (number_of c)
    → (bytes' : List ℕ) (settings' : DecodeSettings) (d : RowCall) → d.state ≡ c.step.state → RowReading bytes' settings' d
    → (d.step ≡ c.step) × (d.first' ≡ d.first) × (d.second' ≡ d.second)

-- ---- Refusals

-- 8 is not given: the bit lies in the data, the counts are within their array and within 8 × bytes + 1, and the reference ascends strictly below the width
pub record Sound (bytes : List ℕ) (settings : DecodeSettings) (c : RowCall) : Type 0 where
  pub inside : c.state.at ≤ 8 * length bytes
  pub held : c.state.held ≤ length (reference_of c)
  pub few_held : c.state.held ≤ 8 * length bytes + 1
  pub few_rows : c.state.rows ≤ 8 * length bytes + 1
  pub few_entries : c.state.entries ≤ 8 * length bytes + 1
  pub rising : Rising settings.columns 0 (take c.state.held (reference_of c))

-- Before the page's end each refusal is given exactly when 01 says so, and leaves everything as found with zero counts; any other answer is of the list, and 5 is none.
pub record RowListed (bytes : List ℕ) (settings : DecodeSettings) (c : RowCall) : Type 0 where
  pub listed : Ending (number_of c) ⊎ ((number_of c ≡ bad_width) ⊎ ((number_of c ≡ too_long) ⊎ ((number_of c ≡ bad_rows) ⊎ (number_of c ≡ more_to_come))))
  pub six : (number_of c ≡ bad_width) ↔ (settings.columns ≡ most_pixels)
  pub seven : (number_of c ≡ too_long) ↔ ((settings.columns ≡ most_pixels → ⊥) × (most_bytes < length bytes))
  pub eight : (number_of c ≡ bad_rows) ↔ ((settings.columns ≡ most_pixels → ⊥) × (length bytes ≤ most_bytes) × (Sound bytes settings c → ⊥))
  pub without_columns : settings.columns ≡ 0 → length bytes ≤ most_bytes → Sound bytes settings c → (number_of c ≡ complete) × (c.step.answer.rows ≡ 0) × (c.step.answer.bytes ≡ 0)

pub record Left (c : RowCall) : Type 0 where
  pub state : c.step.state ≡ c.state
  pub first : c.first' ≡ c.first
  pub second : c.second' ≡ c.second
  pub counts : (c.step.answer.rows ≡ 0) × (c.step.answer.entries ≡ 0) × (c.step.answer.loose ≡ 0) × (c.step.answer.bytes ≡ 0)

abbrev pub RowRefusals : Type 0
RowRefusals =
    (bytes : List ℕ) (settings : DecodeSettings) (c : RowCall) → RowReading bytes settings c → c.state.end ≡ Unended
    → RowListed bytes settings c × (bad_width ≤ number_of c → number_of c ≤ bad_rows → Left c)

-- "the state that is handed back" is never refused with 8, however many rows were given before.
abbrev pub OwnStates : Type 0
OwnStates =
    (bytes : List ℕ) (settings : DecodeSettings) (first second : List ℕ) (given : List RowCall) (last : RowCall) → Page bytes settings first second given last → number_of last ≡ bad_rows → ⊥

-- ---- 4, 5 and the marks

-- "Its answer 4 now means that one row has more changes than the line array it goes to holds": exactly. How many it has is told by a call on the same with an array that holds any row.
abbrev pub FourMeans : Type 0
FourMeans =
    (bytes : List ℕ) (settings : DecodeSettings) (first second : List ℕ) (given : List RowCall) (last : RowCall) → Page bytes settings first second given last
    → 0 < settings.columns → settings.columns < most_pixels → length bytes ≤ most_bytes
    → (wide : RowCall) → RowReading bytes settings wide → wide.state ≡ last.state → reference_of wide ≡ reference_of last → 8 * length bytes + 1 ≤ length (row_array_of wide)
    → (number_of last ≡ no_entry) ↔ (length (row_array_of last) < wide.step.count)

-- So an array with an entry for each bit of the data holds any row.
abbrev pub LineArrayEnough : Type 0
LineArrayEnough =
    (bytes : List ℕ) (settings : DecodeSettings) (first second : List ℕ) (given : List RowCall) (last : RowCall) → Page bytes settings first second given last
    → 0 < settings.columns → settings.columns < most_pixels → length bytes ≤ most_bytes
    → 8 * length bytes ≤ length (row_array_of last) → number_of last ≡ no_entry → ⊥

-- "answer 5 can't occur", from any state. The mark is one of A5's list, and 0 where no row is given.
abbrev pub NeverFive : Type 0
NeverFive =
    (bytes : List ℕ) (settings : DecodeSettings) (c : RowCall) → RowReading bytes settings c
    → (number_of c ≡ no_row_end → ⊥) × (mark_of c ≤ 2) × ((number_of c ≡ more_to_come → ⊥) → mark_of c ≡ 0)

-- ---- Pinned

-- any two answers, with the arrays after them, are equal
abbrev pub ReadRowPinned : Type 0
ReadRowPinned =
    (bytes : List ℕ) (settings : DecodeSettings) (st : RowState) (first second : List ℕ) (r s : RowStep) (xs ys us vs : List ℕ)
    → ReadsRow bytes settings st first second r xs us
    → ReadsRow bytes settings st first second s ys vs
    → (r ≡ s) × (xs ≡ ys) × (us ≡ vs)

abbrev pub RowStartPinned : Type 0
RowStartPinned = (r s : RowState) → row_state_of r ≡ row_start → row_state_of s ≡ row_start → r ≡ s
