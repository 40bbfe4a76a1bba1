-- What a call in steps stores (01 "The row store and what the desk says", "Where a later request calls a form in steps"; 02, A1 and A9): from any
-- state that passes the tests, one that no call handed back too. A row that is given ascends strictly below the width; the counts fit the arrays; the
-- other line array, the rows kept before and every later entry keep their value; 15 has neither bytes nor a place; what the row form's 4 leaves; and
-- columns 0. A statement is about whatever a contract permits.
use Rattle.std.specs.Prelude.{◌≡◌, List, ℕ, ◌+◌, ◌≤◌, ◌<◌, length, take, drop}
use Rattle.rules.specs.Answers.{complete, no_entry, bad_width, bad_rows, too_few_rows, more_to_come}
use Rattle.rules.specs.Pages.{most_bytes, entries}
use Rattle.rules.specs.Write.{rows_in}
use Rattle.rules.specs.Rising.{Rising, Rows}
use Rattle.rules.specs.InSteps.{says_only}
use Rattle.rules.specs.ByRow as Row
use Rattle.rules.specs.ByUnit as Unit
use Rattle.rules.specs.ByUnit.{part}
use Rattle.answer.specs.declared.Answer.{Answer}
use Rattle.settings.specs.declared.DecodeSettings.{DecodeSettings}
use Rattle.by_row.specs.declared.End.TheVariants.{Unended}
use Rattle.by_row.specs.ByRow.{end_of, other_side}
use Rattle.by_unit.specs.declared.Saved.{Saved}
use Rattle.by_unit.specs.declared.Reading.TheVariants.{Open}
use Rattle.by_unit.specs.Reading.{reading_of}
use Rattle.promises.specs.ByRow as ByRow
use Rattle.promises.specs.ByRow.{RowCall, RowReading, array_of, changes_of, reference_of, row_array_of}
use Rattle.promises.specs.ByUnit as ByUnit
use Rattle.promises.specs.ByUnit.{UnitCall, UnitReading}

-- ---- Columns 0

-- 0, and every count is 0
abbrev pub nothing : Answer
nothing = record { number = 0; mark = 0; rows = 0; entries = 0; loose = 0; bytes = 0; place = 0 }

-- the arrays are as found, and the page has ended
pub record RowNothing (c : RowCall) : Type 0 where
  pub answer : c.step.answer ≡ nothing
  pub count : c.step.count ≡ 0
  pub first : c.first' ≡ c.first
  pub second : c.second' ≡ c.second
  pub over : end_of c.step.state.end ≡ Row.ended 0 0 0 0

pub record UnitNothing (c : UnitCall) : Type 0 where
  pub answer : c.turn.answer ≡ nothing
  pub units : c.turn.units ≡ 0
  pub changes : c.changes' ≡ c.changes
  pub ends : c.ends' ≡ c.ends
  pub marks : c.marks' ≡ c.marks
  pub over : reading_of c.turn.reading ≡ Unit.ended (says_only 0)

-- "Columns 0, once the tests that apply are passed, gives 0, no rows, 0 bytes", also where rows were given under another width
pub record NoColumnsInSteps : Type 0 where
  pub by_row : (bytes : List ℕ) (settings : DecodeSettings) (c : RowCall) → RowReading bytes settings c
      → c.state.end ≡ Unended → settings.columns ≡ 0 → length bytes ≤ most_bytes → ByRow.Sound bytes settings c → RowNothing c
  pub by_unit : (bytes : List ℕ) (settings : DecodeSettings) (c : UnitCall) → UnitReading bytes settings c
      → 0 < c.n → (s : Saved) → c.reading ≡ Open s → settings.columns ≡ 0 → length bytes ≤ most_bytes → ByUnit.Sound bytes settings c s → UnitNothing c

-- ---- The row form

-- a row is given, which is the next reference: 15, "with bytes 0 and its other counts as they stand"
pub record RowGiven (settings : DecodeSettings) (c : RowCall) : Type 0 where
  pub rising : Rising settings.columns 0 (changes_of c)
  pub next : take c.step.state.held (array_of c.step.state.side c.first' c.second') ≡ changes_of c
  pub rows : c.step.answer.rows ≡ c.state.rows + 1
  pub entries : c.step.answer.entries ≡ c.state.entries + c.step.count
  pub loose : c.step.answer.loose ≡ 0
  pub bytes : c.step.answer.bytes ≡ 0
  pub place : c.step.answer.place ≡ 0

-- the page ends: the rows given before stand, and the changes that the call speaks of are the loose entries. There are none after 0, nor after 14,
-- which has no bytes; after 4 no entry is left.
pub record RowOver (c : RowCall) : Type 0 where
  pub rows : c.step.answer.rows ≡ c.state.rows
  pub entries : c.step.answer.entries ≡ c.state.entries
  pub loose : c.step.answer.loose ≡ c.step.count
  pub clean : ByRow.number_of c ≡ complete → c.step.count ≡ 0
  pub short : ByRow.number_of c ≡ too_few_rows → (c.step.count ≡ 0) × (c.step.answer.bytes ≡ 0)
  pub full : ByRow.number_of c ≡ no_entry → c.step.count ≡ length (row_array_of c)

-- What it speaks of lies at the front of the array that the row goes to, and fits it; that array's later entries keep their value, and so does the
-- other array.
pub record RowStores (settings : DecodeSettings) (c : RowCall) : Type 0 where
  pub array : c.step.array ≡ other_side c.state.side
  pub fits : c.step.count ≤ length (row_array_of c)
  pub later : drop c.step.count (array_of c.step.array c.first' c.second') ≡ drop c.step.count (row_array_of c)
  pub other : array_of c.state.side c.first' c.second' ≡ reference_of c
  pub given : ByRow.number_of c ≡ more_to_come → RowGiven settings c
  pub over : (ByRow.number_of c ≡ more_to_come → ⊥) → RowOver c

-- a call that is not refused, before the page's end
abbrev pub RowStored : Type 0
RowStored =
    (bytes : List ℕ) (settings : DecodeSettings) (c : RowCall) → RowReading bytes settings c
    → c.state.end ≡ Unended → 0 < settings.columns → (bad_width ≤ ByRow.number_of c → ByRow.number_of c ≤ bad_rows → ⊥) → RowStores settings c

-- After 4 as many of the row's changes as the array holds are left, its first ones: a longer array takes more of them. "More room never changes an
-- answer from 0 to 3", nor any other.
abbrev pub RowFourLeaves : Type 0
RowFourLeaves =
    (bytes : List ℕ) (settings : DecodeSettings) (c wide : RowCall) → RowReading bytes settings c → RowReading bytes settings wide
    → c.state.end ≡ Unended → wide.state ≡ c.state → reference_of wide ≡ reference_of c → length (row_array_of c) < length (row_array_of wide)
    → (ByRow.number_of c ≡ no_entry → (length (row_array_of c) < wide.step.count) × (changes_of c ≡ take (length (row_array_of c)) (changes_of wide)))
    × ((ByRow.number_of c ≡ no_entry → ⊥) → (wide.step ≡ c.step) × (changes_of wide ≡ changes_of c))

-- ---- The unit form

-- the rows that a call closed: those behind the rows of its state
abbrev pub rows_closed : UnitCall → Saved → List (List ℕ)
rows_closed c s = rows_in (Unit.end_of c.ends s.rows) c.changes' (part s.rows c.turn.answer.rows c.ends')

-- its loose entries
abbrev pub loose_of : UnitCall → List ℕ
loose_of c = take c.turn.answer.loose (drop c.turn.answer.entries c.changes')

-- 15, "with bytes 0 and its other counts as they stand", and as the state that is handed back has them
pub record UnitMore (c : UnitCall) : Type 0 where
  pub bytes : c.turn.answer.bytes ≡ 0
  pub place : c.turn.answer.place ≡ 0
  pub next : (t : Saved) → c.turn.reading ≡ Open t → (t.rows ≡ c.turn.answer.rows) × (t.loose ≡ c.turn.answer.loose)

-- Rows, marks, entries and loose entries fit their arrays. "Rows kept before stand"; the rows that were closed and the loose entries ascend strictly
-- below the width, and every later entry keeps its value. "After 0 there are no loose entries", nor after 14, which has no bytes.
pub record UnitStores (settings : DecodeSettings) (c : UnitCall) (s : Saved) : Type 0 where
  pub more_rows : s.rows ≤ c.turn.answer.rows
  pub rows_fit : c.turn.answer.rows ≤ length c.ends
  pub marks_fit : c.turn.answer.rows ≤ length c.marks
  pub entries_fit : c.turn.answer.entries + c.turn.answer.loose ≤ length c.changes
  pub rising : Rows settings.columns (rows_closed c s)
  pub counted : Unit.end_of c.ends s.rows + entries (rows_closed c s) ≡ c.turn.answer.entries
  pub loose_rising : Rising settings.columns 0 (loose_of c)
  pub before_changes : take (Unit.end_of c.ends s.rows) c.changes' ≡ take (Unit.end_of c.ends s.rows) c.changes
  pub before_ends : take s.rows c.ends' ≡ take s.rows c.ends
  pub before_marks : take s.rows c.marks' ≡ take s.rows c.marks
  pub later_changes : drop (c.turn.answer.entries + c.turn.answer.loose) c.changes' ≡ drop (c.turn.answer.entries + c.turn.answer.loose) c.changes
  pub later_ends : drop c.turn.answer.rows c.ends' ≡ drop c.turn.answer.rows c.ends
  pub later_marks : drop c.turn.answer.rows c.marks' ≡ drop c.turn.answer.rows c.marks
  pub more : ByUnit.number_of c ≡ more_to_come → UnitMore c
  pub clean : ByUnit.number_of c ≡ complete → c.turn.answer.loose ≡ 0
  pub short : ByUnit.number_of c ≡ too_few_rows → (c.turn.answer.loose ≡ 0) × (c.turn.answer.bytes ≡ 0)

-- a call that is not refused, before the page's end
abbrev pub UnitStored : Type 0
UnitStored =
    (bytes : List ℕ) (settings : DecodeSettings) (c : UnitCall) → UnitReading bytes settings c → 0 < c.n → (s : Saved) → c.reading ≡ Open s
    → 0 < settings.columns → (bad_width ≤ ByUnit.number_of c → ByUnit.number_of c ≤ bad_rows → ⊥) → UnitStores settings c s
