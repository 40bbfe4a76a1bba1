-- The forms in steps as C calls them (include/ccitt.h): numbers that are all 0 are the start; where the header's macros find a row and the loose
-- entries; and ccitt_read_row and ccitt_read_units, called to the end, give what ccitt_decode_group4, ccitt_decode_group3_1d and
-- ccitt_decode_group3_2d give (02, A1 and A9). A statement is about whatever a contract permits of one call, or of calls one after the other.
use Rattle.std.specs.Prelude.{◌≡◌, ◌↔◌, Bool, false, cond, List, [], ◌∷◌, map, ℕ, ◌≤◌, ◌<◌, eqb, length, take, get_or}
use Rattle.rules.specs.Answers.{no_entry, no_row_end, more_to_come, most_pixels}
use Rattle.rules.specs.Units.{same_each}
use Rattle.rules.specs.ByRow.{row_start, FitIn}
use Rattle.rules.specs.ByUnit.{opened, saved_start}
use Rattle.answer.specs.declared.Answer.{Answer}
use Rattle.settings.specs.declared.DecodeSettings.{DecodeSettings}
use Rattle.settings.specs.declared.EncodingMode.TheVariants.{Group4}
use Rattle.by_row.specs.declared.RowState.{RowState}
use Rattle.by_row.specs.ByRow.{row_state_of}
use Rattle.by_unit.specs.declared.Reading as Unit
use Rattle.by_unit.specs.Reading.{reading_of}
use Rattle.exports.specs.Exports.{settings_for}
use Rattle.exports.specs.RowState as Row
use Rattle.exports.specs.RowState.{mode_of, ReadsRowForC}
use Rattle.exports.specs.UnitState as Units
use Rattle.exports.specs.UnitState.{ReadsUnitsForC}
use Rattle.exports.specs.declared.UnitAnswer.{UnitAnswer}
use Rattle.promises.specs.Rooms.{Call, Reading, rows_of, marks_of, loose_of}
use Rattle.promises.specs.ByRow.{RowCall, RowReading, changes_of}
use Rattle.promises.specs.ByUnit.{UnitCall, UnitReading}

-- ---- The start

-- CCITT_ROW_STATE and CCITT_UNIT_STATE, how many numbers C lends for a state
abbrev pub row_numbers : ℕ
row_numbers = 10

abbrev pub unit_numbers : ℕ
unit_numbers = 16

-- "before the page's first call the numbers are all 0": they are those of what `row_start()` and `start()` answer, and of nothing else
pub record ZerosAreTheStart : Type 0 where
  pub row : (st : RowState) → (Row.numbers_of st ≡ same_each row_numbers 0) ↔ (row_state_of st ≡ row_start)
  pub unit : (r : Unit.Reading) → (Units.numbers_of r ≡ same_each unit_numbers 0) ↔ (reading_of r ≡ opened saved_start)

-- ---- The macros of ccitt.h

-- #define CCITT_ROW(state, first, second) ((state)[0] == 1 ? (first) : (second))
abbrev pub ccitt_row : List ℕ → List ℕ → List ℕ → List ℕ
ccitt_row state first second = cond (eqb (get_or state 0 0) 1) first second

-- #define CCITT_ROW_LENGTH(state) ((state)[1])
abbrev pub ccitt_row_length : List ℕ → ℕ
ccitt_row_length state = get_or state 1 0

-- #define CCITT_LOOSE(state, first, second) ((state)[0] == 1 ? (second) : (first))
abbrev pub ccitt_loose : List ℕ → List ℕ → List ℕ → List ℕ
ccitt_loose state first second = cond (eqb (get_or state 0 0) 1) second first

-- ---- A row at a time

-- what a page's parameters are, at each call
pub record Parameters : Type 0 where
  pub columns : ℕ
  pub rows : ℕ
  pub block : Bool
  pub line : Bool
  pub aligned : Bool
  pub encoding : ℕ
  pub strict : Bool
  pub exact : Bool
  pub plain : Bool

abbrev pub settings_of : Parameters → DecodeSettings
settings_of p = settings_for p.columns p.rows p.block p.line p.aligned (mode_of p.encoding) p.strict p.exact p.plain

-- a call: the numbers and the two arrays that were lent, the answer, and the numbers and the arrays after it
pub record RowCallForC : Type 0 where
  pub state : List ℕ
  pub first : List ℕ
  pub second : List ℕ
  pub answer : Answer
  pub state' : List ℕ
  pub first' : List ℕ
  pub second' : List ℕ

-- of ccitt_read_row
abbrev pub RowReadingForC : List ℕ → Parameters → RowCallForC → Type 0
RowReadingForC bytes p c = ReadsRowForC bytes (settings_of p) p.encoding c.state c.first c.second c.answer c.state' c.first' c.second'

-- "CCITT_ROW(state, first, second) points at its changes, CCITT_ROW_LENGTH(state) says how many they are"
abbrev pub row_for_c : RowCallForC → List ℕ
row_for_c c = take (ccitt_row_length c.state') (ccitt_row c.state' c.first' c.second')

-- "The entries of an unfinished row, if any, are the first `loose` of CCITT_LOOSE(state, first, second)"
abbrev pub loose_for_c : RowCallForC → List ℕ
loose_for_c c = take c.answer.loose (ccitt_loose c.state' c.first' c.second')

abbrev pub mark_for_c : RowCallForC → ℕ
mark_for_c c = c.answer.mark

-- From the numbers of a state, and an encoding of the list, C is told what `read_row` says from that state: its answer, the numbers of the state that
-- it hands back, and the two arrays. Where a row is given the macros find it, and else they find the loose entries.
pub record ToldAlike (c : RowCallForC) (d : RowCall) : Type 0 where
  pub answer : c.answer ≡ d.step.answer
  pub state : c.state' ≡ Row.numbers_of d.step.state
  pub first : c.first' ≡ d.first'
  pub second : c.second' ≡ d.second'
  pub row : c.answer.number ≡ more_to_come → row_for_c c ≡ changes_of d
  pub loose : (c.answer.number ≡ more_to_come → ⊥) → loose_for_c c ≡ changes_of d

abbrev pub MacrosTell : Type 0
MacrosTell =
    (bytes : List ℕ) (p : Parameters) → p.encoding ≤ 2
    → (c : RowCallForC) → RowReadingForC bytes p c
    → (d : RowCall) → RowReading bytes (settings_of p) d
    → c.state ≡ Row.numbers_of d.state → c.first ≡ d.first → c.second ≡ d.second → ToldAlike c d

-- ---- Calls one after the other

-- "Lend the same two arrays and the same ten numbers of state at each call, and leave them as they were left": calls that gave a row, and one more
unfoldable pub RowsFollow : List ℕ → Parameters → List ℕ → List ℕ → List ℕ → List RowCallForC → RowCallForC → Type 0
RowsFollow bytes p state first second [] last = (last.state ≡ state) × (last.first ≡ first) × (last.second ≡ second) × RowReadingForC bytes p last
RowsFollow bytes p state first second (c ∷ cs) last =
    (c.state ≡ state) × (c.first ≡ first) × (c.second ≡ second) × RowReadingForC bytes p c × (c.answer.number ≡ more_to_come) × RowsFollow bytes p c.state' c.first' c.second' cs last

-- the page form of the same encoding: ccitt_decode_group4, which has no `end_of_line`, or ccitt_decode_group3_1d or ccitt_decode_group3_2d
abbrev pub PageReadingForC : List ℕ → Parameters → Call → Type 0
PageReadingForC bytes p c =
    Reading bytes (settings_for p.columns p.rows p.block (cond (eqb p.encoding 0) false p.line) p.aligned (mode_of p.encoding) p.strict p.exact p.plain) c

-- A1: "Called to the end on the same data, with room enough and arrays handed back as left, it gives the page form's rows, answer and bytes", from ten
-- zeros on, where the macros find them.
abbrev pub FormsAgreeForC : Type 0
FormsAgreeForC =
    (bytes : List ℕ) (p : Parameters) → p.encoding ≤ 2
    → (page : Call) → PageReadingForC bytes p page
    → (page.answer.number ≡ no_entry → ⊥)
    → (page.answer.number ≡ no_row_end → ⊥)
    → (first second : List ℕ) → FitIn (length first) (length second) (rows_of page) (loose_of page)
    → (given : List RowCallForC) (last : RowCallForC) → RowsFollow bytes p (same_each row_numbers 0) first second given last → (last.answer.number ≡ more_to_come → ⊥)
    → (map row_for_c given ≡ rows_of page) × (map mark_for_c given ≡ marks_of page) × (last.answer ≡ page.answer) × (loose_for_c last ≡ loose_of page)

-- ---- A little at a time

-- a call of ccitt_read_units: its n, the numbers and the three arrays that were lent, the answer with its units, and numbers and arrays after it
pub record UnitCallForC : Type 0 where
  pub n : ℕ
  pub state : List ℕ
  pub changes : List ℕ
  pub ends : List ℕ
  pub marks : List ℕ
  pub answer : UnitAnswer
  pub state' : List ℕ
  pub changes' : List ℕ
  pub ends' : List ℕ
  pub marks' : List ℕ

-- ccitt_read_units has neither `end_of_line` nor an encoding
abbrev pub group4_of : Parameters → DecodeSettings
group4_of p = settings_for p.columns p.rows p.block false p.aligned Group4 p.strict p.exact p.plain

abbrev pub UnitReadingForC : List ℕ → Parameters → UnitCallForC → Type 0
UnitReadingForC bytes p c =
    ReadsUnitsForC bytes (group4_of p) c.changes c.ends c.marks c.state c.n c.answer c.changes' c.ends' c.marks' c.state'

-- From the numbers of a state, whose position and sum have 32 bits, C is told what `read_units` says from that state. The state that is handed back has
-- such numbers too, so that no call meets numbers that are none.
pub record UnitsAlike (c : UnitCallForC) (d : UnitCall) : Type 0 where
  pub answer : c.answer.answer ≡ d.turn.answer
  pub units : c.answer.units ≡ d.turn.units
  pub state : c.state' ≡ Units.numbers_of d.turn.reading
  pub wordy : Units.Wordy d.turn.reading
  pub changes : c.changes' ≡ d.changes'
  pub ends : c.ends' ≡ d.ends'
  pub marks : c.marks' ≡ d.marks'

abbrev pub NumbersTell : Type 0
NumbersTell =
    (bytes : List ℕ) (p : Parameters) → p.columns ≤ most_pixels
    → (c : UnitCallForC) → UnitReadingForC bytes p c
    → (d : UnitCall) → UnitReading bytes (group4_of p) d
    → c.state ≡ Units.numbers_of d.reading → Units.Wordy d.reading
    → c.n ≡ d.n → c.changes ≡ d.changes → c.ends ≡ d.ends → c.marks ≡ d.marks → UnitsAlike c d

-- "Lend the page's three arrays and the same sixteen numbers of state at each call, and leave them as they were left": calls with n at least 1, and
-- then one more
unfoldable pub UnitsFollow : List ℕ → Parameters → List ℕ → List ℕ → List ℕ → List ℕ → List UnitCallForC → UnitCallForC → Type 0
UnitsFollow bytes p state xs es ms [] last =
    (last.state ≡ state) × (last.changes ≡ xs) × (last.ends ≡ es) × (last.marks ≡ ms) × UnitReadingForC bytes p last × (0 < last.n)
UnitsFollow bytes p state xs es ms (c ∷ cs) last =
    (c.state ≡ state) × (c.changes ≡ xs) × (c.ends ≡ es) × (c.marks ≡ ms) × UnitReadingForC bytes p c × (0 < c.n)
    × UnitsFollow bytes p c.state' c.changes' c.ends' c.marks' cs last

-- A9: "Any choice of N at each call, on the same data and with the store handed back as left, gives the page form's rows, answer and bytes", from
-- sixteen zeros on: once a call does not answer 15, its answer and every entry of the store are those of ccitt_decode_group4.
abbrev pub UnitsAgreeForC : Type 0
UnitsAgreeForC =
    (bytes : List ℕ) (p : Parameters) → p.columns ≤ most_pixels
    → (page : Call) → Reading bytes (group4_of p) page
    → (before : List UnitCallForC) (last : UnitCallForC) → UnitsFollow bytes p (same_each unit_numbers 0) page.changes page.ends page.marks before last
    → (last.answer.answer.number ≡ more_to_come → ⊥)
    → (last.answer.answer ≡ page.answer) × (last.changes' ≡ page.changes') × (last.ends' ≡ page.ends') × (last.marks' ≡ page.marks')
