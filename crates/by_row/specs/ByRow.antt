-- The row form's state and answer, those of the rules that they stand for, and its contract: what the rules' `read_row` says (02, A1).
use Rattle.std.specs.Prelude.{◌≡◌, ◌⊎◌, Bool, cond, ◌&&◌, List, ℕ, ◌+◌, ◌*◌, ◌≤◌, ◌<◌, eqb, leb, length, take}
use Rattle.rules.specs.Pages.{most_bytes, ascends}
use Rattle.rules.specs.Answers.{more_to_come}
use Rattle.rules.specs.InSteps.{Said, says, says_only}
use Rattle.rules.specs.ByRow as Rule
use Rattle.rules.specs.ByRow.{Arrays, unended, ended, gives, tested}
use Rattle.answer.specs.declared.Answer.{Answer}
use Rattle.settings.specs.declared.DecodeSettings.{DecodeSettings}
use Rattle.settings.specs.Settings.{settings_of}
use Rattle.by_row.specs.declared.Side.{Side}
use Rattle.by_row.specs.declared.Side.TheVariants.{First, Second}
use Rattle.by_row.specs.declared.End.{End}
use Rattle.by_row.specs.declared.End.TheVariants.{Unended, Done, InvalidCode, UnexpectedEof, Overflow, NoRoom, Short}
use Rattle.by_row.specs.declared.RowState.{RowState}
use Rattle.by_row.specs.declared.RowStep.{RowStep}

-- ---- The state

abbrev pub side_of : Side → Rule.Side
side_of First = Rule.first
side_of Second = Rule.second

abbrev pub other_side : Side → Side
other_side First = Second
other_side Second = First

-- the numbers with which a page ends, and no other can be repeated
abbrev pub Ending : ℕ → Type 0
Ending n = (n ≤ 4) ⊎ (n ≡ 14)

-- number, place, bytes and loose entries: each number has those that 01 allows it, and the others are 0
abbrev pub end_of : End → Rule.End
end_of Unended = unended
end_of (Done bytes) = ended 0 0 bytes 0
end_of (InvalidCode place loose) = ended 1 place 0 loose
end_of (UnexpectedEof place loose) = ended 2 place 0 loose
end_of (Overflow place loose) = ended 3 place 0 loose
end_of (NoRoom loose) = ended 4 0 0 loose
end_of Short = ended 14 0 0 0

abbrev pub row_state_of : RowState → Rule.RowState
row_state_of st = record { at = st.at; rows = st.rows; entries = st.entries; eols = st.eols; side = side_of st.side; held = st.held; end = end_of st.end }

-- ---- What a call says

abbrev pub answer_of : Said → Answer
answer_of s = record { number = s.number; mark = s.mark; rows = s.rows; entries = s.entries; loose = s.loose; bytes = s.bytes; place = s.place }

-- how many changes the call speaks of: the row's where it gives one, and else the loose entries
abbrev pub count_of : Rule.RowStep → ℕ
count_of d = cond (eqb d.said.number more_to_come) d.state.held d.said.loose

-- A call from a state whose reference lies on a side: what it says, in which array its changes lie and how many they are, the state that it hands back,
-- and every entry of the two arrays after it.
pub record Gives (side : Rule.Side) (d : Rule.RowStep) (r : RowStep) (ys zs : List ℕ) : Type 0 where
  pub answer : r.answer ≡ answer_of d.said
  pub array : side_of r.array ≡ Rule.other side
  pub count : r.count ≡ count_of d
  pub state : row_state_of r.state ≡ d.state
  pub first : ys ≡ d.arrays.first
  pub second : zs ≡ d.arrays.second

abbrev pub ReadsRow : List ℕ → DecodeSettings → RowState → List ℕ → List ℕ → RowStep → List ℕ → List ℕ → Type 0
ReadsRow bytes settings st xs ys r zs ws = Gives (side_of st.side) (Rule.read_row (settings_of settings) bytes (row_state_of st) (record { first = xs; second = ys })) r zs ws

-- ---- The parts of a call

abbrev pub told_for : Answer → ℕ → RowState → RowStep
told_for answer count st = record { answer = answer; array = other_side st.side; count = count; state = st }

abbrev pub said_for : ℕ → ℕ → ℕ → ℕ → RowState → RowStep
said_for number place bytes loose st = told_for (answer_of (says number place bytes st.rows st.entries loose)) loose st

abbrev pub refused_for : ℕ → RowState → RowStep
refused_for number st = told_for (answer_of (says_only number)) 0 st

abbrev pub none_for : RowState → RowStep
none_for st = said_for 0 0 0 0 (record { at = st.at; rows = 0; entries = 0; eols = st.eols; side = st.side; held = st.held; end = Done 0 })

-- the tests of 8, on the array that holds the reference
abbrev pub sound_for : ℕ → ℕ → RowState → List ℕ → Bool
sound_for size columns st array =
    leb st.at (8 * size)
    && (leb st.held (length array)
    && (leb st.held (8 * size + 1)
    && (leb st.rows (8 * size + 1) && (leb st.entries (8 * size + 1) && ascends columns (take st.held array)))))

-- a row of so many changes
abbrev pub given_for : RowState → ℕ → ℕ → ℕ → Bool → RowStep
given_for st count mark at eols = record {
  answer = answer_of (gives mark (st.rows + 1) (st.entries + count));
  array = other_side st.side;
  count = count;
  state = record { at = at; rows = st.rows + 1; entries = st.entries + count; eols = eols; side = other_side st.side; held = count; end = Unended };
}

-- counts that 64 bits hold with a row more, as the state may be forged
abbrev pub most_count : ℕ
most_count = 8 * most_bytes + 1

pub record Grows (st : RowState) (count : ℕ) : Type 0 where
  pub few_rows : st.rows ≤ most_count
  pub few_entries : st.entries ≤ most_count
  pub few_changes : count ≤ most_count

-- the page's end
pub record Ends (st : RowState) (number place bytes loose : ℕ) (r : RowStep) : Type 0 where
  pub answer : r.answer ≡ answer_of (says number place bytes st.rows st.entries loose)
  pub array : r.array ≡ other_side st.side
  pub count : r.count ≡ loose
  pub state : row_state_of r.state ≡ Rule.ended_with (row_state_of st) number place bytes loose

-- the two arrays, by the one that holds the reference
abbrev pub arrays_at : Rule.Side → List ℕ → List ℕ → Arrays
arrays_at Rule.first reference row = record { first = reference; second = row }
arrays_at Rule.second reference row = record { first = row; second = reference }

-- once 6 and 7 are passed
pub record NextFrom (bytes : List ℕ) (settings : DecodeSettings) : Type 0 where
  pub size : length bytes ≤ most_bytes
  pub narrow : settings.columns < 4294967295

-- what a call comes to, the row's array apart from the reference's
pub record Comes (side : Rule.Side) (reference : List ℕ) (d : Rule.RowStep) (r : RowStep) (ys : List ℕ) : Type 0 where
  pub answer : r.answer ≡ answer_of d.said
  pub array : side_of r.array ≡ Rule.other side
  pub count : r.count ≡ count_of d
  pub state : row_state_of r.state ≡ d.state
  pub arrays : arrays_at side reference ys ≡ d.arrays

abbrev pub Next : List ℕ → DecodeSettings → RowState → List ℕ → List ℕ → RowStep → List ℕ → Type 0
Next bytes settings st reference xs r ys =
    Comes (side_of st.side) reference (tested (settings_of settings) bytes (row_state_of st) (arrays_at (side_of st.side) reference xs)) r ys

abbrev pub Tested : List ℕ → DecodeSettings → RowState → List ℕ → List ℕ → RowStep → List ℕ → List ℕ → Type 0
Tested bytes settings st xs ys r zs ws = Gives (side_of st.side) (tested (settings_of settings) bytes (row_state_of st) (record { first = xs; second = ys })) r zs ws
