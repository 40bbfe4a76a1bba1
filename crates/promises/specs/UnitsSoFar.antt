-- What a page read a little at a time has given so far (02, A9; 01: "15, more to come, with bytes 0 and its other counts as they stand"): after 15 the
-- rows that are stored are the page's first, and the loose entries the front of the row that comes next. A statement is about whatever a contract
-- permits of calls one after the other.
use Rattle.std.specs.Prelude.{◌≡◌, List, ℕ, ◌+◌, ◌≤◌, drop}
use Rattle.rules.specs.Answers.{more_to_come, most_pixels}
use Rattle.settings.specs.declared.DecodeSettings.{DecodeSettings}
use Rattle.settings.specs.declared.EncodingMode.TheVariants.{Group4}
use Rattle.promises.specs.Rooms.{Call, Reading, Front}
use Rattle.promises.specs.ByUnit.{UnitCall, number_of, Page}

-- the store as it stands after a call, against the arrays as they were before the page's first
abbrev pub standing : Call → UnitCall → Call
standing page c = record {
  changes = page.changes;
  ends = page.ends;
  marks = page.marks;
  answer = c.turn.answer;
  changes' = c.changes';
  ends' = c.ends';
  marks' = c.marks';
}

-- Rows, marks and ends are the first of what the page form stores, and the loose entries the front of its next row, or of its loose entries where none
-- follows; every later entry is as it was.
pub record SoFar (page : Call) (c : UnitCall) : Type 0 where
  pub front : Front (standing page c) page
  pub later_changes : drop (c.turn.answer.entries + c.turn.answer.loose) c.changes' ≡ drop (c.turn.answer.entries + c.turn.answer.loose) page.changes
  pub later_ends : drop c.turn.answer.rows c.ends' ≡ drop c.turn.answer.rows page.ends
  pub later_marks : drop c.turn.answer.rows c.marks' ≡ drop c.turn.answer.rows page.marks

-- "Any choice of N at each call, on the same data and with the store handed back as left", up to a call that answers 15
abbrev pub UnitsSoFar : Type 0
UnitsSoFar =
    (bytes : List ℕ) (settings : DecodeSettings) → settings.columns ≤ most_pixels → settings.encoding ≡ Group4
    → (page : Call) → Reading bytes settings page
    → (before : List UnitCall) (last : UnitCall) → Page bytes settings page.changes page.ends page.marks before last
    → number_of last ≡ more_to_come → SoFar page last
