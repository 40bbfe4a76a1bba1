-- Demand 1, the answers 4 and 5 and the room they speak of: when they are given, what a smaller room gives of what a larger one would, and how much room is enough.
-- A statement is about whatever answers and arrays a function's contract permits, of one call or of two on the same data.
use Rattle.std.specs.Prelude.{◌≡◌, Bool, List, [], ◌∷◌, ℕ, ◌+◌, ◌-◌, ◌*◌, ◌≤◌, ◌<◌, min, length, take, drop, get_or}
use Rattle.rules.specs.Answers.{no_entry, no_row_end}
use Rattle.rules.specs.Pages as Page
use Rattle.rules.specs.Pages.{changes_after, places_in}
use Rattle.rules.specs.Write.{rows_in}
use Rattle.rules.specs.Within.{within}
use Rattle.answer.specs.Answer.{row_answer_of}
use Rattle.answer.specs.declared.Answer.{Answer}
use Rattle.settings.specs.declared.DecodeSettings.{DecodeSettings}
use Rattle.one_line.specs.OneLine.{ReadOne}
use Rattle.ccitt.specs.Decode.{Gives, Decodes}

-- ---- A call, and what it handed over

-- the arrays that were lent, the answer, and the arrays after it
pub record Call : Type 0 where
  pub changes : List ℕ
  pub ends : List ℕ
  pub marks : List ℕ
  pub answer : Answer
  pub changes' : List ℕ
  pub ends' : List ℕ
  pub marks' : List ℕ

-- its places for an end with its mark
abbrev pub places : Call → ℕ
places c = places_in c.ends c.marks

-- the rows, as they lie in the store by their ends
abbrev pub rows_of : Call → List (List ℕ)
rows_of c = rows_in 0 c.changes' (take c.answer.rows c.ends')

-- their marks
abbrev pub marks_of : Call → List ℕ
marks_of c = take c.answer.rows c.marks'

-- "the unfinished row's changes so far lie behind them as the loose entries"
abbrev pub loose_of : Call → List ℕ
loose_of c = take c.answer.loose (drop c.answer.entries c.changes')

-- the same as an answer of the rules
abbrev pub handed : Call → Page.Answer
handed c = record { number = c.answer.number; place = c.answer.place; bytes = c.answer.bytes; rows = rows_of c; marks = marks_of c; loose = loose_of c }

-- What a smaller room stored is the front of what a larger one did: the rows are the first of its rows; the loose entries are the front of the row that follows them there,
-- or of the loose entries where none follows; and so the entries, the ends and the marks that were stored are the first of its own.
pub record Front (small large : Call) : Type 0 where
  pub fewer_rows : small.answer.rows ≤ large.answer.rows
  pub fewer_entries : small.answer.entries + small.answer.loose ≤ large.answer.entries + large.answer.loose
  pub rows : rows_of small ≡ take small.answer.rows (rows_of large)
  pub loose : loose_of small ≡ take small.answer.loose (get_or (rows_of large) small.answer.rows (loose_of large))
  pub changes : take (small.answer.entries + small.answer.loose) small.changes' ≡ take (small.answer.entries + small.answer.loose) large.changes'
  pub ends : take small.answer.rows small.ends' ≡ take small.answer.rows large.ends'
  pub marks : take small.answer.rows small.marks' ≡ take small.answer.rows large.marks'

-- ---- The page form

-- a call of `decode` on these bytes with these settings
abbrev pub Reading : List ℕ → DecodeSettings → Call → Type 0
Reading bytes settings c = Decodes bytes settings c.changes c.ends c.marks c.answer c.changes' c.ends' c.marks'

-- 4 is given only where no entry is left,
abbrev pub FourFills : Type 0
FourFills =
    (bytes : List ℕ) (settings : DecodeSettings) (c : Call) → Reading bytes settings c
    → c.answer.number ≡ no_entry → c.answer.entries + c.answer.loose ≡ length c.changes

-- and 5 only where no place for an end with its mark is.
abbrev pub FiveFills : Type 0
FiveFills = (bytes : List ℕ) (settings : DecodeSettings) (c : Call) → Reading bytes settings c → c.answer.number ≡ no_row_end → c.answer.rows ≡ places c

-- two calls on the same, the second with arrays that are no shorter
pub record Roomier (bytes : List ℕ) (settings : DecodeSettings) (small large : Call) : Type 0 where
  pub first : Reading bytes settings small
  pub second : Reading bytes settings large
  pub changes : length small.changes ≤ length large.changes
  pub ends : length small.ends ≤ length large.ends
  pub marks : length small.marks ≤ length large.marks

-- After 4 a change was to be recorded: a longer array of changes takes more of them.
abbrev pub FourGoesOn : Type 0
FourGoesOn =
    (bytes : List ℕ) (settings : DecodeSettings) (small large : Call) → Roomier bytes settings small large → length small.changes < length large.changes
    → small.answer.number ≡ no_entry → length small.changes < large.answer.entries + large.answer.loose

-- After 5 a row was complete: more places take more rows.
abbrev pub FiveGoesOn : Type 0
FiveGoesOn =
    (bytes : List ℕ) (settings : DecodeSettings) (small large : Call) → Roomier bytes settings small large → places small < places large
    → small.answer.number ≡ no_row_end → places small < large.answer.rows

-- The smaller room's answer and arrays are, to the last entry, what `within` makes of what the larger one handed over: 4 at the first row whose changes do not all fit, with those
-- that fit loose; 5 at the first row for which no place is left, with that row loose; 4 where the loose entries do not all fit; and else the same answer.
abbrev pub SmallerRoom : Type 0
SmallerRoom =
    (bytes : List ℕ) (settings : DecodeSettings) (small large : Call) → Roomier bytes settings small large
    → Gives (within (length small.changes) (places small) (handed large)) small.changes small.ends small.marks small.answer small.changes' small.ends'
    small.marks'

abbrev pub SmallerRoomIsFront : Type 0
SmallerRoomIsFront = (bytes : List ℕ) (settings : DecodeSettings) (small large : Call) → Roomier bytes settings small large → Front small large

-- With 16 entries for each byte of the data 4 is never given, and with 8 places for each byte and one more 5 is never given.
abbrev pub RoomEnough : Type 0
RoomEnough =
    (bytes : List ℕ) (settings : DecodeSettings) (c : Call) → Reading bytes settings c
    → (16 * length bytes ≤ length c.changes → c.answer.number ≡ no_entry → ⊥) × (8 * length bytes + 1 ≤ places c → c.answer.number ≡ no_row_end → ⊥)

-- With an entry for each bit of the data and one more 4 is never given either (A1; for any data but none that is less room).
abbrev pub EntryForEachBit : Type 0
EntryForEachBit = (bytes : List ℕ) (settings : DecodeSettings) (c : Call) → Reading bytes settings c → 8 * length bytes + 1 ≤ length c.changes → c.answer.number ≡ no_entry → ⊥

-- ---- One line

-- the array that was lent, the answer, and the array after it
pub record LineCall : Type 0 where
  pub changes : List ℕ
  pub answer : Answer
  pub changes' : List ℕ

-- "A line read whole counts as one kept row": it ends behind its entries, and its mark, which a line has in its answer, lies beside the end
abbrev pub as_call : LineCall → Call
as_call c = record {
  changes = c.changes;
  ends = 0 ∷ [];
  marks = 0 ∷ [];
  answer =
      record { number = c.answer.number; mark = 0; rows = c.answer.rows; entries = c.answer.entries; loose = c.answer.loose; bytes = c.answer.bytes; place = c.answer.place };
  changes' = c.changes';
  ends' = c.answer.entries ∷ [];
  marks' = c.answer.mark ∷ [];
}

module _ (bytes : List ℕ) (at columns : ℕ) (strict : Bool) (reference : List ℕ) where
  -- a call of `read_line` on these
  abbrev pub LineReading : LineCall → Type 0
  LineReading c = ReadOne bytes at columns strict reference c.changes c.answer c.changes'

  -- two calls on the same, the second with an array that is no shorter
  pub record LineRoomier (small large : LineCall) : Type 0 where
    pub first : LineReading small
    pub second : LineReading large
    pub changes : length small.changes ≤ length large.changes

-- 4 is given only where no entry is left; 5 is never given,
abbrev pub LineFourFills : Type 0
LineFourFills =
    (bytes : List ℕ) (at columns : ℕ) (strict : Bool) (reference : List ℕ) (c : LineCall) → LineReading bytes at columns strict reference c
    → (c.answer.number ≡ no_entry → c.answer.entries + c.answer.loose ≡ length c.changes) × (c.answer.number ≡ no_row_end → ⊥)

-- and after 4 a longer array takes more changes.
abbrev pub LineFourGoesOn : Type 0
LineFourGoesOn =
    (bytes : List ℕ) (at columns : ℕ) (strict : Bool) (reference : List ℕ) (small large : LineCall) → LineRoomier bytes at columns strict reference small large
    → length small.changes < length large.changes → small.answer.number ≡ no_entry → length small.changes < large.answer.entries + large.answer.loose

-- The smaller array's answer, and every entry, are what `within` makes of what the larger one handed over: the line in one row, where it was read whole.
abbrev pub SmallerLine : Type 0
SmallerLine =
    (bytes : List ℕ) (at columns : ℕ) (strict : Bool) (reference : List ℕ) (small large : LineCall) → LineRoomier bytes at columns strict reference small large
    → (small.answer ≡ row_answer_of (within (length small.changes) 1 (handed (as_call large))))
    × (small.changes' ≡ changes_after (within (length small.changes) 1 (handed (as_call large))) small.changes)

abbrev pub SmallerLineIsFront : Type 0
SmallerLineIsFront =
    (bytes : List ℕ) (at columns : ℕ) (strict : Bool) (reference : List ℕ) (small large : LineCall) → LineRoomier bytes at columns strict reference small large
    → Front (as_call small) (as_call large)

-- With an entry for each column, or for each bit of the data from the line's first on, 4 is never given.
abbrev pub LineRoomEnough : Type 0
LineRoomEnough =
    (bytes : List ℕ) (at columns : ℕ) (strict : Bool) (reference : List ℕ) (c : LineCall) → LineReading bytes at columns strict reference c
    → min columns (8 * length bytes - at) ≤ length c.changes → c.answer.number ≡ no_entry → ⊥
