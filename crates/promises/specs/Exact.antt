-- A12, "No idle codes": what an exact reading reads, a strict one reads the same; 14; without the setting nothing changes; and in a 2D line every code moves on, so that no data can
-- hold the reader up with idle codes. That 14 is given exactly where 02 says, and what it leaves, is in Demand1.antt; where an idle code's 1 points is in Places.antt.
use Rattle.std.specs.Prelude.{◌≡◌, Bool, true, false, cond, List, ℕ, ◌+◌, ◌-◌, ◌*◌, ◌≤◌, ◌<◌, length, take}
use Rattle.rules.specs.Answers.{complete, invalid_code, too_few_rows, most_pixels}
use Rattle.rules.specs.Machine.{costs}
use Rattle.rules.specs.Bits.{bits_of}
use Rattle.rules.specs.Runs.{ok}
use Rattle.rules.specs.Modes.{Moded, read_mode}
use Rattle.rules.specs.Lines.{Rules, Line, moved_to, went, apply, code_2d}
use Rattle.rules.specs.Counts.{mode_codes, codes_but_makeups, MovesOn}
use Rattle.rules.specs.Rows.{Settings, rules_of}
use Rattle.rules.specs.Group4.{eols_before, over}
use Rattle.rules.specs.Pages.{most_bytes, Kept, none_kept, entries, page_step, row_of, rows_left, strict_if_exact, places_in}
use Rattle.rules.specs.Rising.{Rising}
use Rattle.answer.specs.declared.Answer.{Answer}
use Rattle.settings.specs.declared.DecodeSettings.{DecodeSettings}
use Rattle.settings.specs.declared.EncodingMode.TheVariants.{Group4}
use Rattle.settings.specs.Settings.{settings_of}
use Rattle.ccitt.specs.Decode.{Reads, Decodes}
use Rattle.promises.specs.Demand1.{Stays}
use Rattle.promises.specs.Rooms.{Call, rows_of, marks_of, Reading}

-- ---- The setting off: a page is what its rows come to, and a code does what it did

abbrev pub ExactOff : Type 0
ExactOff =
    (bytes : List ℕ) (settings : DecodeSettings) (changes ends marks : List ℕ) (r : Answer) (changes' ends' marks' : List ℕ) → settings.exact ≡ false
    → 0 < settings.columns → settings.columns < most_pixels → length bytes ≤ most_bytes
    → Decodes bytes settings changes ends marks r changes' ends' marks'
    → Reads bytes settings changes ends marks r changes' ends' marks'

abbrev pub ExactOffCodes : Type 0
ExactOffCodes =
    (R : Rules) → R.exact ≡ false → (reference : List ℕ) (bs : List Bool) (s : Line) (m : Moded) → read_mode bs s.at ≡ ok m
    → code_2d R reference bs s ≡ apply R reference bs s.at m.mode (moved_to m.at s)

-- ---- Exact beside strict

-- the same settings, but strict and no more
abbrev pub only_strict : DecodeSettings → DecodeSettings
only_strict s = record {
  columns = s.columns;
  rows = s.rows;
  end_of_block = s.end_of_block;
  end_of_line = s.end_of_line;
  rows_are_byte_aligned = s.rows_are_byte_aligned;
  encoding = s.encoding;
  strict = true;
  exact = false;
  plain = s.plain;
}

-- two calls on the same bytes with the same arrays: one is exact, the other strict
pub record Twice (bytes : List ℕ) (settings : DecodeSettings) (c d : Call) : Type 0 where
  pub set : settings.exact ≡ true
  pub exactly : Reading bytes settings c
  pub strictly : Reading bytes (only_strict settings) d
  pub same_changes : d.changes ≡ c.changes
  pub same_ends : d.ends ≡ c.ends
  pub same_marks : d.marks ≡ c.marks

pub record SameArrays (c d : Call) : Type 0 where
  pub changes : d.changes' ≡ c.changes'
  pub ends : d.ends' ≡ c.ends'
  pub marks : d.marks' ≡ c.marks'

-- Whatever exact answers but 1 and 14, strict answers: number, rows, counts, bytes, place, and every entry of the arrays.
abbrev pub ExactIsStrict : Type 0
ExactIsStrict =
    (bytes : List ℕ) (settings : DecodeSettings) (c d : Call) → Twice bytes settings c d
    → (c.answer.number ≡ invalid_code → ⊥)
    → (c.answer.number ≡ too_few_rows → ⊥)
    → (d.answer ≡ c.answer) × SameArrays c d

-- an answer with the number 14, and so without bytes
abbrev pub fourteen : Answer → Answer
fourteen a = record { number = too_few_rows; mark = a.mark; rows = a.rows; entries = a.entries; loose = a.loose; bytes = 0; place = 0 }

-- At 14 strict is done, with the same rows and too few of them.
abbrev pub ShortIsStrict : Type 0
ShortIsStrict =
    (bytes : List ℕ) (settings : DecodeSettings) (c d : Call) → Twice bytes settings c d
    → c.answer.number ≡ too_few_rows
    → (d.answer.number ≡ complete) × (d.answer.rows < settings.rows) × (c.answer ≡ fourteen d.answer) × SameArrays c d

-- And at 1 too the rows that exact hands over are the first that strict does, with their marks.
abbrev pub ExactIsFront : Type 0
ExactIsFront =
    (bytes : List ℕ) (settings : DecodeSettings) (c d : Call) → Twice bytes settings c d
    → (c.answer.rows ≤ d.answer.rows) × (rows_of c ≡ take c.answer.rows (rows_of d)) × (marks_of c ≡ take c.answer.rows (marks_of d))

-- More room never changes a 14.
abbrev pub ShortStays : Type 0
ShortStays = Stays (λ n. n ≡ too_few_rows)

-- ---- No idle codes

-- how an exact page reads its lines
abbrev pub lines_of : DecodeSettings → ℕ → Rules
lines_of settings room = rules_of (strict_if_exact (settings_of settings)) room

-- Every code of a 2D line takes the line further, but for the line's first code where it moves to 0.
abbrev pub ExactCodesMoveOn : Type 0
ExactCodesMoveOn =
    (settings : DecodeSettings) → settings.exact ≡ true
    → (bytes : List ℕ) (room : ℕ) (reference : List ℕ) → Rising settings.columns 0 reference
    → (s t : Line) → s.position < settings.columns → code_2d (lines_of settings room) reference (bits_of bytes) s ≡ went t
    → MovesOn (bits_of bytes) s t

-- So the 2D line that begins at a bit, one that fails too, has at most one mode code for each column, and one; and at most three codes besides make-ups for each column, and one.
abbrev pub FewCodesInALine : Type 0
FewCodesInALine =
    (settings : DecodeSettings) → settings.exact ≡ true
    → (bytes : List ℕ) (room : ℕ) (reference : List ℕ) → Rising settings.columns 0 reference
    → (at : ℕ)
    → (mode_codes (lines_of settings room) reference (bits_of bytes) at ≤ settings.columns + 1)
    × (codes_but_makeups (lines_of settings room) reference (bits_of bytes) at ≤ 3 * settings.columns + 1)

-- the codes besides make-ups of the line that a Group 4 page reads behind the rows that it has kept; none where the page is over
unfoldable pub codes_after : Settings → List Bool → ℕ → Kept → ℕ
codes_after S bs store k =
    cond (over S bs k.state (eols_before S bs k.state))
    0
    (codes_but_makeups (rules_of S (store - entries k.rows)) k.state.reference bs (eols_before S bs k.state).at)

-- and of all its lines, the one at which it stops too
abbrev pub page_codes : Settings → List Bool → ℕ → ℕ → ℕ
page_codes S bs store places = costs (codes_after S bs store) (page_step (row_of S.encoding S bs) store places) (rows_left bs) none_kept

-- So a Group 4 page has at most three codes besides make-ups for each pixel of its rows and of one row more, and one for each of these rows: however long the data is, the reader is not held up.
abbrev pub FewCodesInAPage : Type 0
FewCodesInAPage =
    (bytes : List ℕ) (settings : DecodeSettings) (changes ends marks : List ℕ) (r : Answer) (changes' ends' marks' : List ℕ) → settings.exact ≡ true → settings.encoding ≡ Group4
    → 0 < settings.columns → settings.columns < most_pixels → length bytes ≤ most_bytes
    → Decodes bytes settings changes ends marks r changes' ends' marks'
    → page_codes (strict_if_exact (settings_of settings)) (bits_of bytes) (length changes) (places_in ends marks) ≤ (3 * settings.columns + 1) * (r.rows + 1)
