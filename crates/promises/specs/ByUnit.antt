-- A9, "A little at a time": any choice of N gives the page form's rows, marks, answer, place and bytes; each call takes the smaller of N and the units left; a page is done after U/N calls
-- rounded up; a call after the end repeats it; N of 0 answers 10; each refusal is given exactly when 01 says so, and leaves everything; the states that calls hand back are never refused.
-- A statement is about whatever a contract permits of one call, or of calls one after the other.
use Rattle.std.specs.Prelude.{◌≡◌, ◌⊎◌, ◌↔◌, List, [], ◌∷◌, map, ℕ, ◌+◌, ◌-◌, ◌*◌, ◌≤◌, ◌<◌, min, length}
use Rattle.rules.specs.Answers.{complete, bad_width, too_long, bad_rows, bad_number, more_to_come, most_pixels}
use Rattle.rules.specs.Bits.{bits_of}
use Rattle.rules.specs.Pages.{most_bytes, strict_if_exact, places_in}
use Rattle.rules.specs.Units.{page_units, total, same_each, calls_for}
use Rattle.rules.specs.ByUnit.{end_of, part, opened, saved_start}
use Rattle.rules.specs.Rising.{Rising}
use Rattle.settings.specs.declared.DecodeSettings.{DecodeSettings}
use Rattle.settings.specs.declared.EncodingMode.TheVariants.{Group4}
use Rattle.settings.specs.Settings.{settings_of}
use Rattle.by_unit.specs.declared.Saved.{Saved}
use Rattle.by_unit.specs.declared.Reading as Unit
use Rattle.by_unit.specs.declared.Reading.TheVariants.{Open}
use Rattle.by_unit.specs.declared.Turn.{Turn}
use Rattle.by_unit.specs.Reading.{Ending, reading_of, ReadsUnits}
use Rattle.promises.specs.Rooms.{Call, Reading}

-- ---- A call

-- its N, the state and the arrays that were handed to it, what it said, and the arrays after it
pub record UnitCall : Type 0 where
  pub n : ℕ
  pub reading : Unit.Reading
  pub changes : List ℕ
  pub ends : List ℕ
  pub marks : List ℕ
  pub turn : Turn
  pub changes' : List ℕ
  pub ends' : List ℕ
  pub marks' : List ℕ

-- a call of `read_units` on these bytes with these settings
abbrev pub UnitReading : List ℕ → DecodeSettings → UnitCall → Type 0
UnitReading bytes settings c = ReadsUnits bytes settings c.changes c.ends c.marks c.reading c.n c.turn c.changes' c.ends' c.marks'

abbrev pub number_of : UnitCall → ℕ
number_of c = c.turn.answer.number

-- ---- Calls one after the other

-- a call is handed this state and these arrays
abbrev pub Handed : Unit.Reading → List ℕ → List ℕ → List ℕ → UnitCall → Type 0
Handed r xs es ms c = (c.reading ≡ r) × (c.changes ≡ xs) × (c.ends ≡ es) × (c.marks ≡ ms)

-- the numbers that calls were given
abbrev pub numbers_of : List UnitCall → List ℕ
numbers_of cs = map (λ (c : UnitCall). c.n) cs

module _ (bytes : List ℕ) (settings : DecodeSettings) where
  -- "the store handed back as left", and the state too: calls with "N at least 1", and then one more
  unfoldable pub Follows : Unit.Reading → List ℕ → List ℕ → List ℕ → List UnitCall → UnitCall → Type 0
  Follows r xs es ms [] last = Handed r xs es ms last × UnitReading bytes settings last × (0 < last.n)
  Follows r xs es ms (c ∷ cs) last = Handed r xs es ms c × UnitReading bytes settings c × (0 < c.n) × Follows c.turn.reading c.changes' c.ends' c.marks' cs last

  -- the calls of a page, from the state that `start` gives
  pub record Page (changes ends marks : List ℕ) (before : List UnitCall) (last : UnitCall) : Type 0 where
    pub start : Unit.Reading
    pub is_start : reading_of start ≡ opened saved_start
    pub follows : Follows start changes ends marks before last

-- ---- Page and unit form agree

-- "Any choice of N at each call, on the same data and with the store handed back as left, gives the page form's rows, answer and bytes", with marks and place: once a call does not answer 15,
-- its answer and every entry of the store are those of the page form.
abbrev pub UnitsAgree : Type 0
UnitsAgree =
    (bytes : List ℕ) (settings : DecodeSettings) → settings.columns ≤ most_pixels → settings.encoding ≡ Group4
    → (page : Call) → Reading bytes settings page
    → (before : List UnitCall) (last : UnitCall) → Page bytes settings page.changes page.ends page.marks before last
    → (number_of last ≡ more_to_come → ⊥)
    → (last.turn.answer ≡ page.answer) × (last.changes' ≡ page.changes') × (last.ends' ≡ page.ends') × (last.marks' ≡ page.marks')

-- "A form made for one encoding doesn't read that setting", and no answer depends on the engine.
pub record SameButEncoding (s t : DecodeSettings) : Type 0 where
  pub columns : s.columns ≡ t.columns
  pub rows : s.rows ≡ t.rows
  pub end_of_block : s.end_of_block ≡ t.end_of_block
  pub end_of_line : s.end_of_line ≡ t.end_of_line
  pub aligned : s.rows_are_byte_aligned ≡ t.rows_are_byte_aligned
  pub strict : s.strict ≡ t.strict
  pub exact : s.exact ≡ t.exact

abbrev pub EncodingUnread : Type 0
EncodingUnread = (bytes : List ℕ) (s t : DecodeSettings) → SameButEncoding s t → (c : UnitCall) → UnitReading bytes s c → UnitReading bytes t c

-- ---- The units

-- a page that is read
pub record Readable (bytes : List ℕ) (settings : DecodeSettings) : Type 0 where
  pub wide : 0 < settings.columns
  pub narrow : settings.columns < most_pixels
  pub few : length bytes ≤ most_bytes
  pub encoding : settings.encoding ≡ Group4

-- "the page's units are counted by the definition"
abbrev pub units_of : List ℕ → DecodeSettings → List ℕ → List ℕ → List ℕ → ℕ
units_of bytes settings changes ends marks = page_units (strict_if_exact (settings_of settings)) (bits_of bytes) (length changes) (places_in ends marks)

-- "Each call takes exactly the smaller of N and the units left, and reports that number"; so what was taken before it is the smaller of the numbers' sum and the page's units.
abbrev pub UnitsTaken : Type 0
UnitsTaken =
    (bytes : List ℕ) (settings : DecodeSettings) → Readable bytes settings
    → (changes ends marks : List ℕ) (before : List UnitCall) (last : UnitCall) → Page bytes settings changes ends marks before last
    → last.turn.units ≡ min last.n (units_of bytes settings changes ends marks - total (numbers_of before))

-- A call answers 15 exactly where units are left behind it: "Closing a row or the page costs none and happens in the call that took the last unit."
abbrev pub MoreToCome : Type 0
MoreToCome =
    (bytes : List ℕ) (settings : DecodeSettings) → Readable bytes settings
    → (changes ends marks : List ℕ) (before : List UnitCall) (last : UnitCall) → Page bytes settings changes ends marks before last
    → (number_of last ≡ more_to_come) ↔ (total (numbers_of before) + last.n < units_of bytes settings changes ends marks)

-- "A page of U units is done after U/N calls rounded up, or one call if U is 0": with one N for all calls, the last one is the first that does not answer 15 exactly where it is that one.
abbrev pub CallsNeeded : Type 0
CallsNeeded =
    (bytes : List ℕ) (settings : DecodeSettings) → Readable bytes settings
    → (n : ℕ) → 0 < n
    → (changes ends marks : List ℕ) (before : List UnitCall) (last : UnitCall) → Page bytes settings changes ends marks before last
    → numbers_of before ≡ same_each (length before) n → last.n ≡ n
    → (number_of last ≡ more_to_come) ↔ (length before + 1 < calls_for (units_of bytes settings changes ends marks) n)

-- ---- After the end, and N of 0

-- a call that leaves everything as it was handed
pub record Left (c : UnitCall) : Type 0 where
  pub units : c.turn.units ≡ 0
  pub reading : c.turn.reading ≡ c.reading
  pub changes : c.changes' ≡ c.changes
  pub ends : c.ends' ≡ c.ends
  pub marks : c.marks' ≡ c.marks

-- "a call repeats that answer .. and writes nothing", whatever settings, data and arrays it is handed with the state, and takes no unit
abbrev pub UnitFormRepeats : Type 0
UnitFormRepeats =
    (bytes : List ℕ) (settings : DecodeSettings) (c : UnitCall) → UnitReading bytes settings c → 0 < c.n → Ending (number_of c)
    → (bytes' : List ℕ) (settings' : DecodeSettings) (d : UnitCall) → d.reading ≡ c.turn.reading → 0 < d.n → UnitReading bytes' settings' d
    → (d.turn.answer ≡ c.turn.answer) × Left d

-- "N of 0 answers 10 before any other test, after the page's end too, and changes nothing"; and no other N does.
abbrev pub TenMeans : Type 0
TenMeans =
    (bytes : List ℕ) (settings : DecodeSettings) (c : UnitCall) → UnitReading bytes settings c
    → ((number_of c ≡ bad_number) ↔ (c.n ≡ 0)) × (c.n ≡ 0 → Left c)

-- ---- Refusals

-- 8 is not given: the bits lie in the data, the position within the width, the counts within their arrays and within 8 × bytes + 1, and the reference and the unfinished row ascend
-- strictly below the width and the position
pub record Sound (bytes : List ℕ) (settings : DecodeSettings) (c : UnitCall) (s : Saved) : Type 0 where
  pub at : s.at ≤ 8 * length bytes
  pub run_at : s.run_at ≤ 8 * length bytes
  pub mode_is_at : s.mode_at ≤ 8 * length bytes
  pub position : s.position ≤ settings.columns
  pub few_eols : s.eols ≤ 8 * length bytes + 1
  pub few_rows : s.rows ≤ 8 * length bytes + 1
  pub few_entries : end_of c.ends s.rows ≤ 8 * length bytes + 1
  pub few_loose : s.loose ≤ 8 * length bytes + 1
  pub placed : s.rows ≤ places_in c.ends c.marks
  pub ordered : end_of c.ends (s.rows - 1) ≤ end_of c.ends s.rows
  pub held : end_of c.ends s.rows + s.loose ≤ length c.changes
  pub reference : Rising settings.columns 0 (part (end_of c.ends (s.rows - 1)) (end_of c.ends s.rows) c.changes)
  pub unfinished : Rising s.position 0 (part (end_of c.ends s.rows) (end_of c.ends s.rows + s.loose) c.changes)

-- Before the page's end each refusal is given exactly when 01 says so; any other answer is of the list.
pub record UnitListed (bytes : List ℕ) (settings : DecodeSettings) (c : UnitCall) (s : Saved) : Type 0 where
  pub listed : Ending (number_of c) ⊎ ((number_of c ≡ bad_width) ⊎ ((number_of c ≡ too_long) ⊎ ((number_of c ≡ bad_rows) ⊎ (number_of c ≡ more_to_come))))
  pub six : (number_of c ≡ bad_width) ↔ (settings.columns ≡ most_pixels)
  pub seven : (number_of c ≡ too_long) ↔ ((settings.columns ≡ most_pixels → ⊥) × (most_bytes < length bytes))
  pub eight : (number_of c ≡ bad_rows) ↔ ((settings.columns ≡ most_pixels → ⊥) × (length bytes ≤ most_bytes) × (Sound bytes settings c s → ⊥))
  pub without_columns : settings.columns ≡ 0 → length bytes ≤ most_bytes → Sound bytes settings c s → (number_of c ≡ complete) × (c.turn.answer.rows ≡ 0) × (c.turn.answer.bytes ≡ 0)

-- A refusal does not end the page: it leaves everything as found, with zero counts, and takes no unit.
abbrev pub UnitRefusals : Type 0
UnitRefusals =
    (bytes : List ℕ) (settings : DecodeSettings) (c : UnitCall) → UnitReading bytes settings c → 0 < c.n → (s : Saved) → c.reading ≡ Open s
    → UnitListed bytes settings c s
    × (bad_width ≤ number_of c → number_of c ≤ bad_rows → Left c × (c.turn.answer.rows ≡ 0) × (c.turn.answer.entries ≡ 0) × (c.turn.answer.loose ≡ 0) × (c.turn.answer.bytes ≡ 0))

-- "the state that is handed back" is never refused with 8, whatever the numbers of the calls before it.
abbrev pub OwnUnitStates : Type 0
OwnUnitStates =
    (bytes : List ℕ) (settings : DecodeSettings) → settings.columns ≤ most_pixels → (changes ends marks : List ℕ) (before : List UnitCall) (last : UnitCall) → Page bytes settings changes ends marks before last → number_of last ≡ bad_rows → ⊥

-- ---- Pinned

-- any two answers, with the arrays after them, are equal
abbrev pub ReadUnitsPinned : Type 0
ReadUnitsPinned =
    (bytes : List ℕ) (settings : DecodeSettings) (changes ends marks : List ℕ) (reading : Unit.Reading) (n : ℕ) (r s : Turn) (xs ys es fs ms ns : List ℕ)
    → ReadsUnits bytes settings changes ends marks reading n r xs es ms
    → ReadsUnits bytes settings changes ends marks reading n s ys fs ns
    → (r ≡ s) × (xs ≡ ys) × (es ≡ fs) × (ms ≡ ns)

abbrev pub StartPinned : Type 0
StartPinned = (r s : Unit.Reading) → reading_of r ≡ opened saved_start → reading_of s ≡ opened saved_start → r ≡ s
