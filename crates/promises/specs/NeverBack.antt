-- Damage never reaches back: which rows stand whatever becomes of the data behind them.
-- Two data are read with the same settings, and agree in their first p bits; behind those bits they may differ in anything, in their length too.
use Rattle.std.specs.Prelude.{◌≡◌, Bool, true, false, ◌⊎◌, List, [], ◌∷◌, ℕ, ◌≤◌, length, take}
use Rattle.std.proofs.Math.Option.{none}
use Rattle.rules.specs.Answers.{invalid_code, overflow, more_to_come, most_pixels}
use Rattle.rules.specs.Machine.{more, run}
use Rattle.rules.specs.Bits.{bits_of}
use Rattle.rules.specs.Eols.{skip_to_eol}
use Rattle.rules.specs.Rows.{group4, Settings}
use Rattle.rules.specs.Pages.{Kept, none_kept, page_step, row_of, strict_if_exact, most_bytes}
use Rattle.rules.specs.Standing.{AgreeTo, WasRead, SettledBy, KeepsEols, Sure, NoEols, last_or}
use Rattle.settings.specs.declared.DecodeSettings.{DecodeSettings}
use Rattle.settings.specs.Settings.{settings_of}
use Rattle.ccitt.specs.Decode.{Watches}
use Rattle.promises.specs.Rooms.{Call, places, rows_of, marks_of, Reading}
use Rattle.promises.specs.ByRow.{RowCall, RowReading, number_of, mark_of, Page, Sound}

-- how a page is read: strictly where exact is set (A12)
abbrev pub read_as : DecodeSettings → Settings
read_as settings = strict_if_exact (settings_of settings)

-- Group 4; or Group 3, strict or exact
abbrev pub SureFor : DecodeSettings → Type 0
SureFor settings = Sure (read_as settings).encoding (read_as settings)

-- ---- The row form

-- the call did not give EOLs up: its state shows it
abbrev pub EolsStay : RowCall → Type 0
EolsStay c = KeepsEols c.state.eols c.step.state.eols

-- none of these did
unfoldable pub AllStay : List RowCall → Type 0
AllStay [] = Unit {0}
AllStay (c ∷ cs) = EolsStay c × AllStay cs

-- Lenient Group 3: the last row is settled by the first p bits, and no call gave EOLs up. Rows before the last may have been recovered.
pub record ReadOn (p : ℕ) (bytes : List ℕ) (given : List RowCall) (last : RowCall) : Type 0 where
  pub settled : SettledBy p (bits_of bytes) (mark_of last) last.step.state.at
  pub stays : EolsStay last
  pub stay : AllStay given

-- The calls of a page, of which the last gave a row and handed back a state at bit p or before it, are calls of a page in the other data too: each with its row, its mark, its state and every entry
-- of its arrays. Any other call there that is handed the same answers the same (`ReadRowPinned`).
abbrev pub DamageNeverReachesBack : Type 0
DamageNeverReachesBack =
    (p : ℕ) (bytes bytes' : List ℕ) (settings : DecodeSettings) → AgreeTo p bytes bytes' → length bytes' ≤ most_bytes
    → (first second : List ℕ) (given : List RowCall) (last : RowCall) → Page bytes settings first second given last
    → number_of last ≡ more_to_come → (SureFor settings × (last.step.state.at ≤ p)) ⊎ ReadOn p bytes given last
    → Page bytes' settings first second given last

-- The same of one call, from any state that the other data do not refuse, a forged one too.
abbrev pub CallNeverReachesBack : Type 0
CallNeverReachesBack =
    (p : ℕ) (bytes bytes' : List ℕ) (settings : DecodeSettings) → AgreeTo p bytes bytes' → length bytes' ≤ most_bytes
    → (c : RowCall) → RowReading bytes settings c → Sound bytes' settings c
    → number_of c ≡ more_to_come → (SureFor settings × (c.step.state.at ≤ p)) ⊎ (SettledBy p (bits_of bytes) (mark_of c) c.step.state.at × EolsStay c)
    → RowReading bytes' settings c

-- ---- The page form

-- the page so far behind n rows, by the page's own steps, in the room that a call lends
abbrev pub Reaches : List ℕ → DecodeSettings → Call → ℕ → Kept → Type 0
Reaches bytes settings c n k = run (page_step (row_of (read_as settings).encoding (read_as settings) (bits_of bytes)) (length c.changes) (places c)) n none_kept ≡ more k

-- Lenient Group 3: the last row so far is settled by the first p bits, and EOLs are expected behind it if they were behind the first. The answer of `decode` does not show whether they are.
pub record ReadTo (p : ℕ) (bytes : List ℕ) (settings : DecodeSettings) (c : Call) (k : Kept) : Type 0 where
  pub settled : SettledBy p (bits_of bytes) (last_or 0 k.marks) k.state.at
  pub stays : (first : Kept) → Reaches bytes settings c 1 first → KeepsEols first.state.eols k.state.eols

-- two calls of `decode` with as much room
pub record SameRoom (c d : Call) : Type 0 where
  pub changes : length d.changes ≡ length c.changes
  pub places : places d ≡ places c

-- both have n rows, and these are the same, with their marks
pub record SameFirst (n : ℕ) (c d : Call) : Type 0 where
  pub many : n ≤ c.answer.rows
  pub many' : n ≤ d.answer.rows
  pub rows : take n (rows_of d) ≡ take n (rows_of c)
  pub marks : take n (marks_of d) ≡ take n (marks_of c)

-- The rows of `decode` behind which the reader stands at bit p or before it are the first rows of both.
abbrev pub PageNeverReachesBack : Type 0
PageNeverReachesBack =
    (p : ℕ) (bytes bytes' : List ℕ) (settings : DecodeSettings) → settings.columns ≤ most_pixels → AgreeTo p bytes bytes' → length bytes' ≤ most_bytes
    → (c d : Call) → Reading bytes settings c → Reading bytes' settings d → SameRoom c d
    → (n : ℕ) → n ≤ c.answer.rows → (k : Kept) → Reaches bytes settings c n k → (SureFor settings × (k.state.at ≤ p)) ⊎ ReadTo p bytes settings c k
    → SameFirst n c d

-- Where a page is answered with 1, 2 or 3, the rows kept are the first rows of any data that agree with these up to the place that is named: in Group 4, in Group 3 strict or exact, and in lenient Group 3
-- where no EOLs are expected.
abbrev pub RefusedRowsStand : Type 0
RefusedRowsStand =
    (bytes bytes' : List ℕ) (settings : DecodeSettings) → settings.columns ≤ most_pixels → SureFor settings ⊎ NoEols (settings_of settings) (bits_of bytes)
    → (c d : Call) → Reading bytes settings c → Reading bytes' settings d → SameRoom c d
    → invalid_code ≤ c.answer.number → c.answer.number ≤ overflow → AgreeTo c.answer.place bytes bytes' → length bytes' ≤ most_bytes
    → SameFirst c.answer.rows c d

-- ---- The page form that is watched

-- a call of `decode_watched`, and what it says of EOLs; else it is a call of `decode`
abbrev pub Watching : List ℕ → DecodeSettings → Call → Bool → Type 0
Watching bytes settings c gave = Watches bytes settings c.changes c.ends c.marks (record { answer = c.answer; gave_up = gave }) c.changes' c.ends' c.marks'

-- In Group 4, and in Group 3 strict or exact, it never says that they were given up.
abbrev pub SureGivesNoneUp : Type 0
SureGivesNoneUp = (bytes : List ℕ) (settings : DecodeSettings) (c : Call) (gave : Bool) → Watching bytes settings c gave → SureFor settings → gave ≡ false

-- Where it says that EOLs were not given up, the rows up to one that is settled by the first p bits are the first rows of both, in lenient
-- Group 3 too. Nothing is asked of what is said of the other data.
abbrev pub WatchedNeverReachesBack : Type 0
WatchedNeverReachesBack =
    (p : ℕ) (bytes bytes' : List ℕ) (settings : DecodeSettings) → settings.columns ≤ most_pixels → AgreeTo p bytes bytes' → length bytes' ≤ most_bytes
    → (c d : Call) → Watching bytes settings c false → Reading bytes' settings d → SameRoom c d
    → (n : ℕ) → n ≤ c.answer.rows → (k : Kept) → Reaches bytes settings c n k → SettledBy p (bits_of bytes) (last_or 0 k.marks) k.state.at
    → SameFirst n c d

-- Where it answers 1, 2 or 3, EOLs were not given up, and the last row kept was read, the rows kept are the first rows of any data that
-- agree with these up to the place that is named. All that is asked for stands in the answer and the marks.
abbrev pub WatchedRefusedRowsStand : Type 0
WatchedRefusedRowsStand =
    (bytes bytes' : List ℕ) (settings : DecodeSettings) → settings.columns ≤ most_pixels
    → (c d : Call) → Watching bytes settings c false → Reading bytes' settings d → SameRoom c d
    → invalid_code ≤ c.answer.number → c.answer.number ≤ overflow → WasRead (last_or 0 (marks_of c)) → AgreeTo c.answer.place bytes bytes' → length bytes' ≤ most_bytes
    → SameFirst c.answer.rows c d

-- Lenient Group 3 is answered with 1, 2 or 3 only where no EOLs are expected: none were from the start; or they were given up in a row that
-- is kept, and it says so; or no EOL is left behind the last of these rows. Elsewhere a line that fails is recovered.
abbrev pub OnlyWithoutEols : Type 0
OnlyWithoutEols =
    (bytes : List ℕ) (settings : DecodeSettings) → settings.columns ≤ most_pixels → (c : Call) (gave : Bool) → Watching bytes settings c gave
    → ((read_as settings).encoding ≡ group4 → ⊥) → (read_as settings).strict ≡ false
    → invalid_code ≤ c.answer.number → c.answer.number ≤ overflow
    → NoEols (settings_of settings) (bits_of bytes) ⊎ (gave ≡ true) ⊎ ((k : Kept) × Reaches bytes settings c c.answer.rows k × (skip_to_eol (bits_of bytes) k.state.at ≡ none))
