-- Proper pages, which say their rows twice (rules: specs/Proper.antt): what `check` says of a page, in the words of the writers.
use Rattle.std.specs.Prelude.{◌≡◌, ◌⊎◌, ◌↔◌, Bool, true, List, ℕ, ◌≤◌, ◌<◌, length, take, get_or}
use Rattle.rules.specs.Answers.{complete, most_pixels}
use Rattle.rules.specs.Bits.{bits_of}
use Rattle.rules.specs.Pages.{most_bytes, entries}
use Rattle.rules.specs.Write.{rows_in, write_page}
use Rattle.rules.specs.WriteGroup3.{write_1d, write_2d}
use Rattle.rules.specs.Proper.{Writer, writes_rows, IsProper, writer_in, page_for}
use Rattle.answer.specs.declared.Answer.{Answer}
use Rattle.settings.specs.declared.DecodeSettings.{DecodeSettings}
use Rattle.settings.specs.Settings.{encoding_of, settings_of}
use Rattle.writer.specs.Outcome.{Answers}
use Rattle.proper.specs.declared.Checked.{Checked}
use Rattle.proper.specs.Checked.{Checks}
use Rattle.promises.specs.Demand3.{Plainly}
use Rattle.promises.specs.OneAnswer.{OneWithThree}
use Rattle.promises.specs.Rooms.{Call, rows_of, handed}
use Rattle.promises.specs.WriteGroup3.{For1D, For2D}

-- a call of `check`: the page as it was read, and what is said of it
pub record Checking (bytes : List ℕ) (settings : DecodeSettings) (c : Call) (d : Checked) : Type 0 where
  pub checks : Checks bytes settings c.changes c.ends c.marks d c.changes' c.ends' c.marks'
  pub answer : c.answer ≡ d.answer

-- the bytes that the page took
abbrev pub took_in : List ℕ → Call → List ℕ
took_in bytes c = take c.answer.bytes bytes

-- ---- Pinned: the answer, every flag and every entry of the arrays

abbrev pub CheckPinned : Type 0
CheckPinned = (bytes : List ℕ) (settings : DecodeSettings) (changes ends marks : List ℕ) → OneWithThree (Checks bytes settings changes ends marks)

-- ---- What is said

-- A page is proper exactly where the bytes that it took are, to the last bit, what a writer of its encoding writes for its rows.
abbrev pub ProperMeans : Type 0
ProperMeans =
    (bytes : List ℕ) (settings : DecodeSettings) (c : Call) (d : Checked) → 0 < settings.columns → Checking bytes settings c d
    → (d.proper ≡ true) ↔ IsProper (settings_of settings) bytes (handed c)

-- Of a page that a writer might have written, up to the place its bits are what the writer that is found writes for its rows; and there
-- they are not, unless one of the two ends there.
abbrev pub PartsMeans : Type 0
PartsMeans =
    (bytes : List ℕ) (settings : DecodeSettings) (c : Call) (d : Checked) → Checking bytes settings c d
    → c.answer.number ≡ complete → writes_rows (encoding_of settings.encoding) (length (rows_of c)) ≡ true
    → (page : List Bool) → page ≡ page_for (encoding_of settings.encoding) settings.columns (rows_of c) (took_in bytes c)
    → (take d.parts (bits_of (took_in bytes c)) ≡ take d.parts page)
    × (d.parts < length page → d.parts < length (bits_of (took_in bytes c)) → get_or page d.parts true ≡ get_or (bits_of (took_in bytes c)) d.parts true → ⊥)

-- ---- Once

-- the writer that is found in the bytes that a page took: its layout, with its fill or its K
abbrev pub writer_of : List ℕ → DecodeSettings → Call → Writer
writer_of bytes settings c = writer_in (encoding_of settings.encoding) settings.columns (bits_of (took_in bytes c)) (rows_of c)

-- two pages that are proper, read with the same settings
pub record BothProper (bytes bytes' : List ℕ) (settings : DecodeSettings) (c c' : Call) (d d' : Checked) : Type 0 where
  pub first : Checking bytes settings c d
  pub second : Checking bytes' settings c' d'
  pub wide : 0 < settings.columns
  pub below : (i : ℕ) → get_or bytes i 0 < 256
  pub below' : (i : ℕ) → get_or bytes' i 0 < 256
  pub proper : d.proper ≡ true
  pub proper' : d'.proper ≡ true

-- Two proper pages with the same rows and the same layout are the same bytes.
abbrev pub ProperOnce : Type 0
ProperOnce =
    (bytes bytes' : List ℕ) (settings : DecodeSettings) (c c' : Call) (d d' : Checked) → BothProper bytes bytes' settings c c' d d'
    → rows_of c ≡ rows_of c' → writer_of bytes settings c ≡ writer_of bytes' settings c' → took_in bytes c ≡ took_in bytes' c'

-- So damage that changes a page's bytes and leaves it proper has made of it, bit for bit, another page's writing.
abbrev pub ProperDamage : Type 0
ProperDamage =
    (bytes bytes' : List ℕ) (settings : DecodeSettings) (c c' : Call) (d d' : Checked) → BothProper bytes bytes' settings c c' d d'
    → (took_in bytes c ≡ took_in bytes' c' → ⊥) → rows_of c ≡ rows_of c' → writer_of bytes settings c ≡ writer_of bytes' settings c' → ⊥

-- ---- What is written is proper

-- a call of `check` with room for so many rows
pub record Roomy (changes ends : List ℕ) (c : Call) : Type 0 where
  pub store : entries (rows_in 0 changes ends) ≤ length c.changes
  pub places : length ends ≤ length c.ends
  pub marks : length ends ≤ length c.marks

-- by `write_page`, whatever bytes follow the page
abbrev pub WrittenPageIsProper : Type 0
WrittenPageIsProper =
    (columns : ℕ) (changes ends out : List ℕ) (w : Answer) (out' : List ℕ) → columns ≤ most_pixels
    → Answers (write_page columns changes ends out) out w out' → w.number ≡ complete
    → (bytes : List ℕ) → length bytes ≤ most_bytes → take w.bytes bytes ≡ take w.bytes out'
    → (settings : DecodeSettings) → Plainly columns settings → (settings.rows ≡ 0) ⊎ (settings.rows ≡ length ends)
    → (c : Call) (d : Checked) → Roomy changes ends c → Checking bytes settings c d → d.proper ≡ true

-- by `write_group3_1d`, and by `write_group3_2d`
abbrev pub Written1DIsProper : Type 0
Written1DIsProper =
    (columns : ℕ) (changes ends out : List ℕ) (eols : Bool) (fill : ℕ) (w : Answer) (out' : List ℕ) → columns ≤ most_pixels
    → Answers (write_1d eols fill columns changes ends out) out w out' → w.number ≡ complete
    → (settings : DecodeSettings) → For1D columns eols (length ends) settings
    → (c : Call) (d : Checked) → Roomy changes ends c → Checking (take w.bytes out') settings c d → d.proper ≡ true

abbrev pub Written2DIsProper : Type 0
Written2DIsProper =
    (columns : ℕ) (changes ends out : List ℕ) (k : ℕ) (w : Answer) (out' : List ℕ) → columns ≤ most_pixels
    → Answers (write_2d k columns changes ends out) out w out' → w.number ≡ complete
    → (settings : DecodeSettings) → For2D columns (length ends) settings
    → (c : Call) (d : Checked) → Roomy changes ends c → Checking (take w.bytes out') settings c d → d.proper ≡ true
