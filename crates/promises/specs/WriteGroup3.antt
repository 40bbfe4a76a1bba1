-- A3 and A10: what the Group 3 writers answer, 0 or a refusal, each exactly when 02 says so, in 02's order; and what they wrote reads back: its rows and its length.
use Rattle.std.specs.Prelude.{◌≡◌, ◌⊎◌, ◌↔◌, Bool, true, false, ◌&&◌, List, [], ◌∷◌, ◌++◌, ℕ, ◌+◌, ◌*◌, ◌≤◌, ◌<◌, length, get_or, take, replicate}
use Rattle.rules.specs.Answers.{complete, bad_width, too_long, bad_rows, no_fit, bad_number, most_pixels}
use Rattle.rules.specs.Lines.{one}
use Rattle.rules.specs.Pages.{most_bytes, entries}
use Rattle.rules.specs.Write.{line_bits, eol_bits, rows_in, ends_rise, all_ascend}
use Rattle.rules.specs.WriteGroup3.{mixed, times, layout_1d, page3_bits, write_1d, write_2d}
use Rattle.answer.specs.declared.Answer.{Answer}
use Rattle.settings.specs.declared.DecodeSettings.{DecodeSettings}
use Rattle.settings.specs.declared.EncodingMode.TheVariants.{Group3_1D, Group3_2D}
use Rattle.writer.specs.Outcome.{Answers}
use Rattle.ccitt.specs.Decode.{Decodes}

-- ---- The answers

-- a call of a Group 3 writer: whether the caller's number is allowed, the rows, and how many bits their page has
module _ (Allowed : Type 0) (columns : ℕ) (changes ends out : List ℕ) (size : ℕ) (r : Answer) (out' : List ℕ) where
  abbrev pub NoLine : Type 0
  NoLine = (columns ≡ 0) ⊎ (columns ≡ most_pixels)

  abbrev pub TooLong : Type 0
  TooLong = most_bytes < length out

  -- "A page of no rows gets 8", and so do row ends that fall or pass the array, and a row that does not ascend
  abbrev pub BadRows : Type 0
  BadRows = (length ends ≡ 0) ⊎ ((ends_rise (length changes) 0 ends && all_ascend columns (rows_in 0 changes ends)) ≡ false)

  pub record Write3Listed : Type 0 where
    pub listed : (r.number ≡ complete) ⊎ ((bad_width ≤ r.number) × (r.number ≤ bad_number))
    pub six : (r.number ≡ bad_width) ↔ NoLine
    pub seven : (r.number ≡ too_long) ↔ ((NoLine → ⊥) × TooLong)
    pub ten : (r.number ≡ bad_number) ↔ ((NoLine → ⊥) × (TooLong → ⊥) × (Allowed → ⊥))
    pub eight : (r.number ≡ bad_rows) ↔ ((NoLine → ⊥) × (TooLong → ⊥) × Allowed × BadRows)
    pub nine : (r.number ≡ no_fit) ↔ ((NoLine → ⊥) × (TooLong → ⊥) × Allowed × (BadRows → ⊥) × (8 * length out < size))
    pub refused : (r.number ≡ complete → ⊥) → (out' ≡ out) × (r.bytes ≡ 0)
    pub no_rows : (r.rows ≡ 0) × (r.entries ≡ 0) × (r.loose ≡ 0)

-- A3: fill "0 to 64; more answers 10, tested after 7", with EOLs and without
abbrev pub Write1DAnswers : Type 0
Write1DAnswers =
    (columns : ℕ) (changes ends out : List ℕ) (eols : Bool) (fill : ℕ) (r : Answer) (out' : List ℕ)
    → Answers (write_1d eols fill columns changes ends out) out r out'
    → Write3Listed (fill ≤ 64) columns changes ends out (length (page3_bits columns (layout_1d eols fill) (rows_in 0 changes ends))) r out'

-- A10: "a caller's K from 1 to 65,535 .. Any other K answers 10"
abbrev pub Write2DAnswers : Type 0
Write2DAnswers =
    (columns : ℕ) (changes ends out : List ℕ) (k : ℕ) (r : Answer) (out' : List ℕ)
    → Answers (write_2d k columns changes ends out) out r out'
    → Write3Listed ((1 ≤ k) × (k ≤ 65535)) columns changes ends out (length (page3_bits columns (mixed k) (rows_in 0 changes ends))) r out'

-- ---- Reading back

-- A3: "`end_of_block` and `end_of_line` on exactly where the page has EOLs, `rows` its true number (or 0 with EOLs), unaligned"
pub record For1D (columns : ℕ) (eols : Bool) (rows : ℕ) (settings : DecodeSettings) : Type 0 where
  pub same_columns : settings.columns ≡ columns
  pub group_3 : settings.encoding ≡ Group3_1D
  pub blocked : settings.end_of_block ≡ eols
  pub lined : settings.end_of_line ≡ eols
  pub unaligned : settings.rows_are_byte_aligned ≡ false
  pub counted : (settings.rows ≡ rows) ⊎ ((settings.rows ≡ 0) × (eols ≡ true))

-- A10: "`end_of_block` set, `rows` 0 or its true number, unaligned"; nothing is said of end_of_line, so it may be either
pub record For2D (columns rows : ℕ) (settings : DecodeSettings) : Type 0 where
  pub same_columns : settings.columns ≡ columns
  pub group_3 : settings.encoding ≡ Group3_2D
  pub blocked : settings.end_of_block ≡ true
  pub unaligned : settings.rows_are_byte_aligned ≡ false
  pub counted : (settings.rows ≡ 0) ⊎ (settings.rows ≡ rows)

-- "room enough .. the page gives back its rows and its length"; each row is marked clean (A5). The settings may be strict, lenient or exact.
abbrev pub GivesBack : List ℕ → List ℕ → Answer → DecodeSettings → List ℕ → Type 0
GivesBack changes ends w settings bytes =
    (store places marks : List ℕ) (r : Answer) (store' places' marks' : List ℕ) → entries (rows_in 0 changes ends) ≤ length store → length ends ≤ length places → length ends ≤ length marks
    → Decodes bytes settings store places marks r store' places' marks'
    → (r.number ≡ complete) × (r.bytes ≡ w.bytes) × (rows_in 0 store' (take r.rows places') ≡ rows_in 0 changes ends) × ((n : ℕ) → n < r.rows → get_or marks' n 0 ≡ 0)

-- what `write_group3_1d` wrote, `decode` reads, "nothing following"
abbrev pub Written1DReadsBack : Type 0
Written1DReadsBack =
    (columns : ℕ) (changes ends out : List ℕ) (eols : Bool) (fill : ℕ) (w : Answer) (out' : List ℕ) → columns ≤ most_pixels
    → Answers (write_1d eols fill columns changes ends out) out w out' → w.number ≡ complete
    → (settings : DecodeSettings) → For1D columns eols (length ends) settings
    → GivesBack changes ends w settings (take w.bytes out')

-- beyond 02: and so it does with any number of zero bytes behind it
abbrev pub Written1DBeforeZeros : Type 0
Written1DBeforeZeros =
    (columns : ℕ) (changes ends out : List ℕ) (eols : Bool) (fill : ℕ) (w : Answer) (out' : List ℕ) → columns ≤ most_pixels
    → Answers (write_1d eols fill columns changes ends out) out w out' → w.number ≡ complete
    → (settings : DecodeSettings) → For1D columns eols (length ends) settings
    → (zeros : ℕ) → w.bytes + zeros ≤ most_bytes
    → GivesBack changes ends w settings (take w.bytes out' ++ replicate zeros 0)

-- what `write_group3_2d` wrote, `decode` reads, "nothing following"
abbrev pub Written2DReadsBack : Type 0
Written2DReadsBack =
    (columns : ℕ) (changes ends out : List ℕ) (k : ℕ) (w : Answer) (out' : List ℕ) → columns ≤ most_pixels
    → Answers (write_2d k columns changes ends out) out w out' → w.number ≡ complete
    → (settings : DecodeSettings) → For2D columns (length ends) settings
    → GivesBack changes ends w settings (take w.bytes out')

-- beyond 02: and so it does with any number of zero bytes behind it
abbrev pub Written2DBeforeZeros : Type 0
Written2DBeforeZeros =
    (columns : ℕ) (changes ends out : List ℕ) (k : ℕ) (w : Answer) (out' : List ℕ) → columns ≤ most_pixels
    → Answers (write_2d k columns changes ends out) out w out' → w.number ≡ complete
    → (settings : DecodeSettings) → For2D columns (length ends) settings
    → (zeros : ℕ) → w.bytes + zeros ≤ most_bytes
    → GivesBack changes ends w settings (take w.bytes out' ++ replicate zeros 0)

-- ---- K = 1

-- 1D lines, each behind an EOL and a one, and six times EOL and a one
unfoldable pub tagged_1d : ℕ → List (List ℕ) → List Bool
tagged_1d columns [] = times 6 (eol_bits ++ true ∷ [])
tagged_1d columns (r ∷ rs) = (eol_bits ++ true ∷ []) ++ (line_bits columns one r ++ tagged_1d columns rs)

-- "after each 1D line at most K−1 2D lines": with K = 1 every line is 1D, and tagged
abbrev pub KOneIsAll1D : Type 0
KOneIsAll1D = (columns : ℕ) (rows : List (List ℕ)) → page3_bits columns (mixed 1) rows ≡ tagged_1d columns rows
