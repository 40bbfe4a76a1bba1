-- What the inner functions of reading ask and answer: the changes of packed rows, 64 pixels at a time.
use Rattle.std.specs.Prelude.{◌≡◌, Bool, true, cond, List, ℕ, zero, suc, ◌+◌, ◌-◌, ◌/◌, ◌%◌, ◌^◌, ◌≤◌, ◌<◌, leb, length, get_or}
use Rattle.rules.specs.Bits.{bit}
use Rattle.rules.specs.Codes.{Colour, white}
use Rattle.rules.specs.Pixels.{Pixels}
use Rattle.rules.specs.Pages.{most_bytes, entries, joined, ends_from, overlaid}
use Rattle.rules.specs.Rows.{bytes_to}
use Rattle.bitmap.specs.Packed.{laid, pixels_at, turns_from, rows_at, reach}
use Rattle.bitmap.specs.Steps.{is_black}
use Rattle.bitmap.specs.declared.tracing.Turn.{Turn}

-- bit i of bytes, counted from the first one's highest
abbrev pub bit_in : List ℕ → ℕ → Bool
bit_in bytes i = bit (7 - i % 8) (get_or bytes (i / 8) 0)

-- the colour before a position; before the first stands an imaginary white one
unfoldable pub colour_before : Pixels → ℕ → Colour
colour_before line zero = white
colour_before line (suc i) = line i

-- the entries once xs are recorded from `base` on, or are only counted
abbrev pub recorded : Bool → ℕ → List ℕ → List ℕ → List ℕ
recorded write base xs changes = cond write (laid base xs changes) changes

-- as many pixels of a word as lie in the row
abbrev pub up_to : ℕ → ℕ → ℕ
up_to width end = cond (leb end width) end width

-- room for so many changes more, where they are recorded
abbrev pub Roomy : Bool → ℕ → List ℕ → List ℕ → Type 0
Roomy write next turns changes = write ≡ true → next + length turns ≤ length changes

-- What a word's reader asks: 64 pixels from `from` on in a row that begins at byte `at`, and whether the pixel before them is black. That
-- many changes are counted by a number.
pub record Traced (one : Bool) (width : ℕ) (bytes : List ℕ) (at from next : ℕ) (black : Bool) : Type 0 where
  pub small : length bytes ≤ most_bytes
  pub inside : at + bytes_to width ≤ length bytes
  pub even : from % 8 ≡ 0
  pub left : from < width
  pub few : width < 4294967296
  pub shade : black ≡ is_black (colour_before (pixels_at one bytes at) from)
  pub low : next ≤ 2 ^ 40

-- the changes found in a word behind `next` others
pub record Turns (line : Pixels) (width from next : ℕ) (write : Bool) (changes : List ℕ) (r : Turn) (changes' : List ℕ) : Type 0 where
  pub count : r.next ≡ next + length (turns_from line (up_to width (from + 64) - from) from)
  pub shade : from + 64 ≤ width → r.black ≡ is_black (colour_before line (from + 64))
  pub entries : changes' ≡ recorded write next (turns_from line (up_to width (from + 64) - from) from) changes

-- what a row's reader asks
pub record Starts (width : ℕ) (bytes : List ℕ) (at first : ℕ) : Type 0 where
  pub small : length bytes ≤ most_bytes
  pub inside : at + bytes_to width ≤ length bytes
  pub few : width < 4294967296
  pub low : first ≤ 2 ^ 36

-- the changes of a row
pub record Row (line : Pixels) (width first : ℕ) (write : Bool) (changes : List ℕ) (r : ℕ) (changes' : List ℕ) : Type 0 where
  pub count : r ≡ first + length (turns_from line width 0)
  pub entries : changes' ≡ recorded write first (turns_from line width 0) changes

-- what the reader of rows asks: bytes in which they lie, and room where they are recorded
pub record Lies (one : Bool) (width stride rows : ℕ) (bytes : List ℕ) (write : Bool) (room places : ℕ) : Type 0 where
  pub some : 0 < width
  pub few : width < 4294967295
  pub small : length bytes ≤ most_bytes
  pub wide : bytes_to width ≤ stride
  pub reached : reach width stride rows ≤ length bytes
  pub roomy : write ≡ true → entries (rows_at one width stride bytes rows 0) ≤ room
  pub ended : write ≡ true → rows ≤ places

-- all rows
pub record Rows (rows : List (List ℕ)) (write : Bool) (changes ends : List ℕ) (r : ℕ) (changes' ends' : List ℕ) : Type 0 where
  pub count : r ≡ entries rows
  pub entered : changes' ≡ cond write (overlaid (joined rows) changes) changes
  pub ended : ends' ≡ cond write (overlaid (ends_from 0 rows) ends) ends
