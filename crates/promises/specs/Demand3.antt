-- Demand 3: what is written reads back. For a width from 1 to 4,294,967,294, a reference and a row that ascend strictly below it, strict reading (and lenient) of the
-- written line, given room and whatever bits follow, gives back the row and takes exactly its bits; so does a written page, whatever bytes follow, and cut after any
-- byte it gives its own first rows, those whose lines arrived whole. The pages are read so strict, lenient and exact (A12); a cut page may answer 14 where it answered 0.
use Rattle.std.specs.Prelude.{◌≡◌, ◌⊎◌, Bool, true, false, List, [], ◌++◌, ℕ, ◌+◌, ◌≤◌, ◌<◌, length, take, drop}
use Rattle.rules.specs.Answers.{complete, no_entry, no_row_end, most_pixels}
use Rattle.rules.specs.Bits.{bits_of}
use Rattle.rules.specs.Lines.{two}
use Rattle.rules.specs.Pages.{most_bytes, entries}
use Rattle.rules.specs.Write.{line_bits, rows_bits, rows_in, write_line, write_page}
use Rattle.rules.specs.Rising.{Rising}
use Rattle.answer.specs.declared.Answer.{Answer}
use Rattle.settings.specs.declared.DecodeSettings.{DecodeSettings}
use Rattle.settings.specs.declared.EncodingMode.TheVariants.{Group4}
use Rattle.one_line.specs.OneLine.{ReadOne}
use Rattle.writer.specs.Outcome.{Answers}
use Rattle.ccitt.specs.Decode.{Decodes}

-- a row in front of an array, read whole, and the bit after it
pub record Back (row : List ℕ) (after : ℕ) (r : Answer) (changes' : List ℕ) : Type 0 where
  pub done : r.number ≡ complete
  pub one_row : r.rows ≡ 1
  pub as_many : r.entries ≡ length row
  pub same : take (length row) changes' ≡ row
  pub after_it : r.bytes ≡ after

-- ---- Lines

-- a line's bits in any data, whatever stands before and behind them
abbrev pub LineReadsBack : Type 0
LineReadsBack =
    (columns : ℕ) (reference row : List ℕ) → 0 < columns → columns < most_pixels → Rising columns 0 reference → Rising columns 0 row
    → (bytes : List ℕ) (at : ℕ) (rest : List Bool) → length bytes ≤ most_bytes → drop at (bits_of bytes) ≡ line_bits columns (two reference) row ++ rest
    → (strict : Bool) (changes : List ℕ) (r : Answer) (changes' : List ℕ) → length row ≤ length changes
    → ReadOne bytes at columns strict reference changes r changes'
    → Back row (at + length (line_bits columns (two reference) row)) r changes'

-- the two functions, one after the other: what `write_line` wrote, `read_line` reads
abbrev pub WrittenLineReadsBack : Type 0
WrittenLineReadsBack =
    (columns : ℕ) (reference row out : List ℕ) (at : ℕ) (w : Answer) (out' : List ℕ) → columns ≤ most_pixels
    → Answers (write_line columns reference row out at) out w out' → w.number ≡ complete
    → (strict : Bool) (changes : List ℕ) (r : Answer) (changes' : List ℕ) → length row ≤ length changes
    → ReadOne out' at columns strict reference changes r changes'
    → Back row w.bytes r changes'

-- under one width and reference no two rows share a line, and no row's line begins another's
abbrev pub LinesApart : Type 0
LinesApart =
    (columns : ℕ) (reference row other : List ℕ) → 0 < columns → columns < most_pixels → Rising columns 0 reference → Rising columns 0 row → Rising columns 0 other
    → (rest : List Bool) → line_bits columns (two reference) row ++ rest ≡ line_bits columns (two reference) other
    → row ≡ other

-- ---- Pages

-- the settings of demand 3: Group 4 with end_of_block, unaligned
pub record Plainly (columns : ℕ) (settings : DecodeSettings) : Type 0 where
  pub same_columns : settings.columns ≡ columns
  pub group_4 : settings.encoding ≡ Group4
  pub blocked : settings.end_of_block ≡ true
  pub unaligned : settings.rows_are_byte_aligned ≡ false

-- what `write_page` wrote, `decode` reads, whatever bytes follow the page: its rows, and its length
abbrev pub WrittenPageReadsBack : Type 0
WrittenPageReadsBack =
    (columns : ℕ) (changes ends out : List ℕ) (w : Answer) (out' : List ℕ) → columns ≤ most_pixels
    → Answers (write_page columns changes ends out) out w out' → w.number ≡ complete
    → (bytes : List ℕ) → length bytes ≤ most_bytes → take w.bytes bytes ≡ take w.bytes out'
    → (settings : DecodeSettings) → Plainly columns settings → (settings.rows ≡ 0) ⊎ (settings.rows ≡ length ends)
    → (store places marks : List ℕ) (r : Answer) (store' places' marks' : List ℕ) → entries (rows_in 0 changes ends) ≤ length store → length ends ≤ length places → length ends ≤ length marks
    → Decodes bytes settings store places marks r store' places' marks'
    → (r.number ≡ complete) × (r.bytes ≡ w.bytes) × (rows_in 0 store' (take r.rows places') ≡ rows_in 0 changes ends)

-- Of a page of these rows only the bits arrived. Its first n rows are due: their lines lie whole in the bits, and the settings want so many (`rows` is 0,
-- or n or more). A line has no bits but its codes', so it does not matter where the next line or EOFB was cut.
pub record Due (columns wanted : ℕ) (rows : List (List ℕ)) (bits : List Bool) (n : ℕ) : Type 0 where
  pub of_page : n ≤ length rows
  pub whole : length (rows_bits columns [] (take n rows)) ≤ length bits
  pub asked : (wanted ≡ 0) ⊎ (n ≤ wanted)

-- Cut after any byte, it gives only its own first rows, each whole, with any `rows` and any room: no row that is not due, and all that are due, unless 4 or
-- 5 is answered.
abbrev pub CutPageGivesFirstRows : Type 0
CutPageGivesFirstRows =
    (columns : ℕ) (changes ends out : List ℕ) (w : Answer) (out' : List ℕ) → columns ≤ most_pixels
    → Answers (write_page columns changes ends out) out w out' → w.number ≡ complete
    → (cut : ℕ) (settings : DecodeSettings) → Plainly columns settings
    → (store places marks : List ℕ) (r : Answer) (store' places' marks' : List ℕ)
    → Decodes (take cut out') settings store places marks r store' places' marks'
    → (n : ℕ) × (rows_in 0 store' (take r.rows places') ≡ take n (rows_in 0 changes ends))
    × Due columns settings.rows (rows_in 0 changes ends) (bits_of (take cut out')) n
    × ((r.number ≡ no_entry → ⊥) → (r.number ≡ no_row_end → ⊥) → (m : ℕ) → Due columns settings.rows (rows_in 0 changes ends) (bits_of (take cut out')) m → m ≤ n)
