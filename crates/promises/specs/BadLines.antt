-- A13: "One bad line costs one row", and k cost k. Of a page by `write_group3_1d` with EOLs and at least three fill zeros any lines may arrive as other bits; `decode`, read leniently, gives as
-- many rows as were written, and every row whose line arrived whole is unchanged, and marked clean.
use Rattle.std.specs.Prelude.{◌≡◌, Bool, true, false, List, [], ◌∷◌, ◌++◌, ℕ, ◌≤◌, ◌<◌, length, get_or, take}
use Rattle.rules.specs.Answers.{complete, most_pixels}
use Rattle.rules.specs.Bits.{bits_of}
use Rattle.rules.specs.Lines.{one}
use Rattle.rules.specs.Pages.{most_bytes}
use Rattle.rules.specs.Write.{line_bits, rows_in}
use Rattle.rules.specs.WriteGroup3.{filled, page3_bits, write_1d}
use Rattle.rules.specs.Damage.{stray, Arrived, own, other, owns, arrived_page, up_to, may_all, Spared, RoomFor, AllButOne}
use Rattle.answer.specs.declared.Answer.{Answer}
use Rattle.settings.specs.declared.DecodeSettings.{DecodeSettings}
use Rattle.settings.specs.declared.EncodingMode.TheVariants.{Group3_1D}
use Rattle.writer.specs.Outcome.{Answers}
use Rattle.promises.specs.Rooms.{Call, places, rows_of, marks_of, Reading}

-- "`end_of_block` set and the true number of rows", "Read leniently"; exact implies strict, so it is off. Nothing is said of end_of_line and of alignment, so they may be either.
pub record ForBadLines (columns rows : ℕ) (settings : DecodeSettings) : Type 0 where
  pub same_columns : settings.columns ≡ columns
  pub group_3 : settings.encoding ≡ Group3_1D
  pub lenient : settings.strict ≡ false
  pub inexact : settings.exact ≡ false
  pub blocked : settings.end_of_block ≡ true
  pub counted : settings.rows ≡ rows

-- "with room enough": neither 4 nor 5 is answered; or there is room for so many rows of full width, where neither is
abbrev pub Roomy : ℕ → ℕ → Call → Type 0
Roomy rows columns c = RoomFor rows columns (length c.changes) (places c) c.answer.number

-- ---- Any lines

-- a page of 1D lines as it arrives, each line its row's own or any others that A13 allows, whatever follows; and a call of `decode` on it
pub record Arrival (columns fill : ℕ) (lines : List Arrived) (bytes : List ℕ) (settings : DecodeSettings) (c : Call) : Type 0 where
  pub wide : 0 < columns
  pub narrow : columns < most_pixels
  pub three : 3 ≤ fill
  pub some_lines : 0 < length lines
  pub allowed : may_all columns lines ≡ true
  pub rest : List Bool
  pub there : bits_of bytes ≡ arrived_page columns fill lines ++ rest
  pub small : length bytes ≤ most_bytes
  pub set : ForBadLines columns (length lines) settings
  pub reading : Reading bytes settings c
  pub roomy : Roomy (length lines) columns c

-- As many rows as lines, and each row whose line is its own is unchanged and clean (`Spared`): k bad lines cost k rows at most, wherever they stand.
abbrev pub KBadLinesCostKRows : Type 0
KBadLinesCostKRows =
    (columns fill : ℕ) (lines : List Arrived) (bytes : List ℕ) (settings : DecodeSettings) (c : Call) → Arrival columns fill lines bytes settings c
    → (c.answer.number ≡ complete) × (c.answer.rows ≡ length lines) × Spared lines (rows_of c) (marks_of c)

-- So a row that is not marked clean is one of the bad ones. (A bad one may be marked clean, as the bits 0001111 on a page of one column are: rules/proofs/Group3Sheets.antt, `bad-lines-sheet`.)
abbrev pub MarkedAreBad : Type 0
MarkedAreBad =
    (columns fill : ℕ) (lines : List Arrived) (bytes : List ℕ) (settings : DecodeSettings) (c : Call) → Arrival columns fill lines bytes settings c
    → (n : ℕ) → n < length lines → (get_or (marks_of c) n 0 ≡ 0 → ⊥) → (bits : List Bool) × (get_or lines n (own []) ≡ other bits)

-- ---- One line, as 02 has it

-- the bits of a page before the code bits of the line behind the rows `first`, and behind those of the line before the rows `last`
abbrev pub front_of : ℕ → ℕ → List (List ℕ) → List Bool
front_of columns fill first = up_to columns fill (owns first)

abbrev pub back_of : ℕ → ℕ → List (List ℕ) → List Bool
back_of columns fill last = page3_bits columns (filled fill) last

-- "Take one line's code bits, fill aside, and put any others in their place, of any number within limit 7, holding at least one one and no run of eleven or more zeros before a one. Padding at the
-- page's end may change to suit. Read leniently, with room enough, the page gives the same number of rows, and every row but that one is unchanged." First it says where the row's code bits stand
-- in what `write_group3_1d` wrote.
abbrev pub OneBadLineCostsOneRow : Type 0
OneBadLineCostsOneRow =
    (columns : ℕ) (changes ends out : List ℕ) (fill : ℕ) (w : Answer) (out' : List ℕ) → columns ≤ most_pixels → 3 ≤ fill
    → Answers (write_1d true fill columns changes ends out) out w out' → w.number ≡ complete
    → (first : List (List ℕ)) (row : List ℕ) (last : List (List ℕ)) → rows_in 0 changes ends ≡ first ++ row ∷ last
    → ((padding : List Bool) × (bits_of (take w.bytes out') ≡ front_of columns fill first ++ (line_bits columns one row ++ (back_of columns fill last ++ padding))))
    × ((bits : List Bool) → stray bits ≡ true
    → (bytes : List ℕ) (padding : List Bool) → length bytes ≤ most_bytes → bits_of bytes ≡ front_of columns fill first ++ (bits ++ (back_of columns fill last ++ padding))
    → (settings : DecodeSettings) → ForBadLines columns (length ends) settings
    → (c : Call) → Reading bytes settings c → Roomy (length ends) columns c
    → (c.answer.number ≡ complete) × AllButOne first last (rows_of c) (marks_of c))
