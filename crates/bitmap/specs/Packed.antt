-- Packed rows: pixel i of row r is bit 7 - i % 8 of byte r * stride + i / 8, so that the most significant bit stands for the leftmost
-- pixel. Whether a one stands for black or for white is the caller's choice.
use Rattle.std.specs.Prelude.{Bool, true, false, cond, not, List, [], ◌∷◌, ◌++◌, ℕ, zero, suc, ◌+◌, ◌-◌, ◌*◌, ◌/◌, ◌%◌, ◌^◌, leb, ltb, length, get_or, take, drop}
use Rattle.rules.specs.Answers.{complete, no_entry, no_row_end, bad_width, too_long, bad_rows, no_fit, bad_number}
use Rattle.rules.specs.Bits.{bit, value_of}
use Rattle.rules.specs.Codes.{Colour, white, black}
use Rattle.rules.specs.Pixels.{Pixels, pixels_of, changing}
use Rattle.rules.specs.Rows.{bytes_to}
use Rattle.rules.specs.Pages.{Answer, refusal, most_bytes, no_line, entries}
use Rattle.rules.specs.Write.{rows_in}
use Rattle.row_store.specs.Store.{good_rows}

-- ---- A pixel and its bit

-- the bit of a colour, and the colour of a bit, where `one` says whether black is 1
abbrev pub bit_for : Bool → Colour → Bool
bit_for one white = not one
bit_for one black = one

abbrev pub colour_for : Bool → Bool → Colour
colour_for true true = black
colour_for true false = white
colour_for false true = white
colour_for false false = black

-- ---- Rows into bytes

-- n bits from i on as a number, the first of them the highest
unfoldable pub packed : (ℕ → Bool) → ℕ → ℕ → ℕ
packed bits zero i = 0
packed bits (suc n) i = value_of (bits i) * 2 ^ n + packed bits n (suc i)

-- n bytes of bits, from byte j on
unfoldable pub bytes_from : (ℕ → Bool) → ℕ → ℕ → List ℕ
bytes_from bits zero j = []
bytes_from bits (suc n) j = packed bits 8 (8 * j) ∷ bytes_from bits n (suc j)

-- a row's pixels; behind the width stands white
unfoldable pub padded : ℕ → List ℕ → Pixels
padded width row i = cond (ltb i width) (pixels_of row i) white

-- a row's bytes: the last one is filled up with white
unfoldable pub row_bytes : Bool → ℕ → List ℕ → List ℕ
row_bytes one width row = bytes_from (λ i. bit_for one (padded width row i)) (bytes_to width) 0

-- bytes in the place of as many others, from byte `at` on
unfoldable pub laid : ℕ → List ℕ → List ℕ → List ℕ
laid at xs out = take at out ++ xs ++ drop (at + length xs) out

-- rows, each a stride behind the one before it; what lies between them stays as it is
unfoldable pub painted_from : Bool → ℕ → ℕ → ℕ → List (List ℕ) → List ℕ → List ℕ
painted_from one width stride at [] out = out
painted_from one width stride at (r ∷ rs) out = painted_from one width stride (at + stride) rs (laid at (row_bytes one width r) out)

-- the byte after so many rows: the last one needs no whole stride
abbrev pub reach : ℕ → ℕ → ℕ → ℕ
reach width stride zero = 0
reach width stride (suc rows) = rows * stride + bytes_to width

-- ---- Bytes into rows

-- the pixels of a row that begins at byte `at`
unfoldable pub pixels_at : Bool → List ℕ → ℕ → Pixels
pixels_at one bytes at i = colour_for one (bit (7 - i % 8) (get_or bytes (at + i / 8) 0))

-- the changing elements among n positions from i on
unfoldable pub turns_from : Pixels → ℕ → ℕ → List ℕ
turns_from line zero i = []
turns_from line (suc n) i = elim (changing line i) [ true ↦ i ∷ turns_from line n (suc i) | false ↦ turns_from line n (suc i) ]

-- so many rows; what the bits behind the width are does not matter
unfoldable pub rows_at : Bool → ℕ → ℕ → List ℕ → ℕ → ℕ → List (List ℕ)
rows_at one width stride bytes zero at = []
rows_at one width stride bytes (suc rows) at = turns_from (pixels_at one bytes at) width 0 ∷ rows_at one width stride bytes rows (at + stride)

-- ---- The answers

-- The tests of both: 6 of the width, 7 of the bytes, 10 of a stride that is shorter than a row, 9 where so many rows pass the bytes, in
-- this order; 0 where all are passed.
abbrev pub fit_tests : ℕ → ℕ → ℕ → ℕ → ℕ
fit_tests width stride rows size =
    cond (no_line width) bad_width
    (cond (ltb most_bytes size) too_long (cond (ltb stride (bytes_to width)) bad_number (cond (leb (reach width stride rows) size) complete no_fit)))

-- an answer: its number; where 0, the byte after the last row; and the bytes then
pub record Painted : Type 0 where
  pub number : ℕ
  pub end : ℕ
  pub bytes : List ℕ

-- refused, and nothing is painted
abbrev pub unpainted : ℕ → List ℕ → Painted
unpainted n out = record { number = n; end = 0; bytes = out }

-- A store of rows into packed rows: 6, 7, 10 and 9, and then 8 where its rows are none.
unfoldable pub paint : Bool → ℕ → ℕ → List ℕ → List ℕ → List ℕ → Painted
paint one width stride changes ends out =
    elim (fit_tests width stride (length ends) (length out)) [
      | suc n ↦ unpainted (suc n) out
      | zero ↦ elim (good_rows width changes 0 ends) [
        | false ↦ unpainted bad_rows out
        | true ↦
            record {
              number = complete;
              end = reach width stride (length ends);
              bytes = painted_from one width stride 0 (rows_in 0 changes ends) out;
            }
      ]
    ]

-- so many rows read, and the byte after the last one
abbrev pub read_rows : ℕ → List (List ℕ) → Answer
read_rows end rows = record { number = complete; place = 0; bytes = end; rows = rows; marks = []; loose = [] }

-- Packed rows into a store, which has room for so many entries and row ends: 6, 7, 10 and 9, and then 5 and 4. It is whole, or as it was.
unfoldable pub unpaint : Bool → ℕ → ℕ → ℕ → List ℕ → ℕ → ℕ → Answer
unpaint one width stride rows bytes room places =
    elim (fit_tests width stride rows (length bytes)) [
      | suc n ↦ refusal (suc n)
      | zero ↦ elim (ltb places rows) [
        | true ↦ refusal no_row_end
        | false ↦ elim (ltb room (entries (rows_at one width stride bytes rows 0))) [
          | true ↦ refusal no_entry
          | false ↦ read_rows (reach width stride rows) (rows_at one width stride bytes rows 0)
        ]
      ]
    ]
