-- The T.6 writers: the bits of a run, of a line and of a page, and what stands in the output afterwards (T.4 4.1.1, T.6 2.2; 01 "One line", "The row
-- store and what the desk says").
use Rattle.std.specs.Prelude.{Bool, true, false, cond, ◌&&◌, List, [], ◌∷◌, ◌++◌, ℕ, zero, suc, ◌+◌, ◌-◌, ◌*◌, ◌/◌, ◌%◌, eqb, leb, ltb, length, take, drop, replicate}
use Rattle.rules.specs.Answers.{complete, bad_width, too_long, bad_rows, no_fit}
use Rattle.rules.specs.Bits.{bits_of}
use Rattle.rules.specs.Codes.{Colour, white, opposite, Code, code_bits, code_at, terminating_of, makeup_of}
use Rattle.rules.specs.Modes.{Mode, pass, horizontal, VR, VL, mode_bits}
use Rattle.rules.specs.Lines.{head_or, tail, Kind, one, two, b1, b2}
use Rattle.rules.specs.Rows.{bytes_to}
use Rattle.rules.specs.Pages.{most_bytes, no_line, ascends}

-- runs use make-up codes up to 2560, which is 40 times 64 (A6; 01's first version went up to 1728)
abbrev pub most_makeup : ℕ
most_makeup = 40

-- ---- A run

-- the terminating code of a run below 64, and the make-up code of m × 64 pixels
abbrev pub terminating : Colour → ℕ → Code
terminating colour run = code_at (terminating_of colour) run

abbrev pub makeup : Colour → ℕ → Code
makeup colour m = code_at (makeup_of colour) (m - 1)

abbrev pub wholes : Colour → ℕ → List Code
wholes colour zero = []
wholes colour (suc m) = makeup colour (suc m) ∷ []

-- "A run repeats 2560 while at least 2560 remains, then takes the make-up for the whole 64s left, if any, then the terminating code." (A6)
unfoldable pub run_codes : Colour → ℕ → List Code
run_codes colour n =
    replicate (n / (64 * most_makeup)) (makeup colour most_makeup) ++ (wholes colour (n % (64 * most_makeup) / 64) ++ terminating colour (n % 64) ∷ [])

unfoldable pub codes_bits : List Code → List Bool
codes_bits [] = []
codes_bits (c ∷ cs) = code_bits c ++ codes_bits cs

unfoldable pub run_bits : Colour → ℕ → List Bool
run_bits colour n = codes_bits (run_codes colour n)

-- ---- A line

-- from b1 to a1, which "differ by at most 3"
abbrev pub vertical_to : ℕ → ℕ → Mode
vertical_to b1 a1 = cond (leb b1 a1) (VR (a1 - b1)) (VL (b1 - a1))

abbrev pub near : ℕ → ℕ → Bool
near b1 a1 = leb a1 (b1 + 3) && leb b1 (a1 + 3)

module _ (width : ℕ) where
  -- 1D: runs of alternating colour, from a position on, to each change that is left and then to the width
  unfoldable pub bits_1d : Colour → ℕ → List ℕ → List Bool
  bits_1d colour position [] = run_bits colour (width - position)
  bits_1d colour position (x ∷ xs) = run_bits colour (x - position) ++ bits_1d (opposite colour) x xs

  -- 2D, with at most n codes: from a position, in its colour, with the changes that are left; the first of these is a1, the second a2.
  -- "if b2 < a1, pass; else if a1 and b1 differ by at most 3, vertical; else horizontal with runs a0a1 and a1a2, a0 counted as 0 at the
  -- start; until the width"
  unfoldable pub bits_2d : List ℕ → ℕ → Colour → ℕ → List ℕ → List Bool
  bits_2d reference zero colour position rest = []
  bits_2d reference (suc n) colour position rest =
      elim (eqb position width) [
        | true ↦ []
        | false ↦
            elim (ltb (b2 width reference position colour) (head_or width rest)) [
              | true ↦ mode_bits pass ++ bits_2d reference n colour (b2 width reference position colour) rest
              | false ↦
                  elim (near (b1 width reference position colour) (head_or width rest)) [
                    | true ↦
                        mode_bits (vertical_to (b1 width reference position colour) (head_or width rest))
                        ++ bits_2d reference n (opposite colour) (head_or width rest) (tail rest)
                    | false ↦
                        mode_bits horizontal
                        ++ (run_bits colour (head_or width rest - position)
                        ++ (run_bits (opposite colour) (head_or width (tail rest) - head_or width rest)
                        ++ bits_2d reference n colour (head_or width (tail rest)) (tail (tail rest))))
                  ]
            ]
      ]

  -- a line's bits; each of its codes moves on or takes a change, so there are fewer codes than positions and changes
  unfoldable pub line_bits : Kind → List ℕ → List Bool
  line_bits one row = bits_1d white 0 row
  line_bits (two reference) row = bits_2d reference (suc (width + length row)) white 0 row

  -- ---- A page

  -- each row under the one before it
  unfoldable pub rows_bits : List ℕ → List (List ℕ) → List Bool
  rows_bits reference [] = []
  rows_bits reference (r ∷ rs) = line_bits (two reference) r ++ rows_bits r rs

-- an EOL without fill (T.4 4.1.2), and EOFB, two of them (T.6 2.4.1.1)
unfoldable pub eol_bits : List Bool
eol_bits = replicate 11 false ++ true ∷ []

unfoldable pub eofb : List Bool
eofb = eol_bits ++ eol_bits

-- "A page starts from a white reference and ends with EOFB"
unfoldable pub page_bits : ℕ → List (List ℕ) → List Bool
page_bits width rows = rows_bits width [] rows ++ eofb

-- ---- The output

-- zero bits to a byte, behind so many bits
unfoldable pub to_byte : ℕ → List Bool
to_byte n = replicate (bytes_to n * 8 - n) false

-- "Bits before it stay; unused bits of the last byte written become 0; bytes after it stay."
unfoldable pub written_at : ℕ → List Bool → List Bool → List Bool
written_at at xs bits = take at bits ++ ((xs ++ to_byte (at + length xs)) ++ drop (bytes_to (at + length xs) * 8) bits)

-- An answer: its number; where 0, the bit after the line or the page's bytes; and the bits of the output
pub record Written : Type 0 where
  pub number : ℕ
  pub end : ℕ
  pub bits : List Bool

-- refused, and nothing is written
abbrev pub unwritten : ℕ → List ℕ → Written
unwritten n out = record { number = n; end = 0; bits = bits_of out }

-- Both writers, given their bits `xs`, whether the rows they are to write are `good`, and the `end` that a 0 gives: 6, 7 (output), 8 (rows), 9 (the
-- bits do not fit from bit `at` on; a start past the output) in this order, before any write.
unfoldable pub writes : ℕ → Bool → List Bool → ℕ → List ℕ → ℕ → Written
writes columns good xs end out at =
    elim (no_line columns) [
      | true ↦ unwritten bad_width out
      | false ↦ elim (ltb most_bytes (length out)) [
        | true ↦ unwritten too_long out
        | false ↦ elim good [
          | false ↦ unwritten bad_rows out
          | true ↦ elim (leb (at + length xs) (length (bits_of out))) [
            | false ↦ unwritten no_fit out
            | true ↦ record { number = complete; end = end; bits = written_at at xs (bits_of out) }
          ]
        ]
      ]
    ]

-- 8 for a line: its reference or its row does not ascend; a 0 gives the bit after it
unfoldable pub write_line : ℕ → List ℕ → List ℕ → List ℕ → ℕ → Written
write_line columns reference row out at =
    let xs = line_bits columns (two reference) row in
    writes columns (ascends columns reference && ascends columns row) xs (at + length xs) out at

-- the rows of a store, by their ends
unfoldable pub rows_in : ℕ → List ℕ → List ℕ → List (List ℕ)
rows_in base changes [] = []
rows_in base changes (e ∷ es) = take (e - base) (drop base changes) ∷ rows_in e changes es

-- 8 for a page: "row ends fall or pass the array", or a row does not ascend
unfoldable pub ends_rise : ℕ → ℕ → List ℕ → Bool
ends_rise entries base [] = true
ends_rise entries base (e ∷ es) = leb base e && (leb e entries && ends_rise entries e es)

unfoldable pub all_ascend : ℕ → List (List ℕ) → Bool
all_ascend width [] = true
all_ascend width (r ∷ rs) = ascends width r && all_ascend width rs

-- as many rows as there are row ends; from byte 0 on; a 0 gives the page's bytes
unfoldable pub write_page : ℕ → List ℕ → List ℕ → List ℕ → Written
write_page columns changes ends out =
    let xs = page_bits columns (rows_in 0 changes ends) in
    writes columns (ends_rise (length changes) 0 ends && all_ascend columns (rows_in 0 changes ends)) xs (bytes_to (length xs)) out 0
