-- Proper pages: the bytes that a page took are, to the last bit, what a writer writes for the rows that were read from it. So such a page
-- says its rows twice. Which writer it was is found in the bits.
use Rattle.std.specs.Prelude.{◌≡◌, Bool, true, false, cond, ◌&&◌, List, [], ◌∷◌, ◌++◌, ℕ, suc, ◌+◌, ◌-◌, min, eqb, leb, ltb, length, take, drop}
use Rattle.std.proofs.Math.Option.{Option, none, some}
use Rattle.rules.specs.Answers.{complete, bad_width, too_long, bad_rows}
use Rattle.rules.specs.Bits.{bits_of, front_bit}
use Rattle.rules.specs.Lookup.{shared}
use Rattle.rules.specs.Lines.{Kind, one, two}
use Rattle.rules.specs.Eols.{zero_run}
use Rattle.rules.specs.Rows.{Encoding, group4, group3_1_d, group3_2_d, Settings}
use Rattle.rules.specs.Pages.{Answer, most_bytes, no_line}
use Rattle.rules.specs.Write.{line_bits, page_bits, to_byte, rows_in, ends_rise, all_ascend}
use Rattle.rules.specs.WriteGroup3.{Layout, bare, filled, mixed, page3_bits}

-- ---- Writers of pages

-- T.6's writer, and Group 3's with a layout
pub data Writer : Type 0 where
  t6 : Writer
  t4 : Layout → Writer

-- the most zeros of fill (A3), and the largest K (A10), that a writer allows
abbrev pub most_fill : ℕ
most_fill = 64

abbrev pub most_k : ℕ
most_k = 65535

-- it writes in this encoding, with a fill or a K that it allows
unfoldable pub writes_for : Encoding → Writer → Bool
writes_for group4 t6 = true
writes_for group4 (t4 layout) = false
writes_for group3_1_d t6 = false
writes_for group3_1_d (t4 bare) = true
writes_for group3_1_d (t4 (filled fill)) = leb fill most_fill
writes_for group3_1_d (t4 (mixed k)) = false
writes_for group3_2_d t6 = false
writes_for group3_2_d (t4 bare) = false
writes_for group3_2_d (t4 (filled fill)) = false
writes_for group3_2_d (t4 (mixed k)) = leb 1 k && leb k most_k

-- and it writes pages of so many rows: of none T.6's alone does. "A page of no rows gets 8" (A3, A10)
unfoldable pub writes_rows : Encoding → ℕ → Bool
writes_rows group4 n = true
writes_rows group3_1_d n = ltb 0 n
writes_rows group3_2_d n = ltb 0 n

-- the bits of a page of these rows, at a width
unfoldable pub writer_bits : ℕ → Writer → List (List ℕ) → List Bool
writer_bits width t6 rows = page_bits width rows
writer_bits width (t4 layout) rows = page3_bits width layout rows

-- and zeros to a byte
unfoldable pub padded : List Bool → List Bool
padded xs = xs ++ to_byte (length xs)

-- ---- Proper pages

-- the bytes that a page took
abbrev pub taken : List ℕ → Answer → List ℕ
taken bytes a = take a.bytes bytes

-- the page was read to its end, the writer is one of its encoding and writes as many rows, and the bytes that the page took are what that
-- writer writes for its rows
pub record Proper (S : Settings) (bytes : List ℕ) (a : Answer) (w : Writer) : Type 0 where
  pub whole : a.number ≡ complete
  pub writer : writes_for S.encoding w ≡ true
  pub rowed : writes_rows S.encoding (length a.rows) ≡ true
  pub same : bits_of (taken bytes a) ≡ padded (writer_bits S.columns w a.rows)

-- proper by some writer
abbrev pub IsProper : Settings → List ℕ → Answer → Type 0
IsProper S bytes a = (w : Writer) × Proper S bytes a w

-- ---- The writer that is found

-- 1D, by the zeros before the first one: eleven or more are an EOL's, and those above eleven its fill, as far as a writer allows it
abbrev pub layout_by : Option ℕ → Layout
layout_by none = bare
layout_by (some z) = cond (ltb z 11) bare (filled (min (z - 11) most_fill))

unfoldable pub layout_in : List Bool → Layout
layout_in bits = layout_by (zero_run bits)

-- 2D: the kind of a line, by its tag bit
abbrev pub kind_by : Bool → List ℕ → Kind
kind_by true reference = one
kind_by false reference = two reference

-- the tag bits of the lines of these rows, each behind an EOL of twelve bits
unfoldable pub tags_along : ℕ → List Bool → List ℕ → List (List ℕ) → List Bool
tags_along width bits reference [] = []
tags_along width bits reference (r ∷ rs) =
    let tag = front_bit (drop 12 bits) in
    tag ∷ tags_along width (drop (13 + length (line_bits width (kind_by tag reference) r)) bits) r rs

-- how many 2D lines come before the next 1D line
unfoldable pub zeros_first : List Bool → ℕ
zeros_first [] = 0
zeros_first (false ∷ tags) = suc (zeros_first tags)
zeros_first (true ∷ tags) = 0

-- K counts the first line, which is 1D, and the 2D lines behind it, as far as a writer allows it. Where no other 1D line comes, this is the
-- least K that writes the page.
abbrev pub k_by : List Bool → ℕ
k_by [] = 1
k_by (tag ∷ tags) = min (suc (zeros_first tags)) most_k

-- from the page's width, its bits and its rows
unfoldable pub writer_in : Encoding → ℕ → List Bool → List (List ℕ) → Writer
writer_in group4 width bits rows = t6
writer_in group3_1_d width bits rows = t4 (layout_in bits)
writer_in group3_2_d width bits rows = t4 (mixed (k_by (tags_along width bits [] rows)))

-- ---- Where bytes part from a page

-- the padded bits that the writer found writes for rows, from bytes
abbrev pub page_for : Encoding → ℕ → List (List ℕ) → List ℕ → List Bool
page_for enc width rows bytes = padded (writer_bits width (writer_in enc width (bits_of bytes) rows) rows)

-- the first bit at which bytes part from a page: how many bits they share
abbrev pub parts_at : List Bool → List ℕ → ℕ
parts_at page bytes = shared page (bits_of bytes)

-- they part nowhere, and both end there
abbrev pub parts_nowhere : List Bool → List ℕ → Bool
parts_nowhere page bytes = eqb (parts_at page bytes) (length page) && eqb (parts_at page bytes) (length (bits_of bytes))

-- an answer: its number; where 0, whether the bytes are the page, and the first bit at which they part
pub record Parting : Type 0 where
  pub number : ℕ
  pub same : Bool
  pub place : ℕ

abbrev pub not_asked : ℕ → Parting
not_asked n = record { number = n; same = false; place = 0 }

-- Rows of a store that bytes are held against, in an encoding: 6, 7 (the bytes) and 8 (rows that its writer refuses) in this order, as the
-- writers answer them.
unfoldable pub parts_from : Encoding → ℕ → List ℕ → List ℕ → List ℕ → Parting
parts_from enc columns changes ends bytes =
    elim (no_line columns) [
      | true ↦ not_asked bad_width
      | false ↦ elim (ltb most_bytes (length bytes)) [
        | true ↦ not_asked too_long
        | false ↦ elim (writes_rows enc (length ends) && (ends_rise (length changes) 0 ends && all_ascend columns (rows_in 0 changes ends))) [
          | false ↦ not_asked bad_rows
          | true ↦
              let page = page_for enc columns (rows_in 0 changes ends) bytes in
              record { number = complete; same = parts_nowhere page bytes; place = parts_at page bytes }
        ]
      ]
    ]

-- ---- A page that was read

-- whether it is proper, and else the first bit at which it parts from what would be written; an answer that is no page's end parts at 0
unfoldable pub is_proper : Settings → List ℕ → Answer → Bool
is_proper S bytes a =
    eqb a.number complete
    && (writes_rows S.encoding (length a.rows) && parts_nowhere (page_for S.encoding S.columns a.rows (taken bytes a)) (taken bytes a))

unfoldable pub parts_in : Settings → List ℕ → Answer → ℕ
parts_in S bytes a =
    elim (eqb a.number complete && writes_rows S.encoding (length a.rows)) [
      | true ↦ parts_at (page_for S.encoding S.columns a.rows (taken bytes a)) (taken bytes a)
      | false ↦ 0
    ]
