-- The Group 3 writers: the bits of a page of 1D lines, with or without EOLs, and of a page of 1D and 2D lines with tag bits (T.4 4.1 and 4.2; 02 A3 and
-- A10). A page is its coded lines, and what stands before each and behind the last, so that both writers are one.
use Rattle.std.specs.Prelude.{Bool, true, false, cond, ◌&&◌, ◌||◌, List, [], ◌∷◌, ◌++◌, ℕ, zero, suc, ◌-◌, leb, ltb, length, replicate}
use Rattle.rules.specs.Answers.{bad_number}
use Rattle.rules.specs.Lines.{Kind, one, two}
use Rattle.rules.specs.Rows.{bytes_to}
use Rattle.rules.specs.Pages.{most_bytes, no_line}
use Rattle.rules.specs.Write.{line_bits, eol_bits, Written, unwritten, writes, rows_in, ends_rise, all_ascend}

-- A3: 1D lines with nothing between them; or an EOL before each, and so many zeros of fill before each EOL. A10: an EOL and a tag bit before each line,
-- at least one line in K being 1D.
pub data Layout : Type 0 where
  bare : Layout
  filled : ℕ → Layout
  mixed : ℕ → Layout

-- ---- The lines

-- a line as it stands in a page: its kind, and its code bits
pub record CodedLine : Type 0 where
  pub kind : Kind
  pub bits : List Bool

-- T.4's parameter K (4.2.1.1); where all lines are 1D, it is 1
abbrev pub k_of : Layout → ℕ
k_of bare = 1
k_of (filled fill) = 1
k_of (mixed k) = k

-- "a 1D line first, and after each 1D line at most K−1 2D lines, as many as there are rows for": `left` says how many may still come before the next 1D line
abbrev pub kind_next : ℕ → List ℕ → Kind
kind_next zero reference = one
kind_next (suc left) reference = two reference

abbrev pub left_next : ℕ → ℕ → ℕ
left_next k zero = k - 1
left_next k (suc left) = left

-- the line of each row, under the one before it
module _ (width k : ℕ) where
  unfoldable pub coded_lines : ℕ → List ℕ → List (List ℕ) → List CodedLine
  coded_lines left reference [] = []
  coded_lines left reference (r ∷ rs) =
      record { kind = kind_next left reference; bits = line_bits width (kind_next left reference) r } ∷ coded_lines (left_next k left) r rs

-- ---- What stands around them

-- the tag bit after an EOL: 1 where a 1D line follows, 0 where a 2D line does (T.4 4.2.2)
abbrev pub tag_of : Kind → Bool
tag_of one = true
tag_of (two reference) = false

-- before each line
abbrev pub ahead : Layout → Kind → List Bool
ahead bare kind = []
ahead (filled fill) kind = replicate fill false ++ eol_bits
ahead (mixed k) kind = eol_bits ++ tag_of kind ∷ []

unfoldable pub times : ℕ → List Bool → List Bool
times zero xs = []
times (suc n) xs = xs ++ times n xs

-- behind the last: RTC (T.4 4.1.4 and 4.2.4). "six consecutive EOLs, fill standing only before the first of the six; without, it ends after its last
-- row"; "The end is six times EOL and a one."
abbrev pub ending : Layout → List Bool
ending bare = []
ending (filled fill) = replicate fill false ++ times 6 eol_bits
ending (mixed k) = times 6 (eol_bits ++ true ∷ [])

-- lines, each with what stands before it, and the end
unfoldable pub framed : Layout → List CodedLine → List Bool
framed layout [] = ending layout
framed layout (l ∷ ls) = ahead layout l.kind ++ (l.bits ++ framed layout ls)

-- "A page starts from a white reference"; a 1D line is first
unfoldable pub page3_bits : ℕ → Layout → List (List ℕ) → List Bool
page3_bits width layout rows = framed layout (coded_lines width (k_of layout) 0 [] rows)

-- ---- The writers

-- test 8: "A page of no rows gets 8", and so do rows that the T.6 page writer refuses
abbrev pub some_good : ℕ → List ℕ → List ℕ → Bool
some_good columns changes ends = ltb 0 (length ends) && (ends_rise (length changes) 0 ends && all_ascend columns (rows_in 0 changes ends))

-- 10, "tested after 7", where the caller's number is not `allowed` and neither 6 nor 7 comes first; else as the other writers. From byte 0 on; a 0 gives
-- the page's bytes.
unfoldable pub write_group3 : Layout → Bool → ℕ → List ℕ → List ℕ → List ℕ → Written
write_group3 layout allowed columns changes ends out =
    let xs = page3_bits columns layout (rows_in 0 changes ends) in
    elim (allowed || (no_line columns || ltb most_bytes (length out))) [
      | false ↦ unwritten bad_number out
      | true ↦ writes columns (some_good columns changes ends) xs (bytes_to (length xs)) out 0
    ]

-- A3: "with or without an EOL before each line, and a caller's number of fill zeros (0 to 64; more answers 10 ..) before each EOL"
abbrev pub layout_1d : Bool → ℕ → Layout
layout_1d eols fill = cond eols (filled fill) bare

unfoldable pub write_1d : Bool → ℕ → ℕ → List ℕ → List ℕ → List ℕ → Written
write_1d eols fill = write_group3 (layout_1d eols fill) (leb fill 64)

-- A10: "a caller's K from 1 to 65,535 .. Any other K answers 10"
unfoldable pub write_2d : ℕ → ℕ → List ℕ → List ℕ → List ℕ → Written
write_2d k = write_group3 (mixed k) (leb 1 k && leb k 65535)
