-- The listing of a page (01 "Sheets on the wall"): its columns, its rows, and how the reading stopped.
use Rattle.std.specs.Prelude.{List, [], ◌∷◌, ◌++◌, ℕ, suc, length}
use Prim.Native.String.{String}
use Rattle.listing_text.specs.Text.{ascii, tab, newline, decimal}

-- each number behind a tab
unfoldable pub tabbed : List ℕ → List ℕ
tabbed [] = []
tabbed (n ∷ ns) = (tab ∷ decimal n) ++ tabbed ns

-- a word, and numbers
unfoldable pub text_line : String → List ℕ → List ℕ
text_line word ns = ascii word ++ (tabbed ns ++ newline ∷ [])

-- "A row line has number, count, changes"; "the mark (0, 1 or 2) follows the row number" (A5)
abbrev pub row_line : ℕ → ℕ → List ℕ → List ℕ
row_line number mark row = text_line "row" (number ∷ mark ∷ length row ∷ row)

-- the rows from a number on, each with its mark
unfoldable pub row_lines : ℕ → List (List ℕ) → List ℕ → List ℕ
row_lines number [] ms = []
row_lines number (r ∷ rs) [] = []
row_lines number (r ∷ rs) (m ∷ ms) = row_line number m r ++ row_lines (suc number) rs ms

-- "the last has answer, rows, bytes"
unfoldable pub listing_text : ℕ → ℕ → List (List ℕ) → List ℕ → ℕ → List ℕ
listing_text columns answer rows marks bytes =
    text_line "columns" (columns ∷ []) ++ (row_lines 1 rows marks ++ text_line "stop" (answer ∷ length rows ∷ bytes ∷ []))

-- "Longer data or another settings line prints `bad input` alone."
unfoldable pub bad_input : List ℕ
bad_input = ascii "bad input" ++ newline ∷ []
