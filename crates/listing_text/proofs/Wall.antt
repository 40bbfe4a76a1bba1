-- The sheet of the listing (01 "Sheets on the wall"), by computation: its line of settings, and its text. Assumes nothing.
use mathlib.Core.Path.{◌≡◌, refl}
use mathlib.Core.Bool.{Bool, true, false}
use mathlib.Core.List.{List, [], ◌∷◌, ◌++◌}
use Prim.Native.Nat.{ℕ, ◌≤◌}
use native.Mathlib.Omega.{arith}
use lib.ListN.{length}
use Rattle.rules.specs.Rows.{group3_1_d, Settings}
use Rattle.listing_text.specs.Text.{ascii, newline, digits, decimal}
use Rattle.listing_text.specs.Line.{parted, flag, settings_numbers, filled, Begins}
use Rattle.listing_text.specs.Sheet.{tabbed, text_line, row_lines, listing_text}

-- Group 3 1D, columns 8, rows 2, lenient
abbrev wall : Bool → Settings
wall exact = record { columns = 8; rows = 2; end_of_block = false; end_of_line = false; aligned = false; encoding = group3_1_d; strict = false; exact = exact }

says : (exact plain : Bool) (ns : List ℕ) → 7 ≤ length ns → filled ns ≡ settings_numbers (wall exact) plain → Begins (parted ns ++ []) (wall exact) plain []
says exact plain ns few all = record { columns = omega arith; rows = omega arith; numbers = ns; said = record { seven = few; all = all }; text = refl }

-- the line of 01, which lacks the eighth number and the ninth; one that has the eighth, and one that has both
line : Begins (ascii "8\t2\t0\t0\t0\t1\t0\n") (wall false) false []
unfolding settings_numbers parted decimal digits ascii
line = says false false (8 ∷ 2 ∷ 0 ∷ 0 ∷ 0 ∷ 1 ∷ 0 ∷ []) (omega arith) refl

line-of-eight : (exact : Bool) → Begins (ascii "8\t2\t0\t0\t0\t1\t0\t" ++ (decimal (flag exact) ++ newline ∷ [])) (wall exact) false []
unfolding settings_numbers parted decimal digits ascii
line-of-eight true = says true false (8 ∷ 2 ∷ 0 ∷ 0 ∷ 0 ∷ 1 ∷ 0 ∷ 1 ∷ []) (omega arith) refl
line-of-eight false = says false false (8 ∷ 2 ∷ 0 ∷ 0 ∷ 0 ∷ 1 ∷ 0 ∷ 0 ∷ []) (omega arith) refl

line-of-nine : (plain : Bool) → Begins (ascii "8\t2\t0\t0\t0\t1\t0\t0\t" ++ (decimal (flag plain) ++ newline ∷ [])) (wall false) plain []
unfolding settings_numbers parted decimal digits ascii
line-of-nine true = says false true (8 ∷ 2 ∷ 0 ∷ 0 ∷ 0 ∷ 1 ∷ 0 ∷ 0 ∷ 1 ∷ []) (omega arith) refl
line-of-nine false = says false false (8 ∷ 2 ∷ 0 ∷ 0 ∷ 0 ∷ 1 ∷ 0 ∷ 0 ∷ 0 ∷ []) (omega arith) refl

-- with the marks of the two rows, as A5 gives them
listing : listing_text 8 0 ((2 ∷ 5 ∷ []) ∷ [] ∷ []) (2 ∷ 0 ∷ []) 5 ≡ ascii "columns\t8\nrow\t1\t2\t2\t2\t5\nrow\t2\t0\t0\nstop\t0\t2\t5\n"
unfolding listing_text row_lines text_line tabbed decimal digits ascii
listing = refl

-- more digits than one, and 0 itself
numbers : tabbed (0 ∷ 1728 ∷ 4294967295 ∷ []) ≡ ascii "\t0\t1728\t4294967295"
unfolding tabbed decimal digits ascii
numbers = refl
