-- Sheets: small form files with what the definitions make of them, by computing. Assumes nothing.
use mathlib.Core.Path.{◌≡◌, refl}
use mathlib.Core.Bool.{true, false}
use mathlib.Core.List.{List, [], ◌∷◌, ◌++◌}
use Prim.Native.Nat.{ℕ}
use lib.Dec.{eqb}
use lib.ListN.{replicate}
use Rattle.listing_text.specs.Text.{ascii}
use Rattle.listing_text.specs.Lines.{pieces}
use Rattle.heads.specs.Form.{all}
use Rattle.form_file.specs.First.{first_of}
use Rattle.form_file.specs.Words.{uncommented, filled, same, value_from, values_of}
use Rattle.form_file.specs.Said.{by_word, line_says}
use Rattle.form_file.specs.Heard.{set_four}
use Rattle.form_file.specs.FormFile.{first_missing, faulty, whole, hearing, read_form}
use Rattle.form_file.specs.declared.Form.{Form}
use Rattle.form_file.specs.declared.Formed.{Formed}

-- a form of ten rows and four columns: tens in the first, units in the third; the fourth has a black mark in its first row and is white else
tens_lines : List ℕ
tens_lines = ascii "tens 0 0 1 0 1\ntens 1 0 1 1 2\ntens 2 0 1 2 3\ntens 3 0 1 3 4\ntens 4 0 1 4 5\ntens 5 0 1 5 6\ntens 6 0 1 6 7\ntens 7 0 1 7 8\ntens 8 0 1 8 9\ntens 9 0 1 9 10\n"

units_lines : List ℕ
units_lines = ascii "units 1 2 3 1 2\nunits 2 2 3 2 3\nunits 3 2 3 3 4\nunits 4 2 3 4 5\nunits 5 2 3 5 6\nunits 6 2 3 6 7\nunits 7 2 3 7 8\nunits 8 2 3 8 9\nunits 9 2 3 9 10\n"

-- the lines of the boxes, with the units of 0 at a place
box_lines_at : List ℕ → List ℕ
box_lines_at units = (tens_lines ++ units) ++ units_lines

box_lines : List ℕ
box_lines = box_lines_at (ascii "units 0 2 3 0 1\n")

small : List ℕ
small = ascii "page 4 10 # columns, rows\ntick 1\nblack 3 4 0 1 1\nwhite 3 4 1 10 0\n" ++ box_lines

small_form : Form
small_form = record { columns = 4; least = 10; most = 10; tick = 1; doubt = 1; places = 2; proper = false; across = 0; down = 0 }

-- what is lent for the boxes
lent : List ℕ
lent = replicate 80 7

formed : Form → Formed
formed f = record { number = 0; which = 0; line = 0; form = f }

-- a text that is a form, where fourteen numbers are lent: enough for two places
sound : (read_form small lent 14).formed ≡ formed small_form
unfolding small small_form formed box_lines box_lines_at tens_lines units_lines lent ascii read_form hearing whole first_missing line_says by_word set_four pieces uncommented filled same value_from values_of first_of all
sound = refl

-- and one that asks for proper pages alone
proper_form : Form
proper_form = record { columns = 4; least = 10; most = 10; tick = 1; doubt = 1; places = 2; proper = true; across = 0; down = 0 }

only-proper : (read_form (ascii "proper\n" ++ small) lent 14).formed ≡ formed proper_form
unfolding small proper_form formed box_lines box_lines_at tens_lines units_lines lent ascii read_form hearing whole first_missing line_says by_word set_four pieces uncommented filled same value_from values_of first_of all
only-proper = refl

-- and one that may lie seven pixels aside
shift_form : Form
shift_form = record { columns = 4; least = 10; most = 10; tick = 1; doubt = 1; places = 2; proper = false; across = 7; down = 0 }

shifted : (read_form (ascii "shift 7 0\n" ++ small) lent 14).formed ≡ formed shift_form
unfolding small shift_form formed box_lines box_lines_at tens_lines units_lines lent ascii read_form hearing whole first_missing line_says by_word set_four pieces uncommented filled same value_from values_of first_of all
shifted = refl

-- the numbers of the places: black, its edges, the count and the line; and then those of the second
places : (read_form small lent 14).places ≡ 1 ∷ 3 ∷ 4 ∷ 0 ∷ 1 ∷ 1 ∷ 3 ∷ 0 ∷ 3 ∷ 4 ∷ 1 ∷ 10 ∷ 0 ∷ 4 ∷ []
unfolding small box_lines box_lines_at tens_lines units_lines lent ascii read_form hearing whole first_missing line_says by_word set_four pieces uncommented filled same value_from values_of first_of all
places = refl

-- a byte-order mark in front of it is skipped
with-mark : (read_form (239 ∷ 187 ∷ 191 ∷ small) lent 14).formed ≡ formed small_form
unfolding small small_form formed box_lines box_lines_at tens_lines units_lines lent ascii read_form hearing whole first_missing line_says by_word set_four pieces uncommented filled same value_from values_of first_of all
with-mark = refl

-- each line feed with a carriage return in front
on_other : List ℕ → List ℕ
on_other [] = []
on_other (b ∷ bs) = elim (eqb b 10) [ true ↦ 13 ∷ 10 ∷ on_other bs | false ↦ b ∷ on_other bs ]

-- lines that end as other systems end them
other-ends : (read_form (on_other small) lent 14).formed ≡ formed small_form
unfolding small small_form formed on_other box_lines box_lines_at tens_lines units_lines lent ascii read_form hearing whole first_missing line_says by_word set_four pieces uncommented filled same value_from values_of first_of all
other-ends = refl

-- a text that is none, with what is wrong
bad : (text : List ℕ) (number which line : ℕ) → Type 0
bad text number which line = (read_form text lent 14).formed ≡ faulty number which line

no_line : bad (ascii "tens 0 0 1 0 1\n\n# a comment\ntens 1 0 1 1\n") 32 0 4
unfolding bad lent ascii read_form hearing whole first_missing line_says by_word set_four pieces uncommented filled same value_from values_of first_of all
no_line = refl

no_number : bad (ascii "tick 4294967296") 32 0 1
unfolding bad lent ascii read_form hearing whole first_missing line_says by_word set_four pieces uncommented filled same value_from values_of first_of all
no_number = refl

twice : bad (ascii "units 3 0 1 0 1\nunits 3 0 1 0 1\n") 33 7 2
unfolding bad lent ascii read_form hearing whole first_missing line_says by_word set_four pieces uncommented filled same value_from values_of first_of all
twice = refl

proper-twice : bad (ascii "proper\ntick 1\nproper # again\n") 33 0 3
unfolding bad lent ascii read_form hearing whole first_missing line_says by_word set_four pieces uncommented filled same value_from values_of first_of all
proper-twice = refl

proper-number : bad (ascii "proper 1\n") 32 0 1
unfolding bad lent ascii read_form hearing whole first_missing line_says by_word set_four pieces uncommented filled same value_from values_of first_of all
proper-number = refl

shift-twice : bad (ascii "shift 0 1\nshift 2 0\n") 33 0 2
unfolding bad lent ascii read_form hearing whole first_missing line_says by_word set_four pieces uncommented filled same value_from values_of first_of all
shift-twice = refl

shift_one : bad (ascii "shift 1\n") 32 0 1
unfolding bad lent ascii read_form hearing whole first_missing line_says by_word set_four pieces uncommented filled same value_from values_of first_of all
shift_one = refl

-- none at all, and one that is too far
shift_none : bad (ascii "shift 0 0\n") 34 0 1
unfolding bad lent ascii read_form hearing whole first_missing line_says by_word set_four pieces uncommented filled same value_from values_of first_of all
shift_none = refl

shift-far : bad (ascii "shift 1000 1001\n") 34 0 1
unfolding bad lent ascii read_form hearing whole first_missing line_says by_word set_four pieces uncommented filled same value_from values_of first_of all
shift-far = refl

empty : bad (ascii "white 5 5 0 1 9\n") 34 0 1
unfolding bad lent ascii read_form hearing whole first_missing line_says by_word set_four pieces uncommented filled same value_from values_of first_of all
empty = refl

third-place : bad (ascii "white 0 1 0 1 9\nwhite 0 1 0 1 9\nblack 0 1 0 1 0\n") 35 0 3
unfolding bad lent ascii read_form hearing whole first_missing line_says by_word set_four pieces uncommented filled same value_from values_of first_of all
third-place = refl

no-page : bad (box_lines ++ ascii "tick 1\n") 36 20 0
unfolding bad box_lines box_lines_at tens_lines units_lines lent ascii read_form hearing whole first_missing line_says by_word set_four pieces uncommented filled same value_from values_of first_of all
no-page = refl

no-tick : bad (box_lines ++ ascii "page 4 10\n") 36 21 0
unfolding bad box_lines box_lines_at tens_lines units_lines lent ascii read_form hearing whole first_missing line_says by_word set_four pieces uncommented filled same value_from values_of first_of all
no-tick = refl

no-box : bad (ascii "page 4 10\ntick 1\ntens 0 0 1 0 1\n") 36 1 0
unfolding bad lent ascii read_form hearing whole first_missing line_says by_word set_four pieces uncommented filled same value_from values_of first_of all
no-box = refl

-- nothing to find it by
no_place : bad (ascii "page 4 10\ntick 1\nshift 1 1\n" ++ box_lines) 36 22 0
unfolding bad box_lines box_lines_at tens_lines units_lines lent ascii read_form hearing whole first_missing line_says by_word set_four pieces uncommented filled same value_from values_of first_of all
no_place = refl

-- its last row is not on every page of nine rows or ten
not-inside : bad (box_lines ++ ascii "tick 1\npage 4 9 10") 37 18 10
unfolding bad box_lines box_lines_at tens_lines units_lines lent ascii read_form hearing whole first_missing line_says by_word set_four pieces uncommented filled same value_from values_of first_of all
not-inside = refl

-- a place beyond the last column: of no box, at its line
place-outside : bad (box_lines ++ ascii "tick 1\npage 4 10\nwhite 3 5 0 1 0") 37 20 23
unfolding bad box_lines box_lines_at tens_lines units_lines lent ascii read_form hearing whole first_missing line_says by_word set_four pieces uncommented filled same value_from values_of first_of all
place-outside = refl

-- the units of 0 lie over the tens of 0
overlapping : bad (ascii "page 4 10\ntick 1\n" ++ box_lines_at (ascii "units 0 0 1 0 1\n")) 38 1 13
unfolding bad box_lines_at tens_lines units_lines lent ascii read_form hearing whole first_missing line_says by_word set_four pieces uncommented filled same value_from values_of first_of all
overlapping = refl

-- more is in doubt than is ticked: this is of no line
doubt-above : bad (box_lines ++ ascii "page 4 10\ntick 3\ndoubt 4") 34 0 0
unfolding bad box_lines box_lines_at tens_lines units_lines lent ascii read_form hearing whole first_missing line_says by_word set_four pieces uncommented filled same value_from values_of first_of all
doubt-above = refl

-- what is lent for the boxes is one number short: nothing is read
short-boxes : (read_form small (replicate 79 7) 14).formed ≡ faulty 39 0 0
unfolding small box_lines box_lines_at tens_lines units_lines ascii read_form hearing whole first_missing line_says by_word set_four pieces uncommented filled same value_from values_of first_of all
short-boxes = refl

-- where a line is at fault, the boxes have what the lines before said, and keep what was lent else
kept : (read_form (ascii "units 0 1 2 3 4\nno\n") lent 14).boxes ≡ 7 ∷ 7 ∷ 7 ∷ 7 ∷ 1 ∷ 2 ∷ 3 ∷ 4 ∷ replicate 72 7
unfolding lent ascii read_form hearing whole first_missing line_says by_word set_four pieces uncommented filled same value_from values_of first_of all
kept = refl
