-- Sheets: small pages on small forms with their verdicts, by computing. Assumes nothing.
use mathlib.Core.Path.{◌≡◌, refl}
use mathlib.Core.Bool.{Bool, true, false}
use mathlib.Core.List.{List, [], ◌∷◌}
use Prim.Native.Nat.{ℕ, zero, suc, ◌+◌}
use lib.ListN.{replicate}
use Rattle.rules.specs.Pages as Page
use Rattle.rules.specs.Pixels as P
use Rattle.settings.specs.declared.DecodeSettings.{DecodeSettings}
use Rattle.settings.specs.declared.EncodingMode.{EncodingMode}
use Rattle.settings.specs.declared.EncodingMode.TheVariants.{Group4, Group3_1D, Group3_2D}
use Rattle.heads.specs.Form as H
use Rattle.heads.specs.Numbers as N
use Rattle.form_file.specs.First.{first_of, count_of}
use Rattle.form_file.specs.declared.Form.{Form}
use Rattle.booking.specs.Found as F
use Rattle.booking.specs.Tests as T
use Rattle.booking.specs.Verdict.{judged}
use Rattle.booking.specs.declared.Finding.{Finding}

-- ---- Forms

-- n digits, each in a row of its own from `top` on: the tens box in the first columns, the units box from another on, both of one width
boxes_from : ℕ → ℕ → ℕ → ℕ → List ℕ
boxes_from width units zero top = []
boxes_from width units (suc n) top = 0 ∷ width ∷ top ∷ suc top ∷ units ∷ (units + width) ∷ top ∷ suc top ∷ boxes_from width units n (suc top)

form_for : ℕ → ℕ → ℕ → ℕ → ℕ → Bool → Form
form_for least most tick doubt places proper = record { columns = 4; least = least; most = most; tick = tick; doubt = doubt; places = places; proper = proper; across = 0; down = 0 }

-- in the last of four columns a place that must be black in the first row (the form's line 3), and one that must be white below it (line 4)
placed : List ℕ
placed = 1 ∷ 3 ∷ 4 ∷ 0 ∷ 1 ∷ 1 ∷ 3 ∷ 0 ∷ 3 ∷ 4 ∷ 1 ∷ 10 ∷ 0 ∷ 4 ∷ []

-- ---- Readings

settings : ℕ → EncodingMode → Bool → DecodeSettings
settings columns e exact = record {
  columns = columns;
  rows = 0;
  end_of_block = true;
  end_of_line = false;
  rows_are_byte_aligned = false;
  encoding = e;
  strict = false;
  exact = exact;
  plain = false;
}

-- an answer by its number, of five bytes
answered : ℕ → List (List ℕ) → List ℕ → Page.Answer
answered number rows marks = record { number = number; place = 0; bytes = 5; rows = rows; marks = marks; loose = [] }

clean : ℕ → List ℕ
clean rows = replicate rows 0

-- four tens and no units, with the mark in the first row; the same rows without it
forty : List (List ℕ)
forty = (2 ∷ []) ∷ [] ∷ [] ∷ [] ∷ (0 ∷ 1 ∷ []) ∷ [] ∷ [] ∷ [] ∷ [] ∷ [] ∷ []

unmarked : List (List ℕ)
unmarked = (2 ∷ 3 ∷ []) ∷ [] ∷ [] ∷ [] ∷ (0 ∷ 1 ∷ []) ∷ [] ∷ [] ∷ [] ∷ [] ∷ [] ∷ []

-- ---- Verdicts

-- the number, and what the words need: box or column, the form's line, the row, the count, and its bounds
told : Finding → List ℕ
told f = f.number ∷ f.which ∷ f.line ∷ f.row ∷ f.count ∷ f.least ∷ f.most ∷ []

-- the number and the heads
numbered : Finding → List ℕ
numbered f = f.number ∷ f.heads ∷ []

-- on the form with places, of ten rows
on : EncodingMode → ℕ → List (List ℕ) → List ℕ → Finding
on e size rows marks = judged (form_for 10 10 1 1 2 false) (boxes_from 1 2 10 0) placed (settings 4 e true) size false false 0 (answered 0 rows marks)

-- on one without places, whose boxes begin a row lower
below : EncodingMode → List (List ℕ) → List ℕ → Finding
below e rows marks = judged (form_for 11 11 1 1 0 false) (boxes_from 1 2 10 1) [] (settings 4 e true) 5 false false 0 (answered 0 rows marks)

-- on one whose boxes are two columns wide: two pixels are a tick, and one is a doubt
wide : List (List ℕ) → Finding
wide rows = judged (form_for 10 10 2 1 0 false) (boxes_from 2 2 10 0) [] (settings 4 Group4 true) 5 false false 0 (answered 0 rows (clean 10))

-- on one of nine rows or ten, without places
loose : Bool → List (List ℕ) → Finding
loose exact rows = judged (form_for 9 10 1 1 0 false) (boxes_from 1 2 10 0) [] (settings 4 Group4 exact) 5 false false 0 (answered 0 rows (clean 10))

-- by whether EOLs were given up, whether the form asks for proper pages, and whether it is one, which parts at bit 17 else
watched : Bool → Bool → Bool → List (List ℕ) → Finding
watched gave asks proper rows = judged (form_for 10 10 1 1 2 asks) (boxes_from 1 2 10 0) placed (settings 4 Group4 true) 5 gave proper 17 (answered 0 rows (clean 10))

record Sheets : Type 0 where
  counted : numbered (on Group4 5 forty (clean 10)) ≡ 0 ∷ 40 ∷ []
  -- the reading stopped with 1, in the third row
  stopped : told (judged (form_for 10 10 1 1 2 false) (boxes_from 1 2 10 0) placed (settings 4 Group4 true) 5 false false 0 (answered 1 ((2 ∷ []) ∷ [] ∷ []) (clean 2))) ≡ 1 ∷ 0 ∷ 0 ∷ 3 ∷ 0 ∷ 0 ∷ 0 ∷ []
  -- a form of 79 numbers
  no-form : told (judged (form_for 10 10 1 1 2 false) (replicate 79 0) placed (settings 4 Group4 true) 5 false false 0 (answered 0 forty (clean 10))) ≡ 11 ∷ 0 ∷ 0 ∷ 0 ∷ 0 ∷ 0 ∷ 0 ∷ []
  -- the tens boxes of 4 and 5
  two-ticks : told (on Group4 5 ((2 ∷ []) ∷ [] ∷ [] ∷ [] ∷ (0 ∷ 1 ∷ []) ∷ (0 ∷ 1 ∷ []) ∷ [] ∷ [] ∷ [] ∷ [] ∷ []) (clean 10)) ≡ 12 ∷ 0 ∷ 0 ∷ 0 ∷ 2 ∷ 1 ∷ 1 ∷ []
  -- the third row was cut to width, under the tens box of 2
  not-clean : told (on Group3_1D 5 forty (0 ∷ 0 ∷ 1 ∷ clean 7)) ≡ 13 ∷ 4 ∷ 0 ∷ 3 ∷ 1 ∷ 0 ∷ 0 ∷ []
  -- the form has four columns
  five-columns : told (judged (form_for 10 10 1 1 2 false) (boxes_from 1 2 10 0) placed (settings 5 Group4 true) 5 false false 0 (answered 0 forty (clean 10))) ≡ 16 ∷ 0 ∷ 0 ∷ 0 ∷ 5 ∷ 4 ∷ 0 ∷ []
  -- four bytes more than were read
  second-page : told (on Group4 9 forty (clean 10)) ≡ 17 ∷ 0 ∷ 0 ∷ 0 ∷ 4 ∷ 0 ∷ 0 ∷ []
  row-lost : told (on Group4 5 ((2 ∷ []) ∷ (0 ∷ 1 ∷ []) ∷ []) (clean 2)) ≡ 18 ∷ 0 ∷ 0 ∷ 0 ∷ 2 ∷ 10 ∷ 10 ∷ []
  -- the first row was recovered: no box is in it, but all rows below were read under it; read by itself each row below counts
  rests-on : told (below Group4 ([] ∷ unmarked) (2 ∷ clean 10)) ≡ 19 ∷ 0 ∷ 0 ∷ 1 ∷ 2 ∷ 0 ∷ 0 ∷ []
  rests-tagged : told (below Group3_2D ([] ∷ unmarked) (2 ∷ clean 10)) ≡ 19 ∷ 0 ∷ 0 ∷ 1 ∷ 2 ∷ 0 ∷ 0 ∷ []
  by_itself : numbered (below Group3_1D ([] ∷ unmarked) (2 ∷ clean 10)) ≡ 0 ∷ 40 ∷ []
  no-mark : told (on Group4 5 unmarked (clean 10)) ≡ 20 ∷ 0 ∷ 3 ∷ 0 ∷ 0 ∷ 1 ∷ 0 ∷ []
  -- the fifth row is black in the last column too
  not_white : told (on Group4 5 ((2 ∷ []) ∷ [] ∷ [] ∷ [] ∷ (0 ∷ 1 ∷ 3 ∷ []) ∷ [] ∷ [] ∷ [] ∷ [] ∷ [] ∷ []) (clean 10)) ≡ 21 ∷ 0 ∷ 4 ∷ 0 ∷ 1 ∷ 0 ∷ 0 ∷ []
  -- one pixel in the tens box of 7
  doubted : told (wide ((2 ∷ []) ∷ [] ∷ [] ∷ [] ∷ (0 ∷ 2 ∷ []) ∷ [] ∷ [] ∷ (1 ∷ 2 ∷ []) ∷ [] ∷ [] ∷ [])) ≡ 22 ∷ 14 ∷ 0 ∷ 0 ∷ 1 ∷ 1 ∷ 2 ∷ []
  -- a range of rows and no places; read exactly, it counts
  unfit : told (loose false unmarked) ≡ 41 ∷ 0 ∷ 0 ∷ 0 ∷ 0 ∷ 9 ∷ 10 ∷ []
  exact : numbered (loose true unmarked) ≡ 0 ∷ 40 ∷ []
  -- EOLs that were given up come before the rows; a page that is not proper behind them, and before its pixels
  given-up : told (watched true true false []) ≡ 23 ∷ 0 ∷ 0 ∷ 0 ∷ 0 ∷ 0 ∷ 0 ∷ []
  few_rows : told (watched false true false []) ≡ 18 ∷ 0 ∷ 0 ∷ 0 ∷ 0 ∷ 10 ∷ 10 ∷ []
  not-proper : told (watched false true false unmarked) ≡ 24 ∷ 0 ∷ 0 ∷ 0 ∷ 17 ∷ 0 ∷ 0 ∷ []
  is-proper : numbered (watched false true true forty) ≡ 0 ∷ 40 ∷ []
  never_asked : numbered (watched false false false forty) ≡ 0 ∷ 40 ∷ []

sheets : Sheets
unfolding on below wide loose watched told numbered settings answered clean forty unmarked placed form_for boxes_from judged F.on_form T.on_page T.tested T.bad_row T.lowest T.wrong_at T.not_one first_of count_of H.sum H.every H.all H.pixel H.black_in H.tick_table H.ticks H.heads_in H.given H.clean_under H.clean H.heads_on N.form_from P.colour_at
sheets = record {
  counted = refl;
  stopped = refl;
  no-form = refl;
  two-ticks = refl;
  not-clean = refl;
  five-columns = refl;
  second-page = refl;
  row-lost = refl;
  rests-on = refl;
  rests-tagged = refl;
  by_itself = refl;
  no-mark = refl;
  not_white = refl;
  doubted = refl;
  unfit = refl;
  exact = refl;
  given-up = refl;
  few_rows = refl;
  not-proper = refl;
  is-proper = refl;
  never_asked = refl;
}
