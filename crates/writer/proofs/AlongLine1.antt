-- A place on a 1D line between two of its runs: what holds there, and which run comes next. It serves any loop over a line's runs. Assumes nothing.
use mathlib.Core.Path.{◌≡◌, refl, sym, ap, ◌∙◌, subst}
use mathlib.Core.Bool.{Bool}
use mathlib.Core.List.{List, ◌∷◌, ◌++◌}
use Prim.Native.Nat.{ℕ, suc, ◌+◌, ◌-◌, ◌≤◌, ◌<◌}
use native.Mathlib.Omega.{arith}
use native.Mathlib.Numerals.{add-one}
use lib.ListN.{length, get_or, drop, drop_of_length-le}
use lib.Seq.{drop-cons}
use Rattle.rules.specs.Codes.{Colour}
use Rattle.rules.specs.Write.{run_bits, bits_1d, line_bits}
use Rattle.rules.specs.Rising.{Rising, some}
use Rattle.rules.proofs.Ascending.{rises-lower}
use Rattle.tables.specs.Tables.{colour_of}
use Rattle.writer.specs.Coding.{line1_of}
use Rattle.writer.proofs.AlongLine.{colour-turns}

pub record Along1 (width : ℕ) (row : List ℕ) (position colour place : ℕ) : Type 0 where
  pub fits : position ≤ width
  pub rises : Rising width position (drop place row)
  pub coloured : colour ≤ 1

-- the runs that are still to come: to the changes from `place` on, and to the width
abbrev pub runs_to_come : (width : ℕ) (row : List ℕ) (position colour place : ℕ) → List Bool
runs_to_come width row position colour place = bits_1d width (colour_of colour) position (drop place row)

-- before the first all of the line's
pub start1 : (width : ℕ) (row : List ℕ) → Rising width 0 row → Along1 width row 0 0 0
start1 width row r = record { fits = omega arith; rises = r; coloured = omega arith }

pub start1-all : (width : ℕ) (row : List ℕ) → line1_of width row ≡ runs_to_come width row 0 0 0
unfolding line_bits
start1-all width row = refl

module _ {width : ℕ} {row : List ℕ} {position colour place : ℕ} (a : Along1 width row position colour place) where
  -- ---- A run to a change

  module _ (h : place < length row) where
    abbrev change : ℕ
    change = get_or row place 0

    -- the change lies from the position on and below the width, and the others behind it
    ahead : (position ≤ change) × (change < width) × Rising width (suc change) (drop (place + 1) row)
    ahead = cases (subst (Rising width position) (drop-cons row place 0 h ∙ rw (add-one place)) a.rises)
      where
        cases : Rising width position (change ∷ drop (place + 1) row) → (position ≤ change) × (change < width) × Rising width (suc change) (drop (place + 1) row)
        cases (some a b r) = (a, b, r)

    pub change-low : position ≤ change
    change-low = ahead.0

    -- it comes first,
    pub run-first : runs_to_come width row position colour place ≡ run_bits (colour_of colour) (change - position) ++ runs_to_come width row change (1 - colour) (place + 1)
    unfolding bits_1d
    run-first =
        ap (bits_1d width (colour_of colour) position) (drop-cons row place 0 h)
        ∙ ap (λ (c : Colour). run_bits (colour_of colour) (change - position) ++ bits_1d width c change (drop (suc place) row)) (sym (colour-turns colour a.coloured))
        ∙ rw (add-one place)

    -- and behind it
    pub onward1 : Along1 width row change (1 - colour) (place + 1)
    onward1 = record { fits = omega (arith, ahead.1); rises = rises-lower (omega arith) ahead.2; coloured = omega arith }

  -- ---- The run to the width

  pub run-last : length row ≤ place → runs_to_come width row position colour place ≡ run_bits (colour_of colour) (width - position)
  unfolding bits_1d
  run-last h = ap (bits_1d width (colour_of colour) position) (drop_of_length-le row h)
