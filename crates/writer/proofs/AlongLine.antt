-- A place on a 2D line between two of its codes: what holds there, and which code comes next by what was found. It serves any loop over a line's codes.
-- Assumes nothing.
use mathlib.Core.Path.{◌≡◌, refl, ap, ◌∙◌}
use mathlib.Core.Bool.{Bool}
use mathlib.Core.List.{List, [], ◌++◌}
use Prim.Native.Nat.{ℕ, zero, suc, ◌+◌, ◌-◌, ◌*◌, ◌≤◌, ◌<◌}
use native.Mathlib.Omega.{arith}
use lib.ListN.{length, drop}
use Rattle.rules.specs.Codes.{Colour, opposite}
use Rattle.rules.specs.Modes.{pass, mode_bits}
use Rattle.rules.specs.Lines.{right_of_a0, head_or, tail}
use Rattle.rules.specs.Write.{vertical_to, bits_2d, line_bits}
use Rattle.rules.specs.Rising.{Rising}
use Rattle.rules.proofs.Ascending.{rises-lower, head-low, head-fits, tail-rises, rises-length}
use Rattle.rules.proofs.Ahead.{left_over}
use Rattle.tables.specs.Tables.{colour_of}
use Rattle.context.specs.declared.reference.FoundChanges.{FoundChanges}
use Rattle.context.specs.Reference.{Passed, Searches, Finds}
use Rattle.context.proofs.Search.{right-grows, passed_none, passed_on, drop-next}
use Rattle.writer.specs.Coding.{apart, across, line_of}
use Rattle.writer.proofs.ModeCodes.{near_by, near-not}
use Rattle.writer.proofs.Turns.{Turn, bits-end, pass-turn, vertical-turn, horizontal-turn}

-- the other colour, as a number
pub colour-turns : (colour : ℕ) → colour ≤ 1 → colour_of (1 - colour) ≡ opposite (colour_of colour)
colour-turns zero h = refl
colour-turns (suc zero) h = refl
colour-turns (suc (suc c)) h = absurd (omega arith)

-- the changes after the second of them
drop-two : (xs : List ℕ) (i : ℕ) → drop (i + 2) xs ≡ tail (tail (drop i xs))
drop-two xs i =
    ap (λ (j : ℕ). drop j xs) (let q : i + 2 ≡ i + 1 + 1 = omega arith in q) ∙ drop-next xs (i + 1) ∙ ap tail (drop-next xs i)

-- `fuel` is how many codes the line may still have; each is of at most two changes
pub record Along (width : ℕ) (reference row : List ℕ) (position colour place seen fuel : ℕ) : Type 0 where
  pub enough : left_over width position (drop place row) < fuel
  pub slow : place + 2 * fuel ≤ 2 + 2 * (width + length row)
  pub fits : position ≤ width
  pub rises : Rising width position (drop place row)
  pub coloured : colour ≤ 1
  pub passed : Passed (right_of_a0 position) seen reference

-- the bits that are still to come
abbrev pub to_come : (width : ℕ) (reference row : List ℕ) (position colour place fuel : ℕ) → List Bool
to_come width reference row position colour place fuel = bits_2d width reference fuel (colour_of colour) position (drop place row)

-- before the first code all of the line's
abbrev pub fuel_for : ℕ → List ℕ → ℕ
fuel_for width row = suc (width + length row)

pub start : (width : ℕ) (reference row : List ℕ) → Rising width 0 row → Along width reference row 0 0 0 0 (fuel_for width row)
start width reference row r = record {
  enough = omega arith;
  slow = omega arith;
  fits = omega arith;
  rises = r;
  coloured = omega arith;
  passed = passed_none _ reference;
}

pub start-all : (width : ℕ) (reference row : List ℕ) → line_of width reference row ≡ to_come width reference row 0 0 0 (fuel_for width row)
unfolding line_bits
start-all width reference row = refl

module _ {width : ℕ} {reference row : List ℕ} {position colour place seen fuel : ℕ} (a : Along width reference row position colour place seen fuel) where
  abbrev left : List Bool
  left = to_come width reference row position colour place fuel

  -- at the width none are
  pub none_left : width ≤ position → left ≡ []
  none_left h = bits-end width reference fuel (colour_of colour) position (drop place row) (let q = a.fits in omega arith)

  -- two more places are still numbers
  pub place-few : width < 4294967295 → Rising width 0 row → place + 2 < 18446744073709551616
  place-few h r = omega (arith, a.slow, a.enough, rises-length (omega arith) r)

  -- what a search may rely on
  pub searches : Rising width 0 reference → position < 4294967295 → Searches reference seen width position colour
  searches r h = record { rising = r; passed = a.passed; narrow = h; two_colours = a.coloured }

  -- behind a code
  module _ {xs : List Bool} {c' : Colour} {p' : ℕ} (place' : ℕ)
      (t : Turn width reference (colour_of colour) position (drop place row) xs c' p' (drop place' row)) where
    pub left_is : left ≡ xs ++ bits_2d width reference (fuel - 1) c' p' (drop place' row)
    left_is =
        ap (λ (m : ℕ). bits_2d width reference m (colour_of colour) position (drop place row)) (let q : fuel ≡ suc (fuel - 1) = omega (arith, a.enough) in q)
        ∙ t.bits (fuel - 1)

    module _ (colour' : ℕ) (e : c' ≡ colour_of colour') (h : colour' ≤ 1) (k : place' ≤ place + 2) where
      pub left-then : left ≡ xs ++ to_come width reference row p' colour' place' (fuel - 1)
      left-then = left_is ∙ ap (λ (c : Colour). xs ++ bits_2d width reference (fuel - 1) c p' (drop place' row)) e

      pub onward : {seen' : ℕ} → Passed (right_of_a0 position) seen' reference → Along width reference row p' colour' place' seen' (fuel - 1)
      onward passed = record {
        enough = omega (arith, t.less, a.enough);
        slow = omega (arith, a.slow, a.enough);
        fits = t.fits;
        rises = t.rises;
        coloured = h;
        passed = passed_on passed (right-grows position p' t.on);
      }

  -- ---- The code that comes next, by what was found

  module _ (r : Rising width 0 reference) (h : position < width) {found : FoundChanges} (f : Finds reference width position (colour_of colour) found) {a1 : ℕ}
      (e : a1 ≡ head_or width (drop place row)) where
    -- a1 lies at the position or behind it
    pub a1-low : position ≤ a1
    a1-low = rw e (head-low a.fits a.rises)

    -- pass mode, to b2
    pub passes : found.b2 < a1
        → Turn width reference (colour_of colour) position (drop place row) (mode_bits pass) (colour_of colour) found.b2 (drop place row)
    passes k = rw f.b2-is (pass-turn width reference (colour_of colour) position (drop place row) h a.rises r (rw (← f.b2-is, ← e) k))

    module _ (k : a1 ≤ found.b2) where
      -- vertical mode, to a1
      pub verticals : apart found.b1 a1 ≤ 3
          → Turn width reference (colour_of colour) position (drop place row) (mode_bits (vertical_to found.b1 a1)) (colour_of (1 - colour)) a1
          (drop (place + 1) row)
      verticals b =
          rw (colour-turns colour a.coloured, drop-next row place, e, f.b1-is)
          (vertical-turn width reference (colour_of colour) position (drop place row) h a.rises (rw (← f.b2-is, ← e) k)
          (rw (← f.b1-is, ← e) (near_by found.b1 a1 b)))

      module _ (b : 3 < apart found.b1 a1) {a2 : ℕ} (d : a2 ≡ head_or width (drop (place + 1) row)) where
        -- a2 lies at a1 or behind it
        pub a2-low : a1 ≤ a2
        a2-low = rw (d, drop-next row place, e) (head-low (head-fits a.rises) (rises-lower (omega arith) (tail-rises a.rises)))

        -- horizontal mode, to a2
        pub horizontals : Turn width reference (colour_of colour) position (drop place row) (across (colour_of colour) (a1 - position) (a2 - a1))
            (colour_of colour) a2 (drop (place + 2) row)
        horizontals =
            rw (drop-two row place, d, drop-next row place, e)
            (horizontal-turn width reference (colour_of colour) position (drop place row) h a.rises (rw (← f.b2-is, ← e) k)
            (rw (← f.b1-is, ← e) (near-not found.b1 a1 b)))
