-- A white 2D line under a white row is the one bit of V(0). Assumes nothing.
use mathlib.Core.Path.{◌≡◌, refl, ap, ◌∙◌}
use mathlib.Core.Bool.{Bool, true, false}
use mathlib.Core.List.{List, [], ◌∷◌}
use Prim.Native.Nat.{ℕ, ◌+◌, ◌-◌, ◌≤◌, ◌<◌}
use native.Mathlib.Omega.{arith}
use lib.ListN.{length, take, drop}
use borrow.Author.Tests.{eqb-true}
use Rattle.rules.specs.Bits.{peek}
use Rattle.rules.specs.Codes.{black}
use Rattle.rules.specs.Modes.{VR, mode_bits, moded, read_mode}
use Rattle.rules.specs.Runs.{ok}
use Rattle.rules.specs.Lines.{Rules, line, new_line, went, last_colour, recorded, from_b1, code_2d, two, read_line}
use Rattle.rules.proofs.Modes.{c-right, read-mode}
use Rattle.rules.proofs.Lines.{moves, line-more, line-done}
use Rattle.context.specs.declared.reference.Reference.{Reference}
use Rattle.context.specs.declared.reference.Reference.TheVariants as Place
use Rattle.context.specs.Coding.{reference_in}
use Rattle.context.proofs.Goes.{moves-right, vertical-goes}
use Rattle.one_line.specs.White.{under_white}

-- ---- A white line under a white one

first_one : (ds : List Bool) → peek 1 ds ≡ 1 → ds ≡ true ∷ drop 1 ds
unfolding peek
first_one [] e = absurd (omega arith)
first_one (false ∷ ds) e = absurd (omega arith)
first_one (true ∷ ds) e = refl

module _ (R : Rules) (wide : 0 < R.width) (narrow : R.width ≤ 4294967295) (bs : List Bool) (at : ℕ) (one : peek 1 (drop at bs) ≡ 1) where
  white-mode : read_mode bs at ≡ ok (moded (at + 1) (VR 0))
  unfolding mode_bits
  white-mode = read-mode (VR 0) bs (drop 1 (drop at bs)) at (c-right (omega arith)) (first_one (drop at bs) one)

  white-code : code_2d R [] bs (new_line at) ≡ went (line (at + 1) R.width black [] false)
  unfolding recorded last_colour from_b1
  white-code =
      vertical-goes R [] bs (new_line at) (at + 1) (VR 0) tt white-mode R.width
      (moves-right R.width R.width 0 0 narrow (omega arith) (omega arith)) wide (omega arith) (omega arith)

  pub white-line : read_line R (two []) bs at ≡ went (line (at + 1) R.width black [] false)
  unfolding read_line
  white-line =
      line-more R.width (code_2d R [] bs) bs (moves R (two []) bs) (new_line at) (line (at + 1) R.width black [] false) (λ z. omega arith) white-code
      ∙ line-done R.width (code_2d R [] bs) bs (moves R (two []) bs) (line (at + 1) R.width black [] false) refl

-- ---- A reference without changes

no-changes : (xs : List ℕ) → length xs ≡ 0 → xs ≡ []
no-changes [] e = refl
no-changes (x ∷ xs) e = absurd (omega arith)

pub under-white : (place : Reference) (base : ℕ) (lent xs : List ℕ) → under_white place base lent ≡ true → reference_in place base lent xs ≡ []
under-white Place.Lent base lent xs e = no-changes lent (eqb-true (length lent) 0 e)
under-white (Place.Kept start) base lent xs e =
    let n : base - start ≡ 0 = omega (arith, eqb-true start base e) in
    ap (λ (k : ℕ). take k (drop start xs)) n
