-- The colour that a test of its number picks.
use mathlib.Core.Path.{◌≡◌, refl}
use Prim.Native.Nat.{ℕ, zero, suc}
use native.Mathlib.Omega.{arith}
use Rattle.rules.specs.Codes.{Colour, white, black}
use Rattle.tables.specs.Tables.{colour_of}

-- what the test `colour == 0` tells of a number, on the way of each colour
abbrev pub Picks : Colour → ℕ → Type 0
Picks white n = n ≡ 0
Picks black n = n ≡ 0 → ⊥

pub picked : (colour : Colour) (n : ℕ) → Picks colour n → colour_of n ≡ colour
picked white zero p = refl
picked white (suc n) p = absurd (omega arith)
picked black zero p = absurd (p refl)
picked black (suc n) p = refl
