-- A `match` that has an arm for each number below n and one arm for the rest.
use mathlib.Core.Path.{◌≡◌, refl}
use mathlib.Core.Bool.{Bool, true, false}
use Prim.Native.Nat.{ℕ, zero, suc, ◌≤◌, ◌<◌}
use native.Mathlib.Omega.{arith}
use lib.Dec.{ltb}
use borrow.Author.Tests.{ltb-true, ltb-false}

-- a number that none of the first n arms has taken, as the arm behind them is told it
abbrev pub Left : ℕ → ℕ → Type 0
Left zero i = Unit
Left (suc n) i = Left n i × (i ≡ n → ⊥)

-- so it is not below n
pub none_left : (n i : ℕ) → Left n i → i < n → ⊥
none_left zero i l h = omega arith
none_left (suc n) i l h = by (ltb i n) (ltb-true i n) (ltb-false i n) (none_left n i l.0)
  where
    by : (t : Bool) → (t ≡ true → i < n) → (t ≡ false → n ≤ i) → (i < n → ⊥) → ⊥
    by true f g r = r (f refl)
    by false f g r = l.1 (omega (arith, g refl))
