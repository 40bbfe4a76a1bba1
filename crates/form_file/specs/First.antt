-- The first of several positions that passes a test.
use Rattle.std.specs.Prelude.{Bool, true, false, ℕ, zero, suc}

-- the first of n positions from i on that passes; the one behind them where none does
unfoldable pub first_of : (ℕ → Bool) → ℕ → ℕ → ℕ
first_of test zero i = i
first_of test (suc n) i = elim (test i) [ true ↦ i | false ↦ first_of test n (suc i) ]

-- how many of n positions from i on pass
unfoldable pub count_of : (ℕ → Bool) → ℕ → ℕ → ℕ
count_of test zero i = 0
count_of test (suc n) i = elim (test i) [ true ↦ suc (count_of test n (suc i)) | false ↦ count_of test n (suc i) ]
