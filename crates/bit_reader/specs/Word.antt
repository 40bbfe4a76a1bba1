-- Eight bytes as one number.
use Rattle.std.specs.Prelude.{List, ℕ, ◌+◌, ◌*◌, ◌≤◌, length, get_or}

-- eight bytes, the first the most significant
abbrev pub joined : ℕ → ℕ → ℕ → ℕ → ℕ → ℕ → ℕ → ℕ → ℕ
joined a b c d e f g h = ((((((a * 256 + b) * 256 + c) * 256 + d) * 256 + e) * 256 + f) * 256 + g) * 256 + h

-- the eight bytes from a place on
abbrev pub eight_at : List ℕ → ℕ → ℕ
eight_at bytes i =
    joined (get_or bytes i 0) (get_or bytes (i + 1) 0) (get_or bytes (i + 2) 0) (get_or bytes (i + 3) 0)
    (get_or bytes (i + 4) 0) (get_or bytes (i + 5) 0) (get_or bytes (i + 6) 0) (get_or bytes (i + 7) 0)

-- what `slow` asks: at most eight bytes from a byte of the data or its end
pub record Few (bytes : List ℕ) (i n : ℕ) : Type 0 where
  pub inside : i ≤ length bytes
  pub few : n ≤ 8
