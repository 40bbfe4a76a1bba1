-- How long a page can be at most, by its width, its rows and its entries alone; and whether it fits.
use Rattle.std.specs.Prelude.{◌≡◌, Bool, true, false, List, [], ◌∷◌, ℕ, ◌+◌, ◌*◌, ◌/◌, ◌≤◌, ◌<◌, length}

-- where the last row ends
unfoldable pub last_end : ℕ → List ℕ → ℕ
last_end base [] = base
last_end base (e ∷ es) = last_end e es

-- the bits of a row at most, beside those of its entries: 13 for each 64 pixels, and 106 for a line's last code and for what stands before the line
abbrev pub most_row : ℕ → ℕ
most_row width = 13 * (width / 64) + 106

-- and those of a page: 17 for each entry, as a change of its own row and of the next row's reference, and what stands behind the last line
abbrev pub most_bits : ℕ → ℕ → ℕ → ℕ
most_bits width rows entries = 17 * entries + rows * most_row width + 136

-- whether bits are more than the output has, which is as it was
pub record Measured (xs : List Bool) (out : List ℕ) (r : Bool) (out' : List ℕ) : Type 0 where
  pub over : r ≡ true → 8 * length out < length xs
  pub fits : r ≡ false → length xs ≤ 8 * length out
  pub kept : out' ≡ out
