-- A cursor over data: the offset of a bit.
use Rattle.std.specs.Prelude.{◌≡◌, Bool, cond, List, ℕ, ◌+◌, ◌*◌, ◌≤◌, ◌<◌, leb, Option, Some, None}
use Rattle.rules.specs.Bits.{peek}
use Rattle.rules.specs.Pages.{most_bytes}

-- the bits of the largest data
abbrev pub most_bits : ℕ
most_bits = 8 * most_bytes

-- the number of the next 13 bits, and that it is an index of a lookup table
pub record Thirteen (bs : List Bool) (r : ℕ) : Type 0 where
  pub value : r ≡ peek 13 bs
  pub small : r < 8192

-- what `consume` asks: `n` bits from an offset inside data of `len` bytes
pub record Taking (len at n : ℕ) : Type 0 where
  pub size : len ≤ most_bytes
  pub inside : at ≤ 8 * len
  pub few : n ≤ 32

-- `n` bits on, where the data has them
abbrev pub moved_by : ℕ → ℕ → ℕ → Option ℕ
moved_by len at n = cond (leb (at + n) (8 * len)) (Some (at + n)) None
