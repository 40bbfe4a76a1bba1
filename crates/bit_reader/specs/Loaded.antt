-- What a buffer holds of the data.
use Rattle.std.specs.Prelude.{◌≡◌, Bool, List, ℕ, ◌+◌, ◌-◌, ◌*◌, ◌^◌, ◌≤◌, ◌<◌, length, drop, Option, Some, None}
use Rattle.rules.specs.Bits.{bits_of, peek}
use Rattle.rules.specs.Pages.{most_bytes}
use Rattle.bit_reader.specs.declared.buffer.Buffer.{Buffer}

-- the first `live` bits on top of a word of 64, zeros below
abbrev pub on_top : ℕ → List Bool → ℕ
on_top live bs = peek live bs * 2 ^ (64 - live)

-- the next `live` bits from `at` on, which are all of the data, on top of a word
pub record Ahead (bytes : List ℕ) (at live bits : ℕ) : Type 0 where
  pub most : live ≤ 64
  pub there : at + live ≤ 8 * length bytes
  pub holds : bits ≡ on_top live (drop at (bits_of bytes))

-- `live` bits from `at` on, above zeros. Up to the limit, which is inside the data, at least 13 are left.
pub record Loaded (bytes : List ℕ) (b : Buffer) : Type 0 where
  pub live : ℕ
  pub most : live ≤ 64
  pub holds : b.bits ≡ on_top live (drop b.at (bits_of bytes))
  pub enough : b.limit + 13 ≤ b.at + live
  pub reached : b.at ≤ b.limit
  pub inside : b.limit ≤ 8 * length bytes

-- the same at an offset
pub record LoadedAt (bytes : List ℕ) (at : ℕ) (b : Buffer) : Type 0 where
  pub place : b.at ≡ at
  pub loaded : Loaded bytes b

-- what `load` asks: an offset inside the data
pub record Loading (bytes : List ℕ) (at : ℕ) : Type 0 where
  pub size : length bytes ≤ most_bytes
  pub inside : at ≤ 8 * length bytes

-- what `feed` asks; no code is longer than 13 bits, and an entry of a lookup table has room for 15
pub record Feeding (bytes : List ℕ) (b : Buffer) (n : ℕ) : Type 0 where
  pub size : length bytes ≤ most_bytes
  pub loaded : Loaded bytes b
  pub few : n ≤ 15

-- what `feed` answers: a buffer at the offset, or that the data ends before it
abbrev pub fed_at : List ℕ → ℕ → Option Buffer → Type 0
fed_at bytes next (Some b) = LoadedAt bytes next b
fed_at bytes next None = 8 * length bytes < next

-- the number of the next 13 bits of the data that a buffer holds, and that it is an index of a lookup table
pub record Top (b : Buffer) (r : ℕ) : Type 0 where
  pub value : (bytes : List ℕ) → Loaded bytes b → r ≡ peek 13 (drop b.at (bits_of bytes))
  pub small : r < 8192
