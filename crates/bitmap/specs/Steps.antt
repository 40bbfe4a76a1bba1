-- What the inner functions of painting ask and answer: 64 pixels at a time, as a number of which a one is black.
use Rattle.std.specs.Prelude.{◌≡◌, Bool, true, false, List, [], ◌∷◌, ◌++◌, ℕ, zero, suc, ◌+◌, ◌-◌, ◌*◌, ◌/◌, ◌%◌, ◌^◌, ◌≤◌, ◌<◌, length, get_or, take}
use Rattle.rules.specs.Codes.{Colour, white, opposite}
use Rattle.rules.specs.Pixels.{Pixels, colour_at}
use Rattle.rules.specs.Rising.{Rising}
use Rattle.rules.specs.Rows.{bytes_to}
use Rattle.row_store.specs.Store.{good_rows}
use Rattle.bitmap.specs.Packed.{bit_for, packed, padded, reach}
use Rattle.bitmap.specs.declared.pixels.Span.{Span}

-- ---- 64 pixels

-- the colour behind so many changes
unfoldable pub colour_after : ℕ → Colour
colour_after zero = white
colour_after (suc k) = opposite (colour_after k)

abbrev pub is_black : Colour → Bool
is_black c = bit_for true c

-- the pixels of a row's first k changes, and whether each is black
abbrev pub pixels_to : ℕ → List ℕ → Pixels
pixels_to k row = colour_at white (take k row)

abbrev pub black_to : ℕ → List ℕ → ℕ → Bool
black_to k row i = is_black (pixels_to k row i)

-- the lowest ones of a word, from its bit `at` on; the highest bit is bit 0
abbrev pub ones_from : ℕ → ℕ
ones_from at = 2 ^ (64 - at) - 1

-- from bit `at` on they are all ones, or all zeros
abbrev pub Turnable : Bool → ℕ → ℕ → Type 0
Turnable true bits at = bits % 2 ^ (64 - at) ≡ ones_from at
Turnable false bits at = bits % 2 ^ (64 - at) ≡ 0

-- Before the pixels from `from` on: of the row's changes `next` lie left of them, and the colour behind these is black or not.
pub record Standing (width : ℕ) (row : List ℕ) (next : ℕ) (black : Bool) (from : ℕ) : Type 0 where
  pub rises : Rising width 0 row
  pub inside : next ≤ length row
  pub shade : black ≡ is_black (colour_after next)
  pub passed : (i : ℕ) → from ≤ i → pixels_to next row i ≡ colour_after next
  pub ahead : next < length row → from ≤ get_or row next 0

-- the next 64 pixels, and what stands behind them
pub record Has (width : ℕ) (row : List ℕ) (from : ℕ) (w : Span) : Type 0 where
  pub standing : Standing width row w.next w.black (from + 64)
  pub bits : w.bits ≡ packed (black_to w.next row) 64 from
  pub whole : (i : ℕ) → i < from + 64 → colour_at white row i ≡ pixels_to w.next row i

-- ---- Bytes

-- byte j of a word of eight, and the first n of them
abbrev pub byte_at : ℕ → ℕ → ℕ
byte_at bits j = bits / 2 ^ (56 - 8 * j) % 256

unfoldable pub top_bytes : ℕ → ℕ → List ℕ
top_bytes zero bits = []
top_bytes (suc n) bits = top_bytes n bits ++ byte_at bits n ∷ []

-- the first n bytes of a word stand from byte i on, and those before it stay
pub record Puts (n i bits : ℕ) (out out' : List ℕ) : Type 0 where
  pub front : take (i + n) out' ≡ take i out ++ top_bytes n bits
  pub size : length out' ≡ length out

-- ---- Rows

-- whether a row's pixel is black; behind the width none is
abbrev pub black_in : ℕ → List ℕ → ℕ → Bool
black_in width row i = is_black (padded width row i)

-- what a row's painter asks: a row, and as many bytes as it has
pub record Sheet (width : ℕ) (row out : List ℕ) : Type 0 where
  pub some : 0 < width
  pub few : width < 4294967296
  pub rises : Rising width 0 row
  pub size : length out ≡ bytes_to width

-- what the painter of a store's rows asks: a store that passed its test, and bytes in which its rows lie
pub record Sheets (width stride : ℕ) (changes ends : List ℕ) (size : ℕ) : Type 0 where
  pub some : 0 < width
  pub few : width < 4294967295
  pub wide : bytes_to width ≤ stride
  pub good : good_rows width changes 0 ends ≡ true
  pub room : reach width stride (length ends) ≤ size
