-- The squeezed tables: which bits each of their places stands for, and four places to a word.
use Rattle.std.specs.Prelude.{true, false, cond, ℕ, ◌+◌, ◌-◌, ◌*◌, ltb}
use Rattle.rules.specs.Bits.{bits_for}
use Rattle.rules.specs.Codes.{Colour, white, black}
use Rattle.rules.specs.Lookup.{lookup, entry_number}
use Rattle.tables.specs.Pairs.{pair_in}

-- what a colour's lookup table has for 13 bits
unfoldable pub entry_of : Colour → ℕ → ℕ
entry_of colour top = entry_number (lookup colour (bits_for 13 top))

-- the first of the bits at a place of white: 512 places go by the first 9 bits, and 32 by 12 bits that begin with seven zeros
abbrev pub white_bits : ℕ → ℕ
white_bits place = cond (ltb place 512) (16 * place) (2 * (place - 512))

-- and of black: 512 places go by 13 bits that begin with four zeros, and 64 by the first 6 bits
abbrev pub black_bits : ℕ → ℕ
black_bits place = cond (ltb place 512) place (128 * (place - 512))

-- the entry at a place: white has the first 544, black those behind them
unfoldable pub squeezed : ℕ → ℕ
squeezed place = elim (ltb place 544) [ true ↦ entry_of white (white_bits place) | false ↦ entry_of black (black_bits (place - 544)) ]

-- what the table of pairs has for 11 bits
unfoldable pub pair_of : ℕ → ℕ
pair_of top = pair_in (bits_for 11 top)

-- four places of a table in a word, the first of them lowest
unfoldable pub packed : (ℕ → ℕ) → ℕ → ℕ
packed table i = table (4 * i) + 65536 * (table (4 * i + 1) + 65536 * (table (4 * i + 2) + 65536 * table (4 * i + 3)))
