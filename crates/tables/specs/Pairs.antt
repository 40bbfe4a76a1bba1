-- The pair table: a black run and a white one behind it, for each 11 bits that have both.
use Rattle.std.specs.Prelude.{Bool, cond, ◌&&◌, List, ℕ, ◌+◌, ◌*◌, ltb, drop}
use Rattle.rules.specs.Bits.{bits_for}
use Rattle.rules.specs.Codes.{white, black}
use Rattle.rules.specs.Lookup.{Entry, valid, invalid, lookup, tabulate}

-- the run of a terminating code, and not of 0 pixels
abbrev pub is_short : ℕ → Bool
is_short run = ltb 0 run && ltb run 64

-- the number of a black run and a white one that are such: the black run + 64 × the white run + 4,096 × the length of both codes; else 0
abbrev pub with_white : ℕ → ℕ → Entry → ℕ
with_white run size (valid run' size') = cond (is_short run && is_short run') (run + 64 * run' + 4096 * (size + size')) 0
with_white run size (invalid size') = 0

-- of what some bits begin with in black, and those behind it in white
abbrev pub with_black : List Bool → Entry → ℕ
with_black bs (valid run size) = with_white run size (lookup white (drop size bs))
with_black bs (invalid size) = 0

unfoldable pub pair_in : List Bool → ℕ
pair_in bs = with_black bs (lookup black bs)

-- for each 11 bits
unfoldable pub pair_table : List ℕ
pair_table = tabulate (λ (i : ℕ). pair_in (bits_for 11 i)) 2048 0
