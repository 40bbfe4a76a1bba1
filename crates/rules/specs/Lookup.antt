-- What 13 bits begin with: the rule of the lookup tables (01, "Codes"; `build_lookup` of tables.rs).
use Rattle.std.specs.Prelude.{Bool, true, false, List, [], ◌∷◌, ℕ, zero, suc, ◌+◌, ◌*◌, max}
use Rattle.std.proofs.Math.Option.{Option, none, some}
use Rattle.rules.specs.Bits.{bits_for}
use Rattle.rules.specs.Codes.{Colour, Code, code_bits, codes_of}

-- the first bits are those of a word
unfoldable pub begins : List Bool → List Bool → Bool
begins [] bs = true
begins (x ∷ xs) [] = false
begins (true ∷ xs) (true ∷ bs) = begins xs bs
begins (true ∷ xs) (false ∷ bs) = false
begins (false ∷ xs) (true ∷ bs) = false
begins (false ∷ xs) (false ∷ bs) = begins xs bs

-- how many bits, from the first on, two lists of bits share
unfoldable pub shared : List Bool → List Bool → ℕ
shared [] bs = 0
shared (x ∷ xs) [] = 0
shared (true ∷ xs) (true ∷ bs) = suc (shared xs bs)
shared (true ∷ xs) (false ∷ bs) = 0
shared (false ∷ xs) (true ∷ bs) = 0
shared (false ∷ xs) (false ∷ bs) = suc (shared xs bs)

-- the first code of a list that begins the bits (no code of a colour begins another, so it is the only one: proofs/Codes.antt)
unfoldable pub code_in : List Code → List Bool → Option Code
code_in [] bs = none
code_in (c ∷ cs) bs = elim (begins (code_bits c) bs) [ true ↦ some c | false ↦ code_in cs bs ]

-- the longest prefix that the bits share with any code of a list
unfoldable pub longest_shared : List Code → List Bool → ℕ
longest_shared [] bs = 0
longest_shared (c ∷ cs) bs = max (shared (code_bits c) bs) (longest_shared cs bs)

-- a code's run and length; or, where no code begins the bits, the length up to the first bit that continues no code
pub data Entry : Type 0 where
  valid : ℕ → ℕ → Entry
  invalid : ℕ → Entry

abbrev pub entry_for : List Code → List Bool → Option Code → Entry
entry_for cs bs (some c) = valid c.run c.size
entry_for cs bs none = invalid (longest_shared cs bs + 1)

unfoldable pub lookup : Colour → List Bool → Entry
lookup colour bs = entry_for (codes_of colour) bs (code_in (codes_of colour) bs)

-- an entry as a table holds it: run + 4,096 × length; where invalid the run is 4,095 (LOOKUP_INVALID)
abbrev pub entry_number : Entry → ℕ
entry_number (valid run size) = run + 4096 * size
entry_number (invalid size) = 4095 + 4096 * size

-- f at each of n numbers from i on
unfoldable pub tabulate : (ℕ → ℕ) → ℕ → ℕ → List ℕ
tabulate f zero i = []
tabulate f (suc n) i = f i ∷ tabulate f n (suc i)

-- a colour's lookup table: an entry for each 13 bits
unfoldable pub lookup_table : Colour → List ℕ
lookup_table colour = tabulate (λ (i : ℕ). entry_number (lookup colour (bits_for 13 i))) 8192 0
