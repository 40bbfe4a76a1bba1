-- Bits: lists of Bool, the most significant bit of each byte first (01, "bit_reader.rs").
use Rattle.std.specs.Prelude.{Bool, true, false, List, [], ◌∷◌, ◌++◌, ℕ, zero, suc, ◌+◌, ◌*◌, ◌/◌, ◌%◌, ◌^◌, eqb}

-- bit i of a number; bit 0 is the lowest
unfoldable pub bit : ℕ → ℕ → Bool
bit i x = eqb (x / 2 ^ i % 2) 1

-- the lowest n bits of a number, the highest of them first
unfoldable pub bits_for : ℕ → ℕ → List Bool
bits_for zero x = []
bits_for (suc n) x = bit n x ∷ bits_for n x

-- the bits of bytes
unfoldable pub bits_of : List ℕ → List Bool
bits_of [] = []
bits_of (b ∷ bytes) = bits_for 8 b ++ bits_of bytes

-- the n bits that a reader sees: peeking past the data shows zeros (01, "bit_reader.rs")
unfoldable pub window : ℕ → List Bool → List Bool
window zero bs = []
window (suc n) [] = false ∷ window n []
window (suc n) (b ∷ bs) = b ∷ window n bs

-- a bit as a number
abbrev pub value_of : Bool → ℕ
value_of true = 1
value_of false = 0

-- the number that the window of n bits makes
unfoldable pub peek : ℕ → List Bool → ℕ
peek zero bs = 0
peek (suc n) [] = 0
peek (suc n) (b ∷ bs) = value_of b * 2 ^ n + peek n bs

-- the next bit; a zero past the end
abbrev pub front_bit : List Bool → Bool
front_bit [] = false
front_bit (b ∷ bs) = b

-- how many zeros stand at the front of a window of n bits
unfoldable pub leading_zeros : ℕ → List Bool → ℕ
leading_zeros zero bs = 0
leading_zeros (suc n) [] = suc (leading_zeros n [])
leading_zeros (suc n) (true ∷ bs) = 0
leading_zeros (suc n) (false ∷ bs) = suc (leading_zeros n bs)
