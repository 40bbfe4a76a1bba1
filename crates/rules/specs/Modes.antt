-- The mode codes of a 2D line, twice: by the standard's table, and by 01's count of leading zeros. That both are the same is proved
-- (proofs/Modes.antt, `modes-agree`).
use Rattle.std.specs.Prelude.{Bool, true, false, cond, List, [], ◌∷◌, ℕ, zero, suc, ◌+◌, leb, length, drop}
use Rattle.rules.specs.Answers.{invalid_code, unexpected_eof}
use Rattle.rules.specs.Bits.{window, front_bit, leading_zeros}
use Rattle.rules.specs.Lookup.{begins}
use Rattle.rules.specs.Runs.{Res, ok, fault}

-- Pass, horizontal; vertical with a1 so many pixels to the right or to the left of b1. V(0) is VR 0.
pub data Mode : Type 0 where
  pass horizontal : Mode
  VR VL : ℕ → Mode

abbrev O : Bool
O = false

abbrev I : Bool
I = true

-- the code of each mode (T.4 table 4/T.4, T.6 table 1/T.6); no other has one
unfoldable pub mode_bits : Mode → List Bool
mode_bits pass = O ∷ O ∷ O ∷ I ∷ []
mode_bits horizontal = O ∷ O ∷ I ∷ []
mode_bits (VR zero) = I ∷ []
mode_bits (VR (suc zero)) = O ∷ I ∷ I ∷ []
mode_bits (VR (suc (suc zero))) = O ∷ O ∷ O ∷ O ∷ I ∷ I ∷ []
mode_bits (VR (suc (suc (suc zero)))) = O ∷ O ∷ O ∷ O ∷ O ∷ I ∷ I ∷ []
mode_bits (VR (suc (suc (suc (suc k))))) = []
mode_bits (VL zero) = []
mode_bits (VL (suc zero)) = O ∷ I ∷ O ∷ []
mode_bits (VL (suc (suc zero))) = O ∷ O ∷ O ∷ O ∷ I ∷ O ∷ []
mode_bits (VL (suc (suc (suc zero)))) = O ∷ O ∷ O ∷ O ∷ O ∷ I ∷ O ∷ []
mode_bits (VL (suc (suc (suc (suc k))))) = []

-- the modes in the table's order; the extension codes (0000001xxx) are not read
unfoldable pub modes : List Mode
modes = pass ∷ horizontal ∷ VR 0 ∷ VR 1 ∷ VR 2 ∷ VR 3 ∷ VL 1 ∷ VL 2 ∷ VL 3 ∷ []

-- a mode and the length of its code; or none that begins the bits
pub data ModeIn : Type 0 where
  known : Mode → ℕ → ModeIn
  unknown : ModeIn

-- by the table: the mode whose code begins the bits
unfoldable pub mode_among : List Mode → List Bool → ModeIn
mode_among [] bs = unknown
mode_among (m ∷ ms) bs = elim (begins (mode_bits m) bs) [ true ↦ known m (length (mode_bits m)) | false ↦ mode_among ms bs ]

unfoldable pub mode_by_table : List Bool → ModeIn
mode_by_table bs = mode_among modes (window 7 bs)

-- by the count of leading zeros, and the bit after the one that ends them (01, "Codes"; `decode_mode` of codes.rs)
unfoldable pub mode_for : ℕ → Bool → ModeIn
mode_for zero side = known (VR 0) 1
mode_for (suc zero) side = known (cond side (VR 1) (VL 1)) 3
mode_for (suc (suc zero)) side = known horizontal 3
mode_for (suc (suc (suc zero))) side = known pass 4
mode_for (suc (suc (suc (suc zero)))) side = known (cond side (VR 2) (VL 2)) 6
mode_for (suc (suc (suc (suc (suc zero))))) side = known (cond side (VR 3) (VL 3)) 7
mode_for (suc (suc (suc (suc (suc (suc z)))))) side = unknown

unfoldable pub mode_by_zeros : List Bool → ModeIn
mode_by_zeros bs = mode_for (leading_zeros 6 bs) (front_bit (drop (suc (leading_zeros 6 bs)) bs))

-- the bit after a mode, and the mode
pub record Moded : Type 0 where
  pub at : ℕ
  pub mode : Mode

abbrev pub moded : ℕ → Mode → Moded
moded a m = record { at = a; mode = m }

-- Six or more leading zeros consume 6 bits, then 1, or 2 where these are not left; a mode needs its own bits, and is 2 without them.
unfoldable pub mode_take : ℕ → ℕ → ModeIn → Res Moded
mode_take size at (known m len) = cond (leb (at + len) size) (ok (moded (at + len) m)) (fault unexpected_eof at)
mode_take size at unknown = fault (cond (leb (at + 6) size) invalid_code unexpected_eof) at

-- the mode code that begins at a bit
unfoldable pub read_mode : List Bool → ℕ → Res Moded
read_mode bs at = mode_take (length bs) at (mode_by_table (drop at bs))
