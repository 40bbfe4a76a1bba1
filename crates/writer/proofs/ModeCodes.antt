-- The codes of modes and of an EOL, and how near a1 lies to b1. Assumes nothing.
use mathlib.Core.Path.{◌≡◌, refl}
use mathlib.Core.Bool.{Bool, true, false, ◌&&◌}
use Prim.Native.Nat.{ℕ, zero, suc, ◌+◌, ◌-◌, ◌*◌, ◌%◌, ◌^◌, ◌≤◌, ◌<◌}
use native.Mathlib.Omega.{arith}
use lib.Dec.{leb}
use lib.ListN.{replicate}
use lib.Pow.{pow_pos, shl_exact}
use borrow.Author.Tests.{le-leb, lt-leb, leb-true}
use Rattle.rules.specs.Bits.{bit, bits_for}
use Rattle.rules.specs.Modes.{Mode, pass, horizontal, VR, VL, mode_bits}
use Rattle.rules.specs.Write.{vertical_to, near, eol_bits}
use Rattle.tables.specs.declared.Code.{Code}
use Rattle.writer.specs.Putting.{Sound, Spells}
use Rattle.writer.specs.Coding.{apart, vertical_size}

-- ---- Codes

-- a code of the source, and what it needs to be sound
abbrev code : ℕ → ℕ → Code
code size word = record { size = size; word = word }

abbrev sound : (size word : ℕ) → 1 ≤ size → size ≤ 13 → word < 2 ^ size → Sound (code size word)
sound size word h k l = record { some_bits = h; few_bits = k; small = l }

-- the codes of pass mode, of horizontal mode, and of an EOL
pub pass-spells : Spells (code 4 1) (mode_bits pass)
unfolding bit bits_for mode_bits
pass-spells = record { sound = sound 4 1 (omega arith) (omega arith) (omega arith); bits = refl }

pub horizontal-spells : Spells (code 3 1) (mode_bits horizontal)
unfolding bit bits_for mode_bits
horizontal-spells = record { sound = sound 3 1 (omega arith) (omega arith) (omega arith); bits = refl }

pub eol-spells : Spells (code 12 1) eol_bits
unfolding bit bits_for eol_bits
eol-spells = record { sound = sound 12 1 (omega arith) (omega arith) (omega arith); bits = refl }

-- ones, as a shift makes them
abbrev ones : ℕ → ℕ
ones k = 1 * 2 ^ k % 4294967296

pub ones-some : (k : ℕ) → k ≤ 8 → 1 ≤ ones k
ones-some k h = rw (shl_exact {a = 1} 1 k 32 (omega arith) (omega arith)) (omega (arith, pow_pos k))

ones-bits : (k : ℕ) → k ≤ 8 → bits_for k (ones k - 1) ≡ replicate k true
unfolding bit bits_for
ones-bits zero h = refl
ones-bits (suc zero) h = refl
ones-bits (suc (suc zero)) h = refl
ones-bits (suc (suc (suc zero))) h = refl
ones-bits (suc (suc (suc (suc zero)))) h = refl
ones-bits (suc (suc (suc (suc (suc zero))))) h = refl
ones-bits (suc (suc (suc (suc (suc (suc zero)))))) h = refl
ones-bits (suc (suc (suc (suc (suc (suc (suc zero))))))) h = refl
ones-bits (suc (suc (suc (suc (suc (suc (suc (suc zero)))))))) h = refl
ones-bits (suc (suc (suc (suc (suc (suc (suc (suc (suc k))))))))) h = absurd (omega arith)

-- as many V0 codes
pub ones-spell : (k : ℕ) → 1 ≤ k → k ≤ 8 → Spells (code k (ones k - 1)) (replicate k true)
ones-spell k h l = record {
  sound = sound k (ones k - 1) h (omega arith) (omega (arith, ones-some k l, ones-few));
  bits = ones-bits k l;
}
  where
    ones-few : ones k ≤ 2 ^ k
    ones-few = rw (shl_exact {a = 1} 1 k 32 (omega arith) (omega arith)) (omega arith)

-- no vertical code has more bits
pub size-most : (k : ℕ) → 3 ≤ k → 7 ≡ vertical_size k
size-most zero h = absurd (omega arith)
size-most (suc zero) h = absurd (omega arith)
size-most (suc (suc zero)) h = absurd (omega arith)
size-most (suc (suc (suc k))) h = refl

-- the side on which a1 lies is a vertical code's last bit
data Side : (ℕ → Mode) → ℕ → Type 0 where
  right : Side VR 3
  left : Side VL 2

side-small : {side : ℕ → Mode} {word : ℕ} → Side side word → word ≤ 3
side-small right = omega arith
side-small left = omega arith

-- so is a vertical code spelled, whatever the side
side-spells : {side : ℕ → Mode} {word : ℕ} → Side side word → (k : ℕ) → 1 ≤ k → k ≤ 3 → Spells (code (vertical_size k) word) (mode_bits (side k))
unfolding bit bits_for mode_bits
side-spells {side} {word} s k h l = record { sound = sizes k h; bits = bits' s k h l }
  where
    sizes : (k : ℕ) → 1 ≤ k → Sound (code (vertical_size k) word)
    sizes zero h = absurd (omega arith)
    sizes (suc zero) h = let l = side-small s in sound 3 word (omega arith) (omega arith) (omega arith)
    sizes (suc (suc zero)) h = let l = side-small s in sound 6 word (omega arith) (omega arith) (omega arith)
    sizes (suc (suc (suc k))) h = let l = side-small s in sound 7 word (omega arith) (omega arith) (omega arith)

    bits' : {side : ℕ → Mode} {word : ℕ} → Side side word → (k : ℕ) → 1 ≤ k → k ≤ 3 → bits_for (vertical_size k) word ≡ mode_bits (side k)
    bits' s zero h l = absurd (omega arith)
    bits' s (suc (suc (suc (suc k)))) h l = absurd (omega arith)
    bits' right (suc zero) h l = refl
    bits' right (suc (suc zero)) h l = refl
    bits' right (suc (suc (suc zero))) h l = refl
    bits' left (suc zero) h l = refl
    bits' left (suc (suc zero)) h l = refl
    bits' left (suc (suc (suc zero))) h l = refl

-- ---- Near

module _ (b1 a1 : ℕ) where
  -- the test of nearness is one of the distance
  pub near_by : apart b1 a1 ≤ 3 → near b1 a1 ≡ true
  near_by h = rw (le-leb a1 (b1 + 3) (omega arith), le-leb b1 (a1 + 3) (omega arith))

  pub near-not : 3 < apart b1 a1 → near b1 a1 ≡ false
  near-not h = tests (leb a1 (b1 + 3)) (leb-true a1 (b1 + 3)) (leb b1 (a1 + 3)) (leb-true b1 (a1 + 3))
    where
      tests : (b : Bool) → (b ≡ true → a1 ≤ b1 + 3) → (c : Bool) → (c ≡ true → b1 ≤ a1 + 3) → (b && c) ≡ false
      tests true p true q = absurd (omega (arith, p refl, q refl))
      tests true p false q = refl
      tests false p c q = refl

  -- a vertical code, with a1 left of b1, right of it, and at it
  module _ (size : ℕ) (h : apart b1 a1 ≤ 3) (e : size ≡ vertical_size (apart b1 a1)) where
    pub vertical-left : a1 < b1 → Spells (code size 2) (mode_bits (vertical_to b1 a1))
    vertical-left k =
        let f : apart b1 a1 ≡ b1 - a1 = omega arith in
        rw (e, f, lt-leb b1 a1 k) (side-spells left (b1 - a1) (omega arith) (omega arith))

    pub vertical-right : b1 < a1 → Spells (code size 3) (mode_bits (vertical_to b1 a1))
    vertical-right k =
        let f : apart b1 a1 ≡ a1 - b1 = omega arith in
        rw (e, f, le-leb b1 a1 (omega arith)) (side-spells right (a1 - b1) (omega arith) (omega arith))

    pub vertical-there : b1 ≤ a1 → a1 ≤ b1 → Spells (code size 1) (mode_bits (vertical_to b1 a1))
    unfolding bit bits_for mode_bits
    vertical-there k l =
        let f : apart b1 a1 ≡ 0 = omega arith in
        let g : a1 - b1 ≡ 0 = omega arith in
        rw (e, f, le-leb b1 a1 k, g) (record { sound = sound 1 1 (omega arith) (omega arith) (omega arith); bits = refl })
