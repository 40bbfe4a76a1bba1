-- A code that is met: bit by bit, and at once where all its bits are there. Assumes nothing.
use mathlib.Core.Path.{◌≡◌, refl, sym, ap, ◌∙◌}
use mathlib.Core.Bool.{Bool, true, false}
use mathlib.Core.List.{List, [], ◌∷◌, ◌++◌}
use Prim.Native.Nat.{ℕ, zero, suc, ◌+◌, ◌-◌, ◌*◌, ◌/◌, ◌%◌, ◌^◌, ◌≤◌, ◌<◌}
use native.Mathlib.Omega.{arith}
use native.Mathlib.Nat.{mod-lt}
use lib.Dec.{eqb}
use lib.ListN.{length, drop, take, length-drop}
use Rattle.rules.specs.Bits.{bit, bits_for, bits_of, peek}
use Rattle.rules.specs.Lookup.{begins, shared}
use Rattle.rules.proofs.Bits.{length-bits_for, length-bits_of, peek-high, bits-peek, window-take}
use Rattle.tables.specs.declared.Code.{Code}
use Rattle.writer.specs.Putting.{Sound}
use Rattle.writer.specs.Meeting.{Met, Meets}
use Rattle.writer.proofs.Leaving.{Left, left-none, left-parts, left-on, shared-all}

-- ---- One bit

-- past the data no bit is met
none-past : (n word : ℕ) (bs : List Bool) → length bs ≡ 0 → (shared (bit n word ∷ []) bs ≡ 0) × (begins (bit n word ∷ []) bs ≡ false)
unfolding shared begins
none-past n word [] h = (refl, refl)
none-past n word (b ∷ bs) h = absurd (omega arith)

abbrev Half : ℕ → ℕ → ℕ
Half n word = word / 2 ^ n % 2

bit_is : (n word : ℕ) (b : Bool) → eqb (Half n word) 1 ≡ b → bit n word ≡ b
unfolding bit
bit_is n word b e = e

-- a bit of the data is the code's, or is not
one_same : (n word : ℕ) (bs : List Bool) → 0 < length bs → peek 1 bs ≡ Half n word → begins (bit n word ∷ []) bs ≡ true
unfolding begins peek bit
one_same n word [] h e = absurd (omega arith)
one_same n word (true ∷ bs) h e = let q : Half n word ≡ 1 = omega (arith, e) in rw q
one_same n word (false ∷ bs) h e = let q : Half n word ≡ 0 = omega (arith, e) in rw q

one-other : (n word : ℕ) (bs : List Bool) → (peek 1 bs ≡ Half n word → ⊥) → (shared (bit n word ∷ []) bs ≡ 0) × (begins (bit n word ∷ []) bs ≡ false)
unfolding shared begins peek bit
one-other n word [] h = (refl, refl)
one-other n word (true ∷ bs) h = let q : Half n word ≡ 0 = omega (arith, h, mod-lt (word / 2 ^ n) (let z : 0 < 2 = omega arith in z)) in (rw q, rw q)
one-other n word (false ∷ bs) h = let q : Half n word ≡ 1 = omega (arith, h, mod-lt (word / 2 ^ n) (let z : 0 < 2 = omega arith in z)) in (rw q, rw q)

-- ---- Bit by bit

-- the highest bit comes first
highest : (n word : ℕ) → 0 < n → bits_for n word ≡ (bit (n - 1) word ∷ []) ++ bits_for (n - 1) word
unfolding bits_for
highest zero word h = absurd (omega arith)
highest (suc n) word h = ap (λ (k : ℕ). bit k word ∷ bits_for k word) (let q : n ≡ suc n - 1 = omega arith in q)

module _ {bytes : List ℕ} {next : ℕ} (left word : ℕ) {at : ℕ} (size : ℕ) (w : Left bytes next (bits_for left word) at (bits_for size word)) (some_left : 0 < left) where
  abbrev bs : List Bool
  bs = drop next (bits_of bytes)

  abbrev first : List Bool
  first = bit (left - 1) word ∷ []

  abbrev parted : Met
  parted = record { at = next; same = false }

  parts-by : (shared first bs ≡ 0) × (begins first bs ≡ false) → Meets bytes at (bits_for size word) parted
  parts-by (s, b) =
      left-parts w first (bits_for (left - 1) word) (highest left word some_left) (record { place = omega (arith, s); whole = sym b }) refl

  -- at the end of the data it parts,
  pub data-ends : 8 * length bytes ≤ next → Meets bytes at (bits_for size word) parted
  data-ends h = parts-by (none-past (left - 1) word bs (omega (arith, length-drop next (bits_of bytes), length-bits_of bytes)))

  -- and where a bit differs,
  pub bit-differs : (peek 1 bs ≡ Half (left - 1) word → ⊥) → Meets bytes at (bits_for size word) parted
  bit-differs h = parts-by (one-other (left - 1) word bs h)

  -- and else it goes on
  pub bit-met : next < 8 * length bytes → peek 1 bs ≡ Half (left - 1) word → Left bytes (next + 1) (bits_for (left - 1) word) at (bits_for size word)
  bit-met h e =
      let b = one_same (left - 1) word bs (omega (arith, length-drop next (bits_of bytes), length-bits_of bytes)) e in
      left-on w first (bits_for (left - 1) word) (highest left word some_left) {r = record { at = next + 1; same = true }}
      (record { place = ap (λ (n : ℕ). next + n) (sym (shared-all first bs b)); whole = sym b }) refl

-- to the last
pub all-met : {bytes : List ℕ} {next : ℕ} (left word : ℕ) {at : ℕ} (size : ℕ) → Left bytes next (bits_for left word) at (bits_for size word) → left ≤ 0
    → Meets bytes at (bits_for size word) (record { at = next; same = true })
unfolding bits_for
all-met left word size w h = left-none w (ap (λ (n : ℕ). bits_for n word) (let q : left ≡ 0 = omega arith in q)) refl refl

-- ---- At once

-- a list begins with its first bits
begins-taken : (n : ℕ) (bs : List Bool) → begins (take n bs) bs ≡ true
unfolding begins
begins-taken zero bs = refl
begins-taken (suc n) [] = refl
begins-taken (suc n) (true ∷ bs) = begins-taken n bs
begins-taken (suc n) (false ∷ bs) = begins-taken n bs

pub code-there : {bytes : List ℕ} {at : ℕ} {code : Code} → Sound code → at + code.size ≤ 8 * length bytes
    → peek 32 (drop at (bits_of bytes)) / 2 ^ (32 - code.size) ≡ code.word
    → Meets bytes at (bits_for code.size code.word) (record { at = at + code.size; same = true })
code-there {bytes} {at} {code} s h e = record {
  place = ap (λ (n : ℕ). at + n) (sym (shared-all ours bs there ∙ length-bits_for code.size code.word));
  whole = sym there;
}
  where
    bs : List Bool
    bs = drop at (bits_of bytes)

    ours : List Bool
    ours = bits_for code.size code.word

    number : peek code.size bs ≡ code.word
    number =
        sym (peek-high code.size (32 - code.size) bs)
        ∙ ap (λ (n : ℕ). peek n bs / 2 ^ (32 - code.size)) (let q : code.size + (32 - code.size) ≡ 32 = omega (arith, s.few_bits) in q)
        ∙ e

    is : ours ≡ take code.size bs
    is =
        ap (bits_for code.size) (sym number)
        ∙ bits-peek code.size bs
        ∙ window-take code.size bs (omega (arith, length-drop at (bits_of bytes), length-bits_of bytes))

    there : begins ours bs ≡ true
    there = ap (λ (l : List Bool). begins l bs) is ∙ begins-taken code.size bs
