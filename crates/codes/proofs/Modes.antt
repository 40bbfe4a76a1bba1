-- The mode reader: the leading zeros of the next bits, and the bit after the one that ends them, out of the number that these bits make; and what
-- the length of a code asks of the data. Assumes nothing.
use mathlib.Core.Path.{◌≡◌, refl, sym, ap, ◌∙◌}
use mathlib.Core.Logic.{◌⊎◌, inl, inr}
use mathlib.Core.Bool.{Bool, true, false, cond}
use mathlib.Core.List.{List, [], ◌∷◌}
use Prim.Native.Nat.{ℕ, zero, suc, ◌+◌, ◌-◌, ◌*◌, ◌/◌, ◌%◌, ◌^◌, ◌≤◌, ◌<◌}
use native.Mathlib.Omega.{arith}
use native.Mathlib.Nat.{suc-add}
use lib.Count as Count
use lib.Dec.{eqb, leb}
use Rattle.std.specs.Prelude.{Option, Some, None}
use lib.IntN.{ℤ, pos, negsuc}
use lib.ListN.{length, drop}
use lib.Signed.{mag}
use borrow.Author.Tests.{le-leb}
use mir.Syntax.{w64}
use mir.Val.{to_z, of_z}
use mir.ValLaws.{to_z-of_z}
use Rattle.rules.specs.Bits.{bit, bits_of, peek, front_bit, leading_zeros}
use Rattle.rules.specs.Runs.{Res, ok, fault}
use Rattle.rules.specs.Modes.{Mode, VR, VL, ModeIn, known, unknown, Moded, moded, mode_for, mode_by_zeros, mode_take, read_mode}
use Rattle.rules.proofs.Bits.{peek-high, peek-low, length-bits_of}
use Rattle.rules.proofs.Modes.{modes-agree}
use Rattle.bit_reader.specs.Cursor.{moved_by}
use Rattle.bit_reader.specs.Loaded.{on_top, Ahead}
use Rattle.bit_reader.proofs.Window.{ahead-first}
use Rattle.bit_reader.proofs.Clear.{zeros-of-number, top-leading}
use Rattle.codes.specs.Modes.{offset_mode}

-- ---- Leading zeros, in windows of any width

first_bit : (l : List Bool) → front_bit l ≡ eqb (peek 1 l) 1
unfolding peek
first_bit [] = refl
first_bit (true ∷ l) = refl
first_bit (false ∷ l) = refl

-- the bit after i others, in a window that has it
bit-of-number : (i rest : ℕ) (bs : List Bool) → front_bit (drop i bs) ≡ bit rest (peek (i + 1 + rest) bs)
unfolding bit
bit-of-number i rest bs =
    first_bit (drop i bs) ∙ ap (λ (x : ℕ). eqb x 1) (sym (peek-low i 1 bs) ∙ ap (λ (x : ℕ). x % 2) (sym (peek-high (i + 1) rest bs)))

-- a one leads no zeros
one-first : (bs : List Bool) → peek 1 bs ≡ 1 → mode_by_zeros bs ≡ known (VR 0) 1
unfolding peek mode_by_zeros leading_zeros mode_for
one-first [] e = absurd (omega arith)
one-first (true ∷ bs) e = refl
one-first (false ∷ bs) e = absurd (omega arith)

-- the leading zeros of a window of n bits, and of a wider one: the same, or n at least
abbrev SameOrAll : ℕ → ℕ → ℕ → Type 0
SameOrAll n narrow wide = (wide ≡ narrow) ⊎ ((n ≤ narrow) × (n ≤ wide))

-- one zero more before both
one_more : {n narrow wide : ℕ} → SameOrAll n narrow wide → SameOrAll (suc n) (suc narrow) (suc wide)
one_more (inl e) = inl (ap suc e)
one_more (inr h) = inr (omega arith, omega arith)

wider : (n k : ℕ) (bs : List Bool) → SameOrAll n (leading_zeros n bs) (leading_zeros (n + k) bs)
unfolding leading_zeros
wider zero k bs = inr (omega arith, omega arith)
wider (suc n) k [] = rw suc-add (one_more (wider n k []))
wider (suc n) k (true ∷ bs) = inl (rw suc-add)
wider (suc n) k (false ∷ bs) = rw suc-add (one_more (wider n k bs))

-- ---- A mode by 32 bits

-- a signed number comes back from its 64 bits
pub back : {z : ℤ} → mag z < 2 ^ 63 → to_z w64 (of_z w64 z) ≡ z
back h = to_z-of_z w64 _ (record { sfits = h })

-- six or more zeros are no mode
pub no_mode : (z : ℕ) → 6 ≤ z → (side : Bool) → mode_for z side ≡ unknown
unfolding mode_for
no_mode z h side = let e : z ≡ suc (suc (suc (suc (suc (suc (z - 6)))))) = omega arith in rw e

-- the zeros of six bits and some more serve as those of six
by-zeros : (k z : ℕ) (bs : List Bool) → leading_zeros (6 + k) bs ≡ z → mode_by_zeros bs ≡ mode_for z (front_bit (drop (suc z) bs))
unfolding mode_by_zeros
by-zeros k z bs e = cases (wider 6 k bs)
  where
    cases : SameOrAll 6 (leading_zeros 6 bs) (leading_zeros (6 + k) bs) → mode_by_zeros bs ≡ mode_for z (front_bit (drop (suc z) bs))
    cases (inl q) = ap (λ (n : ℕ). mode_for n (front_bit (drop (suc n) bs))) (sym q ∙ e)
    cases (inr h) = no_mode _ h.0 _ ∙ sym (no_mode z (omega (arith, h.1)) _)

-- 32 bits at a place of the data, as a number, and their leading zeros
module _ (bytes : List ℕ) (at : ℕ) {w z : ℕ} (window : w ≡ peek 32 (drop at (bits_of bytes))) (zeros : Count.count_leading_zeros 32 w ≡ z) where
  -- the mode for these zeros and the next bit is the one that is read
  read_as : (m : ModeIn) → mode_for z (front_bit (drop (suc z) (drop at (bits_of bytes)))) ≡ m → mode_take (8 * length bytes) at m ≡ read_mode (bits_of bytes) at
  unfolding read_mode
  read_as m e =
      ap (λ (n : ℕ). mode_take n at m) (sym (length-bits_of bytes))
      ∙ ap (mode_take (length (bits_of bytes)) at) (sym (modes-agree (drop at (bits_of bytes)) ∙ by-zeros 26 z _ counted ∙ e))
    where
      counted : leading_zeros 32 (drop at (bits_of bytes)) ≡ z
      counted = zeros-of-number 32 _ ∙ ap (Count.count_leading_zeros 32) (sym window) ∙ zeros

  -- where the next bit does not matter
  pub plain : (m : ModeIn) → ((side : Bool) → mode_for z side ≡ m) → mode_take (8 * length bytes) at m ≡ read_mode (bits_of bytes) at
  plain m e = read_as m (e _)

  -- where it is the side
  pub sided : (k size : ℕ) {offset : ℤ} → ((side : Bool) → mode_for z side ≡ known (cond side (VR (suc k)) (VL (suc k))) size) → z ≤ 30
      → offset ≡ cond (bit (30 - z) w) (pos (suc k)) (negsuc k) → mode_take (8 * length bytes) at (known (offset_mode offset) size) ≡ read_mode (bits_of bytes) at
  sided k size {offset} e h o =
      read_as (known (offset_mode offset) size)
      (ap (mode_for z) next_bit
      ∙ e (bit (30 - z) w)
      ∙ ap (λ (m : Mode). known m size) (pick (bit (30 - z) w) ∙ ap offset_mode (sym o)))
    where
      next_bit : front_bit (drop (suc z) (drop at (bits_of bytes))) ≡ bit (30 - z) w
      next_bit =
          let n : suc z + 1 + (30 - z) ≡ 32 = omega arith in
          bit-of-number (suc z) (30 - z) _
          ∙ ap (λ (n : ℕ). bit (30 - z) (peek n (drop at (bits_of bytes)))) n
          ∙ ap (bit (30 - z)) (sym window)

      pick : (side : Bool) → cond side (VR (suc k)) (VL (suc k)) ≡ offset_mode (cond side (pos (suc k)) (negsuc k))
      pick true = refl
      pick false = refl

-- ---- A mode by the bits on top of a word, all of the data

module _ {bytes : List ℕ} {at live bits : ℕ} (h : Ahead bytes at live bits) (seven : 7 ≤ live) where
  abbrev ahead : List Bool
  ahead = drop at (bits_of bytes)

  module _ {z : ℕ} (zeros : Count.count_leading_zeros 64 bits ≡ z) (few : z < 6) where
    top-counted : leading_zeros live ahead ≡ z
    top-counted =
        top-leading live ahead h.most (rw h.holds at (some_one bits zeros))
        ∙ ap (Count.count_leading_zeros 64) (sym h.holds)
        ∙ zeros
      where
        some_one : (x : ℕ) → Count.count_leading_zeros 64 x ≡ z → 0 < x
        some_one zero e = absurd (omega (arith, Count.leading_of_zero 64))
        some_one (suc x) e = omega arith

    -- the mode for these zeros and the next bit, whose code is in the data
    top_read : (m : Mode) (size : ℕ) → mode_for z (front_bit (drop (suc z) ahead)) ≡ known m size → size ≤ 7 → read_mode (bits_of bytes) at ≡ ok (moded (at + size) m)
    unfolding read_mode mode_take
    top_read m size e s =
        let n : 6 + (live - 6) ≡ live = omega arith in
        ap (mode_take (length (bits_of bytes)) at) (modes-agree ahead ∙ by-zeros (live - 6) z ahead (ap (λ (k : ℕ). leading_zeros k ahead) n ∙ top-counted) ∙ e)
        ∙ rw (le-leb (at + size) (length (bits_of bytes)) (omega (arith, h.there, length-bits_of bytes)))

    -- where the next bit does not matter
    pub top-mode : (m : Mode) (size : ℕ) → ((side : Bool) → mode_for z side ≡ known m size) → size ≤ 7 → read_mode (bits_of bytes) at ≡ ok (moded (at + size) m)
    top-mode m size e s = top_read m size (e _) s

    -- where it is the side
    pub top-sided : (k size : ℕ) → ((side : Bool) → mode_for z side ≡ known (cond side (VR k) (VL k)) size) → size ≤ 7
        → read_mode (bits_of bytes) at ≡ ok (moded (at + size) (cond (eqb (bits / 2 ^ (62 - z) % 2) 1) (VR k) (VL k)))
    top-sided k size e s =
        top_read (cond (eqb (bits / 2 ^ (62 - z) % 2) 1) (VR k) (VL k)) size (ap (mode_for z) next_bit ∙ e (eqb (bits / 2 ^ (62 - z) % 2) 1)) s
      where
        next_bit : front_bit (drop (suc z) ahead) ≡ eqb (bits / 2 ^ (62 - z) % 2) 1
        next_bit =
            let n : 64 - (suc z + 1) ≡ 62 - z = omega arith in
            first_bit (drop (suc z) ahead)
            ∙ ap (λ (x : ℕ). eqb x 1) (sym (peek-low (suc z) 1 ahead) ∙ ap (λ (x : ℕ). x % 2) (sym (ahead-first h (suc z + 1) (omega arith)) ∙ ap (λ (x : ℕ). bits / 2 ^ x) n))

-- a one on top is of the data, however few bits of it are there, and alone it is V(0)
module _ {bytes : List ℕ} {at live bits : ℕ} (h : Ahead bytes at live bits) (e : bits / 2 ^ 63 ≡ 1) where
  pub one-live : 1 ≤ live
  unfolding peek
  one-live = cases live h.holds
    where
      cases : (n : ℕ) → bits ≡ on_top n (drop at (bits_of bytes)) → 1 ≤ n
      cases zero q = absurd (omega arith)
      cases (suc n) q = omega arith

  pub top-straight : read_mode (bits_of bytes) at ≡ ok (moded (at + 1) (VR 0))
  unfolding read_mode mode_take
  top-straight =
      let k = one-live in
      ap (mode_take (length (bits_of bytes)) at) (modes-agree (drop at (bits_of bytes)) ∙ one-first (drop at (bits_of bytes)) (sym (ahead-first h 1 one-live) ∙ e))
      ∙ rw (le-leb (at + 1) (length (bits_of bytes)) (omega (arith, h.there, length-bits_of bytes)))

-- ---- The bits of a code

-- what a mode's code, and six zeros, come to, by whether the data has their bits
abbrev pub moved : ℕ → Mode → Option ℕ → Res Moded
moved at m (Some next) = ok (moded next m)
moved at m None = fault 2 at

abbrev pub missed : ℕ → Option ℕ → Res Moded
missed at (Some next) = fault 1 at
missed at None = fault 2 at

module _ (len at : ℕ) where
  pub mode-moved : (n : ℕ) {k m : Mode} {o : Option ℕ} → k ≡ m → moved_by len at n ≡ o → moved at m o ≡ mode_take (8 * len) at (known k n)
  unfolding mode_take
  mode-moved n {m = m} q e =
      ap (moved at m) (sym e) ∙ tests (leb (at + n) (8 * len)) ∙ ap (λ (k : Mode). mode_take (8 * len) at (known k n)) (sym q)
    where
      tests : (b : Bool) → moved at m (cond b (Some (at + n)) None) ≡ cond b (ok (moded (at + n) m)) (fault 2 at)
      tests true = refl
      tests false = refl

  pub mode-missed : {o : Option ℕ} → moved_by len at 6 ≡ o → missed at o ≡ mode_take (8 * len) at unknown
  unfolding mode_take
  mode-missed e = ap (missed at) (sym e) ∙ tests (leb (at + 6) (8 * len))
    where
      tests : (b : Bool) → missed at (cond b (Some (at + 6)) None) ≡ fault (cond b 1 2) at
      tests true = refl
      tests false = refl
