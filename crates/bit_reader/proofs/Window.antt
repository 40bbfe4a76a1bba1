-- Laws of windows of bits in machine words: a part of a word, a window on top of one, and bytes joined into one. Assumes nothing.
use mathlib.Core.Path.{◌≡◌, sym, ap, ◌∙◌}
use mathlib.Core.Bool.{Bool}
use mathlib.Core.List.{List}
use Prim.Native.Nat.{ℕ, ◌+◌, ◌-◌, ◌*◌, ◌/◌, ◌%◌, ◌^◌, ◌≤◌, ◌<◌}
use native.Mathlib.Omega.{arith}
use native.Mathlib.Nat.{add-mul, mul_assoc, mul-one, add-zero, lt_of_lt_of_le}
use lib.ListN.{get_or, drop}
use lib.Pow.{pow-add, pow_mono, low, shl-shr, shr-shr, shl_lt}
use lib.Seq.{drop-drop}
use Rattle.rules.specs.Bits.{bits_of, peek}
use Rattle.rules.proofs.Bits.{peek-add, peek-high, peek-low, peek-lt, peek-byte}
use Rattle.bit_reader.specs.Word.{eight_at}
use Rattle.bit_reader.specs.Loaded.{on_top, Ahead, Loaded}
use Rattle.bit_reader.specs.declared.buffer.Buffer.{Buffer}
use Rattle.bit_reader.proofs.Cursor.{drop-in-byte}

-- ---- A part of a word

-- n bits in the middle of a window: `skip` before them, `rest` after them
middle : (skip n rest : ℕ) (bs : List Bool) → peek (skip + n + rest) bs / 2 ^ rest % 2 ^ n ≡ peek n (drop skip bs)
middle skip n rest bs = rw (peek-high (skip + n) rest bs) (peek-low skip n bs)

-- n bits from an offset, out of a word that begins with its byte
pub part : (width n rest at : ℕ) (bs : List Bool) → at % 8 + n + rest ≡ width → peek width (drop (at / 8 * 8) bs) / 2 ^ rest % 2 ^ n ≡ peek n (drop at bs)
part width n rest at bs e =
    ap (λ (k : ℕ). peek k (drop (at / 8 * 8) bs) / 2 ^ rest % 2 ^ n) (sym e)
    ∙ middle (at % 8) n rest (drop (at / 8 * 8) bs)
    ∙ ap (peek n) (drop-in-byte at bs)

-- ---- Bits on top of a word

-- the first n bits of a window that stands above zeros
first : (n rest zeros : ℕ) (bs : List Bool) → peek (n + rest) bs * 2 ^ zeros / 2 ^ (zeros + rest) ≡ peek n bs
first n rest zeros bs =
    sym (shr-shr (peek (n + rest) bs * 2 ^ zeros) zeros rest)
    ∙ (rw (shl-shr (peek (n + rest) bs) zeros) (peek-high n rest bs))

-- the same window with its first n bits shifted out
shifted : (n rest zeros : ℕ) (bs : List Bool) → peek (n + rest) bs * 2 ^ zeros * 2 ^ n % 2 ^ (rest + (zeros + n)) ≡ peek rest (drop n bs) * 2 ^ (zeros + n)
shifted n rest zeros bs =
    rw (mul_assoc (peek (n + rest) bs) (2 ^ zeros) (2 ^ n), ← pow-add 2 zeros n, peek-add n rest bs, add-mul, mul_assoc (peek n bs), ← pow-add 2 rest (zeros + n))
    (low (peek n bs) (rest + (zeros + n)) (shl_lt rest (zeros + n) (peek-lt rest (drop n bs))))

module _ (n live : ℕ) (bs : List Bool) (there : n ≤ live) (most : live ≤ 64) where
  -- the first n of the bits on top
  pub top-first : on_top live bs / 2 ^ (64 - n) ≡ peek n bs
  top-first =
      let e : n + (live - n) ≡ live = omega arith in
      let w : (64 - live) + (live - n) ≡ 64 - n = omega arith in
      rw (← w) (ap (λ (k : ℕ). peek k bs * 2 ^ (64 - live) / 2 ^ ((64 - live) + (live - n))) (sym e) ∙ first n (live - n) (64 - live) bs)

  -- a shift takes them away
  pub top_shift : on_top live bs * 2 ^ n % 2 ^ 64 ≡ on_top (live - n) (drop n bs)
  top_shift =
      let e : n + (live - n) ≡ live = omega arith in
      let w : (live - n) + ((64 - live) + n) ≡ 64 = omega arith in
      let z : (64 - live) + n ≡ 64 - (live - n) = omega arith in
      ap (λ (k : ℕ). peek k bs * 2 ^ (64 - live) * 2 ^ n % 2 ^ 64) (sym e)
      ∙ ap (λ (k : ℕ). peek (n + (live - n)) bs * 2 ^ (64 - live) * 2 ^ n % 2 ^ k) (sym w)
      ∙ shifted n (live - n) (64 - live) bs
      ∙ ap (λ (k : ℕ). peek (live - n) (drop n bs) * 2 ^ k) z

-- the bits from an offset, out of the 64 from its byte
pub top-at : (at : ℕ) (bs : List Bool) → peek 64 (drop (at / 8 * 8) bs) * 2 ^ (at % 8) % 2 ^ 64 ≡ on_top (64 - at % 8) (drop at bs)
top-at at bs =
    ap (λ (x : ℕ). x * 2 ^ (at % 8) % 2 ^ 64) (sym (mul-one (peek 64 (drop (at / 8 * 8) bs))))
    ∙ top_shift (at % 8) 64 (drop (at / 8 * 8) bs) (omega arith) (omega arith)
    ∙ ap (on_top (64 - at % 8)) (drop-in-byte at bs)

-- the same of bits that are all of the data
module _ {bytes : List ℕ} {at live bits : ℕ} (h : Ahead bytes at live bits) (n : ℕ) (there : n ≤ live) where
  pub ahead-first : bits / 2 ^ (64 - n) ≡ peek n (drop at (bits_of bytes))
  ahead-first = rw h.holds (top-first n live (drop at (bits_of bytes)) there h.most)

  pub ahead-shift : Ahead bytes (at + n) (live - n) (bits * 2 ^ n % 2 ^ 64)
  ahead-shift = record {
    most = omega (arith, h.most);
    there = omega (arith, h.there);
    holds = rw (h.holds, top_shift n live (drop at (bits_of bytes)) there h.most, drop-drop n at (bits_of bytes));
  }

-- a buffer of them, n bits on: up to its limit a shift is all
pub fed : {bytes : List ℕ} {b : Buffer} (n : ℕ) → Loaded bytes b → n ≤ 15 → b.at + n ≤ b.limit → Loaded bytes (record { at = b.at + n; limit = b.limit; bits = b.bits * 2 ^ n % 2 ^ 64 })
fed {bytes} {b} n h few up = record {
  live = h.live - n;
  most = omega (arith, h.most);
  holds = rw (h.holds, top_shift n h.live (drop b.at (bits_of bytes)) (omega (arith, h.enough)) h.most, drop-drop n b.at (bits_of bytes));
  enough = omega (arith, h.enough);
  reached = up;
  inside = h.inside;
}

-- ---- Bytes

-- fewer than eight bytes leave room for one more
pub room : (k : ℕ) (bs : List Bool) → k < 8 → peek (k * 8) bs < 2 ^ 56
room k bs h =
    let e : k * 8 ≤ 56 = omega arith in
    lt_of_lt_of_le (peek-lt (k * 8) bs) (pow_mono e)

module _ (bytes : List ℕ) (small : (i : ℕ) → get_or bytes i 0 < 256) where
  -- one bit of a byte
  pub bit_at : (at : ℕ) → get_or bytes (at / 8) 0 / 2 ^ (7 - at % 8) % 2 ≡ peek 1 (drop at (bits_of bytes))
  bit_at at = rw (← peek-byte (at / 8) bytes (small (at / 8))) (part 8 1 (7 - at % 8) at (bits_of bytes) (omega arith))

  -- one byte more
  pub byte_more : (i k : ℕ) → peek ((k + 1) * 8) (drop (i * 8) (bits_of bytes)) ≡ peek (k * 8) (drop (i * 8) (bits_of bytes)) * 256 + get_or bytes (i + k) 0
  byte_more i k =
      let n : (k + 1) * 8 ≡ k * 8 + 8 = omega arith in
      let e : i * 8 + k * 8 ≡ (i + k) * 8 = omega arith in
      rw (n, peek-add (k * 8) 8 (drop (i * 8) (bits_of bytes)), drop-drop (k * 8) (i * 8) (bits_of bytes), e, peek-byte (i + k) bytes (small (i + k)))

  -- eight bytes
  pub eight : (i : ℕ) → eight_at bytes i ≡ peek 64 (drop (i * 8) (bits_of bytes))
  eight i =
      rw (byte_more i 7, byte_more i 6, byte_more i 5, byte_more i 4, byte_more i 3, byte_more i 2, byte_more i 1, byte_more i 0, add-zero i)
      (omega (arith, peek-lt 0 (drop (i * 8) (bits_of bytes))))
