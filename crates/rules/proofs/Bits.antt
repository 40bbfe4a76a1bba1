-- Laws of bits: windows and the numbers that they make, the bits of a number, bits of bytes, and bits from a place on.
-- Assumes nothing.
use mathlib.Core.Path.{◌≡◌, refl, sym, ap, ap₂, ◌∙◌}
use mathlib.Core.Bool.{Bool, true, false, ◌&&◌, true≢false}
use mathlib.Core.List.{List, [], ◌∷◌, ◌++◌}
use Prim.Native.Nat.{ℕ, zero, suc, ◌+◌, ◌*◌, ◌/◌, ◌%◌, ◌^◌, ◌≤◌, ◌<◌}
use native.Mathlib.Omega.{arith}
use native.Mathlib.Numerals.{add-one}
use native.Mathlib.Nat.{zero-add, suc-add, zero-mul, add_assoc, add-mul, mul_assoc, pow-suc, mod-lt, mod-eq_of_lt, suc-mul, add_comm, zero-div}
use lib.Dec.{eqb}
use lib.ListN.{length, get_or, take, drop, length-append, length-drop}
use lib.Pow.{pow_pos, pow-add, high, low, mod-pow-add, field, mod-mod-pow}
use lib.Seq.{drop-nil, drop-append-add, ext_get_or, drop-drop, drop-append_seam}
use Rattle.rules.specs.Bits.{bit, bits_for, bits_of, window, value_of, peek}

pub pow-two : (n : ℕ) → 2 ^ suc n ≡ 2 ^ n + 2 ^ n
pow-two n = rw pow-suc (omega arith)

pub both_true : (a b : Bool) → (a && b) ≡ true → (a ≡ true) × (b ≡ true)
both_true true b e = (refl, e)
both_true false b e = absurd (true≢false (sym e))

-- ---- Windows

pub length-window : (n : ℕ) (bs : List Bool) → length (window n bs) ≡ n
unfolding window
length-window zero bs = refl
length-window (suc n) [] = ap suc (length-window n [])
length-window (suc n) (b ∷ bs) = ap suc (length-window n bs)

-- a window of bits that are there
pub window-take : (n : ℕ) (bs : List Bool) → n ≤ length bs → window n bs ≡ take n bs
unfolding window
window-take zero bs h = refl
window-take (suc n) [] h = absurd (omega arith)
window-take (suc n) (b ∷ bs) h = ap (λ (l : List Bool). b ∷ l) (window-take n bs (omega arith))

-- a window over two lists: the first list's bits, and a window of the second
pub window-append : (n : ℕ) (xs ys : List Bool) → window (length xs + n) (xs ++ ys) ≡ xs ++ window n ys
unfolding window
window-append n [] ys = rw zero-add
window-append n (x ∷ xs) ys = rw suc-add (ap (λ (l : List Bool). x ∷ l) (window-append n xs ys))

-- ---- The number of a window

pub peek-lt : (n : ℕ) (bs : List Bool) → peek n bs < 2 ^ n
unfolding peek
peek-lt zero bs = omega arith
peek-lt (suc n) [] = pow_pos (suc n)
peek-lt (suc n) (true ∷ bs) = omega (arith, peek-lt n bs, pow-two n)
peek-lt (suc n) (false ∷ bs) = omega (arith, peek-lt n bs, pow-two n)

pub peek-nil : (n : ℕ) → peek n [] ≡ 0
unfolding peek
peek-nil zero = refl
peek-nil (suc n) = refl

-- a window of n + m bits: the first n, then m more
pub peek-add : (n m : ℕ) (bs : List Bool) → peek (n + m) bs ≡ peek n bs * 2 ^ m + peek m (drop n bs)
unfolding peek
peek-add zero m bs = simp (zero-add, zero-mul)
peek-add (suc n) m [] = rw (suc-add, peek-nil m) (simp (zero-mul, zero-add))
peek-add (suc n) m (b ∷ bs) = rw suc-add (rw (peek-add n m bs, pow-add 2 n m) (simp (add-mul, mul_assoc, add_assoc)))

-- the first n bits of a longer window
pub peek-high : (n m : ℕ) (bs : List Bool) → peek (n + m) bs / 2 ^ m ≡ peek n bs
peek-high n m bs = rw (peek-add n m bs) (high (peek n bs) m (peek-lt m (drop n bs)))

-- the bits after the first n of a longer window
pub peek-low : (n m : ℕ) (bs : List Bool) → peek (n + m) bs % 2 ^ m ≡ peek m (drop n bs)
peek-low n m bs = rw (peek-add n m bs) (low (peek n bs) m (peek-lt m (drop n bs)))

-- one bit more
pub peek-one : (n : ℕ) (bs : List Bool) → peek (suc n) bs ≡ peek n bs * 2 + peek 1 (drop n bs)
peek-one n bs = rw (← add-one n) (peek-add n 1 bs)

-- a window that lies in the first list
pub peek-append : (n : ℕ) (xs ys : List Bool) → n ≤ length xs → peek n (xs ++ ys) ≡ peek n xs
unfolding peek
peek-append zero xs ys h = refl
peek-append (suc n) [] ys h = absurd (omega arith)
peek-append (suc n) (x ∷ xs) ys h = rw (peek-append n xs ys (omega arith))

-- ---- The bits of a number

pub length-bits_for : (n v : ℕ) → length (bits_for n v) ≡ n
unfolding bits_for
length-bits_for zero v = refl
length-bits_for (suc n) v = ap suc (length-bits_for n v)

bit-value : (i v : ℕ) → value_of (bit i v) ≡ v / 2 ^ i % 2
unfolding bit
bit-value i v = cases (v / 2 ^ i % 2) (mod-lt (v / 2 ^ i) (omega arith))
  where
    cases : (b : ℕ) → b < 2 → value_of (eqb b 1) ≡ b
    cases zero h = refl
    cases (suc zero) h = refl
    cases (suc (suc b)) h = absurd (omega arith)

-- the number that the lowest n bits make
pub peek-bits_for : (n v : ℕ) → peek n (bits_for n v) ≡ v % 2 ^ n
unfolding peek bits_for
peek-bits_for zero v = omega arith
peek-bits_for (suc n) v = rw (peek-bits_for n v, bit-value n v) (sym (mod-pow-add v 1 n) ∙ ap (λ (k : ℕ). v % 2 ^ k) (let e : 1 + n ≡ suc n = omega arith in e))

pub peek-bits : (n v : ℕ) → v < 2 ^ n → peek n (bits_for n v) ≡ v
peek-bits n v h = peek-bits_for n v ∙ mod-eq_of_lt h

-- a bit below the n-th is one of the lowest n
bit-mod : (i j v : ℕ) → bit i (v % 2 ^ (suc j + i)) ≡ bit i v
unfolding bit
bit-mod i j v =
    ap (λ (k : ℕ). eqb (k % 2) 1) (field v (suc j) i)
    ∙ ap (λ (k : ℕ). eqb k 1) (ap (λ (k : ℕ). v / 2 ^ i % 2 ^ k % 2) (let e : suc j ≡ j + 1 = omega arith in e) ∙ mod-mod-pow (v / 2 ^ i) j 1)

bits-mod : (n j v : ℕ) → bits_for n (v % 2 ^ (j + n)) ≡ bits_for n v
unfolding bits_for
bits-mod zero j v = refl
bits-mod (suc n) j v =
    let e : j + suc n ≡ suc j + n = omega arith in
    rw e (ap₂ (λ (b : Bool) (l : List Bool). b ∷ l) (bit-mod n j v) (bits-mod n (suc j) v))

-- the lowest n bits, whatever stands above them
pub bits-low : (n high' low' : ℕ) → low' < 2 ^ n → bits_for n (high' * 2 ^ n + low') ≡ bits_for n low'
bits-low n h l k =
    sym (bits-mod n 0 (h * 2 ^ n + l))
    ∙ ap (bits_for n) (rw zero-add (low h n k))

-- the bits of the number of a window are the window
pub bits-peek : (n : ℕ) (bs : List Bool) → bits_for n (peek n bs) ≡ window n bs
unfolding bit bits_for peek window
bits-peek zero bs = refl
bits-peek (suc n) [] = ap₂ (λ (b : Bool) (l : List Bool). b ∷ l) none (ap (bits_for n) (sym (peek-nil n)) ∙ bits-peek n [])
  where
    none : bit n 0 ≡ false
    none = rw zero-div
bits-peek (suc n) (b ∷ bs) = ap₂ (λ (b : Bool) (l : List Bool). b ∷ l) (first b) (bits-low n (value_of b) (peek n bs) (peek-lt n bs) ∙ bits-peek n bs)
  where
    first : (b : Bool) → bit n (value_of b * 2 ^ n + peek n bs) ≡ b
    first true = rw (high 1 n (peek-lt n bs))
    first false = rw (high 0 n (peek-lt n bs))

-- ---- The bits of bytes

pub length-bits_of : (bytes : List ℕ) → length (bits_of bytes) ≡ 8 * length bytes
unfolding bits_of
length-bits_of [] = refl
length-bits_of (b ∷ bytes) = length-append (bits_for 8 b) (bits_of bytes) ∙ (rw (length-bits_for 8 b, length-bits_of bytes) (omega arith))

pub drop-at-add : (xs ys : List Bool) (n m : ℕ) → length xs ≡ n → drop (n + m) (xs ++ ys) ≡ drop m ys
drop-at-add xs ys n m e = rw (← e) (drop-append-add xs ys m)

-- the bits from a byte's first
pub drop-bits_of : (k : ℕ) (bytes : List ℕ) → drop (k * 8) (bits_of bytes) ≡ bits_of (drop k bytes)
unfolding bits_of
drop-bits_of zero bytes = refl
drop-bits_of (suc k) [] = drop-nil (suc k * 8)
drop-bits_of (suc k) (b ∷ bytes) =
    rw (suc-mul k 8, add_comm (k * 8) 8)
    (drop-at-add (bits_for 8 b) (bits_of bytes) 8 (k * 8) (length-bits_for 8 b) ∙ drop-bits_of k bytes)

-- the eight bits at a byte's first are the byte
peek-dropped : (k : ℕ) (bytes : List ℕ) → get_or bytes k 0 < 256 → peek 8 (bits_of (drop k bytes)) ≡ get_or bytes k 0
unfolding bits_of
peek-dropped zero [] h = peek-nil 8
peek-dropped (suc k) [] h = peek-nil 8
peek-dropped zero (b ∷ bytes) h = peek-append 8 (bits_for 8 b) (bits_of bytes) (omega (arith, length-bits_for 8 b)) ∙ peek-bits 8 b h
peek-dropped (suc k) (b ∷ bytes) h = peek-dropped k bytes h

pub peek-byte : (k : ℕ) (bytes : List ℕ) → get_or bytes k 0 < 256 → peek 8 (drop (k * 8) (bits_of bytes)) ≡ get_or bytes k 0
peek-byte k bytes h = rw drop-bits_of (peek-dropped k bytes h)

-- bytes are settled by their bits
pub bits_of-inj : (xs ys : List ℕ) → length xs ≡ length ys → ((i : ℕ) → get_or xs i 0 < 256) → ((i : ℕ) → get_or ys i 0 < 256) → bits_of xs ≡ bits_of ys → xs ≡ ys
bits_of-inj xs ys l hx hy e =
    ext_get_or 0 xs ys l (λ i _. sym (peek-byte i xs (hx i)) ∙ ap (λ (bs : List Bool). peek 8 (drop (i * 8) bs)) e ∙ peek-byte i ys (hy i))

-- ---- Bits from a place on

-- what follows a prefix of the bits from a place
pub drop-after : (bs xs rest : List Bool) (at : ℕ) → drop at bs ≡ xs ++ rest → drop (at + length xs) bs ≡ rest
drop-after bs xs rest at e = sym (drop-drop (length xs) at bs) ∙ ap (drop (length xs)) e ∙ drop-append_seam xs rest

-- and the bits suffice
pub fits_after : (bs xs rest : List Bool) (at : ℕ) → drop at bs ≡ xs ++ rest → 0 < length xs → at + length xs ≤ length bs
fits_after bs xs rest at e p = omega (arith, simp (length-append, length-drop) at (ap length e))
