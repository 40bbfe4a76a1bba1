-- Bits as a number: its parts, flat ones, and those that are turned from a place on. Assumes nothing.
use mathlib.Core.Path.{◌≡◌, refl, sym, ap, ◌∙◌, subst}
use mathlib.Core.Bool.{Bool, true, false, cond, not}
use mathlib.Core.List.{List, [], ◌∷◌, ◌++◌, append_assoc, append-nil}
use Prim.Native.Nat.{ℕ, zero, suc, ◌+◌, ◌-◌, ◌*◌, ◌/◌, ◌%◌, ◌^◌, ◌≤◌, ◌<◌}
use native.Mathlib.Omega.{arith}
use native.Mathlib.Nat.{add-zero, zero-add, mod-lt, add-mul, mul_assoc, zero-mul}
use lib.Dec.{eqb}
use lib.ListN.{length, take, set, length-set}
use lib.Bits.{bit_xor, xor_block, xor_self, xor_zero_l, xor_zero_r}
use lib.Pow.{pow-add, pow_pos, split, high, low, ones_split}
use lib.Seq.{take-suc-set}
use borrow.Author.Tests.{eqb-true, eqb-false}
use Rattle.rules.specs.Bits.{value_of}
use Rattle.rules.proofs.Bits.{pow-two}
use Rattle.bitmap.specs.Packed.{packed, bytes_from}
use Rattle.bitmap.specs.Steps.{byte_at, top_bytes, Puts, ones_from, Turnable}

-- a number of n bits
pub packed_lt : (f : ℕ → Bool) (n i : ℕ) → packed f n i < 2 ^ n
unfolding packed
packed_lt f zero i = omega arith
packed_lt f (suc n) i = by (f i) (packed_lt f n (suc i))
  where
    by : (b : Bool) → packed f n (suc i) < 2 ^ n → value_of b * 2 ^ n + packed f n (suc i) < 2 ^ suc n
    by true h = omega (arith, pow-two n)
    by false h = omega (arith, pow-two n)

-- equal bits
pub packed-same : (f g : ℕ → Bool) (n i : ℕ) → ((j : ℕ) → i ≤ j → j < i + n → f j ≡ g j) → packed f n i ≡ packed g n i
unfolding packed
packed-same f g zero i h = refl
packed-same f g (suc n) i h =
    rw (h i (omega arith) (omega arith), packed-same f g n (suc i) (λ j a b. h j (omega arith) (omega arith)))

-- all white, and all black
pub packed-zeros : (f : ℕ → Bool) (n i : ℕ) → ((j : ℕ) → i ≤ j → j < i + n → f j ≡ false) → packed f n i ≡ 0
unfolding packed
packed-zeros f zero i h = refl
packed-zeros f (suc n) i h =
    rw (h i (omega arith) (omega arith), packed-zeros f n (suc i) (λ j a b. h j (omega arith) (omega arith))) (omega arith)

pub packed-ones : (f : ℕ → Bool) (n i : ℕ) → ((j : ℕ) → i ≤ j → j < i + n → f j ≡ true) → packed f n i + 1 ≡ 2 ^ n
unfolding packed
packed-ones f zero i h = refl
packed-ones f (suc n) i h =
    rw (h i (omega arith) (omega arith)) (omega (arith, packed-ones f n (suc i) (λ j a b. h j (omega arith) (omega arith)), pow-two n))

-- all turned
pub packed-not : (f : ℕ → Bool) (n i : ℕ) → packed (λ j. not (f j)) n i + packed f n i + 1 ≡ 2 ^ n
unfolding packed
packed-not f zero i = refl
packed-not f (suc n) i = by (f i) (packed-not f n (suc i))
  where
    by : (b : Bool) → packed (λ j. not (f j)) n (suc i) + packed f n (suc i) + 1 ≡ 2 ^ n
        → value_of (not b) * 2 ^ n + packed (λ j. not (f j)) n (suc i) + (value_of b * 2 ^ n + packed f n (suc i)) + 1 ≡ 2 ^ suc n
    by true h = omega (arith, pow-two n)
    by false h = omega (arith, pow-two n)

-- Turned from x on: f is white there, and g is black. Before x they agree.
pub packed-turned : (f g : ℕ → Bool) (n i x : ℕ) → i ≤ x → x ≤ i + n → ((j : ℕ) → j < x → f j ≡ g j) → ((j : ℕ) → x ≤ j → f j ≡ false)
    → ((j : ℕ) → x ≤ j → g j ≡ true) → packed g n i + 1 ≡ packed f n i + 2 ^ (i + n - x)
unfolding packed
packed-turned f g zero i x a b same dark light = let e : i + 0 - x ≡ 0 = omega arith in rw e refl
packed-turned f g (suc n) i x a b same dark light = by (eqb x i) refl (λ h. packed-turned f g n (suc i) x h (omega arith) same dark light)
  where
    goal : Type 0
    goal = (value_of (g i) * 2 ^ n + packed g n (suc i)) + 1 ≡ (value_of (f i) * 2 ^ n + packed f n (suc i)) + 2 ^ (i + suc n - x)

    by : (t : Bool) → eqb x i ≡ t → (suc i ≤ x → packed g n (suc i) + 1 ≡ packed f n (suc i) + 2 ^ (suc i + n - x)) → goal
    by true e later =
        let here = eqb-true x i e in
        let p : i + suc n - x ≡ suc n = omega arith in
        rw (p, light i (omega arith), dark i (omega arith))
        (omega (arith, pow-two n, packed-ones g n (suc i) (λ j p q. light j (omega arith)), packed-zeros f n (suc i) (λ j p q. dark j (omega arith))))
    by false e later =
        let apart = eqb-false x i e in
        let p : i + suc n - x ≡ suc i + n - x = omega arith in
        rw (p, same i (omega arith)) (omega (arith, later (omega arith)))

-- two parts
pub packed-add : (f : ℕ → Bool) (m n i : ℕ) → packed f (m + n) i ≡ packed f m i * 2 ^ n + packed f n (i + m)
unfolding packed
packed-add f zero n i = let e : zero + n ≡ n = omega arith in let p : i + 0 ≡ i = omega arith in rw (e, p) (omega arith)
packed-add f (suc m) n i =
    let e : suc m + n ≡ suc (m + n) = omega arith in
    let p : suc i + m ≡ i + suc m = omega arith in
    rw (e, packed-add f m n (suc i), p, add-mul, mul_assoc, ← pow-add 2 m n) (omega arith)

-- a part in the middle
pub packed-middle : (f : ℕ → Bool) (a b c i : ℕ) → packed f (a + b + c) i / 2 ^ c % 2 ^ b ≡ packed f b (i + a)
packed-middle f a b c i =
    rw (packed-add f (a + b) c i, high (packed f (a + b) i) c (packed_lt f c (i + (a + b))), packed-add f a b i, low (packed f a i) b (packed_lt f b (i + a)))

-- ---- Bytes

-- the bytes from one on, in two parts
pub bytes-add : (f : ℕ → Bool) (m n j : ℕ) → bytes_from f (m + n) j ≡ bytes_from f m j ++ bytes_from f n (j + m)
unfolding bytes_from
bytes-add f zero n j = let e : zero + n ≡ n = omega arith in let p : j + 0 ≡ j = omega arith in rw (e, p)
bytes-add f (suc m) n j =
    let e : suc m + n ≡ suc (m + n) = omega arith in
    let p : suc j + m ≡ j + suc m = omega arith in
    rw (e, bytes-add f m n (suc j), p)

pub length-bytes : (f : ℕ → Bool) (n j : ℕ) → length (bytes_from f n j) ≡ n
unfolding bytes_from
length-bytes f zero j = refl
length-bytes f (suc n) j = ap suc (length-bytes f n (suc j))

-- those of a word of 64 bits
pub top-bytes : (f : ℕ → Bool) (n j : ℕ) → n ≤ 8 → top_bytes n (packed f 64 (8 * j)) ≡ bytes_from f n j
unfolding top_bytes bytes_from
top-bytes f zero j h = refl
top-bytes f (suc n) j h =
    let e : 64 ≡ 8 * n + 8 + (56 - 8 * n) = omega arith in
    let p : 8 * j + 8 * n ≡ 8 * (j + n) = omega arith in
    let q : suc n ≡ n + 1 = omega arith in
    let byte : byte_at (packed f 64 (8 * j)) n ≡ packed f 8 (8 * (j + n)) =
    ap (λ (k : ℕ). packed f k (8 * j) / 2 ^ (56 - 8 * n) % 256) e ∙ packed-middle f (8 * n) 8 (56 - 8 * n) (8 * j) ∙ ap (packed f 8) p in
    ap (λ (l : List ℕ). l ++ byte_at (packed f 64 (8 * j)) n ∷ []) (top-bytes f n j (omega arith))
    ∙ ap (λ (b : ℕ). bytes_from f n j ++ b ∷ []) byte
    ∙ sym (bytes-add f n 1 j)
    ∙ ap (λ (k : ℕ). bytes_from f k j) (sym q)

-- ---- Bytes that are put

pub puts_none : (i bits : ℕ) (out : List ℕ) → Puts 0 i bits out out
unfolding top_bytes
puts_none i bits out = record { front = rw (add-zero i) (sym (append-nil (take i out))); size = refl }

pub puts-next : (n i bits b : ℕ) {out out' : List ℕ} → b ≡ byte_at bits n → i + n < length out → Puts n i bits out out' → Puts (suc n) i bits out (set out' (i + n) b)
unfolding top_bytes
puts-next n i bits b {out} {out'} e h p = record {
  front =
      let q : i + suc n ≡ suc (i + n) = omega arith in
      rw (q, take-suc-set out' (i + n) b (omega (arith, p.size)), p.front, e) (append_assoc (take i out) (top_bytes n bits) (byte_at bits n ∷ []));
  size = length-set out' (i + n) b ∙ p.size;
}

pub puts_first : (i bits b : ℕ) {out : List ℕ} → b ≡ byte_at bits 0 → i < length out → Puts 1 i bits out (set out i b)
puts_first i bits b {out} e h =
    subst (λ (k : ℕ). Puts 1 i bits out (set out k b)) (add-zero i) (puts-next 0 i bits b e (omega arith) (puts_none i bits out))

-- ---- Ones

-- a word of ones, shifted
pub ones-shifted : (at : ℕ) → at < 64 → 18446744073709551615 / 2 ^ at ≡ ones_from at
ones-shifted at h =
    let e : 64 - at + at ≡ 64 = omega arith in
    let s : 2 ^ (64 - at + at) - 1 ≡ (2 ^ (64 - at) - 1) * 2 ^ at + (2 ^ at - 1) = ones_split (64 - at) at in
    let t : 18446744073709551615 ≡ (2 ^ (64 - at) - 1) * 2 ^ at + (2 ^ at - 1) = ap (λ (k : ℕ). 2 ^ k - 1) (sym e) ∙ s in
    ap (λ (k : ℕ). k / 2 ^ at) t ∙ high (2 ^ (64 - at) - 1) at (omega (arith, pow_pos at))

-- flat bits that are turned against ones: added where they are zeros, and taken away where they are ones
pub turned-flat : (black : Bool) (bits at : ℕ) → at < 64 → Turnable black bits at → bit_xor bits (18446744073709551615 / 2 ^ at) ≡ cond black (bits - ones_from at) (bits + ones_from at)
turned-flat black bits at h t =
    ap (bit_xor bits) (ones-shifted at h ∙ sym (zero-add (ones_from at)))
    ∙ ap (λ (b : ℕ). bit_xor b (0 + ones_from at)) (sym (split bits (64 - at)))
    ∙ ap (λ (z : ℕ). bit_xor (bits / 2 ^ (64 - at) * 2 ^ (64 - at) + bits % 2 ^ (64 - at)) (z + ones_from at)) (sym (zero-mul (2 ^ (64 - at))))
    ∙ xor_block (64 - at) (bits / 2 ^ (64 - at)) 0 (bits % 2 ^ (64 - at)) (ones_from at) (mod-lt bits (pow_pos (64 - at))) (omega (arith, pow_pos (64 - at)))
    ∙ by black t
  where
    high_part : ℕ
    high_part = bits / 2 ^ (64 - at) * 2 ^ (64 - at)

    parts : high_part + bits % 2 ^ (64 - at) ≡ bits
    parts = split bits (64 - at)

    front : (low_part : ℕ) → bit_xor (bits / 2 ^ (64 - at)) 0 * 2 ^ (64 - at) + low_part ≡ high_part + low_part
    front low_part = ap (λ (v : ℕ). v * 2 ^ (64 - at) + low_part) (xor_zero_r (bits / 2 ^ (64 - at)))

    by : (b : Bool) → Turnable b bits at
        → bit_xor (bits / 2 ^ (64 - at)) 0 * 2 ^ (64 - at) + bit_xor (bits % 2 ^ (64 - at)) (ones_from at) ≡ cond b (bits - ones_from at) (bits + ones_from at)
    by true e =
        front _
        ∙ ap (λ (v : ℕ). high_part + v) (ap (λ (v : ℕ). bit_xor v (ones_from at)) e ∙ xor_self (ones_from at))
        ∙ omega (arith, parts, e)
    by false e =
        front _
        ∙ ap (λ (v : ℕ). high_part + v) (ap (λ (v : ℕ). bit_xor v (ones_from at)) e ∙ xor_zero_l (ones_from at))
        ∙ omega (arith, parts, e)
