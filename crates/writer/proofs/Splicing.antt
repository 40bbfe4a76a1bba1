-- Bits that take the place of others in bytes, and the bytes that a code is stored in. Assumes nothing.
use mathlib.Core.Path.{◌≡◌, refl, sym, ap, ◌∙◌, subst}
use mathlib.Core.Bool.{Bool, false}
use mathlib.Core.List.{List, [], ◌∷◌, ◌++◌, append_assoc, append-nil}
use Prim.Native.Nat.{ℕ, zero, suc, ◌+◌, ◌-◌, ◌*◌, ◌/◌, ◌%◌, ◌^◌, ◌≤◌, ◌<◌}
use native.Mathlib.Omega.{arith}
use native.Mathlib.Nat.{add-zero, zero-div, mod-lt, suc-mul, mul-le-mul_right}
use lib.ListN.{length, get_or, take, drop, set, replicate, length-append, length-drop, length-set, take-append-drop}
use lib.Seq.{take_at, drop_at, take-add, drop-drop, length-take-le, drop-append-add, set_split, take-append-le, drop-cons, take-length}
use lib.Pow.{pow_pos, pow-add, pow_mono, split, shl_lt, shl_exact, shr_lt}
use Rattle.rules.specs.Bits.{bit, bits_for, bits_of, peek}
use Rattle.rules.specs.Rows.{bytes_to}
use Rattle.rules.specs.Write.{to_byte}
use Rattle.rules.proofs.Bits.{length-bits_for, length-bits_of, drop-bits_of, peek-add, peek-append, peek-bits, bits-peek, window-take}
use Rattle.tables.specs.declared.Code.{Code}
use Rattle.writer.specs.Putting.{splice, behind, Splices, Joined, Raised, Sound}

-- ---- Splices

module _ (p : ℕ) (bs : List Bool) where
  -- bits spliced behind others leave those as they are, and take the place of what was spliced with them
  pub splice-splice : (xs zs us : List Bool) → p + length xs + length zs ≤ length bs → length zs ≤ length us
      → splice (p + length xs) us (splice p (xs ++ zs) bs) ≡ splice p (xs ++ us) bs
  unfolding splice
  splice-splice xs zs us h k =
      ap (λ (l : List Bool). take (p + length xs) l ++ (us ++ drop (p + length xs + length us) l)) same
      ∙ ap (λ (l : List Bool). l ++ (us ++ drop (p + length xs + length us) ((take p bs ++ xs) ++ rest)))
      (take_at (take p bs ++ xs) rest (p + length xs) front)
      ∙ ap (λ (l : List Bool). (take p bs ++ xs) ++ (us ++ l)) back
      ∙ simp append_assoc
    where
      rest : List Bool
      rest = zs ++ drop (p + length (xs ++ zs)) bs

      same : take p bs ++ ((xs ++ zs) ++ drop (p + length (xs ++ zs)) bs) ≡ (take p bs ++ xs) ++ rest
      same = simp append_assoc

      front : length (take p bs ++ xs) ≡ p + length xs
      front = rw (length-append, length-take-le p bs (omega arith))

      back : drop (p + length xs + length us) ((take p bs ++ xs) ++ rest) ≡ drop (p + length (xs ++ us)) bs
      back =
          ap (λ (n : ℕ). drop (n + length us) ((take p bs ++ xs) ++ rest)) (sym front)
          ∙ drop-append-add (take p bs ++ xs) rest (length us)
          ∙ ap (λ (n : ℕ). drop n rest) (let q : length us ≡ length zs + (length us - length zs) = omega arith in q)
          ∙ drop-append-add zs (drop (p + length (xs ++ zs)) bs) (length us - length zs)
          ∙ drop-drop (length us - length zs) (p + length (xs ++ zs)) bs
          ∙ ap (λ (n : ℕ). drop n bs)
          (let q : p + length (xs ++ zs) + (length us - length zs) ≡ p + length (xs ++ us) = omega (arith, length-append xs zs, length-append xs us) in q)

  -- bits spliced over themselves
  splice-kept : (j : ℕ) (ys : List Bool) → p + j ≤ length bs → splice p (take j (drop p bs) ++ ys) bs ≡ splice (p + j) ys bs
  unfolding splice
  splice-kept j ys h = rw (take-add p j bs, e) (simp append_assoc)
    where
      e : p + length (take j (drop p bs) ++ ys) ≡ p + j + length ys
      e = omega (arith, length-append (take j (drop p bs)) ys, length-take-le j (drop p bs) (omega (arith, length-drop p bs)))

-- ---- Bits of numbers

-- two numbers side by side
bits-add : (n m a b : ℕ) → a < 2 ^ n → b < 2 ^ m → bits_for (n + m) (a * 2 ^ m + b) ≡ bits_for n a ++ bits_for m b
bits-add n m a b h k =
    ap (bits_for (n + m)) (sym number)
    ∙ bits-peek (n + m) bs
    ∙ window-take (n + m) bs (omega (arith, long))
    ∙ ap (λ (l : ℕ). take l bs) (sym long)
    ∙ take-length bs
  where
    bs : List Bool
    bs = bits_for n a ++ bits_for m b

    long : length bs ≡ n + m
    long = rw (length-append, length-bits_for, length-bits_for)

    number : peek (n + m) bs ≡ a * 2 ^ m + b
    number =
        peek-add n m bs
        ∙ rw (
          peek-append n (bits_for n a) (bits_for m b) (omega (arith, length-bits_for n a)),
          peek-bits n a h,
          drop_at (bits_for n a) (bits_for m b) n
              (length-bits_for n a),
          peek-bits m b k,
        )

-- and their size
add-lt : (n m a b : ℕ) → a < 2 ^ n → b < 2 ^ m → a * 2 ^ m + b < 2 ^ (n + m)
add-lt n m a b h k = rw (pow-add 2 n m) (omega (arith, suc-mul a (2 ^ m), mul-le-mul_right (2 ^ m) (let q : suc a ≤ 2 ^ n = omega arith in q)))

-- zeros
bits-zero : (n : ℕ) → bits_for n 0 ≡ replicate n false
unfolding bit bits_for
bits-zero zero = refl
bits-zero (suc n) = rw (zero-div, bits-zero n)

-- ---- Bytes

-- the bits of bytes side by side
bits-append : (xs ys : List ℕ) → bits_of (xs ++ ys) ≡ bits_of xs ++ bits_of ys
unfolding bits_of
bits-append [] ys = refl
bits-append (x ∷ xs) ys = rw (bits-append xs ys) (sym (append_assoc (bits_for 8 x) (bits_of xs) (bits_of ys)))

-- a byte that is set
pub set-splices : (xs : List ℕ) (i b : ℕ) → i < length xs → Splices (i * 8) (bits_for 8 b) xs (set xs i b)
unfolding splice bits_of
set-splices xs i b h = record {
  bits =
      ap bits_of (set_split xs i b h)
      ∙ bits-append (take i xs) (b ∷ drop (suc i) xs)
      ∙ ap (λ (l : List Bool). l ++ (bits_for 8 b ++ bits_of (drop (suc i) xs))) front
      ∙ ap (λ (l : List Bool). take (i * 8) (bits_of xs) ++ (bits_for 8 b ++ l)) back;
  size = length-set xs i b;
}
  where
    front : bits_of (take i xs) ≡ take (i * 8) (bits_of xs)
    front =
        sym (take_at (bits_of (take i xs)) (bits_of (drop i xs)) (i * 8) (omega (arith, length-bits_of (take i xs), length-take-le i xs (omega arith))))
        ∙ ap (take (i * 8)) (sym (bits-append (take i xs) (drop i xs)) ∙ ap bits_of (take-append-drop i xs))

    back : bits_of (drop (suc i) xs) ≡ drop (i * 8 + length (bits_for 8 b)) (bits_of xs)
    back =
        sym (drop-bits_of (suc i) xs)
        ∙ ap (λ (n : ℕ). drop n (bits_of xs)) (let q : suc i * 8 ≡ i * 8 + length (bits_for 8 b) = omega (arith, length-bits_for 8 b) in q)

-- one splice behind another
splices-next : (p n m a b : ℕ) {xs ys zs : List ℕ} → a < 2 ^ n → b < 2 ^ m → p + n ≤ 8 * length xs
    → Splices p (bits_for n a) xs ys → Splices (p + n) (bits_for m b) ys zs → Splices p (bits_for (n + m) (a * 2 ^ m + b)) xs zs
splices-next p n m a b {xs} {ys} {zs} ha hb h s t = record {
  bits =
      t.bits
      ∙ ap (splice (p + n) (bits_for m b)) s.bits
      ∙ ap (λ (l : List Bool). splice (p + n) (bits_for m b) (splice p l (bits_of xs))) (sym (append-nil (bits_for n a)))
      ∙ ap (λ (l : ℕ). splice (p + l) (bits_for m b) (splice p (bits_for n a ++ []) (bits_of xs))) (sym (length-bits_for n a))
      ∙ splice-splice p (bits_of xs) (bits_for n a) [] (bits_for m b) (omega (arith, length-bits_for n a, length-bits_of xs)) (omega arith)
      ∙ ap (λ (l : List Bool). splice p l (bits_of xs)) (sym (bits-add n m a b ha hb));
  size = t.size ∙ s.size;
}

-- n bits of a number, and the byte behind them
pub byte_next : (i n p word : ℕ) {xs ys zs : List ℕ} → p ≡ i * 8 + n → word / 256 < 2 ^ n → p ≤ 8 * length xs
    → Splices (i * 8) (bits_for n (word / 256)) xs ys → Splices p (bits_for 8 (word % 256)) ys zs → Splices (i * 8) (bits_for (n + 8) word) xs zs
byte_next i n p word {xs} {ys} {zs} e h r s t =
    subst (λ (v : ℕ). Splices (i * 8) (bits_for (n + 8) v) xs zs) (let q : word / 256 * 2 ^ 8 + word % 256 ≡ word = omega arith in q)
    (splices-next (i * 8) n 8 (word / 256) (word % 256) h (omega arith) (omega arith) s (subst (λ (v : ℕ). Splices v (bits_for 8 (word % 256)) ys zs) e t))

-- ---- A code in bytes

module _ (byte kept : ℕ) (code : Code) (hb : byte < 256) (hk : kept < 8) (sound : Sound code) where
  -- the bits that are kept
  top_lt : byte / 2 ^ (8 - kept) < 2 ^ kept
  top_lt = shr_lt kept (8 - kept) (let q : kept + (8 - kept) ≡ 8 = omega arith in rw q hb)

  exact : (byte / 2 ^ (8 - kept) * 2 ^ code.size) % 4294967296 ≡ byte / 2 ^ (8 - kept) * 2 ^ code.size
  exact = shl_exact kept code.size 32 top_lt (omega (arith, sound.few_bits))

  -- with the code behind them
  pub join : Joined byte kept code ((byte / 2 ^ (8 - kept) * 2 ^ code.size) % 4294967296 + code.word)
  join = rw exact (record { is = refl; below = add-lt kept code.size (byte / 2 ^ (8 - kept)) code.word top_lt sound.small })

  pub join-fits : (byte / 2 ^ (8 - kept) * 2 ^ code.size) % 4294967296 + code.word < 4294967296
  join-fits =
      let g = join in
      let e : kept + code.size ≤ 20 = omega (arith, sound.few_bits) in
      let l : 2 ^ (kept + code.size) ≤ 2 ^ 20 = pow_mono e in
      omega (arith, g.below)

-- zeros behind a number
pub raise : (word size whole : ℕ) → word < 2 ^ size → size ≤ whole → whole ≤ 24 → Raised word size whole ((word * 2 ^ (whole - size)) % 4294967296)
raise word size whole h k l =
    rw (shl_exact size (whole - size) 32 h (omega arith))
    (record { is = refl; below = let q : size + (whole - size) ≡ whole = omega arith in rw q at (shl_lt size (whole - size) h) })

-- the bytes that hold a code: the bits before it stay, and zeros follow it to the last byte's end
pub stored : (xs : List ℕ) (at : ℕ) (code : Code) (w whole x : ℕ) (ys : List ℕ) → get_or xs (at / 8) 0 < 256 → Sound code
    → Joined (get_or xs (at / 8) 0) (at % 8) code w → at % 8 + code.size ≤ whole → at / 8 * 8 + whole ≤ 8 * length xs
    → bytes_to (at + code.size) * 8 ≡ at / 8 * 8 + whole
    → Raised w (at % 8 + code.size) whole x → Splices (at / 8 * 8) (bits_for whole x) xs ys
    → Splices at (behind at (bits_for code.size code.word)) xs ys
unfolding bits_of to_byte
stored xs at code w whole x ys hb sound joined hw inside ends raised s = record {
  bits =
      s.bits
      ∙ ap (λ (l : List Bool). splice (i * 8) l (bits_of xs)) (all ∙ append_assoc (take kept (drop (i * 8) (bits_of xs))) bits' (replicate zeros false))
      ∙ splice-kept (i * 8) (bits_of xs) kept (bits' ++ replicate zeros false) (omega (arith, length-bits_of xs))
      ∙ ap (λ (p : ℕ). splice p (bits' ++ replicate zeros false) (bits_of xs)) place
      ∙ ap (λ (n : ℕ). splice at (bits' ++ replicate n false) (bits_of xs)) (let q : zeros ≡ bytes_to (at + length bits') * 8 - (at + length bits') =
      rw long (omega arith) in q);
  size = s.size;
}
  where
    i : ℕ
    i = at / 8

    kept : ℕ
    kept = at % 8

    bits' : List Bool
    bits' = bits_for code.size code.word

    zeros : ℕ
    zeros = whole - (kept + code.size)

    byte : ℕ
    byte = get_or xs i 0

    place : i * 8 + kept ≡ at
    place = omega arith

    long : length bits' ≡ code.size
    long = length-bits_for code.size code.word

    top : byte / 2 ^ (8 - kept) < 2 ^ kept
    top = top_lt byte kept code hb (omega arith) sound

    first : bits_for kept (byte / 2 ^ (8 - kept)) ≡ take kept (drop (i * 8) (bits_of xs))
    first =
        sym (take_at (bits_for kept (byte / 2 ^ (8 - kept))) (bits_for (8 - kept) (byte % 2 ^ (8 - kept))) kept (length-bits_for kept _))
        ∙ ap (take kept)
        (sym (bits-add kept (8 - kept) (byte / 2 ^ (8 - kept)) (byte % 2 ^ (8 - kept)) top (mod-lt byte (pow_pos (8 - kept))))
        ∙ ap (bits_for (kept + (8 - kept))) (split byte (8 - kept))
        ∙ ap (λ (n : ℕ). bits_for n byte) (let q : kept + (8 - kept) ≡ 8 = omega arith in q))
        ∙ sym (take-append-le kept (bits_for 8 byte) (bits_of (drop (suc i) xs)) (omega (arith, length-bits_for 8 byte)))
        ∙ ap (λ (l : List ℕ). take kept (bits_of l)) (sym (drop-cons xs i 0 (omega (arith, sound.some_bits))))
        ∙ ap (take kept) (sym (drop-bits_of i xs))

    all : bits_for whole x ≡ (take kept (drop (i * 8) (bits_of xs)) ++ bits') ++ replicate zeros false
    all =
        ap (bits_for whole) (raised.is ∙ sym (add-zero (w * 2 ^ zeros)))
        ∙ ap (λ (n : ℕ). bits_for n (w * 2 ^ zeros + 0)) (let q : whole ≡ kept + code.size + zeros = omega arith in q)
        ∙ bits-add (kept + code.size) zeros w 0 joined.below (pow_pos zeros)
        ∙ ap (λ (l : List Bool). bits_for (kept + code.size) w ++ l) (bits-zero zeros)
        ∙ ap (λ (l : List Bool). l ++ replicate zeros false)
        (ap (bits_for (kept + code.size)) joined.is
        ∙ bits-add kept code.size (byte / 2 ^ (8 - kept)) code.word top sound.small
        ∙ ap (λ (l : List Bool). l ++ bits') first)
