-- The changes of a line, and those of 64 pixels by the ones of a word. Assumes nothing.
use mathlib.Core.Path.{◌≡◌, refl, sym, ap, ◌∙◌, subst}
use mathlib.Core.Bool.{Bool, true, false, cond, not, true≢false}
use mathlib.Core.List.{List, [], ◌∷◌, ◌++◌, append_assoc, append-nil}
use Prim.Native.Nat.{ℕ, zero, suc, ◌+◌, ◌-◌, ◌*◌, ◌/◌, ◌%◌, ◌^◌, ◌≤◌, ◌<◌}
use native.Mathlib.Omega.{arith}
use native.Mathlib.Nat.{add-zero, mul-one}
use lib.Count as Count
use lib.Dec.{eqb, ltb}
use lib.ListN.{length, get_or, take, drop, set, length-append, length-drop, drop_of_length-le, take-append-drop}
use lib.Seq.{take_at, drop-append-add, drop-drop, length-take-le, set_split, append_snoc}
use borrow.Author.Tests.{ltb-true, ltb-false, eqb-true, eqb-false}
use Rattle.rules.specs.Bits.{bit, bits_of, peek, value_of}
use Rattle.rules.specs.Codes.{Colour, white, black, differ}
use Rattle.rules.specs.Pixels.{Pixels, changing}
use Rattle.rules.proofs.Bits.{pow-two, peek-add, peek-nil, length-bits_of}
use Rattle.bit_reader.specs.Loaded.{Ahead, on_top}
use Rattle.bit_reader.proofs.Window.{bit_at}
use Rattle.bitmap.specs.Packed.{packed, laid, turns_from}
use Rattle.bitmap.specs.Steps.{is_black}
use Rattle.bitmap.specs.Turning.{bit_in, colour_before, recorded}
use Rattle.bitmap.proofs.Packing.{packed_lt, packed-same, packed-zeros, packed-not, packed-add}

-- ---- Bits of bytes

bit-value : (i x : ℕ) → value_of (bit i x) ≡ x / 2 ^ i % 2
unfolding bit
bit-value i x = by (x / 2 ^ i % 2) (eqb (x / 2 ^ i % 2) 1) refl (omega arith)
  where
    by : (v : ℕ) (b : Bool) → eqb v 1 ≡ b → v < 2 → value_of b ≡ v
    by v true e h = sym (eqb-true v 1 e)
    by v false e h = omega (arith, eqb-false v 1 e)

module _ (bytes : List ℕ) (small : (i : ℕ) → get_or bytes i 0 < 256) where
  -- a window of the bits is their number
  pub peek-packed : (n p : ℕ) → peek n (drop p (bits_of bytes)) ≡ packed (bit_in bytes) n p
  unfolding packed peek
  peek-packed zero p = refl
  peek-packed (suc n) p =
      let e : suc n ≡ 1 + n = omega arith in
      let d : p + 1 ≡ suc p = omega arith in
      ap (λ (k : ℕ). peek k (drop p (bits_of bytes))) e
      ∙ peek-add 1 n (drop p (bits_of bytes))
      ∙ ap (λ (v : ℕ). v * 2 ^ n + peek n (drop 1 (drop p (bits_of bytes)))) (sym (bit_at bytes small p) ∙ sym (bit-value (7 - p % 8) (get_or bytes (p / 8) 0)))
      ∙ ap (λ (l : List Bool). value_of (bit_in bytes p) * 2 ^ n + peek n l) (drop-drop 1 p (bits_of bytes) ∙ ap (λ (k : ℕ). drop k (bits_of bytes)) d)
      ∙ ap (λ (v : ℕ). value_of (bit_in bytes p) * 2 ^ n + v) (peek-packed n (suc p))

  -- two halves
  pub halves : (at : ℕ) {high low : ℕ} → high ≡ peek 32 (drop at (bits_of bytes)) → low ≡ peek 32 (drop (at + 32) (bits_of bytes))
      → high * 4294967296 + low ≡ packed (bit_in bytes) 64 at
  halves at e f = sym (packed-add (bit_in bytes) 32 32 at ∙ rw (← peek-packed 32 at, ← peek-packed 32 (at + 32), e, f))

  -- of which the second lies past the data
  pub half : (at : ℕ) {high : ℕ} → high ≡ peek 32 (drop at (bits_of bytes)) → 8 * length bytes < at + 32 → high * 4294967296 ≡ packed (bit_in bytes) 64 at
  half at {high} e h =
      let past : length (bits_of bytes) ≤ at + 32 = omega (arith, length-bits_of bytes) in
      let z : 0 ≡ peek 32 (drop (at + 32) (bits_of bytes)) = sym (ap (peek 32) (drop_of_length-le (bits_of bytes) past) ∙ peek-nil 32) in
      sym (add-zero (high * 4294967296)) ∙ halves at e z

  -- a whole word
  pub ahead-packed : (at : ℕ) {r : ℕ} → at % 8 ≡ 0 → Ahead bytes at (64 - at % 8) r → r ≡ packed (bit_in bytes) 64 at
  ahead-packed at z a =
      let live : 64 - at % 8 ≡ 64 = omega arith in
      a.holds ∙ ap (λ (k : ℕ). on_top k (drop at (bits_of bytes))) live ∙ mul-one _ ∙ peek-packed 64 at

-- ---- The ones of a word

-- the zeros before the first one
zeros_of : (ℕ → Bool) → ℕ → ℕ → ℕ
zeros_of f zero i = 0
zeros_of f (suc n) i = cond (f i) 0 (suc (zeros_of f n (suc i)))

record Digits (n zeros number : ℕ) : Type 0 where
  m : ℕ
  all : zeros + m ≡ n
  below : number < 2 ^ m
  above : 2 ^ m ≤ 2 * number + 1

digits : (f : ℕ → Bool) (n i : ℕ) → Digits n (zeros_of f n i) (packed f n i)
unfolding zeros_of packed
digits f zero i = record { m = 0; all = omega arith; below = omega arith; above = omega arith }
digits f (suc n) i = by (f i) (digits f n (suc i))
  where
    by : (b : Bool) → Digits n (zeros_of f n (suc i)) (packed f n (suc i))
        → Digits (suc n) (cond b 0 (suc (zeros_of f n (suc i)))) (value_of b * 2 ^ n + packed f n (suc i))
    by true d = record { m = suc n; all = omega arith; below = omega (arith, packed_lt f n (suc i), pow-two n); above = omega (arith, pow-two n) }
    by false d = record { m = d.m; all = omega (arith, d.all); below = omega (arith, d.below); above = omega (arith, d.above) }

-- what they are: z zeros from i on, and then a one
pub record Leads (f : ℕ → Bool) (n i z : ℕ) : Type 0 where
  pub few : z ≤ n
  pub clear : (j : ℕ) → i ≤ j → j < i + z → f j ≡ false
  pub first : z < n → f (i + z) ≡ true

leads-of : (f : ℕ → Bool) (n i : ℕ) → Leads f n i (zeros_of f n i)
unfolding zeros_of
leads-of f zero i = record { few = omega arith; clear = λ j a b. absurd (omega arith); first = λ h. absurd (omega arith) }
leads-of f (suc n) i = by (f i) refl (leads-of f n (suc i))
  where
    by : (b : Bool) → f i ≡ b → Leads f n (suc i) (zeros_of f n (suc i)) → Leads f (suc n) i (cond b 0 (suc (zeros_of f n (suc i))))
    by true e l = record { few = omega arith; clear = λ j a b. absurd (omega arith); first = λ h. rw (add-zero i) e }
    by false e l = record {
      few = omega (arith, l.few);
      clear = λ j a b. at j a b (eqb j i) refl;
      first = λ h. let q : i + suc (zeros_of f n (suc i)) ≡ suc i + zeros_of f n (suc i) = omega arith in rw q (l.first (omega arith));
    }
      where
        at : (j : ℕ) → i ≤ j → j < i + suc (zeros_of f n (suc i)) → (t : Bool) → eqb j i ≡ t → f j ≡ false
        at j a b true q = ap f (eqb-true j i q) ∙ e
        at j a b false q = l.clear j (omega (arith, eqb-false j i q)) (omega arith)

pub leads : (f : ℕ → Bool) (n i : ℕ) {bits : ℕ} → bits ≡ packed f n i → Leads f n i (Count.count_leading_zeros n bits)
leads f n i {bits} e =
    let d = digits f n i in
    subst (Leads f n i) (Count.leading_unique n (packed f n i) (zeros_of f n i) d.m d.all d.below d.above ∙ ap (Count.count_leading_zeros n) (sym e)) (leads-of f n i)

-- a number above 0 has a one
pub leads-some : (f : ℕ → Bool) (n i z : ℕ) {bits : ℕ} → bits ≡ packed f n i → (bits ≡ 0 → ⊥) → Leads f n i z → z < n
leads-some f n i z e h l = by (ltb z n) refl
  where
    by : (t : Bool) → ltb z n ≡ t → z < n
    by true q = ltb-true z n q
    by false q = absurd (h (e ∙ packed-zeros f n i (λ j a b. l.clear j a (omega (arith, ltb-false z n q)))))

-- and 0 has none
pub none-set : (f : ℕ → Bool) (n i : ℕ) → packed f n i ≡ 0 → (j : ℕ) → i ≤ j → j < i + n → f j ≡ false
none-set f n i e j a b =
    let l = leads f n i (sym e) in
    let z : Count.count_leading_zeros n 0 ≡ n = Count.leading_of_zero n in
    l.clear j a (omega (arith, z))

-- two words that are zeros before x, and turned against each other from x on
pub packed-flip : (f g : ℕ → Bool) (n i x : ℕ) → i ≤ x → x ≤ i + n → ((j : ℕ) → i ≤ j → j < x → f j ≡ false) → ((j : ℕ) → i ≤ j → j < x → g j ≡ false)
    → ((j : ℕ) → x ≤ j → g j ≡ not (f j)) → packed g n i + packed f n i + 1 ≡ 2 ^ (i + n - x)
unfolding packed
packed-flip f g zero i x a b p q r = let e : i + 0 - x ≡ 0 = omega arith in rw e refl
packed-flip f g (suc n) i x a b p q r =
    by (eqb x i) refl (λ h. packed-flip f g n (suc i) x h (omega arith) (λ j k l. p j (omega arith) l) (λ j k l. q j (omega arith) l) r)
  where
    goal : Type 0
    goal = (value_of (g i) * 2 ^ n + packed g n (suc i)) + (value_of (f i) * 2 ^ n + packed f n (suc i)) + 1 ≡ 2 ^ (i + suc n - x)

    both : (b : Bool) → packed g n (suc i) + packed f n (suc i) + 1 ≡ 2 ^ n
        → (value_of (not b) * 2 ^ n + packed g n (suc i)) + (value_of b * 2 ^ n + packed f n (suc i)) + 1 ≡ 2 ^ suc n
    both true h = omega (arith, pow-two n)
    both false h = omega (arith, pow-two n)

    by : (t : Bool) → eqb x i ≡ t → (suc i ≤ x → packed g n (suc i) + packed f n (suc i) + 1 ≡ 2 ^ (suc i + n - x)) → goal
    by true e later =
        let here = eqb-true x i e in
        let s : i + suc n - x ≡ suc n = omega arith in
        let rest : packed g n (suc i) ≡ packed (λ j. not (f j)) n (suc i) = packed-same g (λ j. not (f j)) n (suc i) (λ j k l. r j (omega arith)) in
        rw (s, r i (omega arith)) (both (f i) (rw rest (packed-not f n (suc i))))
    by false e later =
        let apart = eqb-false x i e in
        let s : i + suc n - x ≡ suc i + n - x = omega arith in
        rw (s, p i (omega arith) (omega arith), q i (omega arith) (omega arith)) (omega (arith, later (omega arith)))

-- ---- The changes of a line

module _ (line : Pixels) where
  pub changing-before : (i : ℕ) → changing line i ≡ differ (colour_before line i) (line i)
  unfolding changing colour_before
  changing-before zero = refl
  changing-before (suc i) = refl

  pub turns-add : (m n i : ℕ) → turns_from line (m + n) i ≡ turns_from line m i ++ turns_from line n (i + m)
  unfolding turns_from
  turns-add zero n i = let e : zero + n ≡ n = omega arith in let p : i + 0 ≡ i = omega arith in rw (e, p)
  turns-add (suc m) n i =
      let e : suc m + n ≡ suc (m + n) = omega arith in
      let p : suc i + m ≡ i + suc m = omega arith in
      rw e (by (changing line i) (rw (← p) (turns-add m n (suc i))))
    where
      by : (b : Bool) → turns_from line (m + n) (suc i) ≡ turns_from line m (suc i) ++ turns_from line n (i + suc m)
          → elim b as (λ _. List ℕ) [ true ↦ i ∷ turns_from line (m + n) (suc i) | false ↦ turns_from line (m + n) (suc i) ]
          ≡ elim b as (λ _. List ℕ) [ true ↦ i ∷ turns_from line m (suc i) | false ↦ turns_from line m (suc i) ] ++ turns_from line n (i + suc m)
      by true h = ap (λ (l : List ℕ). i ∷ l) h
      by false h = h

  pub turns-few : (n i : ℕ) → length (turns_from line n i) ≤ n
  unfolding turns_from
  turns-few zero i = omega arith
  turns-few (suc n) i = by (changing line i) (turns-few n (suc i))
    where
      by : (b : Bool) → length (turns_from line n (suc i)) ≤ n
          → length {A = ℕ} (elim b as (λ _. List ℕ) [ true ↦ i ∷ turns_from line n (suc i) | false ↦ turns_from line n (suc i) ]) ≤ suc n
      by true h = omega arith
      by false h = omega arith

  -- the changes up to a position, and those behind it
  pub turns-through : (p q : ℕ) → p ≤ q → turns_from line q 0 ≡ turns_from line p 0 ++ turns_from line (q - p) p
  turns-through p q h =
      let e : p + (q - p) ≡ q = omega arith in
      let z : zero + p ≡ p = omega arith in
      ap (λ (k : ℕ). turns_from line k 0) (sym e) ∙ turns-add p (q - p) 0 ∙ ap (λ (k : ℕ). turns_from line p 0 ++ turns_from line (q - p) k) z

  -- the same from a word's first pixel on
  pub turns-to : (from p q : ℕ) → from ≤ p → p ≤ q → turns_from line (q - from) from ≡ turns_from line (p - from) from ++ turns_from line (q - p) p
  turns-to from p q h k =
      let e : (p - from) + (q - p) ≡ q - from = omega arith in
      let s : from + (p - from) ≡ p = omega arith in
      ap (λ (n : ℕ). turns_from line n from) (sym e) ∙ turns-add (p - from) (q - p) from ∙ ap (λ (n : ℕ). turns_from line (p - from) from ++ turns_from line (q - p) n) s

  -- pixels of one colour, that of the pixel before them
  pub record Still (p n : ℕ) (b : Bool) : Type 0 where
    pub shade : b ≡ is_black (colour_before line (p + n))
    pub none : turns_from line n p ≡ []

  alike : (c d : Colour) → is_black c ≡ is_black d → differ c d ≡ false
  alike white white e = refl
  alike black black e = refl
  alike white black e = absurd (true≢false (sym e))
  alike black white e = absurd (true≢false e)

  unlike : (c d : Colour) → is_black d ≡ not (is_black c) → differ c d ≡ true
  unlike white black e = refl
  unlike black white e = refl
  unlike white white e = absurd (true≢false (sym e))
  unlike black black e = absurd (true≢false e)

  pub before-suc : (x : ℕ) → is_black (colour_before line (suc x)) ≡ is_black (line x)
  unfolding colour_before
  before-suc x = refl

  pub still : (n p : ℕ) (b : Bool) → b ≡ is_black (colour_before line p) → ((j : ℕ) → p ≤ j → j < p + n → is_black (line j) ≡ b) → Still p n b
  unfolding turns_from
  still zero p b e h = record { shade = rw (add-zero p) e; none = refl }
  still (suc n) p b e h =
      let here = h p (omega arith) (omega arith) in
      let same : changing line p ≡ false = changing-before p ∙ alike (colour_before line p) (line p) (sym e ∙ sym here) in
      let next : is_black (colour_before line (suc p)) ≡ is_black (line p) = before-suc p in
      let s = still n (suc p) b (sym here ∙ sym next) (λ j k l. h j (omega arith) (omega arith)) in
      let q : suc p + n ≡ p + suc n = omega arith in
      record { shade = s.shade ∙ ap (λ (k : ℕ). is_black (colour_before line k)) q; none = rw (turns_from, same) s.none }

  -- a pixel of the other colour
  pub turns-one : (x : ℕ) (b : Bool) → b ≡ is_black (colour_before line x) → is_black (line x) ≡ not b → turns_from line 1 x ≡ x ∷ []
  unfolding turns_from
  turns-one x b e h = let t : changing line x ≡ true = changing-before x ∙ unlike (colour_before line x) (line x) (h ∙ ap not e) in rw (turns_from, t) refl

-- ---- Entries

pub laid-laid : (at : ℕ) (xs ys out : List ℕ) → at + length xs + length ys ≤ length out → laid (at + length xs) ys (laid at xs out) ≡ laid at (xs ++ ys) out
unfolding laid
laid-laid at xs ys out h =
    ap (λ (l : List ℕ). l ++ ys ++ drop (at + length xs + length ys) (front ++ rest)) (take_at front rest (at + length xs) long)
    ∙ ap (λ (l : List ℕ). front ++ ys ++ l) back
    ∙ ap (λ (l : List ℕ). l ++ drop (at + length (xs ++ ys)) out) (append_assoc (take at out) xs ys)
  where
    front : List ℕ
    front = take at out ++ xs

    rest : List ℕ
    rest = drop (at + length xs) out

    long : length front ≡ at + length xs
    long = length-append (take at out) xs ∙ ap (λ (n : ℕ). n + length xs) (length-take-le at out (omega arith))

    back : drop (at + length xs + length ys) (front ++ rest) ≡ drop (at + length (xs ++ ys)) out
    back =
        ap (λ (n : ℕ). drop (n + length ys) (front ++ rest)) (sym long)
        ∙ drop-append-add front rest (length ys)
        ∙ drop-drop (length ys) (at + length xs) out
        ∙ ap (λ (n : ℕ). drop n out) (let q : at + length xs + length ys ≡ at + length (xs ++ ys) = omega (arith, length-append xs ys) in q)

pub laid-length : (at : ℕ) (xs out : List ℕ) → at + length xs ≤ length out → length (laid at xs out) ≡ length out
unfolding laid
laid-length at xs out h =
    omega (arith, length-append (take at out ++ xs) (drop (at + length xs) out), length-append (take at out) xs, length-take-le at out (omega arith), length-drop (at + length xs) out)

pub laid_none : (at : ℕ) (out : List ℕ) → out ≡ laid at [] out
unfolding laid
laid_none at out =
    sym (ap (λ (l : List ℕ). l ++ drop (at + 0) out) (append-nil (take at out)) ∙ ap (λ (n : ℕ). take at out ++ drop n out) (add-zero at) ∙ take-append-drop at out)

pub set-laid : (at x : ℕ) (out : List ℕ) → at < length out → set out at x ≡ laid at (x ∷ []) out
unfolding laid
set-laid at x out h =
    let e : suc at ≡ at + 1 = omega arith in
    set_split out at x h ∙ sym (append_snoc (take at out) x (drop (suc at) out)) ∙ ap (λ (n : ℕ). take at out ++ (x ∷ []) ++ drop n out) e

module _ (write : Bool) where
  pub recorded-length : (at : ℕ) (xs out : List ℕ) → (write ≡ true → at + length xs ≤ length out) → length (recorded write at xs out) ≡ length out
  recorded-length at xs out h = by write h
    where
      by : (w : Bool) → (w ≡ true → at + length xs ≤ length out) → length (recorded w at xs out) ≡ length out
      by true h = laid-length at xs out (h refl)
      by false h = refl

  pub recorded-none : (at : ℕ) (out : List ℕ) → out ≡ recorded write at [] out
  recorded-none at out = by write
    where
      by : (w : Bool) → out ≡ recorded w at [] out
      by true = laid_none at out
      by false = refl

  pub recorded_more : (at : ℕ) (xs ys out : List ℕ) → (write ≡ true → at + length xs + length ys ≤ length out)
      → recorded write (at + length xs) ys (recorded write at xs out) ≡ recorded write at (xs ++ ys) out
  recorded_more at xs ys out h = by write h
    where
      by : (w : Bool) → (w ≡ true → at + length xs + length ys ≤ length out) → recorded w (at + length xs) ys (recorded w at xs out) ≡ recorded w at (xs ++ ys) out
      by true h = laid-laid at xs ys out (h refl)
      by false h = refl
