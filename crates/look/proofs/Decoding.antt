-- Base 64 in parts, and read back. Assumes nothing.
use mathlib.Core.Path.{◌≡◌, refl, sym, ap, ap₂, ◌∙◌}
use mathlib.Core.Bool.{Bool, true, false, not, ◌&&◌}
use mathlib.Core.List.{List, [], ◌∷◌, ◌++◌}
use Prim.Native.Nat.{ℕ, zero, suc, ◌+◌, ◌-◌, ◌*◌, ◌/◌, ◌%◌, ◌≤◌, ◌<◌}
use native.Mathlib.Omega.{arith}
use lib.Dec.{eqb, ltb, leb}
use lib.ListN.{length, get_or}
use borrow.Author.Tests.{eqb-true, eqb-false, ltb-true, ltb-false}
use Rattle.look.specs.Base64.{letter, pad, digit1, digit2, digit3, digit4, base64, value_of, byte1, byte2, byte3, bytes_of}

-- parts of whole groups of three, one behind the other, are the code of the whole
pub parts_whole : (xs ys : List ℕ) → length xs % 3 ≡ 0 → base64 (xs ++ ys) ≡ base64 xs ++ base64 ys
unfolding base64
parts_whole [] ys h = refl
parts_whole (a ∷ []) ys h = absurd (omega arith)
parts_whole (a ∷ b ∷ []) ys h = absurd (omega arith)
parts_whole (a ∷ b ∷ c ∷ xs) ys h = ap (λ (l : List ℕ). letter (digit1 a) ∷ letter (digit2 a b) ∷ letter (digit3 b c) ∷ letter (digit4 c) ∷ l) (parts_whole xs ys (omega arith))

-- ---- A letter is the letter of one digit, and is not `=`

unfoldable goes_back : ℕ → Bool
goes_back d = eqb (value_of (letter d)) d && not (eqb (letter d) pad)

unfoldable all-below : ℕ → Bool
all-below zero = true
all-below (suc n) = goes_back n && all-below n

all-go-back : all-below 64 ≡ true
unfolding all-below goes_back value_of letter
all-go-back = refl

lt-or : (d n : ℕ) → d < suc n → (d ≡ n → ⊥) → d < n
lt-or d n h z = by (ltb d n) refl
  where
    by : (t : Bool) → ltb d n ≡ t → d < n
    by true e = ltb-true d n e
    by false e = absurd (z (omega (arith, ltb-false d n e)))

below_at : (n : ℕ) → all-below n ≡ true → (d : ℕ) → d < n → goes_back d ≡ true
unfolding all-below
below_at zero e d h = absurd (omega arith)
below_at (suc n) e d h = by (goes_back n) (eqb d n) refl refl e (below_at n)
  where
    by : (t s : Bool) → goes_back n ≡ t → eqb d n ≡ s → (t && all-below n) ≡ true → (all-below n ≡ true → (d : ℕ) → d < n → goes_back d ≡ true) → goes_back d ≡ true
    by true true p q g r = ap goes_back (eqb-true d n q) ∙ p
    by true false p q g r = r g d (lt-or d n h (eqb-false d n q))
    by false s p q g r = absurd (let z : ◌≡◌ {A = ℕ} 0 1 = cc in omega arith)

pub record Letter (d : ℕ) : Type 0 where
  pub value : value_of (letter d) ≡ d
  pub no-pad : eqb (letter d) pad ≡ false

open_at : (d : ℕ) → goes_back d ≡ true → (eqb (value_of (letter d)) d && not (eqb (letter d) pad)) ≡ true
unfolding goes_back
open_at d e = e

letter-back : (d : ℕ) → d < 64 → Letter d
letter-back d h = by (eqb (value_of (letter d)) d) (eqb (letter d) pad) refl refl (open_at d (below_at 64 all-go-back d h))
  where
    by : (s t : Bool) → eqb (value_of (letter d)) d ≡ s → eqb (letter d) pad ≡ t → (s && not t) ≡ true → Letter d
    by true false p q g = record { value = eqb-true (value_of (letter d)) d p; no-pad = q }
    by true true p q g = absurd (let z : ◌≡◌ {A = ℕ} 0 1 = cc in omega arith)
    by false t p q g = absurd (let z : ◌≡◌ {A = ℕ} 0 1 = cc in omega arith)

-- ---- Bytes

abbrev pub Bytes : List ℕ → Type 0
Bytes bs = (i : ℕ) → get_or bs i 0 < 256

first_back : (a b : ℕ) → a < 256 → b < 256 → byte1 (value_of (letter (digit1 a))) (value_of (letter (digit2 a b))) ≡ a
first_back a b h l =
    ap₂ byte1 (letter-back (digit1 a) (omega arith)).value (letter-back (digit2 a b) (omega arith)).value ∙ (omega arith)

second_back : (a b c : ℕ) → a < 256 → b < 256 → c < 256 → byte2 (value_of (letter (digit2 a b))) (value_of (letter (digit3 b c))) ≡ b
second_back a b c h l m =
    ap₂ byte2 (letter-back (digit2 a b) (omega arith)).value (letter-back (digit3 b c) (omega arith)).value ∙ (omega arith)

third_back : (b c : ℕ) → b < 256 → c < 256 → byte3 (value_of (letter (digit3 b c))) (value_of (letter (digit4 c))) ≡ c
third_back b c l m =
    ap₂ byte3 (letter-back (digit3 b c) (omega arith)).value (letter-back (digit4 c) (omega arith)).value ∙ (omega arith)

-- four letters, of which none or the last is `=`
abbrev by-pads : ℕ → ℕ → ℕ → List ℕ → Bool → Bool → List ℕ
by-pads x y z more s t = elim s [ true ↦ x ∷ [] | false ↦ elim t [ true ↦ x ∷ y ∷ [] | false ↦ x ∷ y ∷ z ∷ more ] ]

four-read : (w x y z : ℕ) (more : List ℕ)
    → bytes_of (w ∷ x ∷ y ∷ z ∷ more) ≡ by-pads (byte1 (value_of w) (value_of x)) (byte2 (value_of x) (value_of y)) (byte3 (value_of y) (value_of z)) (bytes_of more) (eqb y pad) (eqb z pad)
unfolding bytes_of
four-read w x y z more = refl

none_read : bytes_of [] ≡ []
unfolding bytes_of
none_read = refl

pub read_back : (xs : List ℕ) → Bytes xs → bytes_of (base64 xs) ≡ xs
unfolding base64
read_back [] h = none_read
read_back (a ∷ []) h =
    four-read (letter (digit1 a)) (letter (digit2 a 0)) pad pad [] ∙ ap (λ (x : ℕ). x ∷ []) (first_back a 0 (h 0) (omega arith))
read_back (a ∷ b ∷ []) h =
    let l = h 1 in
    let three = letter (digit3 b 0) in
    four-read (letter (digit1 a)) (letter (digit2 a b)) three pad []
    ∙ ap (λ (s : Bool). by-pads (byte1 (value_of (letter (digit1 a))) (value_of (letter (digit2 a b)))) (byte2 (value_of (letter (digit2 a b))) (value_of three)) (byte3 (value_of three) (value_of pad)) (bytes_of []) s true) (letter-back (digit3 b 0) (omega arith)).no-pad
    ∙ ap₂ (λ (x y : ℕ). x ∷ y ∷ []) (first_back a b (h 0) l) (second_back a b 0 (h 0) l (omega arith))
read_back (a ∷ b ∷ c ∷ more) h =
    let l = h 1 in
    let m = h 2 in
    let three = letter (digit3 b c) in
    let last = letter (digit4 c) in
    four-read (letter (digit1 a)) (letter (digit2 a b)) three last (base64 more)
    ∙ ap₂ (λ (s t : Bool). by-pads (byte1 (value_of (letter (digit1 a))) (value_of (letter (digit2 a b)))) (byte2 (value_of (letter (digit2 a b))) (value_of three)) (byte3 (value_of three) (value_of last)) (bytes_of (base64 more)) s t) (letter-back (digit3 b c) (omega arith)).no-pad (letter-back (digit4 c) (omega arith)).no-pad
    ∙ ap₂ (λ (x y : ℕ). x ∷ y ∷ byte3 (value_of three) (value_of last) ∷ bytes_of (base64 more)) (first_back a b (h 0) l) (second_back a b c (h 0) l m)
    ∙ ap₂ (λ (z : ℕ) (r : List ℕ). a ∷ b ∷ z ∷ r) (third_back b c l m) (read_back more (λ i. h (suc (suc (suc i)))))
