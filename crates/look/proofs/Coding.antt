-- Laws of base 64: three bytes at a time, and how long it is. Assumes nothing.
use mathlib.Core.Path.{◌≡◌, refl, sym, ap, ap₂, ◌∙◌}
use mathlib.Core.Bool.{Bool, true, false}
use mathlib.Core.List.{List, [], ◌∷◌, ◌++◌}
use Prim.Native.Nat.{ℕ, suc, ◌+◌, ◌-◌, ◌*◌, ◌/◌, ◌%◌, ◌≤◌, ◌<◌}
use native.Mathlib.Omega.{arith}
use lib.Dec.{eqb, ltb, leb}
use lib.ListN.{length, get_or, drop, drop_of_length-le}
use borrow.Author.Tests.{lt-ltb, le-ltb, lt-leb, le-leb, eq-eqb, ne_eqb}
use Rattle.listing_text.specs.Writing.{Room, Puts}
use Rattle.listing_text.specs.Listed.{Prints}
use Rattle.listing_text.proofs.Written.{Owes, owes-all, owes-some, owes-last}
use Rattle.listing_text.proofs.Spelling.{split}
use Rattle.look.specs.Base64.{letter, pad, base64, Encodes}

-- ---- Letters

pub letter-large : (d : ℕ) → d < 26 → 65 + d ≡ letter d
unfolding letter
letter-large d h = sym (rw (letter, lt-ltb d 26 h))

pub letter-small : (d : ℕ) → 26 ≤ d → d < 52 → 71 + d ≡ letter d
unfolding letter
letter-small d h l = sym (rw (letter, le-ltb d 26 h, lt-ltb d 52 l))

pub letter-digit : (d : ℕ) → 52 ≤ d → d < 62 → d - 4 ≡ letter d
unfolding letter
letter-digit d h l = sym (rw (letter, le-ltb d 26 (omega arith), le-ltb d 52 h, lt-ltb d 62 l))

pub letter-plus : (d : ℕ) → d ≡ 62 → 43 ≡ letter d
unfolding letter
letter-plus d e = sym (ap letter e)

pub letter-stroke : (d : ℕ) → 62 ≤ d → (d ≡ 62 → ⊥) → 47 ≡ letter d
unfolding letter
letter-stroke d h e = sym (rw (letter, le-ltb d 26 (omega arith), le-ltb d 52 (omega arith), le-ltb d 62 h, ne_eqb d 62 e))

-- ---- Three bytes at a time

pub three-first : (a b c : ℕ) (more : List ℕ) → base64 (a ∷ b ∷ c ∷ more) ≡ base64 (a ∷ b ∷ c ∷ []) ++ base64 more
unfolding base64
three-first a b c more = refl

pub three-split : (xs : List ℕ) (i : ℕ) → i + 2 < length xs
    → base64 (drop i xs) ≡ base64 (get_or xs i 0 ∷ get_or xs (i + 1) 0 ∷ get_or xs (i + 2) 0 ∷ []) ++ base64 (drop (i + 3) xs)
three-split xs i h =
    ap base64 (split xs i (omega arith) ∙ ap (λ (l : List ℕ). get_or xs i 0 ∷ l) (split xs (i + 1) (omega arith) ∙ ap (λ (l : List ℕ). get_or xs (i + 1) 0 ∷ l) third))
    ∙ three-first (get_or xs i 0) (get_or xs (i + 1) 0) (get_or xs (i + 2) 0) (drop (i + 3) xs)
  where
    third : drop (i + 1 + 1) xs ≡ get_or xs (i + 2) 0 ∷ drop (i + 3) xs
    third = let e : i + 1 + 1 ≡ i + 2 = omega arith in let f : i + 2 + 1 ≡ i + 3 = omega arith in ap (λ (n : ℕ). drop n xs) e ∙ split xs (i + 2) h ∙ ap (λ (n : ℕ). get_or xs (i + 2) 0 ∷ drop n xs) f

-- ---- How long

pub base64-length : (xs : List ℕ) → length (base64 xs) ≡ (length xs + 2) / 3 * 4
unfolding base64
base64-length [] = refl
base64-length (a ∷ []) = refl
base64-length (a ∷ b ∷ []) = refl
base64-length (a ∷ b ∷ c ∷ more) = omega (arith, base64-length more)

pub coded-room : (bytes out : List ℕ) → (length bytes + 2) / 3 * 4 ≤ length out → Room out 0 (base64 bytes)
coded-room bytes out h = record { fits = omega (arith, base64-length bytes) }

pub encodes-no : (bytes out : List ℕ) → length out < (length bytes + 2) / 3 * 4 → Encodes bytes out 0 out
encodes-no bytes out h = rw (Encodes, lt-leb-no) (refl, refl)
  where
    lt-leb-no : leb ((length bytes + 2) / 3 * 4) (length out) ≡ false
    lt-leb-no = lt-leb ((length bytes + 2) / 3 * 4) (length out) h

pub encodes-yes : (bytes out : List ℕ) {r : ℕ} {after : List ℕ} → (length bytes + 2) / 3 * 4 ≤ length out → Prints out (base64 bytes) r after → Encodes bytes out r after
encodes-yes bytes out h p = rw (Encodes, le-leb ((length bytes + 2) / 3 * 4) (length out) h) p

-- ---- Four bytes put, and those of one, two and three

pub four-end : {at a b c d p q t u : ℕ} {s o₁ o₂ o₃ o₄ : List ℕ} → Room s at (a ∷ b ∷ c ∷ d ∷ []) → Puts s at (a ∷ []) p o₁ → Puts o₁ p (b ∷ []) q o₂ → Puts o₂ q (c ∷ []) t o₃ → Puts o₃ t (d ∷ []) u o₄
    → Puts s at (a ∷ b ∷ c ∷ d ∷ []) u o₄
four-end {a = a} {b = b} {c = c} {d = d} room x y z w =
    owes-last (owes-some (owes-some (owes-some (owes-all room) (a ∷ []) (b ∷ c ∷ d ∷ []) refl x) (b ∷ []) (c ∷ d ∷ []) refl y) (c ∷ []) (d ∷ []) refl z) w

abbrev four : ℕ → ℕ → ℕ → ℕ → List ℕ
four w x y z = w ∷ x ∷ y ∷ z ∷ []

four-as : {w x y z w' x' y' z' : ℕ} → w ≡ w' → x ≡ x' → y ≡ y' → z ≡ z' → four w x y z ≡ four w' x' y' z'
four-as {y = y} {z = z} {w' = w'} {x' = x'} e f g h = ap₂ (λ (m n : ℕ). four m n y z) e f ∙ ap₂ (λ (m n : ℕ). four w' x' m n) g h

pub three-as : (a b c : ℕ) {w x y z : ℕ} → w ≡ letter (a / 4) → x ≡ letter (a % 4 * 16 + b / 16) → y ≡ letter (b % 16 * 4 + c / 64) → z ≡ letter (c % 64)
    → four w x y z ≡ base64 (a ∷ b ∷ c ∷ [])
unfolding base64
three-as a b c e f g h = four-as e f g h

pub two-as : (a b : ℕ) {w x y : ℕ} → w ≡ letter (a / 4) → x ≡ letter (a % 4 * 16 + b / 16) → y ≡ letter (b % 16 * 4) → four w x y pad ≡ base64 (a ∷ b ∷ [])
unfolding base64
two-as a b e f g = let z : b % 16 * 4 ≡ b % 16 * 4 + 0 / 64 = omega arith in four-as e f (g ∙ ap letter z) refl

pub one-as : (a : ℕ) {w x : ℕ} → w ≡ letter (a / 4) → x ≡ letter (a % 4 * 16) → four w x pad pad ≡ base64 (a ∷ [])
unfolding base64
one-as a e f = let z : a % 4 * 16 ≡ a % 4 * 16 + 0 / 16 = omega arith in four-as e (f ∙ ap letter z) refl refl

-- ---- What is left of the bytes

pub none_left : (xs : List ℕ) (i : ℕ) → length xs ≤ i → base64 (drop i xs) ≡ []
unfolding base64
none_left xs i h = rw (drop_of_length-le xs h)

pub one_left : (xs : List ℕ) (i : ℕ) → i + 1 ≡ length xs → base64 (drop i xs) ≡ base64 (get_or xs i 0 ∷ [])
one_left xs i h = ap base64 (split xs i (omega arith) ∙ ap (λ (l : List ℕ). get_or xs i 0 ∷ l) (drop_of_length-le xs {i = i + 1} (omega arith)))

pub two-left : (xs : List ℕ) (i : ℕ) → i + 2 ≡ length xs → base64 (drop i xs) ≡ base64 (get_or xs i 0 ∷ get_or xs (i + 1) 0 ∷ [])
two-left xs i h =
    ap base64 (split xs i (omega arith) ∙ ap (λ (l : List ℕ). get_or xs i 0 ∷ l) (split xs (i + 1) (omega arith) ∙ ap (λ (l : List ℕ). get_or xs (i + 1) 0 ∷ l) (drop_of_length-le xs {i = i + 1 + 1} (omega arith))))
