-- Laws of names in the file: byte by byte, how long they can be, and what does not stand in them. Assumes nothing.
use mathlib.Core.Path.{◌≡◌, refl, sym, ap, ◌∙◌, subst}
use mathlib.Core.Bool.{Bool, true, false, not, ◌&&◌, ◌||◌}
use mathlib.Core.List.{List, [], ◌∷◌, ◌++◌}
use Prim.Native.Nat.{ℕ, zero, suc, ◌+◌, ◌*◌, ◌≤◌, ◌<◌}
use native.Mathlib.Omega.{arith}
use lib.Dec.{eqb, ltb}
use lib.ListN.{length, get_or, drop, length-append}
use borrow.Author.Tests.{eqb-true, eqb-false, eq-eqb, ne_eqb}
use Rattle.listing_text.specs.Text.{ascii, digits, decimal}
use Rattle.listing_text.specs.Lines.{pieces, lines_of}
use Rattle.listing_text.proofs.Lengths.{decimal-short}
use Rattle.listing_text.proofs.Spelling.{split}
use Rattle.ledger.specs.Said.{fill, shown_byte}
use Rattle.ledger.proofs.Lacking.{lacks, lacks-append}
use Rattle.look.specs.Escaped.{is_mark, reference, escaped_byte, escaped}

pub escaped-split : (name : List ℕ) (i : ℕ) → i < length name → escaped (drop i name) ≡ escaped_byte (get_or name i 0) ++ escaped (drop (i + 1) name)
unfolding escaped
escaped-split name i h = ap escaped (split name i h)

pub escaped-none : (name : List ℕ) → name ≡ [] → escaped name ≡ []
unfolding escaped
escaped-none name e = rw e

pub byte-mark : (b : ℕ) → is_mark b ≡ true → escaped_byte b ≡ reference b
unfolding escaped_byte
byte-mark b e = rw (escaped_byte, e)

pub byte-plain : (b : ℕ) → is_mark b ≡ false → escaped_byte b ≡ shown_byte b ∷ []
unfolding escaped_byte
byte-plain b e = rw (escaped_byte, e)

pub reference-line : (n : ℕ) → fill (n ∷ []) (get_or (lines_of (38 ∷ 35 ∷ 65 ∷ 59 ∷ [])) 0 []) ≡ reference n
unfolding reference pieces ascii
reference-line n = refl

-- ---- How long

reference-is : (b : ℕ) → reference b ≡ 38 ∷ 35 ∷ (decimal b ++ 59 ∷ [])
unfolding reference fill ascii
reference-is b = refl

reference-short : (b : ℕ) → b < 256 → length (reference b) ≤ 6
reference-short b h = omega (arith, ap length (reference-is b), length-append (decimal b) (59 ∷ []), decimal-short 2 b (omega arith))

byte-short : (b : ℕ) → b < 256 → length (escaped_byte b) ≤ 6
unfolding escaped_byte
byte-short b h = by (is_mark b)
  where
    by : (t : Bool) → length {A = ℕ} (elim t [ true ↦ reference b | false ↦ shown_byte b ∷ [] ]) ≤ 6
    by true = reference-short b h
    by false = omega arith

abbrev pub Bytes : List ℕ → Type 0
Bytes bs = (i : ℕ) → get_or bs i 0 < 256

pub escaped-short : (name : List ℕ) → Bytes name → length (escaped name) ≤ 6 * length name
unfolding escaped
escaped-short [] h = omega arith
escaped-short (b ∷ bs) h = omega (arith, length-append (escaped_byte b) (escaped bs), byte-short b (h 0), escaped-short bs (λ i. h (suc i)))

-- ---- What does not stand in them: a mark of the file but `&`

-- a byte that is a mark, and that stands in none of the five references
pub record Kept (m : ℕ) : Type 0 where
  pub is : is_mark m ≡ true
  pub and : lacks m (reference 38) ≡ true
  pub less : lacks m (reference 60) ≡ true
  pub more : lacks m (reference 62) ≡ true
  pub quote : lacks m (reference 34) ≡ true
  pub tick : lacks m (reference 39) ≡ true
  pub shown : m ≡ 63 → ⊥
  pub positive : m ≡ 0 → ⊥

module _ (m : ℕ) (k : Kept m) where
  reference-lacks : (b : ℕ) → is_mark b ≡ true → lacks m (reference b) ≡ true
  reference-lacks b e = by (eqb b 38) (eqb b 60) (eqb b 62) (eqb b 34) (eqb b 39) refl refl refl refl refl e
    where
      from : (n : ℕ) → eqb b n ≡ true → lacks m (reference n) ≡ true → lacks m (reference b) ≡ true
      from n p h = subst (λ (x : ℕ). lacks m (reference x) ≡ true) (sym (eqb-true b n p)) h

      by : (x y z u w : Bool) → eqb b 38 ≡ x → eqb b 60 ≡ y → eqb b 62 ≡ z → eqb b 34 ≡ u → eqb b 39 ≡ w → (x || (y || (z || (u || w)))) ≡ true → lacks m (reference b) ≡ true
      by true y z u w p q r s t g = from 38 p k.and
      by false true z u w p q r s t g = from 60 q k.less
      by false false true u w p q r s t g = from 62 r k.more
      by false false false true w p q r s t g = from 34 s k.quote
      by false false false false true p q r s t g = from 39 t k.tick
      by false false false false false p q r s t g = absurd (let z : ◌≡◌ {A = ℕ} 0 1 = cc in omega arith)

  shown-not : (b : ℕ) → is_mark b ≡ false → shown_byte b ≡ m → ⊥
  shown-not b e = by (ltb b 32) (eqb b 127)
    where
      same : b ≡ m → ⊥
      same z = absurd (let y : ◌≡◌ {A = ℕ} 0 1 = cc (ap (λ (x : ℕ). is_mark x) z, k.is) in omega arith)

      by : (s t : Bool) → elim (s || t) [ true ↦ 63 | false ↦ b ] ≡ m → ⊥
      by true t z = k.shown (sym z)
      by false true z = k.shown (sym z)
      by false false z = same z

  alone : (x : ℕ) → (x ≡ m → ⊥) → lacks m (x ∷ []) ≡ true
  unfolding lacks
  alone x h = rw (lacks, ne_eqb x m h)

  byte-lacks : (b : ℕ) → lacks m (escaped_byte b) ≡ true
  byte-lacks b = by (is_mark b) refl
    where
      by : (t : Bool) → is_mark b ≡ t → lacks m (escaped_byte b) ≡ true
      by true e = subst (λ (l : List ℕ). lacks m l ≡ true) (sym (byte-mark b e)) (reference-lacks b e)
      by false e = subst (λ (l : List ℕ). lacks m l ≡ true) (sym (byte-plain b e)) (alone (shown_byte b) (shown-not b e))

  pub escaped-lacks : (name : List ℕ) → lacks m (escaped name) ≡ true
  unfolding escaped lacks
  escaped-lacks [] = refl
  escaped-lacks (b ∷ bs) = lacks-append m (escaped_byte b) (escaped bs) (byte-lacks b) (escaped-lacks bs)

-- a byte that a text lacks stands nowhere in it
pub lacks-nowhere : (m : ℕ) → (m ≡ 0 → ⊥) → (xs : List ℕ) → lacks m xs ≡ true → (i : ℕ) → get_or xs i 0 ≡ m → ⊥
unfolding lacks
lacks-nowhere m h [] e i z = h (sym z)
lacks-nowhere m h (x ∷ xs) e i z = by (eqb x m) refl e i z (lacks-nowhere m h xs)
  where
    by : (t : Bool) → eqb x m ≡ t → (not t && lacks m xs) ≡ true → (i : ℕ) → get_or (x ∷ xs) i 0 ≡ m → (lacks m xs ≡ true → (i : ℕ) → get_or xs i 0 ≡ m → ⊥) → ⊥
    by true p g i z r = absurd (let y : ◌≡◌ {A = ℕ} 0 1 = cc in omega arith)
    by false p g zero z r = eqb-false x m p z
    by false p g (suc i) z r = r g i z

kept_less : Kept 60
unfolding lacks reference fill ascii decimal digits
kept_less = record { is = refl; and = refl; less = refl; more = refl; quote = refl; tick = refl; shown = λ z. omega arith; positive = λ z. omega arith }

kept_more : Kept 62
unfolding lacks reference fill ascii decimal digits
kept_more = record { is = refl; and = refl; less = refl; more = refl; quote = refl; tick = refl; shown = λ z. omega arith; positive = λ z. omega arith }

kept-quote : Kept 34
unfolding lacks reference fill ascii decimal digits
kept-quote = record { is = refl; and = refl; less = refl; more = refl; quote = refl; tick = refl; shown = λ z. omega arith; positive = λ z. omega arith }

kept-tick : Kept 39
unfolding lacks reference fill ascii decimal digits
kept-tick = record { is = refl; and = refl; less = refl; more = refl; quote = refl; tick = refl; shown = λ z. omega arith; positive = λ z. omega arith }

pub mark-kept : (m : ℕ) → is_mark m ≡ true → (m ≡ 38 → ⊥) → Kept m
mark-kept m e h = by (eqb m 38) (eqb m 60) (eqb m 62) (eqb m 34) (eqb m 39) refl refl refl refl refl e
  where
    from : (n : ℕ) → eqb m n ≡ true → Kept n → Kept m
    from n p k = subst Kept (sym (eqb-true m n p)) k

    by : (x y z u w : Bool) → eqb m 38 ≡ x → eqb m 60 ≡ y → eqb m 62 ≡ z → eqb m 34 ≡ u → eqb m 39 ≡ w → (x || (y || (z || (u || w)))) ≡ true → Kept m
    by true y z u w p q r s t g = absurd (h (eqb-true m 38 p))
    by false true z u w p q r s t g = from 60 q kept_less
    by false false true u w p q r s t g = from 62 r kept_more
    by false false false true w p q r s t g = from 34 s kept-quote
    by false false false false true p q r s t g = from 39 t kept-tick
    by false false false false false p q r s t g = absurd (let z : ◌≡◌ {A = ℕ} 0 1 = cc in omega arith)
