-- Texts in which a byte does not stand, and which so are whole pieces of a text that it parts. Assumes nothing.
use mathlib.Core.Path.{◌≡◌, refl, ap}
use mathlib.Core.Bool.{Bool, true, false, not, ◌&&◌, ◌||◌}
use mathlib.Core.List.{List, [], ◌∷◌, ◌++◌}
use Prim.Native.Nat.{ℕ, zero, suc, ◌-◌, ◌%◌, ◌<◌}
use native.Mathlib.Omega.{arith}
use lib.Dec.{eqb, ltb}
use lib.ListN.{get_or}
use borrow.Author.Tests.{eqb-false, eq-eqb, ne_eqb, ltb-false}
use Rattle.listing_text.specs.Text.{digit, decimal}
use Rattle.listing_text.specs.Lines.{onto, pieces}
use Rattle.listing_text.proofs.Digits.{decimal-ind}
use Rattle.listing_text.proofs.Piecing.{pieces_by}
use Rattle.ledger.specs.Said.{is_letter, fill, shown_byte, shown}

unfoldable pub lacks : ℕ → List ℕ → Bool
lacks mark [] = true
lacks mark (x ∷ xs) = not (eqb x mark) && lacks mark xs

-- each of several texts does
unfoldable pub all-lack : ℕ → List (List ℕ) → Bool
all-lack mark [] = true
all-lack mark (l ∷ ls) = lacks mark l && all-lack mark ls

module _ (mark : ℕ) where
  lacks-onto : (x : ℕ) (xs : List ℕ) → (x ≡ mark → ⊥) → lacks mark xs ≡ true → lacks mark (x ∷ xs) ≡ true
  unfolding lacks
  lacks-onto x xs h e = rw (ne_eqb x mark h) e

  pub lacks-append : (xs ys : List ℕ) → lacks mark xs ≡ true → lacks mark ys ≡ true → lacks mark (xs ++ ys) ≡ true
  unfolding lacks
  lacks-append [] ys e f = f
  lacks-append (x ∷ xs) ys e f = by (eqb x mark) (lacks-append xs ys) e
    where
      by : (t : Bool) → (lacks mark xs ≡ true → lacks mark ys ≡ true → lacks mark (xs ++ ys) ≡ true) → (not t && lacks mark xs) ≡ true → (not t && lacks mark (xs ++ ys)) ≡ true
      by false r g = r g f
      by true r g = absurd (let z : ◌≡◌ {A = ℕ} 0 1 = cc in omega arith)

  -- a text that such a byte follows is a piece, and so is the last
  piece-onto : (x : ℕ) (xs zs : List ℕ) (ps : List (List ℕ)) → (lacks mark xs ≡ true → pieces_by mark zs ≡ xs ∷ ps) → lacks mark (x ∷ xs) ≡ true → pieces_by mark (x ∷ zs) ≡ (x ∷ xs) ∷ ps
  unfolding lacks pieces
  piece-onto x xs zs ps r e = by (eqb x mark) e
    where
      by : (t : Bool) → (not t && lacks mark xs) ≡ true → elim t as (λ (_ : Bool). List (List ℕ)) [ true ↦ [] ∷ pieces_by mark zs | false ↦ onto x (pieces_by mark zs) ] ≡ (x ∷ xs) ∷ ps
      by false g = ap (onto x) (r g)
      by true g = absurd (let z : ◌≡◌ {A = ℕ} 0 1 = cc in omega arith)

  pub piece_then : (xs ys : List ℕ) → lacks mark xs ≡ true → pieces_by mark (xs ++ mark ∷ ys) ≡ xs ∷ pieces_by mark ys
  unfolding pieces
  piece_then [] ys e = rw (pieces, eq-eqb mark mark refl)
  piece_then (x ∷ xs) ys e = piece-onto x xs (xs ++ mark ∷ ys) (pieces_by mark ys) (piece_then xs ys) e

  pub piece-alone : (xs : List ℕ) → lacks mark xs ≡ true → pieces_by mark xs ≡ xs ∷ []
  unfolding pieces
  piece-alone [] e = refl
  piece-alone (x ∷ xs) e = piece-onto x xs xs [] (piece-alone xs) e

  pub lacks-at : (ls : List (List ℕ)) → all-lack mark ls ≡ true → (k : ℕ) → lacks mark (get_or ls k []) ≡ true
  unfolding all-lack lacks
  lacks-at [] e k = refl
  lacks-at (l ∷ ls) e k = by (lacks mark l) refl e (lacks-at ls) k
    where
      by : (t : Bool) → lacks mark l ≡ t → (t && all-lack mark ls) ≡ true → (all-lack mark ls ≡ true → (k : ℕ) → lacks mark (get_or ls k []) ≡ true) → (k : ℕ) → lacks mark (get_or (l ∷ ls) k []) ≡ true
      by true p q r zero = p
      by true p q r (suc k) = r q k
      by false p q r k = absurd (let z : ◌≡◌ {A = ℕ} 0 1 = cc in omega arith)

-- ---- Numbers, names and phrases: no byte below a blank stands in them but the phrase's own

module _ (mark : ℕ) (low : mark < 32) where
  pub decimal-lacks : (n : ℕ) → lacks mark (decimal n) ≡ true
  unfolding lacks
  decimal-lacks n =
      decimal-ind (λ (m : ℕ) (ds : List ℕ). lacks mark ds ≡ true)
      (λ m h. lacks-onto mark (digit m) [] (λ z. omega arith) refl)
      (λ m ds h e. lacks-append mark ds (digit (m % 10) ∷ []) e (lacks-onto mark (digit (m % 10)) [] (λ z. omega arith) refl))
      n

  pub shown-lacks : (name : List ℕ) → lacks mark (shown name) ≡ true
  unfolding lacks shown
  shown-lacks [] = refl
  shown-lacks (b ∷ bs) = lacks-onto mark (shown_byte b) (shown bs) (no-mark (ltb b 32) (eqb b 127) refl) (shown-lacks bs)
    where
      no-mark : (s t : Bool) → ltb b 32 ≡ s → elim (s || t) [ true ↦ 63 | false ↦ b ] ≡ mark → ⊥
      no-mark true t e z = omega arith
      no-mark false true e z = omega arith
      no-mark false false e z = omega (arith, ltb-false b 32 e)

  pub fill-lacks : (ns t : List ℕ) → lacks mark t ≡ true → lacks mark (fill ns t) ≡ true
  unfolding lacks fill
  fill-lacks ns [] e = refl
  fill-lacks ns (b ∷ bs) e = by (is_letter b) (eqb b mark) refl (fill-lacks ns bs) e
    where
      by : (l t : Bool) → eqb b mark ≡ t → (lacks mark bs ≡ true → lacks mark (fill ns bs) ≡ true) → (not t && lacks mark bs) ≡ true
          → lacks mark (elim l [ true ↦ decimal (get_or ns (b - 65) 0) ++ fill ns bs | false ↦ b ∷ fill ns bs ]) ≡ true
      by true false q r g = lacks-append mark (decimal (get_or ns (b - 65) 0)) (fill ns bs) (decimal-lacks (get_or ns (b - 65) 0)) (r g)
      by false false q r g = lacks-onto mark b (fill ns bs) (eqb-false b mark q) (r g)
      by l true q r g = absurd (let z : ◌≡◌ {A = ℕ} 0 1 = cc in omega arith)
