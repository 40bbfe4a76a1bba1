-- Laws of templates: piece by piece, and how long they can be. Assumes nothing.
use mathlib.Core.Path.{◌≡◌, refl, sym, ap, ◌∙◌}
use mathlib.Core.Bool.{Bool, true, false, ◌&&◌}
use mathlib.Core.List.{List, [], ◌∷◌, ◌++◌, append_assoc, append-nil}
use Prim.Native.Nat.{ℕ, ◌+◌, ◌-◌, ◌≤◌, ◌<◌}
use native.Mathlib.Omega.{arith}
use lib.Dec.{leb}
use lib.ListN.{length, get_or, drop}
use borrow.Author.Tests.{leb-true}
use Rattle.listing_text.specs.Text.{decimal}
use Rattle.listing_text.proofs.Spelling.{split}
use Rattle.ledger.specs.Said.{is_letter, fill, shown, shown_byte}

-- a byte that is a letter
pub letter-low : (b : ℕ) → is_letter b ≡ true → 65 ≤ b
letter-low b e = by (leb 65 b) refl e
  where
    by : (t : Bool) → leb 65 b ≡ t → (t && leb b 90) ≡ true → 65 ≤ b
    by true p q = leb-true 65 b p
    by false p q = absurd (let z : ◌≡◌ {A = ℕ} 0 1 = cc in omega arith)

-- ---- Piece by piece

pub fill-append : (ns xs ys : List ℕ) → fill ns (xs ++ ys) ≡ fill ns xs ++ fill ns ys
unfolding fill
fill-append ns [] ys = refl
fill-append ns (b ∷ xs) ys = by (is_letter b) (fill-append ns xs ys)
  where
    by : (t : Bool) → fill ns (xs ++ ys) ≡ fill ns xs ++ fill ns ys
        → elim t [ true ↦ decimal (get_or ns (b - 65) 0) ++ fill ns (xs ++ ys) | false ↦ b ∷ fill ns (xs ++ ys) ] ≡ elim t [ true ↦ decimal (get_or ns (b - 65) 0) ++ fill ns xs | false ↦ b ∷ fill ns xs ] ++ fill ns ys
    by true e = ap (λ (l : List ℕ). decimal (get_or ns (b - 65) 0) ++ l) e ∙ sym (append_assoc (decimal (get_or ns (b - 65) 0)) (fill ns xs) (fill ns ys))
    by false e = ap (λ (l : List ℕ). b ∷ l) e

pub fill-letter : (ns : List ℕ) (b : ℕ) → is_letter b ≡ true → fill ns (b ∷ []) ≡ decimal (get_or ns (b - 65) 0)
unfolding fill
fill-letter ns b e = rw (fill, e) (append-nil (decimal (get_or ns (b - 65) 0)))

pub fill-plain : (ns : List ℕ) (b : ℕ) → is_letter b ≡ false → fill ns (b ∷ []) ≡ b ∷ []
unfolding fill
fill-plain ns b e = rw (fill, e)

pub fill-split : (ns t : List ℕ) (i : ℕ) → i < length t → fill ns (drop i t) ≡ fill ns (get_or t i 0 ∷ []) ++ fill ns (drop (i + 1) t)
fill-split ns t i h = ap (fill ns) (split t i h) ∙ fill-append ns (get_or t i 0 ∷ []) (drop (i + 1) t)

pub fill_none : (ns t : List ℕ) → t ≡ [] → fill ns t ≡ []
unfolding fill
fill_none ns t e = rw e

-- ---- Names

pub shown-split : (name : List ℕ) (i : ℕ) → i < length name → shown (drop i name) ≡ shown_byte (get_or name i 0) ∷ shown (drop (i + 1) name)
unfolding shown
shown-split name i h = ap shown (split name i h)

pub shown-none : (name : List ℕ) → name ≡ [] → shown name ≡ []
unfolding shown
shown-none name e = rw e
