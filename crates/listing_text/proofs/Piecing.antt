-- Laws of the pieces of a text, and of the places where they lie, whichever byte parts them. Assumes nothing.
use mathlib.Core.Path.{◌≡◌, refl, sym, ap, subst, ◌∙◌}
use mathlib.Core.Bool.{Bool, true, false}
use mathlib.Core.List.{List, [], ◌∷◌}
use Prim.Native.Nat.{ℕ, zero, suc, ◌+◌, ◌-◌, ◌≤◌, ◌<◌}
use native.Mathlib.Omega.{arith}
use lib.Dec.{eqb}
use lib.ListN.{length, get_or, take, drop, length-drop, drop_of_length-le}
use lib.Seq.{get_or-drop, drop-drop, take_all}
use borrow.Author.Count.{below_more}
use borrow.Author.Tests.{eq-eqb, ne_eqb}
use Rattle.listing_text.specs.Lines.{onto, pieces}

-- ---- The first piece of a list

module _ (parts : ℕ → Bool) where
  pieces-parts : (b : ℕ) (bs : List ℕ) → parts b ≡ true → pieces parts (b ∷ bs) ≡ [] ∷ pieces parts bs
  unfolding pieces
  pieces-parts b bs e = rw (pieces, e)

  pieces-onto : (b : ℕ) (bs : List ℕ) → parts b ≡ false → pieces parts (b ∷ bs) ≡ onto b (pieces parts bs)
  unfolding pieces
  pieces-onto b bs e = rw (pieces, e)

  -- all of it, where nothing parts
  pub pieces-all : (xs : List ℕ) → ((k : ℕ) → k < length xs → parts (get_or xs k 0) ≡ false) → pieces parts xs ≡ xs ∷ []
  unfolding pieces
  pieces-all [] h = refl
  pieces-all (b ∷ bs) h = pieces-onto b bs (h 0 (omega arith)) ∙ ap (onto b) (pieces-all bs (λ k l. h (suc k) (omega arith)))

  -- up to the first byte that parts
  pub pieces-first : (xs : List ℕ) (n : ℕ) → n < length xs → ((k : ℕ) → k < n → parts (get_or xs k 0) ≡ false) → parts (get_or xs n 0) ≡ true
      → pieces parts xs ≡ take n xs ∷ pieces parts (drop (suc n) xs)
  pieces-first [] n l h e = absurd (omega arith)
  pieces-first (b ∷ bs) zero l h e = pieces-parts b bs e
  pieces-first (b ∷ bs) (suc n) l h e =
      pieces-onto b bs (h 0 (omega arith)) ∙ ap (onto b) (pieces-first bs n (omega arith) (λ k m. h (suc k) (omega arith)) e)

-- ---- The piece from a place on

-- the pieces that a byte parts
abbrev pub pieces_by : ℕ → List ℕ → List (List ℕ)
pieces_by mark text = pieces (λ b. eqb b mark) text

-- there is one at least
pub pieces-some : (mark : ℕ) (xs : List ℕ) → 0 < length (pieces_by mark xs)
unfolding pieces
pieces-some mark [] = omega arith
pieces-some mark (b ∷ bs) = by (eqb b mark) (pieces_by mark bs)
  where
    by : (t : Bool) (ps : List (List ℕ)) → 0 < length {A = List ℕ} (elim t as (λ (_ : Bool). List (List ℕ)) [ true ↦ [] ∷ ps | false ↦ onto b ps ])
    by true ps = omega arith
    by false [] = omega arith
    by false (p ∷ ps) = omega arith

-- the pieces behind the one that ends at a place
abbrev pub pieces_behind : ℕ → List ℕ → ℕ → List (List ℕ)
pieces_behind mark text end = elim (eqb end (length text)) [ true ↦ [] | false ↦ pieces_by mark (drop (end + 1) text) ]

-- the piece that begins at a place goes to another
pub record PieceTo (mark : ℕ) (text : List ℕ) (at end : ℕ) : Type 0 where
  pub behind : at ≤ end
  pub inside : end ≤ length text
  pub first : pieces_by mark (drop at text) ≡ take (end - at) (drop at text) ∷ pieces_behind mark text end

-- a loop has come from a place to another, and met no byte that parts
pub record Passed (mark : ℕ) (text : List ℕ) (at i : ℕ) : Type 0 where
  pub behind : at ≤ i
  pub inside : i ≤ length text
  pub none : (k : ℕ) → k < i → at ≤ k → get_or text k 0 ≡ mark → ⊥

pub passed_none : (mark : ℕ) (text : List ℕ) (at : ℕ) → at ≤ length text → Passed mark text at at
passed_none mark text at h = record { behind = omega arith; inside = h; none = λ k l m e. omega arith }

module _ {mark : ℕ} {text : List ℕ} {at end : ℕ} (p : Passed mark text at end) where
  pub passed-next : end < length text → (get_or text end 0 ≡ mark → ⊥) → Passed mark text at (end + 1)
  passed-next l n = record { behind = omega (arith, p.behind); inside = omega arith; none = below_more _ _ p.none (λ h. n) }

  quiet : (k : ℕ) → k < end - at → eqb (get_or (drop at text) k 0) mark ≡ false
  quiet k l = rw (get_or-drop at text k 0) (ne_eqb (get_or text (at + k) 0) mark (p.none (at + k) (omega arith) (omega arith)))

  size : length (drop at text) ≡ length text - at
  size = length-drop at text

  -- it is the last
  pub piece-last : length text ≤ end → PieceTo mark text at end
  piece-last l = record {
    behind = p.behind;
    inside = p.inside;
    first =
        rw (pieces_behind, eq-eqb end (length text) (omega (arith, p.inside)))
        (pieces-all (λ b. eqb b mark) (drop at text) (λ k m. quiet k (omega (arith, size)))
        ∙ ap (λ (xs : List ℕ). xs ∷ []) (sym (take_all (end - at) (drop at text) (omega (arith, size)))));
  }

  -- a byte that parts ends it
  pub piece-ends : end < length text → get_or text end 0 ≡ mark → PieceTo mark text at end
  piece-ends l e = record {
    behind = p.behind;
    inside = p.inside;
    first =
        rw (pieces_behind, ne_eqb end (length text) (λ z. omega arith))
        (pieces-first (λ b. eqb b mark) (drop at text) (end - at) (omega (arith, size, p.behind)) quiet
        (rw (get_or-drop at text (end - at) 0) (eq-eqb (get_or text (at + (end - at)) 0) mark (ap (λ (k : ℕ). get_or text k 0) place ∙ e)))
        ∙ ap (λ (xs : List ℕ). take (end - at) (drop at text) ∷ pieces_by mark xs) after);
  }
    where
      place : at + (end - at) ≡ end
      place = omega (arith, p.behind)

      after : drop (suc (end - at)) (drop at text) ≡ drop (end + 1) text
      after = drop-drop (suc (end - at)) at text ∙ (let z : at + suc (end - at) ≡ end + 1 = omega (arith, p.behind) in ap (λ (k : ℕ). drop k text) z)

-- ---- The piece of a number

-- so many pieces are left to pass from a place on: the piece of a number is that of another there
pub record Left (mark : ℕ) (text : List ℕ) (k at left : ℕ) : Type 0 where
  pub inside : at ≤ length text
  pub piece : get_or (pieces_by mark text) k [] ≡ get_or (pieces_by mark (drop at text)) left []

pub left-all : (mark : ℕ) (text : List ℕ) (k : ℕ) → Left mark text k 0 k
left-all mark text k = record { inside = omega arith; piece = refl }

-- as many, counted otherwise
pub left-as : {mark : ℕ} {text : List ℕ} {k at left n : ℕ} → Left mark text k at left → left ≡ n → Left mark text k at n
left-as {mark} {text} {k} {at} l e = subst (λ (m : ℕ). Left mark text k at m) e l

pub left-none : {mark : ℕ} {text : List ℕ} {k at left : ℕ} → Left mark text k at left → left ≤ 0 → Left mark text k at 0
left-none {mark} {text} {k} {at} {left} l h = let z : left ≡ 0 = omega arith in subst (λ (n : ℕ). Left mark text k at n) z l

module _ {mark : ℕ} {text : List ℕ} {k at left end : ℕ} (l : Left mark text k at left) (h : 0 < left) (t : PieceTo mark text at end) where
  one_less : get_or (pieces_by mark (drop at text)) left [] ≡ get_or (pieces_behind mark text end) (left - 1) []
  one_less = by left h
    where
      by : (n : ℕ) → 0 < n → get_or (pieces_by mark (drop at text)) n [] ≡ get_or (pieces_behind mark text end) (n - 1) []
      by zero p = absurd (omega arith)
      by (suc n) p = rw t.first (let z : n ≡ suc n - 1 = omega arith in ap (λ (m : ℕ). get_or (pieces_behind mark text end) m []) z)

  pub left-next : (end ≡ length text → ⊥) → Left mark text k (end + 1) (left - 1)
  left-next ne = record {
    inside = differ end (length text) t.inside ne;
    piece = l.piece ∙ one_less ∙ rw (pieces_behind, ne_eqb end (length text) ne);
  }
    where
      differ : (a b : ℕ) → a ≤ b → (a ≡ b → ⊥) → a + 1 ≤ b
      differ a b p q = omega arith

  -- there is no such piece
  pub left-past : end ≡ length text → Left mark text k end 0
  unfolding pieces
  left-past e = record {
    inside = t.inside;
    piece = l.piece ∙ one_less ∙ rw (pieces_behind, eq-eqb end (length text) e) (sym (ap (λ (xs : List ℕ). get_or (pieces_by mark xs) 0 []) (drop_of_length-le text {i = end} (omega arith))));
  }

-- the text from where a piece begins to where it ends
pub piece_is : {mark : ℕ} {text : List ℕ} {k from end : ℕ} → Left mark text k from 0 → PieceTo mark text from end → get_or (pieces_by mark text) k [] ≡ take (end - from) (drop from text)
piece_is f t = f.piece ∙ ap (λ (ps : List (List ℕ)). get_or ps 0 []) t.first
