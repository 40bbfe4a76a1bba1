-- Laws of the words of a line. Assumes nothing.
use mathlib.Core.Path.{◌≡◌, refl, sym, ap, ap₂, ◌∙◌}
use mathlib.Core.Bool.{Bool, true, false, not, ◌&&◌}
use mathlib.Core.List.{List, [], ◌∷◌}
use Prim.Native.Nat.{ℕ, suc, ◌+◌, ◌*◌, ◌≤◌, ◌<◌}
use native.Mathlib.Omega.{arith}
use native.Mathlib.Numerals.{add-one}
use lib.Dec.{eqb, ltb}
use lib.ListN.{length, get_or, take, drop, length-drop, drop_of_length-le}
use lib.Seq.{drop-cons, drop-drop}
use borrow.Author.Tests.{eqb-true, eq-eqb, ne_eqb, lt-ltb, le-ltb}
use Rattle.listing_text.specs.Lines.{onto, pieces}
use Rattle.listing_text.specs.Reading.{digit_of}
use Rattle.form_file.specs.Words.{is_blank, filled, same, none, value_from, value_of}
use Rattle.form_file.specs.Steps.{ahead, is_letter, words_in}
use Rattle.form_file.proofs.Ahead.{ahead_more}

-- ---- Blanks

-- ---- Words by their places

-- the first piece, and what the others are as words
record First (xs : List ℕ) : Type 0 where
  others : List (List ℕ)
  all : pieces is_blank xs ≡ take (ahead is_letter xs) xs ∷ others
  words : filled others ≡ words_in (drop (ahead is_letter xs) xs)

first : (xs : List ℕ) → First xs
unfolding pieces filled ahead
first [] = record { others = []; all = refl; words = refl }
first (b ∷ bs) = by (is_blank b) refl (first bs)
  where
    by : (t : Bool) → is_blank b ≡ t → First bs → First (b ∷ bs)
    by true e f = record { others = pieces is_blank bs; all = rw (pieces, ahead, e); words = rw (ahead, e, pieces, e) }
    by false e f = record { others = f.others; all = rw (pieces, ahead, e) (ap (onto b) f.all); words = rw (ahead, e) f.words }

-- blanks in front are no words
skipped : (xs : List ℕ) → words_in xs ≡ words_in (drop (ahead is_blank xs) xs)
unfolding pieces filled ahead
skipped [] = refl
skipped (b ∷ bs) = by (is_blank b) refl (skipped bs)
  where
    by : (t : Bool) → is_blank b ≡ t → words_in bs ≡ words_in (drop (ahead is_blank bs) bs) → words_in (b ∷ bs) ≡ words_in (drop (ahead is_blank (b ∷ bs)) (b ∷ bs))
    by true e h = rw (pieces, ahead, e) h
    by false e h = rw (ahead, e)

worded : (xs : List ℕ) → 0 < length xs → is_blank (get_or xs 0 0) ≡ false → words_in xs ≡ take (ahead is_letter xs) xs ∷ words_in (drop (ahead is_letter xs) xs)
unfolding filled
worded [] l e = absurd (omega arith)
worded (b ∷ bs) l e =
    ap filled (first (b ∷ bs)).all
    ∙ rw (ahead_more is_letter b bs (ap not e)) (ap (λ (ws : List (List ℕ)). (b ∷ take (ahead is_letter bs) bs) ∷ ws) (rw (ahead_more is_letter b bs (ap not e)) at (first (b ∷ bs)).words))

module _ (line : List ℕ) (at : ℕ) where
  pub words-skip : words_in (drop at line) ≡ words_in (drop (at + ahead is_blank (drop at line)) line)
  words-skip = skipped (drop at line) ∙ ap words_in (drop-drop (ahead is_blank (drop at line)) at line)

  pub words-done : length line ≤ at → words_in (drop at line) ≡ []
  unfolding pieces filled
  words-done l = ap words_in (drop_of_length-le line l)

  module _ (l : at < length line) (e : is_blank (get_or line at 0) ≡ false) where
    pub words-next : words_in (drop at line) ≡ take (ahead is_letter (drop at line)) (drop at line) ∷ words_in (drop (at + ahead is_letter (drop at line)) line)
    words-next =
        worded (drop at line) (omega (arith, length-drop at line)) (ap (λ (xs : List ℕ). is_blank (get_or xs 0 0)) (drop-cons line at 0 l) ∙ e)
        ∙ ap (λ (xs : List ℕ). take (ahead is_letter (drop at line)) (drop at line) ∷ words_in xs) (drop-drop (ahead is_letter (drop at line)) at line)

    pub word_some : at < at + ahead is_letter (drop at line)
    word_some = omega (arith, ap (ahead is_letter) (drop-cons line at 0 l), ahead_more is_letter (get_or line at 0) (drop (suc at) line) (ap not e))

-- ---- Two words that are the same

pub same_length : (xs ys : List ℕ) → (length xs ≡ length ys → ⊥) → false ≡ same xs ys
unfolding same
same_length [] [] n = absurd (n refl)
same_length [] (y ∷ ys) n = refl
same_length (x ∷ xs) [] n = refl
same_length (x ∷ xs) (y ∷ ys) n = by (eqb x y) (same_length xs ys (λ e. n (ap suc e)))
  where
    by : (t : Bool) → false ≡ same xs ys → false ≡ t && same xs ys
    by true h = h
    by false h = refl

pub same_self : (xs : List ℕ) → same xs xs ≡ true
unfolding same
same_self [] = refl
same_self (x ∷ xs) = rw (eq-eqb x x refl) (same_self xs)

pub same-equal : (xs ys : List ℕ) → same xs ys ≡ true → xs ≡ ys
unfolding same
same-equal [] [] h = refl
same-equal [] (y ∷ ys) h = absurd (let z : ◌≡◌ {A = ℕ} 0 1 = cc in omega arith)
same-equal (x ∷ xs) [] h = absurd (let z : ◌≡◌ {A = ℕ} 0 1 = cc in omega arith)
same-equal (x ∷ xs) (y ∷ ys) h = by (eqb x y) refl h (same-equal xs ys)
  where
    by : (t : Bool) → eqb x y ≡ t → (t && same xs ys) ≡ true → (same xs ys ≡ true → xs ≡ ys) → ◌≡◌ {A = List ℕ} (x ∷ xs) (y ∷ ys)
    by true e g rec = ap₂ (λ (a : ℕ) (zs : List ℕ). a ∷ zs) (eqb-true x y e) (rec g)
    by false e g rec = absurd (let z : ◌≡◌ {A = ℕ} 0 1 = cc in omega arith)

-- two words are the same as far as a place
module _ (xs ys : List ℕ) where
  pub record Alike (i : ℕ) : Type 0 where
    pub inside : i ≤ length xs
    pub long : length xs ≡ length ys
    pub rest : same xs ys ≡ same (drop i xs) (drop i ys)

  pub alike-first : length xs ≡ length ys → Alike 0
  alike-first e = record { inside = omega arith; long = e; rest = refl }

  module _ {i : ℕ} (a : Alike i) where
    one : i < length xs → same xs ys ≡ eqb (get_or xs i 0) (get_or ys i 0) && same (drop (suc i) xs) (drop (suc i) ys)
    unfolding same
    one l = a.rest ∙ ap₂ same (drop-cons xs i 0 l) (drop-cons ys i 0 (omega (arith, a.long)))

    pub alike-differ : i < length xs → (get_or xs i 0 ≡ get_or ys i 0 → ⊥) → false ≡ same xs ys
    alike-differ l n = sym (one l ∙ rw (ne_eqb _ _ n))

    pub alike_next : i < length xs → get_or xs i 0 ≡ get_or ys i 0 → Alike (i + 1)
    alike_next l e = record { inside = omega arith; long = a.long; rest = one l ∙ rw (eq-eqb _ _ e, add-one i) }

    pub alike_end : length xs ≤ i → true ≡ same xs ys
    unfolding same
    alike_end l = sym (a.rest ∙ ap₂ same (drop_of_length-le xs l) (let m : length ys ≤ i = omega (arith, a.long) in drop_of_length-le ys m))

-- ---- The number that a word says

module _ (word : List ℕ) where
  -- the number as far as a place
  pub record Valuing (n i : ℕ) : Type 0 where
    pub small : n < none
    pub rest : value_from 0 word ≡ value_from n (drop i word)

  pub valuing-first : Valuing 0 0
  valuing-first = record { small = omega arith; rest = refl }

  module _ {n i : ℕ} (v : Valuing n i) where
    pub valuing-end : length word ≤ i → n ≡ value_of word
    unfolding value_from
    valuing-end l = sym (v.rest ∙ ap (value_from n) (drop_of_length-le word l))

    module _ (l : i < length word) (d : ℕ) (e : d ≡ digit_of (get_or word i 0)) where
      next : value_from 0 word ≡ value_from n (get_or word i 0 ∷ drop (suc i) word)
      next = v.rest ∙ ap (value_from n) (drop-cons word i 0 l)

      digit : d ≤ 9 → ltb (digit_of (get_or word i 0)) 10 ≡ true
      digit h = ap (λ (k : ℕ). ltb k 10) (sym e) ∙ lt-ltb d 10 (omega arith)

      fits : (t : Bool) → ltb (n * 10 + d) none ≡ t → ltb (n * 10 + digit_of (get_or word i 0)) none ≡ t
      fits t h = ap (λ (k : ℕ). ltb (n * 10 + k) none) (sym e) ∙ h

      pub valuing-other : 9 < d → none ≡ value_of word
      unfolding value_from
      valuing-other h = sym (next ∙ rw (value_from, ← e, le-ltb d 10 h))

      pub valuing-over : d ≤ 9 → none ≤ n * 10 + d → none ≡ value_of word
      unfolding value_from
      valuing-over h o = sym (next ∙ rw (value_from, digit h, fits false (le-ltb (n * 10 + d) none o)))

      pub valuing-next : d ≤ 9 → n * 10 + d < none → Valuing (n * 10 + d) (i + 1)
      unfolding value_from
      valuing-next h o = record {
        small = o;
        rest =
            next
            ∙ rw (value_from, digit h, fits true (lt-ltb (n * 10 + d) none o))
            (ap₂ (λ (m k : ℕ). value_from (n * 10 + m) (drop k word)) (sym e) (sym (add-one i)));
      }
