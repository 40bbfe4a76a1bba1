-- Laws of the fields of a line by their places: those of pieces (Piecing of listing_text) that a tab parts. Assumes nothing.
use mathlib.Core.Path.{◌≡◌, refl, ap}
use mathlib.Core.List.{List, [], ◌∷◌}
use Prim.Native.Nat.{ℕ, suc, ◌+◌, ◌-◌, ◌≤◌, ◌<◌}
use native.Mathlib.Numerals.{add-one}
use native.Mathlib.Omega.{arith}
use lib.ListN.{length, get_or, take, drop, drop_of_length-le}
use lib.Seq.{drop-cons}
use borrow.Author.Tests.{eq-eqb, ne_eqb}
use Rattle.listing_text.specs.Text.{tab}
use Rattle.listing_text.specs.Lines.{onto, pieces}
use Rattle.listing_text.proofs.Piecing.{pieces-some, PieceTo, Left, piece_is}
use Rattle.form_file.specs.Words.{none, value_of}
use Rattle.ledger_file.specs.Fields.{fields_of, field, number_in, fields_behind, FieldTo, FieldFrom}

pub field-to : {line : List ℕ} {at end : ℕ} → PieceTo tab line at end → FieldTo line at end
unfolding fields_behind
field-to t = record { behind = t.behind; inside = t.inside; fields = t.first }

pub to-field : {line : List ℕ} {at end : ℕ} → FieldTo line at end → PieceTo tab line at end
unfolding fields_behind
to-field t = record { behind = t.behind; inside = t.inside; first = t.fields }

pub field-from : {line : List ℕ} {k at : ℕ} → Left tab line k at 0 → FieldFrom line k at
field-from l = record { inside = l.inside; is = l.piece }

pub from_field : {line : List ℕ} {k at : ℕ} → FieldFrom line k at → Left tab line k at 0
from_field l = record { inside = l.inside; piece = l.is }

-- the bytes of a field, by its places
pub field_is : {line : List ℕ} {k from end : ℕ} → FieldFrom line k from → FieldTo line from end → field k line ≡ take (end - from) (drop from line)
field_is f t = piece_is (from_field f) (to-field t)

-- ---- How many fields

more-tab : (b : ℕ) (bs : List ℕ) → b ≡ 9 → length (fields_of (b ∷ bs)) ≡ suc (length (fields_of bs))
unfolding pieces
more-tab b bs e = rw (pieces, eq-eqb b 9 e)

more-other : (b : ℕ) (bs : List ℕ) → (b ≡ 9 → ⊥) → length (fields_of (b ∷ bs)) ≡ length (fields_of bs)
unfolding pieces
more-other b bs n = rw (pieces, ne_eqb b 9 n) (by (fields_of bs) (pieces-some tab bs))
  where
    by : (ps : List (List ℕ)) → 0 < length ps → length (onto b ps) ≡ length ps
    by [] l = absurd (omega arith)
    by (p ∷ ps) l = refl

-- so many are counted as far as a place
pub record Counting (line : List ℕ) (n i : ℕ) : Type 0 where
  pub inside : i ≤ length line
  pub few : n ≤ i + 1
  pub all : n + length (fields_of (drop i line)) ≡ 1 + length (fields_of line)

pub counting-first : (line : List ℕ) → Counting line 1 0
counting-first line = record { inside = omega arith; few = omega arith; all = refl }

module _ {line : List ℕ} {n i : ℕ} (c : Counting line n i) where
  pub counting-tab : i < length line → get_or line i 0 ≡ 9 → Counting line (n + 1) (i + 1)
  counting-tab l e = record {
    inside = omega arith;
    few = omega (arith, c.few);
    all =
        omega (arith, c.all, ap (λ (xs : List ℕ). length (fields_of xs)) (drop-cons line i 0 l), more-tab (get_or line i 0) (drop (suc i) line) e, ap (λ (k : ℕ). length (fields_of (drop k line))) (add-one i));
  }

  pub counting-other : i < length line → (get_or line i 0 ≡ 9 → ⊥) → Counting line n (i + 1)
  counting-other l e = record {
    inside = omega arith;
    few = omega (arith, c.few);
    all =
        omega (arith, c.all, ap (λ (xs : List ℕ). length (fields_of xs)) (drop-cons line i 0 l), more-other (get_or line i 0) (drop (suc i) line) e, ap (λ (k : ℕ). length (fields_of (drop k line))) (add-one i));
  }

  pub counting-end : length line ≤ i → n ≡ length (fields_of line)
  unfolding pieces
  counting-end l = omega (arith, c.all, ap (λ (xs : List ℕ). length (fields_of xs)) (drop_of_length-le line l))

-- ---- A number

pub number-none : (word : List ℕ) → length word ≡ 0 → none ≡ number_in word
number-none [] e = refl
number-none (b ∷ bs) e = absurd (omega arith)

pub number-some : (word : List ℕ) → (length word ≡ 0 → ⊥) → value_of word ≡ number_in word
number-some [] e = absurd (e refl)
number-some (b ∷ bs) e = refl
