-- A line as fields: each ends with a tab, or with the line.
use Rattle.std.specs.Prelude.{◌≡◌, Bool, true, false, List, [], ◌∷◌, ℕ, ◌+◌, ◌-◌, ◌≤◌, eqb, ltb, length, get_or, take, drop}
use Rattle.listing_text.specs.Text.{tab}
use Rattle.listing_text.specs.Lines.{pieces}
use Rattle.form_file.specs.Words.{none, value_of}

abbrev pub fields_of : List ℕ → List (List ℕ)
fields_of line = pieces (λ b. eqb b tab) line

-- the field of a number, from 0; an empty one where there is none
abbrev pub field : ℕ → List ℕ → List ℕ
field k line = get_or (fields_of line) k []

-- the number that a field says by its digits, of which it has one at least; `none` where it says none that 32 bits hold
abbrev pub number_in : List ℕ → ℕ
number_in [] = none
number_in (b ∷ bs) = value_of (b ∷ bs)

abbrev pub is_number : List ℕ → Bool
is_number word = ltb (number_in word) none

-- ---- Where fields lie in a line

-- the fields behind the one that ends at a place
unfoldable pub fields_behind : List ℕ → ℕ → List (List ℕ)
fields_behind line end = elim (eqb end (length line)) [ true ↦ [] | false ↦ fields_of (drop (end + 1) line) ]

-- the field that begins at a place goes to another
pub record FieldTo (line : List ℕ) (at end : ℕ) : Type 0 where
  pub behind : at ≤ end
  pub inside : end ≤ length line
  pub fields : fields_of (drop at line) ≡ take (end - at) (drop at line) ∷ fields_behind line end

-- the field of a number begins at a place: it is the first from there on
pub record FieldFrom (line : List ℕ) (k at : ℕ) : Type 0 where
  pub inside : at ≤ length line
  pub is : field k line ≡ field 0 (drop at line)
