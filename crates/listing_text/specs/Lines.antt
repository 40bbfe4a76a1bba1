-- A text as lines: each ends with a line feed, or with the text.
use Rattle.std.specs.Prelude.{◌≡◌, Bool, true, false, List, [], ◌∷◌, ℕ, ◌+◌, ◌-◌, ◌≤◌, eqb, length, get_or, take, drop}
use Rattle.listing_text.specs.Text.{newline}

-- a byte in front of the first piece
abbrev pub onto : ℕ → List (List ℕ) → List (List ℕ)
onto b [] = (b ∷ []) ∷ []
onto b (p ∷ ps) = (b ∷ p) ∷ ps

-- what stands between the bytes that part
unfoldable pub pieces : (ℕ → Bool) → List ℕ → List (List ℕ)
pieces parts [] = [] ∷ []
pieces parts (b ∷ bs) = elim (parts b) [ true ↦ [] ∷ pieces parts bs | false ↦ onto b (pieces parts bs) ]

abbrev pub lines_of : List ℕ → List (List ℕ)
lines_of text = pieces (λ b. eqb b newline) text

-- ---- Where lines lie in a text

-- the lines behind the one that ends at a place
unfoldable pub lines_behind : List ℕ → ℕ → List (List ℕ)
lines_behind text end = elim (eqb end (length text)) [ true ↦ [] | false ↦ lines_of (drop (end + 1) text) ]

-- the line that begins at a place goes to another
pub record LineTo (text : List ℕ) (at end : ℕ) : Type 0 where
  pub behind : at ≤ end
  pub inside : end ≤ length text
  pub lines : lines_of (drop at text) ≡ take (end - at) (drop at text) ∷ lines_behind text end

-- the line of a number begins at a place: it is the first from there on
pub record LineFrom (text : List ℕ) (k at : ℕ) : Type 0 where
  pub inside : at ≤ length text
  pub line : get_or (lines_of text) k [] ≡ get_or (lines_of (drop at text)) 0 []
