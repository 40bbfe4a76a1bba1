-- What the functions that read a line find on their way.
use Rattle.std.specs.Prelude.{◌≡◌, Bool, true, false, not, List, [], ◌∷◌, ℕ, suc, ◌<◌, eqb, ltb, length, get_or}
use Rattle.heads.specs.Form.{all}
use Rattle.listing_text.specs.Lines.{pieces}
use Rattle.form_file.specs.Words.{is_blank, filled, none}
use Rattle.form_file.specs.declared.said.Values.{Values}

-- how many bytes pass a test before the first that does not
unfoldable pub ahead : (ℕ → Bool) → List ℕ → ℕ
ahead test [] = 0
ahead test (b ∷ bs) = elim (test b) [ true ↦ suc (ahead test bs) | false ↦ 0 ]

-- a byte that begins no comment; 35 is `#`
abbrev pub is_plain : ℕ → Bool
is_plain b = not (eqb b 35)

-- a byte of a word
abbrev pub is_letter : ℕ → Bool
is_letter b = not (is_blank b)

-- the words of a line that has no comment
abbrev pub words_in : List ℕ → List (List ℕ)
words_in line = filled (pieces is_blank line)

-- ---- Numbers

abbrev pub is_held : ℕ → Bool
is_held n = ltb n none

-- these are the numbers: how many, and the first five
pub record Numbers (v : Values) (ns : List ℕ) : Type 0 where
  pub count : v.count ≡ length ns
  pub first : (k : ℕ) → k < 5 → get_or v.n k 0 ≡ get_or ns k 0

-- whether each number is one that 32 bits hold, and the numbers where it is so
pub record Valued (v : Values) (ns : List ℕ) : Type 0 where
  pub held : v.held ≡ all is_held ns
  pub numbers : all is_held ns ≡ true → Numbers v ns
