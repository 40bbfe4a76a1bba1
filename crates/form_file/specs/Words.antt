-- A text file as lines of words: lines end with a line feed, `#` begins a comment, words are parted by blanks, and a word of digits is a number.
use Rattle.std.specs.Prelude.{Bool, true, false, ◌&&◌, ◌||◌, List, [], ◌∷◌, ℕ, ◌+◌, ◌*◌, eqb, leb, ltb}
use Rattle.listing_text.specs.Lines.{pieces}
use Rattle.listing_text.specs.Reading.{digit_of}

-- "a comment goes from # to the line's end"; 35 is `#`
unfoldable pub uncommented : List ℕ → List ℕ
uncommented [] = []
uncommented (b ∷ bs) = elim (eqb b 35) [ true ↦ [] | false ↦ b ∷ uncommented bs ]

-- a space, or a byte from 9 to 13: tabs, and the carriage return of other systems
abbrev pub is_blank : ℕ → Bool
is_blank b = eqb b 32 || (leb 9 b && leb b 13)

unfoldable pub filled : List (List ℕ) → List (List ℕ)
filled [] = []
filled ([] ∷ ps) = filled ps
filled ((b ∷ p) ∷ ps) = (b ∷ p) ∷ filled ps

abbrev pub words_of : List ℕ → List (List ℕ)
words_of line = filled (pieces is_blank (uncommented line))

-- ---- Words

unfoldable pub same : List ℕ → List ℕ → Bool
same [] [] = true
same [] (y ∷ ys) = false
same (x ∷ xs) [] = false
same (x ∷ xs) (y ∷ ys) = eqb x y && same xs ys

-- a number behind its digits so far; a byte that is no digit, and a number that 32 bits do not hold, is `none`: 4,294,967,296
abbrev pub none : ℕ
none = 4294967296

unfoldable pub value_from : ℕ → List ℕ → ℕ
value_from n [] = n
value_from n (b ∷ bs) =
    elim (ltb (digit_of b) 10) [
      | false ↦ none
      | true ↦ elim (ltb (n * 10 + digit_of b) none) [ false ↦ none | true ↦ value_from (n * 10 + digit_of b) bs ]
    ]

abbrev pub value_of : List ℕ → ℕ
value_of word = value_from 0 word

unfoldable pub values_of : List (List ℕ) → List ℕ
values_of [] = []
values_of (w ∷ ws) = value_of w ∷ values_of ws
