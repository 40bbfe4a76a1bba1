-- What numbers of the source stand for (a colour, a row of a code table, a code), and what the tables that a reader is lent must be.
use Rattle.std.specs.Prelude.{◌≡◌, List, [], ◌∷◌, map, ℕ, zero, suc, get_or}
use Rattle.rules.specs.Codes as Rule
use Rattle.rules.specs.Codes.{Colour, white, black, white_terminating, white_makeup, black_terminating, black_makeup, common_makeup}
use Rattle.rules.specs.Lookup.{lookup_table}
use Rattle.tables.specs.declared.Code.{Code}

-- a colour of the source: 0 is white, any other number black
abbrev pub colour_of : ℕ → Colour
colour_of zero = white
colour_of (suc n) = black

-- a code as a table of the source has it: run, size, word
abbrev pub row : Rule.Code → List ℕ
row c = c.run ∷ c.size ∷ c.word ∷ []

abbrev pub rows : List Rule.Code → List (List ℕ)
rows codes = map row codes

-- the code that a row stands for
abbrev pub code_of : List ℕ → Rule.Code
code_of xs = record { run = get_or xs 0 0; size = get_or xs 1 0; word = get_or xs 2 0 }

-- a code of the source, which leaves the run out, has the bits of the rule's code
pub record SameBits (r : Code) (c : Rule.Code) : Type 0 where
  pub same_size : r.size ≡ c.size
  pub same_word : r.word ≡ c.word

-- the lookup tables, the terminating tables and the make-up tables, as a reader is lent them
pub record Lookups (w b : List ℕ) : Type 0 where
  pub of_white : w ≡ lookup_table white
  pub of_black : b ≡ lookup_table black

pub record Terminating (w b : List (List ℕ)) : Type 0 where
  pub of_white : w ≡ rows white_terminating
  pub of_black : b ≡ rows black_terminating

pub record Makeup (w b common : List (List ℕ)) : Type 0 where
  pub of_white : w ≡ rows white_makeup
  pub of_black : b ≡ rows black_makeup
  pub of_both : common ≡ rows common_makeup
