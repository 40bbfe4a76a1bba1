-- A name as HTML has it: `&`, `<`, `>` and the two quotes by their numbers, as `&#38;`; a byte that moves a cursor as `?` (ledger: `shown_byte`).
use Rattle.std.specs.Prelude.{Bool, true, false, ◌||◌, List, [], ◌∷◌, ◌++◌, ℕ, eqb}
use Rattle.listing_text.specs.Text.{ascii}
use Rattle.ledger.specs.Said.{fill, shown_byte}

abbrev pub is_mark : ℕ → Bool
is_mark b = eqb b 38 || (eqb b 60 || (eqb b 62 || (eqb b 34 || eqb b 39)))

unfoldable pub reference : ℕ → List ℕ
reference b = fill (b ∷ []) (ascii "&#A;")

unfoldable pub escaped_byte : ℕ → List ℕ
escaped_byte b = elim (is_mark b) [ true ↦ reference b | false ↦ shown_byte b ∷ [] ]

unfoldable pub escaped : List ℕ → List ℕ
escaped [] = []
escaped (b ∷ bs) = escaped_byte b ++ escaped bs
