-- What the program prints for its input (01 "Sheets on the wall"; 02, A14).
use Rattle.std.specs.Prelude.{◌≡◌, Bool, List, ℕ, ◌+◌, ◌*◌, ◌≤◌, length, take}
use Rattle.rules.specs.Rows.{Settings}
use Rattle.rules.specs.Pages as Page
use Rattle.rules.specs.Pages.{decode}
use Rattle.listing_text.specs.Line.{Begins}
use Rattle.listing_text.specs.Sheet.{listing_text, bad_input}

-- "then up to 16,384 data bytes; its store has 8,192 changes and 2,048 rows"
abbrev pub most_data : ℕ
most_data = 16384

-- "Longer data" shows by one byte more than the longest line of settings, which has 36, and the data may have: so many bytes of an input decide
abbrev pub most_input : ℕ
most_input = 36 + most_data + 1

abbrev pub listed : Settings → Page.Answer → List ℕ
listed S a = listing_text S.columns a.number a.rows a.marks a.bytes

unfoldable pub page_text : Settings → List ℕ → List ℕ
page_text S src = listed S (decode S src 8192 2048)

-- room for the longest listing of such a store (the crate desk, `Listing`)
abbrev pub room : ℕ
room = 77 + 50 * 2048 + 11 * 8192

-- `&xs[..n]` is in bounds and has n bytes
abbrev pub IsPrefixLen : ℕ → List ℕ → Type 0
IsPrefixLen n xs = (n ≤ length xs) × (n ≡ length (take n xs))

-- an input with a line of settings, and then no more data than that. It may ask for either engine: the answer is the same.
pub record Asks (input : List ℕ) (S : Settings) (src : List ℕ) : Type 0 where
  pub plain : Bool
  pub begins : Begins input S plain src
  pub few : length src ≤ most_data

-- "Longer data or another settings line prints `bad input` alone."
pub record Answers (input text : List ℕ) : Type 0 where
  pub page : (S : Settings) (src : List ℕ) → Asks input S src → text ≡ page_text S src
  pub bad : ((S : Settings) (src : List ℕ) → Asks input S src → ⊥) → text ≡ bad_input

-- the bytes that were read are an input's first, as many as the reader asked for, or all of them
abbrev pub ReadFrom : List ℕ → ℕ → List ℕ → Type 0
ReadFrom input asked got = got ≡ take asked input

-- the text is right for every input of which these bytes were read
abbrev pub AnswersRead : ℕ → List ℕ → List ℕ → Type 0
AnswersRead asked got text = (input : List ℕ) → ReadFrom input asked got → Answers input text
