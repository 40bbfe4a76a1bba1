-- A total's line: `total`, the pages to be looked at, the heads, the quota left and words, parted by tabs.
use Rattle.std.specs.Prelude.{Bool, ◌&&◌, List, ℕ, eqb, ltb, length, take, drop}
use Rattle.listing_text.specs.Text.{ascii}
use Rattle.listing_text.specs.Reading.{digit_of}
use Rattle.form_file.specs.Steps.{ahead}
use Rattle.form_file.specs.Words.{same}
use Rattle.ledger_file.specs.Fields.{fields_of, field, number_in}

abbrev pub is_a_digit : ℕ → Bool
is_a_digit b = ltb (digit_of b) 10

-- digits, and then ` page`
unfoldable pub is_total_words : List ℕ → Bool
is_total_words words = ltb 0 (ahead is_a_digit words) && same (take 5 (drop (ahead is_a_digit words) words)) (ascii " page")

-- by its first field and its words, so that a page named total is still a page
unfoldable pub is_total : List ℕ → Bool
is_total line = eqb (length (fields_of line)) 5 && (same (field 0 line) (ascii "total") && is_total_words (field 4 line))

-- the number with which words begin
abbrev pub number_ahead : List ℕ → ℕ
number_ahead words = number_in (take (ahead is_a_digit words) words)

-- how many pages a total is of, as its words say
abbrev pub total_pages : List ℕ → ℕ
total_pages line = number_ahead (field 4 line)
