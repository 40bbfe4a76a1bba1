-- Demand 1 for the reading of one line: the answers and refusals of `read_line`, and what it leaves in the lent array.
use Rattle.std.specs.Prelude.{◌≡◌, ◌⊎◌, ◌↔◌, Bool, false, List, ℕ, ◌+◌, ◌*◌, ◌≤◌, ◌<◌, length, take, drop}
use Rattle.rules.specs.Answers.{complete, no_entry, bad_width, too_long, bad_rows, most_pixels}
use Rattle.rules.specs.Pages.{most_bytes, ascends}
use Rattle.rules.specs.Rising.{Rising}
use Rattle.answer.specs.declared.Answer.{Answer}
use Rattle.one_line.specs.OneLine.{ReadOne}

-- a call of `read_line` on bytes, from a bit, with a reference and an array of changes: its answer, and the array after it
module _ (bytes : List ℕ) (at columns : ℕ) (reference changes : List ℕ) (r : Answer) (changes' : List ℕ) where
  abbrev NoLine : Type 0
  NoLine = (columns ≡ 0) ⊎ (columns ≡ most_pixels)

  abbrev TooLong : Type 0
  TooLong = most_bytes < length bytes

  -- 0 to 4, or a refusal with 6, 7 or 8, each exactly when 01 says so, in this order
  pub record LineListed : Type 0 where
    pub listed : (r.number ≤ no_entry) ⊎ ((bad_width ≤ r.number) × (r.number ≤ bad_rows))
    pub six : (r.number ≡ bad_width) ↔ NoLine
    pub seven : (r.number ≡ too_long) ↔ ((NoLine → ⊥) × TooLong)
    pub eight : (r.number ≡ bad_rows) ↔ ((NoLine → ⊥) × (TooLong → ⊥) × (ascends columns reference ≡ false))

  -- a refusal leaves everything as found and gives zero counts
  pub record LineRefused : Type 0 where
    pub same : changes' ≡ changes
    pub counts : (r.rows ≡ 0) × (r.entries ≡ 0) × (r.loose ≡ 0) × (r.bytes ≡ 0)

  -- A line read whole is one row, which ascends strictly below the width, and has no loose entries; every later entry keeps its value.
  pub record LineStored : Type 0 where
    pub entries_fit : r.entries + r.loose ≤ length changes
    pub whole : r.number ≡ complete → (r.rows ≡ 1) × (r.loose ≡ 0) × Rising columns 0 (take r.entries changes') × (at < r.bytes) × (r.bytes ≤ 8 * length bytes)
    pub later : drop (r.entries + r.loose) changes' ≡ drop (r.entries + r.loose) changes

abbrev pub ReadLineAnswers : Type 0
ReadLineAnswers =
    (bytes : List ℕ) (at columns : ℕ) (strict : Bool) (reference changes : List ℕ) (r : Answer) (changes' : List ℕ)
    → columns ≤ most_pixels
    → ReadOne bytes at columns strict reference changes r changes'
    → LineListed bytes at columns reference changes r changes'
    × (bad_width ≤ r.number → LineRefused bytes at columns reference changes r changes')
    × LineStored bytes at columns reference changes r changes'
