-- Demand 1: any bytes, any settings and any lent arrays get an answer of the list; each refusal is given exactly when 01 says so; the counts are what the store
-- holds; entries behind keep their value; and every row handed over ascends strictly below the width.
-- A statement is about whatever answer and arrays a function's contract permits.
use Rattle.std.specs.Prelude.{◌≡◌, ◌⊎◌, ◌↔◌, true, List, ℕ, ◌+◌, ◌*◌, ◌≤◌, ◌<◌, length, take, drop}
use Rattle.rules.specs.Answers.{complete, overflow, bad_width, too_long, no_fit, too_few_rows, most_pixels}
use Rattle.rules.specs.Pages.{most_bytes, entries}
use Rattle.rules.specs.Write.{rows_in}
use Rattle.rules.specs.Rising.{Rows}
use Rattle.answer.specs.declared.Answer.{Answer}
use Rattle.settings.specs.declared.DecodeSettings.{DecodeSettings}
use Rattle.ccitt.specs.Decode.{Decodes}

-- ---- The page form

-- a call of `decode` on bytes, with settings and three arrays of changes, row ends and marks: its answer, and the arrays after it
module _ (bytes : List ℕ) (settings : DecodeSettings) (changes ends marks : List ℕ) (r : Answer) (changes' ends' marks' : List ℕ) where
  -- 02, A12: exact is set, and the rows are fewer than asked for, which 0 rows never are; "columns 0 still answers 0"
  pub record TooFew : Type 0 where
    pub exact : settings.exact ≡ true
    pub wide : 0 < settings.columns
    pub fewer : r.rows < settings.rows

  -- A number of the list: 0 to 5; a refusal with 6 or 7, each exactly when 01 says so; or 14. A page that ends has 14 exactly where its rows are too few, and else 0. Without columns,
  -- and without a refusal, it is 0.
  pub record Listed : Type 0 where
    pub listed : (r.number ≤ too_long) ⊎ (r.number ≡ too_few_rows)
    pub fourteen : ((r.number ≡ complete) ⊎ (r.number ≡ too_few_rows)) → (r.number ≡ too_few_rows) ↔ TooFew
    pub six : (r.number ≡ bad_width) ↔ (settings.columns ≡ most_pixels)
    pub seven : (r.number ≡ too_long) ↔ ((settings.columns ≡ most_pixels → ⊥) × (most_bytes < length bytes))
    pub without_columns : settings.columns ≡ 0 → length bytes ≤ most_bytes → r.number ≡ complete

  -- a refusal leaves everything as found and gives zero counts
  pub record Refused : Type 0 where
    pub same_changes : changes' ≡ changes
    pub same_ends : ends' ≡ ends
    pub same_marks : marks' ≡ marks
    pub counts : (r.rows ≡ 0) × (r.entries ≡ 0) × (r.loose ≡ 0) × (r.bytes ≡ 0)

  -- The counts fit the arrays; the rows that lie in the store ascend strictly below the width, and their entries are as many as the answer says;
  -- every later entry keeps its value; after 0 there are no loose entries, nor after 14, which has no bytes; without columns there are no rows; and rows never exceed 8 × bytes + 1.
  pub record Stored : Type 0 where
    pub rows_fit : r.rows ≤ length ends
    pub marks_fit : r.rows ≤ length marks
    pub entries_fit : r.entries + r.loose ≤ length changes
    pub counted : entries (rows_in 0 changes' (take r.rows ends')) ≡ r.entries
    pub rising : Rows settings.columns (rows_in 0 changes' (take r.rows ends'))
    pub later_changes : drop (r.entries + r.loose) changes' ≡ drop (r.entries + r.loose) changes
    pub later_ends : drop r.rows ends' ≡ drop r.rows ends
    pub later_marks : drop r.rows marks' ≡ drop r.rows marks
    pub clean : r.number ≡ complete → r.loose ≡ 0
    pub short : r.number ≡ too_few_rows → (r.loose ≡ 0) × (r.bytes ≡ 0)
    pub no_rows : settings.columns ≡ 0 → r.rows ≡ 0
    pub few_rows : r.rows ≤ 8 * length bytes + 1

-- whatever `decode` is called on
abbrev pub DecodeAnswers : Type 0
DecodeAnswers =
    (bytes : List ℕ) (settings : DecodeSettings) (changes ends marks : List ℕ) (r : Answer) (changes' ends' marks' : List ℕ)
    → settings.columns ≤ most_pixels
    → Decodes bytes settings changes ends marks r changes' ends' marks'
    → Listed bytes settings changes ends marks r changes' ends' marks' × (bad_width ≤ r.number → r.number ≤ no_fit → Refused bytes settings changes ends marks r changes' ends' marks') × Stored bytes settings changes ends marks r changes' ends' marks'

-- more room never changes an answer of which something holds: same number, counts, and the same front of the arrays
abbrev pub Stays : (ℕ → Type 0) → Type 0
Stays Settled =
    (bytes : List ℕ) (settings : DecodeSettings) (changes ends marks larger-changes larger-ends larger-marks : List ℕ) (r s : Answer) (changes' ends' marks' larger-changes' larger-ends' larger-marks' : List ℕ)
    → length changes ≤ length larger-changes
    → length ends ≤ length larger-ends
    → length marks ≤ length larger-marks
    → Decodes bytes settings changes ends marks r changes' ends' marks'
    → Decodes bytes settings larger-changes larger-ends larger-marks s larger-changes' larger-ends' larger-marks'
    → Settled r.number
    → (s ≡ r) × (take (r.entries + r.loose) larger-changes' ≡ take (r.entries + r.loose) changes') × (take r.rows larger-ends' ≡ take r.rows ends')
    × (take r.rows larger-marks' ≡ take r.rows marks')

-- more room never changes an answer from 0 to 3
abbrev pub MoreRoom : Type 0
MoreRoom = Stays (λ n. n ≤ overflow)
