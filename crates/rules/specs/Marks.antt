-- What a row's mark says (A5): 0 clean, 1 cut to the width, 2 recovered; told by the line from which the row was read, and by what a strict reader makes of it.
use Rattle.std.specs.Prelude.{◌≡◌, Bool, true, false, List, [], ◌∷◌, ◌++◌, ℕ, ◌≤◌, eqb}
use Rattle.rules.specs.Answers.{invalid_code}
use Rattle.rules.specs.Lines.{Line, Went, went, failed, two, read_line}
use Rattle.rules.specs.Rows.{Encoding, group4, group3_1_d, group3_2_d, Settings, State, page_start, row, rules_of}
use Rattle.rules.specs.Group4.{eols_before}
use Rattle.rules.specs.Group3.{untagged, tagged, at_line, before, line3}
use Rattle.rules.specs.Pages.{row_of}

-- as the settings, but strict, and no more than strict
abbrev pub strict_of : Settings → Settings
strict_of S = record {
  columns = S.columns;
  rows = S.rows;
  end_of_block = S.end_of_block;
  end_of_line = S.end_of_line;
  aligned = S.aligned;
  encoding = S.encoding;
  strict = true;
  exact = false;
}

-- the strict answer to too many pixels
pub data Refused : Went → Type 0 where
  refused : {p : ℕ} {s : Line} → Refused (failed invalid_code p s)

-- what is read from the bit where a row's line begins, under a reference
abbrev pub row_line : Encoding → Settings → List Bool → ℕ → List ℕ → ℕ → Went
row_line group4 S bs room reference at = read_line (rules_of S room) (two reference) bs at
row_line group3_1_d S bs room reference at = line3 S untagged bs (rules_of S room) reference at untagged
row_line group3_2_d S bs room reference at = line3 S tagged bs (rules_of S room) reference at tagged

-- and that bit, behind what stands between two rows
abbrev pub Begins : Encoding → Settings → List Bool → State → ℕ → Type 0
Begins group4 S bs st at = (eols_before S bs st).at ≡ at
Begins group3_1_d S bs st at = (expected : Bool) × (before S untagged bs st (eqb st.count 0) ≡ at_line at expected)
Begins group3_2_d S bs st at = (expected : Bool) × (before S tagged bs st (eqb st.count 0) ≡ at_line at expected)

-- no line is read there: the reader stops at a fault, or there is nothing to read
abbrev pub NotRead : Went → Type 0
NotRead w = (l : Line) → w ≡ went l → ⊥

-- A row that was kept, with its mark: where its line began, and what the page's reader and the strict reader make of it from there.
pub record Told (enc : Encoding) (S : Settings) (bs : List Bool) (room : ℕ) (st : State) (r : List ℕ) (mark : ℕ) : Type 0 where
  pub at : ℕ
  pub begins : Begins enc S bs st at
  pub few : mark ≤ 2
  pub when_strict : S.strict ≡ true → mark ≡ 0
  -- clean: both read this row, and take the same bits
  pub clean : mark ≡ 0 → (l : Line) × (row_line enc S bs room st.reference at ≡ went l) × (row_line enc (strict_of S) bs room st.reference at ≡ went l) × (l.changes ≡ r)
  -- cut: the page's reads it, and the strict one answers 1
  pub cut : mark ≡ 1 → (l : Line) × (row_line enc S bs room st.reference at ≡ went l) × (l.changes ≡ r) × Refused (row_line enc (strict_of S) bs room st.reference at)
  -- recovered: neither reads a line
  pub recovered : mark ≡ 2 → NotRead (row_line enc S bs room st.reference at) × NotRead (row_line enc (strict_of S) bs room st.reference at)

-- How the rows of a page came, the last one last: each is what one row does from the state behind the one before, the first from the page's start, and
-- its mark tells how it was read.
pub data Came (S : Settings) (bs : List Bool) : List (List ℕ) → List ℕ → State → Type 0 where
  none_yet : Came S bs [] [] page_start
  and_row : {rows : List (List ℕ)} {marks : List ℕ} {st : State} → Came S bs rows marks st
      → (room : ℕ) (r : List ℕ) (mark : ℕ) (next : State) → row_of S.encoding S bs room st ≡ row r mark next → Told S.encoding S bs room st r mark
      → Came S bs (rows ++ r ∷ []) (marks ++ mark ∷ []) next
