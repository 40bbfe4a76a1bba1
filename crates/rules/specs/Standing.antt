-- Rows that stand whatever becomes of the data behind them: what two data share, and which rows hang on the bits before the reader's alone.
-- That they do is proved (proofs/Standing.antt, StandingCalls.antt), and why no more rows do (proofs/StandingSheets.antt).
use Rattle.std.specs.Prelude.{◌≡◌, Bool, true, false, not, ◌&&◌, ◌||◌, ◌⊎◌, List, [], ◌∷◌, ℕ, zero, suc, ◌+◌, ◌-◌, ◌*◌, ◌≤◌, length, take}
use Rattle.std.proofs.Math.Option.{some}
use Rattle.rules.specs.Bits.{bits_of}
use Rattle.rules.specs.Eols.{all_eols, skip_to_eol}
use Rattle.rules.specs.Rows.{Encoding, group4, Settings, State, page_start, recovered_mark, RowOut, row, stop}
use Rattle.rules.specs.Pages.{row_of, strict_if_exact, decode}

-- two data agree in their first p bits, which both have; behind them they may differ, in their length too
pub record AgreeTo (p : ℕ) (bytes bytes' : List ℕ) : Type 0 where
  pub long : p ≤ 8 * length bytes
  pub long' : p ≤ 8 * length bytes'
  pub same : take p (bits_of bytes) ≡ take p (bits_of bytes')

-- A row with this mark was read. A recovered one was not: its line was read up to where it failed, and "the reader returns to the line's start", before bits that it has seen.
abbrev pub WasRead : ℕ → Type 0
WasRead mark = mark ≡ recovered_mark → ⊥

-- A row with this mark, behind which the reader stands at a bit, hangs on the first p bits alone: it was read, and ends by then; or, read or recovered, the eleven zeros of the next EOL do.
abbrev pub SettledBy : ℕ → List Bool → ℕ → ℕ → Type 0
SettledBy p bits mark at = (WasRead mark × (at ≤ p)) ⊎ ((eol : ℕ) × (skip_to_eol bits at ≡ some eol) × (eol + 11 ≤ p))

-- EOLs that were expected before a row are expected behind it. A lenient reader gives them up where none is left, and that is told by all of the data.
abbrev pub KeepsEols : Bool → Bool → Type 0
KeepsEols before behind = before ≡ true → behind ≡ true

-- Whether EOLs are given up in one of n rows from a state on: they are expected before it, and are not behind it. `row_at` is what one row
-- does, given the room for it.
unfoldable pub gives_up : (ℕ → State → RowOut) → ℕ → ℕ → State → Bool
gives_up row_at zero room st = false
gives_up row_at (suc n) room st =
    elim (row_at room st) [
      | row r mark next ↦ (st.eols && not next.eols) || gives_up row_at n (room - length r) next
      | stop number place bytes loose ↦ false
    ]

-- in one of the rows that a page keeps
unfoldable pub has_given_up : Settings → List ℕ → ℕ → ℕ → Bool
has_given_up S bytes store places =
    gives_up (row_of S.encoding (strict_if_exact S) (bits_of bytes)) (length (decode S bytes store places).rows) store page_start

-- Group 4, and what is read strictly: no row is recovered there, and EOLs are not given up.
abbrev pub Sure : Encoding → Settings → Type 0
Sure enc S = (enc ≡ group4) ⊎ (S.strict ≡ true)

-- No EOLs are expected: "leading EOLs are read; finding any, or end_of_line, means EOLs are expected"
pub record NoEols (S : Settings) (bits : List Bool) : Type 0 where
  pub none_leads : (all_eols bits 0).count ≡ 0
  pub never_asked : S.end_of_line ≡ false

-- the last of these numbers, or m where there is none
unfoldable pub last_or : ℕ → List ℕ → ℕ
last_or m [] = m
last_or m (x ∷ xs) = last_or x xs
