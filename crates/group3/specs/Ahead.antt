-- What comes before a row of a page, under settings and in bytes, and the answers that stand for it.
use Rattle.std.specs.Prelude.{◌≡◌, Bool, true, not, ◌&&◌, List, [], ℕ, ◌+◌, ◌*◌, ◌≤◌, eqb, length, drop}
use Rattle.std.proofs.Math.Option.{none}
use Rattle.rules.specs.Bits.{bits_of, peek}
use Rattle.rules.specs.Eols.{zero_run, eol_after}
use Rattle.rules.specs.Rows.{Settings, aligned_if}
use Rattle.rules.specs.Group3 as Rule
use Rattle.rules.specs.Group3.{Tagging, at_line, at_end, at_no_eol, judged, missing, lacking, before}
use Rattle.bit_reader.specs.Loaded.{Loading}
use Rattle.codes.specs.declared.eol.Eols.{Eols}
use Rattle.codes.specs.Eols.{eols_of}
use Rattle.settings.specs.declared.DecodeSettings.{DecodeSettings}
use Rattle.settings.specs.declared.State.{State}
use Rattle.settings.specs.Settings.{settings_of, tagging_of}
use Rattle.settings.specs.Between.{state_of}
use Rattle.group3.specs.declared.eob.Before.{Before}
use Rattle.group3.specs.declared.eob.Before.TheVariants.{Line, End, NoEol}

-- "Without EOLs, we need to align first"
abbrev pub aligned_from : DecodeSettings → State → ℕ
aligned_from s st = aligned_if (s.rows_are_byte_aligned && not st.eols) st.at

-- what `next_eol` asks: a bit of the data at which no EOL begins
pub record NoEolAt (bytes : List ℕ) (at : ℕ) : Type 0 where
  pub loading : Loading bytes at
  pub without_eol : eol_after at (zero_run (drop at (bits_of bytes))) ≡ none

-- exactly one EOL begins at a bit, without fill: eleven zeros and a one, and behind the next bit, which may be a tag, a one among ten
abbrev pub single_at : List ℕ → ℕ → Bool
single_at bytes at = eqb (peek 12 (drop at (bits_of bytes))) 1 && not (eqb (peek 10 (drop (at + 13) (bits_of bytes))) 0)

-- a test of it, which may miss it where the data has fewer than 64 bits left
abbrev pub Single : List ℕ → ℕ → Bool → Type 0
Single bytes at r = r ≡ true → (single_at bytes at ≡ true) × (at + 64 ≤ 8 * length bytes)

-- another row, behind an EOL that is expected
abbrev pub usual : DecodeSettings → List ℕ → State → Bool
usual s bytes st =
    not (eqb st.rows 0)
    && (st.eols && (not (eqb st.rows s.rows) && single_at bytes st.at))

-- and a test of that
abbrev pub Usual : DecodeSettings → List ℕ → State → Bool → Type 0
Usual s bytes st r = r ≡ true → (usual s bytes st ≡ true) × (st.at + 64 ≤ 8 * length bytes)

-- an EOL is lacking after the row, whatever the settings
abbrev pub Lacks : List ℕ → Bool → State → Eols → Bool → Type 0
Lacks bytes rows_done st e r = (S : Settings) (t : Tagging) → r ≡ lacking S t (bits_of bytes) rows_done (state_of [] [] st) (eols_of e)

module _ (s : DecodeSettings) (bytes : List ℕ) where
  abbrev pub BeforeIn : Type 0
  BeforeIn = Rule.Before (settings_of s) (tagging_of s.encoding) (bits_of bytes)

  abbrev pub before_of : Before → BeforeIn
  before_of (Line at expected) = at_line at expected
  before_of (End at) = at_end at
  before_of (NoEol at) = at_no_eol at

  abbrev pub judged_in : Bool → Bool → Eols → BeforeIn
  judged_in rows_done expected e = judged (settings_of s) (tagging_of s.encoding) (bits_of bytes) rows_done expected (eols_of e)

  abbrev pub missing_in : ℕ → BeforeIn
  missing_in at = missing (settings_of s) (tagging_of s.encoding) (bits_of bytes) s.strict at

  -- before the first row, or another; the reference has no part in it
  abbrev pub before_in : State → Bool → BeforeIn
  before_in st first = before (settings_of s) (tagging_of s.encoding) (bits_of bytes) (state_of [] [] st) first
