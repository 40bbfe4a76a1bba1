-- The row whose line begins at a bit, and the tests that see it at once.
use Rattle.std.specs.Prelude.{◌≡◌, Bool, true, not, ◌&&◌, List, ℕ, ◌+◌, ◌-◌, ◌*◌, ◌≤◌, eqb, length, drop}
use Rattle.rules.specs.Bits.{bits_of, peek}
use Rattle.rules.specs.Lines.{two, read_line}
use Rattle.rules.specs.Rows.{RowOut, rules_of}
use Rattle.rules.specs.Group4.{after_line4}
use Rattle.bit_reader.specs.Loaded.{Loading}
use Rattle.one_line.specs.White.{under_white}
use Rattle.settings.specs.declared.DecodeSettings.{DecodeSettings}
use Rattle.settings.specs.declared.State.{State}
use Rattle.settings.specs.Settings.{settings_of}
use Rattle.settings.specs.Between.{state_of, RowFrom}

-- what a line asks: a row that may begin, and a bit inside the data
pub record LineFrom (bytes lent xs : List ℕ) (s : DecodeSettings) (st : State) (at : ℕ) : Type 0 where
  pub row : RowFrom bytes lent xs s st
  pub loading : Loading bytes at

-- the row of the line that begins at a bit, in the room that the store has
abbrev pub row_at : DecodeSettings → List ℕ → List ℕ → List ℕ → State → ℕ → RowOut
row_at s bytes lent xs st at =
    after_line4 (settings_of s) (bits_of bytes) (state_of lent xs st)
    (read_line (rules_of (settings_of s) (length xs - st.base)) (two (state_of lent xs st).reference) (bits_of bytes) at)

-- so many rows fill the page; 0 in the settings stands for any number
abbrev pub full_at : DecodeSettings → ℕ → Bool
full_at s rows = not (eqb s.rows 0) && eqb rows s.rows

-- the page is not full, and no EOL begins at the next bit: one of eleven is a one
abbrev pub begun : DecodeSettings → List ℕ → State → Bool
begun s bytes st = not (full_at s st.rows) && not (eqb (peek 11 (drop st.at (bits_of bytes))) 0)

-- a test of it, which may miss it where the data has fewer than 64 bits left
abbrev pub Begun : DecodeSettings → List ℕ → State → Bool → Type 0
Begun s bytes st r = r ≡ true → (begun s bytes st ≡ true) × (st.at + 64 ≤ 8 * length bytes)

-- the reference has no changes, and the next bit is a one, which is the code V(0)
abbrev pub white_at : List ℕ → List ℕ → State → Bool
white_at bytes lent st = under_white st.reference st.base lent && eqb (peek 1 (drop st.at (bits_of bytes))) 1
