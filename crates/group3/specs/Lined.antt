-- The line of a row: where it begins, and what reading it asks and gives.
use Rattle.std.specs.Prelude.{◌≡◌, Bool, false, ◌&&◌, List, ℕ, ◌-◌, eqb, length, drop, Option, Some, None}
use Rattle.rules.specs.Bits.{bits_of, peek}
use Rattle.rules.specs.Lines.{Rules, new_line, Went, failed, one, two, read_line}
use Rattle.rules.specs.Rows.{Settings, rules_of}
use Rattle.rules.specs.Group3.{Tagging, line3}
use Rattle.bit_reader.specs.Loaded.{Loading}
use Rattle.context.specs.declared.step.Rules as Line
use Rattle.swift_loops.specs.declared.fast_1d.BeforePair.{BeforePair}
use Rattle.swift_loops.specs.Pairs.{Filled}
use Rattle.one_line.specs.White.{under_white}
use Rattle.settings.specs.declared.DecodeSettings.{DecodeSettings}
use Rattle.settings.specs.declared.State.{State}
use Rattle.settings.specs.Settings.{settings_of, tagging_of}
use Rattle.settings.specs.Between.{state_of, RowFrom}
use Rattle.group3.specs.declared.line.LineKind.{LineKind}
use Rattle.group3.specs.declared.line.LineKind.TheVariants.{One, Two, NoTag}
use Rattle.group3.specs.Tags.{is_tagged}

-- how the lines of a page are read
abbrev pub lines_by : DecodeSettings → Line.Rules
lines_by s = record { strict = s.strict; exact = s.exact; plain = s.plain }

-- the line of a kind, of which the tag bit or the first code begins at a bit
abbrev pub kind_line : Rules → List ℕ → List Bool → ℕ → LineKind → Went
kind_line R reference bs at (One start) = read_line R one bs start
kind_line R reference bs at (Two start) = read_line R (two reference) bs start
kind_line R reference bs at NoTag = failed 2 (length bs) (new_line at)

abbrev pub KindStarts : List ℕ → LineKind → Type 0
KindStarts bytes (One start) = Loading bytes start
KindStarts bytes (Two start) = Loading bytes start
KindStarts bytes NoTag = Unit {0}

-- the kind of the line at a bit, whatever its rules and its reference
pub record KindAt (bytes : List ℕ) (t : Tagging) (at : ℕ) (r : LineKind) : Type 0 where
  pub starts : KindStarts bytes r
  pub same : (S : Settings) (R : Rules) (reference : List ℕ) → kind_line R reference (bits_of bytes) at r ≡ line3 S t (bits_of bytes) R reference at t

-- what a line asks: a row that may begin, and a bit inside the data
pub record LineFrom (bytes lent xs : List ℕ) (s : DecodeSettings) (st : State) (at : ℕ) : Type 0 where
  pub row : RowFrom bytes lent xs s st
  pub loading : Loading bytes at

-- the line that begins at a bit, in the room that the store has
abbrev pub line_in : DecodeSettings → List ℕ → List ℕ → List ℕ → State → ℕ → Went
line_in s bytes lent xs st at =
    line3 (settings_of s) (tagging_of s.encoding) (bits_of bytes) (rules_of (settings_of s) (length xs - st.base)) (state_of lent xs st).reference at (tagging_of s.encoding)

-- a line without a tag bit that its first run fills, so that its row is white
abbrev pub WhiteAt : List ℕ → DecodeSettings → ℕ → ℕ → Option BeforePair → Type 0
WhiteAt bytes s room at (Some t) = (is_tagged (tagging_of s.encoding) ≡ false) × Filled bytes room s.columns at (Some t)
WhiteAt bytes s room at None = Unit {0}

-- a 2D line under a white row, whose tag bit a one follows: the code V(0), so that its row is white
abbrev pub white_2d : DecodeSettings → List ℕ → List ℕ → State → ℕ → Bool
white_2d s bytes lent st at =
    is_tagged (tagging_of s.encoding) && (under_white st.reference st.base lent && eqb (peek 2 (drop at (bits_of bytes))) 1)
