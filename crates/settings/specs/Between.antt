-- The state between two rows and the answer of one row, and those of the rules that they stand for.
use Rattle.std.specs.Prelude.{◌≡◌, Bool, List, ◌++◌, ℕ, ◌-◌, ◌≤◌, ◌<◌, length, take, drop, Result, Ok, Err}
use Rattle.rules.specs.Rows as Rule
use Rattle.rules.specs.Rows.{RowOut, row, stop}
use Rattle.rules.specs.Bits.{bits_of}
use Rattle.rules.specs.Pages.{overlaid, row_of}
use Rattle.rules.specs.Rising.{Rising}
use Rattle.bit_reader.specs.Loaded.{Loading}
use Rattle.context.specs.Coding.{reference_in, Placed}
use Rattle.settings.specs.declared.DecodeSettings.{DecodeSettings}
use Rattle.settings.specs.declared.State.{State}
use Rattle.settings.specs.declared.KeptRow.{KeptRow}
use Rattle.settings.specs.declared.PageStop.{PageStop}
use Rattle.settings.specs.Settings.{encoding_of, settings_of}

-- the state whose reference is lent, or lies in a store of changes
abbrev pub state_of : List ℕ → List ℕ → State → Rule.State
state_of lent xs st = record { at = st.at; reference = reference_in st.reference st.base lent xs; count = st.rows; eols = st.eols }

-- what one row answers
abbrev pub Row : Type 0
Row = Result KeptRow PageStop

abbrev pub page_stop : ℕ → ℕ → ℕ → ℕ → PageStop
page_stop n place bytes loose = record { number = n; place = place; bytes = bytes; loose = loose }

abbrev pub kept_row : ℕ → ℕ → ℕ → Bool → KeptRow
kept_row changes mark at eols = record { changes = changes; mark = mark; at = at; eols = eols }

abbrev pub row_for : RowOut → Row
row_for (row changes mark st) = Ok (kept_row (length changes) mark st.at st.eols)
row_for (stop n place bytes loose) = Err (page_stop n place bytes (length loose))

-- the changes that a row leaves in the store: its own, or the loose ones
abbrev pub changes_in : RowOut → List ℕ
changes_in (row changes mark st) = changes
changes_in (stop n place bytes loose) = loose

-- what a row asks: a bit inside the data, a width, and a reference that rises below it
pub record RowFrom (bytes lent xs : List ℕ) (settings : DecodeSettings) (st : State) : Type 0 where
  pub loading : Loading bytes st.at
  pub wide : 0 < settings.columns
  pub narrow : settings.columns < 4294967295
  pub placed : Placed st.reference st.base xs
  pub held : st.base ≤ length xs
  pub rising : Rising settings.columns 0 (state_of lent xs st).reference

-- an answer and the store after it are those of an outcome for the row from `base` on
pub record RowGives (base : ℕ) (xs : List ℕ) (w : RowOut) (r : Row) (ys : List ℕ) : Type 0 where
  pub answer : r ≡ row_for w
  pub store : ys ≡ take base xs ++ overlaid (changes_in w) (drop base xs)

-- one row of the encoding's
abbrev pub Rowed : List ℕ → List ℕ → List ℕ → DecodeSettings → State → Row → List ℕ → Type 0
Rowed bytes lent xs settings st r ys =
    RowGives st.base xs (row_of (encoding_of settings.encoding) (settings_of settings) (bits_of bytes) (length xs - st.base) (state_of lent xs st)) r ys
