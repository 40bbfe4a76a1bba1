-- Pinning the answers down, of what stands around the decoder: the functions for C, the lent line, and the desk's.
use Rattle.std.specs.Prelude.{◌≡◌, Bool, false, List, ℕ}
use Rattle.settings.specs.declared.EncodingMode.{EncodingMode}
use Rattle.settings.specs.declared.EncodingMode.TheVariants.{Group4}
use Rattle.ccitt.specs.Decode.{Decodes}
use Rattle.proper.specs.Checked.{Checks}
use Rattle.context.specs.declared.line.Line.{Line}
use Rattle.exports.specs.Exports.{settings_for}
use Rattle.exports.specs.RowState.{mode_of, ReadsRowForC}
use Rattle.exports.specs.UnitState.{ReadsUnitsForC}
use Rattle.exports.specs.declared.UnitAnswer.{UnitAnswer}
use Rattle.lent.specs.Lent.{Lends}
use Rattle.lent.specs.declared.Pushed.{Pushed}
use Rattle.listing_text.specs.Line.{Says}
use Rattle.listing_text.specs.Listed.{Prints}
use Rattle.promises.specs.OneAnswer.{OneAnswer, OneWith, OneWithThree}

-- ---- exports: the settings are those that a function's parameters stand for. The others have the contracts of read_line and the writers.

-- ccitt_decode_group4
abbrev pub ForCGroup4Pinned : Type 0
ForCGroup4Pinned =
    (src : List ℕ) (columns rows : ℕ) (block aligned strict exact plain : Bool) (changes ends marks : List ℕ)
    → OneWithThree (Decodes src (settings_for columns rows block false aligned Group4 strict exact plain) changes ends marks)

-- ccitt_decode_group3_1d and ccitt_decode_group3_2d
abbrev pub ForCGroup3Pinned : Type 0
ForCGroup3Pinned =
    (encoding : EncodingMode) (src : List ℕ) (columns rows : ℕ) (block line aligned strict exact plain : Bool) (changes ends marks : List ℕ)
    → OneWithThree (Decodes src (settings_for columns rows block line aligned encoding strict exact plain) changes ends marks)

-- ccitt_check_group4, ccitt_check_group3_1d and ccitt_check_group3_2d
abbrev pub ForCCheckPinned : Type 0
ForCCheckPinned =
    (encoding : EncodingMode) (src : List ℕ) (columns rows : ℕ) (block line aligned strict exact plain : Bool) (changes ends marks : List ℕ)
    → OneWithThree (Checks src (settings_for columns rows block line aligned encoding strict exact plain) changes ends marks)

-- ccitt_read_row, whose lent arrays are the state's numbers and the two line arrays
abbrev pub ForCRowPinned : Type 0
ForCRowPinned =
    (src : List ℕ) (columns rows : ℕ) (block line aligned : Bool) (encoding : ℕ) (strict exact plain : Bool) (state first second : List ℕ)
    → OneWithThree (ReadsRowForC src (settings_for columns rows block line aligned (mode_of encoding) strict exact plain) encoding state first second)

-- ccitt_read_units: answer and units, the page's three arrays, and the state's numbers
abbrev pub ForCUnitsPinned : Type 0
ForCUnitsPinned =
    (src : List ℕ) (columns rows : ℕ) (block aligned strict exact plain : Bool) (changes ends marks state : List ℕ) (n : ℕ) (r s : UnitAnswer) (xs ys es fs ms ns ps qs : List ℕ)
    → ReadsUnitsForC src (settings_for columns rows block false aligned Group4 strict exact plain) changes ends marks state n r xs es ms ps
    → ReadsUnitsForC src (settings_for columns rows block false aligned Group4 strict exact plain) changes ends marks state n s ys fs ns qs
    → (r ≡ s) × (xs ≡ ys) × (es ≡ fs) × (ms ≡ ns) × (ps ≡ qs)

-- ---- lent

-- push_line and first_run, whose answer holds the line; push_pixels has its own in Pinned
abbrev pub PushLinePinned : Type 0
PushLinePinned = (xs : List ℕ) (l : Line) (count : ℕ) (strict : Bool) → OneWith (λ (r : Pushed) (ys : List ℕ). Lends xs l count strict r.number r.line ys)

-- ---- desk

-- parse: the settings and where the data begins, or that the bytes begin with no line of settings
abbrev pub ParsePinned : Type 0
ParsePinned = (bytes : List ℕ) → OneAnswer (Says bytes)

-- list and bad_input: the text's length, and every byte of the array, also behind the text
abbrev pub PrintsPinned : Type 0
PrintsPinned = (before text : List ℕ) → OneWith (Prints before text)
