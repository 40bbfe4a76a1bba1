-- Pinning the answers down, of the functions that `decode`, `read_line` and the writers are made of, crate by crate. Where a contract leaves a part of its answer open
-- (what a buffer holds far ahead, from where the next search starts), the statement has the rest; docs/PROMISES.md says why. Equations are pinned by EquationsPinned.
use Rattle.std.specs.Prelude.{◌≡◌, Bool, List, ℕ, ◌+◌, drop, Option, Some, None, Result, Ok, Err}
use Rattle.rules.specs.Bits.{bits_of}
use Rattle.rules.specs.Codes as Rule
use Rattle.rules.specs.Codes.{Colour}
use Rattle.rules.specs.Eols.{read_eols, skip_to_eol}
use Rattle.rules.specs.Modes.{read_mode}
use Rattle.rules.specs.Plain.{plain, by_lookup}
use Rattle.rules.specs.Lines as Line
use Rattle.rules.specs.Lines.{Went}
use Rattle.rules.specs.Runs.{sum, run_step}
use Rattle.rules.specs.Rows.{RowOut}
use Rattle.tables.specs.Tables.{SameBits, colour_of}
use Rattle.tables.specs.declared.Code.{Code}
use Rattle.bit_reader.specs.Cursor.{Thirteen}
use Rattle.bit_reader.specs.Loaded.{Ahead, Loaded, LoadedAt, fed_at, Top}
use Rattle.bit_reader.specs.declared.buffer.Buffer.{Buffer}
use Rattle.codes.specs.Eols.{eols_of, skip_of}
use Rattle.codes.specs.Fronts.{Fronted}
use Rattle.codes.specs.Modes.{mode_of}
use Rattle.codes.specs.Plain.{found_of}
use Rattle.codes.specs.Runs.{RunRead, code_of}
use Rattle.codes.specs.declared.eol.Eols.{Eols}
use Rattle.codes.specs.declared.fault.Fault.{Fault}
use Rattle.codes.specs.declared.mode.Mode.{Mode}
use Rattle.codes.specs.declared.plain.Code as Found
use Rattle.codes.specs.declared.plain.LostCode.{LostCode}
use Rattle.codes.specs.declared.run.RunCode.{RunCode}
use Rattle.context.specs.State.{Pushes}
use Rattle.context.specs.Outcome.{Steps}
use Rattle.context.specs.Places.{B1At}
use Rattle.context.specs.Reference.{Finds}
use Rattle.context.specs.Coding.{StepsAt}
use Rattle.one_line.specs.OneCode.{OneCoded}
use Rattle.context.specs.declared.line.Line.{Line}
use Rattle.context.specs.declared.reference.FoundChanges.{FoundChanges}
use Rattle.context.specs.declared.step.Rules.{Rules}
use Rattle.settings.specs.Between.{RowGives}
use Rattle.promises.specs.OneAnswer.{OneAnswer, OneWith}

-- ---- tables

-- terminating and makeup: size and word are the whole of a code of the source
abbrev pub CodePinned : Type 0
CodePinned = (c : Rule.Code) → OneAnswer (λ (r : Code). SameBits r c)

-- ---- bit_reader

abbrev pub Peek13Pinned : Type 0
Peek13Pinned = (bs : List Bool) → OneAnswer (Thirteen bs)

-- ahead: the bits up to the end of a byte, 57 of them at least, above zeros
abbrev pub AheadPinned : Type 0
AheadPinned = (bytes : List ℕ) (at live : ℕ) → OneAnswer (Ahead bytes at live)

-- top13, of a buffer that holds data
abbrev pub Top13Pinned : Type 0
Top13Pinned = (bytes : List ℕ) (b : Buffer) → Loaded bytes b → OneAnswer (Top b)

-- Two buffers at one bit, of which `top13` answers one number. What they hold behind those 13 bits, and how far their limits reach, may differ.
pub record Alike (b c : Buffer) : Type 0 where
  pub place : b.at ≡ c.at
  pub top : (r s : ℕ) → Top b r → Top c s → r ≡ s

abbrev pub LoadPinned : Type 0
LoadPinned = (bytes : List ℕ) (at : ℕ) (b c : Buffer) → LoadedAt bytes at b → LoadedAt bytes at c → Alike b c

-- both go on alike, or both say the end
abbrev pub AlikeFed : Option Buffer → Option Buffer → Type 0
AlikeFed (Some b) (Some c) = Alike b c
AlikeFed (Some b) None = ⊥
AlikeFed None (Some c) = ⊥
AlikeFed None None = Unit {0}

-- feed, from any two buffers at one bit: what differs in alike buffers is never seen
abbrev pub FeedPinned : Type 0
FeedPinned =
    (bytes : List ℕ) (b c : Buffer) (n : ℕ) (r s : Option Buffer) → b.at ≡ c.at
    → fed_at bytes (b.at + n) r
    → fed_at bytes (c.at + n) s
    → AlikeFed r s

-- ---- codes

-- one run, with alike buffers behind it; or one error at one place
abbrev pub AlikeRuns : Result (ℕ × Buffer) Fault → Result (ℕ × Buffer) Fault → Type 0
AlikeRuns (Ok r) (Ok s) = (r.0 ≡ s.0) × Alike r.1 s.1
AlikeRuns (Ok r) (Err f) = ⊥
AlikeRuns (Err e) (Ok s) = ⊥
AlikeRuns (Err e) (Err f) = (e.error ≡ f.error) × (e.at ≡ f.at)

-- read_run, from any two buffers at one bit
abbrev pub ReadRunPinned : Type 0
ReadRunPinned =
    (colour : Colour) (bytes : List ℕ) (b c : Buffer) (r s : Result (ℕ × Buffer) Fault) → b.at ≡ c.at
    → RunRead colour bytes b.at r
    → RunRead colour bytes c.at s
    → AlikeRuns r s

-- front_run: with no pixels and no bits too, where there is no such run
abbrev pub FrontRunPinned : Type 0
FrontRunPinned = (table : List ℕ) (first bits : ℕ) → OneAnswer (Fronted table first bits)

-- plain::read_code: the run, or the error, and how many bits were taken
abbrev pub ReadCodePinned : Type 0
ReadCodePinned = (colour : Colour) (bytes : List ℕ) (at : ℕ) → OneAnswer (λ (r : Result Found.Code LostCode). found_of r ≡ plain colour (drop at (bits_of bytes)))

-- run::look_up: the same
abbrev pub LookUpPinned : Type 0
LookUpPinned = (colour : Colour) (bytes : List ℕ) (at : ℕ) → OneAnswer (λ (r : Result Found.Code LostCode). found_of r ≡ by_lookup colour (drop at (bits_of bytes)))

-- plain::read_run, from a bit
abbrev pub ReadRunPlainPinned : Type 0
ReadRunPlainPinned =
    (colour : Colour) (bytes : List ℕ) (at : ℕ) (r s : Result (ℕ × Buffer) Fault)
    → RunRead colour bytes at r
    → RunRead colour bytes at s
    → AlikeRuns r s

-- run::read_code, plain::next_code and once::run_code: one code of a run, from a bit, with the sum so far
abbrev pub OneRunCodePinned : Type 0
OneRunCodePinned = (colour : Colour) (bytes : List ℕ) (at total : ℕ) → OneAnswer (λ (r : Result RunCode Fault). code_of r ≡ run_step colour (bits_of bytes) (sum at total))

-- read_mode, alone too
abbrev pub ReadModePinned : Type 0
ReadModePinned = (bytes : List ℕ) (at : ℕ) → OneAnswer (λ (r : Result (Mode × ℕ) Fault). mode_of r ≡ read_mode (bits_of bytes) at)

-- read_eols; and read_all_eols, whose most is the count of bits
abbrev pub ReadEolsPinned : Type 0
ReadEolsPinned = (bytes : List ℕ) (from most : ℕ) → OneAnswer (λ (r : Eols). eols_of r ≡ read_eols most (bits_of bytes) from)

abbrev pub SkipToEolPinned : Type 0
SkipToEolPinned = (bytes : List ℕ) (from : ℕ) → OneAnswer (λ (r : Option ℕ). skip_of r ≡ skip_to_eol (bits_of bytes) from)

-- ---- context

abbrev pub PushPixelsPinned : Type 0
PushPixelsPinned = (xs : List ℕ) (l : Line) (count : ℕ) (strict : Bool) → OneWith (Pushes xs l count strict)

-- find: b1 and b2. No search's contract speaks of the place that it was told to start from, so that `seen` changes no later answer.
abbrev pub FindPinned : Type 0
FindPinned =
    (reference : List ℕ) (width position : ℕ) (colour : Colour) (r s : FoundChanges)
    → Finds reference width position colour r
    → Finds reference width position colour s
    → (r.b1 ≡ s.b1) × (r.b2 ≡ s.b2)

-- b1_from: the place of b1
abbrev pub B1FromPinned : Type 0
B1FromPinned = (reference : List ℕ) (position colour : ℕ) → OneAnswer (B1At reference position colour)

-- runs, decode_1d_line and once::end_run, each with its own outcome of the rules
abbrev pub StepsPinned : Type 0
StepsPinned = (width : ℕ) (xs : List ℕ) (w : Went) → OneWith (Steps width xs w)

-- decode_2d_line
abbrev pub LinePinned : Type 0
LinePinned = (base width : ℕ) (xs : List ℕ) (w : Went) → OneWith (StepsAt base width xs w)

-- once::mode_code, where b1 and b2 are those of a reference
abbrev pub ModeCodePinned : Type 0
ModeCodePinned =
    (bytes xs : List ℕ) (l : Line) (at b1 b2 : ℕ) (rules : Rules) (reference : List ℕ)
    → b1 ≡ Line.b1 l.width reference l.position (colour_of l.colour)
    → b2 ≡ Line.b2 l.width reference l.position (colour_of l.colour)
    → OneWith (OneCoded bytes xs l at b1 b2 rules)

-- ---- group4 and group3

-- row of either, each with its own outcome of the rules
abbrev pub RowPinned : Type 0
RowPinned = (base : ℕ) (xs : List ℕ) (w : RowOut) → OneWith (RowGives base xs w)
