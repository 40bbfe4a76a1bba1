-- One unit and what closes behind it: what the code asks, and that it comes to what the rules' `unit` does.
use Rattle.std.specs.Prelude.{◌&&◌, List, ℕ, ◌+◌, ◌≤◌, ◌<◌, eqb, length, Ok, Err}
use Rattle.std.proofs.Math.Option.{Option, none, some}
use Rattle.rules.specs.Machine as Rule
use Rattle.rules.specs.Machine.{more}
use Rattle.rules.specs.Bits.{bits_of}
use Rattle.rules.specs.Pages as Page
use Rattle.rules.specs.Pages.{places_in}
use Rattle.rules.specs.Units as Units
use Rattle.rules.specs.Units.{Going}
use Rattle.codes.specs.declared.eol.Eols.{Eols}
use Rattle.context.specs.declared.line.Line.{Line}
use Rattle.context.specs.declared.step.Rules.{Rules}
use Rattle.context.specs.Outcome.{Step}
use Rattle.context.specs.Coding.{unless_idle_for}
use Rattle.swift_units.specs.Counted.{Leads}
use Rattle.settings.specs.declared.DecodeSettings.{DecodeSettings}
use Rattle.settings.specs.Settings.{settings_of}
use Rattle.by_unit.specs.declared.stand.Half.{Half}
use Rattle.by_unit.specs.declared.stand.Half.TheVariants.{First, Second}
use Rattle.by_unit.specs.declared.stand.Stand.{Stand}
use Rattle.by_unit.specs.declared.stand.Stand.TheVariants.{InLine, InRun}
use Rattle.by_unit.specs.declared.stand.Kept.{Kept}
use Rattle.by_unit.specs.declared.stand.Out.{Out}
use Rattle.by_unit.specs.declared.stand.Out.TheVariants.{More}
use Rattle.by_unit.specs.declared.take.TakenUnits.{TakenUnits}
use Rattle.by_unit.specs.Standing.{going_at, KeptIn, StandIn, Settled, Asked, Comes, done_for, between_for, eols_at, Closing, Stays, Settles}

abbrev pub rules_in : DecodeSettings → Rules
rules_in settings = record { strict = settings.strict; exact = settings.exact; plain = settings.plain }

-- ---- An EOL

abbrev pub eol_unit_for : List ℕ → DecodeSettings → Kept → Eols → Option ℕ → Out
eol_unit_for bytes settings k e (some after) = between_for bytes settings k (eols_at (e.count + 1) after)
eol_unit_for bytes settings k e none = between_for bytes settings k e

-- ---- What a code makes of the page

-- a line that goes on may be closed
abbrev pub CodeEnds : List ℕ → Kept → Step → Type 0
CodeEnds bytes k (Ok (l, at)) = Closing bytes k l at
CodeEnds bytes k (Err stop) = Unit {0}

abbrev pub AfterCodes : List ℕ → DecodeSettings → List ℕ → List ℕ → Kept → Step → ℕ → Out → List ℕ → List ℕ → Type 0
AfterCodes bytes settings es ms k (Ok (l, at)) seen r fs ns = Settles bytes settings es ms k (InLine l at) seen r fs ns
AfterCodes bytes settings es ms k (Err stop) seen r fs ns = Stays (done_for stop.number stop.place 0 k stop.line.changes) es ms r fs ns

-- the same of a run, on the line before it: the second run comes behind the first, which may have moved nothing
abbrev pub first_for : Kept → ℕ → Line → Step → ℕ → Out
first_for k mode l (Ok (m, at)) seen = More k (InRun (Second mode (eqb m.position l.position)) m at 0 at) seen
first_for k mode l (Err stop) seen = done_for stop.number stop.place 0 k stop.line.changes

abbrev pub AfterRuns : List ℕ → DecodeSettings → List ℕ → List ℕ → Kept → Half → Line → Step → ℕ → Out → List ℕ → List ℕ → Type 0
AfterRuns bytes settings es ms k (First mode) l step seen r fs ns = Stays (first_for k mode l step seen) es ms r fs ns
AfterRuns bytes settings es ms k (Second mode blank) l step seen r fs ns = AfterCodes bytes settings es ms k (unless_idle_for step l mode (blank && settings.exact)) seen r fs ns

-- ---- A unit

-- what it asks
pub record UnitFrom (bytes : List ℕ) (settings : DecodeSettings) (xs es ms : List ℕ) (k : Kept) (s : Stand) (seen : ℕ) : Type 0 where
  pub asked : Asked bytes settings
  pub kept : KeptIn settings.columns xs es ms k
  pub stand : StandIn bytes settings.columns xs k seen s
  pub settled : Settled s

-- what it comes to
abbrev pub UnitGives : List ℕ → DecodeSettings → List ℕ → List ℕ → List ℕ → Kept → Stand → Out → List ℕ → List ℕ → List ℕ → Type 0
UnitGives bytes settings xs es ms k s r ys fs ns =
    Comes bytes settings.columns k.rows k.base xs es ms (Units.unit (settings_of settings) (bits_of bytes) (length xs) (places_in es ms) (going_at xs k s)) r ys fs ns

-- n units, none of which is taken from an end
pub record UnitsGive (bytes : List ℕ) (settings : DecodeSettings) (xs es ms : List ℕ) (k : Kept) (s : Stand) (n : ℕ) (r : Out) (ys fs ns : List ℕ) : Type 0 where
  pub outcome : Rule.Out Going Page.Answer
  pub leads : Leads (settings_of settings) (bits_of bytes) (length xs) (places_in es ms) (more (going_at xs k s)) n outcome
  pub comes : Comes bytes settings.columns k.rows k.base xs es ms outcome r ys fs ns

-- at least one of those that are left, and no more
pub record SomeGive (bytes : List ℕ) (settings : DecodeSettings) (xs es ms : List ℕ) (k : Kept) (s : Stand) (left : ℕ) (r : TakenUnits) (ys fs ns : List ℕ) : Type 0 where
  pub some : 0 < r.units
  pub few : r.units ≤ left
  pub gives : UnitsGive bytes settings xs es ms k s r.units r.out ys fs ns
