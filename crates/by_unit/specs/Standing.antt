-- Where a reading stands inside a call, the reading of the rules that it stands for in the lent arrays, and what closing a row or the page makes of it.
use Rattle.std.specs.Prelude.{◌≡◌, Bool, true, false, cond, List, [], ◌++◌, ℕ, ◌+◌, ◌*◌, ◌≤◌, ◌<◌, eqb, ltb, length, take, drop, set}
use Rattle.std.specs.Prelude as Code
use Rattle.std.proofs.Math.Option.{Option, none, some}
use Rattle.rules.specs.Machine as Rule
use Rattle.rules.specs.Machine.{more, done}
use Rattle.rules.specs.Bits.{bits_of}
use Rattle.rules.specs.Runs.{sum}
use Rattle.rules.specs.Lines.{right_of_a0}
use Rattle.rules.specs.Rows.{bytes_to, aligned_if}
use Rattle.rules.specs.Group4.{over}
use Rattle.rules.specs.Pages as Page
use Rattle.rules.specs.Pages.{entries, joined, ends_from, places_in, most_bytes}
use Rattle.rules.specs.InSteps.{Said, says}
use Rattle.rules.specs.Units as Units
use Rattle.rules.specs.Units.{first, second, between, in_line, in_run, Keeping, Going, going, so_far, next_eol, anew}
use Rattle.rules.specs.ByUnit.{part, said_behind, overlaid_from}
use Rattle.rules.specs.Rising.{Rising}
use Rattle.answer.specs.declared.Answer.{Answer}
use Rattle.codes.specs.declared.eol.Eols.{Eols}
use Rattle.codes.specs.Eols.{eols_of}
use Rattle.context.specs.declared.line.Line.{Line}
use Rattle.context.specs.State.{line_at, new_for, Holds}
use Rattle.context.specs.Reference.{Passed}
use Rattle.settings.specs.declared.DecodeSettings.{DecodeSettings}
use Rattle.settings.specs.Settings.{settings_of}
use Rattle.settings.specs.Ends.{Allowed}
use Rattle.by_unit.specs.declared.stand.Half.{Half}
use Rattle.by_unit.specs.declared.stand.Half.TheVariants.{First, Second}
use Rattle.by_unit.specs.declared.stand.Stand.{Stand}
use Rattle.by_unit.specs.declared.stand.Stand.TheVariants.{Between, InLine, InRun}
use Rattle.by_unit.specs.declared.stand.Kept.{Kept}
use Rattle.by_unit.specs.declared.stand.Out.{Out}
use Rattle.by_unit.specs.declared.stand.Out.TheVariants.{More, Done}

-- ---- The reading that code and arrays stand for

abbrev pub half_of : Half → Units.Half
half_of (First mode) = first mode
half_of (Second mode blank) = second mode blank

-- the unfinished row lies in front of a slice
abbrev pub stand_of : List ℕ → Stand → Units.Stand
stand_of row (Between e) = between (eols_of e)
stand_of row (InLine l at) = in_line (line_at at row l)
stand_of row (InRun h l from total at) = in_run (half_of h) (line_at from row l) (sum at total)

-- with no rows of its own yet
abbrev pub keeping_of : List ℕ → Kept → Keeping
keeping_of xs k = record { count = k.rows; base = k.base; reference = part k.start k.base xs; rows = []; marks = [] }

abbrev pub going_at : List ℕ → Kept → Stand → Going
going_at xs k s = going (keeping_of xs k) (stand_of (drop k.base xs) s)

-- ---- What holds of it, also where its state was forged and passed the tests

pub record KeptIn (width : ℕ) (xs es ms : List ℕ) (k : Kept) : Type 0 where
  pub ordered : k.start ≤ k.base
  pub held : k.base ≤ length xs
  pub placed : k.rows ≤ places_in es ms
  pub rising : Rising width 0 (part k.start k.base xs)

-- a line whose next code begins at a bit, and whose searches have passed so many changes of the reference
pub record LineIn (bytes : List ℕ) (width : ℕ) (xs : List ℕ) (k : Kept) (l : Line) (at seen : ℕ) : Type 0 where
  pub inside : at ≤ 8 * length bytes
  pub width_is : l.width ≡ width
  pub holds : Holds (drop k.base xs) l
  pub rising : Rising l.position 0 (take l.changes (drop k.base xs))
  pub passed : Passed (right_of_a0 l.position) seen (part k.start k.base xs)

abbrev pub StandIn : List ℕ → ℕ → List ℕ → Kept → ℕ → Stand → Type 0
StandIn bytes width xs k seen (Between e) = e.at ≤ 8 * length bytes
StandIn bytes width xs k seen (InLine l at) = LineIn bytes width xs k l at seen
StandIn bytes width xs k seen (InRun h l from total at) = LineIn bytes width xs k l at seen

-- a line that is complete has been closed
abbrev pub Settled : Stand → Type 0
Settled (Between e) = Unit {0}
Settled (InLine l at) = l.position < l.width
Settled (InRun h l from total at) = Unit {0}

-- once 6 and 7 are passed, and there are columns
pub record Asked (bytes : List ℕ) (settings : DecodeSettings) : Type 0 where
  pub size : length bytes ≤ most_bytes
  pub wide : 0 < settings.columns
  pub narrow : settings.columns < 4294967295

-- ---- What an outcome of the rules leaves, behind so many rows and entries

abbrev pub answer_of : Said → Answer
answer_of s = record { number = s.number; mark = s.mark; rows = s.rows; entries = s.entries; loose = s.loose; bytes = s.bytes; place = s.place }

-- the lent arrays: new rows and the loose entries lie behind the old ones, and no array becomes longer
pub record Leaves (rows base : ℕ) (xs es ms : List ℕ) (o : Rule.Out Going Page.Answer) (ys fs ns : List ℕ) : Type 0 where
  pub changes : ys ≡ overlaid_from base (joined (so_far o).rows ++ (so_far o).loose) xs
  pub ends : fs ≡ overlaid_from rows (ends_from base (so_far o).rows) es
  pub marks : ns ≡ overlaid_from rows (so_far o).marks ms
  pub changes_long : length ys ≡ length xs
  pub ends_long : length fs ≡ length es
  pub marks_long : length ns ≡ length ms

-- a page that goes on
pub record Stands (bytes : List ℕ) (width rows base : ℕ) (xs es ms : List ℕ) (g : Going) (k : Kept) (s : Stand) (seen : ℕ) : Type 0 where
  pub is : going_at xs k s ≡ anew g
  pub rows_are : k.rows ≡ rows + length g.keeping.rows
  pub entries_are : k.base ≡ base + entries g.keeping.rows
  pub kept : KeptIn width xs es ms k
  pub stand : StandIn bytes width xs k seen s
  pub settled : Settled s

-- a page that has ended: 0 to 5, with what 01 allows
pub record EndsSo (rows base : ℕ) (a : Page.Answer) (r : Answer) : Type 0 where
  pub answer : r ≡ answer_of (said_behind rows base a)
  pub listed : a.number ≤ 5
  pub allowed : Allowed a.number a.place a.bytes (length a.loose)

abbrev pub Told : List ℕ → ℕ → ℕ → ℕ → List ℕ → List ℕ → List ℕ → Rule.Out Going Page.Answer → Out → Type 0
Told bytes width rows base xs es ms (more g) (More k s seen) = Stands bytes width rows base xs es ms g k s seen
Told bytes width rows base xs es ms (done a) (Done r) = EndsSo rows base a r
Told bytes width rows base xs es ms (more g) (Done r) = ⊥
Told bytes width rows base xs es ms (done a) (More k s seen) = ⊥

pub record Comes (bytes : List ℕ) (width rows base : ℕ) (xs es ms : List ℕ) (o : Rule.Out Going Page.Answer) (r : Out) (ys fs ns : List ℕ) : Type 0 where
  pub told : Told bytes width rows base ys fs ns o r
  pub leaves : Leaves rows base xs es ms o ys fs ns

-- ---- The next EOL

abbrev pub most_eols : ℕ → DecodeSettings → ℕ
most_eols size settings = cond settings.end_of_block 2 (8 * size)

abbrev pub eol_of : Code.Option ℕ → Option ℕ
eol_of (Code.Some at) = some at
eol_of Code.None = none

abbrev pub next_of : List ℕ → DecodeSettings → Eols → Option ℕ
next_of bytes settings e = next_eol (settings_of settings) (bits_of bytes) 0 0 (eols_of e)

-- ---- Closing a row or the page, as the code does it

abbrev pub over_for : List ℕ → DecodeSettings → Kept → Eols → Bool
over_for bytes settings k e = over (settings_of settings) (bits_of bytes) (record { at = e.at; reference = []; count = k.rows; eols = false }) (eols_of e)

-- an answer after the rows kept
abbrev pub done_for : ℕ → ℕ → ℕ → Kept → ℕ → Out
done_for number place bytes k loose = Done (answer_of (says number place bytes k.rows k.base loose))

abbrev pub line_or_over_for : DecodeSettings → Kept → Eols → Bool → Out
line_or_over_for settings k e true = done_for 0 0 (bytes_to e.at) k 0
line_or_over_for settings k e false = More k (InLine (new_for settings.columns) e.at) 0

abbrev pub eol_or_line_for : List ℕ → DecodeSettings → Kept → Eols → Option ℕ → Out
eol_or_line_for bytes settings k e (some after) = More k (Between e) 0
eol_or_line_for bytes settings k e none = line_or_over_for settings k e (over_for bytes settings k e)

abbrev pub between_for : List ℕ → DecodeSettings → Kept → Eols → Out
between_for bytes settings k e = eol_or_line_for bytes settings k e (next_of bytes settings e)

-- a row that is kept is the next reference
abbrev pub kept_for : Kept → Line → Kept
kept_for k l = record { rows = k.rows + 1; start = k.base; base = k.base + l.changes }

abbrev pub eols_at : ℕ → ℕ → Eols
eols_at count at = record { count = count; at = at }

abbrev pub close_for : List ℕ → DecodeSettings → Kept → Line → ℕ → Bool → Out
close_for bytes settings k l at true = between_for bytes settings (kept_for k l) (eols_at 0 (aligned_if settings.rows_are_byte_aligned at))
close_for bytes settings k l at false = done_for 5 0 0 k l.changes

-- a place's entry, where there is room for it
abbrev pub put_if : Bool → ℕ → ℕ → List ℕ → List ℕ
put_if true i x xs = set xs i x
put_if false i x xs = xs

pub record Closes (bytes : List ℕ) (settings : DecodeSettings) (es ms : List ℕ) (k : Kept) (l : Line) (at : ℕ) (r : Out) (fs ns : List ℕ) : Type 0 where
  pub answer : r ≡ close_for bytes settings k l at (ltb k.rows (places_in es ms))
  pub ends : fs ≡ put_if (ltb k.rows (places_in es ms)) k.rows (k.base + l.changes) es
  pub marks : ns ≡ put_if (ltb k.rows (places_in es ms)) k.rows l.cut ms

-- what closing a row asks: the bit lies in the data, and the counts fit
pub record Closing (bytes : List ℕ) (k : Kept) (l : Line) (at : ℕ) : Type 0 where
  pub size : length bytes ≤ most_bytes
  pub inside : at ≤ 8 * length bytes
  pub fits : k.base + l.changes < 18446744073709551616
  pub flagged : l.cut ≤ 1

abbrev pub Settling : List ℕ → Kept → Stand → Type 0
Settling bytes k (Between e) = (length bytes ≤ most_bytes) × (e.at ≤ 8 * length bytes)
Settling bytes k (InLine l at) = Closing bytes k l at
Settling bytes k (InRun h l from total at) = Unit {0}

-- what costs nothing and writes nothing
pub record Stays (x : Out) (es ms : List ℕ) (r : Out) (fs ns : List ℕ) : Type 0 where
  pub answer : r ≡ x
  pub ends : fs ≡ es
  pub marks : ns ≡ ms

-- a line that is complete is closed
abbrev pub SettlesLine : List ℕ → DecodeSettings → List ℕ → List ℕ → Kept → Line → ℕ → ℕ → Out → List ℕ → List ℕ → Bool → Type 0
SettlesLine bytes settings es ms k l at seen r fs ns true = Closes bytes settings es ms k l at r fs ns
SettlesLine bytes settings es ms k l at seen r fs ns false = Stays (More k (InLine l at) seen) es ms r fs ns

abbrev pub Settles : List ℕ → DecodeSettings → List ℕ → List ℕ → Kept → Stand → ℕ → Out → List ℕ → List ℕ → Type 0
Settles bytes settings es ms k (Between e) seen r fs ns = Stays (between_for bytes settings k e) es ms r fs ns
Settles bytes settings es ms k (InLine l at) seen r fs ns = SettlesLine bytes settings es ms k l at seen r fs ns (eqb l.position settings.columns)
Settles bytes settings es ms k (InRun h l from total at) seen r fs ns = Stays (More k (InRun h l from total at) seen) es ms r fs ns
