-- The state that a caller holds, and that of the rules which it stands for; the tests of 8; and the contract: what the rules' `turn` says (02, A9).
use Rattle.std.specs.Prelude.{◌≡◌, ◌⊎◌, Bool, true, false, cond, ◌&&◌, ◌||◌, List, ℕ, ◌+◌, ◌-◌, ◌*◌, ◌≤◌, eqb, leb, length}
use Rattle.rules.specs.Codes.{Colour, white, black}
use Rattle.rules.specs.Pages.{most_bytes, too_few, ascends, places_in}
use Rattle.rules.specs.Answers.{more_to_come}
use Rattle.rules.specs.InSteps.{Said, says}
use Rattle.rules.specs.ByUnit as Rule
use Rattle.rules.specs.ByUnit.{at_eols, at_mode, at_the_first, at_second, end_of, part, opened, ended, as_group4, turn_on, turn}
use Rattle.answer.specs.declared.Answer.{Answer}
use Rattle.codes.specs.declared.eol.Eols.{Eols}
use Rattle.context.specs.declared.line.Line.{Line}
use Rattle.context.specs.State.{flag_of, flag_number}
use Rattle.settings.specs.declared.DecodeSettings.{DecodeSettings}
use Rattle.settings.specs.declared.EncodingMode.TheVariants.{Group4}
use Rattle.settings.specs.Settings.{settings_of}
use Rattle.by_unit.specs.declared.Phase.{Phase}
use Rattle.by_unit.specs.declared.Saved.{Saved}
use Rattle.by_unit.specs.declared.PageEnd.{PageEnd}
use Rattle.by_unit.specs.declared.EndCounts.{EndCounts}
use Rattle.by_unit.specs.declared.Reading.{Reading}
use Rattle.by_unit.specs.declared.Reading.TheVariants.{Open, Ended}
use Rattle.by_unit.specs.declared.Turn.{Turn}
use Rattle.by_unit.specs.declared.stand.Half.TheVariants.{First, Second}
use Rattle.by_unit.specs.declared.stand.Stand.{Stand}
use Rattle.by_unit.specs.declared.stand.Stand.TheVariants.{Between, InLine, InRun}
use Rattle.by_unit.specs.declared.stand.Kept.{Kept}
use Rattle.by_unit.specs.declared.stand.Out.{Out}
use Rattle.by_unit.specs.declared.stand.Out.TheVariants.{More, Done}
use Rattle.by_unit.specs.declared.take.TakenUnits.{TakenUnits}
use Rattle.by_unit.specs.Standing.{answer_of}

-- ---- The state

abbrev pub phase_of : Phase → Rule.Phase
phase_of Phase.Eols = at_eols
phase_of Phase.Mode = at_mode
phase_of Phase.First = at_the_first
phase_of Phase.Second = at_second

abbrev pub black_if : Bool → Colour
black_if true = black
black_if false = white

abbrev pub saved_of : Saved → Rule.Saved
saved_of s = record {
  phase = phase_of s.phase;
  at = s.at;
  eols = s.eols;
  rows = s.rows;
  position = s.position;
  colour = black_if s.black;
  loose = s.loose;
  cut = s.cut;
  run = s.run;
  run_stands = s.run_at;
  mode_stands = s.mode_at;
  blank = s.blank;
}

-- the numbers with which a page ends, and no other can be repeated
abbrev pub Ending : ℕ → Type 0
Ending n = (n ≤ 5) ⊎ (n ≡ 14)

-- number, place and bytes, rows, entries and loose entries: each number has those that 01 allows it, and the others are 0
abbrev pub said_of : PageEnd → EndCounts → Said
said_of (PageEnd.Done bytes) c = says 0 0 bytes c.rows c.entries 0
said_of (PageEnd.InvalidCode place loose) c = says 1 place 0 c.rows c.entries loose
said_of (PageEnd.UnexpectedEof place loose) c = says 2 place 0 c.rows c.entries loose
said_of (PageEnd.Overflow place loose) c = says 3 place 0 c.rows c.entries loose
said_of (PageEnd.NoEntry loose) c = says 4 0 0 c.rows c.entries loose
said_of (PageEnd.NoRowEnd loose) c = says 5 0 0 c.rows c.entries loose
said_of PageEnd.Short c = says 14 0 0 c.rows c.entries 0

abbrev pub reading_of : Reading → Rule.Reading
reading_of (Open s) = opened (saved_of s)
reading_of (Ended e c) = ended (said_of e c)

-- ---- A call

-- what a call says, hands back and leaves in the lent arrays
pub record TurnIs (t : Rule.Turn) (r : Turn) (ys fs ns : List ℕ) : Type 0 where
  pub answer : r.answer ≡ answer_of t.answer
  pub units : r.units ≡ t.units
  pub reading : reading_of r.reading ≡ t.reading
  pub changes : ys ≡ t.changes
  pub ends : fs ≡ t.ends
  pub marks : ns ≡ t.marks

abbrev pub ReadsUnits : List ℕ → DecodeSettings → List ℕ → List ℕ → List ℕ → Reading → ℕ → Turn → List ℕ → List ℕ → List ℕ → Type 0
ReadsUnits bytes settings xs es ms reading n r ys fs ns = TurnIs (turn (as_group4 (settings_of settings)) bytes xs es ms n (reading_of reading)) r ys fs ns

-- on a page that has not ended, and a number of units that is not 0
abbrev pub TurnsOn : List ℕ → DecodeSettings → List ℕ → List ℕ → List ℕ → Saved → ℕ → Turn → List ℕ → List ℕ → List ℕ → Type 0
TurnsOn bytes settings xs es ms s n r ys fs ns = TurnIs (turn_on (as_group4 (settings_of settings)) bytes xs es ms n (saved_of s)) r ys fs ns

-- ---- The parts of a call

-- the encoding is not read, and exact implies strict
abbrev pub as_read_for : DecodeSettings → DecodeSettings
as_read_for s = record {
  columns = s.columns;
  rows = s.rows;
  end_of_block = s.end_of_block;
  end_of_line = s.end_of_line;
  rows_are_byte_aligned = s.rows_are_byte_aligned;
  encoding = Group4;
  strict = s.exact || s.strict;
  exact = s.exact;
  plain = s.plain;
}

abbrev pub end_from : ℕ → ℕ → ℕ → ℕ → PageEnd
end_from n place bytes loose =
    cond (eqb n 0) (PageEnd.Done bytes)
    (cond (eqb n 1) (PageEnd.InvalidCode place loose)
    (cond (eqb n 2) (PageEnd.UnexpectedEof place loose) (cond (eqb n 3) (PageEnd.Overflow place loose) (cond (eqb n 4) (PageEnd.NoEntry loose) (cond (eqb n 5) (PageEnd.NoRowEnd loose) PageEnd.Short)))))

abbrev pub answer_for : PageEnd → EndCounts → Answer
answer_for e c = answer_of (said_of e c)

abbrev pub still_for : Answer → Reading → Turn
still_for answer reading = record { answer = answer; units = 0; reading = reading }

abbrev pub ended_for : Answer → ℕ → Turn
ended_for a units = record {
  answer = a;
  units = units;
  reading = Ended (end_from a.number a.place a.bytes a.loose) (record { rows = a.rows; entries = a.entries });
}

-- "14 with bytes 0", where the page has too few rows (A12)
abbrev pub unless_few : DecodeSettings → Answer → Answer
unless_few settings a =
    cond (too_few (settings_of settings) a.number a.rows) (record { number = 14; mark = 0; rows = a.rows; entries = a.entries; loose = a.loose; bytes = 0; place = 0 }) a

-- the loose entries are the unfinished row
abbrev pub loose_for : Stand → ℕ
loose_for (Between e) = 0
loose_for (InLine l at) = l.changes
loose_for (InRun h l from total at) = l.changes

abbrev pub saved_between_for : ℕ → Eols → Saved
saved_between_for rows e = record {
  phase = Phase.Eols;
  at = e.at;
  eols = e.count;
  rows = rows;
  position = 0;
  black = false;
  loose = 0;
  cut = false;
  run = 0;
  run_at = 0;
  mode_at = 0;
  blank = false;
}

abbrev pub saved_line_for : Phase → ℕ → ℕ → Line → ℕ → ℕ → ℕ → Bool → Saved
saved_line_for phase rows at l run run_stands mode blank = record {
  phase = phase;
  at = at;
  eols = 0;
  rows = rows;
  position = l.position;
  black = flag_of l.colour;
  loose = l.changes;
  cut = flag_of l.cut;
  run = run;
  run_at = run_stands;
  mode_at = mode;
  blank = blank;
}

abbrev pub saved_for : Kept → Stand → Saved
saved_for k (Between e) = saved_between_for k.rows e
saved_for k (InLine l at) = saved_line_for Phase.Mode k.rows at l 0 0 0 false
saved_for k (InRun (First mode) l from total at) = saved_line_for Phase.First k.rows at l total from mode false
saved_for k (InRun (Second mode blank) l from total at) = saved_line_for Phase.Second k.rows at l total from mode blank

abbrev pub turn_out : DecodeSettings → ℕ → Out → Turn
turn_out settings units (More k s seen) = record { answer = answer_of (says more_to_come 0 0 k.rows k.base (loose_for s)); units = units; reading = Open (saved_for k s) }
turn_out settings units (Done a) = ended_for (unless_few settings a) units

abbrev pub turn_for : DecodeSettings → TakenUnits → Turn
turn_for settings t = turn_out settings t.units t.out

-- ---- Where a reading with it stands

abbrev pub kept_by : List ℕ → Saved → Kept
kept_by ends s = record { rows = s.rows; start = end_of ends (s.rows - 1); base = end_of ends s.rows }

abbrev pub line_by : ℕ → Saved → Line
line_by columns s = record { width = columns; position = s.position; changes = s.loose; colour = flag_number s.black; cut = flag_number s.cut }

abbrev pub stand_by : ℕ → Saved → Phase → Stand
stand_by columns s Phase.Eols = Between (record { count = s.eols; at = s.at })
stand_by columns s Phase.Mode = InLine (line_by columns s) s.at
stand_by columns s Phase.First = InRun (First s.mode_at) (line_by columns s) s.run_at s.run s.at
stand_by columns s Phase.Second = InRun (Second s.mode_at s.blank) (line_by columns s) s.run_at s.run s.at

-- ---- The tests of 8, in the order of the code

abbrev pub bits_for : ℕ → Saved → Bool
bits_for bits s = leb s.at bits && (leb s.run_at bits && leb s.mode_at bits)

abbrev pub counts_for : ℕ → ℕ → Saved → Bool
counts_for most places s = leb s.eols most && (leb s.rows most && (leb s.loose most && leb s.rows places))

abbrev pub rows_for : ℕ → ℕ → List ℕ → ℕ → ℕ → Saved → Bool
rows_for most columns xs start base s =
    leb base most && (leb start base && (leb (base + s.loose) (length xs) && (ascends columns (part start base xs) && ascends s.position (part base (base + s.loose) xs))))

-- counts whose sum fits
pub record InPlace (most : ℕ) (s : Saved) : Type 0 where
  pub few : most ≤ 8 * most_bytes + 1
  pub loose : s.loose ≤ most

abbrev pub sound_for : ℕ → ℕ → List ℕ → List ℕ → List ℕ → Saved → Bool
sound_for size columns xs es ms s =
    bits_for (8 * size) s
    && (leb s.position columns
    && (counts_for (8 * size + 1) (places_in es ms) s && rows_for (8 * size + 1) columns xs (end_of es (s.rows - 1)) (end_of es s.rows) s))
