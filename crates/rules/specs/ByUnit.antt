-- A little at a time (02, A9; 01 "Where a later request calls a form in steps"): the state that a caller of the Group 4 form holds, which states are refused,
-- and what one call answers, leaves in the lent arrays and hands back. The reading itself is `call` (specs/Units.antt). That any choice of N gives the page
-- form's answer and arrays is proved (proofs/ByUnit.antt, `turns-ended`).
use Rattle.std.specs.Prelude.{Bool, true, false, cond, ◌&&◌, List, [], ◌∷◌, ◌++◌, ℕ, zero, suc, ◌+◌, ◌-◌, eqb, leb, ltb, length, take, drop, get_or}
use Rattle.rules.specs.Answers.{complete, bad_width, too_long, bad_rows, bad_number, too_few_rows}
use Rattle.rules.specs.Machine.{Out, more, done}
use Rattle.rules.specs.Bits.{bits_of}
use Rattle.rules.specs.Codes.{Colour, white}
use Rattle.rules.specs.Runs.{sum}
use Rattle.rules.specs.Lines.{Line, line}
use Rattle.rules.specs.Eols.{Eols, eols_to}
use Rattle.rules.specs.Rows.{group4, Settings}
use Rattle.rules.specs.Pages.{Answer, entries, strict_if_exact, too_few, most_bytes, is_too_wide, ascends, overlaid, joined, ends_from, places_in}
use Rattle.rules.specs.InSteps.{Said, says, says_only}
use Rattle.rules.specs.Units.{first, second, Stand, between, in_line, in_run, Going, going, so_far, call, taken}

-- ---- The state

-- what comes next: an EOL or a line; a mode code; a code of a horizontal code's first run, or of its second
pub data Phase : Type 0 where
  at_eols at_mode at_the_first at_second : Phase

-- The next bit; the EOLs read before the next line; the rows kept; the line's position, colour, changes recorded and cut flag; the run's sum so far
-- and its first bit; the mode code's bit; and whether the first run moved nothing. What a phase does not need is 0, and not looked at.
pub record Saved : Type 0 where
  pub phase : Phase
  pub at : ℕ
  pub eols : ℕ
  pub rows : ℕ
  pub position : ℕ
  pub colour : Colour
  pub loose : ℕ
  pub cut : Bool
  pub run : ℕ
  pub run_stands : ℕ
  pub mode_stands : ℕ
  pub blank : Bool

-- between rows, of which so many are kept
abbrev pub saved_between : ℕ → Eols → Saved
saved_between rows e = record {
  phase = at_eols;
  at = e.at;
  eols = e.count;
  rows = rows;
  position = 0;
  colour = white;
  loose = 0;
  cut = false;
  run = 0;
  run_stands = 0;
  mode_stands = 0;
  blank = false;
}

-- in a line, with what a run needs
abbrev pub saved_line : Phase → ℕ → ℕ → Line → ℕ → ℕ → ℕ → Bool → Saved
saved_line phase rows at l run run_stands mode blank = record {
  phase = phase;
  at = at;
  eols = 0;
  rows = rows;
  position = l.position;
  colour = l.colour;
  loose = length l.changes;
  cut = l.cut;
  run = run;
  run_stands = run_stands;
  mode_stands = mode;
  blank = blank;
}

-- the page's start
abbrev pub saved_start : Saved
saved_start = saved_between 0 (eols_to 0 0)

-- where so many rows end: "Row n's changes lie between end n−1 (0 for the first) and end n."
abbrev pub end_of : List ℕ → ℕ → ℕ
end_of ends zero = 0
end_of ends (suc n) = get_or ends n 0

-- the entries from one place to another
abbrev pub part : ℕ → ℕ → List ℕ → List ℕ
part from to xs = take (to - from) (drop from xs)

module _ (changes ends : List ℕ) (s : Saved) where
  -- the entries in kept rows, by the last row end; and where the last row begins
  abbrev pub base_of : ℕ
  base_of = end_of ends s.rows

  abbrev pub start_of : ℕ
  start_of = end_of ends (s.rows - 1)

  -- "the last kept row is the reference"
  abbrev pub reference_of : List ℕ
  reference_of = part start_of base_of changes

  abbrev pub unfinished_of : List ℕ
  unfinished_of = part base_of (base_of + s.loose) changes

  abbrev pub line_from : ℕ → Line
  line_from at = line at s.position s.colour unfinished_of s.cut

  abbrev pub stand_of : Phase → Stand
  stand_of at_eols = between (eols_to s.eols s.at)
  stand_of at_mode = in_line (line_from s.at)
  stand_of at_the_first = in_run (first s.mode_stands) (line_from s.run_stands) (sum s.at s.run)
  stand_of at_second = in_run (second s.mode_stands s.blank) (line_from s.run_stands) (sum s.at s.run)

  -- the reading that a state and the lent arrays stand for, with no rows of its own yet
  unfoldable pub going_of : Going
  going_of = going (record { count = s.rows; base = base_of; reference = reference_of; rows = []; marks = [] }) (stand_of s.phase)

  -- 8: "a bit past the data, a position past the width, a count past its array or past 8 × bytes + 1, or a reference or unfinished row not strictly
  -- ascending below the width or the position", and "row ends fall or pass the array" for the two ends that are used. A run's sum counts pixels and
  -- has no such limit: one make-up code of 12 bits stands for 2560. There are `places` for row ends with their marks. No state that a call handed back is
  -- refused so (proofs/ByUnit.antt, `not-refused`).
  unfoldable pub sound : ℕ → ℕ → ℕ → Bool
  sound width bits places =
      (leb s.at bits && (leb s.run_stands bits && leb s.mode_stands bits))
      && (leb s.position width
      && ((leb s.eols (bits + 1) && (leb s.rows (bits + 1) && (leb base_of (bits + 1) && leb s.loose (bits + 1))))
      && ((leb s.rows places && (leb start_of base_of && leb (base_of + s.loose) (length changes)))
      && (ascends width reference_of && ascends s.position unfinished_of))))

-- the state that a reading is handed back as
abbrev pub saved_at : ℕ → Stand → Saved
saved_at rows (between e) = saved_between rows e
saved_at rows (in_line l) = saved_line at_mode rows l.at l 0 0 0 false
saved_at rows (in_run (first mode) l s) = saved_line at_the_first rows s.at l s.total l.at mode false
saved_at rows (in_run (second mode blank) l s) = saved_line at_second rows s.at l s.total l.at mode blank

abbrev pub saved_of : Going → Saved
saved_of g = saved_at g.keeping.count g.stand

-- ---- One call

-- what an answer says where so many rows and entries were kept before
abbrev pub said_behind : ℕ → ℕ → Answer → Said
said_behind rows base a = says a.number a.place a.bytes (rows + length a.rows) (base + entries a.rows) (length a.loose)

-- 14 where the page has too few rows (A12)
abbrev pub unless_fewer : Settings → Said → Said
unless_fewer S c = cond (too_few S c.number c.rows) (says too_few_rows 0 0 c.rows c.entries c.loose) c

-- what a caller holds between calls: an open page's state; or, "once the page has ended", the answer to repeat
pub data Reading : Type 0 where
  opened : Saved → Reading
  ended : Said → Reading

-- a call's answer, the units it took, and what it hands back: the state and the lent arrays
pub record Turn : Type 0 where
  pub answer : Said
  pub units : ℕ
  pub reading : Reading
  pub changes : List ℕ
  pub ends : List ℕ
  pub marks : List ℕ

abbrev pub reading_after : Said → Out Going Answer → Reading
reading_after c (more g) = opened (saved_of g)
reading_after c (done a) = ended c

-- an array that begins anew from a place on
abbrev pub overlaid_from : ℕ → List ℕ → List ℕ → List ℕ
overlaid_from n xs array = take n array ++ overlaid xs (drop n array)

-- an outcome, behind so many rows and entries: "rows kept before stand", and new ones and the loose entries lie behind them
abbrev pub turn_of : Settings → ℕ → ℕ → List ℕ → List ℕ → List ℕ → ℕ → Out Going Answer → Turn
turn_of S rows base changes ends marks units o =
    let a = so_far o in
    let c = unless_fewer S (said_behind rows base a) in
    record {
      answer = c;
      units = units;
      reading = reading_after c o;
      changes = overlaid_from base (joined a.rows ++ a.loose) changes;
      ends = overlaid_from rows (ends_from base a.rows) ends;
      marks = overlaid_from rows a.marks marks;
    }

-- "A form made for one encoding doesn't read that setting"
abbrev pub as_group4 : Settings → Settings
as_group4 S = record {
  columns = S.columns;
  rows = S.rows;
  end_of_block = S.end_of_block;
  end_of_line = S.end_of_line;
  aligned = S.aligned;
  encoding = group4;
  strict = S.strict;
  exact = S.exact;
}

module _ (S : Settings) (bytes changes ends marks : List ℕ) where
  -- everything as found
  abbrev pub still : Said → Reading → Turn
  still c p = record { answer = c; units = 0; reading = p; changes = changes; ends = ends; marks = marks }

  -- "With exact on, strict is implied" (A12)
  abbrev pub read_on : ℕ → Saved → Turn
  read_on n s =
      let g : Out Going Answer = more (going_of changes ends s) in
      turn_of S s.rows (base_of changes ends s) changes ends marks
      (taken (strict_if_exact S) (bits_of bytes) (length changes) (places_in ends marks) n g)
      (call (strict_if_exact S) (bits_of bytes) (length changes) (places_in ends marks) n g)

  -- 6, 7 and 8 in this order, then "Columns 0, once the tests that apply are passed, gives 0, no rows, 0 bytes"
  unfoldable pub turn_on : ℕ → Saved → Turn
  turn_on n s =
      elim (is_too_wide S.columns) [
        | true ↦ still (says_only bad_width) (opened s)
        | false ↦ elim (ltb most_bytes (length bytes)) [
          | true ↦ still (says_only too_long) (opened s)
          | false ↦ elim (sound changes ends s S.columns (length (bits_of bytes)) (places_in ends marks)) [
            | false ↦ still (says_only bad_rows) (opened s)
            | true ↦ elim (eqb S.columns 0) [ true ↦ still (says_only complete) (ended (says_only complete)) | false ↦ read_on n s ]
          ]
        ]
      ]

  -- "N of 0 answers 10 before any other test, after the page's end too, and changes nothing"; "once the page has ended, a call repeats that answer
  -- before tests 6 to 8 and writes nothing"
  unfoldable pub turn : ℕ → Reading → Turn
  turn zero p = still (says_only bad_number) p
  turn (suc n) (opened s) = turn_on (suc n) s
  turn (suc n) (ended c) = still c (ended c)

-- a call for each number, the first number first, each on what the last one handed back
unfoldable pub turns : Settings → List ℕ → List ℕ → Turn → Turn
turns S bytes [] t = t
turns S bytes (n ∷ ns) t = turns S bytes ns (turn S bytes t.changes t.ends t.marks n t.reading)
