-- A Group 4 page a little at a time (02, A9): what its units are and how many it has, counted over the settled definitions; and the machine
-- that takes one unit after the other. That both agree with the page form is proved (proofs/Units.antt, `page-paced`).
use Rattle.std.specs.Prelude.{Bool, true, false, cond, ◌&&◌, List, [], ◌∷◌, ◌++◌, ℕ, zero, suc, ◌+◌, ◌-◌, ◌/◌, eqb, ltb, length, drop}
use Rattle.std.proofs.Math.Option.{Option, none, some}
use Rattle.rules.specs.Answers.{invalid_code, no_row_end, more_to_come}
use Rattle.rules.specs.Machine.{Out, more, done, and_then, run, onward, spent, costs}
use Rattle.rules.specs.Codes.{Colour}
use Rattle.rules.specs.Runs.{Res, ok, fault, Sum, sum, run_step, bits_after}
use Rattle.rules.specs.Modes.{Mode, pass, horizontal, VR, VL, Moded, read_mode}
use Rattle.rules.specs.Lines.{Rules, Line, new_line, moved_to, Went, went, failed, after_run, unmoved, unless_idle, apply}
use Rattle.rules.specs.Counts.{of_line}
use Rattle.rules.specs.Eols.{zero_run, eol_after, Eols, eols_to}
use Rattle.rules.specs.Rows.{group4, Settings, State, read_mark, rules_of, bytes_to, aligned_if}
use Rattle.rules.specs.Group4.{eols_before, over}
use Rattle.rules.specs.Pages.{Answer, none_kept, entries, page_step, rows_left, row_of}

-- ---- The units of a page: "one mode code, one make-up code, one terminating code or one EOL, and a code that fails is one too"

-- each step is one
abbrev pub each : {S : Type 0} → S → ℕ
each s = 1

-- a run's: its steps are its codes
unfoldable pub run_units : List Bool → Colour → ℕ → ℕ
run_units bs colour at = costs each (run_step colour bs) (bits_after bs) (sum at 0)

-- a 2D line's, from where it stands: its mode codes and those of its runs (specs/Counts.antt)
abbrev pub line_units : Rules → List Bool → List ℕ → Line → ℕ
line_units R bs reference s = of_line (run_units bs) R bs reference s

module _ (S : Settings) (bs : List Bool) where
  -- a row's: the EOLs before it and, unless the page is over there, its line's. Zeros without a closing one are no EOL.
  unfoldable pub row_units : ℕ → State → ℕ
  row_units room st =
      let e = eols_before S bs st in
      e.count + cond (over S bs st e) 0 (line_units (rules_of S room) bs st.reference (new_line e.at))

  -- a page's, in a store of so many change entries and places for row ends with their marks: its rows', the one included at which it ends
  unfoldable pub page_units : ℕ → ℕ → ℕ
  page_units store places =
      costs (λ k. row_units (store - entries k.rows) k.state) (page_step (row_of group4 S bs) store places) (rows_left bs)
      none_kept

-- ---- The state of a page that is read in units

-- Which run of a horizontal code: the first, or the second. Both know the bit of the mode code, and the second whether the first moved nothing
-- (02, A12: two such runs are idle, and the mode code is at fault).
pub data Half : Type 0 where
  first : ℕ → Half
  second : ℕ → Bool → Half

-- Where a reading stands: between rows, with the EOLs read so far before the next line; in a line, before a mode code; or in a run of a
-- horizontal code, with its next bit and its sum so far, and the line as it was before the run, whose bit is the run's first.
pub data Stand : Type 0 where
  between : Eols → Stand
  in_line : Line → Stand
  in_run : Half → Line → Sum → Stand

-- How many rows are kept, how many entries they have, and the last of them, the reference; and the rows, with their marks, that were kept since the
-- reading began (or, for a form in calls, since the call began: what was kept before is not looked at).
pub record Keeping : Type 0 where
  pub count : ℕ
  pub base : ℕ
  pub reference : List ℕ
  pub rows : List (List ℕ)
  pub marks : List ℕ

pub record Going : Type 0 where
  pub keeping : Keeping
  pub stand : Stand

abbrev pub going : Keeping → Stand → Going
going k s = record { keeping = k; stand = s }

-- "from a white reference"
abbrev pub units_start : Going
units_start = going (record { count = 0; base = 0; reference = []; rows = []; marks = [] }) (between (eols_to 0 0))

-- an answer after the rows kept
abbrev pub answer_with : Keeping → ℕ → ℕ → ℕ → List ℕ → Answer
answer_with k n place bytes loose = record { number = n; place = place; bytes = bytes; rows = k.rows; marks = k.marks; loose = loose }

-- the changes of the unfinished row: "the loose entries"
abbrev pub loose_of : Stand → List ℕ
loose_of (between e) = []
loose_of (in_line l) = l.changes
loose_of (in_run h l s) = l.changes

-- "15, more to come, with bytes 0 and its other counts as they stand"
abbrev pub so_far : Out Going Answer → Answer
so_far (more g) = answer_with g.keeping more_to_come 0 0 (loose_of g.stand)
so_far (done a) = a

module _ (S : Settings) (bs : List Bool) (store places : ℕ) where
  abbrev pub rules_at : Keeping → Rules
  rules_at k = rules_of S (store - k.base)

  -- a line that fails ends the page
  abbrev pub broken : Keeping → ℕ → ℕ → Line → Out Going Answer
  broken k n place l = done (answer_with k n place 0 l.changes)

  -- ---- Closing a row or the page: "costs none and happens in the call that took the last unit"

  -- the bit after the next EOL, where one is still to be read before the line: "at most two with end_of_block, else all"
  abbrev pub next_eol : Eols → Option ℕ
  next_eol e = cond (ltb e.count (cond S.end_of_block 2 (length bs))) (eol_after e.at (zero_run (drop e.at bs))) none

  -- no EOL follows: the page is over, or a line begins
  abbrev pub line_or_over : Keeping → Eols → Bool → Out Going Answer
  line_or_over k e true = done (answer_with k 0 0 (bytes_to e.at) [])
  line_or_over k e false = more (going k (in_line (new_line e.at)))

  abbrev pub over_at : Keeping → Eols → Bool
  over_at k e = over S bs (record { at = e.at; reference = k.reference; count = k.count; eols = false }) e

  -- an EOL that follows is the next unit
  abbrev pub eol_or_line : Keeping → Eols → Option ℕ → Out Going Answer
  eol_or_line k e (some after) = more (going k (between e))
  eol_or_line k e none = line_or_over k e (over_at k e)

  abbrev pub between_rows : Keeping → Eols → Out Going Answer
  between_rows k e = eol_or_line k e (next_eol e)

  -- a row that is kept, with its mark, is the next reference
  abbrev pub keeps : Keeping → List ℕ → ℕ → Keeping
  keeps k r mark = record { count = suc k.count; base = k.base + length r; reference = r; rows = k.rows ++ r ∷ []; marks = k.marks ++ mark ∷ [] }

  -- "Alignment comes after a row." 5: a row is complete and "no place is left for an end with its mark" (A5); its changes are loose
  abbrev pub close_row : Keeping → Line → Out Going Answer
  close_row k l =
      cond (ltb k.count places)
      (between_rows (keeps k l.changes (read_mark l)) (eols_to 0 (aligned_if S.aligned l.at)))
      (broken k no_row_end 0 l)

  abbrev pub settle_at : Keeping → Stand → Out Going Answer
  settle_at k (between e) = between_rows k e
  settle_at k (in_line l) = cond (eqb l.position S.columns) (close_row k l) (more (going k (in_line l)))
  settle_at k (in_run h l s) = more (going k (in_run h l s))

  -- close the row, if it is complete, and then the page, unless an EOL or a line follows
  unfoldable pub settle : Going → Out Going Answer
  settle g = settle_at g.keeping g.stand

  -- ---- One unit

  -- what a code makes of the line
  abbrev pub after_code : Keeping → Went → Out Going Answer
  after_code k (went l) = settle (going k (in_line l))
  after_code k (failed n place l) = broken k n place l

  -- the line before the mode code, and after it
  abbrev pub applied : Keeping → Line → Mode → Line → Out Going Answer
  applied k l m u = after_code k (unless_idle (rules_at k) m l (apply (rules_at k) k.reference bs l.at m u))

  -- horizontal has its runs to come, any other mode does its work
  abbrev pub after_mode4 : Keeping → Line → Mode → Line → Out Going Answer
  after_mode4 k l horizontal u = more (going k (in_run (first l.at) u (sum u.at 0)))
  after_mode4 k l pass u = applied k l pass u
  after_mode4 k l (VR n) u = applied k l (VR n) u
  after_mode4 k l (VL n) u = applied k l (VL n) u

  abbrev pub mode_unit : Keeping → Line → Res Moded → Out Going Answer
  mode_unit k l (ok m) = after_mode4 k l m.mode (moved_to m.at l)
  mode_unit k l (fault n place) = broken k n place l

  -- where exact is set (A12), a horizontal code whose two runs moved nothing is 1, at the mode code
  abbrev pub unless_unmoved : ℕ → Bool → Line → Went → Went
  unless_unmoved place blank s (went t) = cond (S.exact && (blank && unmoved s t)) (failed invalid_code place s) (went t)
  unless_unmoved place blank s (failed n p t) = failed n p t

  -- what a run makes of the line: behind the first comes the second, behind the second the next mode code
  abbrev pub after_half : Keeping → Half → Line → Went → Out Going Answer
  after_half k (first place) s (went l) = more (going k (in_run (second place (unmoved s l)) l (sum l.at 0)))
  after_half k (first place) s (failed n p l) = broken k n p l
  after_half k (second place blank) s w = after_code k (unless_unmoved place blank s w)

  abbrev pub run_end : Keeping → Half → Line → Res Sum → Out Going Answer
  run_end k h l r = after_half k h l (after_run (rules_at k) l r)

  abbrev pub run_unit : Keeping → Half → Line → Out Sum (Res Sum) → Out Going Answer
  run_unit k h l (more s) = more (going k (in_run h l s))
  run_unit k h l (done r) = run_end k h l r

  -- (a settled page that stands between rows has an EOL there)
  abbrev pub eol_unit : Keeping → Eols → Option ℕ → Out Going Answer
  eol_unit k e (some after) = settle (going k (between (eols_to (suc e.count) after)))
  eol_unit k e none = settle (going k (between e))

  abbrev pub unit_at : Keeping → Stand → Out Going Answer
  unit_at k (between e) = eol_unit k e (next_eol e)
  unit_at k (in_line l) = mode_unit k l (read_mode bs l.at)
  unit_at k (in_run h l s) = run_unit k h l (run_step l.colour bs s)

  -- one unit, and what closes behind it
  unfoldable pub unit : Going → Out Going Answer
  unit g = unit_at g.keeping g.stand

  -- ---- One call

  -- at most n units, from a state that closes first what it can (so does the page's start, and a state of the caller's own); an end stays
  unfoldable pub call : ℕ → Out Going Answer → Out Going Answer
  call n o = and_then (and_then o settle) (run unit n)

  -- and how many it takes
  unfoldable pub taken : ℕ → Out Going Answer → ℕ
  taken n o = onward (and_then o settle) (spent each unit n)

  -- a call for each number, the first number first
  unfoldable pub calls : List ℕ → Out Going Answer → Out Going Answer
  calls [] o = o
  calls (n ∷ ns) o = calls ns (call n o)

-- ---- How many calls

-- the sum of numbers
unfoldable pub total : List ℕ → ℕ
total [] = 0
total (n ∷ ns) = n + total ns

-- one number, so many times
unfoldable pub same_each : ℕ → ℕ → List ℕ
same_each zero n = []
same_each (suc i) n = n ∷ same_each i n

-- "U/N calls rounded up, or one call if U is 0"
unfoldable pub calls_for : ℕ → ℕ → ℕ
calls_for u n = cond (eqb u 0) 1 ((u + (n - 1)) / n)

-- ---- What a call keeps: the state without the rows, which lie in the caller's store

-- rows, with their marks, before those that were kept
abbrev pub behind_rows : List (List ℕ) → List ℕ → Keeping → Keeping
behind_rows rs ms k = record { count = k.count; base = k.base; reference = k.reference; rows = rs ++ k.rows; marks = ms ++ k.marks }

abbrev pub answer_behind : List (List ℕ) → List ℕ → Answer → Answer
answer_behind rs ms a = record { number = a.number; place = a.place; bytes = a.bytes; rows = rs ++ a.rows; marks = ms ++ a.marks; loose = a.loose }

abbrev pub out_behind : List (List ℕ) → List ℕ → Out Going Answer → Out Going Answer
out_behind rs ms (more g) = more (going (behind_rows rs ms g.keeping) g.stand)
out_behind rs ms (done a) = done (answer_behind rs ms a)

-- the state at which the next call begins
abbrev pub anew : Going → Going
anew g = going (record { count = g.keeping.count; base = g.keeping.base; reference = g.keeping.reference; rows = []; marks = [] }) g.stand
