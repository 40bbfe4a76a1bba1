-- Runs, lines and pages that are met, code by code. Assumes nothing.
use mathlib.Core.Path.{◌≡◌, refl}
use mathlib.Core.Bool.{Bool, true, false}
use mathlib.Core.List.{List, ◌++◌}
use Prim.Native.Nat.{ℕ, ◌+◌, ◌-◌, ◌*◌, ◌≤◌, ◌<◌}
use native.Mathlib.Omega.{arith}
use lib.ListN.{length, drop, get_or}
use Rattle.rules.specs.Bits.{bits_for}
use Rattle.rules.specs.Codes.{Colour, opposite}
use Rattle.rules.specs.Modes.{horizontal, mode_bits}
use Rattle.rules.specs.Lines.{right_of_a0}
use Rattle.rules.specs.Write.{makeup, terminating, run_bits, eol_bits, eofb, page_bits}
use Rattle.tables.specs.Tables.{colour_of, SameBits}
use Rattle.tables.specs.declared.Code.{Code}
use Rattle.context.specs.Reference.{Passed}
use Rattle.bit_reader.specs.Loaded.{Loading}
use Rattle.row_store.proofs.GoodRows.{row_to}
use Rattle.writer.specs.Putting.{Spells}
use Rattle.writer.specs.Coding.{largest, across, line_of}
use Rattle.writer.specs.Paging.{page_of}
use Rattle.writer.specs.Meeting.{Met, Meets, Facing, Facings}
use Rattle.writer.proofs.RunCodes.{run-last, makeup-spells, makeup-first, terminating-spells}
use Rattle.writer.proofs.Turns.{Turn}
use Rattle.writer.proofs.AlongLine as Line
use Rattle.writer.proofs.AlongLine.{Along, to_come, fuel_for, start-all, none_left, left_is, left-then, onward}
use Rattle.writer.proofs.AtRows.{AtRow, first-row, tested, next_row}
use Rattle.writer.proofs.PageLoop.{rows_left, row_first, eofb-last}
use Rattle.writer.proofs.Leaving.{Left, left-all, left_as, left-none, left-last, left-parts, left-on, code-parts, code-on, code-last}

-- ---- A run of which so much is left

module _ (colour : Colour) {bytes : List ℕ} {at : ℕ} (run : ℕ) {p : ℕ} (left : ℕ) (w : Left bytes p (run_bits colour left) at (run_bits colour run))
    {code : Code} {r : Met} (m : Meets bytes p (bits_for code.size code.word) r) where
  -- a make-up code
  module _ (h : 64 ≤ left) (n : ℕ) (e : n ≡ largest left) (s : SameBits code (makeup colour n)) where
    pub makeup-parts : r.same ≡ false → Meets bytes at (run_bits colour run) r
    makeup-parts = code-parts w (makeup-spells colour left h n e s) m _ (makeup-first colour left h n e s)

    pub makeup-on : r.same ≡ true → Left bytes r.at (run_bits colour (left - 64 * n)) at (run_bits colour run)
    makeup-on = code-on w (makeup-spells colour left h n e s) m _ (makeup-first colour left h n e s)

  -- the terminating code
  pub terminating-met : left < 64 → SameBits code (terminating colour left) → Meets bytes at (run_bits colour run) r
  terminating-met h s = code-last w (terminating-spells colour left h s) m (run-last colour left h)

-- ---- A horizontal code and its runs

module _ (colour : Colour) (first second : ℕ) {bytes : List ℕ} {at : ℕ} (l : Loading bytes at) {code : Code} (s : Spells code (mode_bits horizontal))
    {r : Met} (m : Meets bytes at (bits_for code.size code.word) r) where
  abbrev all : List Bool
  all = across colour first second

  abbrev runs : List Bool
  runs = run_bits colour first ++ run_bits (opposite colour) second

  -- the code is not met, or it is, and the runs are left
  pub across-parts : r.same ≡ false → Meets bytes at all r
  unfolding across
  across-parts = code-parts (left-all all l) s m runs refl

  pub across-on : r.same ≡ true → Left bytes r.at runs at all
  unfolding across
  across-on = code-on (left-all all l) s m runs refl

-- ---- A 2D line

-- between two codes
pub record Tracing (width : ℕ) (reference row bytes : List ℕ) (from next position colour place seen : ℕ) : Type 0 where
  pub fuel : ℕ
  pub along : Along width reference row position colour place seen fuel
  pub left : Left bytes next (to_come width reference row position colour place fuel) from (line_of width reference row)

-- before the first
pub trace : {width : ℕ} {reference row bytes : List ℕ} {at : ℕ} → Facing width reference row → Loading bytes at → Tracing width reference row bytes at at 0 0 0 0
trace {width} {reference} {row} f l = record {
  fuel = fuel_for width row;
  along = Line.start width reference row f.rises';
  left = left_as (start-all width reference row) (left-all _ l);
}

module _ {width : ℕ} {reference row bytes : List ℕ} {from next position colour place seen : ℕ} (g : Tracing width reference row bytes from next position colour place seen) where
  -- at the width all is met
  pub traced : width ≤ position → Meets bytes from (line_of width reference row) (record { at = next; same = true })
  traced h = left-none g.left (none_left g.along h) refl refl

  module _ {xs : List Bool} {c' : Colour} {p' : ℕ} (place' : ℕ)
      (t : Turn width reference (colour_of colour) position (drop place row) xs c' p' (drop place' row)) {r : Met} (m : Meets bytes next xs r) where
    -- a code is not met, or it is, and the line goes on behind it
    pub turn-parts : r.same ≡ false → Meets bytes from (line_of width reference row) r
    turn-parts = left-parts g.left xs _ (left_is g.along place' t) m

    pub turn_on : r.same ≡ true → {colour' seen' : ℕ} → c' ≡ colour_of colour' → colour' ≤ 1 → place' ≤ place + 2 → Passed (right_of_a0 position) seen' reference
        → Tracing width reference row bytes from r.at p' colour' place' seen'
    turn_on d {colour'} e h k passed = record {
      fuel = g.fuel - 1;
      along = onward g.along place' t colour' e h k passed;
      left = left-on g.left xs _ (left-then g.along place' t colour' e h k) m d;
    }

-- ---- EOFB

module _ {bytes : List ℕ} {at : ℕ} (l : Loading bytes at) {code : Code} (s : Spells code eol_bits) {r : Met} (m : Meets bytes at (bits_for code.size code.word) r) where
  -- the first EOL is not met, or it is, and the second is left
  pub eofb-parts : r.same ≡ false → Meets bytes at eofb r
  unfolding eofb
  eofb-parts = code-parts (left-all eofb l) s m eol_bits refl

  pub eofb-on : r.same ≡ true → Left bytes r.at eol_bits at eofb
  unfolding eofb
  eofb-on = code-on (left-all eofb l) s m eol_bits refl

-- ---- A T.6 page

-- between two rows
pub record Turning (width : ℕ) (changes ends bytes : List ℕ) (next from base k : ℕ) : Type 0 where
  pub rows : AtRow width changes ends from base k
  pub left : Left bytes next (rows_left width changes ends from base k) 0 (page_of width changes ends)

-- before the first, under a white row
pub turn : {width : ℕ} {changes ends bytes : List ℕ} → Facings width changes ends bytes → Turning width changes ends bytes 0 0 0 0
unfolding page_bits
turn s = record { rows = first-row s.good; left = left-all _ (record { size = s.small; inside = omega arith }) }

module _ {width : ℕ} {changes ends bytes : List ℕ} {next from base k : ℕ} (g : Turning width changes ends bytes next from base k) (s : Facings width changes ends bytes) where
  module _ (h : k < length ends) where
    abbrev row : List ℕ
    row = row_to changes base (get_or ends k 0)

    abbrev this : List Bool
    this = line_of width (row_to changes from base) row

    pub row-faces : Facing width (row_to changes from base) row
    row-faces = record { wide = s.wide; narrow = s.narrow; rises = g.rows.rises; rises' = (tested g.rows h).rises }

    module _ {r : Met} (m : Meets bytes next this r) where
      -- a row is not met, or it is, and the others are left
      pub row-parts : r.same ≡ false → Meets bytes 0 (page_of width changes ends) r
      row-parts = left-parts g.left this _ (row_first width changes ends from base k h) m

      pub row_on : r.same ≡ true → Turning width changes ends bytes r.at base (get_or ends k 0) (k + 1)
      row_on d = record { rows = next_row g.rows h; left = left-on g.left this _ (row_first width changes ends from base k h) m d }

  -- EOFB
  pub page-met : length ends ≤ k → {r : Met} → Meets bytes next eofb r → Meets bytes 0 (page_of width changes ends) r
  page-met h = left-last g.left eofb (eofb-last width changes ends from base k h)
