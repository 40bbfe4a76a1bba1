-- EOLs, 1D lines and rows of Group 3 pages that are met, code by code. Assumes nothing.
use mathlib.Core.Path.{◌≡◌, refl}
use mathlib.Core.Bool.{Bool, true, false}
use mathlib.Core.List.{List, [], ◌++◌}
use Prim.Native.Nat.{ℕ, ◌+◌, ◌-◌, ◌≤◌, ◌<◌}
use lib.ListN.{length, get_or, replicate}
use Rattle.rules.specs.Bits.{bits_for}
use Rattle.rules.specs.Write.{run_bits, eol_bits}
use Rattle.rules.specs.WriteGroup3.{Layout, filled, ahead, times, ending}
use Rattle.rules.specs.Rising.{none}
use Rattle.tables.specs.Tables.{colour_of}
use Rattle.tables.specs.declared.Code.{Code}
use Rattle.bit_reader.specs.Loaded.{Loading}
use Rattle.writer.specs.Putting.{Spells}
use Rattle.writer.specs.Coding.{line1_of}
use Rattle.writer.specs.Paging3.{kind_from, line_from, row3_of}
use Rattle.writer.specs.Meeting.{Met, Meets, Facing}
use Rattle.writer.proofs.EolCodes.{zeros-spell, zeros-first, zeros-last, times-first, times-last}
use Rattle.writer.proofs.AlongLine1.{Along1, runs_to_come, start1, start1-all, run-first, onward1, run-last}
use Rattle.writer.proofs.Row3Laws.{ahead-first, end-filled}
use Rattle.writer.proofs.Leaving.{Left, left-all, left_as, left-none, left-last, left-parts, left-on, code-parts, code-on, code-last}

-- nothing is met anywhere
pub met-none : {bytes : List ℕ} {at : ℕ} {xs : List Bool} → Loading bytes at → xs ≡ [] → Meets bytes at xs (record { at = at; same = true })
met-none {xs = xs} l e = left-none (left-all xs l) e refl refl

-- ---- Zeros before an EOL, of which `left` are left

module _ {bytes : List ℕ} {next from : ℕ} (fill left : ℕ) (w : Left bytes next (replicate left false ++ eol_bits) from (replicate fill false ++ eol_bits)) where
  module _ (size : ℕ) (h : 1 ≤ size) (k : size ≤ 13) (l : size ≤ left) {r : Met} (m : Meets bytes next (bits_for size 0) r) where
    pub fill-parts : r.same ≡ false → Meets bytes from (replicate fill false ++ eol_bits) r
    fill-parts = code-parts w (zeros-spell size h k) m _ (zeros-first left size l)

    pub fill_on : r.same ≡ true → Left bytes r.at (replicate (left - size) false ++ eol_bits) from (replicate fill false ++ eol_bits)
    fill_on = code-on w (zeros-spell size h k) m _ (zeros-first left size l)

  pub eol-met : left ≡ 0 → {code : Code} → Spells code eol_bits → {r : Met} → Meets bytes next (bits_for code.size code.word) r
      → Meets bytes from (replicate fill false ++ eol_bits) r
  eol-met h s m = code-last w s m (zeros-last left h)

-- ---- Bits that come several times

module _ (xs : List Bool) {bytes : List ℕ} {next from : ℕ} (n left : ℕ) (w : Left bytes next (times left xs) from (times n xs)) (some_left : 1 ≤ left)
    {r : Met} (m : Meets bytes next xs r) where
  pub times-parts : r.same ≡ false → Meets bytes from (times n xs) r
  times-parts = left-parts w xs _ (times-first xs left some_left) m

  pub times-on : r.same ≡ true → Left bytes r.at (times (left - 1) xs) from (times n xs)
  times-on = left-on w xs _ (times-first xs left some_left) m

  pub times-met : left ≤ 1 → Meets bytes from (times n xs) r
  times-met h = left-last w xs (times-last xs left some_left h) m

-- ---- A 1D line

-- between two runs
pub record Tracing1 (width : ℕ) (row bytes : List ℕ) (from next position colour place : ℕ) : Type 0 where
  pub along : Along1 width row position colour place
  pub left : Left bytes next (runs_to_come width row position colour place) from (line1_of width row)

-- before the first
pub trace1 : {width : ℕ} {row bytes : List ℕ} {at : ℕ} → Facing width [] row → Loading bytes at → Tracing1 width row bytes at at 0 0 0
trace1 {width} {row} f l = record { along = start1 width row f.rises'; left = left_as (start1-all width row) (left-all _ l) }

module _ {width : ℕ} {row bytes : List ℕ} {from next position colour place : ℕ} (g : Tracing1 width row bytes from next position colour place) where
  module _ (h : place < length row) {r : Met} (m : Meets bytes next (run_bits (colour_of colour) (get_or row place 0 - position)) r) where
    -- a run is not met, or it is, and the others are left
    pub run-parts : r.same ≡ false → Meets bytes from (line1_of width row) r
    run-parts = left-parts g.left _ _ (run-first g.along h) m

    pub run_on : r.same ≡ true → Tracing1 width row bytes from r.at (get_or row place 0) (1 - colour) (place + 1)
    run_on d = record { along = onward1 g.along h; left = left-on g.left _ _ (run-first g.along h) m d }

  -- the run to the width
  pub line1-met : length row ≤ place → {r : Met} → Meets bytes next (run_bits (colour_of colour) (width - position)) r → Meets bytes from (line1_of width row) r
  line1-met h = left-last g.left _ (run-last g.along h)

-- ---- A row

-- a 1D line stands under no row
pub facing-1d : {width : ℕ} {above row : List ℕ} → Facing width above row → Facing width [] row
facing-1d f = record { wide = f.wide; narrow = f.narrow; rises = none; rises' = f.rises' }

module _ (layout : Layout) (width : ℕ) (single : Bool) (above row : List ℕ) {bytes : List ℕ} {at : ℕ} (l : Loading bytes at)
    {r : Met} (m : Meets bytes at (ahead layout (kind_from single [])) r) where
  abbrev all : List Bool
  all = row3_of layout width single above row

  -- what stands before the line is not met, or it is, and the line is left
  pub ahead-parts : r.same ≡ false → Meets bytes at all r
  ahead-parts = left-parts (left-all all l) _ _ (ahead-first layout width single above row) m

  pub row-met : r.same ≡ true → {s : Met} → Meets bytes r.at (line_from width single above row) s → Meets bytes at all s
  row-met d = left-last (left-on (left-all all l) _ _ (ahead-first layout width single above row) m d) _ refl

-- ---- The end with fill

module _ (layout : Layout) (fill : ℕ) (e : layout ≡ filled fill) {bytes : List ℕ} {at : ℕ} (l : Loading bytes at)
    {r : Met} (m : Meets bytes at (replicate fill false ++ eol_bits) r) where
  -- the first EOL is not met, or it is, and five are left
  pub end-parts : r.same ≡ false → Meets bytes at (ending layout) r
  end-parts = left-parts (left-all (ending layout) l) _ _ (end-filled e) m

  pub end-met : r.same ≡ true → {s : Met} → Meets bytes r.at (times 5 eol_bits) s → Meets bytes at (ending layout) s
  end-met d = left-last (left-on (left-all (ending layout) l) _ _ (end-filled e) m d) _ refl
