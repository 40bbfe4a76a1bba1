-- What the writers of runs, modes and lines ask for and put.
use Rattle.std.specs.Prelude.{◌≡◌, Bool, true, cond, List, ◌++◌, ℕ, zero, suc, ◌+◌, ◌-◌, ◌/◌, ◌≤◌, ◌<◌, leb, length, get_or, replicate}
use Rattle.rules.specs.Codes.{Colour, opposite}
use Rattle.rules.specs.Modes.{horizontal, mode_bits}
use Rattle.rules.specs.Lines.{one, two}
use Rattle.rules.specs.Write.{most_makeup, run_bits, line_bits}
use Rattle.rules.specs.Rising.{Rising}
use Rattle.tables.specs.Tables.{Terminating, Makeup}
use Rattle.writer.specs.Putting.{Room, Puts}

-- the code tables, as a writer is lent them
pub record Lent (wt bt wm bm common : List (List ℕ)) : Type 0 where
  pub terminating : Terminating wt bt
  pub makeup : Makeup wm bm common

-- how many 64s the largest make-up code has that a run holds
abbrev pub largest : ℕ → ℕ
largest run = cond (leb most_makeup (run / 64)) most_makeup (run / 64)

-- how far a1 lies from b1: one of the differences is 0
abbrev pub apart : ℕ → ℕ → ℕ
apart b1 a1 = (a1 - b1) + (b1 - a1)

-- so many V0 codes are put at once, at most
abbrev pub most_alike : ℕ
most_alike = 8

-- k changes of two rows, each from a place of its own on, are the same
pub record Alike (reference : List ℕ) (above : ℕ) (row : List ℕ) (place k : ℕ) : Type 0 where
  pub few : k ≤ most_alike
  pub each : (j : ℕ) → j < k → (above + j < length reference) × (place + j < length row) × (get_or row (place + j) 0 ≡ get_or reference (above + j) 0)

-- k ones are put from bit `at` on; where there are none, nothing is touched, not even the rest of the byte
pub record PutsOnes (write : Bool) (at k : ℕ) (out : List ℕ) (r : ℕ) (out' : List ℕ) : Type 0 where
  pub none : k ≡ 0 → (r ≡ at) × (out' ≡ out)
  pub some : 0 < k → Puts write at (replicate k true) out r out'

-- how many bits a vertical code has
abbrev pub vertical_size : ℕ → ℕ
vertical_size zero = 1
vertical_size (suc zero) = 3
vertical_size (suc (suc zero)) = 6
vertical_size (suc (suc (suc k))) = 7

-- the bits of a horizontal code with its two runs
unfoldable pub across : Colour → ℕ → ℕ → List Bool
across colour first second = mode_bits horizontal ++ (run_bits colour first ++ run_bits (opposite colour) second)

-- the bits of a 2D line, and of a 1D line
abbrev pub line_of : ℕ → List ℕ → List ℕ → List Bool
line_of width reference row = line_bits width (two reference) row

abbrev pub line1_of : ℕ → List ℕ → List Bool
line1_of width row = line_bits width one row

-- the bits of a row, which stands under another, can be put from bit `at` on
pub record Rowed (write : Bool) (width : ℕ) (above row : List ℕ) (bits : List Bool) (at bytes : ℕ) : Type 0 where
  pub wide : 0 < width
  pub narrow : width < 4294967295
  pub rises : Rising width 0 above
  pub rises' : Rising width 0 row
  pub room : Room write at (length bits) bytes

-- those of its 2D line
abbrev pub Lined : Bool → ℕ → List ℕ → List ℕ → ℕ → ℕ → Type 0
Lined write width reference row at bytes = Rowed write width reference row (line_of width reference row) at bytes
