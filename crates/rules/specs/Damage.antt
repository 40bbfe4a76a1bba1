-- A page that arrives with bad lines (02 A13): what may stand in a line's place, the page then, and which of its rows must be read all the same, and clean.
use Rattle.std.specs.Prelude.{◌≡◌, ◌⊎◌, Bool, true, false, ◌&&◌, List, [], ◌∷◌, ◌++◌, ℕ, suc, ◌+◌, ◌*◌, ◌≤◌, leb, ltb, length, replicate}
use Rattle.std.proofs.Math.Option.{Option, none, some}
use Rattle.rules.specs.Lines.{Went, went, failed, one, read_line}
use Rattle.rules.specs.Eols.{zero_run}
use Rattle.rules.specs.Pages.{ascends}
use Rattle.rules.specs.Write.{line_bits, eol_bits}
use Rattle.rules.specs.WriteGroup3.{filled, CodedLine, framed}

-- ---- What may stand in a line's place

-- "at least one one": the first was found
abbrev pub found : Option ℕ → Bool
found none = false
found (some z) = true

-- "no run of eleven or more zeros before a one", where so many zeros were just seen
unfoldable pub no_eol : ℕ → List Bool → Bool
no_eol seen [] = true
no_eol seen (false ∷ bits) = no_eol (suc seen) bits
no_eol seen (true ∷ bits) = ltb seen 11 && no_eol 0 bits

-- "any others .. holding at least one one and no run of eleven or more zeros before a one"
abbrev pub stray : List Bool → Bool
stray bits = found (zero_run bits) && no_eol 0 bits

-- ---- The page as it arrives

-- a 1D line: a row's own code bits, or others
pub data Arrived : Type 0 where
  own : List ℕ → Arrived
  other : List Bool → Arrived

-- rows whose lines are all their own
unfoldable pub owns : List (List ℕ) → List Arrived
owns [] = []
owns (r ∷ rs) = own r ∷ owns rs

module _ (width : ℕ) where
  abbrev pub arrived_bits : Arrived → List Bool
  arrived_bits (own row) = line_bits width one row
  arrived_bits (other bits) = bits

  unfoldable pub arrived_lines : List Arrived → List CodedLine
  arrived_lines [] = []
  arrived_lines (l ∷ ls) = record { kind = one; bits = arrived_bits l } ∷ arrived_lines ls

  -- the page of these lines, by A3's writer with EOLs
  unfoldable pub arrived_page : ℕ → List Arrived → List Bool
  arrived_page fill ls = framed (filled fill) (arrived_lines ls)

  -- its bits up to the code bits of the line after these
  unfoldable pub up_to : ℕ → List Arrived → List Bool
  up_to fill [] = replicate fill false ++ eol_bits
  up_to fill (l ∷ ls) = (replicate fill false ++ eol_bits) ++ (arrived_bits l ++ up_to fill ls)

-- the rows were written, and the other bits may stand there
abbrev pub may_arrive : ℕ → Arrived → Bool
may_arrive width (own row) = ascends width row
may_arrive width (other bits) = stray bits

unfoldable pub may_all : ℕ → List Arrived → Bool
may_all width [] = true
may_all width (l ∷ ls) = may_arrive width l && may_all width ls

-- ---- With less fill

-- a line's reading ends no further than a bit, or it fails
abbrev pub ends_by : ℕ → Went → Bool
ends_by size (went l) = leb l.at size
ends_by size (failed n place l) = true

-- Read leniently, with the fill and the EOL that stand behind them, other bits end no further than the fill: so eleven zeros are left to
-- the EOL.
unfoldable pub stops_by : ℕ → ℕ → List Bool → Bool
stops_by width fill bits =
    ends_by (length bits + fill) (read_line (record { width = width; strict = false; exact = false; room = width }) one (bits ++ (replicate fill false ++ eol_bits)) 0)

-- no bad line goes further
unfoldable pub all_stop : ℕ → ℕ → List Arrived → Bool
all_stop width fill [] = true
all_stop width fill (own row ∷ ls) = all_stop width fill ls
all_stop width fill (other bits ∷ ls) = stops_by width fill bits && all_stop width fill ls

-- ---- What it costs

-- "the same number of rows, and every row but that one is unchanged"; an unchanged row is marked clean (A5). A bad line's row may be any, with any mark:
-- the other bits may be a row's own, or begin with it.
pub data Spared : List Arrived → List (List ℕ) → List ℕ → Type 0 where
  no_lines : Spared [] [] []
  unchanged : {row : List ℕ} {ls : List Arrived} {rows : List (List ℕ)} {marks : List ℕ} → Spared ls rows marks → Spared (own row ∷ ls) (row ∷ rows) (0 ∷ marks)
  any_row : {bits : List Bool} {row : List ℕ} {mark : ℕ} {ls : List Arrived} {rows : List (List ℕ)} {marks : List ℕ}
      → Spared ls rows marks → Spared (other bits ∷ ls) (row ∷ rows) (mark ∷ marks)

-- "room enough": the answer is neither 4 nor 5; or there is room for so many rows of full width, where it never is
abbrev pub RoomFor : ℕ → ℕ → ℕ → ℕ → ℕ → Type 0
RoomFor rows columns store places number = (number ≤ 3) ⊎ ((rows * columns ≤ store) × (rows ≤ places))

-- rows that were read clean
abbrev pub all_clean : List (List ℕ) → List ℕ
all_clean rows = replicate (length rows) 0

-- the rows first and last, all clean, and one between them
abbrev pub AllButOne : List (List ℕ) → List (List ℕ) → List (List ℕ) → List ℕ → Type 0
AllButOne first last rows marks = (x : List ℕ) × (m : ℕ) × (rows ≡ first ++ x ∷ last) × (marks ≡ all_clean first ++ m ∷ all_clean last)
