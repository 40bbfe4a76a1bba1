-- A Group 3 2D page that arrives with bad lines (02 A13, carried on to tag bits): what may stand in a line's place, the page then, and which of its rows must be read all the same, and clean.
-- A10's writer has no fill, so the page is told by its bits. The names are those of Damage.antt, with 2D behind them.
use Rattle.std.specs.Prelude.{Bool, true, false, ◌&&◌, List, [], ◌∷◌, ◌++◌, ℕ, replicate}
use Rattle.rules.specs.Lines.{Kind, one, two}
use Rattle.rules.specs.Eols.{zero_run}
use Rattle.rules.specs.Pages.{ascends}
use Rattle.rules.specs.Write.{line_bits, eol_bits}
use Rattle.rules.specs.WriteGroup3.{times}
use Rattle.rules.specs.Damage.{found, no_eol}

-- ---- The lines

-- a line as it arrives: whole, with its tag bit and its row; or bad, with the row that was sent, and another tag bit and other code bits, of which either may be its own
pub data Arrived2D : Type 0 where
  own_2d : Bool → List ℕ → Arrived2D
  other_2d : List ℕ → Bool → List Bool → Arrived2D

abbrev pub sent_row : Arrived2D → List ℕ
sent_row (own_2d tag row) = row
sent_row (other_2d row tag bits) = row

abbrev pub arrived_tag : Arrived2D → Bool
arrived_tag (own_2d tag row) = tag
arrived_tag (other_2d row tag bits) = tag

-- the kind that a tag bit says: 1 for a 1D line, 0 for a 2D line under the row before it (T.4 4.2.2)
abbrev pub kind_of : Bool → List ℕ → Kind
kind_of true above = one
kind_of false above = two above

module _ (width : ℕ) where
  abbrev pub arrived_bits_2d : List ℕ → Arrived2D → List Bool
  arrived_bits_2d above (own_2d tag row) = line_bits width (kind_of tag above) row
  arrived_bits_2d above (other_2d row tag bits) = bits

  -- ---- The page

  -- under the row that was sent last: fill, an EOL and a tag bit before each line, and at the end fill and RTC, "six times EOL and a one"
  unfoldable pub arrived_page_2d : ℕ → List ℕ → List Arrived2D → List Bool
  arrived_page_2d fill above [] = replicate fill false ++ times 6 (eol_bits ++ true ∷ [])
  arrived_page_2d fill above (l ∷ ls) = replicate fill false ++ (eol_bits ++ ((arrived_tag l ∷ arrived_bits_2d above l) ++ arrived_page_2d fill (sent_row l) ls))

-- Among the code bits there is "at least one one"; and "no run of eleven or more zeros before a one", the tag bit counted.
abbrev pub stray_2d : Bool → List Bool → Bool
stray_2d tag bits = found (zero_run bits) && no_eol 0 (tag ∷ bits)

-- the rows were sent, and the other bits may stand there
abbrev pub may_arrive_2d : ℕ → Arrived2D → Bool
may_arrive_2d width (own_2d tag row) = ascends width row
may_arrive_2d width (other_2d row tag bits) = ascends width row && stray_2d tag bits

unfoldable pub may_all_2d : ℕ → List Arrived2D → Bool
may_all_2d width [] = true
may_all_2d width (l ∷ ls) = may_arrive_2d width l && may_all_2d width ls

-- ---- What it costs

-- A bad line costs at most the rows to the next 1D line: as many rows as lines, and a whole line's row is unchanged, and clean, unless the line is 2D and one was bad since the last whole 1D line
-- (`lost`). Those rows may be any, with any marks.
pub data SparedTo1D : (lost : Bool) → List Arrived2D → List (List ℕ) → List ℕ → Type 0 where
  no_lines : {lost : Bool} → SparedTo1D lost [] [] []
  unchanged_1_d : {lost : Bool} {row : List ℕ} {ls : List Arrived2D} {rows : List (List ℕ)} {marks : List ℕ}
      → SparedTo1D false ls rows marks → SparedTo1D lost (own_2d true row ∷ ls) (row ∷ rows) (0 ∷ marks)
  unchanged_2_d : {row : List ℕ} {ls : List Arrived2D} {rows : List (List ℕ)} {marks : List ℕ}
      → SparedTo1D false ls rows marks → SparedTo1D false (own_2d false row ∷ ls) (row ∷ rows) (0 ∷ marks)
  under_lost : {row any : List ℕ} {mark : ℕ} {ls : List Arrived2D} {rows : List (List ℕ)} {marks : List ℕ}
      → SparedTo1D true ls rows marks → SparedTo1D true (own_2d false row ∷ ls) (any ∷ rows) (mark ∷ marks)
  bad_line : {lost tag : Bool} {row any : List ℕ} {bits : List Bool} {mark : ℕ} {ls : List Arrived2D} {rows : List (List ℕ)} {marks : List ℕ}
      → SparedTo1D true ls rows marks → SparedTo1D lost (other_2d row tag bits ∷ ls) (any ∷ rows) (mark ∷ marks)
