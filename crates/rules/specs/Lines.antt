-- One line: its state, what one code does to it, and its steps to the width; 1D and 2D, strict and lenient
-- (T.4 4.1.1 and 4.2.1.3, T.6 2.2, 01 "One line"; context.rs).
use Rattle.std.specs.Prelude.{Bool, true, false, cond, not, ◌&&◌, List, [], ◌∷◌, ◌++◌, ℕ, zero, suc, ◌+◌, ◌-◌, eqb, leb, length}
use Rattle.rules.specs.Answers.{invalid_code, overflow, no_entry, most_pixels}
use Rattle.rules.specs.Machine.{Out, more, done, ends}
use Rattle.rules.specs.Codes.{Colour, white, black, opposite, differ}
use Rattle.rules.specs.Runs.{Res, ok, fault, unreachable, Sum, read_run}
use Rattle.rules.specs.Modes.{Mode, pass, horizontal, VR, VL, Moded, read_mode}

-- what holds for a line: its width, how strictly it is read (exact, of A12, comes with strict alone), and how many changes there is room for
pub record Rules : Type 0 where
  pub width : ℕ
  pub strict : Bool
  pub exact : Bool
  pub room : ℕ

-- The next bit; the position, which starts at 0; the colour of the next run, white at the start; the changes recorded, those at even places
-- to black and those at odd places to white; whether a lenient count was cut to the width.
pub record Line : Type 0 where
  pub at : ℕ
  pub position : ℕ
  pub colour : Colour
  pub changes : List ℕ
  pub cut : Bool

abbrev pub line : ℕ → ℕ → Colour → List ℕ → Bool → Line
line a p c xs t = record { at = a; position = p; colour = c; changes = xs; cut = t }

abbrev pub new_line : ℕ → Line
new_line at = line at 0 white [] false

abbrev pub turned : Line → Line
turned s = line s.at s.position (opposite s.colour) s.changes s.cut

abbrev pub moved_to : ℕ → Line → Line
moved_to at s = line at s.position s.colour s.changes s.cut

abbrev pub with_cut : Line → Line
with_cut s = line s.at s.position s.colour s.changes true

-- what a code does: the line goes on; or it fails, with a number of 01's list, the bit at fault (0 for 4), and the line so far
pub data Went : Type 0 where
  went : Line → Went
  failed : ℕ → ℕ → Line → Went

-- the line that a code leaves, whole or not
abbrev pub line_in : Went → Line
line_in (went s) = s
line_in (failed n place s) = s

abbrev pub next : Went → (Line → Went) → Went
next (went s) then = then s
next (failed n place s) then = failed n place s

-- ---- Pixels of one colour (`push_pixels`)

-- the colour of the last pixel of a row with these changes
unfoldable pub last_colour : List ℕ → Colour
last_colour [] = white
last_colour (x ∷ xs) = opposite (last_colour xs)

-- "A change is recorded where a positive count's colour differs from the last."
unfoldable pub recorded : Line → List ℕ
recorded s = cond (differ (last_colour s.changes) s.colour) (s.changes ++ s.position ∷ []) s.changes

-- A count that fits the line. "A zero count records nothing"; a change for which there is no room is 4.
unfoldable pub add : Rules → ℕ → Line → Went
add R count s =
    cond (eqb count 0)
    (went s)
    (cond (leb (length (recorded s)) R.room)
    (went (line s.at (s.position + count) s.colour (recorded s) s.cut))
    (failed no_entry 0 s))

-- "Too many pixels: strict answers 1; lenient cuts to the width." `place` is the bit at fault.
unfoldable pub push : Rules → ℕ → ℕ → Line → Went
push R place count s =
    cond (leb count (R.width - s.position))
    (add R count s)
    (cond R.strict (failed invalid_code place s) (add R (R.width - s.position) (with_cut s)))

abbrev pub push_turn : Rules → ℕ → ℕ → Line → Went
push_turn R place count s = next (push R place count s) λ t. went (turned t)

-- a run that was read from the line's bit on: pushed, and the colour turned
abbrev pub after_run : Rules → Line → Res Sum → Went
after_run R s (ok r) = push_turn R s.at r.total (moved_to r.at s)
after_run R s (fault n place) = failed n place s

unfoldable pub push_run : Rules → List Bool → Line → Went
push_run R bs s = after_run R s (read_run s.colour bs s.at)

-- ---- b1 and b2 on the reference's changes (`update_b`)

-- where b1 may begin: "a0 lies before the line while the position is 0, else at the position"
unfoldable pub right_of_a0 : ℕ → ℕ
right_of_a0 zero = 0
right_of_a0 (suc p) = suc (suc p)

-- The changes from b1 on: "the first reference change right of a0 of opposite colour to the current one". `turns` is the colour to
-- which the first change of the list turns.
unfoldable pub from_b1 : Colour → ℕ → Colour → List ℕ → List ℕ
from_b1 colour least turns [] = []
from_b1 colour least turns (x ∷ xs) =
    elim (leb least x && differ turns colour) [ true ↦ x ∷ xs | false ↦ from_b1 colour least (opposite turns) xs ]

-- the first change of a list: "Either is the width if absent."
abbrev pub head_or : ℕ → List ℕ → ℕ
head_or width [] = width
head_or width (x ∷ xs) = x

abbrev pub tail : List ℕ → List ℕ
tail [] = []
tail (x ∷ xs) = xs

module _ (width : ℕ) (reference : List ℕ) where
  abbrev pub b1 : ℕ → Colour → ℕ
  b1 position colour = head_or width (from_b1 colour (right_of_a0 position) black reference)

  -- "b2 the change after b1"
  abbrev pub b2 : ℕ → Colour → ℕ
  b2 position colour = head_or width (tail (from_b1 colour (right_of_a0 position) black reference))

-- ---- Idle codes (A12)

-- the code that took the line s to t left the position where it was
abbrev pub unmoved : Line → Line → Bool
unmoved s t = eqb t.position s.position

-- The line's first code is read at position 0 in white. In an exact line no later one is (proofs/Counts.antt, `first-once`).
abbrev pub at_the_first : Line → Bool
at_the_first s = eqb s.position 0 && differ black s.colour

-- "a vertical move to the very position it starts from, other than the line's first code moving to 0", and "a horizontal code with two zero runs", each seen from
-- what it made of the line
abbrev pub idle : Mode → Line → Line → Bool
idle pass s t = false
idle horizontal s t = unmoved s t
idle (VR k) s t = unmoved s t && not (at_the_first s)
idle (VL k) s t = unmoved s t && not (at_the_first s)

-- "Where it is set", such a code "answers 1" and points "at the mode code", where the line s stands. A fault that was found in the code came first.
abbrev pub unless_idle : Rules → Mode → Line → Went → Went
unless_idle R mode s (went t) = cond (R.exact && idle mode s t) (failed invalid_code s.at s) (went t)
unless_idle R mode s (failed n place t) = failed n place t

-- ---- The codes of a 2D line (T.4 4.2.1.3.2, T.6 2.2.3)

module _ (R : Rules) (reference : List ℕ) where
  -- vertical: to a1. "a1 below 0, above 4,294,967,295, or left of the position is 3."
  unfoldable pub vertical : ℕ → ℕ → Line → Went
  vertical place a1 s = cond (leb a1 most_pixels && leb s.position a1) (push_turn R place (a1 - s.position) s) (failed overflow place s)

  -- what a mode, whose code began at `place`, does to the line that stands after it
  unfoldable pub apply : List Bool → ℕ → Mode → Line → Went
  -- "Pass: to b2, colour kept."
  apply bs place pass s = push R place (b2 R.width reference s.position s.colour - s.position) s
  -- "Horizontal: two runs, current colour then opposite. The second is read even when the first fills the line."
  apply bs place horizontal s = next (push_run R bs s) (push_run R bs)
  -- "A vertical offset is signed, from minus three to three: a1 is b1 plus the offset."
  apply bs place (VR k) s = vertical place (b1 R.width reference s.position s.colour + k) s
  apply bs place (VL k) s =
      cond (leb k (b1 R.width reference s.position s.colour))
      (vertical place (b1 R.width reference s.position s.colour - k) s)
      (failed overflow place s)

  abbrev pub after_mode : List Bool → Line → Res Moded → Went
  after_mode bs s (ok m) = unless_idle R m.mode s (apply bs s.at m.mode (moved_to m.at s))
  after_mode bs s (fault n place) = failed n place s

  unfoldable pub code_2d : List Bool → Line → Went
  code_2d bs s = after_mode bs s (read_mode bs s.at)

-- ---- A line, to its width

-- the kinds of line: 1D; 2D under a reference
pub data Kind : Type 0 where
  one : Kind
  two : List ℕ → Kind

-- what one code of a line does. "A 1D line alternates runs from white."
abbrev pub code_of : Rules → Kind → List Bool → Line → Went
code_of R one bs = push_run R bs
code_of R (two reference) bs = code_2d R reference bs

abbrev pub go_on : Went → Out Line Went
go_on (went s) = more s
go_on (failed n place s) = done (failed n place s)

abbrev pub line_of : Out Line Went → Went
line_of (more s) = failed unreachable 0 s
line_of (done r) = r

-- over what one code does
module _ (width : ℕ) (code : Line → Went) where
  unfoldable pub line_step : Line → Out Line Went
  line_step s = cond (eqb s.position width) (done (went s)) (go_on (code s))

  -- each code takes a bit at least, so what falls is the bits left
  unfoldable pub line_end : List Bool → Line → Went
  line_end bs s = line_of (ends line_step (λ t. length bs - t.at) s)

-- the line of a kind that begins at a bit
unfoldable pub read_line : Rules → Kind → List Bool → ℕ → Went
read_line R kind bs at = line_end R.width (code_of R kind bs) bs (new_line at)
