-- How many codes a 2D line has (02, A12 and A9), counted along its own steps: mode codes, and what is counted for a run.
use Rattle.std.specs.Prelude.{◌≡◌, Bool, true, cond, List, ℕ, suc, ◌+◌, ◌-◌, ◌<◌, eqb, length}
use Rattle.rules.specs.Machine.{costs}
use Rattle.rules.specs.Codes.{Colour, black}
use Rattle.rules.specs.Runs.{Res, ok, fault}
use Rattle.rules.specs.Modes.{Mode, pass, horizontal, VR, VL, Moded, read_mode}
use Rattle.rules.specs.Lines.{Rules, Line, new_line, moved_to, Went, went, failed, push_run, at_the_first, code_2d, line_step}

-- `ofRun` is what is counted for the run of a colour that begins at a bit
module _ (ofRun : Colour → ℕ → ℕ) (R : Rules) (bs : List Bool) where
  -- the second run of a horizontal code is read where the first one went well
  abbrev pub of_second : Went → ℕ
  of_second (went s) = ofRun s.colour s.at
  of_second (failed n place s) = 0

  -- what a mode has behind its own code: two runs, or nothing
  abbrev pub behind_mode : Mode → Line → ℕ
  behind_mode pass s = 0
  behind_mode horizontal s = ofRun s.colour s.at + of_second (push_run R bs s)
  behind_mode (VR k) s = 0
  behind_mode (VL k) s = 0

  abbrev pub behind_code : Line → Res Moded → ℕ
  behind_code s (ok m) = behind_mode m.mode (moved_to m.at s)
  behind_code s (fault n place) = 0

  -- a mode code, one that fails too, and what it has behind it; at its width a line reads none
  unfoldable pub of_code : Line → ℕ
  of_code s = cond (eqb s.position R.width) 0 (suc (behind_code s (read_mode bs s.at)))

  -- all of them, from where a line stands to its end
  unfoldable pub of_line : List ℕ → Line → ℕ
  of_line reference s = costs of_code (line_step R.width (code_2d R reference bs)) (λ t. length bs - t.at) s

-- the mode codes of the line that begins at a bit
abbrev pub mode_codes : Rules → List ℕ → List Bool → ℕ → ℕ
mode_codes R reference bs at = of_line (λ colour a. 0) R bs reference (new_line at)

-- its codes besides make-ups: with each run the one code that ends it, or at which it fails
abbrev pub codes_but_makeups : Rules → List ℕ → List Bool → ℕ → ℕ
codes_but_makeups R reference bs at = of_line (λ colour a. 1) R bs reference (new_line at)

-- the modes that go to a1 beside b1: V0, VR and VL
pub data Vertical : Mode → Type 0 where
  right : (k : ℕ) → Vertical (VR k)
  left : (k : ℕ) → Vertical (VL k)

-- The code that took the line s to t moved on; or it is a vertical move of the line's first code to 0, and turns to black.
pub data MovesOn (bs : List Bool) (s t : Line) : Type 0 where
  further : s.position < t.position → MovesOn bs s t
  to_0 : (m : Moded) → read_mode bs s.at ≡ ok m → Vertical m.mode → at_the_first s ≡ true → t.position ≡ 0 → t.colour ≡ black → MovesOn bs s t
