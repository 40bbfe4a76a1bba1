-- What the answer of the mode reader means.
use Rattle.std.specs.Prelude.{suc, ℕ, ℤ, pos, negsuc, Result, Ok, Err}
use Rattle.rules.specs.Runs.{Res, ok, fault}
use Rattle.rules.specs.Modes as Rule
use Rattle.rules.specs.Modes.{pass, horizontal, VR, VL, Moded, moded}
use Rattle.answer.specs.Answer.{number_of}
use Rattle.codes.specs.declared.fault.Fault.{Fault}
use Rattle.codes.specs.declared.mode.Mode.{Mode}
use Rattle.codes.specs.declared.mode.Mode.TheVariants.{Pass, Horizontal, Vertical}

-- "A vertical offset is signed": to the right, or to the left, of b1
abbrev pub offset_mode : ℤ → Rule.Mode
offset_mode (pos k) = VR k
offset_mode (negsuc k) = VL (suc k)

abbrev pub kind_of : Mode → Rule.Mode
kind_of Pass = pass
kind_of Horizontal = horizontal
kind_of (Vertical offset) = offset_mode offset

-- a mode that was read, or the bit at which its failing code began
abbrev pub mode_of : Result (Mode × ℕ) Fault → Res Moded
mode_of (Ok r) = ok (moded r.1 (kind_of r.0))
mode_of (Err e) = fault (number_of e.error) e.at
