-- A vertical mode as a signed number, and the move that it makes.
use Rattle.std.specs.Prelude.{cond, ◌&&◌, ℕ, ◌+◌, ◌-◌, ◌≤◌, leb, ℤ, pos, negsuc, Option, Some, None}
use Rattle.rules.specs.Modes.{Mode, pass, horizontal, VR, VL}

-- from minus three to three
abbrev pub Offset : ℤ → Type 0
Offset (pos k) = k ≤ 3
Offset (negsuc k) = k ≤ 2

-- to a1: "a1 below 0, above 4,294,967,295, or left of the position is 3"
abbrev pub move_to : ℕ → ℕ → Option ℕ
move_to position a1 = cond (leb a1 4294967295 && leb position a1) (Some (a1 - position)) None

-- the move of a vertical mode; the other modes make none
unfoldable pub move_by : ℕ → Mode → ℕ → Option ℕ
move_by b1 pass position = None
move_by b1 horizontal position = None
move_by b1 (VR k) position = move_to position (b1 + k)
move_by b1 (VL k) position = cond (leb k b1) (move_to position (b1 - k)) None
