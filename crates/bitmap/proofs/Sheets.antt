-- Small bitmaps, computed: two rows of ten pixels, black 1 and black 0, with a byte between them; read back, also with other bits behind the width; and each
-- refusal. Assumes nothing.
use mathlib.Core.Path.{◌≡◌, refl}
use mathlib.Core.Bool.{true, false}
use mathlib.Core.List.{List, [], ◌∷◌}
use Prim.Native.Nat.{ℕ}
use Rattle.rules.specs.Bits.{bit}
use Rattle.rules.specs.Pages.{Answer, ascends_from, entries}
use Rattle.rules.specs.Pixels.{colour_at, changing}
use Rattle.rules.specs.Write.{rows_in, ends_rise, all_ascend}
use Rattle.bitmap.specs.Packed.{packed, bytes_from, padded, row_bytes, laid, painted_from, pixels_at, turns_from, rows_at, paint, unpaint}

-- black from 2 to 5 and from 8 on; and all black
abbrev changes : List ℕ
changes = 2 ∷ 5 ∷ 8 ∷ 0 ∷ []

abbrev ends : List ℕ
ends = 3 ∷ 4 ∷ []

-- a byte between the rows, and one behind them
abbrev before : List ℕ
before = 170 ∷ 170 ∷ 170 ∷ 170 ∷ 170 ∷ 170 ∷ []

pub black-is-1 : paint true 10 3 changes ends before ≡ record { number = 0; end = 5; bytes = 56 ∷ 192 ∷ 170 ∷ 255 ∷ 192 ∷ 170 ∷ [] }
unfolding paint painted_from laid row_bytes bytes_from packed padded colour_at rows_in ends_rise all_ascend ascends_from
black-is-1 = refl

pub black-is-0 : paint false 10 3 changes ends before ≡ record { number = 0; end = 5; bytes = 199 ∷ 63 ∷ 170 ∷ 0 ∷ 63 ∷ 170 ∷ [] }
unfolding paint painted_from laid row_bytes bytes_from packed padded colour_at rows_in ends_rise all_ascend ascends_from
black-is-0 = refl

abbrev read : List (List ℕ) → Answer
read rows = record { number = 0; place = 0; bytes = 5; rows = rows; marks = []; loose = [] }

abbrev rows : List (List ℕ)
rows = (2 ∷ 5 ∷ 8 ∷ []) ∷ (0 ∷ []) ∷ []

pub read-1 : unpaint true 10 3 2 (56 ∷ 192 ∷ 170 ∷ 255 ∷ 192 ∷ 170 ∷ []) 4 2 ≡ read rows
unfolding unpaint rows_at turns_from changing pixels_at bit entries
read-1 = refl

-- the bits behind the width are others here
pub read-0 : unpaint false 10 3 2 (199 ∷ 0 ∷ 170 ∷ 0 ∷ 21 ∷ 170 ∷ []) 4 2 ≡ read rows
unfolding unpaint rows_at turns_from changing pixels_at bit entries
read-0 = refl

-- 6, 10, 9 and 8, in this order; and 5 before 4
pub refusals :
    ((paint true 0 0 (1 ∷ 0 ∷ []) (2 ∷ []) []).number ≡ 6) × ((paint true 10 1 (1 ∷ 0 ∷ []) (2 ∷ []) []).number ≡ 10)
    × ((paint true 10 2 (1 ∷ 0 ∷ []) (2 ∷ []) (0 ∷ [])).number ≡ 9) × ((paint true 10 2 (1 ∷ 0 ∷ []) (2 ∷ []) (0 ∷ 0 ∷ [])).number ≡ 8)
    × ((unpaint true 8 1 2 (1 ∷ 1 ∷ []) 0 1).number ≡ 5) × ((unpaint true 8 1 2 (1 ∷ 1 ∷ []) 1 2).number ≡ 4)
unfolding paint unpaint rows_in ends_rise all_ascend ascends_from rows_at turns_from changing pixels_at bit entries
refusals = (refl, refl, refl, refl, refl, refl)
