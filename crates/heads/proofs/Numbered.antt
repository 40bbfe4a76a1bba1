-- The form in eighty numbers. Assumes nothing.
use mathlib.Core.Path.{◌≡◌, refl, ap, ◌∙◌}
use mathlib.Core.List.{List, []}
use Prim.Native.Nat.{ℕ, zero, suc, ◌+◌, ◌<◌}
use native.Mathlib.Omega.{arith}
use lib.ListN.{length, get_or}
use Rattle.heads.specs.Numbers.{boxes_of, form_from, form_in}

from-long : (numbers : List ℕ) (n digit : ℕ) → length (form_from numbers n digit) ≡ n
unfolding form_from
from-long numbers zero digit = refl
from-long numbers (suc n) digit = ap suc (from-long numbers n (suc digit))

from_row : (numbers : List ℕ) (n digit k : ℕ) → k < n → get_or (form_from numbers n digit) k [] ≡ boxes_of numbers (digit + k)
unfolding form_from
from_row numbers zero digit k h = absurd (omega arith)
from_row numbers (suc n) digit zero h = ap (boxes_of numbers) (let e : digit ≡ digit + 0 = omega arith in e)
from_row numbers (suc n) digit (suc k) h = from_row numbers n (suc digit) k (omega arith) ∙ ap (boxes_of numbers) (let e : suc digit + k ≡ digit + suc k = omega arith in e)

-- ten rows, each its digit's
pub form-long : (numbers : List ℕ) → length (form_in numbers) ≡ 10
form-long numbers = from-long numbers 10 0

pub form-at : (numbers : List ℕ) (k : ℕ) → k < 10 → get_or (form_in numbers) k [] ≡ boxes_of numbers k
form-at numbers k h = from_row numbers 10 0 k h ∙ ap (boxes_of numbers) (let e : 0 + k ≡ k = omega arith in e)
