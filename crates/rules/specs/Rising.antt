-- Rows of changes as 01 has them: they ascend strictly, and lie below the width.
use Rattle.std.specs.Prelude.{List, [], ◌∷◌, ℕ, suc, ◌≤◌, ◌<◌}

-- strictly ascending from `low` on, and below the width
pub data Rising (width : ℕ) : ℕ → List ℕ → Type 0 where
  none : {low : ℕ} → Rising width low []
  some : {low x : ℕ} {xs : List ℕ} → low ≤ x → x < width → Rising width (suc x) xs → Rising width low (x ∷ xs)

-- rows that rise below a width
pub data Rows (width : ℕ) : List (List ℕ) → Type 0 where
  no_rows : Rows width []
  row_then : {r : List ℕ} {rs : List (List ℕ)} → Rising width 0 r → Rows width rs → Rows width (r ∷ rs)
