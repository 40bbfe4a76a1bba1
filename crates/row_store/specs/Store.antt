-- Test 8 of a store of rows (01): "a row .. isn't strictly ascending below the width, or row ends fall or pass the array".
use Rattle.std.specs.Prelude.{Bool, ◌&&◌, List, ℕ, length}
use Rattle.rules.specs.Write.{rows_in, ends_rise, all_ascend}

-- from the row that begins at `base` on: no end falls or passes the array, and each row ascends strictly below the width
abbrev pub good_rows : ℕ → List ℕ → ℕ → List ℕ → Bool
good_rows width changes base ends = ends_rise (length changes) base ends && all_ascend width (rows_in base changes ends)
