-- What Group 3 pages are held against: the layout and the kinds of lines that are found in the data.
use Rattle.std.specs.Prelude.{Bool, true, false, cond, ◌||◌, List, [], ℕ, ◌+◌, ◌-◌, eqb, ltb}
use Rattle.rules.specs.Bits.{bits_of}
use Rattle.rules.specs.Pages.{no_line, most_bytes}
use Rattle.rules.specs.Write.{rows_in}
use Rattle.rules.specs.WriteGroup3 as Rule
use Rattle.rules.specs.WriteGroup3.{bare, filled, mixed, some_good}
use Rattle.rules.specs.Proper.{most_k, tags_along, k_by}
use Rattle.writer.specs.declared.kinds.Turned.{Turned}
use Rattle.writer.specs.Paging3.{page3_of}

-- 6, 7 and 8 in this order; 0 where all are passed
abbrev pub all_tests : ℕ → List ℕ → List ℕ → ℕ → ℕ
all_tests columns changes ends bytes = cond (no_line columns) 6 (cond (ltb most_bytes bytes) 7 (cond (some_good columns changes ends) 0 8))

-- of 1D and 2D lines, K is found in the tag bits
abbrev pub found_in : Rule.Layout → ℕ → List Bool → List (List ℕ) → Rule.Layout
found_in bare width bits rows = bare
found_in (filled fill) width bits rows = filled fill
found_in (mixed k) width bits rows = mixed (k_by (tags_along width bits [] rows))

-- the page that is held against, by what stands between its lines
abbrev pub found_page : Rule.Layout → ℕ → List ℕ → List ℕ → List ℕ → List Bool
found_page layout width changes ends bytes = page3_of (found_in layout width (bits_of bytes) (rows_in 0 changes ends)) width changes ends

-- ---- Kinds of lines

-- K, or 0 where it is still to be found
abbrev pub every_of : Rule.Layout → ℕ
every_of bare = 1
every_of (filled fill) = 1
every_of (mixed k) = 0

-- a line, before which `lines` came, where K is still to be found: the first is 1D; the next that is 1D, by its tag bit or since no K is
-- larger, gives K
abbrev pub open_turn : Bool → ℕ → Turned
open_turn tag lines =
    cond (eqb lines 0) (record { single = true; every = 0; left = 1 })
    (cond (tag || eqb lines most_k) (record { single = true; every = lines; left = lines - 1 }) (record { single = false; every = 0; left = lines + 1 }))

-- a line, where K is known, and so many 2D lines may come before the next 1D line
abbrev pub known_turn : ℕ → ℕ → Turned
known_turn every left =
    cond (eqb left 0) (record { single = true; every = every; left = every - 1 }) (record { single = false; every = every; left = left - 1 })

abbrev pub turn_of : Bool → ℕ → ℕ → Turned
turn_of tag every left = cond (eqb every 0) (open_turn tag left) (known_turn every left)
