-- What the writers of Group 3 pages ask for and put.
use Rattle.std.specs.Prelude.{Bool, true, false, List, ◌++◌, ℕ, ◌≤◌}
use Rattle.rules.specs.Lines.{Kind, one, two}
use Rattle.rules.specs.Write.{line_bits, rows_in}
use Rattle.rules.specs.WriteGroup3 as Rule
use Rattle.rules.specs.WriteGroup3.{bare, filled, mixed, ahead, page3_bits}
use Rattle.writer.specs.declared.layout.Layout.{Layout}
use Rattle.writer.specs.declared.layout.Layout.TheVariants.{Bare, Filled, Mixed}

-- the layout that a value of the source stands for
abbrev pub layout_of : Layout → Rule.Layout
layout_of Bare = bare
layout_of (Filled fill) = filled fill
layout_of (Mixed k) = mixed k

-- the caller's number is one that is written with
abbrev pub Laid : Rule.Layout → Type 0
Laid bare = Unit {0}
Laid (filled fill) = fill ≤ 64
Laid (mixed k) = 1 ≤ k

-- a 1D line, or a 2D line under the row above
abbrev pub kind_from : Bool → List ℕ → Kind
kind_from true above = one
kind_from false above = two above

abbrev pub line_from : ℕ → Bool → List ℕ → List ℕ → List Bool
line_from width single above row = line_bits width (kind_from single above) row

-- a row: its line, and what stands before it
abbrev pub row3_of : Rule.Layout → ℕ → Bool → List ℕ → List ℕ → List Bool
row3_of layout width single above row = ahead layout (kind_from single above) ++ line_from width single above row

-- the bits of a page
abbrev pub page3_of : Rule.Layout → ℕ → List ℕ → List ℕ → List Bool
page3_of layout width changes ends = page3_bits width layout (rows_in 0 changes ends)
