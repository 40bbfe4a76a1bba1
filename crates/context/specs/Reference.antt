-- A search on the reference's changes: what it may rely on, and what it finds.
use Rattle.std.specs.Prelude.{◌≡◌, cond, List, ℕ, ◌+◌, ◌%◌, ◌≤◌, ◌<◌, eqb, length, get_or}
use Rattle.rules.specs.Codes.{Colour, white, black, differ}
use Rattle.rules.specs.Lines.{right_of_a0, b1, b2}
use Rattle.rules.specs.Rising.{Rising}
use Rattle.context.specs.declared.reference.FoundChanges.{FoundChanges}

-- each change before the place `seen` lies left of `least`
pub record Passed (least seen : ℕ) (reference : List ℕ) : Type 0 where
  pub inside : seen ≤ length reference
  pub each : (i : ℕ) → i < seen → get_or reference i 0 < least

-- and the change at it does not
pub record Stopped (least seen : ℕ) (reference : List ℕ) : Type 0 where
  pub passed : Passed least seen reference
  pub stops : seen < length reference → least ≤ get_or reference seen 0

-- "Changes at even places turn black, at odd places white."
unfoldable pub turns_at : ℕ → Colour
turns_at place = cond (eqb (place % 2) 0) black white

-- b1's place, where the first change right of a0 is at `seen`: there, or the next where that one turns to the colour itself
abbrev pub b1_place : ℕ → Colour → ℕ
b1_place seen colour = cond (differ (turns_at seen) colour) seen (seen + 1)

-- what a search relies on
pub record Searches (reference : List ℕ) (seen width position colour : ℕ) : Type 0 where
  pub rising : Rising width 0 reference
  pub passed : Passed (right_of_a0 position) seen reference
  pub narrow : position < 4294967295
  pub two_colours : colour ≤ 1

-- what it finds
pub record Finds (reference : List ℕ) (width position : ℕ) (colour : Colour) (r : FoundChanges) : Type 0 where
  pub b1-is : r.b1 ≡ b1 width reference position colour
  pub b2-is : r.b2 ≡ b2 width reference position colour
  pub passed : Passed (right_of_a0 position) r.seen reference
