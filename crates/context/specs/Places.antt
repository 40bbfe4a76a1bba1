-- Where b1 lies in a reference: its place, and what a search for it relies on and comes to.
use Rattle.std.specs.Prelude.{◌≡◌, Bool, true, false, List, ℕ, suc, ◌+◌, ◌-◌, ◌%◌, ◌≤◌, ◌<◌, max, length, get_or, drop}
use Rattle.rules.specs.Lines.{right_of_a0, head_or}
use Rattle.rules.specs.Rising.{Rising}

-- each change that lies two places or more before a place is left of `least`
abbrev pub Left : List ℕ → ℕ → ℕ → Type 0
Left reference least place = (j : ℕ) → suc (suc j) ≤ place → j < length reference → get_or reference j 0 < least

-- and the change at it is not: so it is b1's, for the colour of its parity. (The change right before it turns to the colour itself.)
pub record Seen (reference : List ℕ) (least place : ℕ) : Type 0 where
  pub left : Left reference least place
  pub right : place < length reference → least ≤ get_or reference place 0

-- what a search from a place on relies on, in a reference that rises below some width
pub record Onward (reference : List ℕ) (from position : ℕ) : Type 0 where
  pub width : ℕ
  pub rising : Rising width 0 reference
  pub left : Left reference (position + 1) from

-- what it comes to
pub record Reached (reference : List ℕ) (least from r : ℕ) : Type 0 where
  pub seen : Seen reference least r
  pub parity : r % 2 ≡ from % 2
  pub near : r ≤ max from (suc (length reference))

-- what the search behind a vertical code relies on: a1 lies no more than `d` pixels left of b1, and right of what lies left of the line
pub record Turning (reference : List ℕ) (place d a1 : ℕ) : Type 0 where
  pub width : ℕ
  pub rising : Rising width 0 reference
  pub left : Left reference (a1 + 1) place
  pub close : head_or width (drop place reference) ≤ a1 + d
  pub few : d ≤ 3
  pub low : place < 9223372036854775808

-- whether the change before b1 lies right of a1
abbrev pub Back : List ℕ → ℕ → ℕ → Bool → Type 0
Back reference place a1 true = (0 < place) × (place ≤ length reference) × (a1 < get_or reference (place - 1) 0)
Back reference place a1 false = (j : ℕ) → suc j ≡ place → j < length reference → get_or reference j 0 < a1 + 1

-- the place of b1 that a search finds
pub record B1At (reference : List ℕ) (position colour r : ℕ) : Type 0 where
  pub seen : Seen reference (right_of_a0 position) r
  pub parity : r % 2 ≡ colour
  pub near : r ≤ suc (length reference)
