-- The swift codes of a 2D line under the row before it, counted in units (02, A9): where the line stands behind some of them, and which units of the rules they are.
use Rattle.std.specs.Prelude.{◌≡◌, Bool, List, [], ℕ, ◌-◌, ◌≤◌, ◌<◌, take, drop, Option, Some, None}
use Rattle.rules.specs.Machine.{Out, and_then, run, onward, spent}
use Rattle.rules.specs.Bits.{bits_of}
use Rattle.rules.specs.Runs.{ok}
use Rattle.rules.specs.Modes.{Mode, moded, read_mode}
use Rattle.rules.specs.Lines.{Line}
use Rattle.rules.specs.Rows.{Settings}
use Rattle.rules.specs.Pages.{Answer}
use Rattle.rules.specs.Rising.{Rising}
use Rattle.rules.specs.Units.{each, in_line, Keeping, Going, going, settle, unit}
use Rattle.bit_reader.specs.Loaded.{Ahead}
use Rattle.context.specs.declared.reference.Reference.TheVariants.{Kept}
use Rattle.context.specs.Coding.{reference_in}
use Rattle.swift_loops.specs.declared.fast_2d.BetweenCodes.{BetweenCodes}
use Rattle.swift_loops.specs.Swift.{standing, Walked, room_in}
use Rattle.swift_units.specs.declared.UnitsLeft.{UnitsLeft}

-- ---- Units of the rules

module _ (S : Settings) (bs : List Bool) (store places : ℕ) where
  -- so many units lead from one outcome to another, and none of them is taken from an end
  abbrev pub Leads : Out Going Answer → ℕ → Out Going Answer → Type 0
  Leads o n p = (and_then o (run (unit S bs store places) n) ≡ p) × (onward o (spent each (unit S bs store places) n) ≡ n)

  -- a page that stands in a line; what can be closed is closed
  abbrev pub line_in : Keeping → Line → Out Going Answer
  line_in k l = settle S bs store places (going k (in_line l))

-- ---- What n units make of a stand

-- Codes took the line from a stand to another. Of any page that reads this line under this reference in this room they are n units; the line went on to the
-- right, its changes stayed where its position did, and they rise.
pub record Counted (reference : List ℕ) (bs : List Bool) (base room width : ℕ) (xs : List ℕ) (s : BetweenCodes) (n : ℕ) (ys : List ℕ)
    (t : BetweenCodes) : Type 0 where
  pub walked : Walked reference bs base room width xs s ys t
  pub further : s.position ≤ t.position
  pub still : t.position ≡ s.position → take t.count (drop base ys) ≡ take s.count (drop base xs)
  pub rises : Rising s.position 0 (take s.count (drop base xs)) → Rising t.position 0 (take t.count (drop base ys))
  pub leads : (S : Settings) (store places : ℕ) (k : Keeping) (cut : Bool) → S.columns ≡ width → k.reference ≡ reference → store - k.base ≡ room
      → Leads S bs store places (line_in S bs store places k (standing (drop base xs) cut s)) n (line_in S bs store places k (standing (drop base ys) cut t))

-- the same in data whose bits these are, under the row before the line in its own array
abbrev pub CountedIn : List ℕ → ℕ → List ℕ → ℕ → ℕ → BetweenCodes → ℕ → List ℕ → BetweenCodes → Type 0
CountedIn bytes start xs base width s n ys t = Counted (reference_in (Kept start) base [] xs) (bits_of bytes) base (room_in base xs) width xs s n ys t

-- ---- What is left of a number of units

-- units were taken, and the others are left; where none was, the array is as it was
abbrev pub Spent : List ℕ → ℕ → List ℕ → ℕ → ℕ → BetweenCodes → ℕ → UnitsLeft → List ℕ → Type 0
Spent bytes start xs base width s left u ys = CountedIn bytes start xs base width s (left - u.left) ys u.stand × (u.left ≤ left) × (u.left ≡ left → ys ≡ xs)

-- a code took one at least; one that is another leaves the array
abbrev pub Counts : List ℕ → ℕ → List ℕ → ℕ → ℕ → BetweenCodes → ℕ → Option UnitsLeft → List ℕ → Type 0
Counts bytes start xs base width s left (Some u) ys = Spent bytes start xs base width s left u ys × (u.left < left)
Counts bytes start xs base width s left None ys = ys ≡ xs

-- in any data that has a mode's code at the stand, up to a bit
abbrev pub CountsMode : ℕ → List ℕ → ℕ → ℕ → BetweenCodes → ℕ → ℕ → Mode → Option UnitsLeft → List ℕ → Type 0
CountsMode start xs base width s left next mode r ys =
    (bytes : List ℕ) → read_mode (bits_of bytes) s.at ≡ ok (moded next mode) → Counts bytes start xs base width s left r ys

-- in any data that has these bits at the stand, 57 of them at least
abbrev pub CountsAhead : ℕ → List ℕ → ℕ → ℕ → BetweenCodes → ℕ → ℕ → Option UnitsLeft → List ℕ → Type 0
CountsAhead start xs base width s left bits r ys =
    (bytes : List ℕ) (live : ℕ) → Ahead bytes s.at live bits → 57 ≤ live → Counts bytes start xs base width s left r ys

-- and where they begin with a mode
abbrev pub CountsBits : ℕ → List ℕ → ℕ → ℕ → BetweenCodes → ℕ → ℕ → ℕ → Mode → Option UnitsLeft → List ℕ → Type 0
CountsBits start xs base width s left bits next mode r ys =
    (bytes : List ℕ) (live : ℕ) → Ahead bytes s.at live bits → 57 ≤ live → read_mode (bits_of bytes) s.at ≡ ok (moded next mode)
    → Counts bytes start xs base width s left r ys

-- V0 codes, as many as the bits begin with: each is a unit, and notes a change, up to so many changes
pub record CountedEach (start : ℕ) (xs : List ℕ) (base width : ℕ) (s : BetweenCodes) (bits most : ℕ) (t : BetweenCodes) (ys : List ℕ) : Type 0 where
  pub longer : s.count ≤ t.count
  pub few : t.count ≤ most
  pub counted : (bytes : List ℕ) (live : ℕ) → Ahead bytes s.at live bits → CountedIn bytes start xs base width s (t.count - s.count) ys t
