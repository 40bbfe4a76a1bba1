-- The swift units of a line: what they ask, and where they take it.
use Rattle.std.specs.Prelude.{◌≡◌, List, [], ℕ, ◌%◌, drop}
use Rattle.rules.specs.Lines.{right_of_a0}
use Rattle.rules.specs.Rising.{Rising}
use Rattle.bit_reader.specs.Loaded.{Loading}
use Rattle.context.specs.declared.line.Line.{Line}
use Rattle.context.specs.declared.reference.Reference.TheVariants.{Kept}
use Rattle.context.specs.State.{Holds}
use Rattle.context.specs.Coding.{reference_in, Placed}
use Rattle.context.specs.Reference.{Passed}
use Rattle.swift_loops.specs.declared.fast_2d.BetweenCodes.{BetweenCodes}
use Rattle.swift_units.specs.declared.UnitsLeft.{UnitsLeft}
use Rattle.swift_units.specs.Counted.{Spent}

-- a line under the row before it, whose next code begins at a bit
pub record SwiftFrom (bytes xs : List ℕ) (start base : ℕ) (l : Line) (at seen : ℕ) : Type 0 where
  pub loading : Loading bytes at
  pub placed : Placed (Kept start) base xs
  pub rising : Rising l.width 0 (reference_in (Kept start) base [] xs)
  pub holds : Holds (drop base xs) l
  pub passed : Passed (right_of_a0 l.position) seen (reference_in (Kept start) base [] xs)

-- where it stands, once b1's place is known
abbrev pub stand_at : Line → ℕ → ℕ → BetweenCodes
stand_at l at place = record { at = at; position = l.position; count = l.changes; place = place }

-- units of it were taken from there, and the others are left
pub record SwiftTook (bytes xs : List ℕ) (start base : ℕ) (l : Line) (at left : ℕ) (u : UnitsLeft) (ys : List ℕ) : Type 0 where
  pub place : ℕ
  pub parity : place % 2 ≡ l.colour
  pub spent : Spent bytes start xs base l.width (stand_at l at place) left u ys
