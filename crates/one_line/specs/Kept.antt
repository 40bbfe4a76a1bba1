-- Where a line stands behind a code by the full rules, under the row before it.
use Rattle.std.specs.Prelude.{◌≡◌, List, ℕ, ◌-◌, min, length}
use Rattle.context.specs.declared.line.Line.{Line}
use Rattle.swift_loops.specs.declared.fast_2d.BetweenCodes.{BetweenCodes}
use Rattle.context.specs.Reference.{Searches}
use Rattle.context.specs.Places.{B1At}

-- the search goes on from the change before b1's last place
abbrev pub Restands : List ℕ → ℕ → Line → Type 0
Restands reference place l = Searches reference (min (length reference) (place - 1)) l.width l.position l.colour

pub record Restood (reference : List ℕ) (l : Line) (at : ℕ) (r : BetweenCodes) : Type 0 where
  pub at-is : r.at ≡ at
  pub position-is : r.position ≡ l.position
  pub count-is : r.count ≡ l.changes
  pub b1-at : B1At reference l.position l.colour r.place
