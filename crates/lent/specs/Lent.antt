-- What pixels pushed on a lent line leave: the number, the line, and the changes in the slice.
use Rattle.std.specs.Prelude.{◌≡◌, Bool, cond, ◌&&◌, List, ℕ, zero, suc, ◌<◌, leb, length}
use Rattle.rules.specs.Lines.{Went, went, failed, push, line_in}
use Rattle.rules.specs.Pages.{overlaid, is_too_wide}
use Rattle.context.specs.declared.line.Line.{Line}
use Rattle.context.specs.State.{line_at, line_for, push_rules, changes_of}

-- "a position past the width, a count past its array" is 8, and so is a colour or a flag that is none; 0 is a line that pixels may be pushed on
abbrev pub tested : ℕ → Line → ℕ
tested room l = cond (is_too_wide l.width) 6 (cond (leb l.position l.width && leb l.changes room && leb l.colour 1 && leb l.cut 1) 0 8)

-- the number of a line's tests; a width has 32 bits
pub record Tested (room : ℕ) (l : Line) (r : ℕ) : Type 0 where
  pub number : r ≡ tested room l
  pub small : l.width < 4294967296

abbrev pub number_of : Went → ℕ
number_of (went s) = 0
number_of (failed n place s) = n

-- the outcome of a push
pub record Leaves (width : ℕ) (xs : List ℕ) (w : Went) (r : ℕ) (m : Line) (ys : List ℕ) : Type 0 where
  pub number : r ≡ number_of w
  pub line : m ≡ line_for width (line_in w)
  pub store : ys ≡ overlaid (changes_of w) xs

-- "leave everything as found"
pub record Refuses (n : ℕ) (xs : List ℕ) (l : Line) (r : ℕ) (m : Line) (ys : List ℕ) : Type 0 where
  pub number : r ≡ n
  pub line : m ≡ l
  pub store : ys ≡ xs

-- after the tests; whatever bit the line stands at, and whatever place a fault would have
abbrev pub LendsAt : ℕ → List ℕ → Line → ℕ → Bool → ℕ → Line → List ℕ → Type 0
LendsAt zero xs l count strict r m ys = (at place : ℕ) → Leaves l.width xs (push (push_rules l.width strict xs) place count (line_at at xs l)) r m ys
LendsAt (suc n) xs l count strict r m ys = Refuses (suc n) xs l r m ys

abbrev pub Lends : List ℕ → Line → ℕ → Bool → ℕ → Line → List ℕ → Type 0
Lends xs l count strict r m ys = LendsAt (tested (length xs) l) xs l count strict r m ys

-- a line that begins in a colour
abbrev pub start_in : ℕ → ℕ → Line
start_in width colour = record { width = width; position = 0; changes = 0; colour = colour; cut = 0 }
