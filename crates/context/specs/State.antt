-- A line of the code, and the line of the rules that it stands for.
use Rattle.std.specs.Prelude.{◌≡◌, Bool, true, false, not, List, ℕ, zero, suc, ◌+◌, ◌-◌, ◌%◌, ◌≤◌, ◌<◌, eqb, length, take, Result, Ok, Err}
use Rattle.rules.specs.Codes.{Colour, white, black}
use Rattle.rules.specs.Lines as Rule
use Rattle.rules.specs.Lines.{Went, went, failed, add, push, line_in}
use Rattle.rules.specs.Pages.{overlaid}
use Rattle.tables.specs.Tables.{colour_of}
use Rattle.context.specs.declared.line.Line.{Line}
use Rattle.context.specs.declared.line.PushFault.{PushFault}
use Rattle.context.specs.declared.step.Rules.{Rules}

-- ---- The two lines

abbrev pub flag_of : ℕ → Bool
flag_of zero = false
flag_of (suc n) = true

abbrev pub colour_number : Colour → ℕ
colour_number white = 0
colour_number black = 1

abbrev pub flag_number : Bool → ℕ
flag_number false = 0
flag_number true = 1

-- the line of the rules, at a bit, whose changes lie in front of a slice
abbrev pub line_at : ℕ → List ℕ → Line → Rule.Line
line_at at xs l = Rule.line at l.position (colour_of l.colour) (take l.changes xs) (flag_of l.cut)

-- and the line of the code for one of the rules
abbrev pub line_for : ℕ → Rule.Line → Line
line_for width s = record {
  width = width;
  position = s.position;
  changes = length s.changes;
  colour = colour_number s.colour;
  cut = flag_number s.cut;
}

abbrev pub new_for : ℕ → Line
new_for width = line_for width (Rule.new_line 0)

abbrev pub turned_for : Line → Line
turned_for l = record { width = l.width; position = l.position; changes = l.changes; colour = 1 - l.colour; cut = l.cut }

abbrev pub moved_for : Line → ℕ → ℕ → Line
moved_for l count changes = record { width = l.width; position = l.position + count; changes = changes; colour = l.colour; cut = l.cut }

abbrev pub cut_for : Line → Line
cut_for l = record { width = l.width; position = l.position; changes = l.changes; colour = l.colour; cut = 1 }

-- the rules of a reading into a slice, whichever engine reads it
abbrev pub rules_for : ℕ → Rules → List ℕ → Rule.Rules
rules_for width rules xs = record { width = width; strict = rules.strict; exact = rules.exact; room = length xs }

-- and of pixels that are pushed on it: what is idle (A12) is a code, and no count
abbrev pub push_rules : ℕ → Bool → List ℕ → Rule.Rules
push_rules width strict xs = record { width = width; strict = strict; exact = false; room = length xs }

-- the same in full
abbrev pub ruling : ℕ → ℕ → Bool → Bool → Rule.Rules
ruling width room strict exact = record { width = width; strict = strict; exact = exact; room = room }

-- what every function asks of a line and the slice that holds its changes
pub record Holds (xs : List ℕ) (l : Line) : Type 0 where
  pub narrow : l.width < 4294967295
  pub fits : l.position ≤ l.width
  pub held : l.changes ≤ length xs
  pub coloured : l.colour ≤ 1
  pub flagged : l.cut ≤ 1

-- ---- A push

-- after so many changes, pixels of this colour turn
abbrev pub turns : ℕ → ℕ → Bool
turns changes colour = not (eqb (changes % 2) colour)

-- the changes of an outcome, whether the line goes on or fails
abbrev pub changes_of : Went → List ℕ
changes_of w = (line_in w).changes

-- what a push answers
abbrev pub Push : Type 0
Push = Result Line PushFault

abbrev pub push_fault : ℕ → Line → PushFault
push_fault n l = record { line = l; number = n }

abbrev pub push_for : ℕ → Went → Push
push_for width (went s) = Ok (line_for width s)
push_for width (failed n place s) = Err (push_fault n (line_for width s))

-- what `add` asks: a count that fits the line
pub record Adds (xs : List ℕ) (l : Line) (count : ℕ) : Type 0 where
  pub holds : Holds xs l
  pub within : count ≤ l.width - l.position

-- An answer and the slice after it are those of an outcome
pub record Comes (width : ℕ) (xs : List ℕ) (w : Went) (r : Push) (ys : List ℕ) : Type 0 where
  pub answer : r ≡ push_for width w
  pub store : ys ≡ overlaid (changes_of w) xs

-- whatever bit the line stands at, and whatever place a fault would have
abbrev pub Added : List ℕ → Line → ℕ → Push → List ℕ → Type 0
Added xs l count r ys = (strict : Bool) (at : ℕ) → Comes l.width xs (add (push_rules l.width strict xs) count (line_at at xs l)) r ys

abbrev pub Pushes : List ℕ → Line → ℕ → Bool → Push → List ℕ → Type 0
Pushes xs l count strict r ys = (at place : ℕ) → Comes l.width xs (push (push_rules l.width strict xs) place count (line_at at xs l)) r ys
