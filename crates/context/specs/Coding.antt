-- What one mode code does to a line, given b1 and b2, and what a 2D line does to the array that holds it.
use Rattle.std.specs.Prelude.{◌≡◌, Bool, true, false, cond, not, ◌&&◌, List, ◌++◌, ℕ, ◌-◌, ◌≤◌, ◌<◌, eqb, length, take, drop, Ok, Err}
use Rattle.rules.specs.Bits.{bits_of}
use Rattle.rules.specs.Modes.{horizontal}
use Rattle.rules.specs.Lines as Rule
use Rattle.rules.specs.Lines.{Went, unless_idle, code_2d, two, read_line}
use Rattle.rules.specs.Pages.{overlaid}
use Rattle.rules.specs.Rising.{Rising}
use Rattle.tables.specs.Pairs.{pair_table}
use Rattle.tables.specs.Tables.{colour_of, Lookups}
use Rattle.context.specs.declared.line.Line.{Line}
use Rattle.context.specs.declared.step.Rules.{Rules}
use Rattle.context.specs.declared.reference.Reference.{Reference}
use Rattle.context.specs.declared.reference.Reference.TheVariants.{Lent, Kept}
use Rattle.context.specs.State.{line_at, turned_for, rules_for, changes_of, Push}
use Rattle.context.specs.Outcome.{place_for, Step, stop_at, step_for, Steps, Reads, Starts, runs_from}
use Rattle.context.specs.Reference.{Searches}

-- ---- One code

-- a line that goes on has one of the two colours
abbrev pub Coloured : Push → Type 0
Coloured (Ok l) = l.colour ≤ 1
Coloured (Err fault) = Unit {0}

abbrev pub after_push : Push → ℕ → ℕ → Bool → Step
after_push (Ok l) at next turns = Ok (cond turns (turned_for l) l, next)
after_push (Err fault) at next turns = Err (stop_at fault.number fault.line (place_for fault.number at))

-- a vertical move of nothing, whose code began at `at` and ends at `next`: an exact line refuses it (A12), unless it is the line's first code
abbrev pub unmoved_for : Line → ℕ → ℕ → Bool → Step
unmoved_for l at next exact = cond (exact && not (eqb l.position 0 && eqb l.colour 0)) (Err (stop_at 1 l at)) (Ok (turned_for l, next))

-- what two runs came to, of a code that began at `at`: where both are zero an exact line refuses it
abbrev pub unless_idle_for : Step → Line → ℕ → Bool → Step
unless_idle_for (Ok stepped) l at exact = cond (exact && eqb stepped.0.position l.position) (Err (stop_at 1 l at)) (Ok stepped)
unless_idle_for (Err stop) l at exact = Err stop

-- the two runs, from the bit `next` on, of a horizontal code at a bit
abbrev pub TwoRuns : List ℕ → List ℕ → Line → ℕ → ℕ → Rules → Step → List ℕ → Type 0
TwoRuns bytes xs l at next rules r ys =
    Steps l.width xs (unless_idle (rules_for l.width rules xs) horizontal (line_at at xs l) (runs_from (rules_for l.width rules xs) true (bits_of bytes) (line_at next xs l))) r ys

-- what a code asks besides: the line is short of its width, and b2 does not lie left of it
pub record Coding (bytes xs : List ℕ) (l : Line) (at b2 : ℕ) : Type 0 where
  pub reads : Reads bytes xs l at
  pub short : l.position < l.width
  pub ahead : l.position ≤ b2

-- what it does, under any reference that has these b1 and b2
abbrev pub Coded : List ℕ → List ℕ → Line → ℕ → ℕ → ℕ → Rules → Step → List ℕ → Type 0
Coded bytes xs l at b1 b2 rules r ys =
    (reference : List ℕ)
    → b1 ≡ Rule.b1 l.width reference l.position (colour_of l.colour)
    → b2 ≡ Rule.b2 l.width reference l.position (colour_of l.colour)
    → Steps l.width xs (code_2d (rules_for l.width rules xs) reference (bits_of bytes) (line_at at xs l)) r ys

-- ---- A line

-- the reference, which is lent, or lies in the array right before the row
abbrev pub reference_in : Reference → ℕ → List ℕ → List ℕ → List ℕ
reference_in Lent base reference xs = reference
reference_in (Kept start) base reference xs = take (base - start) (drop start xs)

abbrev pub Placed : Reference → ℕ → List ℕ → Type 0
Placed Lent base xs = base ≤ length xs
Placed (Kept start) base xs = (start ≤ base) × (base ≤ length xs)

abbrev pub is_kept : Reference → Bool
is_kept Lent = false
is_kept (Kept start) = true

-- what a search in it relies on
pub record Seeks (place : Reference) (base : ℕ) (reference xs : List ℕ) (seen : ℕ) (l : Line) : Type 0 where
  pub placed : Placed place base xs
  pub searches : Searches (reference_in place base reference xs) seen l.width l.position l.colour

-- what a line asks
pub record Lines (bytes reference xs : List ℕ) (base : ℕ) (place : Reference) (width at : ℕ) : Type 0 where
  pub starts : Starts bytes width at
  pub placed : Placed place base xs
  pub rising : Rising width 0 (reference_in place base reference xs)

-- The tables that a row is lent: the lookups where its reference is kept, as in a page; where that is lent, none is asked for.
abbrev pub TabledFor : Reference → List ℕ → List ℕ → Type 0
TabledFor Lent w b = Unit {0}
TabledFor (Kept start) w b = Lookups w b

-- and the pairs of a 1D line with them
abbrev pub PairedFor : Reference → List ℕ → List ℕ → List ℕ → Type 0
PairedFor Lent w b both = Unit {0}
PairedFor (Kept start) w b both = Lookups w b × (both ≡ pair_table)

-- an answer and the array after it are those of an outcome for the row from `base` on
pub record StepsAt (base width : ℕ) (xs : List ℕ) (w : Went) (r : Step) (ys : List ℕ) : Type 0 where
  pub answer : r ≡ step_for width w
  pub store : ys ≡ take base xs ++ overlaid (changes_of w) (drop base xs)

abbrev pub Lined : List ℕ → List ℕ → List ℕ → ℕ → Reference → ℕ → ℕ → Rules → Step → List ℕ → Type 0
Lined bytes reference xs base place width at rules r ys =
    StepsAt base width xs (read_line (rules_for width rules (drop base xs)) (two (reference_in place base reference xs)) (bits_of bytes) at) r ys
