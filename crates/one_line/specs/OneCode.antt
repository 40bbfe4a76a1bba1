-- What one code of a 2D line does by itself (A9), where its runs may come later.
use Rattle.std.specs.Prelude.{◌≡◌, List, ℕ, ◌≤◌, ◌<◌}
use Rattle.rules.specs.Bits.{bits_of}
use Rattle.rules.specs.Runs.{ok, sum}
use Rattle.rules.specs.Modes.{horizontal, moded, read_mode}
use Rattle.rules.specs.Lines.{after_run}
use Rattle.bit_reader.specs.Loaded.{Loading}
use Rattle.context.specs.declared.line.Line.{Line}
use Rattle.context.specs.declared.step.Rules.{Rules}
use Rattle.one_line.specs.declared.one_code.OneCode.{OneCode}
use Rattle.one_line.specs.declared.one_code.OneCode.TheVariants.{Runs, Did}
use Rattle.context.specs.State.{line_at, rules_for, Holds}
use Rattle.context.specs.Outcome.{Step, Steps}
use Rattle.context.specs.Coding.{Coded}

-- what a mode code asks: a bit inside the data, a line in its slice that is short of its width, and a b2 that does not lie left of it
pub record OneCoding (bytes xs : List ℕ) (l : Line) (at b2 : ℕ) : Type 0 where
  pub loading : Loading bytes at
  pub holds : Holds xs l
  pub short : l.position < l.width
  pub ahead : l.position ≤ b2

-- horizontal mode, which ends at a bit
abbrev pub RunsAt : List ℕ → ℕ → ℕ → Type 0
RunsAt bytes at next = read_mode (bits_of bytes) at ≡ ok (moded next horizontal)

-- Horizontal mode says where its runs begin, and leaves the slice. Any other mode, or none, does what the code does.
abbrev pub OneCoded : List ℕ → List ℕ → Line → ℕ → ℕ → ℕ → Rules → OneCode → List ℕ → Type 0
OneCoded bytes xs l at b1 b2 rules (Runs next) ys = RunsAt bytes at next × (ys ≡ xs)
OneCoded bytes xs l at b1 b2 rules (Did step) ys = ((next : ℕ) → RunsAt bytes at next → ⊥) × Coded bytes xs l at b1 b2 rules step ys

-- a run of so many pixels, from one bit to another: pushed, and the colour turned
abbrev pub RunEnded : List ℕ → Line → ℕ → ℕ → ℕ → Rules → Step → List ℕ → Type 0
RunEnded xs l pixels from next rules r ys = Steps l.width xs (after_run (rules_for l.width rules xs) (line_at from xs l) (ok (sum next pixels))) r ys
