-- What a code or a line answers, and the outcome of the rules that it stands for.
use Rattle.std.specs.Prelude.{◌≡◌, Bool, true, false, cond, not, List, ℕ, ◌<◌, eqb, ltb, Result, Ok, Err}
use Rattle.rules.specs.Bits.{bits_of}
use Rattle.rules.specs.Lines as Rule
use Rattle.rules.specs.Lines.{Went, went, failed, next, push_run, one, code_of, line_end}
use Rattle.rules.specs.Pages.{overlaid}
use Rattle.bit_reader.specs.Loaded.{Loading}
use Rattle.context.specs.declared.line.Line.{Line}
use Rattle.context.specs.declared.step.Rules.{Rules}
use Rattle.context.specs.declared.step.Stop.{Stop}
use Rattle.context.specs.State.{line_at, line_for, rules_for, changes_of, Holds}

-- "the bit at fault (0 for 4)"
abbrev pub place_for : ℕ → ℕ → ℕ
place_for number place = cond (eqb number 4) 0 place

-- what a code or a line answers
abbrev pub Step : Type 0
Step = Result (Line × ℕ) Stop

abbrev pub stop_at : ℕ → Line → ℕ → Stop
stop_at n l place = record { line = l; place = place; number = n }

abbrev pub step_for : ℕ → Went → Step
step_for width (went s) = Ok (line_for width s, s.at)
step_for width (failed n place s) = Err (stop_at n (line_for width s) place)

-- an answer and the slice after it are those of an outcome
pub record Steps (width : ℕ) (xs : List ℕ) (w : Went) (r : Step) (ys : List ℕ) : Type 0 where
  pub answer : r ≡ step_for width w
  pub store : ys ≡ overlaid (changes_of w) xs

-- what a reader asks: a bit inside the data, and a line in its slice
pub record Reads (bytes xs : List ℕ) (l : Line) (at : ℕ) : Type 0 where
  pub loading : Loading bytes at
  pub holds : Holds xs l

-- the same of a line that begins
pub record Starts (bytes : List ℕ) (width at : ℕ) : Type 0 where
  pub loading : Loading bytes at
  pub narrow : width < 4294967295

-- ---- Runs

-- two of them, or as many as fill the line
abbrev pub runs_from : Rule.Rules → Bool → List Bool → Rule.Line → Went
runs_from R true bs s = next (push_run R bs s) (push_run R bs)
runs_from R false bs s = line_end R.width (code_of R one bs) bs s

-- whether there is another, after so many
abbrev pub does_go_on : Bool → ℕ → Line → Bool
does_go_on true count l = ltb count 2
does_go_on false count l = not (eqb l.position l.width)

abbrev pub Runs : List ℕ → List ℕ → Bool → Line → ℕ → Rules → Step → List ℕ → Type 0
Runs bytes xs two l at rules r ys =
    Steps l.width xs (runs_from (rules_for l.width rules xs) two (bits_of bytes) (line_at at xs l)) r ys
