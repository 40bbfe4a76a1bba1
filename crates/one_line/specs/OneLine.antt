-- What the public reading of one line answers, and what it leaves in the lent array.
use Rattle.std.specs.Prelude.{◌≡◌, Bool, List, ℕ, length}
use Rattle.rules.specs.Lines.{Went}
use Rattle.rules.specs.Pages.{one_line, read_one_line, changes_after}
use Rattle.answer.specs.Answer.{row_answer_of}
use Rattle.answer.specs.declared.Answer.{Answer}
use Rattle.context.specs.Outcome.{Step, step_for}

-- a step that stands for an outcome is answered as the outcome is
abbrev pub Answers : Step → Answer → Type 0
Answers step r = (width : ℕ) (w : Went) → step ≡ step_for width w → r ≡ row_answer_of (one_line w)

-- "A start past the data is 2", and points at the end of the data
abbrev pub past_at : ℕ → Answer
past_at end = record { number = 2; mark = 0; rows = 0; entries = 0; loose = 0; bytes = 0; place = end }

pub record ReadOne (bytes : List ℕ) (at columns : ℕ) (strict : Bool) (reference xs : List ℕ) (r : Answer) (ys : List ℕ) : Type 0 where
  pub answer : r ≡ row_answer_of (read_one_line bytes at columns strict reference (length xs))
  pub store : ys ≡ changes_after (read_one_line bytes at columns strict reference (length xs)) xs
