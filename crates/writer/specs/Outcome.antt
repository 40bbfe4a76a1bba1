-- What a writer answers and leaves (01 "The row store and what the desk says").
use Rattle.std.specs.Prelude.{◌≡◌, Option, None, Some, cond, List, [], ℕ, ltb, length}
use Rattle.rules.specs.Bits.{bits_of}
use Rattle.rules.specs.Pages.{most_bytes, no_line}
use Rattle.rules.specs.Write.{Written}
use Rattle.rules.specs.Proper as Rule
use Rattle.answer.specs.Answer.{answer_of}
use Rattle.answer.specs.declared.Answer.{Answer}
use Rattle.writer.specs.declared.Parting.{Parting}

-- 6 and 7 in this order; 0 where both are passed
abbrev pub first_tests : ℕ → ℕ → ℕ
first_tests columns bytes = cond (no_line columns) 6 (cond (ltb most_bytes bytes) 7 0)

-- the number of a refusal, or nothing where the tests give 0
abbrev pub Refuses : ℕ → Option ℕ → Type 0
Refuses n None = n ≡ 0
Refuses n (Some k) = (k ≡ n) × (k ≡ 0 → ⊥)

-- "A writer's 0 gives the bit after the line, or the page's bytes; its other counts are 0."
abbrev pub answer_for : ℕ → ℕ → Answer
answer_for number end = answer_of (record { number = number; place = 0; bytes = end; rows = []; marks = []; loose = [] })

abbrev pub done_at : ℕ → Answer
done_at end = answer_for 0 end

-- The answer and the output are those of a definition. Bits and length settle every byte; what is refused leaves everything as found.
pub record Answers (w : Written) (out : List ℕ) (r : Answer) (out' : List ℕ) : Type 0 where
  pub answer : r ≡ answer_for w.number w.end
  pub bits : bits_of out' ≡ w.bits
  pub size : length out' ≡ length out
  pub kept : (w.number ≡ 0 → ⊥) → out' ≡ out

-- What is answered of bytes that are held against a page (rules: Proper), as an answer of the source.
abbrev pub parting_of : Rule.Parting → Parting
parting_of p = record { number = p.number; same = p.same; place = p.place }
