-- The numbers of the errors, and what a definition's answer is as an answer of the source (01 "The row store and what the desk says").
use Rattle.std.specs.Prelude.{ℕ, length}
use Rattle.rules.specs.Lines.{head_or}
use Rattle.rules.specs.Pages as Page
use Rattle.rules.specs.Pages.{entries}
use Rattle.answer.specs.declared.DecodeError.{DecodeError}
use Rattle.answer.specs.declared.DecodeError.TheVariants.{UnexpectedEof, InvalidCode, Overflow}
use Rattle.answer.specs.declared.Answer.{Answer}

abbrev pub number_of : DecodeError → ℕ
number_of InvalidCode = 1
number_of UnexpectedEof = 2
number_of Overflow = 3

-- "its number, rows kept, entries in kept rows, loose entries and bytes", the place of a fault (A7), and a mark
abbrev pub answer_with : ℕ → Page.Answer → Answer
answer_with mark a = record { number = a.number; mark = mark; rows = length a.rows; entries = entries a.rows; loose = length a.loose; bytes = a.bytes; place = a.place }

-- of a form that gives a page: its marks lie beside the row ends
abbrev pub answer_of : Page.Answer → Answer
answer_of a = answer_with 0 a

-- of a form that gives one row: the row's mark (A5), 0 where there is none
abbrev pub row_answer_of : Page.Answer → Answer
row_answer_of a = answer_with (head_or 0 a.marks) a
