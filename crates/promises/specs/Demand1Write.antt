-- Demand 1 for the writers: 0, or a refusal from 6 to 9, each exactly when 01 says so, in this order; a refusal leaves the output as found and gives zero counts.
use Rattle.std.specs.Prelude.{◌≡◌, ◌⊎◌, ◌↔◌, Bool, true, false, ◌&&◌, List, ℕ, ◌+◌, ◌*◌, ◌≤◌, ◌<◌, length}
use Rattle.rules.specs.Answers.{complete, bad_width, too_long, bad_rows, no_fit, most_pixels}
use Rattle.rules.specs.Lines.{two}
use Rattle.rules.specs.Pages.{most_bytes, ascends}
use Rattle.rules.specs.Write.{line_bits, page_bits, rows_in, ends_rise, all_ascend, write_line, write_page}
use Rattle.answer.specs.declared.Answer.{Answer}
use Rattle.writer.specs.Outcome.{Answers}

-- a call of a writer: whether what it is to write is good, and the bit after its last one
module _ (columns : ℕ) (out : List ℕ) (good : Bool) (end : ℕ) (r : Answer) (out' : List ℕ) where
  abbrev NoLine : Type 0
  NoLine = (columns ≡ 0) ⊎ (columns ≡ most_pixels)

  abbrev TooLong : Type 0
  TooLong = most_bytes < length out

  pub record WriteListed : Type 0 where
    pub listed : (r.number ≡ complete) ⊎ ((bad_width ≤ r.number) × (r.number ≤ no_fit))
    pub six : (r.number ≡ bad_width) ↔ NoLine
    pub seven : (r.number ≡ too_long) ↔ ((NoLine → ⊥) × TooLong)
    pub eight : (r.number ≡ bad_rows) ↔ ((NoLine → ⊥) × (TooLong → ⊥) × (good ≡ false))
    pub nine : (r.number ≡ no_fit) ↔ ((NoLine → ⊥) × (TooLong → ⊥) × (good ≡ true) × (8 * length out < end))
    pub refused : (r.number ≡ complete → ⊥) → (out' ≡ out) × (r.bytes ≡ 0)
    pub no_rows : (r.rows ≡ 0) × (r.entries ≡ 0) × (r.loose ≡ 0)

abbrev pub WriteLineAnswers : Type 0
WriteLineAnswers =
    (columns : ℕ) (reference row out : List ℕ) (at : ℕ) (r : Answer) (out' : List ℕ)
    → Answers (write_line columns reference row out at) out r out'
    → WriteListed columns out (ascends columns reference && ascends columns row) (at + length (line_bits columns (two reference) row)) r out'

abbrev pub WritePageAnswers : Type 0
WritePageAnswers =
    (columns : ℕ) (changes ends out : List ℕ) (r : Answer) (out' : List ℕ)
    → Answers (write_page columns changes ends out) out r out'
    → WriteListed columns out (ends_rise (length changes) 0 ends && all_ascend columns (rows_in 0 changes ends)) (length (page_bits columns (rows_in 0 changes ends))) r out'
