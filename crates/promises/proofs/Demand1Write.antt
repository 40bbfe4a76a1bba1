-- Demand 1 is met by the writers. Assumes nothing.
use mathlib.Core.Path.{◌≡◌, refl, sym, ◌∙◌}
use mathlib.Core.Logic.{◌⊎◌, inl, inr, ⊎_elim}
use mathlib.Core.Bool.{Bool, true, false, true≢false}
use mathlib.Core.List.{List}
use Prim.Native.Nat.{ℕ, ◌+◌, ◌≤◌}
use native.Mathlib.Omega.{arith}
use native.Mathlib.Nat.{zero-add}
use lib.ListN.{length}
use Rattle.rules.specs.Answers.{complete, bad_width, no_fit, bad_number}
use Rattle.rules.specs.Lines.{two}
use Rattle.rules.specs.Write.{line_bits, page_bits, rows_in, writes, write_line, write_page}
use Rattle.rules.proofs.Writes.{writes-cases}
use Rattle.answer.specs.declared.Answer.{Answer}
use Rattle.writer.specs.Outcome.{Answers}
use Rattle.promises.specs.Demand1Write.{WriteListed, WriteLineAnswers, WritePageAnswers}
use Rattle.promises.proofs.WriteTests.{none, some, Said, is-six, is-seven, is-eight, is-nine, is-done, Tested, tested}

-- no number is handed over, so 10 is never answered
module _ (columns : ℕ) (out : List ℕ) (good : Bool) (end : ℕ) where
  apart : good ≡ true → good ≡ false → ⊥
  apart u v = true≢false (sym u ∙ v)

  said : (xs : List Bool) (at n : ℕ) → end ≡ at + length xs → Said (Unit {0}) (good ≡ true) (good ≡ false) apart columns out end (writes columns good xs n out at)
  said xs at n e =
      writes-cases columns good xs n out at (Said (Unit {0}) (good ≡ true) (good ≡ false) apart columns out end)
      (λ i. is-six (none columns i))
      (λ i h. is-seven (some columns i) h)
      (λ i h g. is-eight (some columns i) (λ l. omega arith) tt g)
      (λ i h g f. is-nine (some columns i) (λ l. omega arith) tt g (omega arith))
      (λ i h g f. is-done (some columns i) (λ l. omega arith) tt g (omega arith) _ refl)

  listed : (r : Answer) (out' : List ℕ) → Tested (Unit {0}) (good ≡ true) (good ≡ false) apart columns out end r out' → WriteListed columns out good end r out'
  listed r out' t = record {
    listed = ⊎_elim (λ z. inl z) below t.listed;
    six = t.six;
    seven = t.seven;
    eight = ((λ q. let h = t.eight.0 q in (h.0, h.1, h.3)), λ q. t.eight.1 (q.0, q.1, tt, q.2));
    nine = ((λ q. let h = t.nine.0 q in (h.0, h.1, h.3, h.4)), λ q. t.nine.1 (q.0, q.1, tt, q.2, q.3));
    refused = t.refused;
    no_rows = t.no_rows;
  }
    where
      never : r.number ≡ bad_number → ⊥
      never q = (t.ten.0 q).2 tt

      below : (bad_width ≤ r.number) × (r.number ≤ bad_number) → (r.number ≡ complete) ⊎ ((bad_width ≤ r.number) × (r.number ≤ no_fit))
      below (l, h) = inr (l, omega (arith, h, never))

  pub answered : (xs : List Bool) (at n : ℕ) → end ≡ at + length xs → (r : Answer) (out' : List ℕ) → Answers (writes columns good xs n out at) out r out' → WriteListed columns out good end r out'
  answered xs at n e r out' g = listed r out' (tested (Unit {0}) (good ≡ true) (good ≡ false) apart columns out end (said xs at n e) r out' g)

pub write-line-answers : WriteLineAnswers
unfolding write_line
write-line-answers columns reference row out at r out' g = answered columns out _ _ (line_bits columns (two reference) row) at _ refl r out' g

pub write-page-answers : WritePageAnswers
unfolding write_page
write-page-answers columns changes ends out r out' g = answered columns out _ _ (page_bits columns (rows_in 0 changes ends)) 0 _ (sym (zero-add _)) r out' g
