-- What a writer answers, by its tests in their order: of the Group 4 writers, which are handed no number to test, and of the Group 3 ones. Assumes nothing.
use mathlib.Core.Path.{◌≡◌, refl, sym, ap, ◌∙◌, subst}
use mathlib.Core.Logic.{◌⊎◌, inl, inr, ◌↔◌, ⊎_elim}
use mathlib.Core.Bool.{Bool, true, false, ◌||◌, true≢false}
use mathlib.Core.List.{List}
use Prim.Native.Nat.{ℕ, ◌*◌, ◌≤◌, ◌<◌}
use native.Mathlib.Omega.{arith}
use lib.Dec.{eqb}
use lib.ListN.{length}
use borrow.Author.Tests.{eqb-true, eqb-false}
use Rattle.rules.specs.Answers.{complete, bad_width, too_long, bad_rows, no_fit, bad_number, most_pixels}
use Rattle.rules.specs.Pages.{most_bytes, no_line, entries}
use Rattle.rules.specs.Write.{Written, unwritten}
use Rattle.answer.specs.declared.Answer.{Answer}
use Rattle.writer.specs.Outcome.{Answers}

-- the test of the columns, both ways
module _ (columns : ℕ) where
  abbrev pub None : Type 0
  None = (columns ≡ 0) ⊎ (columns ≡ most_pixels)

  pub none : no_line columns ≡ true → None
  none = tests (eqb columns 0) (eqb-true _ _) (eqb columns most_pixels) (eqb-true _ _)
    where
      tests : (a : Bool) → (a ≡ true → columns ≡ 0) → (b : Bool) → (b ≡ true → columns ≡ most_pixels) → (a || b) ≡ true → None
      tests true p b q e = inl (p refl)
      tests false p true q e = inr (q refl)
      tests false p false q e = absurd (true≢false (sym e))

  pub some : no_line columns ≡ false → None → ⊥
  some = tests (eqb columns 0) (eqb-false _ _) (eqb columns most_pixels) (eqb-false _ _)
    where
      tests : (a : Bool) → (a ≡ false → columns ≡ 0 → ⊥) → (b : Bool) → (b ≡ false → columns ≡ most_pixels → ⊥) → (a || b) ≡ false → None → ⊥
      tests true p b q e = absurd (true≢false e)
      tests false p true q e = absurd (true≢false e)
      tests false p false q e = ⊎_elim (p refl) (q refl)

-- what allows the caller's number, what makes the rows good and what makes them bad, and the bit after the last one
module _ (Allowed Good Bad : Type 0) (apart : Good → Bad → ⊥) (columns : ℕ) (out : List ℕ) (end : ℕ) where
  abbrev pub Long : Type 0
  Long = most_bytes < length out

  -- what is written, by the tests
  pub data Said : Written → Type 0 where
    is-six : None columns → Said (unwritten bad_width out)
    is-seven : (None columns → ⊥) → Long → Said (unwritten too_long out)
    is-ten : (None columns → ⊥) → (Long → ⊥) → (Allowed → ⊥) → Said (unwritten bad_number out)
    is-eight : (None columns → ⊥) → (Long → ⊥) → Allowed → Bad → Said (unwritten bad_rows out)
    is-nine : (None columns → ⊥) → (Long → ⊥) → Allowed → Good → 8 * length out < end → Said (unwritten no_fit out)
    is-done : (None columns → ⊥) → (Long → ⊥) → Allowed → Good → end ≤ 8 * length out → (w : Written) → w.number ≡ complete → Said w

  -- what holds of everything that is written
  record Fine (w : Written) : Type 0 where
    listed : (w.number ≡ complete) ⊎ ((bad_width ≤ w.number) × (w.number ≤ bad_number))
    six : (w.number ≡ bad_width) ↔ None columns
    seven : (w.number ≡ too_long) ↔ ((None columns → ⊥) × Long)
    ten : (w.number ≡ bad_number) ↔ ((None columns → ⊥) × (Long → ⊥) × (Allowed → ⊥))
    eight : (w.number ≡ bad_rows) ↔ ((None columns → ⊥) × (Long → ⊥) × Allowed × Bad)
    nine : (w.number ≡ no_fit) ↔ ((None columns → ⊥) × (Long → ⊥) × Allowed × Good × (8 * length out < end))
    nowhere : (w.number ≡ complete → ⊥) → w.end ≡ 0

  fine : {w : Written} → Said w → Fine w
  fine (is-six n) = record {
    listed = inr (omega arith);
    six = ((λ q. n), λ q. refl);
    seven = ((λ q. absurd (omega arith)), λ q. absurd (q.0 n));
    ten = ((λ q. absurd (omega arith)), λ q. absurd (q.0 n));
    eight = ((λ q. absurd (omega arith)), λ q. absurd (q.0 n));
    nine = ((λ q. absurd (omega arith)), λ q. absurd (q.0 n));
    nowhere = λ q. refl;
  }
  fine (is-seven n l) = record {
    listed = inr (omega arith);
    six = ((λ q. absurd (omega arith)), λ q. absurd (n q));
    seven = ((λ q. (n, l)), λ q. refl);
    ten = ((λ q. absurd (omega arith)), λ q. absurd (q.1 l));
    eight = ((λ q. absurd (omega arith)), λ q. absurd (q.1 l));
    nine = ((λ q. absurd (omega arith)), λ q. absurd (q.1 l));
    nowhere = λ q. refl;
  }
  fine (is-ten n l a) = record {
    listed = inr (omega arith);
    six = ((λ q. absurd (omega arith)), λ q. absurd (n q));
    seven = ((λ q. absurd (omega arith)), λ q. absurd (l q.1));
    ten = ((λ q. (n, l, a)), λ q. refl);
    eight = ((λ q. absurd (omega arith)), λ q. absurd (a q.2));
    nine = ((λ q. absurd (omega arith)), λ q. absurd (a q.2));
    nowhere = λ q. refl;
  }
  fine (is-eight n l a b) = record {
    listed = inr (omega arith);
    six = ((λ q. absurd (omega arith)), λ q. absurd (n q));
    seven = ((λ q. absurd (omega arith)), λ q. absurd (l q.1));
    ten = ((λ q. absurd (omega arith)), λ q. absurd (q.2 a));
    eight = ((λ q. (n, l, a, b)), λ q. refl);
    nine = ((λ q. absurd (omega arith)), λ q. absurd (apart q.3 b));
    nowhere = λ q. refl;
  }
  fine (is-nine n l a g f) = record {
    listed = inr (omega arith);
    six = ((λ q. absurd (omega arith)), λ q. absurd (n q));
    seven = ((λ q. absurd (omega arith)), λ q. absurd (l q.1));
    ten = ((λ q. absurd (omega arith)), λ q. absurd (q.2 a));
    eight = ((λ q. absurd (omega arith)), λ q. absurd (apart g q.3));
    nine = ((λ q. (n, l, a, g, f)), λ q. refl);
    nowhere = λ q. refl;
  }
  fine (is-done n l a g f w z) = record {
    listed = inl z;
    six = ((λ q. absurd (omega (arith, z, q))), λ q. absurd (n q));
    seven = ((λ q. absurd (omega (arith, z, q))), λ q. absurd (l q.1));
    ten = ((λ q. absurd (omega (arith, z, q))), λ q. absurd (q.2 a));
    eight = ((λ q. absurd (omega (arith, z, q))), λ q. absurd (apart g q.3));
    nine = ((λ q. absurd (omega (arith, z, q))), λ q. absurd (omega (arith, f, q.4)));
    nowhere = λ q. absurd (q z);
  }

  -- and of the answer
  pub record Tested (r : Answer) (out' : List ℕ) : Type 0 where
    pub listed : (r.number ≡ complete) ⊎ ((bad_width ≤ r.number) × (r.number ≤ bad_number))
    pub six : (r.number ≡ bad_width) ↔ None columns
    pub seven : (r.number ≡ too_long) ↔ ((None columns → ⊥) × Long)
    pub ten : (r.number ≡ bad_number) ↔ ((None columns → ⊥) × (Long → ⊥) × (Allowed → ⊥))
    pub eight : (r.number ≡ bad_rows) ↔ ((None columns → ⊥) × (Long → ⊥) × Allowed × Bad)
    pub nine : (r.number ≡ no_fit) ↔ ((None columns → ⊥) × (Long → ⊥) × Allowed × Good × (8 * length out < end))
    pub refused : (r.number ≡ complete → ⊥) → (out' ≡ out) × (r.bytes ≡ 0)
    pub no_rows : (r.rows ≡ 0) × (r.entries ≡ 0) × (r.loose ≡ 0)

  answered : {w : Written} → Fine w → (r : Answer) (out' : List ℕ) → Answers w out r out' → Tested r out'
  unfolding entries
  answered {w} f r out' g = record {
    listed = subst (λ (n : ℕ). (n ≡ complete) ⊎ ((bad_width ≤ n) × (n ≤ bad_number))) (sym number) f.listed;
    six = ((λ q. f.six.0 (sym number ∙ q)), λ q. number ∙ f.six.1 q);
    seven = ((λ q. f.seven.0 (sym number ∙ q)), λ q. number ∙ f.seven.1 q);
    ten = ((λ q. f.ten.0 (sym number ∙ q)), λ q. number ∙ f.ten.1 q);
    eight = ((λ q. f.eight.0 (sym number ∙ q)), λ q. number ∙ f.eight.1 q);
    nine = ((λ q. f.nine.0 (sym number ∙ q)), λ q. number ∙ f.nine.1 q);
    refused = λ q. (g.kept (λ e. q (number ∙ e)), ap (λ (x : Answer). x.bytes) g.answer ∙ f.nowhere (λ e. q (number ∙ e)));
    no_rows = (ap (λ (x : Answer). x.rows) g.answer, ap (λ (x : Answer). x.entries) g.answer, ap (λ (x : Answer). x.loose) g.answer);
  }
    where
      number : r.number ≡ w.number
      number = ap (λ (x : Answer). x.number) g.answer

  pub tested : {w : Written} → Said w → (r : Answer) (out' : List ℕ) → Answers w out r out' → Tested r out'
  tested s = answered (fine s)
