-- What the tests of a Group 3 writer come to: 6, 7 and 10 here, and where the caller's number is allowed the other writers' laws. Assumes nothing.
use mathlib.Core.Path.{◌≡◌, refl, sym, ap, ◌∙◌, subst}
use mathlib.Core.Bool.{Bool, true, false, ◌&&◌, true≢false}
use mathlib.Core.List.{List}
use Prim.Native.Nat.{ℕ, ◌≤◌, ◌<◌}
use native.Mathlib.Omega.{arith}
use lib.Dec.{leb}
use lib.ListN.{length}
use borrow.Author.Tests.{lt-ltb, le-ltb, leb-true}
use Rattle.rules.specs.Rows.{bytes_to}
use Rattle.rules.specs.Pages as Page
use Rattle.rules.specs.Pages.{no_line, most_bytes}
use Rattle.rules.specs.WriteGroup3.{Layout, mixed, some_good, write_group3, layout_1d, write_1d, write_2d}
use Rattle.rules.proofs.Writes.{write3-cases}
use Rattle.answer.specs.Answer.{answer_of}
use Rattle.answer.specs.declared.Answer.{Answer}
use Rattle.row_store.specs.Store.{good_rows}
use Rattle.writer.specs.Paging3.{Laid, page3_of}
use Rattle.writer.specs.Outcome.{first_tests, Answers}
use Rattle.writer.proofs.Answering.{Writing, First, refuses, both_true, first-false, second-false}

-- test 8: no rows, rows that are not good, and good ones
module _ (columns : ℕ) (changes ends : List ℕ) where
  pub no_rows : length ends ≡ 0 → some_good columns changes ends ≡ false
  no_rows e = first-false _ (le-ltb 0 (length ends) (omega arith))

  pub bad-rows : (length ends ≡ 0 → ⊥) → good_rows columns changes 0 ends ≡ false → some_good columns changes ends ≡ false
  bad-rows h e = second-false (lt-ltb 0 (length ends) (omega (arith, h))) e

  pub all-good : 0 < length ends → good_rows columns changes 0 ends ≡ true → some_good columns changes ends ≡ true
  all-good h e = both_true (lt-ltb 0 (length ends) h) e

module _ (layout : Layout) (columns : ℕ) (changes ends out : List ℕ) where
  -- where the number is allowed, the answer is `writes` of the page's bits
  pub group3-writing : (fine : Bool) → fine ≡ true → Writing (write_group3 layout fine columns changes ends out) columns out (some_good columns changes ends) 0
      (page3_of layout columns changes ends) (bytes_to (length (page3_of layout columns changes ends)))
  unfolding write_group3
  group3-writing true e = record { is = refl }
  group3-writing false e = absurd (true≢false (sym e))

  module _ (fine : Bool) where
    abbrev Said : Answer → Type 0
    Said r = Answers (write_group3 layout fine columns changes ends out) out r out

    -- 6 and 7, whether it is or not
    pub refused3-first : {r : Answer} (n : ℕ) → n ≡ first_tests columns (length out) → (n ≡ 0 → ⊥) → r ≡ answer_of (Page.refusal n) → Said r
    refused3-first {r} n e h f =
        write3-cases layout fine columns changes ends out (λ w. Answers w out r out)
        (λ i. refuses 6 refl (same (rw i)) refl)
        (λ i l. refuses 7 refl (same (rw (i, lt-ltb most_bytes (length out) l))) refl)
        (λ i l g. absurd (passed i l))
        (λ i l g j. absurd (passed i l))
        (λ i l g j k. absurd (passed i l))
        (λ i l g j k. absurd (passed i l))
      where
        same : {m : ℕ} → first_tests columns (length out) ≡ m → r ≡ answer_of (Page.refusal m)
        same q = f ∙ ap (λ (m : ℕ). answer_of (Page.refusal m)) (e ∙ q)

        passed : no_line columns ≡ false → length out ≤ most_bytes → ⊥
        passed i l = h (e ∙ rw (i, le-ltb most_bytes (length out) l))

    -- 10 where it is not
    pub refused-10 : {r : Answer} → fine ≡ false → First columns (length out) → r ≡ answer_of (Page.refusal 10) → Said r
    refused-10 {r} e first f =
        write3-cases layout fine columns changes ends out (λ w. Answers w out r out)
        (λ i. absurd (true≢false (sym i ∙ first.line)))
        (λ i l. absurd (omega (arith, first.small)))
        (λ i l g. refuses 10 refl f refl)
        (λ i l g j. absurd (true≢false (sym g ∙ e)))
        (λ i l g j k. absurd (true≢false (sym g ∙ e)))
        (λ i l g j k. absurd (true≢false (sym g ∙ e)))

  -- where it is, what was answered then
  pub answers-3 : (fine : Bool) → fine ≡ true → {r : Answer} {out' : List ℕ} → Answers (write_group3 layout true columns changes ends out) out r out'
      → Answers (write_group3 layout fine columns changes ends out) out r out'
  answers-3 true e a = a
  answers-3 false e a = absurd (true≢false (sym e))

-- ---- A3: fill of at most 64

pub laid-1d : {layout : Layout} (eols : Bool) (fill : ℕ) → layout ≡ layout_1d eols fill → leb fill 64 ≡ true → Laid layout
laid-1d true fill e h = subst Laid (sym e) (leb-true fill 64 h)
laid-1d false fill e h = subst Laid (sym e) tt

pub answers-1d : {layout : Layout} (eols : Bool) (fill columns : ℕ) (changes ends out : List ℕ) {r : Answer} {out' : List ℕ} → layout ≡ layout_1d eols fill
    → Answers (write_group3 layout (leb fill 64) columns changes ends out) out r out'
    → Answers (write_1d eols fill columns changes ends out) out r out'
unfolding write_1d
answers-1d eols fill columns changes ends out {r} {out'} e = subst (λ (l : Layout). Answers (write_group3 l (leb fill 64) columns changes ends out) out r out') e

-- ---- A10: K from 1 to 65,535

pub laid-2d : (k : ℕ) (fine : Bool) → fine ≡ (leb 1 k && leb k 65535) → fine ≡ true → Laid (mixed k)
laid-2d k fine e f = tests (leb 1 k) (leb-true 1 k) (sym e ∙ f)
  where
    tests : (a : Bool) → (a ≡ true → 1 ≤ k) → (a && leb k 65535) ≡ true → 1 ≤ k
    tests true g h = g refl
    tests false g h = absurd (true≢false (sym h))

pub answers-2d : (k : ℕ) (fine : Bool) → fine ≡ (leb 1 k && leb k 65535) → (columns : ℕ) (changes ends out : List ℕ) {r : Answer} {out' : List ℕ}
    → Answers (write_group3 (mixed k) fine columns changes ends out) out r out'
    → Answers (write_2d k columns changes ends out) out r out'
unfolding write_2d
answers-2d k fine e columns changes ends out {r} {out'} = subst (λ (b : Bool). Answers (write_group3 (mixed k) b columns changes ends out) out r out') e
