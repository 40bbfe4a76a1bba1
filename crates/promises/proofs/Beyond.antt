-- A row that is handed over goes back: demand 1 says that it ascends, and demand 3 that such a row is read as it was written. Assumes nothing.
use mathlib.Core.Path.{◌≡◌, sym, ap, ◌∙◌, subst}
use mathlib.Core.Logic.{◌⊎◌, ⊎_elim}
use mathlib.Core.Bool.{true, false, ◌&&◌}
use mathlib.Core.List.{List, [], ◌∷◌, ◌++◌}
use Prim.Native.Nat.{ℕ, ◌+◌, ◌≤◌}
use native.Mathlib.Omega.{arith}
use lib.ListN.{length, take, length-append}
use Rattle.rules.specs.Answers.{complete, bad_width, too_long, bad_rows, no_fit, most_pixels}
use Rattle.rules.specs.Pages.{ascends}
use Rattle.rules.specs.Write.{rows_in}
use Rattle.rules.specs.Rising.{Rising, none, Rows, row_then}
use Rattle.rules.proofs.Ascending.{rises-ascends}
use Rattle.promises.specs.Beyond.{Follows, RowsGoBack}
use Rattle.promises.proofs.Demand1.{decode-answers}
use Rattle.promises.proofs.Demand1Write.{write-line-answers}
use Rattle.promises.proofs.Demand3.{written-line-reads-back}

-- two rows of a list in which all ascend
both-rise : (width : ℕ) (before after : List (List ℕ)) (reference row : List ℕ) → Rows width (before ++ (reference ∷ row ∷ after))
    → Rising width 0 reference × Rising width 0 row
both-rise width [] after reference row (row_then a (row_then b rest)) = (a, b)
both-rise width (x ∷ before) after reference row (row_then a rest) = both-rise width before after reference row rest

follow-rise : {width : ℕ} {rows : List (List ℕ)} {reference row : List ℕ} → Rows width rows → Follows rows reference row → Rising width 0 reference × Rising width 0 row
follow-rise {width} {reference = reference} {row = row} up (before, after, e) = both-rise width before after reference row (subst (Rows width) e (row_then none up))

-- a row that follows another is one of at least one row
some-row : {rows : List (List ℕ)} {reference row : List ℕ} → Follows rows reference row → rows ≡ [] → ⊥
some-row {reference = reference} {row = row} (before, after, e) z = omega (arith, ap length e, ap length z, length-append before (reference ∷ row ∷ after))

both-good : {width : ℕ} {reference row : List ℕ} → Rising width 0 reference → Rising width 0 row → (ascends width reference && ascends width row) ≡ true
both-good a b = rw (rises-ascends a, rises-ascends b)

true-false : true ≡ false → ⊥
true-false e = let z : ◌≡◌ {A = ℕ} 0 1 = cc in omega arith

-- a number of the writers' list that is no refusal
no_other : (n : ℕ) → bad_width ≤ n → n ≤ no_fit → (n ≡ bad_width → ⊥) → (n ≡ too_long → ⊥) → (n ≡ bad_rows → ⊥) → (n ≡ no_fit → ⊥) → ⊥
no_other n low high six seven eight nine = omega arith

accepted : (n : ℕ) → (n ≡ complete) ⊎ ((bad_width ≤ n) × (n ≤ no_fit)) → (n ≡ bad_width → ⊥) → (n ≡ too_long → ⊥) → (n ≡ bad_rows → ⊥) → (n ≡ no_fit → ⊥) → n ≡ complete
accepted n listed six seven eight nine = ⊎_elim (λ e. e) (λ h. absurd (no_other n h.0 h.1 six seven eight nine)) listed

pub rows-go-back : RowsGoBack
unfolding rows_in
rows-go-back bytes settings changes ends marks r changes' ends' marks' narrow called reference row follows out at w out' short fits written =
    (done, λ strict store s store' roomy c. written-line-reads-back settings.columns reference row out at w out' narrow written done strict store s store' roomy c)
  where
    rise : Rising settings.columns 0 reference × Rising settings.columns 0 row
    rise = follow-rise (decode-answers bytes settings changes ends marks r changes' ends' marks' narrow called).2.rising follows

    -- without a row in the answer there is none in the store
    kept : r.rows ≡ 0 → ⊥
    kept e = some-row follows (ap (λ (n : ℕ). rows_in 0 changes' (take n ends')) e)

    a-line : (settings.columns ≡ 0) ⊎ (settings.columns ≡ most_pixels) → ⊥
    a-line =
        ⊎_elim (λ e. kept ((decode-answers bytes settings changes ends marks r changes' ends' marks' narrow called).2.no_rows e))
        (λ e.
        let d = decode-answers bytes settings changes ends marks r changes' ends' marks' narrow called in
        kept (d.1 (omega (arith, d.0.six.1 e)) (omega (arith, d.0.six.1 e))).counts.0)

    done : w.number ≡ complete
    done =
        let l = write-line-answers settings.columns reference row out at w out' written in
        accepted w.number l.listed (λ e. a-line (l.six.0 e)) (λ e. omega (arith, (l.seven.0 e).1, short))
        (λ e. true-false (sym (both-good rise.0 rise.1) ∙ (l.eight.0 e).2)) (λ e. omega (arith, (l.nine.0 e).3, fits))
