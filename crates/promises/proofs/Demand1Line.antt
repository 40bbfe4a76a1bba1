-- Demand 1 is met by the reading of one line. Assumes nothing.
use mathlib.Core.Path.{◌≡◌, refl, sym, ap, ap₂, ◌∙◌, subst}
use mathlib.Core.Logic.{◌⊎◌, inl, inr, ◌↔◌, ⊎_elim}
use mathlib.Core.Bool.{Bool, true, false, ◌||◌}
use mathlib.Core.List.{List, ◌++◌, append_assoc, append-nil}
use Prim.Native.Nat.{ℕ, zero, suc, ◌+◌, ◌*◌, ◌≤◌, ◌<◌}
use native.Mathlib.Omega.{arith}
use lib.Dec.{eqb, leb, ltb}
use lib.ListN.{length, take, drop, length-append}
use lib.Seq.{take_at, drop_at}
use borrow.Author.Tests.{eqb-true, eqb-false, ltb-true, ltb-false, leb-true, leb-false}
use Rattle.rules.specs.Answers.{complete, no_entry, bad_width, too_long, bad_rows, most_pixels}
use Rattle.rules.specs.Bits.{bits_of}
use Rattle.rules.specs.Lines.{Rules, new_line, Went, went, failed, two, read_line}
use Rattle.rules.specs.Pages as Page
use Rattle.rules.specs.Pages.{most_bytes, ascends, entries, joined, overlaid, one_line, read_one_line, changes_after}
use Rattle.rules.proofs.Bits.{length-bits_of}
use Rattle.rules.specs.Rising.{Rising}
use Rattle.rules.proofs.Lines.{read_whole, read-broken, data-bound}
use Rattle.rules.proofs.Store.{length-joined}
use Rattle.answer.specs.Answer.{row_answer_of}
use Rattle.answer.specs.declared.Answer.{Answer}
use Rattle.promises.specs.Demand1Line.{LineListed, LineRefused, LineStored, ReadLineAnswers}

module _ (bytes : List ℕ) (at columns : ℕ) (strict : Bool) (reference changes : List ℕ) where
  abbrev None : Type 0
  None = (columns ≡ 0) ⊎ (columns ≡ most_pixels)

  abbrev Long : Type 0
  Long = most_bytes < length bytes

  -- ---- The rules' answer, by the tests

  pub data Said : Page.Answer → Type 0 where
    is-six : None → Said (Page.refusal bad_width)
    is-seven : (None → ⊥) → Long → Said (Page.refusal too_long)
    is-eight : (None → ⊥) → (Long → ⊥) → ascends columns reference ≡ false → Said (Page.refusal bad_rows)
    past_end : (None → ⊥) → (Long → ⊥) → ascends columns reference ≡ true → length (bits_of bytes) < at → Said (one_line (failed 2 (length (bits_of bytes)) (new_line at)))
    is_read : (None → ⊥) → (Long → ⊥) → ascends columns reference ≡ true → at ≤ length (bits_of bytes)
        → Said (one_line (read_line (record { width = columns; strict = strict; exact = false; room = length changes }) (two reference) (bits_of bytes) at))

  pub said : Said (read_one_line bytes at columns strict reference (length changes))
  unfolding read_one_line
  said = tests (eqb columns 0) (eqb-true _ _) (eqb-false _ _) (eqb columns most_pixels) (eqb-true _ _) (eqb-false _ _) (ltb most_bytes (length bytes)) (ltb-true _ _) (ltb-false _ _) (ascends columns reference) refl (leb at (length (bits_of bytes))) (leb-true _ _) (leb-false _ _)
    where
      tests : (a : Bool) → (a ≡ true → columns ≡ 0) → (a ≡ false → columns ≡ 0 → ⊥) → (b : Bool) → (b ≡ true → columns ≡ most_pixels) → (b ≡ false → columns ≡ most_pixels → ⊥)
          → (c : Bool) → (c ≡ true → Long) → (c ≡ false → length bytes ≤ most_bytes) → (d : Bool) → ascends columns reference ≡ d → (e : Bool) → (e ≡ true → at ≤ length (bits_of bytes)) → (e ≡ false → length (bits_of bytes) < at)
          → Said (elim (a || b) as (λ _. Page.Answer) [
            | true ↦ Page.refusal bad_width
            | false ↦ elim c as (λ _. Page.Answer) [
              | true ↦ Page.refusal too_long
              | false ↦ elim d as (λ _. Page.Answer) [
                | false ↦ Page.refusal bad_rows
                | true ↦ elim e as (λ _. Page.Answer) [
                  | false ↦ one_line (failed 2 (length (bits_of bytes)) (new_line at))
                  | true ↦ one_line (read_line (record { width = columns; strict = strict; exact = false; room = length changes }) (two reference) (bits_of bytes) at)
                ]
              ]
            ]
          ])
      tests true p q b r s c t u d v e w x = is-six (inl (p refl))
      tests false p q true r s c t u d v e w x = is-six (inr (r refl))
      tests false p q false r s true t u d v e w x = is-seven (⊎_elim (q refl) (s refl)) (t refl)
      tests false p q false r s false t u false v e w x = is-eight (⊎_elim (q refl) (s refl)) (λ l. omega (arith, u refl)) v
      tests false p q false r s false t u true v false w x = past_end (⊎_elim (q refl) (s refl)) (λ l. omega (arith, u refl)) v (x refl)
      tests false p q false r s false t u true v true w x = is_read (⊎_elim (q refl) (s refl)) (λ l. omega (arith, u refl)) v (w refl)

  -- ---- What holds of every answer of the rules

  record Fine (a : Page.Answer) : Type 0 where
    listed : (a.number ≤ no_entry) ⊎ ((bad_width ≤ a.number) × (a.number ≤ bad_rows))
    six : (a.number ≡ bad_width) ↔ None
    seven : (a.number ≡ too_long) ↔ ((None → ⊥) × Long)
    eight : (a.number ≡ bad_rows) ↔ ((None → ⊥) × (Long → ⊥) × (ascends columns reference ≡ false))
    refused : bad_width ≤ a.number → a ≡ Page.refusal a.number
    fits : entries a.rows + length a.loose ≤ length changes
    whole : a.number ≡ complete → (length a.rows ≡ 1) × (length a.loose ≡ 0) × Rising columns 0 (joined a.rows) × (at < a.bytes) × (a.bytes ≤ 8 * length bytes)

  -- a line that was tried answers 0 to 4
  tried : (None → ⊥) → (Long → ⊥) → ascends columns reference ≡ true → (a : Page.Answer) → a.number ≤ no_entry → entries a.rows + length a.loose ≤ length changes
      → (a.number ≡ complete → (length a.rows ≡ 1) × (length a.loose ≡ 0) × Rising columns 0 (joined a.rows) × (at < a.bytes) × (a.bytes ≤ 8 * length bytes)) → Fine a
  tried n l up a h f w = record {
    listed = inl h;
    six = ((λ q. absurd (omega arith)), λ q. absurd (n q));
    seven = ((λ q. absurd (omega arith)), λ q. absurd (l q.1));
    eight = ((λ q. absurd (omega arith)), λ q. absurd (let z : ◌≡◌ {A = ℕ} 0 1 = (let y = sym up ∙ q.2 in cc) in omega arith));
    refused = λ q. absurd (omega arith);
    fits = f;
    whole = w;
  }

  fine : {a : Page.Answer} → columns ≤ most_pixels → Said a → Fine a
  unfolding entries joined
  fine h (is-six e) = record {
    listed = inr (omega arith);
    six = ((λ q. e), λ q. refl);
    seven = ((λ q. absurd (omega arith)), λ q. absurd (q.0 e));
    eight = ((λ q. absurd (omega arith)), λ q. absurd (q.0 e));
    refused = λ q. refl;
    fits = omega arith;
    whole = λ q. absurd (omega arith);
  }
  fine h (is-seven n l) = record {
    listed = inr (omega arith);
    six = ((λ q. absurd (omega arith)), λ q. absurd (n q));
    seven = ((λ q. (n, l)), λ q. refl);
    eight = ((λ q. absurd (omega arith)), λ q. absurd (q.1 l));
    refused = λ q. refl;
    fits = omega arith;
    whole = λ q. absurd (omega arith);
  }
  fine h (is-eight n l e) = record {
    listed = inr (omega arith);
    six = ((λ q. absurd (omega arith)), λ q. absurd (n q));
    seven = ((λ q. absurd (omega arith)), λ q. absurd (l q.1));
    eight = ((λ q. (n, l, e)), λ q. refl);
    refused = λ q. refl;
    fits = omega arith;
    whole = λ q. absurd (omega arith);
  }
  fine h (past_end n l up beyond) = tried n l up _ (omega arith) (omega arith) (λ q. absurd (omega arith))
  fine h (is_read n l up i) = cases (read_line R (two reference) (bits_of bytes) at) refl
    where
      R : Rules
      R = record { width = columns; strict = strict; exact = false; room = length changes }

      wide : 0 < columns
      wide = positive columns (λ q. n (inl q))
        where
          positive : (n : ℕ) → (n ≡ 0 → ⊥) → 0 < n
          positive zero z = absurd (z refl)
          positive (suc n) z = omega arith

      cases : (w : Went) → read_line R (two reference) (bits_of bytes) at ≡ w → Fine (one_line w)
      cases (went s) e =
          let f = read_whole R wide (two reference) (bits_of bytes) at s e in
          tried n l up (one_line (went s)) (omega arith) (omega (arith, f.roomy))
          (λ q. (refl, refl, subst (Rising columns 0) (sym (append-nil s.changes)) f.rising, f.some_bits, omega (arith, f.inside, length-bits_of bytes)))
      cases (failed m p s) e =
          let f = read-broken R wide (two reference) (bits_of bytes) at (length (bits_of bytes)) (data-bound (bits_of bytes)) i m p s e in
          tried n l up (one_line (failed m p s)) f.numbered.1 (omega (arith, f.line.roomy)) (λ q. absurd (omega (arith, f.numbered.0)))

  -- ---- What that says of the answer and the array that the contract permits

  module _ (a : Page.Answer) (r : Answer) (changes' : List ℕ) (answered : r ≡ row_answer_of a) (stored : changes' ≡ changes_after a changes) (f : Fine a) where
    number_is : r.number ≡ a.number
    number_is = ap (λ (x : Answer). x.number) answered

    entries_are : r.entries ≡ entries a.rows
    entries_are = ap (λ (x : Answer). x.entries) answered

    loose-is : r.loose ≡ length a.loose
    loose-is = ap (λ (x : Answer). x.loose) answered

    front_length : length (joined a.rows ++ a.loose) ≡ r.entries + r.loose
    front_length = length-append (joined a.rows) a.loose ∙ ap₂ (λ (x y : ℕ). x + y) (length-joined a.rows ∙ sym entries_are) (sym loose-is)

    listed' : LineListed bytes at columns reference changes r changes'
    listed' = record {
      listed = subst (λ (n : ℕ). (n ≤ no_entry) ⊎ ((bad_width ≤ n) × (n ≤ bad_rows))) (sym number_is) f.listed;
      six = ((λ q. f.six.0 (sym number_is ∙ q)), λ q. number_is ∙ f.six.1 q);
      seven = ((λ q. f.seven.0 (sym number_is ∙ q)), λ q. number_is ∙ f.seven.1 q);
      eight = ((λ q. f.eight.0 (sym number_is ∙ q)), λ q. number_is ∙ f.eight.1 q);
    }

    refused' : bad_width ≤ r.number → LineRefused bytes at columns reference changes r changes'
    unfolding changes_after overlaid joined entries
    refused' h =
        let e = f.refused (omega (arith, number_is)) in
        record {
          same = stored ∙ ap (λ (x : Page.Answer). changes_after x changes) e;
          counts = (ap (λ (x : Answer). x.rows) answered ∙ ap (λ (x : Page.Answer). length x.rows) e, entries_are ∙ ap (λ (x : Page.Answer). entries x.rows) e, loose-is ∙ ap (λ (x : Page.Answer). length x.loose) e, ap (λ (x : Answer). x.bytes) answered ∙ ap (λ (x : Page.Answer). x.bytes) e);
        }

    stored' : LineStored bytes at columns reference changes r changes'
    unfolding changes_after overlaid
    stored' = record {
      entries_fit = omega (arith, entries_are, loose-is, f.fits);
      whole = λ q.
          let w = f.whole (sym number_is ∙ q) in
          let bytes-are = ap (λ (x : Answer). x.bytes) answered in
          (ap (λ (x : Answer). x.rows) answered ∙ w.0, loose-is ∙ w.1, subst (Rising columns 0) (sym (row-front w.1)) w.2, omega (arith, w.3), omega (arith, w.4));
      later = ap (drop (r.entries + r.loose)) stored ∙ drop_at (joined a.rows ++ a.loose) _ (r.entries + r.loose) front_length ∙ ap (λ (n : ℕ). drop n changes) front_length;
    }
      where
        row-front : length a.loose ≡ 0 → take r.entries changes' ≡ joined a.rows
        row-front z =
            ap (take r.entries) (stored ∙ append_assoc (joined a.rows) a.loose _)
            ∙ take_at (joined a.rows) _ r.entries (length-joined a.rows ∙ sym entries_are)

-- Demand 1, for one line.
pub read-line-answers : ReadLineAnswers
read-line-answers bytes at columns strict reference changes r changes' h called =
    let f = fine bytes at columns strict reference changes h (said bytes at columns strict reference changes) in
    (listed' bytes at columns strict reference changes _ r changes' called.answer called.store f, refused' bytes at columns strict reference changes _ r changes' called.answer called.store f, stored' bytes at columns strict reference changes _ r changes' called.answer called.store f)
