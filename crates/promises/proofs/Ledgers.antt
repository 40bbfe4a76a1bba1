-- The books over any list of pages. Assumes nothing.
use mathlib.Core.Path.{◌≡◌, refl, sym, ap, ap₂, ◌∙◌, subst}
use mathlib.Core.Bool.{Bool, true, false}
use mathlib.Core.List.{List, [], ◌∷◌, ◌++◌, map, append_assoc, append-nil}
use Prim.Native.Nat.{ℕ, zero, suc, ◌+◌, ◌≤◌}
use native.Mathlib.Omega.{arith}
use lib.IntN.{ℤ}
use lib.ListN.{length, take, length-append}
use lib.Seq.{take-append_seam}
use Rattle.rules.specs.Pages.{overlaid}
use Rattle.listing_text.specs.Text.{newline}
use Rattle.listing_text.specs.Lines.{lines_of}
use Rattle.ledger.specs.Balance.{opened, Balanced, Stays}
use Rattle.ledger.specs.Books.{booked, booked_all}
use Rattle.ledger.specs.Said.{page_line}
use Rattle.ledger.specs.Entered.{is_entered, entry_line, books_after, Enters}
use Rattle.ledger.specs.Lines.{Paged, ledger_text, bare_line, bare_lines}
use Rattle.ledger.proofs.Balance.{books-balance, uncounted-stays}
use Rattle.ledger.proofs.Quiet.{bare-line, lines_are, as-many-lines}
use Rattle.ledger.specs.declared.Entered.{Entered}
use Rattle.ledger.specs.declared.Ledger.{Ledger}
use Rattle.ledger.specs.declared.Verdict.{Verdict}
use Rattle.promises.specs.Ledgers.{Entries, no_pages, and_page, BooksBalance, UncountedStays, EnteredOrNot, LinesOf, EveryPageHasItsLine}

-- a page's line is never empty
line-long : (name : List ℕ) (v : Verdict) (b : Ledger) → length (page_line name v b) ≡ 0 → ⊥
line-long name v b z = omega (arith, sym z ∙ ap length (bare-line name v b) ∙ length-append (bare_line name v b) (newline ∷ []))

-- ---- One page

module _ (name : List ℕ) (b : Ledger) (v : Verdict) (out : List ℕ) (r : Entered) (out' : List ℕ) (e : Enters name b v out r out') where
  pub record In : Type 0 where
    pub books : r.ledger ≡ booked b v
    pub line : take r.text out' ≡ page_line name v (booked b v)

  pub entered : (r.text ≡ 0 → ⊥) → In
  unfolding entry_line books_after overlaid
  entered some = by (is_entered name b v out) refl
    where
      by : (t : Bool) → is_entered name b v out ≡ t → In
      by true q =
          let l : entry_line name b v out ≡ page_line name v (booked b v) = rw (entry_line, q) in
          record {
            books = e.books ∙ rw (books_after, q);
            line = ap₂ (λ (n : ℕ) (a : List ℕ). take n a) e.length-is e.array ∙ take-append_seam (entry_line name b v out) _ ∙ l;
          }
      by false q = absurd (some (e.length-is ∙ ap length (let l : entry_line name b v out ≡ [] = rw (entry_line, q) in l)))

  not_entered : r.text ≡ 0 → (r.ledger ≡ b) × (out' ≡ out)
  unfolding entry_line books_after overlaid
  not_entered none = by (is_entered name b v out) refl
    where
      by : (t : Bool) → is_entered name b v out ≡ t → (r.ledger ≡ b) × (out' ≡ out)
      by true q = absurd (line-long name v (booked b v) (sym (ap length (let l : entry_line name b v out ≡ page_line name v (booked b v) = rw (entry_line, q) in l)) ∙ sym e.length-is ∙ none))
      by false q = (e.books ∙ rw (books_after, q), e.array ∙ ap (λ (l : List ℕ). overlaid l out) (let l : entry_line name b v out ≡ [] = rw (entry_line, q) in l))

pub entered-or-not : EnteredOrNot
entered-or-not name b v out r out' e none = not_entered name b v out r out' e none

pub uncounted-stays-so : UncountedStays
uncounted-stays-so name b v out r out' e some u = subst (Stays b) (sym (entered name b v out r out' e some).books) (uncounted-stays b v u)

-- ---- All of them

abbrev verdicts : List Paged → List Verdict
verdicts ps = map (λ (p : Paged). p.verdict) ps

booked-more : (b : Ledger) (ps : List Paged) (p : Paged) → booked_all b (verdicts (ps ++ p ∷ [])) ≡ booked (booked_all b (verdicts ps)) p.verdict
unfolding booked_all
booked-more b [] p = refl
booked-more b (q ∷ ps) p = booked-more (booked b q.verdict) ps p

text-more : (b : Ledger) (ps : List Paged) (p : Paged)
    → ledger_text b (ps ++ p ∷ []) ≡ ledger_text b ps ++ page_line p.name p.verdict (booked (booked_all b (verdicts ps)) p.verdict)
unfolding ledger_text booked_all
text-more b [] p = append-nil (page_line p.name p.verdict (booked b p.verdict))
text-more b (q ∷ ps) p =
    let line = page_line q.name q.verdict (booked b q.verdict) in
    ap (λ (l : List ℕ). line ++ l) (text-more (booked b q.verdict) ps p)
    ∙ sym (append_assoc line (ledger_text (booked b q.verdict) ps) (page_line p.name p.verdict (booked (booked_all (booked b q.verdict) (verdicts ps)) p.verdict)))

record Are (b : Ledger) (ps : List Paged) (after : Ledger) (text : List ℕ) : Type 0 where
  books : after ≡ booked_all b (verdicts ps)
  text-is : text ≡ ledger_text b ps

are : {b : Ledger} {ps : List Paged} {after : Ledger} {text : List ℕ} → Entries b ps after text → Are b ps after text
unfolding ledger_text booked_all
are no_pages = record { books = refl; text-is = refl }
are (and_page {b = b} {ps = ps} {before = before} {text = text} es p out r out' e some) =
    let h = are es in
    let i = entered p.name before p.verdict out r out' e some in
    record {
      books = i.books ∙ ap (λ (x : Ledger). booked x p.verdict) h.books ∙ sym (booked-more b ps p);
      text-is =
          ap₂ (λ (x y : List ℕ). x ++ y) h.text-is (i.line ∙ ap (λ (x : Ledger). page_line p.name p.verdict (booked x p.verdict)) h.books)
          ∙ sym (text-more b ps p);
    }

pub books-balance-so : BooksBalance
books-balance-so quota ps b text es = subst (Balanced quota (verdicts ps)) (sym (are es).books) (books-balance quota (verdicts ps))

pub every-page-has-its-line : EveryPageHasItsLine
every-page-has-its-line b ps after text es = record { lines = ap lines_of (are es).text-is ∙ lines_are b ps; as_many = as-many-lines b ps }
