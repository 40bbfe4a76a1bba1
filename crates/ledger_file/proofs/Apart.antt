-- No two pages that were added have one name. Assumes nothing.
use mathlib.Core.Path.{◌≡◌, refl, sym, ap, ◌∙◌}
use mathlib.Core.Bool.{Bool, true, false, ◌&&◌}
use mathlib.Core.List.{List, [], ◌∷◌, ◌++◌}
use Prim.Native.Nat.{ℕ, ◌+◌, ◌-◌, ◌≤◌, ◌<◌}
use native.Mathlib.Omega.{arith}
use lib.Dec.{ltb, eqb}
use lib.IntN.{ℤ}
use lib.ListN.{length, get_or, drop, length-append, get_or-append}
use lib.Seq.{get_or-append-add}
use borrow.Author.Tests.{ltb-true, ltb-false}
use Rattle.rules.specs.Pages.{overlaid}
use Rattle.listing_text.specs.Lines.{lines_of}
use Rattle.form_file.specs.Words.{same}
use Rattle.form_file.proofs.Firsts.{first-before}
use Rattle.form_file.proofs.Wording.{same_self}
use Rattle.ledger.specs.Balance.{opened}
use Rattle.ledger.specs.Books.{booked, has_room}
use Rattle.ledger.specs.declared.Ledger.{Ledger}
use Rattle.ledger.specs.declared.Verdict.{Verdict}
use Rattle.ledger_file.specs.Fields.{field, number_in}
use Rattle.ledger_file.specs.Page.{page_line_of}
use Rattle.ledger_file.specs.Resume.{verdict_in}
use Rattle.ledger_file.specs.Total.{is_total, total_pages}
use Rattle.ledger_file.specs.Sums.{Sum, Went, on, wrong, name_at, namesake, page_taken, total_taken, taken, Added, adding, added_up, AddsUp}
use Rattle.ledger_file.specs.declared.AddedUp.{AddedUp}
use Rattle.ledger_file.proofs.Tallies.{booked-pages}

module _ (text : List ℕ) where
  -- as many places as pages, and the names there are all different
  record Apart (s : Sum) : Type 0 where
    many : s.books.pages ≡ length s.starts
    apart : (i j : ℕ) → i < j → j < length s.starts → name_at text (get_or s.starts i 0) ≡ name_at text (get_or s.starts j 0) → ⊥

  -- what a line leaves
  abbrev Good : Went → Type 0
  Good (on s) = Apart s
  Good (wrong number other) = ◌≡◌ {A = ℕ} 0 0

  either : (t : Bool) (a b : Went) → Good a → Good b → Good (elim t [ true ↦ a | false ↦ b ])
  either true a b p q = p
  either false a b p q = q

  module _ (room at : ℕ) (s : Sum) (h : Apart s) where
    page-good : (v : Verdict) → Good (page_taken text room at v s)
    unfolding page_taken
    page-good v = by (ltb (length s.starts) room) (ltb (namesake text at s.starts) (length s.starts)) (has_room s.books v) refl
      where
        next : (i j : ℕ) → length s.starts ≤ namesake text at s.starts → i < j → j < length (s.starts ++ at ∷ [])
            → name_at text (get_or (s.starts ++ at ∷ []) i 0) ≡ name_at text (get_or (s.starts ++ at ∷ []) j 0) → ⊥
        next i j n l m e = cases (ltb j (length s.starts)) refl
          where
            earlier : (k : ℕ) → k < length s.starts → get_or (s.starts ++ at ∷ []) k 0 ≡ get_or s.starts k 0
            earlier k q = get_or-append s.starts (at ∷ []) 0 k q

            clash : true ≡ false → ⊥
            clash q = let z : ◌≡◌ {A = ℕ} 0 1 = cc in omega arith

            cases : (t : Bool) → ltb j (length s.starts) ≡ t → ⊥
            cases true q =
                let k = ltb-true j (length s.starts) q in
                h.apart i j l k (ap (name_at text) (sym (earlier i (omega arith))) ∙ e ∙ ap (name_at text) (earlier j k))
            cases false q =
                let z : j ≡ length s.starts + 0 = omega (arith, length-append s.starts (at ∷ []), ltb-false j (length s.starts) q) in
                let k : i < length s.starts = omega arith in
                let at-is : get_or (s.starts ++ at ∷ []) j 0 ≡ at = ap (λ (x : ℕ). get_or (s.starts ++ at ∷ []) x 0) z ∙ get_or-append-add s.starts (at ∷ []) 0 0 in
                let names : name_at text (get_or s.starts i 0) ≡ name_at text at = ap (name_at text) (sym (earlier i k)) ∙ e ∙ ap (name_at text) at-is in
                clash (sym (ap (λ (xs : List ℕ). same xs (name_at text at)) names ∙ same_self (name_at text at)) ∙ first-before (λ x. same (name_at text (get_or s.starts x 0)) (name_at text at)) (length s.starts) 0 i (omega arith) (omega (arith, n)))

        by : (r twice roomy : Bool) → ltb (namesake text at s.starts) (length s.starts) ≡ twice
            → Good (elim r [
              | false ↦ wrong 5 0
              | true ↦
                  elim twice [
                    | true ↦ wrong 4 (get_or s.starts (namesake text at s.starts) 0)
                    | false ↦ elim roomy [ false ↦ wrong 6 0 | true ↦ on (record { books = booked s.books v; closed = s.closed; starts = s.starts ++ at ∷ [] }) ]
                  ]
            ])
        by false twice roomy e = refl
        by true true roomy e = refl
        by true false false e = refl
        by true false true e = record {
          many = omega (arith, booked-pages s.books v, h.many, length-append s.starts (at ∷ []));
          apart = λ i j l m q. next i j (ltb-false (namesake text at s.starts) (length s.starts) e) l m q;
        }

    good : (line : List ℕ) → Good (taken text room at line s)
    unfolding taken total_taken
    good line =
        either (is_total line) _ _
        (either (eqb (number_in (field 1 line)) (s.books.looked - s.closed.looked) && (eqb (number_in (field 2 line)) (s.books.heads - s.closed.heads) && eqb (total_pages line) (s.books.pages - s.closed.pages))) _ _ (record { many = h.many; apart = h.apart }) refl)
        (either (page_line_of line).good _ _ (page-good (verdict_in (page_line_of line))) refl)

  goes : (room at : ℕ) (s : Sum) → Apart s → (ls : List (List ℕ)) → Apart (adding text room at s ls).sum
  unfolding adding
  goes room at s h [] = h
  goes room at s h (l ∷ []) = h
  goes room at s h (l ∷ m ∷ ls) = by (taken text room at l s) (good room at s h l) (λ s' g. goes room (at + length l + 1) s' g (m ∷ ls))
    where
      by : (w : Went) → Good w → ((s' : Sum) → Apart s' → Apart (adding text room (at + length l + 1) s' (m ∷ ls)).sum)
          → Apart (elim w as (λ (_ : Went). Added) [
            | on s' ↦ adding text room (at + length l + 1) s' (m ∷ ls)
            | wrong number other ↦ record { number = number; at = at; other = other; sum = s }
          ]).sum
      by (on s') g rec = rec s' g
      by (wrong number other) g rec = h

pub no-name-twice : (text : List ℕ) (quota : ℤ) (starts : List ℕ) (r : AddedUp) (starts' : List ℕ) → AddsUp text quota starts r starts'
    → (i j : ℕ) → i < j → j < r.ledger.pages → name_at text (get_or starts' i 0) ≡ name_at text (get_or starts' j 0) → ⊥
unfolding overlaid
no-name-twice text quota starts r starts' a i j l m e =
    let s = (added_up text quota (length starts)).sum in
    let g = goes text (length starts) 0 (record { books = opened quota; closed = opened quota; starts = [] }) (record { many = refl; apart = λ i j l m e. omega arith }) (lines_of text) in
    let n : r.ledger.pages ≡ length s.starts = ap (λ (b : Ledger). b.pages) a.books ∙ g.many in
    let here : (k : ℕ) → k < length s.starts → get_or starts' k 0 ≡ get_or s.starts k 0 =
    λ k q. ap (λ (xs : List ℕ). get_or xs k 0) a.array ∙ get_or-append s.starts (drop (length s.starts) starts) 0 k q in
    g.apart i j l (omega (arith, n)) (ap (name_at text) (sym (here i (omega (arith, n)))) ∙ e ∙ ap (name_at text) (here j (omega (arith, n))))
