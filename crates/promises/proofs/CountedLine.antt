-- The line of a page that is counted. Assumes nothing.
use mathlib.Core.Path.{◌≡◌, refl, sym, ap, ◌∙◌, subst}
use mathlib.Core.Bool.{Bool, true, false, not, true≢false}
use mathlib.Core.List.{List, [], ◌∷◌, ◌++◌, append_assoc}
use Prim.Native.Nat.{ℕ, ◌+◌, ◌*◌}
use borrow.Author.Tests.{eq-eqb}
use Rattle.listing_text.specs.Text.{ascii, tab, newline, decimal}
use Rattle.ledger.specs.Books.{is_counted, left, is_below}
use Rattle.ledger.specs.Phrases.{words, one}
use Rattle.ledger.specs.Said.{fill, numbers, shown, filled_with, head_at, reason_with, page_line}
use Rattle.ledger.specs.declared.Ledger.{Ledger}
use Rattle.ledger.specs.declared.Verdict.{Verdict}

-- a text that begins with two numbers, each in its field
pub record Fielded (first second : ℕ) (text : List ℕ) : Type 0 where
  pub rest : List ℕ
  pub is : text ≡ tab ∷ (decimal first ++ tab ∷ (decimal second ++ tab ∷ rest))

-- and with more behind it
fielded-more : (first second : ℕ) (text more : List ℕ) → Fielded first second text → Fielded first second (text ++ more)
fielded-more first second text more f = record {
  rest = f.rest ++ more;
  is =
      ap (λ (l : List ℕ). l ++ more) f.is
      ∙ ap (λ (l : List ℕ). tab ∷ l)
      (append_assoc (decimal first) (tab ∷ (decimal second ++ tab ∷ f.rest)) more
      ∙ ap (λ (l : List ℕ). decimal first ++ tab ∷ l) (append_assoc (decimal second) (tab ∷ f.rest) more));
}

-- the two phrases of a page that is counted: within the quota, and over it
phrase-fielded : (v : Verdict) (b : Ledger) (counted below : Bool) → counted ≡ true → Fielded v.number v.heads (filled_with v b (2 * one (not counted) + one below))
unfolding fill words ascii
phrase-fielded v b true true e = record { rest = _; is = refl }
phrase-fielded v b true false e = record { rest = _; is = refl }
phrase-fielded v b false below e = absurd (true≢false (sym e))

-- the line: the name, the number 0, the heads, and the rest
pub counted-line : (name : List ℕ) (v : Verdict) (b : Ledger) → v.number ≡ 0
    → (rest : List ℕ) × (page_line name v b ≡ shown name ++ tab ∷ (decimal 0 ++ tab ∷ (decimal v.heads ++ tab ∷ rest)))
unfolding page_line
counted-line name v b z =
    let head = subst (λ (n : ℕ). Fielded n v.heads (filled_with v b (head_at v b))) z (phrase-fielded v b (is_counted v) (is_below (left b)) (eq-eqb v.number 0 z)) in
    let f = fielded-more 0 v.heads (filled_with v b (head_at v b)) (reason_with v (numbers v b) ++ newline ∷ []) head in
    (f.rest, ap (λ (l : List ℕ). shown name ++ l) f.is)
