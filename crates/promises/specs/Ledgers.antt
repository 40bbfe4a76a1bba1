-- The books over any list of pages, as calls of `enter` leave them: they balance, and every page has its line.
use Rattle.std.specs.Prelude.{◌≡◌, false, List, [], ◌∷◌, ◌++◌, map, ℕ, ℤ, length, take}
use Rattle.listing_text.specs.Lines.{lines_of}
use Rattle.ledger.specs.Balance.{opened, Balanced, Stays}
use Rattle.ledger.specs.Books.{is_counted}
use Rattle.ledger.specs.Entered.{Enters}
use Rattle.ledger.specs.Lines.{Paged, bare_lines}
use Rattle.ledger.specs.declared.Entered.{Entered}
use Rattle.ledger.specs.declared.Ledger.{Ledger}
use Rattle.ledger.specs.declared.Verdict.{Verdict}

-- Calls of `enter`, each with the books that the one before it left: the books at the start, the pages with their verdicts, the books behind them, and what was written for
-- them, one line behind the other. A call that tells no text entered nothing, and is none of these.
pub data Entries : Ledger → List Paged → Ledger → List ℕ → Type 0 where
  no_pages : {b : Ledger} → Entries b [] b []
  and_page :
      {b : Ledger} {ps : List Paged} {before : Ledger} {text : List ℕ} → Entries b ps before text
      → (p : Paged) (out : List ℕ) (r : Entered) (out' : List ℕ) → Enters p.name before p.verdict out r out' → (r.text ≡ 0 → ⊥)
      → Entries b (ps ++ p ∷ []) r.ledger (text ++ take r.text out')

-- "quota at the start = quota left + heads of the pages counted; a page that is not counted takes nothing off and is among those to be looked at"
abbrev pub BooksBalance : Type 0
BooksBalance = (quota : ℤ) (ps : List Paged) (b : Ledger) (text : List ℕ) → Entries (opened quota) ps b text → Balanced quota (map (λ (p : Paged). p.verdict) ps) b

-- of one call: a page that is entered and not counted
abbrev pub UncountedStays : Type 0
UncountedStays =
    (name : List ℕ) (b : Ledger) (v : Verdict) (out : List ℕ) (r : Entered) (out' : List ℕ) → Enters name b v out r out' → (r.text ≡ 0 → ⊥)
    → is_counted v ≡ false → Stays b r.ledger

-- and one that is not entered, since the books have no room for a page more, or the array for its line: nothing changes
abbrev pub EnteredOrNot : Type 0
EnteredOrNot = (name : List ℕ) (b : Ledger) (v : Verdict) (out : List ℕ) (r : Entered) (out' : List ℕ) → Enters name b v out r out' → r.text ≡ 0 → (r.ledger ≡ b) × (out' ≡ out)

-- "as many lines as pages, in order": the lines of the text are those of the pages, each ended by its line feed, and nothing stands behind the last
pub record LinesOf (b : Ledger) (ps : List Paged) (text : List ℕ) : Type 0 where
  pub lines : lines_of text ≡ bare_lines b ps ++ [] ∷ []
  pub as_many : length (bare_lines b ps) ≡ length ps

abbrev pub EveryPageHasItsLine : Type 0
EveryPageHasItsLine = (b : Ledger) (ps : List Paged) (after : Ledger) (text : List ℕ) → Entries b ps after text → LinesOf b ps text
