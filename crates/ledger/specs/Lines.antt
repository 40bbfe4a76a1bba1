-- The text behind a list of pages, and the lines that it has.
use Rattle.std.specs.Prelude.{List, [], ◌∷◌, ◌++◌, ℕ}
use Rattle.ledger.specs.Books.{booked}
use Rattle.ledger.specs.Said.{shown, numbers, filled_with, head_at, reason_with, page_line}
use Rattle.ledger.specs.declared.Ledger.{Ledger}
use Rattle.ledger.specs.declared.Verdict.{Verdict}

-- a page's name, and the verdict on it
pub record Paged : Type 0 where
  pub name : List ℕ
  pub verdict : Verdict

-- the text behind a list of pages: the line of each, with the books behind it
unfoldable pub ledger_text : Ledger → List Paged → List ℕ
ledger_text b [] = []
ledger_text b (p ∷ ps) = page_line p.name p.verdict (booked b p.verdict) ++ ledger_text (booked b p.verdict) ps

-- a page's line without its line feed
unfoldable pub bare_line : List ℕ → Verdict → Ledger → List ℕ
bare_line name v b = shown name ++ (filled_with v b (head_at v b) ++ reason_with v (numbers v b))

unfoldable pub bare_lines : Ledger → List Paged → List (List ℕ)
bare_lines b [] = []
bare_lines b (p ∷ ps) = bare_line p.name p.verdict (booked b p.verdict) ∷ bare_lines (booked b p.verdict) ps
