-- Ledgers that runs wrote, read again: what is read is what was written.
use Rattle.std.specs.Prelude.{◌≡◌, true, false, List, ℕ, ◌≤◌, ◌<◌, ℤ, length, get_or}
use Rattle.ledger.specs.Balance.{opened, Balanced}
use Rattle.ledger.specs.Books.{is_counted, booked, booked_all, has_room}
use Rattle.ledger.specs.Lines.{bare_line}
use Rattle.ledger.specs.declared.Ledger.{Ledger}
use Rattle.ledger.specs.declared.Verdict.{Verdict}
use Rattle.ledger_file.specs.Page.{page, page_line_of}
use Rattle.ledger_file.specs.Parts.{Part, parts_text, pages_of, verdicts_of, Summable}
use Rattle.ledger_file.specs.Resume.{resumed}
use Rattle.ledger_file.specs.Sums.{AddsUp, name_at}
use Rattle.ledger_file.specs.declared.AddedUp.{AddedUp}

-- a page's line is read as the length of its name, the verdict's number, and the heads where it is counted
abbrev pub PageLineReadBack : Type 0
PageLineReadBack =
    (name : List ℕ) (v : Verdict) (b : Ledger) → v.number ≤ 4294967295 → v.heads ≤ 4294967295
    → page_line_of (bare_line name v b) ≡ page (length name) v.number (elim (is_counted v) [ true ↦ v.heads | false ↦ 0 ])

-- a run goes on behind the line that was written of a page, with the books that were behind it
abbrev pub RunGoesOn : Type 0
RunGoesOn =
    (name : List ℕ) (v : Verdict) (b : Ledger) → v.number ≤ 4294967295 → has_room b v ≡ true
    → resumed (bare_line name v (booked b v)) name b ≡ record { good = true; ledger = booked b v }

-- nothing is wrong; the books are those of all pages of all runs, in their order, and they balance
pub record AddsAll (quota : ℤ) (ps : List Part) (r : AddedUp) : Type 0 where
  pub number : r.number ≡ 0
  pub books : r.ledger ≡ booked_all (opened quota) (verdicts_of (pages_of ps))
  pub balanced : Balanced quota (verdicts_of (pages_of ps)) r.ledger

-- what runs wrote, each with its own quota, one behind the other, is added up to the books of all their pages
abbrev pub PartsAddUp : Type 0
PartsAddUp =
    (quota : ℤ) (ps : List Part) (starts : List ℕ) (r : AddedUp) (starts' : List ℕ) → Summable (length starts) (pages_of ps) → AddsUp (parts_text ps) quota starts r starts' → AddsAll quota ps r

-- whatever the text is, of the pages in the books no two have one name: their lines begin where the lent array says
abbrev pub NoNameTwice : Type 0
NoNameTwice =
    (text : List ℕ) (quota : ℤ) (starts : List ℕ) (r : AddedUp) (starts' : List ℕ) → AddsUp text quota starts r starts'
    → (i j : ℕ) → i < j → j < r.ledger.pages → name_at text (get_or starts' i 0) ≡ name_at text (get_or starts' j 0) → ⊥
