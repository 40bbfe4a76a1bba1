-- What runs write, one ledger behind the other: a line for each page, and then the total's.
use Rattle.std.specs.Prelude.{◌≡◌, List, [], ◌∷◌, ◌++◌, map, ℕ, ◌≤◌, ◌<◌, ℤ, length, get_or}
use Rattle.ledger.specs.Balance.{opened, heads_of}
use Rattle.ledger.specs.Books.{booked_all}
use Rattle.ledger.specs.Lines.{Paged, ledger_text}
use Rattle.ledger.specs.Said.{shown, no_verdict, total_line}
use Rattle.ledger.specs.declared.Verdict.{Verdict}

-- a run: its quota, and its pages with their verdicts
pub record Part : Type 0 where
  pub quota : ℤ
  pub pages : List Paged

abbrev pub verdicts_of : List Paged → List Verdict
verdicts_of ps = map (λ (p : Paged). p.verdict) ps

-- the names as they are shown
abbrev pub names_of : List Paged → List (List ℕ)
names_of ps = map (λ (p : Paged). shown p.name) ps

unfoldable pub part_text : Part → List ℕ
part_text p = ledger_text (opened p.quota) p.pages ++ total_line (booked_all (opened p.quota) (verdicts_of p.pages))

-- of several runs: what they wrote, and all their pages
unfoldable pub parts_text : List Part → List ℕ
parts_text [] = []
parts_text (p ∷ ps) = part_text p ++ parts_text ps

unfoldable pub pages_of : List Part → List Paged
pages_of [] = []
pages_of (p ∷ ps) = p.pages ++ pages_of ps

-- no two are the same
abbrev pub AllDifferent : List (List ℕ) → Type 0
AllDifferent names = (i j : ℕ) → i < j → j < length names → get_or names i [] ≡ get_or names j [] → ⊥

-- numbers of 32 bits, as every verdict has
abbrev pub Held : List Verdict → Type 0
Held vs = (k : ℕ) → k < length vs → (get_or vs k no_verdict).number ≤ 4294967295

-- pages of different names, for which there is room, also in the books
pub record Summable (room : ℕ) (ps : List Paged) : Type 0 where
  pub different : AllDifferent (names_of ps)
  pub held : Held (verdicts_of ps)
  pub room_for : length ps ≤ room
  pub pages : length ps ≤ 4294967295
  pub heads : heads_of (verdicts_of ps) ≤ 4294967295
