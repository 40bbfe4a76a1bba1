-- The books balance, over any list of pages.
use Rattle.std.specs.Prelude.{◌≡◌, true, false, List, [], ◌∷◌, ℕ, suc, ◌+◌, ℤ, pos, ◌+ℤ◌, length}
use Rattle.ledger.specs.Books.{is_counted, left}
use Rattle.ledger.specs.declared.Ledger.{Ledger}
use Rattle.ledger.specs.declared.Verdict.{Verdict}

-- the heads of the pages that were counted
unfoldable pub heads_of : List Verdict → ℕ
heads_of [] = 0
heads_of (v ∷ vs) = elim (is_counted v) [ true ↦ v.heads + heads_of vs | false ↦ heads_of vs ]

-- how many pages were not
unfoldable pub looked_of : List Verdict → ℕ
looked_of [] = 0
looked_of (v ∷ vs) = elim (is_counted v) [ true ↦ looked_of vs | false ↦ suc (looked_of vs) ]

-- books that begin with a quota
abbrev pub opened : ℤ → Ledger
opened quota = record { quota = quota; heads = 0; pages = 0; looked = 0 }

-- "quota at the start = quota left + heads of the pages counted"; every page is counted among the pages, and each that is not counted among those to be looked at
pub record Balanced (quota : ℤ) (vs : List Verdict) (b : Ledger) : Type 0 where
  pub balance : quota ≡ left b +ℤ pos (heads_of vs)
  pub heads : b.heads ≡ heads_of vs
  pub pages : b.pages ≡ length vs
  pub looked : b.looked ≡ looked_of vs

-- "a page that is not counted takes nothing off and is among those to be looked at"
pub record Stays (b after : Ledger) : Type 0 where
  pub left_is : left after ≡ left b
  pub pages : after.pages ≡ suc b.pages
  pub looked : after.looked ≡ suc b.looked
