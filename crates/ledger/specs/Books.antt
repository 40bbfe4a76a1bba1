-- The books: what a verdict changes in them.
use Rattle.std.specs.Prelude.{Bool, true, false, not, ◌&&◌, List, [], ◌∷◌, ℕ, suc, ◌+◌, eqb, leb, ltb, ℤ, pos, negsuc, ◌-ℤ◌}
use Rattle.ledger.specs.declared.Ledger.{Ledger}
use Rattle.ledger.specs.declared.Verdict.{Verdict}

abbrev pub is_counted : Verdict → Bool
is_counted v = eqb v.number 0

-- "quota left": below zero the bookings are over
abbrev pub left : Ledger → ℤ
left b = b.quota -ℤ pos b.heads

-- whether the quota is passed, and how far a number lies from zero
abbrev pub is_below : ℤ → Bool
is_below (pos n) = false
is_below (negsuc n) = true

abbrev pub size : ℤ → ℕ
size (pos n) = n
size (negsuc n) = suc n

-- what a run ends with: 0 where every page was counted and the quota is not passed
abbrev pub status_of : Ledger → ℕ
status_of b = elim (eqb b.looked 0 && not (is_below (left b))) [ true ↦ 0 | false ↦ 1 ]

-- a page that is counted takes its heads off; one that is not takes nothing off, and is to be looked at
unfoldable pub booked : Ledger → Verdict → Ledger
booked b v =
    elim (is_counted v) [
      | true ↦ record { quota = b.quota; heads = b.heads + v.heads; pages = suc b.pages; looked = b.looked }
      | false ↦ record { quota = b.quota; heads = b.heads; pages = suc b.pages; looked = suc b.looked }
    ]

-- Books that have room for a page more: their numbers have 32 bits
unfoldable pub has_room : Ledger → Verdict → Bool
has_room b v = ltb b.pages 4294967295 && (ltb b.looked 4294967295 && leb (b.heads + v.heads) 4294967295)

-- books that have none stay as they are
unfoldable pub booked_in : Ledger → Verdict → Ledger
booked_in b v = elim (has_room b v) [ true ↦ booked b v | false ↦ b ]

-- the books behind a list of pages
unfoldable pub booked_all : Ledger → List Verdict → Ledger
booked_all b [] = b
booked_all b (v ∷ vs) = booked_all (booked b v) vs
