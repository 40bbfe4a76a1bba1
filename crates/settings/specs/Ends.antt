-- What the end of a page may have beside its number, by 01's list. A form in steps holds its end between calls, and can hold no other.
use Rattle.std.specs.Prelude.{◌≡◌, ◌⊎◌, ℕ, ◌<◌}

pub record Allowed (n place bytes loose : ℕ) : Type 0 where
  -- the list's last column: bytes come with 0 alone
  pub no_bytes : (n ≡ 0 → ⊥) → bytes ≡ 0
  -- a place comes with 1, 2 and 3: "for other answers it is 0" (A7)
  pub no_place : (n ≡ 0) ⊎ (3 < n) → place ≡ 0
  -- 1 to 5 leave an unfinished row: "After 0 there are no loose entries", nor after 14, which is said in the place of a 0 (A12)
  pub no_loose : (n ≡ 0) ⊎ (5 < n) → loose ≡ 0
