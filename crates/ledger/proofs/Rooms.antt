-- Room in the books, and the books behind a page. Assumes nothing.
use mathlib.Core.Path.{◌≡◌, refl, sym, ap, ap₂, ◌∙◌}
use mathlib.Core.Bool.{Bool, true, false, ◌&&◌}
use Prim.Native.Nat.{ℕ, suc, ◌+◌, ◌≤◌, ◌<◌}
use native.Mathlib.Omega.{arith}
use lib.Dec.{leb, ltb}
use lib.IntN.{ℤ}
use borrow.Author.Tests.{ltb-true, leb-true, lt-ltb, le-ltb, eq-eqb, ne_eqb}
use Rattle.ledger.specs.Books.{booked, has_room, booked_in}
use Rattle.ledger.specs.declared.Ledger.{Ledger}
use Rattle.ledger.specs.declared.Verdict.{Verdict}

abbrev made : ℤ → ℕ → ℕ → ℕ → Ledger
made q heads pages looked = record { quota = q; heads = heads; pages = pages; looked = looked }

module _ (b : Ledger) (v : Verdict) where
  pub no_pages : 4294967294 < b.pages → false ≡ has_room b v
  unfolding has_room
  no_pages h = sym (rw (le-ltb b.pages 4294967295 (omega arith)))

  pub no-looked : b.pages ≤ 4294967294 → 4294967294 < b.looked → false ≡ has_room b v
  unfolding has_room
  no-looked h l = sym (rw (lt-ltb b.pages 4294967295 (omega arith), le-ltb b.looked 4294967295 (omega arith)))

  pub heads-room : b.pages ≤ 4294967294 → b.looked ≤ 4294967294 → leb (b.heads + v.heads) 4294967295 ≡ has_room b v
  unfolding has_room
  heads-room h l = sym (rw (lt-ltb b.pages 4294967295 (omega arith), lt-ltb b.looked 4294967295 (omega arith)))

  -- what room is
  pub record Fits : Type 0 where
    pub pages : b.pages < 4294967295
    pub looked : b.looked < 4294967295
    pub heads : b.heads + v.heads ≤ 4294967295

  pub fits : has_room b v ≡ true → Fits
  unfolding has_room
  fits e = by (ltb b.pages 4294967295) (ltb b.looked 4294967295) (leb (b.heads + v.heads) 4294967295) refl refl refl e
    where
      by : (x y z : Bool) → ltb b.pages 4294967295 ≡ x → ltb b.looked 4294967295 ≡ y → leb (b.heads + v.heads) 4294967295 ≡ z → (x && (y && z)) ≡ true → Fits
      by true true true p q r e' = record { pages = ltb-true b.pages 4294967295 p; looked = ltb-true b.looked 4294967295 q; heads = leb-true (b.heads + v.heads) 4294967295 r }
      by true true false p q r e' = absurd (let z : ◌≡◌ {A = ℕ} 0 1 = cc in omega arith)
      by true false z p q r e' = absurd (let z : ◌≡◌ {A = ℕ} 0 1 = cc in omega arith)
      by false y z p q r e' = absurd (let z : ◌≡◌ {A = ℕ} 0 1 = cc in omega arith)

  pub stays : has_room b v ≡ false → b ≡ booked_in b v
  unfolding booked_in
  stays e = sym (rw (booked_in, e))

  pub counts : {q : ℤ} → q ≡ b.quota → has_room b v ≡ true → v.number ≡ 0
      → ◌≡◌ {A = Ledger} (record { quota = q; heads = b.heads + v.heads; pages = b.pages + 1; looked = b.looked }) (booked_in b v)
  unfolding booked_in booked
  counts {q} e r z =
      let s : b.pages + 1 ≡ suc b.pages = omega arith in
      ap₂ (λ (x : ℤ) (n : ℕ). made x (b.heads + v.heads) n b.looked) e s ∙ sym (rw (booked_in, r, booked, eq-eqb v.number 0 z))

  pub looks : {q : ℤ} → q ≡ b.quota → has_room b v ≡ true → (v.number ≡ 0 → ⊥)
      → ◌≡◌ {A = Ledger} (record { quota = q; heads = b.heads; pages = b.pages + 1; looked = b.looked + 1 }) (booked_in b v)
  unfolding booked_in booked
  looks {q} e r z =
      let s : b.pages + 1 ≡ suc b.pages = omega arith in
      let t : b.looked + 1 ≡ suc b.looked = omega arith in
      ap₂ (λ (x : ℤ) (n : ℕ). made x b.heads n (b.looked + 1)) e s
      ∙ ap (λ (n : ℕ). made b.quota b.heads (suc b.pages) n) t
      ∙ sym (rw (booked_in, r, booked, ne_eqb v.number 0 z))
