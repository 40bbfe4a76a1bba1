-- The books balance. Assumes nothing.
use mathlib.Core.Path.{◌≡◌, refl, sym, ap, ◌∙◌}
use mathlib.Core.Bool.{Bool, true, false}
use mathlib.Core.List.{List, [], ◌∷◌}
use Prim.Native.Nat.{ℕ, suc, ◌+◌}
use native.Mathlib.Omega.{arith}
use lib.IntN.{ℤ, pos, ◌+ℤ◌, -ℤ-+ℤ_cancel}
use lib.ListN.{length}
use Rattle.ledger.specs.Books.{is_counted, left, booked, booked_all}
use Rattle.ledger.specs.Balance.{heads_of, looked_of, opened, Balanced, Stays}
use Rattle.ledger.specs.declared.Ledger.{Ledger}
use Rattle.ledger.specs.declared.Verdict.{Verdict}

-- the books behind a list of pages, from any books on
pub record Sums (b : Ledger) (vs : List Verdict) (after : Ledger) : Type 0 where
  pub quota : after.quota ≡ b.quota
  pub heads : after.heads ≡ b.heads + heads_of vs
  pub pages : after.pages ≡ b.pages + length vs
  pub looked : after.looked ≡ b.looked + looked_of vs

pub sums : (b : Ledger) (vs : List Verdict) → Sums b vs (booked_all b vs)
unfolding booked_all booked heads_of looked_of
sums b [] = record { quota = refl; heads = omega arith; pages = omega arith; looked = omega arith }
sums b (v ∷ vs) = by (is_counted v) refl (sums (booked b v) vs)
  where
    by : (t : Bool) → is_counted v ≡ t → Sums (booked b v) vs (booked_all (booked b v) vs) → Sums b (v ∷ vs) (booked_all (booked b v) vs)
    by true e s =
        let z : booked b v ≡ record { quota = b.quota; heads = b.heads + v.heads; pages = suc b.pages; looked = b.looked } = rw (booked, e) in
        let h : heads_of (v ∷ vs) ≡ v.heads + heads_of vs = rw (heads_of, e) in
        let l : looked_of (v ∷ vs) ≡ looked_of vs = rw (looked_of, e) in
        record {
          quota = s.quota ∙ ap (λ (x : Ledger). x.quota) z;
          heads = omega (arith, s.heads, ap (λ (x : Ledger). x.heads) z, h);
          pages = omega (arith, s.pages, ap (λ (x : Ledger). x.pages) z);
          looked = omega (arith, s.looked, ap (λ (x : Ledger). x.looked) z, l);
        }
    by false e s =
        let z : booked b v ≡ record { quota = b.quota; heads = b.heads; pages = suc b.pages; looked = suc b.looked } = rw (booked, e) in
        let h : heads_of (v ∷ vs) ≡ heads_of vs = rw (heads_of, e) in
        let l : looked_of (v ∷ vs) ≡ suc (looked_of vs) = rw (looked_of, e) in
        record {
          quota = s.quota ∙ ap (λ (x : Ledger). x.quota) z;
          heads = omega (arith, s.heads, ap (λ (x : Ledger). x.heads) z, h);
          pages = omega (arith, s.pages, ap (λ (x : Ledger). x.pages) z);
          looked = omega (arith, s.looked, ap (λ (x : Ledger). x.looked) z, l);
        }

pub books-balance : (quota : ℤ) (vs : List Verdict) → Balanced quota vs (booked_all (opened quota) vs)
books-balance quota vs =
    let s = sums (opened quota) vs in
    let h : (booked_all (opened quota) vs).heads ≡ heads_of vs = omega (arith, s.heads) in
    record {
      balance =
          sym s.quota
          ∙ sym (-ℤ-+ℤ_cancel (booked_all (opened quota) vs).quota (pos (booked_all (opened quota) vs).heads))
          ∙ ap (λ (n : ℕ). left (booked_all (opened quota) vs) +ℤ pos n) h;
      heads = h;
      pages = omega (arith, s.pages);
      looked = omega (arith, s.looked);
    }

pub uncounted-stays : (b : Ledger) (v : Verdict) → is_counted v ≡ false → Stays b (booked b v)
unfolding booked
uncounted-stays b v e =
    let z : booked b v ≡ record { quota = b.quota; heads = b.heads; pages = suc b.pages; looked = suc b.looked } = rw (booked, e) in
    record { left_is = ap left z; pages = ap (λ (x : Ledger). x.pages) z; looked = ap (λ (x : Ledger). x.looked) z }
