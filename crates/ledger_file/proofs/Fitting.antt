-- Books that have room for a list of pages. Assumes nothing.
use mathlib.Core.Path.{◌≡◌, refl, ap}
use mathlib.Core.Bool.{Bool, true, false}
use mathlib.Core.List.{List, [], ◌∷◌, ◌++◌}
use Prim.Native.Nat.{ℕ, suc, ◌+◌, ◌≤◌, ◌<◌}
use native.Mathlib.Omega.{arith}
use lib.ListN.{length, length-append}
use borrow.Author.Tests.{lt-ltb, le-leb}
use Rattle.form_file.specs.Words.{none}
use Rattle.ledger.specs.Balance.{heads_of, looked_of}
use Rattle.ledger.specs.Books.{is_counted, booked, has_room, booked_all}
use Rattle.ledger.proofs.Balance.{sums}
use Rattle.ledger.specs.declared.Ledger.{Ledger}
use Rattle.ledger.specs.declared.Verdict.{Verdict}
use Rattle.ledger_file.specs.Resume.{verdict_of}
use Rattle.ledger_file.proofs.Rereading.{heads_read}

-- ---- Lists one behind the other

pub heads-append : (vs ws : List Verdict) → heads_of (vs ++ ws) ≡ heads_of vs + heads_of ws
unfolding heads_of
heads-append [] ws = omega arith
heads-append (v ∷ vs) ws = by (is_counted v) (heads-append vs ws)
  where
    by : (t : Bool) → heads_of (vs ++ ws) ≡ heads_of vs + heads_of ws
        → elim t [ true ↦ v.heads + heads_of (vs ++ ws) | false ↦ heads_of (vs ++ ws) ] ≡ elim t [ true ↦ v.heads + heads_of vs | false ↦ heads_of vs ] + heads_of ws
    by true e = omega arith
    by false e = e

pub looked-few : (vs : List Verdict) → looked_of vs ≤ length vs
unfolding looked_of
looked-few [] = omega arith
looked-few (v ∷ vs) = by (is_counted v) (looked-few vs)
  where
    by : (t : Bool) → looked_of vs ≤ length vs → elim t [ true ↦ looked_of vs | false ↦ suc (looked_of vs) ] ≤ length (v ∷ vs)
    by true h = omega arith
    by false h = omega arith

pub booked-append : (b : Ledger) (vs ws : List Verdict) → booked_all b (vs ++ ws) ≡ booked_all (booked_all b vs) ws
unfolding booked_all
booked-append b [] ws = refl
booked-append b (v ∷ vs) ws = booked-append (booked b v) vs ws

-- ---- One page

counted : (b : Ledger) (v : Verdict) → is_counted v ≡ true → booked b v ≡ record { quota = b.quota; heads = b.heads + v.heads; pages = suc b.pages; looked = b.looked }
unfolding booked
counted b v e = rw (booked, e)

refused : (b : Ledger) (v : Verdict) → is_counted v ≡ false → booked b v ≡ record { quota = b.quota; heads = b.heads; pages = suc b.pages; looked = suc b.looked }
unfolding booked
refused b v e = rw (booked, e)

heads-counted : (v : Verdict) (vs : List Verdict) → is_counted v ≡ true → heads_of (v ∷ vs) ≡ v.heads + heads_of vs
unfolding heads_of
heads-counted v vs e = rw (heads_of, e)

heads-refused : (v : Verdict) (vs : List Verdict) → is_counted v ≡ false → heads_of (v ∷ vs) ≡ heads_of vs
unfolding heads_of
heads-refused v vs e = rw (heads_of, e)

-- ---- Room

pub record Holds (b : Ledger) (vs : List Verdict) : Type 0 where
  pub pages : b.pages + length vs ≤ 4294967295
  pub heads : b.heads + heads_of vs ≤ 4294967295
  pub looked : b.looked ≤ b.pages

pub record First (b : Ledger) (v : Verdict) (vs : List Verdict) : Type 0 where
  pub room : has_room b (verdict_of v.number (heads_read v)) ≡ true
  pub small : is_counted v ≡ true → v.heads < none
  pub then : Holds (booked b v) vs

pub holds-first : (b : Ledger) (v : Verdict) (vs : List Verdict) → Holds b (v ∷ vs) → First b v vs
unfolding has_room
holds-first b v vs h = by (is_counted v) refl
  where
    roomy : (n : ℕ) → heads_read v ≡ n → b.heads + n ≤ 4294967295 → has_room b (verdict_of v.number (heads_read v)) ≡ true
    roomy n e l =
        rw (lt-ltb b.pages 4294967295 (omega (arith, h.pages)), lt-ltb b.looked 4294967295 (omega (arith, h.pages, h.looked)))
        (le-leb (b.heads + heads_read v) 4294967295 (omega (arith, e)))

    by : (t : Bool) → is_counted v ≡ t → First b v vs
    by true e =
        let z : booked b v ≡ record { quota = b.quota; heads = b.heads + v.heads; pages = suc b.pages; looked = b.looked } = counted b v e in
        let k : heads_of (v ∷ vs) ≡ v.heads + heads_of vs = heads-counted v vs e in
        record {
          room = roomy v.heads (ap (λ (t : Bool). elim t [ true ↦ v.heads | false ↦ 0 ]) e) (omega (arith, h.heads, k));
          small = λ q. omega (arith, h.heads, k);
          then = record {
            pages = omega (arith, h.pages, ap (λ (x : Ledger). x.pages) z);
            heads = omega (arith, h.heads, k, ap (λ (x : Ledger). x.heads) z);
            looked = omega (arith, h.looked, ap (λ (x : Ledger). x.pages) z, ap (λ (x : Ledger). x.looked) z);
          };
        }
    by false e =
        let z : booked b v ≡ record { quota = b.quota; heads = b.heads; pages = suc b.pages; looked = suc b.looked } = refused b v e in
        let k : heads_of (v ∷ vs) ≡ heads_of vs = heads-refused v vs e in
        record {
          room = roomy 0 (ap (λ (t : Bool). elim t [ true ↦ v.heads | false ↦ 0 ]) e) (omega (arith, h.heads));
          small = λ q. absurd (let w : ◌≡◌ {A = ℕ} 0 1 = cc in omega arith);
          then = record {
            pages = omega (arith, h.pages, ap (λ (x : Ledger). x.pages) z);
            heads = omega (arith, h.heads, k, ap (λ (x : Ledger). x.heads) z);
            looked = omega (arith, h.looked, ap (λ (x : Ledger). x.pages) z, ap (λ (x : Ledger). x.looked) z);
          };
        }

-- the pages of a part, and those behind it
pub holds-front : (b : Ledger) (vs ws : List Verdict) → Holds b (vs ++ ws) → Holds b vs
holds-front b vs ws h = record { pages = omega (arith, h.pages, length-append vs ws); heads = omega (arith, h.heads, heads-append vs ws); looked = h.looked }

pub holds-behind : (b : Ledger) (vs ws : List Verdict) → Holds b (vs ++ ws) → Holds (booked_all b vs) ws
holds-behind b vs ws h =
    let s = sums b vs in record {
      pages = omega (arith, h.pages, length-append vs ws, s.pages);
      heads = omega (arith, h.heads, heads-append vs ws, s.heads);
      looked = omega (arith, h.looked, s.looked, s.pages, looked-few vs);
    }
