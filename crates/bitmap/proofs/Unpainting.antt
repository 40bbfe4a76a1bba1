-- What reading packed rows answers, test by test. Assumes nothing.
use mathlib.Core.Path.{◌≡◌, refl, sym, ap, ◌∙◌}
use mathlib.Core.Bool.{Bool, true, false, true≢false}
use mathlib.Core.List.{List, append-nil}
use Prim.Native.Nat.{ℕ, zero, suc, ◌≤◌, ◌<◌}
use native.Mathlib.Omega.{arith}
use lib.Dec.{ltb}
use lib.ListN.{length}
use borrow.Author.Tests.{ltb-false, lt-ltb, le-ltb}
use Rattle.rules.specs.Pages as Page
use Rattle.rules.specs.Pages.{most_bytes, entries, joined, ends_from, overlaid, changes_after, ends_after}
use Rattle.rules.proofs.Store.{overlaid-nothing}
use Rattle.answer.specs.Answer.{answer_of}
use Rattle.answer.specs.declared.Answer.{Answer}
use Rattle.bitmap.specs.Packed.{fit_tests, reach, rows_at, read_rows, unpaint}
use Rattle.bitmap.specs.Outcome.{Unpaints}
use Rattle.bitmap.specs.Turning.{Lies, Rows}
use Rattle.bitmap.proofs.Fitting.{Fits, fits, tests-passed}
use Rattle.bitmap.proofs.Tracings.{length-rows}

module _ (changes ends : List ℕ) where
  -- a refusal leaves the store as it is
  refuses : (n : ℕ) {r : Answer} {changes' ends' : List ℕ} → r ≡ answer_of (Page.refusal n) → changes' ≡ changes → ends' ≡ ends
      → Unpaints (Page.refusal n) changes ends r changes' ends'
  unfolding changes_after ends_after joined ends_from
  refuses n a c e = record { answer = a; entered = c ∙ sym (overlaid-nothing changes); ended = e ∙ sym (overlaid-nothing ends) }

  module _ (one : Bool) (width stride rows : ℕ) (bytes : List ℕ) where
    abbrev all : List (List ℕ)
    all = rows_at one width stride bytes rows 0

    abbrev answers : Answer → List ℕ → List ℕ → Type 0
    answers r changes' ends' = Unpaints (unpaint one width stride rows bytes (length changes) (length ends)) changes ends r changes' ends'

    pub unpaint-refused : {n : ℕ} → n ≡ fit_tests width stride rows (length bytes) → (n ≡ 0 → ⊥) → {r : Answer} → r ≡ answer_of (Page.refusal n)
        → Unpaints (unpaint one width stride rows bytes (length changes) (length ends)) changes ends r changes ends
    unfolding unpaint
    unpaint-refused {n} e h a = by n e h a
      where
        by : (n : ℕ) → n ≡ fit_tests width stride rows (length bytes) → (n ≡ 0 → ⊥) → {r : Answer} → r ≡ answer_of (Page.refusal n) → answers r changes ends
        by zero e h a = absurd (h refl)
        by (suc n) e h a = rw (unpaint, ← e) (refuses (suc n) a refl refl)

    module _ (e : 0 ≡ fit_tests width stride rows (length bytes)) where
      pub unpaint-5 : length ends < rows → {r : Answer} → r ≡ answer_of (Page.refusal 5)
          → Unpaints (unpaint one width stride rows bytes (length changes) (length ends)) changes ends r changes ends
      unfolding unpaint
      unpaint-5 h a = rw (unpaint, ← e, lt-ltb (length ends) rows h) (refuses 5 a refl refl)

      module _ (places : rows ≤ length ends) where
        -- what counting asks, and recording
        pub lies-counted : width < 4294967296 → Lies one width stride rows bytes false (length changes) (length ends)
        lies-counted l =
            let f = fits width stride rows (length bytes) e in
            record {
              some = omega (arith, f.some);
              few = omega (arith, f.few);
              small = f.short;
              wide = f.wide;
              reached = f.room;
              roomy = λ w. absurd (true≢false (sym w));
              ended = λ w. absurd (true≢false (sym w));
            }

        pub lies-recorded : {n : ℕ} {changes₁ ends₁ : List ℕ} → width < 4294967296 → Rows (rows_at one width stride bytes rows 0) false changes ends n changes₁ ends₁
            → n ≤ length changes → Lies one width stride rows bytes true (length changes₁) (length ends₁)
        lies-recorded l c h =
            let f = fits width stride rows (length bytes) e in
            record {
              some = omega (arith, f.some);
              few = omega (arith, f.few);
              small = f.short;
              wide = f.wide;
              reached = f.room;
              roomy = λ w. omega (arith, h, c.count, ap length c.entered);
              ended = λ w. omega (arith, places, ap length c.ended);
            }

        pub unpaint-4 : {n : ℕ} {changes' ends' : List ℕ} → Rows (rows_at one width stride bytes rows 0) false changes ends n changes' ends' → length changes < n
            → {r : Answer} → r ≡ answer_of (Page.refusal 4)
            → Unpaints (unpaint one width stride rows bytes (length changes) (length ends)) changes ends r changes' ends'
        unfolding unpaint
        unpaint-4 c h a =
            rw (unpaint, ← e, le-ltb (length ends) rows places, lt-ltb (length changes) (entries all) (omega (arith, c.count)))
            (refuses 4 a c.entered c.ended)

        pub unpaint-done : {n end m : ℕ} {changes₁ ends₁ changes' ends' : List ℕ} → Rows (rows_at one width stride bytes rows 0) false changes ends n changes₁ ends₁
            → n ≤ length changes → end ≡ reach width stride rows
            → Rows (rows_at one width stride bytes rows 0) true changes₁ ends₁ m changes' ends'
            → Unpaints (unpaint one width stride rows bytes (length changes) (length ends)) changes ends
            (record { number = 0; mark = 0; rows = rows; entries = n; loose = 0; bytes = end; place = 0 }) changes' ends'
        unfolding unpaint changes_after ends_after
        unpaint-done c h f t =
            rw (unpaint, ← e, le-ltb (length ends) rows places, le-ltb (length changes) (entries all) (omega (arith, c.count))) (record {
              answer = rw (c.count, f, length-rows one width stride bytes rows 0) refl;
              entered = t.entered ∙ ap (overlaid (joined all)) c.entered ∙ ap (λ (l : List ℕ). overlaid l changes) (sym (append-nil (joined all)));
              ended = t.ended ∙ ap (overlaid (ends_from 0 all)) c.ended;
            })

-- what a 0 tells
module _ (one : Bool) (width stride rows : ℕ) (bytes : List ℕ) (room places : ℕ) where
  pub record IsRead (a : Page.Answer) : Type 0 where
    pub fit : Fits width stride rows (length bytes)
    pub placed : rows ≤ places
    pub roomy : entries (rows_at one width stride bytes rows 0) ≤ room
    pub is : a ≡ read_rows (reach width stride rows) (rows_at one width stride bytes rows 0)

  pub is_read : (unpaint one width stride rows bytes room places).number ≡ 0 → IsRead (unpaint one width stride rows bytes room places)
  unfolding unpaint
  is_read = by (fit_tests width stride rows (length bytes)) refl (ltb places rows) refl (ltb room (entries (rows_at one width stride bytes rows 0))) refl
    where
      by : (n : ℕ) → n ≡ fit_tests width stride rows (length bytes) → (p : Bool) → ltb places rows ≡ p
          → (q : Bool) → ltb room (entries (rows_at one width stride bytes rows 0)) ≡ q
          → (unpaint one width stride rows bytes room places).number ≡ 0 → IsRead (unpaint one width stride rows bytes room places)
      by (suc n) e p f q g = rw (unpaint, ← e) (λ z. absurd (omega (arith, z)))
      by zero e true f q g = rw (unpaint, ← e, f) (λ z. absurd (let k : ◌≡◌ {A = ℕ} 5 0 = z in omega (arith, k)))
      by zero e false f true g = rw (unpaint, ← e, f, g) (λ z. absurd (let k : ◌≡◌ {A = ℕ} 4 0 = z in omega (arith, k)))
      by zero e false f false g =
          rw (unpaint, ← e, f, g) (λ z. record {
            fit = fits width stride rows (length bytes) e;
            placed = ltb-false places rows f;
            roomy = ltb-false room (entries (rows_at one width stride bytes rows 0)) g;
            is = refl;
          })

  -- and what gives it
  pub reads : Fits width stride rows (length bytes) → rows ≤ places → entries (rows_at one width stride bytes rows 0) ≤ room
      → unpaint one width stride rows bytes room places ≡ read_rows (reach width stride rows) (rows_at one width stride bytes rows 0)
  unfolding unpaint
  reads f p r =
      let e = tests-passed width stride rows (length bytes) f.some f.few f.short f.wide f.room in
      rw (unpaint, ← e, le-ltb places rows p, le-ltb room (entries (rows_at one width stride bytes rows 0)) r) refl
