-- The tests of the bytes, one after the other, and the answers that they decide. Assumes nothing.
use mathlib.Core.Path.{◌≡◌, refl, sym, ◌∙◌}
use mathlib.Core.Bool.{Bool, true, false, cond, ◌||◌}
use mathlib.Core.List.{List}
use Prim.Native.Nat.{ℕ, zero, suc, ◌+◌, ◌-◌, ◌*◌, ◌/◌, ◌≤◌, ◌<◌}
use native.Mathlib.Omega.{arith}
use native.Mathlib.Nat.{le-div_iff_mul-le, div-lt_iff_lt-mul}
use lib.Dec.{eqb, leb, ltb}
use lib.ListN.{length}
use borrow.Author.Tests.{eq-eqb, ne_eqb, eqb-false, lt-ltb, le-ltb, le-leb, lt-leb, leb-true, ltb-false}
use Rattle.rules.specs.Pages.{most_bytes, no_line}
use Rattle.rules.specs.Rows.{bytes_to}
use Rattle.rules.specs.Write.{rows_in}
use Rattle.row_store.specs.Store.{good_rows}
use Rattle.answer.specs.declared.Answer.{Answer}
use Rattle.bitmap.specs.Packed.{fit_tests, reach, Painted, paint, painted_from}
use Rattle.bitmap.specs.Outcome.{answer_for, Paints}
use Rattle.bitmap.specs.Steps.{Sheets}

-- ---- Rows in bytes

-- one row or more, by a quotient
pub reach-some : (width stride rows : ℕ) → (rows ≡ 0 → ⊥) → reach width stride rows ≡ (rows - 1) * stride + bytes_to width
reach-some width stride zero h = absurd (h refl)
reach-some width stride (suc rows) h = let e : rows ≡ suc rows - 1 = omega arith in rw (← e) refl

module _ (width stride rows size : ℕ) (some : rows ≡ 0 → ⊥) where
  pub reach-short : size < bytes_to width → size < reach width stride rows
  reach-short h = rw (reach-some width stride rows some) (omega arith)

  module _ (pos : 0 < stride) (h : bytes_to width ≤ size) where
    pub reach-past : (size - bytes_to width) / stride < rows - 1 → size < reach width stride rows
    reach-past l = rw (reach-some width stride rows some) (let m = (div-lt_iff_lt-mul pos).0 l in omega arith)

    pub reach-fits : rows - 1 ≤ (size - bytes_to width) / stride → reach width stride rows ≤ size
    reach-fits l = rw (reach-some width stride rows some) (let m = (le-div_iff_mul-le pos).0 l in omega arith)

-- ---- The tests

module _ (width stride rows size : ℕ) where
  pub tests-zero : width ≡ 0 → 6 ≡ fit_tests width stride rows size
  tests-zero e = sym (rw (eq-eqb width 0 e))

  module _ (some : width ≡ 0 → ⊥) where
    pub tests-most : width ≡ 4294967295 → 6 ≡ fit_tests width stride rows size
    tests-most e = sym (rw (ne_eqb width 0 some, eq-eqb width 4294967295 e))

    module _ (few : width ≡ 4294967295 → ⊥) where
      pub tests-long : most_bytes < size → 7 ≡ fit_tests width stride rows size
      tests-long h = sym (rw (ne_eqb width 0 some, ne_eqb width 4294967295 few, lt-ltb most_bytes size h))

      module _ (short : size ≤ most_bytes) where
        -- the first two are passed
        past_two : fit_tests width stride rows size ≡ cond (ltb stride (bytes_to width)) 10 (cond (leb (reach width stride rows) size) 0 9)
        past_two = rw (ne_eqb width 0 some, ne_eqb width 4294967295 few, le-ltb most_bytes size short)

        pub tests-short : stride < bytes_to width → 10 ≡ fit_tests width stride rows size
        tests-short h = sym (past_two ∙ rw (lt-ltb stride (bytes_to width) h))

        module _ (wide : bytes_to width ≤ stride) where
          pub tests-past : size < reach width stride rows → 9 ≡ fit_tests width stride rows size
          tests-past h = sym (past_two ∙ rw (le-ltb stride (bytes_to width) wide, lt-leb (reach width stride rows) size h))

          pub tests-passed : reach width stride rows ≤ size → 0 ≡ fit_tests width stride rows size
          tests-passed h = sym (past_two ∙ rw (le-ltb stride (bytes_to width) wide, le-leb (reach width stride rows) size h))

-- what passed tests tell
pub record Fits (width stride rows size : ℕ) : Type 0 where
  pub some : width ≡ 0 → ⊥
  pub few : width ≡ 4294967295 → ⊥
  pub short : size ≤ most_bytes
  pub wide : bytes_to width ≤ stride
  pub room : reach width stride rows ≤ size

pub fits : (width stride rows size : ℕ) → 0 ≡ fit_tests width stride rows size → Fits width stride rows size
fits width stride rows size e =
    by (eqb width 0) refl (eqb width 4294967295) refl (ltb most_bytes size) refl (ltb stride (bytes_to width)) refl
    (leb (reach width stride rows) size) refl e
  where
    by : (a : Bool) → eqb width 0 ≡ a → (b : Bool) → eqb width 4294967295 ≡ b → (s : Bool) → ltb most_bytes size ≡ s
        → (c : Bool) → ltb stride (bytes_to width) ≡ c → (d : Bool) → leb (reach width stride rows) size ≡ d
        → ◌≡◌ {A = ℕ} 0 (cond (a || b) 6 (cond s 7 (cond c 10 (cond d 0 9)))) → Fits width stride rows size
    by false a false b false s false c true d e =
        record {
          some = eqb-false width 0 a;
          few = eqb-false width 4294967295 b;
          short = ltb-false most_bytes size s;
          wide = ltb-false stride (bytes_to width) c;
          room = leb-true (reach width stride rows) size d;
        }
    by true a b b' s s' c c' d d' e = absurd (omega (arith, e))
    by false a true b s s' c c' d d' e = absurd (omega (arith, e))
    by false a false b true s c c' d d' e = absurd (omega (arith, e))
    by false a false b false s true c d d' e = absurd (omega (arith, e))
    by false a false b false s false c false d e = absurd (omega (arith, e))

-- none of them is 8
never-eight : (width stride rows size : ℕ) → fit_tests width stride rows size ≡ 8 → ⊥
never-eight width stride rows size = by (no_line width) (ltb most_bytes size) (ltb stride (bytes_to width)) (leb (reach width stride rows) size)
  where
    by : (a s c d : Bool) → ◌≡◌ {A = ℕ} (cond a 6 (cond s 7 (cond c 10 (cond d 0 9)))) 8 → ⊥
    by true s c d e = omega (arith, e)
    by false true c d e = omega (arith, e)
    by false false true d e = omega (arith, e)
    by false false false true e = omega (arith, e)
    by false false false false e = omega (arith, e)

-- ---- Painting

module _ (one : Bool) (width stride : ℕ) (changes ends out : List ℕ) where
  pub paint-refused : {n : ℕ} → n ≡ fit_tests width stride (length ends) (length out) → (n ≡ 0 → ⊥) → {r : Answer} → r ≡ answer_for n 0
      → Paints (paint one width stride changes ends out) r out
  unfolding paint
  paint-refused {n} e h a = by n e h a
    where
      by : (n : ℕ) → n ≡ fit_tests width stride (length ends) (length out) → (n ≡ 0 → ⊥) → {r : Answer} → r ≡ answer_for n 0 → Paints (paint one width stride changes ends out) r out
      by zero e h a = absurd (h refl)
      by (suc n) e h a = rw (paint, ← e) (record { answer = a; bytes = refl })

  module _ (e : 0 ≡ fit_tests width stride (length ends) (length out)) where
    pub paint-bad : good_rows width changes 0 ends ≡ false → {r : Answer} → r ≡ answer_for 8 0 → Paints (paint one width stride changes ends out) r out
    unfolding paint
    paint-bad g a = rw (paint, ← e, g) (record { answer = a; bytes = refl })

    module _ (g : good_rows width changes 0 ends ≡ true) where
      pub sheets : width < 4294967296 → Sheets width stride changes ends (length out)
      sheets l =
          let f = fits width stride (length ends) (length out) e in
          record { some = omega (arith, f.some); few = omega (arith, f.few); wide = f.wide; good = g; room = f.room }

      pub paint-done : {r : Answer} {out' : List ℕ} → r ≡ answer_for 0 (reach width stride (length ends))
          → out' ≡ painted_from one width stride 0 (rows_in 0 changes ends) out → Paints (paint one width stride changes ends out) r out'
      unfolding paint
      paint-done a b = rw (paint, ← e, g) (record { answer = a; bytes = b })

  -- an 8 is the store's
  pub eight-is-bad : (paint one width stride changes ends out).number ≡ 8 → good_rows width changes 0 ends ≡ false
  unfolding paint
  eight-is-bad = by (fit_tests width stride (length ends) (length out)) refl (good_rows width changes 0 ends) refl
    where
      by : (n : ℕ) → n ≡ fit_tests width stride (length ends) (length out) → (g : Bool) → good_rows width changes 0 ends ≡ g
          → (paint one width stride changes ends out).number ≡ 8 → good_rows width changes 0 ends ≡ false
      by (suc n) e g f = rw (paint, ← e) (λ z. absurd (never-eight width stride (length ends) (length out) (sym e ∙ z)))
      by zero e false f = λ z. f
      by zero e true f = rw (paint, ← e, f) (λ z. absurd (let q : ◌≡◌ {A = ℕ} 0 8 = z in omega (arith, q)))

  -- what a 0 tells
  pub record IsPainted (p : Painted) : Type 0 where
    pub fit : Fits width stride (length ends) (length out)
    pub good : good_rows width changes 0 ends ≡ true
    pub is : p.bytes ≡ painted_from one width stride 0 (rows_in 0 changes ends) out

  pub is-painted : (paint one width stride changes ends out).number ≡ 0 → IsPainted (paint one width stride changes ends out)
  unfolding paint
  is-painted = by (fit_tests width stride (length ends) (length out)) refl (good_rows width changes 0 ends) refl
    where
      by : (n : ℕ) → n ≡ fit_tests width stride (length ends) (length out) → (g : Bool) → good_rows width changes 0 ends ≡ g
          → (paint one width stride changes ends out).number ≡ 0 → IsPainted (paint one width stride changes ends out)
      by (suc n) e g f = rw (paint, ← e) (λ z. absurd (omega (arith, z)))
      by zero e false f = rw (paint, ← e, f) (λ z. absurd (let q : ◌≡◌ {A = ℕ} 8 0 = z in omega (arith, q)))
      by zero e true f = rw (paint, ← e, f) (λ z. record { fit = fits width stride (length ends) (length out) e; good = f; is = refl })
