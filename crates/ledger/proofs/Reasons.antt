-- The phrase of a reason, case by case. Assumes nothing.
use mathlib.Core.Path.{◌≡◌, sym, ap, ap₂, ◌∙◌}
use mathlib.Core.Bool.{Bool, true, false}
use Prim.Native.Nat.{ℕ, ◌+◌, ◌*◌, ◌≤◌, ◌<◌}
use native.Mathlib.Omega.{arith}
use lib.Dec.{ltb}
use borrow.Author.Tests.{eq-eqb, ne_eqb, le-leb, lt-leb}
use Rattle.ledger.specs.Phrases.{one, is_units, plain_at, missing_at, is_of_one_number, is_of_no_line, reason_at}
use Rattle.ledger.specs.declared.Verdict.{Verdict}

-- ---- A number by itself

pub plain-page : (n : ℕ) → n ≤ 25 → 7 + n ≡ plain_at n
unfolding plain_at
plain-page n l = sym (rw (plain_at, le-leb n 25 l))

pub plain-between : (n : ℕ) → 25 < n → n < 32 → 16 ≡ plain_at n
unfolding plain_at
plain-between n l h = sym (rw (plain_at, lt-leb n 25 l, lt-leb 32 n h))

pub plain-above : (n : ℕ) → 48 < n → 16 ≡ plain_at n
unfolding plain_at
plain-above n l = sym (rw (plain_at, lt-leb n 25 (omega arith), le-leb 32 n (omega arith), lt-leb n 48 l))

pub plain_form : (n : ℕ) → 32 ≤ n → n ≤ 48 → 1 + n ≡ plain_at n
unfolding plain_at
plain_form n l h = sym (rw (plain_at, lt-leb n 25 (omega arith), le-leb 32 n l, le-leb n 48 h))

module _ (v : Verdict) where
  -- ---- What is missing

  pub missing-box : {x : ℕ} → v.which < 20 → x ≡ one (is_units v) → 67 + x ≡ missing_at v
  unfolding missing_at
  missing-box l e = ap (λ (a : ℕ). 67 + a) e ∙ sym (rw (missing_at, lt-leb 20 v.which l))

  pub missing-page : v.which ≡ 20 → 64 ≡ missing_at v
  unfolding missing_at
  missing-page e = sym (rw (missing_at, le-leb 20 v.which (omega arith), eq-eqb v.which 20 e))

  pub missing-tick : v.which ≡ 21 → 65 ≡ missing_at v
  unfolding missing_at
  missing-tick e = sym (rw (missing_at, le-leb 20 v.which (omega arith), ne_eqb v.which 20 (λ z. omega arith), eq-eqb v.which 21 e))

  pub missing-place : 20 ≤ v.which → (v.which ≡ 20 → ⊥) → (v.which ≡ 21 → ⊥) → 66 ≡ missing_at v
  unfolding missing_at
  missing-place l e f = sym (rw (missing_at, le-leb 20 v.which l, ne_eqb v.which 20 e, ne_eqb v.which 21 f))

  -- ---- Two tests in one

  -- ---- The reason

  pub at-12 : {x y : ℕ} → v.number ≡ 12 → x ≡ one (is_units v) → y ≡ one (ltb 0 v.count) → 50 + 2 * x + y ≡ reason_at v
  unfolding reason_at
  at-12 h e f = ap₂ (λ (a b : ℕ). 50 + 2 * a + b) e f ∙ sym (rw (reason_at, eq-eqb v.number 12 h))

  module _ (n12 : v.number ≡ 12 → ⊥) where
    pub at-13 : {x y : ℕ} → v.number ≡ 13 → x ≡ one (is_units v) → y ≡ one (ltb 1 v.count) → 54 + 2 * x + y ≡ reason_at v
    unfolding reason_at
    at-13 h e f = ap₂ (λ (a b : ℕ). 54 + 2 * a + b) e f ∙ sym (rw (reason_at, ne_eqb v.number 12 n12, eq-eqb v.number 13 h))

    module _ (n13 : v.number ≡ 13 → ⊥) where
      pub at-19 : {y : ℕ} → v.number ≡ 19 → y ≡ one (ltb 1 v.count) → 59 + y ≡ reason_at v
      unfolding reason_at
      at-19 h f = ap (λ (b : ℕ). 59 + b) f ∙ sym (rw (reason_at, ne_eqb v.number 12 n12, ne_eqb v.number 13 n13, eq-eqb v.number 19 h))

      module _ (n19 : v.number ≡ 19 → ⊥) where
        pub at-22 : {x : ℕ} → v.number ≡ 22 → x ≡ one (is_units v) → 61 + x ≡ reason_at v
        unfolding reason_at
        at-22 h e = ap (λ (a : ℕ). 61 + a) e ∙ sym (rw (reason_at, ne_eqb v.number 12 n12, ne_eqb v.number 13 n13, ne_eqb v.number 19 n19, eq-eqb v.number 22 h))

        module _ (n22 : v.number ≡ 22 → ⊥) where
          pub at-36 : {x : ℕ} → v.number ≡ 36 → x ≡ missing_at v → x ≡ reason_at v
          unfolding reason_at
          at-36 h e = e ∙ sym (rw (reason_at, ne_eqb v.number 12 n12, ne_eqb v.number 13 n13, ne_eqb v.number 19 n19, ne_eqb v.number 22 n22, eq-eqb v.number 36 h))

          module _ (n36 : v.number ≡ 36 → ⊥) where
            -- none of the five
            rest : reason_at v ≡ elim (is_of_one_number v) [ true ↦ 58 | false ↦ elim (is_of_no_line v) [ true ↦ 63 | false ↦ plain_at v.number ] ]
            unfolding reason_at
            rest = rw (reason_at, ne_eqb v.number 12 n12, ne_eqb v.number 13 n13, ne_eqb v.number 19 n19, ne_eqb v.number 22 n22, ne_eqb v.number 36 n36)

            pub at-18 : is_of_one_number v ≡ true → 58 ≡ reason_at v
            at-18 e = sym (rest ∙ ap (λ (t : Bool). elim t [ true ↦ 58 | false ↦ elim (is_of_no_line v) [ true ↦ 63 | false ↦ plain_at v.number ] ]) e)

            module _ (e : is_of_one_number v ≡ false) where
              less : reason_at v ≡ elim (is_of_no_line v) [ true ↦ 63 | false ↦ plain_at v.number ]
              less = rest ∙ ap (λ (t : Bool). elim t [ true ↦ 58 | false ↦ elim (is_of_no_line v) [ true ↦ 63 | false ↦ plain_at v.number ] ]) e

              pub at-34 : is_of_no_line v ≡ true → 63 ≡ reason_at v
              at-34 f = sym (less ∙ ap (λ (t : Bool). elim t [ true ↦ 63 | false ↦ plain_at v.number ]) f)

              pub at_plain : {x : ℕ} → is_of_no_line v ≡ false → x ≡ plain_at v.number → x ≡ reason_at v
              at_plain f g = g ∙ sym (less ∙ ap (λ (t : Bool). elim t [ true ↦ 63 | false ↦ plain_at v.number ]) f)
