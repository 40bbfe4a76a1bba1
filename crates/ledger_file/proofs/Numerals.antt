-- A number that is written is the one that is read. Assumes nothing.
use mathlib.Core.Path.{◌≡◌, sym, ap, ◌∙◌}
use mathlib.Core.Bool.{Bool, true, false}
use mathlib.Core.List.{List, [], ◌∷◌, ◌++◌}
use Prim.Native.Nat.{ℕ, ◌+◌, ◌*◌, ◌/◌, ◌%◌, ◌≤◌, ◌<◌}
use native.Mathlib.Omega.{arith}
use lib.Dec.{ltb}
use lib.ListN.{length, length-append}
use borrow.Author.Tests.{lt-ltb}
use Rattle.listing_text.specs.Text.{digit, decimal}
use Rattle.listing_text.specs.Reading.{digit_of}
use Rattle.listing_text.proofs.Digits.{digit-of, decimal-ind}
use Rattle.form_file.specs.Words.{none, value_from, value_of}
use Rattle.ledger_file.specs.Fields.{number_in}
use Rattle.ledger_file.proofs.Fielding.{number-some}

-- digits behind a number that 32 bits hold
value-append : (m : ℕ) (xs ys : List ℕ) (k : ℕ) → value_from m xs ≡ k → k < none → value_from m (xs ++ ys) ≡ value_from k ys
unfolding value_from
value-append m [] ys k e l = ap (λ (n : ℕ). value_from n ys) e
value-append m (x ∷ xs) ys k e l = by (ltb (digit_of x) 10) (ltb (m * 10 + digit_of x) none) (value-append (m * 10 + digit_of x) xs ys k) e
  where
    by : (s t : Bool) → (value_from (m * 10 + digit_of x) xs ≡ k → k < none → value_from (m * 10 + digit_of x) (xs ++ ys) ≡ value_from k ys)
        → elim s [ false ↦ none | true ↦ elim t [ false ↦ none | true ↦ value_from (m * 10 + digit_of x) xs ] ] ≡ k
        → elim s [ false ↦ none | true ↦ elim t [ false ↦ none | true ↦ value_from (m * 10 + digit_of x) (xs ++ ys) ] ] ≡ value_from k ys
    by true true rec g = rec g l
    by true false rec g = absurd (omega arith)
    by false t rec g = absurd (omega arith)

value-one : (k d : ℕ) → d < 10 → k * 10 + d < none → value_from k (digit d ∷ []) ≡ k * 10 + d
unfolding value_from
value-one k d h l =
    ap (λ (x : ℕ). elim (ltb x 10) [ false ↦ none | true ↦ elim (ltb (k * 10 + x) none) [ false ↦ none | true ↦ k * 10 + x ] ]) (digit-of d h)
    ∙ rw (lt-ltb d 10 h, lt-ltb (k * 10 + d) none l)

pub value-decimal : (n : ℕ) → n < none → value_of (decimal n) ≡ n
value-decimal = decimal-ind (λ (n : ℕ) (ds : List ℕ). n < none → value_of ds ≡ n) one more
  where
    one : (n : ℕ) → n < 10 → n < none → value_of (digit n ∷ []) ≡ n
    one n h l = value-one 0 n h (omega arith) ∙ (omega arith)

    more : (n : ℕ) (ds : List ℕ) → 10 ≤ n → (n / 10 < none → value_of ds ≡ n / 10) → n < none → value_of (ds ++ digit (n % 10) ∷ []) ≡ n
    more n ds h f l = value-append 0 ds (digit (n % 10) ∷ []) (n / 10) (f (omega arith)) (omega arith) ∙ value-one (n / 10) (n % 10) (omega arith) (omega arith) ∙ (omega arith)

pub decimal-some : (n : ℕ) → length (decimal n) ≡ 0 → ⊥
decimal-some =
    decimal-ind (λ (n : ℕ) (ds : List ℕ). length ds ≡ 0 → ⊥) (λ n h e. omega arith) (λ n ds h f e. omega (arith, length-append ds (digit (n % 10) ∷ [])))

pub number-decimal : (n : ℕ) → n < none → number_in (decimal n) ≡ n
number-decimal n l = sym (number-some (decimal n) (decimal-some n)) ∙ value-decimal n l
