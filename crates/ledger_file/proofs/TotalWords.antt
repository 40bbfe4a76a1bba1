-- Words that begin with a number: those of a total, and of a reason. Assumes nothing.
use mathlib.Core.Path.{◌≡◌, refl, ap, ap₂, ◌∙◌}
use mathlib.Core.Bool.{Bool, true, false, ◌&&◌}
use mathlib.Core.List.{List, [], ◌∷◌, ◌++◌, append_assoc}
use Prim.Native.Nat.{ℕ, ◌+◌, ◌%◌, ◌≤◌, ◌<◌}
use native.Mathlib.Omega.{arith}
use lib.Dec.{ltb}
use lib.ListN.{length, take, drop, length-append}
use lib.Seq.{take-append_seam, drop-append_seam}
use borrow.Author.Tests.{lt-ltb}
use Rattle.listing_text.specs.Text.{ascii, digit, decimal}
use Rattle.listing_text.proofs.Digits.{digit-of, decimal-ind}
use Rattle.form_file.specs.Steps.{ahead}
use Rattle.form_file.specs.Words.{none, same}
use Rattle.form_file.proofs.Ahead.{ahead_more}
use Rattle.ledger_file.specs.Total.{is_a_digit, is_total_words, number_ahead}
use Rattle.ledger_file.specs.Fields.{number_in}
use Rattle.ledger_file.proofs.Numerals.{decimal-some, number-decimal}

is_digit : (d : ℕ) → d < 10 → is_a_digit (digit d) ≡ true
is_digit d h = ap (λ (k : ℕ). ltb k 10) (digit-of d h) ∙ lt-ltb d 10 h

-- the digits of a number, and those behind it
ahead-decimal : (n : ℕ) (rest : List ℕ) → ahead is_a_digit (decimal n ++ rest) ≡ length (decimal n) + ahead is_a_digit rest
ahead-decimal = decimal-ind (λ (n : ℕ) (ds : List ℕ). (rest : List ℕ) → ahead is_a_digit (ds ++ rest) ≡ length ds + ahead is_a_digit rest) one more
  where
    one : (n : ℕ) → n < 10 → (rest : List ℕ) → ahead is_a_digit (digit n ∷ rest) ≡ 1 + ahead is_a_digit rest
    one n h rest = ahead_more is_a_digit (digit n) rest (is_digit n h) ∙ (omega arith)

    more : (n : ℕ) (ds : List ℕ) → 10 ≤ n → ((rest : List ℕ) → ahead is_a_digit (ds ++ rest) ≡ length ds + ahead is_a_digit rest) → (rest : List ℕ)
        → ahead is_a_digit ((ds ++ digit (n % 10) ∷ []) ++ rest) ≡ length (ds ++ digit (n % 10) ∷ []) + ahead is_a_digit rest
    more n ds h f rest =
        omega (
          arith,
          ap (ahead is_a_digit) (append_assoc ds (digit (n % 10) ∷ []) rest),
          f (digit (n % 10) ∷ rest),
          ahead_more is_a_digit (digit (n % 10)) rest (is_digit (n % 10) (omega arith)),
          length-append ds (digit (n % 10) ∷ []),
        )

-- words that begin with a number, and no digit behind it
words_of : (n : ℕ) (rest : List ℕ) → ahead is_a_digit rest ≡ 0 → is_total_words (decimal n ++ rest) ≡ same (take 5 rest) (ascii " page")
unfolding is_total_words
words_of n rest z =
    let k : ahead is_a_digit (decimal n ++ rest) ≡ length (decimal n) = omega (arith, ahead-decimal n rest) in
    ap (λ (j : ℕ). ltb 0 j && same (take 5 (drop j (decimal n ++ rest))) (ascii " page")) k
    ∙ ap₂ (λ (t : Bool) (l : List ℕ). t && same (take 5 l) (ascii " page")) (lt-ltb 0 (length (decimal n)) (positive (length (decimal n)) (decimal-some n))) (drop-append_seam (decimal n) rest)
  where
    positive : (j : ℕ) → (j ≡ 0 → ⊥) → 0 < j
    positive j g = omega arith

-- a reason's number has a colon behind it: 58
pub reason-words : (n : ℕ) (rest : List ℕ) → is_total_words (decimal n ++ 58 ∷ rest) ≡ false
unfolding ahead same ascii
reason-words n rest = words_of n (58 ∷ rest) refl

-- a total's has ` page`
pub total-words-so : (n : ℕ) (rest : List ℕ) → is_total_words (decimal n ++ 32 ∷ 112 ∷ 97 ∷ 103 ∷ 101 ∷ rest) ≡ true
unfolding ahead same ascii
total-words-so n rest = words_of n (32 ∷ 112 ∷ 97 ∷ 103 ∷ 101 ∷ rest) refl

-- and its number is the one that is read: 32 is a space
pub number-ahead-so : (n : ℕ) (rest : List ℕ) → n < none → number_ahead (decimal n ++ 32 ∷ rest) ≡ n
unfolding ahead
number-ahead-so n rest l =
    let k : ahead is_a_digit (decimal n ++ 32 ∷ rest) ≡ length (decimal n) = omega (arith, ahead-decimal n (32 ∷ rest)) in
    ap (λ (j : ℕ). number_in (take j (decimal n ++ 32 ∷ rest))) k ∙ ap number_in (take-append_seam (decimal n) (32 ∷ rest)) ∙ number-decimal n l
