-- Laws of a total's line, test by test. Assumes nothing.
use mathlib.Core.Path.{◌≡◌, refl, sym, ap, ap₂, ◌∙◌}
use mathlib.Core.Bool.{Bool, true, false, ◌&&◌}
use mathlib.Core.List.{List}
use Prim.Native.Nat.{ℕ, ◌+◌, ◌-◌, ◌≤◌, ◌<◌}
use native.Mathlib.Omega.{arith}
use lib.Dec.{eqb, leb, ltb}
use lib.ListN.{length, take, drop, length-take, length-drop}
use borrow.Author.Tests.{eq-eqb, ne_eqb, lt-ltb, leb-true, leb-false}
use Rattle.listing_text.specs.Text.{ascii}
use Rattle.listing_text.proofs.Digits.{low_byte, high_byte, digit-byte}
use Rattle.form_file.specs.Steps.{ahead}
use Rattle.form_file.specs.Words.{same}
use Rattle.form_file.proofs.Wording.{same_length}
use Rattle.ledger_file.specs.Fields.{fields_of, field}
use Rattle.ledger_file.specs.Total.{is_a_digit, is_total_words, is_total}

-- ---- A digit

pub digit_low : (b : ℕ) → b < 48 → false ≡ is_a_digit b
digit_low b h = sym (ap (λ (d : ℕ). ltb d 10) (sym (low_byte b h)))

pub digit-if : (b : ℕ) → 48 ≤ b → leb b 57 ≡ is_a_digit b
digit-if b h = by (leb b 57) refl
  where
    by : (t : Bool) → leb b 57 ≡ t → t ≡ is_a_digit b
    by true e = sym (ap (λ (d : ℕ). ltb d 10) (sym (digit-byte b h (leb-true b 57 e))) ∙ lt-ltb (b - 48) 10 (omega (arith, leb-true b 57 e)))
    by false e = sym (ap (λ (d : ℕ). ltb d 10) (sym (high_byte b (leb-false b 57 e))))

-- ---- The words

module _ (word : List ℕ) {k : ℕ} (e : k ≡ ahead is_a_digit word) where
  abbrev worded : Bool → ℕ → Bool
  worded s j = s && same (take 5 (drop j word)) (ascii " page")

  words_are : is_total_words word ≡ ltb 0 k && same (take 5 (drop k word)) (ascii " page")
  unfolding is_total_words
  words_are = ap (λ (j : ℕ). worded (ltb 0 j) j) (sym e)

  pub no-digits : k ≡ 0 → false ≡ is_total_words word
  no-digits z = sym (words_are ∙ ap (λ (s : Bool). worded s k) (ap (λ (j : ℕ). ltb 0 j) z))

  module _ (h : k ≡ 0 → ⊥) where
    some : ltb 0 k ≡ true
    some = lt-ltb 0 k (positive k h)
      where
        positive : (j : ℕ) → (j ≡ 0 → ⊥) → 0 < j
        positive j g = omega arith

    pub too_short : length word < 5 + k → false ≡ is_total_words word
    unfolding ascii
    too_short l =
        same_length (take 5 (drop k word)) (ascii " page") (λ z. omega (arith, z, length-take 5 (drop k word), length-drop k word))
        ∙ sym (words_are ∙ ap (λ (s : Bool). worded s k) some)

    pub words-so : {t : Bool} {xs : List ℕ} → xs ≡ take 5 (drop k word) → t ≡ same xs (ascii " page") → t ≡ is_total_words word
    words-so {t} {xs} x y = y ∙ ap (λ (zs : List ℕ). same zs (ascii " page")) x ∙ sym (words_are ∙ ap (λ (s : Bool). worded s k) some)

-- ---- The line

module _ (line : List ℕ) where
  abbrev lined : Bool → Bool → Bool → Bool
  lined x y z = x && (y && z)

  total-tested : {x y z : Bool} → eqb (length (fields_of line)) 5 ≡ x → same (field 0 line) (ascii "total") ≡ y → is_total_words (field 4 line) ≡ z → is_total line ≡ lined x y z
  unfolding is_total
  total-tested {x} {y} {z} p q r = ap₂ (λ (a b : Bool). lined a b (is_total_words (field 4 line))) p q ∙ ap (lined x y) r

  -- by its words alone
  pub total-wordless : is_total_words (field 4 line) ≡ false → is_total line ≡ false
  total-wordless e = total-tested refl refl e ∙ both (eqb (length (fields_of line)) 5) (same (field 0 line) (ascii "total"))
    where
      both : (x y : Bool) → (x && (y && false)) ≡ false
      both true true = refl
      both true false = refl
      both false y = refl

  pub total-so : length (fields_of line) ≡ 5 → same (field 0 line) (ascii "total") ≡ true → is_total_words (field 4 line) ≡ true → is_total line ≡ true
  total-so p q r = total-tested (eq-eqb _ 5 p) q r

  pub total-fields : (length (fields_of line) ≡ 5 → ⊥) → false ≡ is_total line
  total-fields h = sym (total-tested (ne_eqb _ 5 h) refl refl)

  module _ (five : length (fields_of line) ≡ 5) where
    pub total-name : same (field 0 line) (ascii "total") ≡ false → false ≡ is_total line
    total-name e = sym (total-tested (eq-eqb _ 5 five) e refl)

    pub total-words : {t : Bool} → same (field 0 line) (ascii "total") ≡ true → t ≡ is_total_words (field 4 line) → t ≡ is_total line
    total-words e f = sym (total-tested (eq-eqb _ 5 five) e (sym f))
