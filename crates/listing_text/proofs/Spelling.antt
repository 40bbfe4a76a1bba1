-- Laws of reading a number: each digit that comes next, and when none begins the bytes. Assumes nothing.
use mathlib.Core.Path.{◌≡◌, refl, sym, ap, ◌∙◌}
use mathlib.Core.Bool.{Bool, true, false}
use mathlib.Core.List.{List, [], ◌∷◌, ◌++◌, append_assoc}
use Prim.Native.Nat.{ℕ, suc, ◌+◌, ◌*◌, ◌≤◌, ◌<◌}
use native.Mathlib.Omega.{arith}
use native.Mathlib.Nat.{add-zero}
use lib.Dec.{ltb}
use lib.ListN.{length, get_or, drop, get_or-eq_default}
use lib.Seq.{drop-cons, get_or-drop}
use borrow.Author.Tests.{ltb-true, ltb-false}
use Rattle.listing_text.specs.Text.{digit, decimal}
use Rattle.listing_text.specs.Line.{Held}
use Rattle.listing_text.specs.Reading.{digit_of, Spelt, NumberAt}
use Rattle.std.specs.Prelude.{None}
use Rattle.listing_text.proofs.Digits.{of-digit, decimal-one, decimal_step, begins, longer-number, no-leading-zero}

-- a byte that is not past the end, and the bytes from it on
pub inside : (bytes : List ℕ) (i : ℕ) → (get_or bytes i 0 ≡ 0 → ⊥) → i < length bytes
inside bytes i h = tests (ltb i (length bytes)) refl
  where
    tests : (b : Bool) → ltb i (length bytes) ≡ b → i < length bytes
    tests true e = ltb-true i (length bytes) e
    tests false e = absurd (h (get_or-eq_default bytes 0 (ltb-false i (length bytes) e)))

pub split : (bytes : List ℕ) (i : ℕ) → i < length bytes → drop i bytes ≡ get_or bytes i 0 ∷ drop (i + 1) bytes
split bytes i h = drop-cons bytes i 0 h ∙ (let e : suc i ≡ i + 1 = omega arith in ap (λ (n : ℕ). get_or bytes i 0 ∷ drop n bytes) e)

-- no digit, no number
pub no_number : (bytes : List ℕ) (at x : ℕ) → x ≡ digit_of (get_or bytes at 0) → 9 < x → NumberAt bytes at None
no_number bytes at x d h n rest held stops e =
    let f : get_or bytes at 0 ≡ get_or (decimal n ++ rest) 0 0 = sym (get_or-drop at bytes 0 0 ∙ ap (λ (i : ℕ). get_or bytes i 0) (add-zero at)) ∙ ap (λ (l : List ℕ). get_or l 0 0) e in
    omega (arith, begins n rest, ap digit_of f)

-- the byte at i is the digit x
module _ (bytes : List ℕ) (i x : ℕ) (e : x ≡ digit_of (get_or bytes i 0)) (d : x ≤ 9) where
  pub digit-inside : i < length bytes
  digit-inside = inside bytes i (λ z. omega (arith, ap digit_of z))

  byte-is : get_or bytes i 0 ≡ digit x
  byte-is = of-digit (get_or bytes i 0) (omega arith) ∙ ap digit (sym e)

  digit_split : drop i bytes ≡ digit x ∷ drop (i + 1) bytes
  digit_split = split bytes i digit-inside ∙ ap (λ (b : ℕ). b ∷ drop (i + 1) bytes) byte-is

  pub first-digit : Spelt bytes i x (i + 1)
  first-digit = record {
    text = digit_split ∙ ap (λ (l : List ℕ). l ++ drop (i + 1) bytes) (sym (decimal-one x (omega arith)));
    inside = omega (arith, digit-inside);
    held = omega arith;
  }

  module _ (at n : ℕ) (s : Spelt bytes at n i) where
    pub next-digit : (n ≡ 0 → ⊥) → Held (n * 10 + x) → Spelt bytes at (n * 10 + x) (i + 1)
    next-digit l h = record {
      text =
          s.text
          ∙ ap (λ (l : List ℕ). decimal n ++ l) digit_split
          ∙ sym (append_assoc (decimal n) (digit x ∷ []) (drop (i + 1) bytes))
          ∙ ap (λ (l : List ℕ). l ++ drop (i + 1) bytes) (sym (decimal_step n x (omega (arith, l)) (omega arith)));
      inside = omega (arith, digit-inside);
      held = h;
    }

    longer : drop at bytes ≡ decimal n ++ get_or bytes i 0 ∷ drop (i + 1) bytes
    longer = s.text ∙ ap (λ (l : List ℕ). decimal n ++ l) (split bytes i digit-inside)

    pub zero-leads : n ≡ 0 → NumberAt bytes at None
    zero-leads z m rest held stops f = no-leading-zero n (get_or bytes i 0) (drop (i + 1) bytes) m rest (omega arith) stops (sym longer ∙ f) z

    pub too_large : 4294967295 < n * 10 + x → NumberAt bytes at None
    too_large l m rest held stops f = omega (arith, longer-number n (get_or bytes i 0) (drop (i + 1) bytes) m rest (omega arith) stops (sym longer ∙ f))
