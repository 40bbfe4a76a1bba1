-- Laws of decimal numbers: what the digits are, and that they and what follows tell the number. Assumes nothing.
use mathlib.Core.Path.{◌≡◌, refl, sym, ap, ap₂, ◌∙◌, subst}
use mathlib.Core.Bool.{Bool, true, false, cond, ◌&&◌}
use mathlib.Core.List.{List, [], ◌∷◌, ◌++◌, append_assoc, append-nil}
use Prim.Native.Nat.{ℕ, zero, suc, ◌+◌, ◌-◌, ◌*◌, ◌/◌, ◌%◌, ◌≤◌, ◌<◌}
use native.Mathlib.Omega.{arith}
use lib.Dec.{leb, ltb}
use lib.ListN.{length, get_or, drop}
use lib.Seq.{drop-append_seam}
use borrow.Author.Tests.{ltb-true, ltb-false, leb-true, leb-false, lt-ltb, le-ltb, le-leb}
use Rattle.listing_text.specs.Text.{digit, digits, decimal}
use Rattle.listing_text.specs.Reading.{digit_of, Stops}

-- ---- A byte

-- a digit's byte is that digit
pub digit-of : (d : ℕ) → d < 10 → digit_of (digit d) ≡ d
digit-of d h = rw (le-leb 48 (48 + d) (omega arith), le-leb (48 + d) 57 (omega arith)) (omega arith)

-- by cases: a digit, or another byte
pub digit-cases : (b : ℕ) (C : ℕ → Type 0) → (48 ≤ b → b ≤ 57 → C (b - 48)) → (b < 48 → C 10) → (57 < b → C 10) → C (digit_of b)
digit-cases b C inside low high = tests (leb 48 b) (leb b 57) refl refl
  where
    tests : (p q : Bool) → leb 48 b ≡ p → leb b 57 ≡ q → C (cond (p && q) (b - 48) 10)
    tests true true e f = inside (leb-true 48 b e) (leb-true b 57 f)
    tests true false e f = high (leb-false b 57 f)
    tests false q e f = low (leb-false 48 b e)

pub low_byte : (b : ℕ) → b < 48 → 10 ≡ digit_of b
low_byte b h = digit-cases b (λ (d : ℕ). 10 ≡ d) (λ l u. absurd (omega arith)) (λ l. refl) (λ u. refl)

pub high_byte : (b : ℕ) → 57 < b → 10 ≡ digit_of b
high_byte b h = digit-cases b (λ (d : ℕ). 10 ≡ d) (λ l u. absurd (omega arith)) (λ l. refl) (λ u. refl)

pub digit-byte : (b : ℕ) → 48 ≤ b → b ≤ 57 → b - 48 ≡ digit_of b
digit-byte b l u = digit-cases b (λ (d : ℕ). b - 48 ≡ d) (λ p q. refl) (λ p. absurd (omega arith)) (λ q. absurd (omega arith))

pub of-digit : (b : ℕ) → digit_of b < 10 → b ≡ digit (digit_of b)
of-digit b = digit-cases b (λ (d : ℕ). d < 10 → b ≡ digit d) (λ l h e. omega arith) (λ l e. absurd (omega arith)) (λ h e. absurd (omega arith))

-- ---- The digits of a number

-- one digit; and one more behind the others
pub digits-one : (k n : ℕ) → n < 10 → digits (suc k) n ≡ digit n ∷ []
unfolding digits
digits-one k n h = rw (digits, lt-ltb n 10 h)

pub digits_more : (k n : ℕ) → 10 ≤ n → digits (suc k) n ≡ digits k (n / 10) ++ digit (n % 10) ∷ []
unfolding digits
digits_more k n h = rw (digits, le-ltb n 10 h)

-- by cases on a number: with k digits or fewer allowed, of which it has at most k
pub digits-ind : (C : ℕ → List ℕ → Type 0) → ((n : ℕ) → n < 10 → C n (digit n ∷ []))
    → ((n : ℕ) (ds : List ℕ) → 10 ≤ n → C (n / 10) ds → C n (ds ++ digit (n % 10) ∷ []))
    → (k n : ℕ) → n < k → C n (digits k n)
digits-ind C one more zero n h = absurd (omega arith)
digits-ind C one more (suc k) n h = tests (ltb n 10) refl (λ l. digits-ind C one more k (n / 10) (omega arith))
  where
    tests : (b : Bool) → ltb n 10 ≡ b → (10 ≤ n → C (n / 10) (digits k (n / 10))) → C n (digits (suc k) n)
    tests true e rec = rw (digits-one k n (ltb-true n 10 e)) (one n (ltb-true n 10 e))
    tests false e rec = rw (digits_more k n (ltb-false n 10 e)) (more n (digits k (n / 10)) (ltb-false n 10 e) (rec (ltb-false n 10 e)))

pub decimal-ind : (C : ℕ → List ℕ → Type 0) → ((n : ℕ) → n < 10 → C n (digit n ∷ []))
    → ((n : ℕ) (ds : List ℕ) → 10 ≤ n → C (n / 10) ds → C n (ds ++ digit (n % 10) ∷ []))
    → (n : ℕ) → C n (decimal n)
unfolding decimal
decimal-ind C one more n = digits-ind C one more (suc n) n (omega arith)

-- how many digits are allowed does not matter, once there are enough
fuel : (k j n : ℕ) → n < k → n < j → digits k n ≡ digits j n
fuel zero j n h l = absurd (omega arith)
fuel (suc k) zero n h l = absurd (omega arith)
fuel (suc k) (suc j) n h l = tests (ltb n 10) refl (λ g. fuel k j (n / 10) (omega arith) (omega arith))
  where
    tests : (b : Bool) → ltb n 10 ≡ b → (10 ≤ n → digits k (n / 10) ≡ digits j (n / 10)) → digits (suc k) n ≡ digits (suc j) n
    tests true e rec = digits-one k n (ltb-true n 10 e) ∙ sym (digits-one j n (ltb-true n 10 e))
    tests false e rec =
        let g = ltb-false n 10 e in
        digits_more k n g ∙ ap (λ (l : List ℕ). l ++ digit (n % 10) ∷ []) (rec g) ∙ sym (digits_more j n g)

pub decimal-one : (n : ℕ) → n < 10 → decimal n ≡ digit n ∷ []
unfolding decimal
decimal-one n h = digits-one n n h

pub decimal-more : (n : ℕ) → 10 ≤ n → decimal n ≡ decimal (n / 10) ++ digit (n % 10) ∷ []
unfolding decimal
decimal-more n h =
    digits_more n n h ∙ ap (λ (l : List ℕ). l ++ digit (n % 10) ∷ []) (fuel n (suc (n / 10)) (n / 10) (omega arith) (omega arith))

-- the same with the bytes as they are written
pub text-one : (n b : ℕ) → n < 10 → b ≡ digit n → b ∷ [] ≡ decimal n
text-one n b h e = ap (λ (x : ℕ). x ∷ []) e ∙ sym (decimal-one n h)

pub text-more : (n b : ℕ) → 10 ≤ n → b ≡ digit (n % 10) → decimal n ≡ decimal (n / 10) ++ b ∷ []
text-more n b h e = decimal-more n h ∙ ap (λ (x : ℕ). decimal (n / 10) ++ x ∷ []) (sym e)

-- a digit more behind a number that is not 0
pub decimal_step : (n d : ℕ) → 0 < n → d < 10 → decimal (n * 10 + d) ≡ decimal n ++ digit d ∷ []
decimal_step n d l h =
    let e : (n * 10 + d) / 10 ≡ n = omega arith in
    let f : (n * 10 + d) % 10 ≡ d = omega arith in
    decimal-more (n * 10 + d) (omega arith) ∙ ap₂ (λ (a b : ℕ). decimal a ++ digit b ∷ []) e f

-- ---- What a number begins with

pub begins : (n : ℕ) (rest : List ℕ) → digit_of (get_or (decimal n ++ rest) 0 0) < 10
begins =
    decimal-ind (λ (n : ℕ) (ds : List ℕ). (rest : List ℕ) → digit_of (get_or (ds ++ rest) 0 0) < 10) (λ n h rest. rw (digit-of n h) h)
    (λ n ds h g rest. rw append_assoc (g (digit (n % 10) ∷ rest)))

-- not with `0`, unless it is 0
pub leads : (n : ℕ) → 0 < n → (rest : List ℕ) → 48 < get_or (decimal n ++ rest) 0 0
leads =
    decimal-ind (λ (n : ℕ) (ds : List ℕ). 0 < n → (rest : List ℕ) → 48 < get_or (ds ++ rest) 0 0) (λ n h l rest. omega arith)
    (λ n ds h g l rest. rw append_assoc (g (omega arith) (digit (n % 10) ∷ rest)))

-- ---- The digits tell the number

-- the digits at the front of bytes
unfoldable span_of : List ℕ → List ℕ
span_of [] = []
span_of (b ∷ bs) = elim (ltb (digit_of b) 10) [ true ↦ b ∷ span_of bs | false ↦ [] ]

-- the number that they make, behind a number
unfoldable value_from : ℕ → List ℕ → ℕ
value_from n [] = n
value_from n (b ∷ bs) = value_from (n * 10 + digit_of b) bs

span-digit : (b : ℕ) (bs : List ℕ) → digit_of b < 10 → span_of (b ∷ bs) ≡ b ∷ span_of bs
unfolding span_of
span-digit b bs h = rw (span_of, lt-ltb (digit_of b) 10 h)

span-stops : (bs : List ℕ) → Stops bs → span_of bs ≡ []
unfolding span_of
span-stops [] h = refl
span-stops (b ∷ bs) h = rw (span_of, le-ltb (digit_of b) 10 h)

span-decimal : (n : ℕ) (rest : List ℕ) → span_of (decimal n ++ rest) ≡ decimal n ++ span_of rest
span-decimal =
    decimal-ind (λ (n : ℕ) (ds : List ℕ). (rest : List ℕ) → span_of (ds ++ rest) ≡ ds ++ span_of rest)
    (λ n h rest. span-digit (digit n) rest (rw (digit-of n h) h))
    (λ n ds h g rest.
    let x = digit (n % 10) in
    ap span_of (append_assoc ds (x ∷ []) rest)
    ∙ g (x ∷ rest)
    ∙ ap (λ (l : List ℕ). ds ++ l) (span-digit x rest (rw (digit-of (n % 10) (omega arith)) (omega arith)))
    ∙ sym (append_assoc ds (x ∷ []) (span_of rest)))

value-append : (n : ℕ) (xs ys : List ℕ) → value_from n (xs ++ ys) ≡ value_from (value_from n xs) ys
unfolding value_from
value-append n [] ys = refl
value-append n (x ∷ xs) ys = value-append (n * 10 + digit_of x) xs ys

value-decimal : (n : ℕ) → value_from 0 (decimal n) ≡ n
unfolding value_from
value-decimal = decimal-ind (λ (n : ℕ) (ds : List ℕ). value_from 0 ds ≡ n) one more
  where
    one : (n : ℕ) → n < 10 → value_from 0 (digit n ∷ []) ≡ n
    one n h = rw (digit-of n h) (omega arith)

    more : (n : ℕ) (ds : List ℕ) → 10 ≤ n → value_from 0 ds ≡ n / 10 → value_from 0 (ds ++ digit (n % 10) ∷ []) ≡ n
    more n ds h e = value-append 0 ds (digit (n % 10) ∷ []) ∙ rw (e, digit-of (n % 10) (omega arith)) (omega arith)

value_grows : (n : ℕ) (xs : List ℕ) → n ≤ value_from n xs
unfolding value_from
value_grows n [] = omega arith
value_grows n (x ∷ xs) = omega (arith, value_grows (n * 10 + digit_of x) xs)

-- two numbers that begin the same bytes, with no digit behind them, are one
pub same_number : (m n : ℕ) (xs ys : List ℕ) → Stops xs → Stops ys → decimal m ++ xs ≡ decimal n ++ ys → (m ≡ n) × (xs ≡ ys)
same_number m n xs ys g h e = (number, rest)
  where
    ends : (k : ℕ) (zs : List ℕ) → Stops zs → span_of (decimal k ++ zs) ≡ decimal k
    ends k zs s = span-decimal k zs ∙ ap (λ (l : List ℕ). decimal k ++ l) (span-stops zs s) ∙ append-nil (decimal k)

    texts : decimal m ≡ decimal n
    texts = sym (ends m xs g) ∙ ap span_of e ∙ ends n ys h

    number : m ≡ n
    number = sym (value-decimal m) ∙ ap (value_from 0) texts ∙ value-decimal n

    rest : xs ≡ ys
    rest =
        sym (drop-append_seam (decimal m) xs)
        ∙ ap₂ (λ (l : List ℕ) (k : ℕ). drop k l) e (ap length texts)
        ∙ drop-append_seam (decimal n) ys

-- a digit behind a number belongs to the number that begins the bytes: that one is larger, and the first is not 0
module _ (n b : ℕ) (bs : List ℕ) (m : ℕ) (ys : List ℕ) (d : digit_of b < 10) (h : Stops ys) (e : decimal n ++ b ∷ bs ≡ decimal m ++ ys) where
  texts : decimal n ++ b ∷ span_of bs ≡ decimal m
  texts =
      ap (λ (l : List ℕ). decimal n ++ l) (sym (span-digit b bs d))
      ∙ sym (span-decimal n (b ∷ bs))
      ∙ ap span_of e
      ∙ span-decimal m ys
      ∙ ap (λ (l : List ℕ). decimal m ++ l) (span-stops ys h)
      ∙ append-nil (decimal m)

  pub longer-number : n * 10 + digit_of b ≤ m
  unfolding value_from
  longer-number =
      let v = value-append 0 (decimal n) (b ∷ span_of bs) in
      let w = ap (λ (k : ℕ). value_from (k * 10 + digit_of b) (span_of bs)) (value-decimal n) in
      omega (arith, value_grows (n * 10 + digit_of b) (span_of bs), sym (v ∙ w) ∙ ap (value_from 0) texts ∙ value-decimal m)

  pub no-leading-zero : n ≡ 0 → ⊥
  no-leading-zero z = tests m refl
    where
      zero-text : digit 0 ∷ b ∷ bs ≡ decimal m ++ ys
      zero-text = ap (λ (l : List ℕ). l ++ b ∷ bs) (sym (ap decimal z ∙ decimal-one 0 (omega arith))) ∙ e

      tests : (k : ℕ) → m ≡ k → ⊥
      tests zero f =
          let g : digit 0 ∷ b ∷ bs ≡ digit 0 ∷ ys = zero-text ∙ ap (λ (l : List ℕ). l ++ ys) (ap decimal f ∙ decimal-one 0 (omega arith)) in
          let r : ys ≡ b ∷ bs = cc in
          omega (arith, subst Stops r h)
      tests (suc k) f = omega (arith, leads m (omega arith) ys, ap (λ (l : List ℕ). get_or l 0 0) zero-text)
