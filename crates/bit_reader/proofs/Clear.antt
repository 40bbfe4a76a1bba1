-- Laws of zeros: those that lead a window, counted in its number; and the first one from a bit on, part by part of words. Assumes nothing.
use mathlib.Core.Path.{◌≡◌, refl, sym, ap, ◌∙◌}
use mathlib.Core.Bool.{Bool, true, false}
use mathlib.Core.List.{List, [], ◌∷◌}
use mathlib.Core.Option.{Option, none, some}
use Prim.Native.Nat.{ℕ, zero, suc, ◌+◌, ◌-◌, ◌*◌, ◌/◌, ◌%◌, ◌^◌, ◌≤◌, ◌<◌}
use native.Mathlib.Omega.{arith}
use native.Mathlib.Nat.{zero-add, zero-mul, zero-div, mul_assoc, mul-one, mul-le-mul_right}
use lib.Count as Count
use lib.ListN.{length, drop, drop_of_length-le}
use lib.Pow.{pow-add, pow_pos, shl_lt, shl-shr}
use lib.Seq.{drop-drop}
use Rattle.rules.specs.Bits.{bits_of, peek, leading_zeros}
use Rattle.rules.specs.Eols.{zero_run}
use Rattle.rules.proofs.Bits.{pow-two, peek-lt, peek-nil, length-bits_of}
use Rattle.bit_reader.specs.Loaded.{on_top}
use Rattle.bit_reader.specs.Zeros.{one_or_end}
use Rattle.bit_reader.proofs.Window.{top-at}

-- ---- Leading zeros, in windows of any width

-- n digits: zeros, and then m more, of which the first is set
record Digits (n zeros number : ℕ) : Type 0 where
  m : ℕ
  all : zeros + m ≡ n
  below : number < 2 ^ m
  above : 2 ^ m ≤ 2 * number + 1

-- a zero before them
zero-before : {n zeros x : ℕ} (y : ℕ) → y ≡ x → Digits n zeros x → Digits (suc n) (suc zeros) y
zero-before y e d = record { m = d.m; all = omega (arith, d.all); below = omega (arith, d.below); above = omega (arith, d.above) }

-- those of a window
digits : (n : ℕ) (bs : List Bool) → Digits n (leading_zeros n bs) (peek n bs)
unfolding leading_zeros peek
digits zero bs = record { m = 0; all = omega arith; below = omega arith; above = omega arith }
digits (suc n) [] = zero-before 0 (sym (peek-nil n)) (digits n [])
digits (suc n) (false ∷ bs) = zero-before _ (omega arith) (digits n bs)
digits (suc n) (true ∷ bs) = record { m = suc n; all = omega arith; below = omega (arith, peek-lt n bs, pow-two n); above = omega (arith, pow-two n) }

-- counted in the bits, or in their number
pub zeros-of-number : (n : ℕ) (bs : List Bool) → leading_zeros n bs ≡ Count.count_leading_zeros n (peek n bs)
zeros-of-number n bs = let d = digits n bs in Count.leading_unique n (peek n bs) (leading_zeros n bs) d.m d.all d.below d.above

-- of a number above 0 the bound is even
even : (m x : ℕ) → 0 < x → 2 ^ m ≤ 2 * x + 1 → 2 ^ m ≤ 2 * x
even zero x p h = omega arith
even (suc m) x p h = omega (arith, pow-two m)

-- k zeros below them
zeros-below : {n zeros x : ℕ} (k : ℕ) → 0 < x → Digits n zeros x → Digits (n + k) zeros (x * 2 ^ k)
zeros-below {n} {zeros} {x} k p d = record {
  m = d.m + k;
  all = omega (arith, d.all);
  below = shl_lt d.m k d.below;
  above =
      let h : 2 ^ d.m * 2 ^ k ≤ 2 * x * 2 ^ k = mul-le-mul_right (2 ^ k) (even d.m x p d.above) in
      omega (arith, h, pow-add 2 d.m k, mul_assoc 2 x (2 ^ k));
}

-- ---- Zeros up to a one

-- what is found behind so many zeros
abbrev pub behind : ℕ → Option ℕ → Option ℕ
behind z none = none
behind z (some y) = some (z + y)

behind-none : (o : Option ℕ) → o ≡ behind 0 o
behind-none none = refl
behind-none (some y) = ap some (sym (zero-add y))

behind_more : (n m : ℕ) (o : Option ℕ) → behind n (behind m o) ≡ behind (n + m) o
behind_more n m none = refl
behind_more n m (some y) = ap some (omega arith)

-- one zero more
abbrev more : Option ℕ → Option ℕ
more o = elim o as (λ _. Option ℕ) [ none ↦ none | some y ↦ some (suc y) ]

more-behind : (n : ℕ) (o : Option ℕ) → more (behind n o) ≡ behind (suc n) o
more-behind n none = refl
more-behind n (some y) = ap some (omega arith)

-- n bits that are zeros, of the data or past it
pub only-zeros : (n : ℕ) (bs : List Bool) → peek n bs ≡ 0 → zero_run bs ≡ behind n (zero_run (drop n bs))
unfolding peek zero_run
only-zeros zero bs e = behind-none (zero_run bs)
only-zeros (suc n) [] e = refl
only-zeros (suc n) (true ∷ bs) e = absurd (omega (arith, pow_pos n))
only-zeros (suc n) (false ∷ bs) e = ap more (only-zeros n bs (omega arith)) ∙ more-behind n (zero_run (drop n bs))

-- a one among n bits
pub zeros-few : (n : ℕ) (bs : List Bool) → 0 < peek n bs → leading_zeros n bs < n
unfolding peek leading_zeros
zeros-few zero bs h = absurd (omega arith)
zeros-few (suc n) [] h = absurd (omega arith)
zeros-few (suc n) (true ∷ bs) h = omega arith
zeros-few (suc n) (false ∷ bs) h = omega (arith, zeros-few n bs (omega arith))

pub some_one : (n : ℕ) (bs : List Bool) → 0 < peek n bs → zero_run bs ≡ some (leading_zeros n bs)
unfolding peek zero_run leading_zeros
some_one zero bs h = absurd (omega arith)
some_one (suc n) [] h = absurd (omega arith)
some_one (suc n) (true ∷ bs) h = refl
some_one (suc n) (false ∷ bs) h = ap more (some_one n bs (omega arith))

-- the same for bits on top of a word
module _ (live : ℕ) (bs : List Bool) where
  top-zeros : on_top live bs ≡ 0 → zero_run bs ≡ behind live (zero_run (drop live bs))
  top-zeros e =
      only-zeros live bs
      (sym (shl-shr (peek live bs) (64 - live)) ∙ ap (λ (x : ℕ). x / 2 ^ (64 - live)) e ∙ zero-div _)

  set : 0 < on_top live bs → 0 < peek live bs
  set h = cases (peek live bs) h
    where
      cases : (x : ℕ) → 0 < x * 2 ^ (64 - live) → 0 < x
      cases zero k = absurd (omega (arith, zero-mul (2 ^ (64 - live))))
      cases (suc x) k = omega arith

  -- where one of them is set, the zeros before it are the word's
  pub top-leading : live ≤ 64 → 0 < on_top live bs → leading_zeros live bs ≡ Count.count_leading_zeros 64 (on_top live bs)
  top-leading most h =
      let d = zeros-below (64 - live) (set h) (digits live bs) in
      Count.leading_unique 64 (on_top live bs) (leading_zeros live bs) d.m (omega (arith, d.all)) d.below d.above

  top_one : live ≤ 64 → 0 < on_top live bs → zero_run bs ≡ some (Count.count_leading_zeros 64 (on_top live bs))
  top_one most h = some_one live bs (set h) ∙ ap some (top-leading most h)

-- ---- Part by part

-- no one stands past the end
pub past_end : (i : ℕ) (bs : List Bool) → length bs ≤ i → zero_run (drop i bs) ≡ none
unfolding zero_run
past_end i bs h = ap zero_run (drop_of_length-le bs h)

-- from `from` to `at`, which may lie past the data, no one stands
pub record Clear (bytes : List ℕ) (from at : ℕ) : Type 0 where
  pub forth : from ≤ at
  pub found : zero_run (drop from (bits_of bytes)) ≡ behind (at - from) (zero_run (drop at (bits_of bytes)))

module _ (bytes : List ℕ) where
  abbrev bs : List Bool
  bs = bits_of bytes

  -- before any bit is seen
  nothing_seen : (from : ℕ) → Clear bytes from from
  nothing_seen from =
      let e : 0 ≡ from - from = omega arith in
      record { forth = omega arith; found = behind-none _ ∙ ap (λ (n : ℕ). behind n (zero_run (drop from bs))) e }

  module _ {from at : ℕ} (c : Clear bytes from at) (live : ℕ) {x : ℕ} (part : x ≡ on_top live (drop at bs)) where
    -- a part without a one
    part-clear : x ≡ 0 → Clear bytes from (at + live)
    part-clear e =
        let n : (at - from) + live ≡ at + live - from = omega (arith, c.forth) in
        record {
          forth = omega (arith, c.forth);
          found =
              c.found
              ∙ ap (behind (at - from)) (top-zeros live (drop at bs) (sym part ∙ e) ∙ ap (λ (l : List Bool). behind live (zero_run l)) (drop-drop live at bs))
              ∙ behind_more (at - from) live (zero_run (drop (at + live) bs))
              ∙ ap (λ (n : ℕ). behind n (zero_run (drop (at + live) bs))) n;
        }

    -- a part with one
    part-one : live ≤ 64 → 0 < x → at + Count.count_leading_zeros 64 x ≡ one_or_end (8 * length bytes) from (zero_run (drop from bs))
    part-one most h =
        let z = Count.count_leading_zeros 64 x in
        let here : zero_run (drop at bs) ≡ some z = rw part (top_one live (drop at bs) most (rw (← part) h)) in
        let run : zero_run (drop from bs) ≡ some ((at - from) + z) = c.found ∙ ap (behind (at - from)) here in
        rw run (omega (arith, c.forth))

  -- the first part, out of the 64 bits from its byte
  module _ (from : ℕ) {w : ℕ} (word : w ≡ peek 64 (drop (from / 8 * 8) bs)) where
    top : w * 2 ^ (from % 8) % 2 ^ 64 ≡ on_top (64 - from % 8) (drop from bs)
    top = rw word (top-at from bs)

    pub first-clear : w * 2 ^ (from % 8) % 2 ^ 64 ≡ 0 → Clear bytes from ((from / 8 + 8) * 8)
    first-clear e =
        let n : from + (64 - from % 8) ≡ (from / 8 + 8) * 8 = omega arith in
        rw (← n) (part-clear (nothing_seen from) (64 - from % 8) top e)

    pub first_part : 0 < w * 2 ^ (from % 8) % 2 ^ 64 → from + Count.count_leading_zeros 64 (w * 2 ^ (from % 8) % 2 ^ 64) ≡ one_or_end (8 * length bytes) from (zero_run (drop from bs))
    first_part = part-one (nothing_seen from) (64 - from % 8) top (omega arith)

  -- the words behind it
  module _ {from : ℕ} (i : ℕ) (c : Clear bytes from (i * 8)) where
    module _ {w : ℕ} (word : w ≡ peek 64 (drop (i * 8) bs)) where
      whole : w ≡ on_top 64 (drop (i * 8) bs)
      whole = word ∙ sym (mul-one _)

      pub word-clear : w ≡ 0 → Clear bytes from ((i + 8) * 8)
      word-clear e =
          let n : i * 8 + 64 ≡ (i + 8) * 8 = omega arith in
          rw (← n) (part-clear c 64 whole e)

      pub word-one : 0 < w → 8 * i + Count.count_leading_zeros 64 w ≡ one_or_end (8 * length bytes) from (zero_run (drop from bs))
      word-one h =
          let n : 8 * i ≡ i * 8 = omega arith in
          rw n (part-one c 64 whole (omega arith) h)

    -- and none is left
    pub all-clear : length bytes ≤ i → 8 * length bytes ≡ one_or_end (8 * length bytes) from (zero_run (drop from bs))
    all-clear h = rw (c.found, past_end (i * 8) bs (omega (arith, length-bits_of bytes)))
