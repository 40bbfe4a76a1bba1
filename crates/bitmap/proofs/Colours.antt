-- The pixels of a row's first changes, change by change. Assumes nothing.
use mathlib.Core.Path.{◌≡◌, refl, sym, ap, ◌∙◌}
use mathlib.Core.Bool.{Bool, true, false, cond, not}
use mathlib.Core.List.{List, [], ◌∷◌}
use Prim.Native.Nat.{ℕ, zero, suc, ◌+◌, ◌-◌, ◌%◌, ◌^◌, ◌≤◌, ◌<◌}
use native.Mathlib.Omega.{arith}
use lib.Dec.{ltb}
use lib.ListN.{length, get_or, take}
use lib.Pow as Pow
use lib.Pow.{pow_pos}
use lib.Seq.{take-length}
use borrow.Author.Tests.{lt-ltb, le-ltb}
use Rattle.rules.specs.Codes.{Colour, white, black, opposite}
use Rattle.rules.specs.Pixels.{colour_at}
use Rattle.rules.specs.Rising.{Rising, none, some}
use Rattle.bitmap.specs.Packed.{packed}
use Rattle.bitmap.specs.Steps.{colour_after, is_black, pixels_to, black_to, ones_from, Turnable, Standing, Has}
use Rattle.bitmap.specs.declared.pixels.Span.{Span}
use Rattle.bitmap.proofs.Packing.{packed_lt, packed-add, packed-zeros, packed-ones, packed-turned}

-- ---- Changes

-- a change of a row that rises, and the one before it
pub change-low : {width low : ℕ} {row : List ℕ} (k : ℕ) → Rising width low row → k < length row → low ≤ get_or row k 0
change-low k none h = absurd (omega arith)
change-low zero (some a b r) h = a
change-low (suc k) (some a b r) h = omega (arith, change-low k r (omega arith))

pub change-high : {width low : ℕ} {row : List ℕ} (k : ℕ) → Rising width low row → k < length row → get_or row k 0 < width
change-high k none h = absurd (omega arith)
change-high zero (some a b r) h = b
change-high (suc k) (some a b r) h = change-high k r (omega arith)

pub change-next : {width low : ℕ} {row : List ℕ} (k : ℕ) → Rising width low row → suc k < length row → get_or row k 0 < get_or row (suc k) 0
change-next k none h = absurd (omega arith)
change-next zero (some a b r) h = change-low 0 r (omega arith)
change-next (suc k) (some a b r) h = change-next k r (omega arith)

-- ---- Pixels

-- one colour, and as many turns
turns : ℕ → Colour → Colour
turns zero c = c
turns (suc k) c = opposite (turns k c)

turns-inside : (k : ℕ) (c : Colour) → turns k (opposite c) ≡ opposite (turns k c)
unfolding turns
turns-inside zero c = refl
turns-inside (suc k) c = ap opposite (turns-inside k c)

after-turns : (k : ℕ) → turns k white ≡ colour_after k
unfolding turns colour_after
after-turns zero = refl
after-turns (suc k) = ap opposite (after-turns k)

-- left of change k it makes no difference
pub to-before : (c : Colour) (k : ℕ) (row : List ℕ) (i : ℕ) → k < length row → i < get_or row k 0 → colour_at c (take k row) i ≡ colour_at c (take (suc k) row) i
unfolding colour_at
to-before c k [] i h l = absurd (omega arith)
to-before c zero (x ∷ xs) i h l = rw (lt-ltb i x l)
to-before c (suc k) (x ∷ xs) i h l = ap (λ (d : Colour). cond (ltb i x) c d) (to-before (opposite c) k xs i (omega arith) l)

-- from the last of k changes on their colour stands
behind : {width : ℕ} (c : Colour) (k : ℕ) {low : ℕ} {row : List ℕ} (i : ℕ) → Rising width low row → k < length row → get_or row k 0 ≤ i → colour_at c (take k row) i ≡ turns k c
unfolding colour_at turns
behind c k i none h l = absurd (omega arith)
behind c zero i (some a b r) h l = refl
behind c (suc k) i (some {x = x} a b r) h l =
    let far = change-low k r (omega arith) in
    rw (le-ltb i x (omega (arith, far))) (behind (opposite c) k i r (omega arith) l ∙ turns-inside k c)

behind-one : {width : ℕ} (c : Colour) (k : ℕ) {low : ℕ} {row : List ℕ} (i : ℕ) → Rising width low row → k < length row → get_or row k 0 ≤ i
    → colour_at c (take (suc k) row) i ≡ turns (suc k) c
unfolding colour_at turns
behind-one c k i none h l = absurd (omega arith)
behind-one c zero i (some {x = x} a b r) h l = rw (le-ltb i x l)
behind-one c (suc k) i (some {x = x} a b r) h l =
    let far = change-low k r (omega arith) in
    rw (le-ltb i x (omega (arith, far))) (behind-one (opposite c) k i r (omega arith) l ∙ turns-inside (suc k) c)

-- left of change k, or where there is none, the row's pixels are those of its first k changes
pub whole_before : (c : Colour) (k : ℕ) (row : List ℕ) (i : ℕ) → k < length row → i < get_or row k 0 → colour_at c row i ≡ colour_at c (take k row) i
unfolding colour_at
whole_before c k [] i h l = absurd (omega arith)
whole_before c zero (x ∷ xs) i h l = rw (lt-ltb i x l)
whole_before c (suc k) (x ∷ xs) i h l = ap (λ (d : Colour). cond (ltb i x) c d) (whole_before (opposite c) k xs i (omega arith) l)

-- behind the width that of all its changes
behind-row : {width : ℕ} (c : Colour) {low : ℕ} {row : List ℕ} → Rising width low row → (i : ℕ) → width ≤ i → colour_at c row i ≡ turns (length row) c
unfolding colour_at turns
behind-row c none i h = refl
behind-row c (some {x = x} {xs = xs} a b r) i h = rw (le-ltb i x (omega arith)) (behind-row (opposite c) r i h ∙ turns-inside (length xs) c)

pub behind-all : {width low : ℕ} {row : List ℕ} → Rising width low row → (i : ℕ) → width ≤ i → colour_at white row i ≡ colour_after (length row)
behind-all {row = row} r i h = behind-row white r i h ∙ after-turns (length row)

black-turned : (c : Colour) → is_black (opposite c) ≡ not (is_black c)
black-turned white = refl
black-turned black = refl

pub black-after : (k : ℕ) → is_black (colour_after (suc k)) ≡ not (is_black (colour_after k))
unfolding colour_after
black-after k = black-turned (colour_after k)

-- ---- The word that a turn gives, of any two rows of pixels that part at x

module _ (f g : ℕ → Bool) (from x bits : ℕ) (b : Bool) (low : from ≤ x) (high : x < from + 64) (is : bits ≡ packed f 64 from)
    (same : (j : ℕ) → j < x → f j ≡ g j) (here : (j : ℕ) → x ≤ j → f j ≡ b) (there : (j : ℕ) → x ≤ j → g j ≡ not b) where
  abbrev at : ℕ
  at = x - from

  pub turnable : Turnable b bits at
  turnable = by b here
    where
      m : ℕ
      m = 64 - (x - from)

      parts : bits % 2 ^ m ≡ packed f m x
      parts =
          let n : (x - from) + m ≡ 64 = omega arith in
          let p : from + (x - from) ≡ x = omega arith in
          ap (λ (v : ℕ). v % 2 ^ m) (is ∙ ap (λ (k : ℕ). packed f k from) (sym n) ∙ packed-add f (x - from) m from)
          ∙ Pow.low (packed f (x - from) from) m (packed_lt f m (from + (x - from)))
          ∙ ap (packed f m) p

      by : (b : Bool) → ((j : ℕ) → x ≤ j → f j ≡ b) → Turnable b bits (x - from)
      by true p = omega (arith, parts, packed-ones f m x (λ j k l. p j k))
      by false p = parts ∙ packed-zeros f m x (λ j k l. p j k)

  pub turned-is : cond b (bits - ones_from at) (bits + ones_from at) ≡ packed g 64 from
  turned-is = by b here there
    where
      e : from + 64 - x ≡ 64 - (x - from)
      e = omega arith

      by : (b : Bool) → ((j : ℕ) → x ≤ j → f j ≡ b) → ((j : ℕ) → x ≤ j → g j ≡ not b)
          → cond b (bits - ones_from (x - from)) (bits + ones_from (x - from)) ≡ packed g 64 from
      by true p q = rw (← e) (omega (arith, is, packed-turned g f 64 from x low (omega arith) (λ j h. sym (same j h)) q p, pow_pos (from + 64 - x)))
      by false p q = rw (← e) (omega (arith, is, packed-turned f g 64 from x low (omega arith) same p q, pow_pos (from + 64 - x)))

-- ---- A word of a row, change by change

-- what stands once the first `next` changes are taken, for 64 pixels from `from` on
pub record Taken (width : ℕ) (row : List ℕ) (from next : ℕ) (black : Bool) (bits : ℕ) : Type 0 where
  pub rises : Rising width 0 row
  pub inside : next ≤ length row
  pub shade : black ≡ is_black (colour_after next)
  pub passed : (i : ℕ) → from + 64 ≤ i → pixels_to next row i ≡ colour_after next
  pub ahead : next < length row → from ≤ get_or row next 0
  pub is : bits ≡ packed (black_to next row) 64 from

-- before the first of them
pub taken_none : {width : ℕ} {row : List ℕ} {next from : ℕ} {black : Bool} → Standing width row next black from
    → {bits : ℕ} → bits ≡ cond black 18446744073709551615 0 → Taken width row from next black bits
taken_none {width} {row} {next} {from} {black} s {bits} e = record {
  rises = s.rises;
  inside = s.inside;
  shade = s.shade;
  passed = λ i h. s.passed i (omega arith);
  ahead = s.ahead;
  is = by black s.shade e;
}
  where
    by : (b : Bool) → b ≡ is_black (colour_after next) → bits ≡ cond b 18446744073709551615 0 → bits ≡ packed (black_to next row) 64 from
    by true p q = omega (arith, q, packed-ones (black_to next row) 64 from (λ j h l. ap is_black (s.passed j h) ∙ sym p))
    by false p q = omega (arith, q, packed-zeros (black_to next row) 64 from (λ j h l. ap is_black (s.passed j h) ∙ sym p))

module _ {width : ℕ} {row : List ℕ} {from next : ℕ} {black : Bool} {bits : ℕ} (t : Taken width row from next black bits)
    (h : next < length row) (l : get_or row next 0 < from + 64) where
  same : (j : ℕ) → j < get_or row next 0 → black_to next row j ≡ black_to (suc next) row j
  same j k = ap is_black (to-before white next row j h k)

  here : (j : ℕ) → get_or row next 0 ≤ j → black_to next row j ≡ black
  here j k = ap is_black (behind white next j t.rises h k ∙ after-turns next) ∙ sym t.shade

  there : (j : ℕ) → get_or row next 0 ≤ j → black_to (suc next) row j ≡ not black
  there j k = ap is_black (behind-one white next j t.rises h k ∙ after-turns (suc next)) ∙ black-after next ∙ ap not (sym t.shade)

  pub takes-turn : Turnable black bits (get_or row next 0 - from)
  takes-turn = turnable (black_to next row) (black_to (suc next) row) from (get_or row next 0) bits black (t.ahead h) l t.is same here there

  -- one more
  pub taken_next : {r : ℕ} → r ≡ cond black (bits - ones_from (get_or row next 0 - from)) (bits + ones_from (get_or row next 0 - from))
      → Taken width row from (suc next) (not black) r
  taken_next e = record {
    rises = t.rises;
    inside = omega arith;
    shade = ap not t.shade ∙ sym (black-after next);
    passed = λ i k. behind-one white next i t.rises h (omega arith) ∙ after-turns (suc next);
    ahead = λ k. omega (arith, t.ahead h, change-next next t.rises k);
    is = e ∙ turned-is (black_to next row) (black_to (suc next) row) from (get_or row next 0) bits black (t.ahead h) l t.is same here there;
  }

-- the next change lies behind them, or there is none
module _ {width : ℕ} {row : List ℕ} {from : ℕ} {w : Span} (t : Taken width row from w.next w.black w.bits) where
  has : ((i : ℕ) → i < from + 64 → colour_at white row i ≡ pixels_to w.next row i) → (w.next < length row → from + 64 ≤ get_or row w.next 0)
      → Has width row from w
  has whole far = record {
    standing = record { rises = t.rises; inside = t.inside; shade = t.shade; passed = t.passed; ahead = far };
    bits = t.is;
    whole = whole;
  }

  pub has-far : w.next < length row → from + 64 ≤ get_or row w.next 0 → Has width row from w
  has-far h far = has (λ i l. whole_before white w.next row i h (omega arith)) (λ k. far)

  pub has_all : length row ≤ w.next → Has width row from w
  has_all h =
      let e : w.next ≡ length row = omega (arith, t.inside) in
      has (λ i l. rw (e, take-length row)) (λ k. absurd (omega arith))
