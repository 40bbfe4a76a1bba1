-- Laws of the search for b1 and b2: what it may pass, and where it stops. Assumes nothing.
use mathlib.Core.Path.{◌≡◌, refl, sym, ap, ◌∙◌}
use mathlib.Core.Bool.{Bool, true, false, cond, ◌&&◌}
use mathlib.Core.List.{List, [], ◌∷◌}
use Prim.Native.Nat.{ℕ, zero, suc, ◌+◌, ◌%◌, ◌≤◌, ◌<◌}
use native.Mathlib.Omega.{arith}
use native.Mathlib.Numerals.{add-one}
use lib.Dec.{eqb, leb}
use lib.ListN.{length, get_or, drop, drop_of_length-le}
use lib.Seq.{drop-cons}
use borrow.Author.Count.{below_more}
use borrow.Author.Tests.{le-leb, lt-leb, eq-eqb, ne_eqb}
use Rattle.rules.specs.Codes.{Colour, white, black, opposite, differ}
use Rattle.rules.specs.Lines.{right_of_a0, from_b1, head_or, tail}
use Rattle.rules.specs.Rising.{Rising, none, some}
use Rattle.rules.proofs.Ascending.{rises-lower}
use Rattle.tables.specs.Tables.{colour_of}
use Rattle.context.specs.Reference.{Passed, Stopped, Finds, turns_at, b1_place}

-- ---- Right of a0

-- at the start of the line
pub right_zero : (position : ℕ) → position ≡ 0 → 0 ≡ right_of_a0 position
unfolding right_of_a0
right_zero zero h = refl
right_zero (suc p) h = absurd (omega arith)

-- and anywhere else
pub right-more : (position : ℕ) → (position ≡ 0 → ⊥) → position + 1 ≡ right_of_a0 position
unfolding right_of_a0
right-more zero h = absurd (h refl)
right-more (suc p) h = omega arith

-- it moves right with the position
pub right-grows : (position later : ℕ) → position ≤ later → right_of_a0 position ≤ right_of_a0 later
unfolding right_of_a0
right-grows zero later h = omega arith
right-grows (suc p) zero h = absurd (omega arith)
right-grows (suc p) (suc q) h = omega arith

-- ---- What is passed

-- nothing, at the start
pub passed_none : (least : ℕ) (reference : List ℕ) → Passed least 0 reference
passed_none least reference = record { inside = omega arith; each = λ i h. absurd (omega arith) }

-- what lies left of a bound lies left of any higher one
pub passed_on : {low seen : ℕ} {reference : List ℕ} {higher : ℕ} → Passed low seen reference → low ≤ higher → Passed higher seen reference
passed_on {low} {seen} {reference} p h =
    record { inside = p.inside; each = λ i k. let e : get_or reference i 0 < low = p.each i k in omega arith }

-- one change more
pub passed-more : {least seen : ℕ} {reference : List ℕ} → Passed least seen reference → seen < length reference → get_or reference seen 0 < least → Passed least (seen + 1) reference
passed-more p h e = record { inside = omega arith; each = below_more _ _ p.each e }

-- ---- Changes from a place on

-- the change at a place, or the width
pub head_at : (width : ℕ) (xs : List ℕ) (i : ℕ) → i < length xs → get_or xs i 0 ≡ head_or width (drop i xs)
head_at width xs i h = rw (drop-cons xs i 0 h)

pub head-past : (width : ℕ) (xs : List ℕ) (i : ℕ) → length xs ≤ i → width ≡ head_or width (drop i xs)
head-past width xs i h = rw (drop_of_length-le xs h)

-- the changes after the first of them
pub drop-next : (xs : List ℕ) (i : ℕ) → drop (i + 1) xs ≡ tail (drop i xs)
drop-next xs i = rw add-one (go xs i)
  where
    go : (xs : List ℕ) (i : ℕ) → drop (suc i) xs ≡ tail (drop i xs)
    go [] zero = refl
    go [] (suc i) = refl
    go (x ∷ xs) zero = refl
    go (x ∷ xs) (suc i) = go xs i

head-behind : {least : ℕ} (xs : List ℕ) (i : ℕ) → (i < length xs → least ≤ get_or xs i 0) → least ≤ head_or least (drop i xs)
head-behind [] zero h = omega arith
head-behind [] (suc i) h = omega arith
head-behind (x ∷ xs) zero h = h (omega arith)
head-behind (x ∷ xs) (suc i) h = head-behind xs i (λ k. h (omega arith))

pub rises-drop : {width low : ℕ} (i : ℕ) {xs : List ℕ} → Rising width low xs → Rising width low (drop i xs)
rises-drop zero r = r
rises-drop (suc i) none = none
rises-drop (suc i) (some h k r) = rises-lower (omega arith) (rises-drop i r)

-- ---- Colours

pub turns_next : (i : ℕ) → turns_at (suc i) ≡ opposite (turns_at i)
unfolding turns_at
turns_next i = tests (i % 2) (suc i % 2) (omega arith) (omega arith)
  where
    tests : (m n : ℕ) → m < 2 → n + m ≡ 1 → cond (eqb n 0) black white ≡ opposite (cond (eqb m 0) black white)
    tests zero zero h e = absurd (omega arith)
    tests zero (suc zero) h e = refl
    tests zero (suc (suc n)) h e = absurd (omega arith)
    tests (suc zero) zero h e = refl
    tests (suc zero) (suc n) h e = absurd (omega arith)
    tests (suc (suc m)) n h e = absurd (omega arith)

-- the test of the place's parity
pub turns-test : (i colour : ℕ) → colour ≤ 1 → differ (turns_at i) (colour_of colour) ≡ eqb (i % 2) colour
unfolding turns_at
turns-test i colour h = tests (i % 2) colour (omega arith) h
  where
    tests : (m c : ℕ) → m < 2 → c ≤ 1 → differ (cond (eqb m 0) black white) (colour_of c) ≡ eqb m c
    tests zero zero h k = refl
    tests zero (suc zero) h k = refl
    tests (suc zero) zero h k = refl
    tests (suc zero) (suc zero) h k = refl
    tests zero (suc (suc c)) h k = absurd (omega arith)
    tests (suc zero) (suc (suc c)) h k = absurd (omega arith)
    tests (suc (suc m)) c h k = absurd (omega arith)

other : (c d : Colour) → differ c d ≡ false → differ (opposite c) d ≡ true
other white white e = refl
other black black e = refl
other white black e = sym e
other black white e = sym e

-- ---- b1's place

-- by the test of the place's parity
pub place_here : (seen colour : ℕ) → colour ≤ 1 → seen % 2 ≡ colour → seen ≡ b1_place seen (colour_of colour)
place_here seen colour h e = rw (turns-test seen colour h, eq-eqb (seen % 2) colour e)

pub place-next : (seen colour : ℕ) → colour ≤ 1 → (seen % 2 ≡ colour → ⊥) → seen + 1 ≡ b1_place seen (colour_of colour)
place-next seen colour h e = rw (turns-test seen colour h, ne_eqb (seen % 2) colour e)

-- one on at most
pub place-near : (seen : ℕ) (colour : Colour) → b1_place seen colour ≤ seen + 1
place-near seen colour = by (differ (turns_at seen) colour)
  where
    by : (t : Bool) → cond t seen (seen + 1) ≤ seen + 1
    by true = omega arith
    by false = omega arith

-- one step of the search, over its test
module _ (colour : Colour) (least : ℕ) (turns : Colour) (x : ℕ) (xs : List ℕ) where
  pub takes : (leb least x && differ turns colour) ≡ true → from_b1 colour least turns (x ∷ xs) ≡ x ∷ xs
  unfolding from_b1
  takes e = rw (from_b1, e)

  pub leaves : (leb least x && differ turns colour) ≡ false → from_b1 colour least turns (x ∷ xs) ≡ from_b1 colour least (opposite turns) xs
  unfolding from_b1
  leaves e = rw (from_b1, e)

-- the search leaves each change left of its bound
skips : (colour : Colour) (least : ℕ) (xs : List ℕ) (i : ℕ) → i ≤ length xs → ((j : ℕ) → j < i → get_or xs j 0 < least) → from_b1 colour least black xs ≡ from_b1 colour least (turns_at i) (drop i xs)
unfolding turns_at
skips colour least xs zero h e = refl
skips colour least xs (suc i) h e =
    skips colour least xs i (omega arith) (λ j k. e j (omega arith))
    ∙ ap (from_b1 colour least (turns_at i)) (drop-cons xs i 0 h)
    ∙ leaves colour least (turns_at i) (get_or xs i 0) (drop (suc i) xs) (rw (lt-leb least (get_or xs i 0) (e i (omega arith))))
    ∙ ap (λ (c : Colour). from_b1 colour least c (drop (suc i) xs)) (sym (turns_next i))

-- at the bound b1 is the first change, or the next where the first turns to the colour itself
stops : (colour : Colour) {width low : ℕ} (least : ℕ) (turns : Colour) (xs : List ℕ) → Rising width low xs → least ≤ head_or least xs → from_b1 colour least turns xs ≡ cond (differ turns colour) xs (tail xs)
unfolding from_b1
stops colour {width} {low} least turns [] r h = by (differ turns colour)
  where
    by : (t : Bool) → ◌≡◌ {A = List ℕ} [] (cond t [] [])
    by true = refl
    by false = refl
stops colour {width} {low} least turns (x ∷ xs) (some k l r) h = by (differ turns colour) refl
  where
    next : differ (opposite turns) colour ≡ true → (ys : List ℕ) → Rising width (suc x) ys → from_b1 colour least (opposite turns) ys ≡ ys
    next e [] s = refl
    next e (y ∷ ys) (some a b s) = takes colour least (opposite turns) y ys (rw (le-leb least y (omega arith), e))

    by : (t : Bool) → differ turns colour ≡ t → from_b1 colour least turns (x ∷ xs) ≡ cond t (x ∷ xs) xs
    by true e = takes colour least turns x xs (rw (le-leb least x h, e))
    by false e = leaves colour least turns x xs (rw (le-leb least x h, e)) ∙ next (other turns colour e) xs r

module _ {width least seen : ℕ} {reference : List ℕ} (colour : Colour) (rising : Rising width 0 reference) (s : Stopped least seen reference) where
  -- the changes from b1 on are those from its place on
  from_place : drop (b1_place seen colour) reference ≡ from_b1 colour least black reference
  from_place = by (differ (turns_at seen) colour) ∙ sym (skips colour least reference seen s.passed.inside s.passed.each ∙ stops colour least (turns_at seen) (drop seen reference) (rises-drop seen rising) (head-behind reference seen s.stops))
    where
      by : (t : Bool) → drop (cond t seen (seen + 1)) reference ≡ cond t (drop seen reference) (tail (drop seen reference))
      by true = refl
      by false = drop-next reference seen

  -- b1 and b2 are the change at that place, or the width, and the next
  pub finds : {position place first second : ℕ} → least ≡ right_of_a0 position → place ≡ b1_place seen colour → first ≡ head_or width (drop place reference) → second ≡ head_or width (drop (place + 1) reference) → Finds reference width position colour (record { seen = seen; b1 = first; b2 = second })
  finds {position} {place} {first} {second} e f g h = record {
    b1-is = g ∙ ap (head_or width) there;
    b2-is = h ∙ ap (head_or width) (drop-next reference place ∙ ap tail there);
    passed = rw e at s.passed;
  }
    where
      there : drop place reference ≡ from_b1 colour (right_of_a0 position) black reference
      there = ap (λ (i : ℕ). drop i reference) f ∙ from_place ∙ ap (λ (n : ℕ). from_b1 colour n black reference) e
