-- b1's place as a code has moved to it: when a place is b1's, and how far apart the changes of a reference lie. Assumes nothing.
use mathlib.Core.Path.{◌≡◌, refl, sym, ap, ◌∙◌}
use mathlib.Core.Bool.{Bool, true, false, cond, ◌&&◌, and-false}
use mathlib.Core.List.{List, [], ◌∷◌}
use Prim.Native.Nat.{ℕ, zero, suc, ◌+◌, ◌-◌, ◌%◌, ◌≤◌, ◌<◌}
use native.Mathlib.Omega.{arith}
use lib.Dec.{eqb, leb, ltb}
use lib.ListN.{length, get_or, drop}
use borrow.Author.Tests.{le-leb, lt-leb, ltb-true, ltb-false, leb-true, leb-false, eq-eqb, eqb-true, eqb-false}
use Rattle.rules.specs.Codes.{Colour, white, black, opposite, differ}
use Rattle.rules.specs.Lines.{right_of_a0, from_b1, head_or, tail, b1, b2}
use Rattle.rules.specs.Rising.{Rising, none, some}
use Rattle.rules.proofs.Ascending.{rises-length, head-fits}
use Rattle.tables.specs.Tables.{colour_of}
use Rattle.context.specs.Reference.{Stopped, turns_at, b1_place}
use Rattle.context.specs.Places.{Left, Seen, Onward, Reached, Turning, Back}
use Rattle.context.proofs.Search.{turns_next, turns-test, takes, leaves, head_at, head-past, drop-next, rises-drop}

-- ---- When a place is b1's

-- the colour to which the change at a place turns, where the first one turns to a colour
abbrev turned : ℕ → Colour → Colour
turned zero c = c
turned (suc p) c = turned p (opposite c)

turned-opposite : (p : ℕ) (c : Colour) → turned p (opposite c) ≡ opposite (turned p c)
turned-opposite zero c = refl
turned-opposite (suc p) c = turned-opposite p (opposite c)

turned-at : (p : ℕ) → turned p black ≡ turns_at p
unfolding turns_at
turned-at zero = refl
turned-at (suc p) = turned-opposite p black ∙ ap opposite (turned-at p) ∙ sym (turns_next p)

same-colour : (c d : Colour) → differ (opposite c) d ≡ true → differ c d ≡ false
same-colour white white e = refl
same-colour black black e = refl
same-colour white black e = sym e
same-colour black white e = sym e

module _ (colour : Colour) (least : ℕ) where
  go : (p : ℕ) (turns : Colour) (xs : List ℕ) → differ (turned p turns) colour ≡ true → Left xs least p → (p < length xs → least ≤ get_or xs p 0)
      → from_b1 colour least turns xs ≡ drop p xs
  unfolding from_b1
  go zero turns [] e b h = refl
  go zero turns (x ∷ xs) e b h = takes colour least turns x xs (rw (le-leb least x (h (omega arith)), e))
  go (suc p) turns [] e b h = refl
  go (suc zero) turns (x ∷ xs) e b h =
      leaves colour least turns x xs (ap (λ (t : Bool). leb least x && t) (same-colour turns colour e) ∙ and-false (leb least x))
      ∙ go zero (opposite turns) xs e (λ j k l. absurd (omega arith)) (λ k. h (omega arith))
  go (suc (suc p)) turns (x ∷ xs) e b h =
      leaves colour least turns x xs (rw (lt-leb least x (b 0 (omega arith) (omega arith))))
      ∙ go (suc p) (opposite turns) xs e (λ j k l. b (suc j) (omega arith) (omega arith)) (λ k. h (omega arith))

  -- A place of the colour's parity is b1's, where every change two places or more before it lies left of the bound, and the change at it, if there is one, does
  -- not. The change right before it turns to the colour itself, and may lie anywhere.
  place_is : {p : ℕ} {xs : List ℕ} → differ (turns_at p) colour ≡ true → Seen xs least p → from_b1 colour least black xs ≡ drop p xs
  place_is {p} {xs} e s = go p black xs (ap (λ (c : Colour). differ c colour) (turned-at p) ∙ e) s.left s.right

module _ (width position : ℕ) {place : ℕ} {reference : List ℕ} (s : Seen reference (right_of_a0 position) place) where
  from-b1 : from_b1 (colour_of (place % 2)) (right_of_a0 position) black reference ≡ drop place reference
  from-b1 = place_is (colour_of (place % 2)) (right_of_a0 position) (turns-test place (place % 2) (omega arith) ∙ eq-eqb (place % 2) (place % 2) refl) s

  -- b1 is the change at the place, or the width, and b2 the next
  pub seen-b1 : head_or width (drop place reference) ≡ b1 width reference position (colour_of (place % 2))
  seen-b1 = ap (head_or width) (sym from-b1)

  pub seen-b2 : head_or width (drop (place + 1) reference) ≡ b2 width reference position (colour_of (place % 2))
  seen-b2 = ap (head_or width) (drop-next reference place ∙ ap tail (sym from-b1))

-- ---- How far apart changes lie

low-at : {width low : ℕ} {xs : List ℕ} → Rising width low xs → (j : ℕ) → j < length xs → low + j ≤ get_or xs j 0
low-at none j h = absurd (omega arith)
low-at (some a b r) zero h = omega arith
low-at (some a b r) (suc j) h = omega (arith, low-at r j (omega arith))

le-at : {width low : ℕ} {xs : List ℕ} → Rising width low xs → (i j : ℕ) → i ≤ j → j < length xs → get_or xs i 0 + (j - i) ≤ get_or xs j 0
le-at none i j h k = absurd (omega arith)
le-at (some a b r) zero zero h k = omega arith
le-at (some a b r) zero (suc j) h k = omega (arith, low-at r j (omega arith))
le-at (some a b r) (suc i) zero h k = absurd (omega arith)
le-at (some a b r) (suc i) (suc j) h k = omega (arith, le-at r i j (omega arith) (omega arith))

high-at : {width low : ℕ} {xs : List ℕ} → Rising width low xs → (i : ℕ) → i < length xs → get_or xs i 0 + (length xs - i) ≤ width
high-at none i h = absurd (omega arith)
high-at (some a b r) zero h = omega (arith, rises-length b r)
high-at (some a b r) (suc i) h = omega (arith, high-at r i (omega arith))

module _ {width low : ℕ} {xs : List ℕ} (r : Rising width low xs) where
  -- a change, and one n places behind it, or the width
  pub before_at : (i j n : ℕ) → i < length xs → i + n ≤ j → i + n ≤ length xs → get_or xs i 0 + n ≤ head_or width (drop j xs)
  before_at i j n h k l = cases (ltb j (length xs)) refl
    where
      cases : (b : Bool) → ltb j (length xs) ≡ b → get_or xs i 0 + n ≤ head_or width (drop j xs)
      cases true e = let m = ltb-true j (length xs) e in omega (arith, le-at r i j (omega arith) m, head_at width xs j m)
      cases false e = let m = ltb-false j (length xs) e in omega (arith, high-at r i h, head-past width xs j m)

  pub change-fits : (j : ℕ) → head_or width (drop j xs) ≤ width
  change-fits j = head-fits (rises-drop j r)

  -- the next one lies no further left
  pub change-next : (j : ℕ) → head_or width (drop j xs) ≤ head_or width (drop (j + 1) xs)
  change-next j = cases (ltb j (length xs)) refl
    where
      cases : (b : Bool) → ltb j (length xs) ≡ b → head_or width (drop j xs) ≤ head_or width (drop (j + 1) xs)
      cases true e = let m = ltb-true j (length xs) e in omega (arith, head_at width xs j m, before_at j (j + 1) 1 m (omega arith) (omega arith))
      cases false e = let m = ltb-false j (length xs) e in omega (arith, head-past width xs j m, head-past width xs (j + 1) (omega arith))

  -- behind a change, the next place is b1's
  pub seen_next : (p : ℕ) → Seen xs (head_or width (drop p xs) + 1) (p + 1)
  seen_next p = record {
    left = λ j k m. omega (arith, before_at j p 1 m (omega arith) (omega arith));
    right = λ m. omega (arith, head_at width xs p (omega arith), head_at width xs (p + 1) m, before_at p (p + 1) 1 (omega arith) (omega arith) (omega arith));
  }

-- ---- Searches

-- one change more that lies left
pub left-more : {width : ℕ} {reference : List ℕ} {least place : ℕ} → Rising width 0 reference → Left reference least place → place < length reference → get_or reference place 0 < least → Left reference least (place + 2)
left-more {width} {reference} {least} {place} r l h e = λ j k m. omega (arith, le-at r j place (omega arith) h)

module _ {reference : List ℕ} {place d a1 : ℕ} (t : Turning reference place d a1) where
  -- b1 and the change before it are a pixel apart
  pub back_none : d < 2 → Back reference place a1 false
  back_none h = λ j e m. omega (arith, t.close, before_at t.rising j place 1 m (omega arith) (omega arith))

  pub back-first : place ≡ 0 → Back reference place a1 false
  back-first h = λ j e m. absurd (omega arith)

  pub back-test : (place ≡ 0 → ⊥) → {x : ℕ} → x ≡ head_or 0 (drop (place - 1) reference) → Back reference place a1 (ltb a1 x)
  back-test n {x} e = cases (ltb a1 x) refl (ltb (place - 1) (length reference)) refl
    where
      cases : (b : Bool) → ltb a1 x ≡ b → (c : Bool) → ltb (place - 1) (length reference) ≡ c → Back reference place a1 b
      cases true p true q =
          let l = ltb-true (place - 1) (length reference) q in
          (omega arith, omega arith, omega (arith, ltb-true a1 x p, e, head_at 0 reference (place - 1) l))
      cases true p false q = absurd (omega (arith, ltb-true a1 x p, e, head-past 0 reference (place - 1) (ltb-false (place - 1) (length reference) q)))
      cases false p c q = λ j f m.
          let i : j ≡ place - 1 = omega arith in
          omega (arith, ltb-false a1 x p, e, head_at 0 reference (place - 1) (omega arith), ap (λ (i : ℕ). get_or reference i 0) i)

  -- where the change before b1 lies right of a1, it is the next b1: the one three before b1 lies left of a1
  pub turned-back : Back reference place a1 true → Reached reference (a1 + 1) (place + 1) (place - 1)
  turned-back (p, q, l) = record {
    seen = record {
      left = λ j k m. omega (arith, t.close, t.few, before_at t.rising j place 3 m (omega arith) (omega arith));
      right = λ k. omega arith;
    };
    parity = omega arith;
    near = omega arith;
  }

  -- otherwise the search goes on behind b1
  pub turned_on : Back reference place a1 false → Onward reference (place + 1) a1
  turned_on b = record {
    width = t.width;
    rising = t.rising;
    left = λ j k m. cases j k m (leb (suc (suc j)) place) refl;
  }
    where
      cases : (j : ℕ) → suc (suc j) ≤ place + 1 → j < length reference → (c : Bool) → leb (suc (suc j)) place ≡ c → get_or reference j 0 < a1 + 1
      cases j k m true e = t.left j (leb-true (suc (suc j)) place e) m
      cases j k m false e = b j (omega (arith, leb-false (suc (suc j)) place e)) m

-- a search by one step at a time comes to b1's place too
module _ {width least stop : ℕ} {reference : List ℕ} (rising : Rising width 0 reference) (s : Stopped least stop reference) where
  pub stopped-seen : (place : ℕ) → stop ≤ place → place ≤ stop + 1 → Seen reference least place
  stopped-seen place h k = record {
    left = λ j l m. s.passed.each j (omega arith);
    right = λ m. cases m (ltb stop place) refl;
  }
    where
      cases : place < length reference → (b : Bool) → ltb stop place ≡ b → least ≤ get_or reference place 0
      cases m true e = omega (arith, s.stops (omega arith), le-at rising stop place h m)
      cases m false e = omega (arith, s.stops (omega (arith, ltb-false stop place e)), le-at rising stop place h m)

-- the place that it takes for b1's has the colour's parity
pub placed_at : (stop colour : ℕ) {r : ℕ} → colour ≤ 1 → r ≡ b1_place stop (colour_of colour) → (stop ≤ r) × (r ≤ stop + 1) × (r % 2 ≡ colour)
placed_at stop colour {r} h e = cases (eqb (stop % 2) colour) refl (e ∙ ap (λ (b : Bool). cond b stop (stop + 1)) (turns-test stop colour h))
  where
    cases : (b : Bool) → eqb (stop % 2) colour ≡ b → r ≡ cond b stop (stop + 1) → (stop ≤ r) × (r ≤ stop + 1) × (r % 2 ≡ colour)
    cases true p q = let n = eqb-true (stop % 2) colour p in (omega arith, omega arith, omega arith)
    cases false p q = let n = eqb-false (stop % 2) colour p in (omega arith, omega arith, omega arith)
