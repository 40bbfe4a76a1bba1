-- The standard's words on pixels (specs/Pixels.antt) and the same on lists of changes (specs/Lines.antt): the changing elements, a1, a2, b1, b2 and
-- the colour of a0 agree, for rows that ascend strictly below the width.
-- Assumes nothing.
use mathlib.Core.Path.{◌≡◌, refl, sym, ap, ◌∙◌, fun_ext}
use mathlib.Core.Bool.{Bool, true, false, cond, ◌&&◌, and-true, true≢false}
use mathlib.Core.List.{List, [], ◌∷◌, ◌++◌, Memᴰ}
use mathlib.Core.Logic.{◌↔◌}
use Prim.Native.Nat.{ℕ, zero, suc, ◌-◌, ◌≤◌, ◌<◌}
use native.Mathlib.Nat.{le_refl, le_trans}
use native.Mathlib.Omega.{arith}
use lib.Dec.{leb, ltb, eqb}
use borrow.Author.Tests.{ltb-true, ltb-false, leb-true, leb-false, eqb-true, eqb-false, lt-ltb, le-ltb, le-leb, lt-leb}
use Rattle.rules.specs.Codes.{Colour, white, black, opposite, differ}
use Rattle.rules.specs.Pixels.{Pixels, colour_at, pixels_of, changing, first_of, first_from, A0, imaginary, on, right_of, a1_on, a2_on, b1_on, b2_on, a0_at}
use Rattle.rules.specs.Lines.{last_colour, right_of_a0, from_b1, head_or, tail, b1, b2}
use Rattle.rules.specs.Rising.{Rising, none, some}
use Rattle.rules.proofs.Ascending.{change-within}

-- ---- Colours, and places

-- no colour differs from itself
differ_same : (c : Colour) → differ c c ≡ false
differ_same white = refl
differ_same black = refl

-- each colour differs from its opposite
differ-opposite : (c : Colour) → differ c (opposite c) ≡ true
differ-opposite white = refl
differ-opposite black = refl

-- two colours differ either way round
differ_comm : (c d : Colour) → differ c d ≡ differ d c
differ_comm white white = refl
differ_comm white black = refl
differ_comm black white = refl
differ_comm black black = refl

-- two turns give the colour back
opposite-twice : (c : Colour) → opposite (opposite c) ≡ c
opposite-twice white = refl
opposite-twice black = refl

-- where a position lies: left of another, on it, or right of it
data Placed (i x : ℕ) : Type 0 where
  left : i < x → Placed i x
  same : i ≡ x → Placed i x
  right : x < i → Placed i x

-- one of the three
placed : (i x : ℕ) → Placed i x
placed i x = tests (ltb i x) refl (eqb i x) refl
  where
    tests : (b : Bool) → ltb i x ≡ b → (c : Bool) → eqb i x ≡ c → Placed i x
    tests true p c q = left (ltb-true i x p)
    tests false p true q = same (eqb-true i x q)
    tests false p false q = right (omega (arith, ltb-false i x p, eqb-false i x q))

-- ---- The pixels before, at and behind the first change. A row may here start in either colour.

-- the colour of the previous element; before the first stands an imaginary one of the row's first colour
previous : Colour → List ℕ → ℕ → Colour
previous c xs zero = c
previous c xs (suc i) = colour_at c xs i

-- before its first change a row has its first colour
colour-before : (c : Colour) (i : ℕ) {width low : ℕ} {xs : List ℕ} → i < low → Rising width low xs → colour_at c xs i ≡ c
unfolding colour_at
colour-before c i h none = refl
colour-before c i h (some k l r) = rw (lt-ltb _ _ (le_trans h k))

-- and so has the element previous to that change
previous-before : (c : Colour) (i : ℕ) {width low : ℕ} {xs : List ℕ} → i ≤ low → Rising width low xs → previous c xs i ≡ c
unfolding previous
previous-before c zero h r = refl
previous-before c (suc i) h r = colour-before c i h r

-- from its first change on it is the row of the other changes, which starts in the opposite colour
colour-behind : (c : Colour) (x i : ℕ) (xs : List ℕ) → x ≤ i → colour_at c (x ∷ xs) i ≡ colour_at (opposite c) xs i
unfolding colour_at
colour-behind c x i xs h = rw (le-ltb i x h)

-- and so for the previous element, right of that change
previous-behind : (c : Colour) (x i : ℕ) (xs : List ℕ) → x < i → previous c (x ∷ xs) i ≡ previous (opposite c) xs i
unfolding previous
previous-behind c x zero xs h = absurd (omega arith)
previous-behind c x (suc i) xs h = colour-behind c x i xs (omega arith)

-- ---- Changing elements

-- The laws below are over which colours are wanted: any for a1, a2 and b2, one for b1.
module _ (wanted : Colour → Bool) where
  -- is this a changing element of a wanted colour
  abbrev turns : Colour → List ℕ → ℕ → Bool
  turns c xs i = differ (previous c xs i) (colour_at c xs i) && wanted (colour_at c xs i)

  -- before the first change there is none
  turns-before : (c : Colour) (i : ℕ) {width low : ℕ} {xs : List ℕ} → i < low → Rising width low xs → turns c xs i ≡ false
  turns-before c i h r = rw (previous-before c i (omega arith) r, colour-before c i h r, differ_same c)

  -- the first change is one, of the opposite colour
  turns_at : (c : Colour) {width x : ℕ} {xs : List ℕ} → x < width → Rising width (suc x) xs → turns c (x ∷ xs) x ≡ wanted (opposite c)
  turns_at c {x = x} {xs = xs} h r =
      rw (
        previous-before c x (le_refl x) (some (le_refl x) h r),
        colour-behind c x x xs (le_refl x),
        colour-before (opposite c) x (le_refl (suc x)) r,
        differ-opposite c,
      )

  -- right of it they are those of the other changes
  turns-behind : (c : Colour) (x i : ℕ) (xs : List ℕ) → x < i → turns c (x ∷ xs) i ≡ turns (opposite c) xs i
  turns-behind c x i xs h = rw (previous-behind c x i xs h, colour-behind c x i xs (omega arith))

-- every colour is wanted
abbrev any : Colour → Bool
any c = true

-- what turns is one of the changes
turns-change : {width : ℕ} (c : Colour) (i : ℕ) {low : ℕ} {xs : List ℕ} → Rising width low xs → turns any c xs i ≡ true → Memᴰ i xs
turns-change c i none e = absurd (true≢false (sym e ∙ turns-before any c i {width = 0} (le_refl (suc i)) none))
turns-change c i (some {x = x} {xs = xs} k l r) e =
    elim (placed i x) [
      | left p ↦ absurd (true≢false (sym e ∙ turns-before any c i p (some (le_refl x) l r)))
      | same p ↦ Memᴰ.head p
      | right p ↦ Memᴰ.tail (turns-change (opposite c) i r (sym (turns-behind any c x i xs p) ∙ e))
    ]

-- and each change turns
change-turns : {width : ℕ} (c : Colour) (i : ℕ) {low : ℕ} {xs : List ℕ} → Rising width low xs → Memᴰ i xs → turns any c xs i ≡ true
change-turns {width = width} c i (none {low = low}) x4 = elim x4 [ ]
change-turns c i (some k l r) (Memᴰ.head e) = rw e (turns_at any c l r)
change-turns c i (some {x = x} {xs = xs} k l r) (Memᴰ.tail m) =
    turns-behind any c x i xs (change-within r m).0 ∙ change-turns (opposite c) i r m

-- "changing" by the previous element, which for a whole row is white before the first
changing-differ : (row : List ℕ) (i : ℕ) → changing (pixels_of row) i ≡ differ (previous white row i) (pixels_of row i)
unfolding changing previous
changing-differ row zero = refl
changing-differ row (suc i) = refl

-- of whatever colour
changing-turns : (row : List ℕ) (i : ℕ) → changing (pixels_of row) i ≡ turns any white row i
changing-turns row i = changing-differ row i ∙ sym (and-true (differ (previous white row i) (pixels_of row i)))

-- A position is a changing element exactly when it is one of the row's changes.
pub changing-agrees : {width : ℕ} {row : List ℕ} → Rising width 0 row → (i : ℕ) → (changing (pixels_of row) i ≡ true) ↔ Memᴰ i row
changing-agrees {row = row} r i =
    (λ e. turns-change white i r (sym (changing-turns row i) ∙ e), λ m. changing-turns row i ∙ change-turns white i r m)

-- ---- The first element that passes a test

-- y is the first position from `least` on that passes; or it is the width, and none below the width does
record First (width : ℕ) (test : ℕ → Bool) (least y : ℕ) : Type 0 where
  fits : y ≤ width
  before : (i : ℕ) → least ≤ i → i < y → test i ≡ false
  passes : y < width → (least ≤ y) × (test y ≡ true)

-- the search over n positions finds it
first-of : (width : ℕ) (test : ℕ → Bool) (n least y : ℕ) → width - least ≡ n → First width test least y → first_of width test n least ≡ y
unfolding first_of
first-of width test zero least y e f =
    elim (placed y width) [
      | left p ↦ absurd (omega (arith, (f.passes p).0))
      | same p ↦ sym p
      | right p ↦ absurd (omega (arith, f.fits))
    ]
first-of width test (suc n) least y e f =
    elim (placed y least) [
      | left p ↦ absurd (omega (arith, (f.passes (omega arith)).0))
      | same p ↦ rw (ap test (sym p) ∙ (f.passes (omega arith)).1, first_of) (sym p)
      | right p ↦
          rw (f.before least (le_refl least) p, first_of)
          (first-of width test n (suc least) y (omega arith)
          (record {
            fits = f.fits;
            before = λ i h. f.before i (omega arith);
            passes = λ h. (p, (f.passes h).1);
          }))
    ]

-- and so does the search to the width
first-from : {width least y : ℕ} {test : ℕ → Bool} → First width test least y → first_from width test least ≡ y
first-from {width} {least} {y} {test} f = first-of width test (width - least) least y refl f

-- ---- The same search on a list of changes

-- ys are the changes of xs from the first on that lies at `least` or right of it and turns to a wanted colour; c is the colour before xs
data From (wanted : Colour → Bool) (least : ℕ) : Colour → List ℕ → List ℕ → Type 0 where
  nowhere : {c : Colour} → From wanted least c [] []
  here : {c : Colour} {x : ℕ} {xs : List ℕ} → least ≤ x → wanted (opposite c) ≡ true → From wanted least c (x ∷ xs) (x ∷ xs)
  later : {c : Colour} {x : ℕ} {xs ys : List ℕ} → (least ≤ x → wanted (opposite c) ≡ false) → From wanted least (opposite c) xs ys
      → From wanted least c (x ∷ xs) ys

-- what is found lies no lower than the changes searched
from_low : {wanted : Colour → Bool} {least width low : ℕ} {c : Colour} {xs ys : List ℕ} → low ≤ width → Rising width low xs → From wanted least c xs ys
    → low ≤ head_or width ys
from_low h none nowhere = h
from_low h (some k l r) (here p q) = k
from_low h (some k l r) (later p s) = omega (arith, from_low l r s)

-- the first change found is the first changing element of a wanted colour among the row's pixels
from_first : {wanted : Colour → Bool} {least width low : ℕ} {c : Colour} {xs ys : List ℕ} → Rising width low xs → From wanted least c xs ys
    → First width (turns wanted c xs) least (head_or width ys)
from_first {wanted} {width = width} {c = c} none nowhere = record {
  fits = le_refl width;
  before = λ i h k. turns-before wanted c i {width = width} (le_refl (suc i)) none;
  passes = λ h. absurd (omega arith);
}
from_first {wanted} {c = c} (some {x = x} k l r) (here p q) = record {
  fits = omega arith;
  before = λ i h m. turns-before wanted c i m (some (le_refl x) l r);
  passes = λ h. (p, turns_at wanted c l r ∙ q);
}
from_first {wanted} {c = c} (some {x = x} {xs = xs} k l r) (later p s) =
    let f = from_first r s in
    record {
      fits = f.fits;
      before = λ i a b. elim (placed i x) [
        | left q ↦ turns-before wanted c i q (some (le_refl x) l r)
        | same q ↦ rw q (turns_at wanted c l r ∙ p (omega arith))
        | right q ↦ turns-behind wanted c x i xs q ∙ f.before i a b
      ];
      passes = λ q. ((f.passes q).0, turns-behind wanted c x _ xs (from_low l r s) ∙ (f.passes q).1);
    }

-- ---- a1 and a2

-- the changes from a position on
unfoldable pub changes_from : ℕ → List ℕ → List ℕ
changes_from n [] = []
changes_from n (x ∷ xs) = cond (leb n x) (x ∷ xs) (changes_from n xs)

-- they are found where any colour is wanted
changes-from : (n : ℕ) (c : Colour) (xs : List ℕ) → From any n c xs (changes_from n xs)
unfolding changes_from
changes-from n c [] = nowhere
changes-from n c (x ∷ xs) = tests (leb n x) refl (changes-from n (opposite c) xs)
  where
    tests : (b : Bool) → leb n x ≡ b → From any n (opposite c) xs (changes_from n xs) → From any n c (x ∷ xs) (cond b (x ∷ xs) (changes_from n xs))
    tests true e s = here (leb-true n x e) refl
    tests false e s = later (λ (h : n ≤ x). absurd (omega (arith, leb-false n x e))) s

-- a1 is the first change right of a0, or the width.
pub a1-agrees : {width : ℕ} {row : List ℕ} → Rising width 0 row → (a0 : A0) → a1_on width (pixels_of row) a0 ≡ head_or width (changes_from (right_of a0) row)
unfolding a1_on
a1-agrees {width} {row} r a0 =
    ap (λ (test : ℕ → Bool). first_from width test (right_of a0)) (fun_ext (changing-turns row))
    ∙ first-from (from_first r (changes-from (right_of a0) white row))

-- changes that rise from a position on are all from there on
changes-all : {width n : ℕ} {xs : List ℕ} → Rising width n xs → changes_from n xs ≡ xs
unfolding changes_from
changes-all none = refl
changes-all (some k l r) = rw (le-leb _ _ k)

-- the changes right of the one found are those after it
changes-after : {wanted : Colour → Bool} {least width low : ℕ} {c : Colour} {xs ys : List ℕ} → Rising width low xs → From wanted least c xs ys
    → changes_from (suc (head_or width ys)) xs ≡ tail ys
unfolding changes_from
changes-after none nowhere = refl
changes-after (some {x = x} k l r) (here p q) = rw (lt-leb (suc x) x (le_refl (suc x))) (changes-all r)
changes-after {width = width} (some {x = x} k l r) (later {ys = ys} p s) =
    rw (lt-leb (suc (head_or width ys)) x (omega (arith, from_low l r s))) (changes-after r s)

-- so the next changing element right of it is the next change
next-agrees : {wanted : Colour → Bool} {least width : ℕ} {row ys : List ℕ} → Rising width 0 row → From wanted least white row ys
    → (y : ℕ) → y ≡ head_or width ys → a1_on width (pixels_of row) (on y) ≡ head_or width (tail ys)
next-agrees {width = width} {row = row} r s y e =
    a1-agrees r (on y) ∙ ap (λ (n : ℕ). head_or width (changes_from (suc n) row)) e ∙ ap (head_or width) (changes-after r s)

-- a2 is the change after a1, or the width.
pub a2-agrees : {width : ℕ} {row : List ℕ} → Rising width 0 row → (a0 : A0)
    → a2_on width (pixels_of row) a0 ≡ head_or width (tail (changes_from (right_of a0) row))
unfolding a2_on a1_on
a2-agrees {row = row} r a0 = next-agrees r (changes-from (right_of a0) white row) _ (a1-agrees r a0)

-- ---- b1 and b2

-- `from_b1` finds the changes where the colours that differ from the current one are wanted
b1-from : (colour : Colour) (n : ℕ) (c : Colour) (xs : List ℕ) → From (differ colour) n c xs (from_b1 colour n (opposite c) xs)
unfolding from_b1
b1-from colour n c [] = nowhere
b1-from colour n c (x ∷ xs) = tests (leb n x) refl (differ (opposite c) colour) (differ_comm colour (opposite c)) (b1-from colour n (opposite c) xs)
  where
    ys : List ℕ
    ys = from_b1 colour n (opposite (opposite c)) xs

    tests : (a : Bool) → leb n x ≡ a → (b : Bool) → differ colour (opposite c) ≡ b → From (differ colour) n (opposite c) xs ys
        → From (differ colour) n c (x ∷ xs) (elim (a && b) [ true ↦ x ∷ xs | false ↦ ys ])
    tests true e true d s = here (leb-true n x e) d
    tests true e false d s = later (λ h. d) s
    tests false e b d s = later (λ (h : n ≤ x). absurd (omega (arith, leb-false n x e))) s

-- and from right of a0 on
b1-from-a0 : (colour : Colour) (position : ℕ) (xs : List ℕ)
    → From (differ colour) (right_of (a0_at position)) white xs (from_b1 colour (right_of_a0 position) black xs)
unfolding right_of_a0
b1-from-a0 colour zero xs = b1-from colour 0 white xs
b1-from-a0 colour (suc p) xs = b1-from colour (suc (suc p)) white xs

-- the first of them is b1
b1-found : {width : ℕ} {row ys : List ℕ} (a0 : A0) (colour : Colour) → Rising width 0 row → From (differ colour) (right_of a0) white row ys
    → b1_on width (pixels_of row) a0 colour ≡ head_or width ys
unfolding b1_on
b1-found {width} {row} a0 colour r s =
    ap (λ (test : ℕ → Bool). first_from width (λ i. test i && differ colour (pixels_of row i)) (right_of a0)) (fun_ext (changing-differ row))
    ∙ first-from (from_first r s)

-- b1 agrees, for every position and colour.
pub b1-agrees : {width : ℕ} {reference : List ℕ} → Rising width 0 reference → (position : ℕ) (colour : Colour)
    → b1_on width (pixels_of reference) (a0_at position) colour ≡ b1 width reference position colour
b1-agrees {reference = reference} r position colour = b1-found (a0_at position) colour r (b1-from-a0 colour position reference)

-- b2, the change after b1, agrees.
pub b2-agrees : {width : ℕ} {reference : List ℕ} → Rising width 0 reference → (position : ℕ) (colour : Colour)
    → b2_on width (pixels_of reference) (a0_at position) colour ≡ b2 width reference position colour
unfolding b2_on a1_on
b2-agrees {reference = reference} r position colour = next-agrees r (b1-from-a0 colour position reference) _ (b1-agrees r position colour)

-- ---- a0 on the first element, where that is black: the position is 0 then too. The reference can only turn to black there, so no change is lost.

-- where no change lies left of either bound, one finds what the other does
from-raise : {wanted : Colour → Bool} {least higher width low : ℕ} {c : Colour} {xs ys : List ℕ} → least ≤ low → higher ≤ low → Rising width low xs
    → From wanted least c xs ys → From wanted higher c xs ys
from-raise h m none nowhere = nowhere
from-raise h m (some k l r) (here p q) = here (le_trans m k) q
from-raise h m (some k l r) (later p s) = later (λ a. p (le_trans h k)) (from-raise (omega arith) (omega arith) r s)

-- from the second element on there are the same changes to white
b1-from-first : {width : ℕ} {xs ys : List ℕ} → Rising width 0 xs → From (differ black) 0 white xs ys → From (differ black) 1 white xs ys
b1-from-first none nowhere = nowhere
b1-from-first (some k l r) (here p q) = absurd (true≢false (sym q))
b1-from-first (some k l r) (later p s) = later (λ h. refl) (from-raise (omega arith) (omega arith) r s)

-- b1 agrees there,
pub b1-agrees-first : {width : ℕ} {reference : List ℕ} → Rising width 0 reference → b1_on width (pixels_of reference) (on 0) black ≡ b1 width reference 0 black
b1-agrees-first {reference = reference} r = b1-found (on 0) black r (b1-from-first r (b1-from-a0 black 0 reference))

-- and so does b2.
pub b2-agrees-first : {width : ℕ} {reference : List ℕ} → Rising width 0 reference → b2_on width (pixels_of reference) (on 0) black ≡ b2 width reference 0 black
unfolding b2_on a1_on
b2-agrees-first {reference = reference} r = next-agrees r (b1-from-first r (b1-from-a0 black 0 reference)) _ (b1-agrees-first r)

-- ---- A coding line of which the changes up to a0 are done

-- the rest are the changes right of a0: a1 and a2 are the first two of them
pub rest-agrees : {width n low : ℕ} {done rest : List ℕ} → Rising n low done → Rising width n rest → changes_from n (done ++ rest) ≡ rest
unfolding changes_from
rest-agrees none s = changes-all s
rest-agrees {n = n} (some {x = x} k l r) s = rw (lt-leb n x l) (rest-agrees r s)

-- behind the changes done stands their last colour, or its opposite where the row starts black
done-colours : {width n low : ℕ} {done rest : List ℕ} → Rising n low done → Rising width n rest
    → (previous white (done ++ rest) n ≡ last_colour done) × (previous black (done ++ rest) n ≡ opposite (last_colour done))
unfolding last_colour
done-colours {n = n} none s = (previous-before white n (le_refl n) s, previous-before black n (le_refl n) s)
done-colours {n = n} {rest = rest} (some {x = x} {xs = xs} k l r) s =
    let h = done-colours r s in
    (previous-behind white x n (xs ++ rest) l ∙ h.1, previous-behind black x n (xs ++ rest) l ∙ h.0 ∙ sym (opposite-twice (last_colour xs)))

-- the colour of a0: the imaginary element is white
abbrev pub colour_on : Pixels → A0 → Colour
colour_on line imaginary = white
colour_on line (on i) = line i

-- The colour of a0 is that of the last pixel of the changes done.
pub colour-agrees : {width : ℕ} {done rest : List ℕ} (a0 : A0) → Rising (right_of a0) 0 done → Rising width (right_of a0) rest
    → colour_on (pixels_of (done ++ rest)) a0 ≡ last_colour done
unfolding previous
colour-agrees imaginary r s = (done-colours r s).0
colour-agrees (on i) r s = (done-colours r s).0
