-- How many changes of a reference lie ahead: each pass has two of them behind it. Assumes nothing.
use mathlib.Core.Path.{◌≡◌, refl}
use mathlib.Core.Bool.{Bool, true, false, cond, ◌&&◌}
use mathlib.Core.List.{List, [], ◌∷◌}
use Prim.Native.Nat.{ℕ, zero, suc, ◌+◌, ◌≤◌, ◌<◌}
use native.Mathlib.Omega.{arith}
use lib.Dec.{leb}
use lib.ListN.{length}
use borrow.Author.Tests.{leb-true, leb-false, le-leb, lt-leb}
use Rattle.rules.specs.Codes.{Colour, black, opposite, differ}
use Rattle.rules.specs.Lines.{right_of_a0, from_b1, head_or, tail, b2}
use Rattle.rules.specs.Rising.{Rising, none, some}
use Rattle.rules.proofs.Ascending.{rises-lower}

-- how many changes lie at a place or behind it
unfoldable pub right : ℕ → List ℕ → ℕ
right least [] = 0
right least (x ∷ xs) = cond (leb least x) 1 0 + right least xs

at_most_one : (b : Bool) → cond b 1 0 ≤ 1
at_most_one true = omega arith
at_most_one false = omega arith

-- not more than there are,
pub right-few : (least : ℕ) (xs : List ℕ) → right least xs ≤ length xs
unfolding right
right-few least [] = omega arith
right-few least (x ∷ xs) = omega (arith, at_most_one (leb least x), right-few least xs)

-- and from a later place on not more
pub right-less : (least later : ℕ) → least ≤ later → (xs : List ℕ) → right later xs ≤ right least xs
unfolding right
right-less least later h [] = omega arith
right-less least later h (x ∷ xs) = by (leb least x) (leb-false least x) (leb later x) (leb-true later x) (right-less least later h xs)
  where
    by : (b : Bool) → (b ≡ false → x < least) → (d : Bool) → (d ≡ true → later ≤ x) → right later xs ≤ right least xs
        → cond d 1 0 + right later xs ≤ cond b 1 0 + right least xs
    by true f d g ih = omega (arith, at_most_one d)
    by false f true g ih = absurd (omega (arith, f refl, g refl))
    by false f false g ih = omega arith

-- the changes from b1 on rise from where the list does
found-low : {width : ℕ} (c : Colour) (least : ℕ) (turns : Colour) {low : ℕ} {xs : List ℕ} → Rising width low xs → Rising width low (from_b1 c least turns xs)
unfolding from_b1
found-low c least turns none = none
found-low {width} c least turns {low} (some {x = x} {xs = xs} k l r) = tests (leb least x && differ turns c) (rises-lower (omega arith) (found-low c least (opposite turns) r))
  where
    tests : (b : Bool) → Rising width low (from_b1 c least (opposite turns) xs)
        → Rising width low (elim b as (λ _. List ℕ) [ true ↦ x ∷ xs | false ↦ from_b1 c least (opposite turns) xs ])
    tests true ih = some k l r
    tests false ih = ih

-- the second of changes that rise
second-low : {width low : ℕ} {xs : List ℕ} → Rising width low xs → head_or width (tail xs) < width → low < head_or width (tail xs)
second-low none h = absurd (omega arith)
second-low (some _ _ none) h = absurd (omega arith)
second-low (some k _ (some l _ _)) h = omega arith

-- behind b2 there are two fewer than from b1's least place on
two-fewer : {width : ℕ} (c : Colour) (least : ℕ) (turns : Colour) {low : ℕ} {xs : List ℕ} → Rising width low xs → head_or width (tail (from_b1 c least turns xs)) < width
    → 2 + right (suc (head_or width (tail (from_b1 c least turns xs)))) xs ≤ right least xs
unfolding from_b1 right
two-fewer c least turns none h = absurd (omega arith)
two-fewer {width} c least turns (some {x = x} {xs = xs} k l r) h =
    tests (leb least x) (leb-true least x) (differ turns c) (two-fewer c least (opposite turns) r) h
  where
    Fewer : List ℕ → Type 0
    Fewer ys = head_or width (tail ys) < width → 2 + (cond (leb (suc (head_or width (tail ys))) x) 1 0 + right (suc (head_or width (tail ys))) xs) ≤ cond (leb least x) 1 0 + right least xs

    here : least ≤ x → {ys : List ℕ} → Rising width (suc x) ys → head_or width ys < width → 2 + (cond (leb (suc (head_or width ys)) x) 1 0 + right (suc (head_or width ys)) ys) ≤ cond (leb least x) 1 0 + right least ys
    here e none h = absurd (omega arith)
    here e (some {x = y} {xs = ys} a b s) h =
        rw (lt-leb (suc y) x (omega arith), lt-leb (suc y) y (omega arith), le-leb least x e, le-leb least y (omega arith))
        (omega (arith, right-less least (suc y) (omega arith) ys))

    behind : (head_or width (tail (from_b1 c least (opposite turns) xs)) < width → 2 + right (suc (head_or width (tail (from_b1 c least (opposite turns) xs)))) xs ≤ right least xs) → Fewer (from_b1 c least (opposite turns) xs)
    behind ih h = rw (lt-leb (suc (head_or width (tail (from_b1 c least (opposite turns) xs)))) x (omega (arith, second-low (found-low c least (opposite turns) r) h))) (omega (arith, ih h))

    tests : (b : Bool) → (b ≡ true → least ≤ x) → (d : Bool) → (head_or width (tail (from_b1 c least (opposite turns) xs)) < width → 2 + right (suc (head_or width (tail (from_b1 c least (opposite turns) xs)))) xs ≤ right least xs)
        → Fewer (elim (b && d) as (λ _. List ℕ) [ true ↦ x ∷ xs | false ↦ (from_b1 c least (opposite turns) xs) ])
    tests true e true ih = here (e refl) r
    tests true e false ih = behind ih
    tests false e d ih = behind ih

-- so a pass has two behind it
pub pass-behind : {width : ℕ} {reference : List ℕ} → Rising width 0 reference → (p : ℕ) (c : Colour) → b2 width reference p c < width
    → 2 + right (right_of_a0 (b2 width reference p c)) reference ≤ right (right_of_a0 p) reference
unfolding right_of_a0
pass-behind {width} {reference} rises p c h =
    omega (arith, two-fewer c (right_of_a0 p) black rises h, right-less (suc (b2 width reference p c)) (right_of_a0 (b2 width reference p c)) (behind (b2 width reference p c) positive) reference)
  where
    positive : 0 < b2 width reference p c
    positive = second-low (found-low c (right_of_a0 p) black rises) h

    behind : (n : ℕ) → 0 < n → suc n ≤ right_of_a0 n
    behind zero k = absurd (omega arith)
    behind (suc n) k = omega arith
