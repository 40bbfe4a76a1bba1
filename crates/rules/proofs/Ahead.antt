-- What lies ahead of a position: the changes from b1 on, b2, and how much of a line is left. Assumes nothing.
use mathlib.Core.Path.{◌≡◌, refl}
use mathlib.Core.Bool.{Bool, true, false, ◌&&◌}
use mathlib.Core.List.{List, ◌∷◌}
use Prim.Native.Nat.{ℕ, zero, suc, ◌+◌, ◌-◌, ◌≤◌, ◌<◌}
use native.Mathlib.Omega.{arith}
use lib.Dec.{leb}
use lib.ListN.{length}
use borrow.Author.Tests.{leb-true}
use Rattle.rules.specs.Codes.{Colour, black, opposite, differ}
use Rattle.rules.specs.Lines.{right_of_a0, from_b1, head_or, tail, b2}
use Rattle.rules.specs.Rising.{Rising, none, some}
use Rattle.rules.proofs.Ascending.{head-low}

-- a bound before the first change is one for all
pub above : {width low q : ℕ} {xs : List ℕ} → q < head_or width xs → Rising width low xs → Rising width (suc q) xs
above h none = none
above h (some k l r) = some h l r

-- ---- b1 and b2

-- the changes from b1 on rise from its least place
found-rises : {width : ℕ} (colour : Colour) (least : ℕ) (turns : Colour) {low : ℕ} {xs : List ℕ} → Rising width low xs → Rising width least (from_b1 colour least turns xs)
unfolding from_b1
found-rises colour least turns none = none
found-rises {width} colour least turns (some {x = x} {xs = xs} k l r) = tests (leb least x) refl (differ turns colour) (found-rises colour least (opposite turns) r)
  where
    tests : (b : Bool) → leb least x ≡ b → (d : Bool) → Rising width least (from_b1 colour least (opposite turns) xs)
        → Rising width least (elim (b && d) as (λ _. List ℕ) [ true ↦ x ∷ xs | false ↦ from_b1 colour least (opposite turns) xs ])
    tests true e true ih = some (leb-true least x e) l r
    tests true e false ih = ih
    tests false e d ih = ih

-- which is not left of a0
right_of : (p : ℕ) → p ≤ right_of_a0 p
unfolding right_of_a0
right_of zero = omega arith
right_of (suc p) = omega arith

-- so b2 does not lie left of a0,
pub b2-ahead : (width : ℕ) (reference : List ℕ) (position : ℕ) (colour : Colour) → Rising width 0 reference → position ≤ width → position ≤ b2 width reference position colour
b2-ahead width reference position colour r h = by (found-rises colour (right_of_a0 position) black r) (right_of position)
  where
    by : {least : ℕ} {ys : List ℕ} → Rising width least ys → position ≤ least → position ≤ head_or width (tail ys)
    by none k = h
    by (some a b later) k = let low = head-low b later in omega arith

-- and, where there is one, behind it
pub b2-behind : {width : ℕ} {reference : List ℕ} → Rising width 0 reference → (p : ℕ) (c : Colour) → b2 width reference p c < width → p < b2 width reference p c
b2-behind {width} r p c = second (found-rises c (right_of_a0 p) black r) (right_of p)
  where
    second : {least : ℕ} {xs : List ℕ} → Rising width least xs → p ≤ least → head_or width (tail xs) < width → p < head_or width (tail xs)
    second none h k = absurd (omega arith)
    second (some _ _ none) h k = absurd (omega arith)
    second (some l _ (some k _ _)) h _ = omega arith

-- ---- What is left

-- of a line: positions and changes
abbrev pub left_over : ℕ → ℕ → List ℕ → ℕ
left_over width p rest = (width - p) + length rest

-- to the next change it is no more,
pub no_longer : {width p : ℕ} {xs : List ℕ} → p ≤ width → Rising width p xs → left_over width (head_or width xs) (tail xs) ≤ left_over width p xs
no_longer h none = omega arith
no_longer h (some k l r) = omega arith

-- and less before the width
pub shorter : {width p : ℕ} {xs : List ℕ} → p < width → Rising width p xs → left_over width (head_or width xs) (tail xs) < left_over width p xs
shorter h none = omega arith
shorter h (some k l r) = omega arith
