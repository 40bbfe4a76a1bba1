-- Rows of changes that ascend strictly below a width: the test `ascends_from` as a structure to argue over, and its laws.
-- Assumes nothing.
use mathlib.Core.Path.{◌≡◌, refl}
use mathlib.Core.Bool.{Bool, true, false, ◌&&◌}
use mathlib.Core.List.{List, [], ◌∷◌, ◌++◌, Memᴰ}
use Prim.Native.Nat.{ℕ, suc, ◌+◌, ◌≤◌, ◌<◌}
use native.Mathlib.Nat.{le_trans}
use native.Mathlib.Omega.{arith}
use lib.Dec.{leb, ltb}
use lib.ListN.{length}
use borrow.Author.Tests.{ltb-true, leb-true, le-leb, lt-ltb}
use Rattle.rules.specs.Lines.{head_or, tail}
use Rattle.rules.specs.Pages.{ascends_from}
use Rattle.rules.specs.Rising.{Rising, none, some}

-- ---- The test

-- a row that passes the test rises
pub ascends-rises : (width low : ℕ) (xs : List ℕ) → ascends_from width low xs ≡ true → Rising width low xs
unfolding ascends_from
ascends-rises width low [] e = none
ascends-rises width low (x ∷ xs) e = tests (leb low x) refl (ltb x width) refl (ascends-rises width (suc x) xs) e
  where
    tests : (b : Bool) → leb low x ≡ b → (c : Bool) → ltb x width ≡ c → (ascends_from width (suc x) xs ≡ true → Rising width (suc x) xs) → (b && (c && ascends_from width (suc x) xs)) ≡ true → Rising width low (x ∷ xs)
    tests true p true q later e = some (leb-true low x p) (ltb-true x width q) (later e)
    tests true p false q later e = absurd (let z : ◌≡◌ {A = ℕ} 0 1 = cc in omega arith)
    tests false p c q later e = absurd (let z : ◌≡◌ {A = ℕ} 0 1 = cc in omega arith)

-- and a row that rises passes it
pub rises-ascends : {width low : ℕ} {xs : List ℕ} → Rising width low xs → ascends_from width low xs ≡ true
unfolding ascends_from
rises-ascends none = refl
rises-ascends (some h k r) = rw (le-leb _ _ h, lt-ltb _ _ k) (rises-ascends r)

-- ---- Bounds

-- what rises from a position on rises from any before it
pub rises-lower : {width low lower : ℕ} {xs : List ℕ} → lower ≤ low → Rising width low xs → Rising width lower xs
rises-lower h none = none
rises-lower h (some k l r) = some (le_trans h k) l r

-- what rises below a width rises below any that is wider
pub rises-wider : {width wider low : ℕ} {xs : List ℕ} → width ≤ wider → Rising width low xs → Rising wider low xs
rises-wider h none = none
rises-wider h (some k l r) = some k (omega arith) (rises-wider h r)

-- the first change lies at the bound or behind it
pub head-low : {width low : ℕ} {xs : List ℕ} → low ≤ width → Rising width low xs → low ≤ head_or width xs
head-low h none = h
head-low h (some k l r) = k

-- and at most at the width
pub head-fits : {width low : ℕ} {xs : List ℕ} → Rising width low xs → head_or width xs ≤ width
head-fits none = omega arith
head-fits (some k l r) = omega arith

-- the changes after the first rise behind it
pub tail-rises : {width low : ℕ} {xs : List ℕ} → Rising width low xs → Rising width (suc (head_or width xs)) (tail xs)
tail-rises none = none
tail-rises (some k l r) = r

-- each change lies between the bound and the width
pub change-within : {width low i : ℕ} {xs : List ℕ} → Rising width low xs → Memᴰ i xs → (low ≤ i) × (i < width)
change-within {width = width} {i = i} (none {low = low}) x4 = elim x4 [ ]
change-within (some k l r) (Memᴰ.head e) = omega arith
change-within (some k l r) (Memᴰ.tail m) = let h = change-within r m in omega arith

-- there are at most as many changes as positions
pub rises-length : {width low : ℕ} {xs : List ℕ} → low ≤ width → Rising width low xs → length xs + low ≤ width
rises-length h none = omega arith
rises-length h (some k l r) = omega (arith, rises-length l r)

-- ---- Rows put together

-- changes that rise below a position, and then changes that rise from there on
pub rises-append : {width middle low : ℕ} {xs ys : List ℕ} → low ≤ middle → middle ≤ width → Rising middle low xs → Rising width middle ys → Rising width low (xs ++ ys)
rises-append h k none s = rises-lower h s
rises-append h k (some a b r) s = some a (omega arith) (rises-append b k r s)

-- one more change, behind all of them
pub rises-snoc : {width p low : ℕ} {xs : List ℕ} → low ≤ p → p < width → Rising p low xs → Rising width low (xs ++ p ∷ [])
rises-snoc h k r = rises-append h (omega arith) r (some (omega arith) k none)
