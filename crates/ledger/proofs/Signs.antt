-- The quota left: its sign and its size, by natural numbers. Assumes nothing.
use mathlib.Core.Path.{◌≡◌, refl, sym, ap, ◌∙◌}
use mathlib.Core.Bool.{Bool, true, false, cond}
use Prim.Native.Nat.{ℕ, zero, suc, ◌+◌, ◌-◌, ◌≤◌, ◌<◌}
use native.Mathlib.Omega.{arith}
use lib.Dec.{ltb}
use lib.IntN.{ℤ, pos, negsuc, sub_ℕ, ◌-ℤ◌}
use lib.Signed.{lt_z}
use mir.Syntax.{w32}
use mir.Val.{SFits, of_z, to_z}
use mir.Facts.{to_z-of_z}
use borrow.Author.Tests.{lt-ltb, le-ltb}
use Rattle.ledger.specs.Books.{is_below, size}

pub negative : (n : ℤ) → lt_z n (pos 0) ≡ is_below n
negative (pos n) = le-ltb n 0 (omega arith)
negative (negsuc n) = refl

below_sub : (a b : ℕ) → is_below (sub_ℕ a (suc b)) ≡ ltb a (suc b)
below_sub a b = by (ltb a (suc b))
  where
    by : (t : Bool) → is_below (cond t (negsuc (suc b - suc a)) (pos (a - suc b))) ≡ t
    by true = refl
    by false = refl

below-pos : (n h : ℕ) → is_below (pos n -ℤ pos h) ≡ ltb n h
below-pos n zero = sym (le-ltb n 0 (omega arith))
below-pos n (suc h) = below_sub n h

below-negsuc : (n h : ℕ) → is_below (negsuc n -ℤ pos h) ≡ true
below-negsuc n zero = rw (lt-ltb 0 (suc n) (omega arith))
below-negsuc n (suc h) = refl

size-sub-lt : (a b : ℕ) → a < suc b → size (sub_ℕ a (suc b)) ≡ suc b - a
size-sub-lt a b h = rw (lt-ltb a (suc b) h) (omega arith)

size-sub-le : (a b : ℕ) → suc b ≤ a → size (sub_ℕ a (suc b)) ≡ a - suc b
size-sub-le a b h = rw (le-ltb a (suc b) h)

size-pos-lt : (n h : ℕ) → n < h → size (pos n -ℤ pos h) ≡ h - n
size-pos-lt n zero l = absurd (omega arith)
size-pos-lt n (suc h) l = size-sub-lt n h l

size-pos-le : (n h : ℕ) → h ≤ n → size (pos n -ℤ pos h) ≡ n - h
size-pos-le n zero l = omega arith
size-pos-le n (suc h) l = size-sub-le n h l

size-negsuc : (n h : ℕ) → size (negsuc n -ℤ pos h) ≡ suc n + h
size-negsuc n zero = rw (lt-ltb 0 (suc n) (omega arith)) (omega arith)
size-negsuc n (suc h) = omega arith

pub size-yes : (q : ℤ) (h : ℕ) → is_below q ≡ true → size q + h ≡ size (q -ℤ pos h)
size-yes (pos n) h e = absurd (let z : ◌≡◌ {A = ℕ} 0 1 = cc in omega arith)
size-yes (negsuc n) h e = sym (size-negsuc n h)

pub size-over : (q : ℤ) (h : ℕ) → is_below q ≡ false → size q < h → h - size q ≡ size (q -ℤ pos h)
size-over (pos n) h e l = sym (size-pos-lt n h l)
size-over (negsuc n) h e l = absurd (let z : ◌≡◌ {A = ℕ} 0 1 = cc in omega arith)

pub size-left : (q : ℤ) (h : ℕ) → is_below q ≡ false → h ≤ size q → size q - h ≡ size (q -ℤ pos h)
size-left (pos n) h e l = sym (size-pos-le n h l)
size-left (negsuc n) h e l = absurd (let z : ◌≡◌ {A = ℕ} 0 1 = cc in omega arith)

-- ---- How large a number of 32 signed bits is

pub few : (n : ℤ) → SFits w32 n → size n ≤ 2147483648
few (pos k) f = omega (arith, f.sfits)
few (negsuc k) f = omega (arith, f.sfits)

-- ---- What the sign and the size of a quota say, as they are handed over

module _ {q : ℤ} (f : SFits w32 q) where
  pub sign-is : {r t : Bool} → r ≡ is_below (to_z w32 (of_z w32 q)) → r ≡ t → is_below q ≡ t
  sign-is e h = ap is_below (sym (to_z-of_z f)) ∙ sym e ∙ h

  pub size_is : {m : ℕ} → m ≡ size (to_z w32 (of_z w32 q)) → m ≡ size q
  size_is e = e ∙ ap size (to_z-of_z f)
