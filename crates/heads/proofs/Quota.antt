-- The quota left, in 32 signed bits. Assumes nothing.
use mathlib.Core.Path.{◌≡◌, refl, sym, ◌∙◌}
use mathlib.Core.Bool.{Bool, true, false, cond, ◌&&◌, true≢false}
use Prim.Native.Nat.{ℕ, zero, suc, ◌+◌, ◌-◌, ◌≤◌, ◌<◌}
use native.Mathlib.Omega.{arith}
use lib.Dec.{leb, ltb}
use lib.IntN.{ℤ, pos, negsuc, sub_ℕ, ◌-ℤ◌}
use lib.Signed.{mag}
use mir.Syntax.{w32}
use mir.Val.{SFits, of_z, to_z}
use mir.Facts.{to_z-of_z, to_z_pos}
use borrow.Author.Tests.{leb-true, lt-ltb}
use mathlib.Core.List.{List}
use Rattle.heads.specs.Form.{all, ordered, given, quota_given}
use Rattle.heads.specs.declared.Box.{Box}

-- a number of 32 signed bits is handed on by its bits
pub held : {quota : ℤ} → SFits w32 quota → to_z w32 (of_z w32 quota) ≡ quota
held f = to_z-of_z f

-- a given quota is small
pub quota-small : (quota : ℤ) → quota_given quota ≡ true → mag quota ≤ 1000000
quota-small (pos n) e = leb-true n 1000000 e
quota-small (negsuc n) e = by (leb n 999999) refl e
  where
    by : (t : Bool) → leb n 999999 ≡ t → (t && true) ≡ true → n ≤ 1000000
    by true p q = omega (arith, leb-true n 999999 p)
    by false p q = absurd (true≢false (sym q))

-- heads taken off are few
mag-sub : (a b : ℕ) → mag (sub_ℕ a (suc b)) ≤ a + b
mag-sub a b = by (ltb a (suc b))
  where
    by : (t : Bool) → mag (cond t (negsuc (suc b - suc a)) (pos (a - suc b))) ≤ a + b
    by true = omega arith
    by false = omega arith

mag_less : (quota : ℤ) (n : ℕ) → mag (quota -ℤ pos n) ≤ mag quota + n
mag_less (pos a) zero = omega arith
mag_less (pos a) (suc n) = omega (arith, mag-sub a n)
mag_less (negsuc a) zero = rw (lt-ltb 0 (suc a) (omega arith)) (omega arith)
mag_less (negsuc a) (suc n) = omega arith

module _ (quota : ℤ) (n : ℕ) (given : quota_given quota ≡ true) (few : n ≤ 99) where
  is : to_z w32 (of_z w32 quota) -ℤ to_z w32 n ≡ quota -ℤ pos n
  is = cc (held {quota = quota} (record { sfits = omega (arith, quota-small quota given) }), to_z_pos w32 {n = n} (omega arith))

  pub left-fits : SFits w32 (to_z w32 (of_z w32 quota) -ℤ to_z w32 n)
  left-fits = rw is (record { sfits = omega (arith, mag_less quota n, quota-small quota given) })

  pub left_is : to_z w32 (of_z w32 (to_z w32 (of_z w32 quota) -ℤ to_z w32 n)) ≡ quota -ℤ pos n
  left_is = held left-fits ∙ is

-- ---- What the caller gives

module _ (form : List (List Box)) (least : ℕ) (quota : ℤ) where
  pub given-boxes : all (all ordered) form ≡ false → false ≡ given form least quota
  unfolding given
  given-boxes e = sym (rw e)

  module _ (boxes : all (all ordered) form ≡ true) where
    pub given-least : least ≡ 0 → false ≡ given form least quota
    unfolding given
    given-least e = sym (rw (boxes, e))

    pub given-rest : 0 < least → quota_given quota ≡ given form least quota
    unfolding given
    given-rest some = sym (rw (boxes, lt-ltb 0 least some))
