-- What the machine computes in 64 signed bits of b1, an offset and the position. Assumes nothing.
use mathlib.Core.Path.{◌≡◌, refl, sym, ap, ◌∙◌}
use mathlib.Core.Bool.{Bool, true, false, cond, ◌&&◌, true≢false}
use Prim.Native.Nat.{ℕ, zero, suc, ◌+◌, ◌-◌, ◌≤◌, ◌<◌}
use native.Mathlib.Omega.{arith}
use lib.Dec.{T, leb, ltb}
use lib.IntN.{ℤ, pos, negsuc, neg_ℤ, sub_ℕ, ◌+ℤ◌, ◌-ℤ◌, nat_abs}
use lib.Signed.{mag, lt_z, non_neg}
use mir.Syntax.{w32, w64}
use mir.Val.{Fits, SFits, of_z, to_z}
use mir.Facts.{to_z-of_z, to_z_pos}
use borrow.Author.Tests.{ltb-true, ltb-false, leb-true, leb-false, lt-ltb, le-ltb, le-leb, lt-leb}
use Rattle.std.specs.Prelude.{Option, Some, None}
use Rattle.context.specs.Offset.{Offset, move_to, move_by}
use Rattle.codes.specs.Modes.{offset_mode}

-- ---- Sums and differences

-- a sum is at most as large as its terms together
mag-sub : (a b : ℕ) → mag (sub_ℕ a (suc b)) ≤ suc (a + b)
mag-sub a b = by (ltb a (suc b))
  where
    by : (t : Bool) → mag (cond t (negsuc (suc b - suc a)) (pos (a - suc b))) ≤ suc (a + b)
    by true = omega arith
    by false = omega arith

mag_sum : (x y : ℤ) → mag (x +ℤ y) ≤ suc (mag x + mag y)
mag_sum (pos a) (pos b) = omega arith
mag_sum (pos a) (negsuc b) = mag-sub a b
mag_sum (negsuc a) (pos b) = omega (arith, mag-sub b a)
mag_sum (negsuc a) (negsuc b) = omega arith

mag-minus : (p : ℕ) → mag (neg_ℤ (pos p)) ≤ p
mag-minus zero = omega arith
mag-minus (suc p) = omega arith

-- the difference of two places, by their order, and of a number below 0 and a place
minus-right : (a p : ℕ) → p ≤ a → pos a -ℤ pos p ≡ pos (a - p)
minus-right a zero h = ap pos (let q : a + 0 ≡ a - 0 = omega arith in q)
minus-right a (suc p) h = rw (le-ltb a (suc p) h)

minus-left : (a p : ℕ) → a < p → pos a -ℤ pos p ≡ negsuc (p - suc a)
minus-left a zero h = absurd (omega arith)
minus-left a (suc p) h = rw (lt-ltb a (suc p) h)

minus-below : (k p : ℕ) → negsuc k -ℤ pos p ≡ negsuc (k + p)
minus-below k zero = rw (lt-ltb 0 (suc k) (omega arith)) (ap negsuc (let q : suc k - 1 ≡ k + 0 = omega arith in q))
minus-below k (suc p) = ap negsuc (let q : suc (k + p) ≡ k + suc p = omega arith in q)

-- ---- The move, by b1 plus the offset

abbrev to : ℕ → ℤ → Option ℕ
to position (pos a1) = move_to position a1
to position (negsuc k) = None

move-is : (b position : ℕ) (z : ℤ) → move_by b (offset_mode z) position ≡ to position (pos b +ℤ z)
unfolding move_by
move-is b position (pos k) = refl
move-is b position (negsuc k) = by (ltb b (suc k)) refl
  where
    by : (t : Bool) → ltb b (suc k) ≡ t → cond (leb (suc k) b) (move_to position (b - suc k)) None ≡ to position (cond t (negsuc (suc k - suc b)) (pos (b - suc k)))
    by true e = rw (lt-leb (suc k) b (ltb-true b (suc k) e))
    by false e = rw (le-leb (suc k) b (ltb-false b (suc k) e))

-- a1 above 32 bits
too_far : (position : ℕ) (x : ℤ) → lt_z (pos 4294967295) x ≡ true → None ≡ to position x
too_far position (pos a1) e = rw (lt-leb a1 4294967295 (ltb-true 4294967295 a1 e))
too_far position (negsuc k) e = refl

-- what the difference of any other to the position tells: a1 lies left of the position, or the line moves by the difference
data Gap (position : ℕ) (x : ℤ) : ℤ → Type 0 where
  left : (k : ℕ) → None ≡ to position x → Gap position x (negsuc k)
  right : (count : ℕ) → count < 4294967296 → Some count ≡ to position x → Gap position x (pos count)

gap : (position : ℕ) (x : ℤ) → lt_z (pos 4294967295) x ≡ false → Gap position x (x -ℤ pos position)
gap position (negsuc k) e = rw (minus-below k position) (left (k + position) refl)
gap position (pos a1) e = by (leb position a1) refl (ltb-false 4294967295 a1 e)
  where
    no : (t : Bool) → None ≡ cond (t && false) (Some (a1 - position)) None
    no true = refl
    no false = refl

    by : (t : Bool) → leb position a1 ≡ t → a1 ≤ 4294967295 → Gap position (pos a1) (pos a1 -ℤ pos position)
    by true f h =
        rw (minus-right a1 position (leb-true position a1 f))
        (right (a1 - position) (omega arith) (rw (le-leb a1 4294967295 h, f)))
    by false f h =
        rw (minus-left a1 position (leb-false position a1 f)) (left (position - suc a1) (rw f (no (leb a1 4294967295))))

gap-left : {position : ℕ} {x d : ℤ} → Gap position x d → lt_z d (pos 0) ≡ true → None ≡ to position x
gap-left (left k e) f = e
gap-left (right count h e) f = absurd (omega (arith, ltb-true count 0 f))

gap-right : {position : ℕ} {x d : ℤ} → Gap position x d → lt_z d (pos 0) ≡ false → T (non_neg d) × Fits w32 (nat_abs d) × (Some (nat_abs d) ≡ to position x)
gap-right (left k e) f = absurd (true≢false f)
gap-right (right count h e) f = (tt, record { fits = h }, e)

-- ---- The same of numbers that are read back from their bits

abbrev pub held : ℤ → ℤ
held x = to_z w64 (of_z w64 x)

-- where an offset comes back as it was
pub offset-held : (z : ℤ) → Offset z → held z ≡ z
offset-held (pos k) h = to_z-of_z {w = w64} {z = pos k} (record { sfits = omega arith })
offset-held (negsuc k) h = to_z-of_z {w = w64} {z = negsuc k} (record { sfits = omega arith })

abbrev sum : ℕ → ℤ → ℤ
sum b z = to_z w64 b +ℤ held z

abbrev difference : ℕ → ℤ → ℕ → ℤ
difference b z position = held (sum b z) -ℤ to_z w64 position

offset-small : (z : ℤ) → Offset z → mag z ≤ 3
offset-small (pos k) h = h
offset-small (negsuc k) h = omega arith

module _ {b : ℕ} {z : ℤ} {position : ℕ} (fb : Fits w32 b) (fz : SFits w64 z) (fp : Fits w32 position) (near : Offset z) where
  sum_is : sum b z ≡ pos b +ℤ z
  sum_is = cc (to_z_pos w64 {n = b} (omega arith), to_z-of_z fz)

  pub sum_fits : SFits w64 (sum b z)
  sum_fits = rw sum_is (record { sfits = omega (arith, mag_sum (pos b) z, offset-small z near) })

  sum-held : held (sum b z) ≡ pos b +ℤ z
  sum-held = to_z-of_z sum_fits ∙ sum_is

  difference-is : difference b z position ≡ (pos b +ℤ z) -ℤ pos position
  difference-is = cc (sum-held, to_z_pos w64 {n = position} (omega arith))

  pub difference-fits : SFits w64 (difference b z position)
  difference-fits =
      rw difference-is
      (record { sfits = omega (arith, mag_sum (pos b +ℤ z) (neg_ℤ (pos position)), mag-minus position, mag_sum (pos b) z, offset-small z near) })

  difference-held : held (difference b z position) ≡ (pos b +ℤ z) -ℤ pos position
  difference-held = to_z-of_z difference-fits ∙ difference-is

  pub over-right : lt_z (pos 4294967295) (held (sum b z)) ≡ true → None ≡ move_by b (offset_mode z) position
  over-right e = too_far position (pos b +ℤ z) (rw sum-held at e) ∙ sym (move-is b position z)

  module _ (e : lt_z (pos 4294967295) (held (sum b z)) ≡ false) where
    here : Gap position (pos b +ℤ z) (held (difference b z position))
    here = rw difference-held (gap position (pos b +ℤ z) (rw sum-held at e))

    pub over-left : lt_z (held (difference b z position)) (pos 0) ≡ true → None ≡ move_by b (offset_mode z) position
    over-left f = gap-left here f ∙ sym (move-is b position z)

    module _ (f : lt_z (held (difference b z position)) (pos 0) ≡ false) where
      pub difference-narrow : T (non_neg (held (difference b z position))) × Fits w32 (nat_abs (held (difference b z position)))
      difference-narrow = let g = gap-right here f in (g.0, g.1)

      pub goes : Some (nat_abs (held (difference b z position))) ≡ move_by b (offset_mode z) position
      goes = (gap-right here f).2 ∙ sym (move-is b position z)
