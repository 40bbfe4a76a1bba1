-- An array that holds a row from a base on: what lies before the row, the reference there, and the row lent and back. Assumes nothing.
use mathlib.Core.Path.{◌≡◌, refl, sym, ap, ◌∙◌}
use mathlib.Core.List.{List, ◌++◌, append-nil}
use Prim.Native.Nat.{ℕ, ◌-◌, ◌≤◌}
use native.Mathlib.Omega.{arith}
use lib.ListN.{length, take, drop, length-drop, take-append-drop, drop_of_length-le}
use lib.Seq.{length-take-le, take_all, take_at, drop_at, drop-append-le}
use borrow.Rule.Slice.PartMut.{mid_of, put_mid}
use Rattle.context.specs.declared.reference.Reference.{Reference}
use Rattle.context.specs.declared.reference.Reference.TheVariants.{Lent, Kept}
use Rattle.context.specs.Coding.{reference_in, Placed}

-- what lies right before the row depends on the front alone
front-part : (zs : List ℕ) (start base : ℕ) → start ≤ base → base ≤ length zs → take (base - start) (drop start zs) ≡ drop start (take base zs)
front-part zs start base h k =
    ap (λ (l : List ℕ). take (base - start) (drop start l)) (sym (take-append-drop base zs))
    ∙ ap (take (base - start)) (drop-append-le start (take base zs) (drop base zs) (omega (arith, length-take-le base zs k)))
    ∙ take_at (drop start (take base zs)) (drop base zs) (base - start) (omega (arith, length-drop start (take base zs), length-take-le base zs k))

pub placed-base : (place : Reference) (base : ℕ) (xs : List ℕ) → Placed place base xs → base ≤ length xs
placed-base Lent base xs p = p
placed-base (Kept start) base xs p = p.1

pub placed-as : (place : Reference) (base : ℕ) (xs zs : List ℕ) → length zs ≡ length xs → Placed place base xs → Placed place base zs
placed-as Lent base xs zs e p = omega arith
placed-as (Kept start) base xs zs e (p, q) = (p, omega arith)

-- and so does the reference
pub reference-same : (place : Reference) (base : ℕ) (reference xs zs : List ℕ) → Placed place base xs → Placed place base zs → take base zs ≡ take base xs → reference_in place base reference zs ≡ reference_in place base reference xs
reference-same Lent base reference xs zs p q e = refl
reference-same (Kept start) base reference xs zs (p, p') (q, q') e = front-part zs start base p q' ∙ ap (drop start) e ∙ sym (front-part xs start base p p')

-- the row is lent whole
pub row-lent : (zs : List ℕ) (base : ℕ) → mid_of base (length zs - base) zs ≡ drop base zs
row-lent zs base = take_all (length zs - base) (drop base zs) (omega (arith, length-drop base zs))

module _ (zs : List ℕ) (base : ℕ) (h : base ≤ length zs) (ys : List ℕ) where
  -- and comes back behind what lies before it
  pub row_back : put_mid base (length zs - base) zs ys ≡ take base zs ++ ys
  row_back = ap (λ (l : List ℕ). take base zs ++ (ys ++ l)) (drop_of_length-le (drop base zs) {i = length zs - base} (omega (arith, length-drop base zs))) ∙ ap (λ (l : List ℕ). take base zs ++ l) (append-nil ys)

  pub back-front : take base (take base zs ++ ys) ≡ take base zs
  back-front = take_at (take base zs) ys base (length-take-le base zs h)

  pub back-row : drop base (take base zs ++ ys) ≡ ys
  back-row = drop_at (take base zs) ys base (length-take-le base zs h)
