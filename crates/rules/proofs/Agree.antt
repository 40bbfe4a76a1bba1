-- Bits that agree up to a place: what a reading that ends there depends on. Assumes nothing.
use mathlib.Core.Path.{◌≡◌, refl, sym, ap, ◌∙◌}
use mathlib.Core.Bool.{Bool}
use mathlib.Core.List.{List, ◌++◌}
use Prim.Native.Nat.{ℕ, ◌+◌, ◌≤◌}
use native.Mathlib.Omega.{arith}
use lib.ListN.{length, take, drop, take-append-drop}
use lib.Seq.{take-take, take-add, drop_at, take_at, drop-drop, length-take-le}

-- the first n bits of both are there, and the same
pub record Agree (n : ℕ) (bs cs : List Bool) : Type 0 where
  pub same : take n bs ≡ take n cs
  pub long : n ≤ length bs
  pub long' : n ≤ length cs

pub agree_less : {n : ℕ} {bs cs : List Bool} (m : ℕ) → m ≤ n → Agree n bs cs → Agree m bs cs
agree_less {n = n} {bs = bs} {cs = cs} m h a = record {
  same = sym (take-take m n bs h) ∙ ap (take m) a.same ∙ take-take m n cs h;
  long = omega (arith, a.long);
  long' = omega (arith, a.long');
}

-- a word that stands at a place of the one stands there in the other
pub agree-word : {n : ℕ} {bs cs : List Bool} → Agree n bs cs → (at : ℕ) (xs rest : List Bool) → at + length xs ≤ n → drop at bs ≡ xs ++ rest
    → drop at cs ≡ xs ++ drop (at + length xs) cs
agree-word {n = n} {bs = bs} {cs = cs} a at xs rest h e =
    sym (take-append-drop (length xs) (drop at cs))
    ∙ ap (λ (l : List Bool). l ++ drop (length xs) (drop at cs)) (sym part ∙ ap (take (length xs)) e ∙ take_at xs rest (length xs) refl)
    ∙ ap (λ (l : List Bool). xs ++ l) (drop-drop (length xs) at cs)
  where
    b : Agree (at + length xs) bs cs
    b = agree_less (at + length xs) h a

    cut : (l : List Bool) → at ≤ length l → drop at (take (at + length xs) l) ≡ take (length xs) (drop at l)
    cut l k = ap (drop at) (take-add at (length xs) l) ∙ drop_at (take at l) (take (length xs) (drop at l)) at (length-take-le at l k)

    part : take (length xs) (drop at bs) ≡ take (length xs) (drop at cs)
    part = sym (cut bs (omega (arith, b.long))) ∙ ap (drop at) b.same ∙ cut cs (omega (arith, b.long'))
