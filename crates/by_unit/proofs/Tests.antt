-- The tests of 8 one after the other, as the code makes them, and the parts of a state by its phase and back. Assumes nothing.
use mathlib.Core.Path.{◌≡◌, refl, sym, ap, ◌∙◌}
use mathlib.Core.Bool.{Bool, true, false, not, ◌&&◌}
use mathlib.Core.List.{List}
use Prim.Native.Nat.{ℕ, zero, suc, ◌-◌, ◌≤◌, ◌<◌, min}
use native.Mathlib.Nat.{min-le_left}
use native.Mathlib.Omega.{arith}
use lib.Dec.{eqb, leb}
use lib.ListN.{get_or}
use borrow.Author.Tests.{leb-true, le-leb, lt-leb, ne_eqb}
use Rattle.rules.specs.ByUnit.{end_of}
use Rattle.rules.proofs.Bits.{both_true}
use Rattle.context.specs.declared.line.Line.{Line}
use Rattle.context.specs.State.{flag_of}
use Rattle.by_unit.specs.declared.Phase.TheVariants as Phase
use Rattle.by_unit.specs.declared.Saved.{Saved}
use Rattle.by_unit.specs.declared.stand.Half.{Half}
use Rattle.by_unit.specs.declared.stand.Half.TheVariants.{First, Second}
use Rattle.by_unit.specs.declared.stand.Stand.{Stand}
use Rattle.by_unit.specs.declared.stand.Stand.TheVariants.{InRun}
use Rattle.by_unit.specs.declared.stand.Kept.{Kept}
use Rattle.by_unit.specs.Reading.{saved_line_for, saved_for, counts_for}

-- ---- One test before others

pub no : (x t : Bool) → x ≡ false → false ≡ (x && t)
no x t e = ap (λ (y : Bool). y && t) (sym e)

pub yes : (x t : Bool) → x ≡ true → t ≡ (x && t)
yes x t e = ap (λ (y : Bool). y && t) (sym e)

pub over : (a b : ℕ) (t : Bool) → b < a → false ≡ (leb a b && t)
over a b t h = no (leb a b) t (lt-leb a b h)

pub within : (a b : ℕ) (t : Bool) → a ≤ b → t ≡ (leb a b && t)
within a b t h = yes (leb a b) t (le-leb a b h)

-- what the counts that passed show
pub counted : (most ends marks : ℕ) (s : Saved) → counts_for most (min ends marks) s ≡ true → (s.rows ≤ ends) × (s.loose ≤ most)
counted most ends marks s e =
    let (a, b) = both_true (leb s.eols most) _ e in
    let (c, d) = both_true (leb s.rows most) _ b in
    let (f, g) = both_true (leb s.loose most) _ d in
    let placed = leb-true s.rows (min ends marks) g in
    (omega (arith, placed, min-le_left ends marks), leb-true s.loose most f)

-- ---- Parts

pub at_end : (es : List ℕ) (n : ℕ) → (n ≡ 0 → ⊥) → get_or es (n - 1) 0 ≡ end_of es n
at_end es zero h = absurd (h refl)
at_end es (suc n) h = ap (λ (i : ℕ). get_or es i 0) (let z : suc n - 1 ≡ n = omega arith in z)

pub set_is : (n : ℕ) → not (eqb n 0) ≡ flag_of n
set_is zero = refl
set_is (suc n) = ap not (ne_eqb (suc n) 0 (λ e. omega (arith, e)))

module _ (k : Kept) (s : Stand) (h : Half) (l : Line) (from total at : ℕ) (q : s ≡ InRun h l from total at) where
  by-half : saved_for k (InRun h l from total at) ≡ saved_for k s
  by-half = ap (saved_for k) (sym q)

  pub saved-first : (mode : ℕ) → h ≡ First mode → saved_line_for Phase.First k.rows at l total from mode false ≡ saved_for k s
  saved-first mode e = ap (λ (x : Half). saved_for k (InRun x l from total at)) (sym e) ∙ by-half

  pub saved-second : (mode : ℕ) (blank : Bool) → h ≡ Second mode blank → saved_line_for Phase.Second k.rows at l total from mode blank ≡ saved_for k s
  saved-second mode blank e = ap (λ (x : Half). saved_for k (InRun x l from total at)) (sym e) ∙ by-half
