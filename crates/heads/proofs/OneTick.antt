-- Exactly one digit is ticked in a column: what the list of ticks says of each cell, and the other way round. Assumes nothing.
use mathlib.Core.Path.{◌≡◌, refl, sym, ap, ◌∙◌}
use mathlib.Core.Bool.{Bool, true, false, cond}
use mathlib.Core.List.{List, [], ◌∷◌}
use Prim.Native.Nat.{ℕ, zero, suc, ◌+◌, ◌≤◌, ◌<◌}
use lib.Arith.{lt_of_le-ne}
use native.Mathlib.Omega.{arith}
use lib.Dec.{eqb}
use lib.ListN.{length, get_or}
use borrow.Author.Tests.{eqb-true, eqb-false, eq-eqb, ne_eqb}
use Rattle.heads.specs.Form.{ticked, ticks}

-- no digit is ticked
ticks-none : (least k from : ℕ) (table : List (List ℕ)) → ticks least k from table ≡ [] → (i : ℕ) → i < length table → ticked least (get_or (get_or table i []) k 0) ≡ false
unfolding ticks
ticks-none least k from [] e i h = absurd (omega arith)
ticks-none least k from (row ∷ rows) e i h = by (ticked least (get_or row k 0)) refl e i h (ticks-none least k (suc from) rows)
  where
    by : (t : Bool) → ticked least (get_or row k 0) ≡ t → cond t (from ∷ ticks least k (suc from) rows) (ticks least k (suc from) rows) ≡ [] → (i : ℕ) → i < suc (length rows)
        → (ticks least k (suc from) rows ≡ [] → (i : ℕ) → i < length rows → ticked least (get_or (get_or rows i []) k 0) ≡ false)
        → ticked least (get_or (get_or (row ∷ rows) i []) k 0) ≡ false
    by true t e i h later = absurd (let z : ◌≡◌ {A = ℕ} 0 1 = cc in omega arith)
    by false t e zero h later = t
    by false t e (suc i) h later = later e i (omega arith)

-- digit d is ticked, and no other; the table's first row is for digit `from`
pub record OneTick (least k from : ℕ) (table : List (List ℕ)) (d : ℕ) : Type 0 where
  pub low : from ≤ d
  pub high : d < from + length table
  pub each : (i : ℕ) → i < length table → ticked least (get_or (get_or table i []) k 0) ≡ eqb (from + i) d

cons_head : {x y : ℕ} {xs ys : List ℕ} → x ∷ xs ≡ y ∷ ys → x ≡ y
cons_head e = cc

cons_tail : {x y : ℕ} {xs ys : List ℕ} → x ∷ xs ≡ y ∷ ys → xs ≡ ys
cons_tail e = cc

pub ticks-one : (least k from : ℕ) (table : List (List ℕ)) (d : ℕ) → ticks least k from table ≡ d ∷ [] → OneTick least k from table d
unfolding ticks
ticks-one least k from [] d e = absurd (let z : ◌≡◌ {A = ℕ} 0 1 = cc in omega arith)
ticks-one least k from (row ∷ rows) d e = by (ticked least (get_or row k 0)) refl e (ticks-one least k (suc from) rows d)
  where
    first : ticked least (get_or row k 0) ≡ true → from ≡ d → ticks least k (suc from) rows ≡ [] → (i : ℕ) → i < suc (length rows)
        → ticked least (get_or (get_or (row ∷ rows) i []) k 0) ≡ eqb (from + i) d
    first t e f zero h = t ∙ sym (eq-eqb (from + 0) d (omega arith))
    first t e f (suc i) h = ticks-none least k (suc from) rows f i (omega arith) ∙ sym (ne_eqb (from + suc i) d (λ p. absurd (omega arith)))

    later : ticked least (get_or row k 0) ≡ false → OneTick least k (suc from) rows d → (i : ℕ) → i < suc (length rows)
        → ticked least (get_or (get_or (row ∷ rows) i []) k 0) ≡ eqb (from + i) d
    later t s zero h = t ∙ sym (ne_eqb (from + 0) d (λ p. absurd (omega (arith, s.low))))
    later t s (suc i) h = s.each i (omega arith) ∙ ap (λ n. eqb n d) (let q : suc from + i ≡ from + suc i = omega arith in q)

    by : (t : Bool) → ticked least (get_or row k 0) ≡ t → cond t (from ∷ ticks least k (suc from) rows) (ticks least k (suc from) rows) ≡ d ∷ []
        → (ticks least k (suc from) rows ≡ d ∷ [] → OneTick least k (suc from) rows d) → OneTick least k from (row ∷ rows) d
    by true t e r =
        let f = cons_head e in
        record { low = omega arith; high = omega arith; each = first t f (cons_tail e) }
    by false t e r =
        let s = r e in
        record { low = omega (arith, s.low); high = omega (arith, s.high); each = later t s }

-- and the other way round
none-ticks : (least k from : ℕ) (table : List (List ℕ)) → ((i : ℕ) → i < length table → ticked least (get_or (get_or table i []) k 0) ≡ false) → ticks least k from table ≡ []
unfolding ticks
none-ticks least k from [] f = refl
none-ticks least k from (row ∷ rows) f = rw (f 0 (omega arith)) (none-ticks least k (suc from) rows (λ i h. f (suc i) (omega arith)))

pub one-ticks : (least k from : ℕ) (table : List (List ℕ)) (d : ℕ) → OneTick least k from table d → ticks least k from table ≡ d ∷ []
unfolding ticks
one-ticks least k from [] d t = absurd (omega (arith, t.low, t.high))
one-ticks least k from (row ∷ rows) d t = by (eqb from d) (eqb-true from d) (eqb-false from d) refl
    (λ p. one-ticks least k (suc from) rows d (record { low = p; high = omega (arith, t.high); each = λ i m. t.each (suc i) (omega arith) ∙ ap (λ n. eqb n d) (shift i) }))
  where
    shift : (i : ℕ) → from + suc i ≡ suc from + i
    shift i = omega arith

    here : ticked least (get_or row k 0) ≡ eqb from d
    here = t.each 0 (omega arith) ∙ ap (λ n. eqb n d) (let q : from + 0 ≡ from = omega arith in q)

    by : (b : Bool) → (b ≡ true → from ≡ d) → (b ≡ false → from ≡ d → ⊥) → eqb from d ≡ b
        → (suc from ≤ d → ticks least k (suc from) rows ≡ d ∷ [])
        → cond (ticked least (get_or row k 0)) (from ∷ ticks least k (suc from) rows) (ticks least k (suc from) rows) ≡ d ∷ []
    by true p q e r =
        let s : from ≡ d = p refl in
        rw (here, e, none-ticks least k (suc from) rows (λ i m. t.each (suc i) (omega arith) ∙ ne_eqb (from + suc i) d (λ n. absurd (omega arith)))) (ap (λ n. n ∷ []) s)
    by false p q e r = rw (here, e) (r (lt_of_le-ne t.low (q refl)))
