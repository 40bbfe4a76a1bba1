-- The lent arrays: what one outcome leaves there, and then another one behind it. Assumes nothing.
use mathlib.Core.Path.{◌≡◌, refl, sym, ap, ap₂, ◌∙◌}
use mathlib.Core.List.{List, [], ◌∷◌, ◌++◌, append_assoc, append-nil}
use Prim.Native.Nat.{ℕ, suc, ◌+◌, ◌≤◌, ◌<◌}
use native.Mathlib.Omega.{arith}
use lib.ListN.{length, take, drop, set, length-append, length-drop, take-append-drop}
use lib.Seq.{length-take-le, take-append-add, drop-append-add, take_at, drop_at, set_split, drop-drop}
use Rattle.rules.specs.Machine.{Out, more, done}
use Rattle.rules.specs.Pages.{Answer, entries, overlaid, joined, ends_from}
use Rattle.rules.specs.Units.{Keeping, Going, so_far, loose_of, answer_behind, out_behind}
use Rattle.rules.specs.ByUnit.{overlaid_from}
use Rattle.rules.proofs.Store.{length-joined, length-ends, length-overlaid, joined-append, ends-append}
use Rattle.rules.proofs.ByUnit.{overlaid-longer}
use Rattle.by_unit.specs.Standing.{Leaves}

-- ---- An array that begins anew from a place on

module _ (n : ℕ) (xs : List ℕ) (h : n ≤ length xs) where
  front_length : length (take n xs) ≡ n
  front_length = length-take-le n xs h

  pub from_front : (new : List ℕ) → take n (overlaid_from n new xs) ≡ take n xs
  from_front new = take_at (take n xs) (overlaid new (drop n xs)) n front_length

  pub from_row : (new : List ℕ) → drop n (overlaid_from n new xs) ≡ overlaid new (drop n xs)
  from_row new = drop_at (take n xs) (overlaid new (drop n xs)) n front_length

  pub from-length : (new : List ℕ) → n + length new ≤ length xs → length (overlaid_from n new xs) ≡ length xs
  from-length new k =
      let d = length-drop n xs in
      let o = length-overlaid new (drop n xs) (omega arith) in
      let a = length-append (take n xs) (overlaid new (drop n xs)) in
      omega (arith, front_length)

  -- no fewer entries take the place of some that were new, behind those that stay
  pub from-longer : (stay loose later : List ℕ) (m : ℕ) → m ≡ n + length stay → length loose ≤ length later
      → overlaid_from m later (overlaid_from n (stay ++ loose) xs) ≡ overlaid_from n (stay ++ later) xs
  from-longer stay loose later m e k =
      ap (λ (i : ℕ). overlaid_from i later (overlaid_from n (stay ++ loose) xs)) (e ∙ ap (λ (i : ℕ). i + length stay) (sym front_length))
      ∙ ap₂ (λ (a b : List ℕ). a ++ overlaid later b) (take-append-add (take n xs) old (length stay)) (drop-append-add (take n xs) old (length stay))
      ∙ append_assoc (take n xs) (take (length stay) old) (overlaid later (drop (length stay) old))
      ∙ ap (λ (l : List ℕ). take n xs ++ l) (overlaid-longer stay loose later (drop n xs) (length stay) refl k)
    where
      old : List ℕ
      old = overlaid (stay ++ loose) (drop n xs)

  -- nothing new
  pub from-none : xs ≡ overlaid_from n [] xs
  unfolding overlaid
  from-none = sym (take-append-drop n xs)

  -- what is there already
  pub from-same : (m : ℕ) → n + m ≤ length xs → xs ≡ overlaid_from n (take m (drop n xs)) xs
  unfolding overlaid
  from-same m k =
      sym (take-append-drop n xs)
      ∙ ap (λ (l : List ℕ). take n xs ++ l)
      (sym (take-append-drop m (drop n xs)) ∙ ap (λ (i : ℕ). take m (drop n xs) ++ drop i (drop n xs)) (sym (length-take-le m (drop n xs) (omega (arith, length-drop n xs)))))

-- one entry
pub from_one : (n : ℕ) (xs : List ℕ) (x : ℕ) → n < length xs → set xs n x ≡ overlaid_from n (x ∷ []) xs
unfolding overlaid
from_one n xs x h =
    set_split xs n x h
    ∙ ap (λ (l : List ℕ). take n xs ++ x ∷ l) (ap (λ (i : ℕ). drop i xs) (let z : suc n ≡ n + 1 = omega arith in z) ∙ sym (drop-drop 1 n xs))

-- ---- One outcome behind another

-- rows, entries and marks are counted behind those of the start
pub record Behind (rows base : ℕ) (k : Keeping) : Type 0 where
  pub rows_are : k.count ≡ rows + length k.rows
  pub entries_are : k.base ≡ base + entries k.rows
  pub marks_are : length k.marks ≡ length k.rows

pub behind-answer : (rs : List (List ℕ)) (ms : List ℕ) (o : Out Going Answer) → so_far (out_behind rs ms o) ≡ answer_behind rs ms (so_far o)
behind-answer rs ms (more h) = refl
behind-answer rs ms (done a) = refl

module _ {rows base : ℕ} {xs es ms : List ℕ} (room : base ≤ length xs) (placed-ends : rows ≤ length es) (placed-marks : rows ≤ length ms) {g : Going} {ys fs ns : List ℕ}
    (l : Leaves rows base xs es ms (more g) ys fs ns) (b : Behind rows base g.keeping) where
  abbrev k : Keeping
  k = g.keeping

  pub leaves-then : {o : Out Going Answer} {zs gs hs : List ℕ} → Leaves k.count k.base ys fs ns o zs gs hs
      → length (loose_of g.stand) ≤ entries (so_far o).rows + length (so_far o).loose → Leaves rows base xs es ms (out_behind k.rows k.marks o) zs gs hs
  leaves-then {o} {zs} {gs} {hs} m longer = record {
    changes =
        m.changes
        ∙ ap (overlaid_from k.base later) l.changes
        ∙ from-longer base xs room (joined k.rows) (loose_of g.stand) later k.base (b.entries_are ∙ ap (λ (i : ℕ). base + i) (sym (length-joined k.rows)))
        (omega (arith, longer, length-append (joined (so_far o).rows) (so_far o).loose, length-joined (so_far o).rows))
        ∙ ap (λ (l : List ℕ). overlaid_from base l xs) (sym (append_assoc (joined k.rows) (joined (so_far o).rows) (so_far o).loose) ∙ ap (λ (l : List ℕ). l ++ (so_far o).loose) (sym (joined-append k.rows (so_far o).rows)))
        ∙ ap (λ (a : Answer). overlaid_from base (joined a.rows ++ a.loose) xs) (sym (behind-answer k.rows k.marks o));
    ends =
        m.ends
        ∙ ap₂ (λ (i : ℕ) (l : List ℕ). overlaid_from k.count (ends_from i (so_far o).rows) l) b.entries_are (l.ends ∙ ap (λ (l : List ℕ). overlaid_from rows l es) (none-behind (ends_from base k.rows)))
        ∙ from-longer rows es placed-ends (ends_from base k.rows) [] (ends_from (base + entries k.rows) (so_far o).rows) k.count (b.rows_are ∙ ap (λ (i : ℕ). rows + i) (sym (length-ends base k.rows))) (omega arith)
        ∙ ap (λ (l : List ℕ). overlaid_from rows l es) (sym (ends-append base k.rows (so_far o).rows))
        ∙ ap (λ (a : Answer). overlaid_from rows (ends_from base a.rows) es) (sym (behind-answer k.rows k.marks o));
    marks =
        m.marks
        ∙ ap (overlaid_from k.count (so_far o).marks) (l.marks ∙ ap (λ (l : List ℕ). overlaid_from rows l ms) (none-behind k.marks))
        ∙ from-longer rows ms placed-marks k.marks [] (so_far o).marks k.count (b.rows_are ∙ ap (λ (i : ℕ). rows + i) (sym b.marks_are)) (omega arith)
        ∙ ap (λ (a : Answer). overlaid_from rows a.marks ms) (sym (behind-answer k.rows k.marks o));
    changes_long = m.changes_long ∙ l.changes_long;
    ends_long = m.ends_long ∙ l.ends_long;
    marks_long = m.marks_long ∙ l.marks_long;
  }
    where
      later : List ℕ
      later = joined (so_far o).rows ++ (so_far o).loose

      none-behind : (l : List ℕ) → l ≡ l ++ []
      none-behind l = sym (append-nil l)
