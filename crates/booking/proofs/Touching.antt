-- Where A11 says 13, a box touches a row that is not clean: one of the twenty. Assumes nothing.
use mathlib.Core.Path.{◌≡◌, refl}
use mathlib.Core.Bool.{Bool, true, false}
use mathlib.Core.List.{List, [], ◌∷◌}
use Prim.Native.Nat.{ℕ, ◌+◌, ◌*◌, ◌≤◌, ◌<◌}
use native.Mathlib.Omega.{arith}
use lib.Dec.{ltb}
use lib.IntN.{ℤ}
use lib.ListN.{length}
use borrow.Author.Tests.{ltb-true, ltb-false, not-false}
use Rattle.heads.specs.Form.{Page, all, ticks, tick_table, told, given, clean_under, clean, heads_in, heads_on}
use Rattle.heads.specs.Numbers.{form_in}
use Rattle.heads.proofs.Tests.{all-all}
use Rattle.heads.proofs.Numbered.{form-long, form-at}
use Rattle.form_file.specs.First.{first_of}
use Rattle.form_file.specs.FormFile.{box_at}
use Rattle.booking.specs.Testing.{Sized, box_touches}
use Rattle.booking.proofs.Firsts.{first-none}

-- what is ticked says 0 or 12
told-13 : (quota : ℤ) (tens units : List ℕ) → (told quota tens units).number ≡ 13 → ⊥
told-13 quota (t ∷ []) (u ∷ []) e = omega arith
told-13 quota (t ∷ []) [] e = omega arith
told-13 quota (t ∷ []) (u ∷ v ∷ us) e = omega arith
told-13 quota [] units e = omega arith
told-13 quota (t ∷ v ∷ ts) units e = omega arith

-- the twenty boxes are those of the ten rows
form-clean : (columns rows : ℕ) (marks boxes : List ℕ) → ((k : ℕ) → k < 20 → clean_under columns rows marks (box_at boxes k) ≡ true) → clean columns rows marks (form_in boxes) ≡ true
unfolding clean all
form-clean columns rows marks boxes f =
    all-all (all (clean_under columns rows marks)) (form_in boxes) [] (λ i h.
    let l : i < 10 = omega (arith, form-long boxes) in
    let p : 4 * (2 * i) ≡ 8 * i = omega arith in
    let q : 4 * (2 * i + 1) ≡ 8 * i + 4 = omega arith in
    rw (form-at boxes i l, rw p at (f (2 * i) (omega arith)), rw q at (f (2 * i + 1) (omega arith))))

module _ (page : Page) (marks boxes : List ℕ) (tick : ℕ) (quota : ℤ) where
  not-13 : clean page.columns (length page.rows) marks (form_in boxes) ≡ true → (heads_on page marks (form_in boxes) tick quota).number ≡ 13 → ⊥
  unfolding heads_on heads_in
  not-13 k e = by (given (form_in boxes) tick quota) refl
    where
      by : (g : Bool) → given (form_in boxes) tick quota ≡ g → ⊥
      by false p = let z = rw (heads_on, p) at e in omega arith
      by true p = told-13 quota (ticks tick 0 0 (tick_table page (form_in boxes))) (ticks tick 1 0 (tick_table page (form_in boxes))) (rw (heads_on, p, k) at e)

  abbrev first : ℕ → ℕ
  first columns = first_of (box_touches columns marks boxes) 20 0

  pub touched-13 : (columns : ℕ) → Sized columns marks page → (heads_on page marks (form_in boxes) tick quota).number ≡ 13 → first columns < 20
  touched-13 columns s e = by (ltb (first columns) 20) (ltb-true (first columns) 20) (ltb-false (first columns) 20)
    where
      by : (t : Bool) → (t ≡ true → first columns < 20) → (t ≡ false → 20 ≤ first columns) → first columns < 20
      by true f g = f refl
      by false f g =
          absurd (not-13 (rw (s.0, s.1) (form-clean columns (length marks) marks boxes (λ k l.
          not-false (clean_under columns (length marks) marks (box_at boxes k)) (first-none (box_touches columns marks boxes) 20 0 (g refl) k (omega arith) l)))) e)
