-- The row that the form rests on, and the one that is told under a box. Assumes nothing.
use mathlib.Core.Path.{◌≡◌, refl, sym, ◌∙◌}
use mathlib.Core.Bool.{Bool, true, false}
use mathlib.Core.List.{List}
use Prim.Native.Nat.{ℕ, ◌+◌, ◌-◌, ◌≤◌, ◌<◌}
use native.Mathlib.Numerals.{add-one}
use native.Mathlib.Omega.{arith}
use lib.Dec.{eqb}
use lib.ListN.{length, get_or}
use borrow.Author.Tests.{eq-eqb, ne_eqb, eqb-true, eqb-false, not-true}
use Rattle.rules.specs.Answers.{mended_row}
use Rattle.settings.specs.declared.EncodingMode.{EncodingMode}
use Rattle.heads.specs.Form.{Page, clean_under}
use Rattle.heads.specs.declared.Box.{Box}
use Rattle.form_file.specs.First.{first_of}
use Rattle.form_file.specs.FormFile.{box_at, place_at}
use Rattle.form_file.specs.declared.Form.{Form}
use Rattle.booking.specs.Tests.{finding, lowest, under_above, bad_row}
use Rattle.booking.specs.Testing.{Sized, unclean_at, unclean_above, box_touches, place_touches, mended_on}
use Rattle.form_file.proofs.Firsts.{first-high, first_passes}
use Rattle.booking.proofs.Unclean.{under-unclean}

module _ (form : Form) (boxes places : List ℕ) (encoding : EncodingMode) (columns : ℕ) (marks : List ℕ) (page : Page) (s : Sized columns marks page) where
  abbrev rests : ℕ
  rests = bad_row form boxes places encoding page marks

  -- where a row is read under the one above it
  pub rests-above : under_above encoding ≡ true → {r low box : ℕ} → r ≡ first_of (unclean_above marks low) (length marks) 0
      → low ≡ lowest (place_at places) form.places 0 box → box ≡ lowest (box_at boxes) 20 0 0 → r ≡ rests
  unfolding bad_row
  rests-above u e l m = e ∙ sym (rw (bad_row, u, s.1, ← m, ← l))

  module _ (u : under_above encoding ≡ false) {k : ℕ} (e : k ≡ first_of (place_touches columns marks places) form.places 0) where
    pub rests-nowhere : k ≡ form.places → length marks ≡ rests
    unfolding bad_row
    rests-nowhere h = sym (rw (bad_row, u, s.0, s.1, ← e, eq-eqb k form.places h, s.1))

    pub rests-place : (k ≡ form.places → ⊥) → {b : Box} → b ≡ place_at places k → {r : ℕ} → r ≡ first_of (unclean_at marks) (b.bottom - b.top) b.top → r ≡ rests
    unfolding bad_row
    rests-place h p q = q ∙ sym (rw (bad_row, u, s.0, s.1, ← e, ne_eqb k form.places h, s.0, s.1, ← e, p))

  abbrev touched : ℕ
  touched = first_of (place_touches columns marks places) form.places 0

  -- it is on the page, or as many as there are rows
  pub rests-within : rests ≤ length marks
  rests-within = by (under_above encoding) refl (eqb touched form.places) refl
    where
      on-place : (touched ≡ form.places → ⊥) → first_of (unclean_at marks) ((place_at places touched).bottom - (place_at places touched).top) (place_at places touched).top < length marks
      on-place h =
          let p : touched < 0 + form.places = omega (arith, first-high (place_touches columns marks places) form.places 0) in
          under-unclean marks columns (place_at places touched)
          (not-true (clean_under columns (length marks) marks (place_at places touched)) (first_passes (place_touches columns marks places) form.places 0 p))

      by : (t : Bool) → under_above encoding ≡ t → (o : Bool) → eqb touched form.places ≡ o → rests ≤ length marks
      by true u o p =
          let e = rests-above u refl refl refl in
          omega (arith, first-high (unclean_above marks (lowest (place_at places) form.places 0 (lowest (box_at boxes) 20 0 0))) (length marks) 0)
      by false u true p = let e = rests-nowhere u refl (eqb-true touched form.places p) in omega arith
      by false u false p =
          let h = eqb-false touched form.places p in
          let e = rests-place u refl h refl refl in
          let l = on-place h in
          omega arith

-- ---- Under a box

module _ (columns : ℕ) (marks boxes : List ℕ) (page : Page) (s : Sized columns marks page) where
  pub mended-is : {k : ℕ} → k ≡ first_of (box_touches columns marks boxes) 20 0 → {b : Box} → b ≡ box_at boxes k → {y : ℕ} → y ≡ first_of (unclean_at marks) (b.bottom - b.top) b.top
      → {m : ℕ} → m ≡ get_or marks y 0 → finding mended_row k 0 (y + 1) m 0 0 ≡ mended_on page boxes marks
  mended-is e p q f = sym (rw (s.0, s.1, ← e, f, q, p, add-one))
