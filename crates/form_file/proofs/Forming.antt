-- Laws of a form file as a whole: the mark in front of it, and what is told where nothing is read. Assumes nothing.
use mathlib.Core.Path.{◌≡◌, refl, sym, ap, ◌∙◌}
use mathlib.Core.Bool.{Bool, true, false, ◌&&◌, true≢false}
use mathlib.Core.List.{List, [], ◌∷◌}
use Prim.Native.Nat.{ℕ, ◌≤◌, ◌<◌}
use native.Mathlib.Omega.{arith}
use lib.Dec.{eqb, ltb}
use lib.ListN.{length, take, replicate}
use borrow.Author.Tests.{eq-eqb, ne_eqb, ltb-true, ltb-false, lt-ltb, le-ltb}
use Rattle.rules.specs.Pages.{overlaid}
use Rattle.rules.proofs.Store.{overlaid-nothing}
use Rattle.ledger.specs.Verdicts.{no_room_for_boxes, long_form}
use Rattle.form_file.specs.Words.{same}
use Rattle.form_file.specs.FormFile.{Read, faulty, text_start, read_form, Forms}
use Rattle.form_file.specs.Going.{Leaves, heard_from}
use Rattle.form_file.specs.declared.Formed.{Formed}

-- ---- The mark in front of a text

nor : (t : Bool) → (t && false) ≡ false
nor true = refl
nor false = refl

abbrev pub mark : List ℕ
mark = 239 ∷ 187 ∷ 191 ∷ []

-- a text that is too short for it has none
pub short-text : (text : List ℕ) → length text < 3 → same (take 3 text) mark ≡ false
unfolding same
short-text [] h = refl
short-text (a ∷ []) h = nor (eqb a 239)
short-text (a ∷ b ∷ []) h = ap (λ (t : Bool). eqb a 239 && t) (nor (eqb b 187)) ∙ nor (eqb a 239)
short-text (a ∷ b ∷ d ∷ text) h = absurd (omega arith)

module _ (text : List ℕ) (told : Bool) (is : told ≡ same (take 3 text) mark) where
  pub marked : told ≡ true → 3 ≡ text_start text
  marked e = sym (rw (text_start, sym is ∙ e))

  pub unmarked : told ≡ false → 0 ≡ text_start text
  unmarked e = sym (rw (text_start, sym is ∙ e))

pub start-inside : (text : List ℕ) → text_start text ≤ length text
start-inside text = by (same (take 3 text) mark) refl
  where
    by : (t : Bool) → same (take 3 text) mark ≡ t → elim t [ true ↦ 3 | false ↦ 0 ] ≤ length text
    by false e = omega arith
    by true e = shut (ltb (length text) 3) refl
      where
        shut : (u : Bool) → ltb (length text) 3 ≡ u → 3 ≤ length text
        shut true p = absurd (true≢false (sym e ∙ short-text text (ltb-true (length text) 3 p)))
        shut false p = ltb-false (length text) 3 p

-- ---- The whole

module _ (text boxes places : List ℕ) where
  forms : (read : Read) → read_form text boxes (length places) ≡ read → {r : Formed} {boxes' places' : List ℕ} → Leaves read places r boxes' places' → Forms text boxes places r boxes' places'
  forms read e l = record {
    formed = l.formed ∙ sym (ap (λ (w : Read). w.formed) e);
    boxes_are = l.boxes_are ∙ sym (ap (λ (w : Read). w.boxes) e);
    places_are = l.places_are ∙ sym (ap (λ (w : Read). overlaid w.places places) e);
  }

  -- nothing is read
  none_read : (number : ℕ) → Leaves (record { formed = faulty number 0 0; boxes = boxes; places = [] }) places (faulty number 0 0) boxes places
  none_read number = record { formed = refl; boxes_are = refl; places_are = sym (overlaid-nothing places) }

  pub forms-roomless : (length boxes ≡ 80 → ⊥) → Forms text boxes places (faulty no_room_for_boxes 0 0) boxes places
  unfolding read_form
  forms-roomless e = forms _ (rw (read_form, ne_eqb (length boxes) 80 e)) (none_read no_room_for_boxes)

  module _ (b : length boxes ≡ 80) where
    pub forms-long : 65536 < length text → Forms text boxes places (faulty long_form 0 0) boxes places
    unfolding read_form
    forms-long h = forms _ (rw (read_form, eq-eqb (length boxes) 80 b, lt-ltb 65536 (length text) h)) (none_read long_form)

    pub forms-read : length text ≤ 65536 → (from : ℕ) → from ≡ text_start text → {r : Formed} {boxes' places' : List ℕ}
        → Leaves (heard_from text from boxes (replicate 20 0) places) places r boxes' places' → Forms text boxes places r boxes' places'
    unfolding read_form
    forms-read h from e l = forms _ (rw (read_form, eq-eqb (length boxes) 80 b, le-ltb 65536 (length text) h)) (rw e at l)
