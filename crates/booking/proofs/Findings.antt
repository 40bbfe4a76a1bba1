-- What is found on a page, by the tests of the code. Assumes nothing.
use mathlib.Core.Path.{◌≡◌, refl, sym, ap, ◌∙◌}
use mathlib.Core.Bool.{Bool, true, false, not, ◌&&◌, ◌||◌}
use mathlib.Core.List.{List}
use Prim.Native.Nat.{ℕ, suc, ◌+◌, ◌-◌, ◌≤◌, ◌<◌}
use native.Mathlib.Omega.{arith}
use lib.Dec.{leb, ltb}
use lib.ListN.{length, take}
use lib.Seq.{length-take-le}
use borrow.Author.Tests.{eq-eqb, ne_eqb, le-leb, lt-leb}
use Rattle.rules.specs.Pages as Page
use Rattle.rules.specs.Write.{rows_in}
use Rattle.settings.specs.declared.DecodeSettings.{DecodeSettings}
use Rattle.settings.specs.declared.EncodingMode.{EncodingMode}
use Rattle.heads.specs.Form as Heads
use Rattle.heads.proofs.RowsAt.{rows-length}
use Rattle.form_file.specs.declared.Form.{Form}
use Rattle.ledger.specs.Verdicts.{other_columns, bytes_behind, other_rows, eols_given_up, not_proper, unfit_form}
use Rattle.booking.specs.Tests.{finding, plainly}
use Rattle.booking.specs.Found.{on_form}
use Rattle.booking.specs.Steps.{Stored, on_rows}
use Rattle.booking.specs.Verdict.{fits, page_of, judged}

-- ---- Whether the form fits the reading

module _ (form : Form) (s : DecodeSettings) where
  pub fits_one : form.least ≡ form.most → true ≡ fits form s
  fits_one e = sym (rw (eq-eqb form.least form.most e) (by s.exact))
    where
      by : (b : Bool) → (b || true) ≡ true
      by true = refl
      by false = refl

  pub fits-placed : s.exact ≡ false → (form.least ≡ form.most → ⊥) → ltb 0 form.places ≡ fits form s
  fits-placed x e = sym (rw (x, ne_eqb form.least form.most e))

-- ---- Its rows

-- as many rows as the store has
pub rows-kept : (rows columns : ℕ) (changes ends marks : List ℕ) → Stored rows columns changes ends marks → rows ≡ length (rows_in 0 changes (take rows ends))
rows-kept rows columns changes ends marks h = sym (rows-length 0 changes (take rows ends) ∙ length-take-le rows ends h.placed)

module _ (form : Form) (boxes places : List ℕ) (encoding : EncodingMode) (proper : Bool) (parts : ℕ) (page : Heads.Page) (marks : List ℕ) (rows : ℕ) (n : rows ≡ length page.rows) where
  pub rows_few : rows < form.least → finding other_rows 0 0 0 rows form.least form.most ≡ on_rows form boxes places encoding proper parts page marks
  unfolding on_rows
  rows_few h = rw n (sym (rw (lt-leb form.least (length page.rows) (omega arith), on_rows)))

  pub rows-many : form.most < rows → finding other_rows 0 0 0 rows form.least form.most ≡ on_rows form boxes places encoding proper parts page marks
  unfolding on_rows
  rows-many h = rw n (by (leb form.least (length page.rows)) ∙ sym (rw (lt-leb (length page.rows) form.most (omega arith), on_rows)))
    where
      by : (b : Bool) → finding other_rows 0 0 0 (length page.rows) form.least form.most
          ≡ elim (b && false) [
            | false ↦ finding other_rows 0 0 0 (length page.rows) form.least form.most
            | true ↦ elim (form.proper && not proper) [ true ↦ finding not_proper 0 0 0 parts 0 0 | false ↦ on_form form boxes places encoding page marks ]
          ]
      by true = refl
      by false = refl

  module _ (h : form.least ≤ rows) (k : rows ≤ form.most) where
    pub rows-part : (form.proper && not proper) ≡ true → finding not_proper 0 0 0 parts 0 0 ≡ on_rows form boxes places encoding proper parts page marks
    unfolding on_rows
    rows-part e = sym (rw (le-leb form.least (length page.rows) (omega arith), le-leb (length page.rows) form.most (omega arith), on_rows, e))

    pub rows_fit : (form.proper && not proper) ≡ false → on_form form boxes places encoding page marks ≡ on_rows form boxes places encoding proper parts page marks
    unfolding on_rows
    rows_fit e = sym (rw (le-leb form.least (length page.rows) (omega arith), le-leb (length page.rows) form.most (omega arith), on_rows, e))

-- ---- The tests before them

module _ (form : Form) (boxes places : List ℕ) (s : DecodeSettings) (size : ℕ) (gave proper : Bool) (parts : ℕ) (a : Page.Answer) where
  pub is-unfit : fits form s ≡ false → finding unfit_form 0 0 0 0 form.least form.most ≡ judged form boxes places s size gave proper parts a
  unfolding judged
  is-unfit e = sym (rw (judged, e))

  module _ (fit : fits form s ≡ true) where
    pub is-unread : (a.number ≡ 0 → ⊥) → (rows : ℕ) → rows ≡ length a.rows → finding a.number 0 0 (rows + 1) 0 0 0 ≡ judged form boxes places s size gave proper parts a
    unfolding judged
    is-unread n rows e = (let q : rows + 1 ≡ suc (length a.rows) = omega arith in ap (λ (k : ℕ). finding a.number 0 0 k 0 0 0) q) ∙ sym (rw (judged, fit, ne_eqb a.number 0 n))

    module _ (read : a.number ≡ 0) where
      pub is-other : (s.columns ≡ form.columns → ⊥) → finding other_columns 0 0 0 s.columns form.columns 0 ≡ judged form boxes places s size gave proper parts a
      unfolding judged
      is-other n = sym (rw (judged, fit, eq-eqb a.number 0 read, ne_eqb s.columns form.columns n))

      module _ (wide : s.columns ≡ form.columns) where
        pub is-behind : a.bytes < size → finding bytes_behind 0 0 0 (size - a.bytes) 0 0 ≡ judged form boxes places s size gave proper parts a
        unfolding judged
        is-behind h = sym (rw (judged, fit, eq-eqb a.number 0 read, eq-eqb s.columns form.columns wide, ne_eqb a.bytes size (λ e. omega arith)))

        module _ (h : a.bytes ≤ size) (k : size ≤ a.bytes) where
          pub is-given-up : gave ≡ true → plainly eols_given_up ≡ judged form boxes places s size gave proper parts a
          unfolding judged
          is-given-up g =
              sym (rw (judged, fit, eq-eqb a.number 0 read, eq-eqb s.columns form.columns wide, eq-eqb a.bytes size (omega arith), g))

          pub is_whole : gave ≡ false
              → on_rows form boxes places s.encoding proper parts (page_of form boxes places s size a) a.marks ≡ judged form boxes places s size gave proper parts a
          unfolding judged on_rows
          is_whole g =
              sym (rw (judged, fit, eq-eqb a.number 0 read, eq-eqb s.columns form.columns wide, eq-eqb a.bytes size (omega arith), g))
