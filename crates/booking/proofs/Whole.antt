-- From the form's text and the page's bytes to the verdict and the books: one arm for a form that is not sound, one for a page that is read. Assumes nothing.
use mathlib.Core.Path.{◌≡◌, sym, ap, ap₂, ◌∙◌}
use mathlib.Core.Bool.{true, false}
use mathlib.Core.List.{List}
use Prim.Native.Nat.{ℕ}
use borrow.Author.Tests.{eq-eqb, ne_eqb}
use Rattle.settings.specs.declared.DecodeSettings.{DecodeSettings}
use Rattle.form_file.specs.FormFile.{Forms}
use Rattle.form_file.specs.declared.Formed.{Formed}
use Rattle.ledger.specs.Entered.{Enters}
use Rattle.ledger.specs.declared.Entered.{Entered}
use Rattle.ledger.specs.declared.Ledger.{Ledger}
use Rattle.ledger.specs.declared.Verdict.{Verdict}
use Rattle.booking.specs.Verdict.{read_as, Judges}
use Rattle.booking.specs.Booked.{Given, form_read, is_sound, unsound, verdict_from, if_sound, Finds, Books}

module _ (g : Given) (f : Formed) (boxes places : List ℕ) (formed : Forms g.text g.boxes g.places f boxes places) where
  number_is : f.number ≡ (form_read g).formed.number
  number_is = ap (λ (x : Formed). x.number) formed.formed

  pub form-refused : (f.number ≡ 0 → ⊥) → (v : Verdict) → v ≡ unsound f → Finds g v boxes places g.changes g.ends g.marks
  unfolding verdict_from
  form-refused n v e =
      let no : is_sound (form_read g).formed ≡ false = ne_eqb (form_read g).formed.number 0 (λ z. n (number_is ∙ z)) in
      record {
        verdict = e ∙ ap unsound formed.formed ∙ sym (rw (verdict_from, no));
        boxes_are = formed.boxes_are;
        places_are = formed.places_are;
        changes_are = sym (rw (no, if_sound));
        ends_are = sym (rw (no, if_sound));
        marks_are = sym (rw (no, if_sound));
      }

  pub page-found : f.number ≡ 0 → (s : DecodeSettings) → s ≡ read_as g.how f.form g.settings
      → (v : Verdict) (changes ends marks : List ℕ) → Judges f.form boxes places s g.src g.changes g.ends g.marks v changes ends marks
      → Finds g v boxes places changes ends marks
  unfolding verdict_from
  page-found z s how v changes ends marks j =
      let yes : is_sound (form_read g).formed ≡ true = eq-eqb (form_read g).formed.number 0 (sym number_is ∙ z) in
      let k = rw (how, formed.formed, formed.boxes_are, formed.places_are) at j in
      record {
        verdict = k.verdict ∙ sym (rw (verdict_from, yes));
        boxes_are = formed.boxes_are;
        places_are = formed.places_are;
        changes_are = k.changes ∙ sym (rw (yes, if_sound));
        ends_are = k.ends ∙ sym (rw (yes, if_sound));
        marks_are = k.marks ∙ sym (rw (yes, if_sound));
      }

-- the page that was found goes into the books
pub page-booked : (g : Given) (v : Verdict) (boxes places changes ends marks : List ℕ) → Finds g v boxes places changes ends marks
    → (name : List ℕ) (b : Ledger) (out : List ℕ) (e : Entered) (out' : List ℕ) → Enters name b v out e out'
    → Books name b g out (record { verdict = v; ledger = e.ledger; text = e.text }) boxes places changes ends marks out'
page-booked g v boxes places changes ends marks f name b out e out' entered =
    let k = rw f.verdict at entered in record { found = f; ledger = k.books; length-is = k.length-is; array = k.array }
