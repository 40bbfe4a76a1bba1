-- How a page is read, by the tests of the code. Assumes nothing.
use mathlib.Core.Path.{◌≡◌, refl, sym, ap, ap₂, ◌∙◌}
use mathlib.Core.Bool.{Bool, true, false, not}
use Prim.Native.Nat.{ℕ}
use lib.Dec.{eqb}
use borrow.Author.Tests.{eq-eqb, ne_eqb}
use Rattle.settings.specs.declared.DecodeSettings.{DecodeSettings}
use Rattle.form_file.specs.declared.Form.{Form}
use Rattle.booking.specs.Verdict.{by_lines, reading, columns_for, read_as}

module _ (form : Form) (s : DecodeSettings) where
  pub without_columns : s.columns ≡ 0 → form.columns ≡ columns_for form s
  without_columns e = sym (rw (eq-eqb s.columns 0 e, columns_for))

  pub own-columns : (s.columns ≡ 0 → ⊥) → s.columns ≡ columns_for form s
  own-columns e = sym (rw (ne_eqb s.columns 0 e, columns_for))

  module _ (how columns : ℕ) (c : columns ≡ columns_for form s) where
    pub by-desk : (by : Bool) → by ≡ by_lines s.encoding s.end_of_line → how ≡ 0 → reading s columns false (not by) ≡ read_as how form s
    unfolding read_as
    by-desk by b e = ap₂ (λ (n : ℕ) (t : Bool). reading s n false (not t)) c b ∙ sym (rw (eq-eqb how 0 e, read_as))

    pub leniently : (how ≡ 0 → ⊥) → how ≡ 1 → reading s columns false false ≡ read_as how form s
    unfolding read_as
    leniently e f = ap (λ (n : ℕ). reading s n false false) c ∙ sym (rw (ne_eqb how 0 e, eq-eqb how 1 f, read_as))

    -- strictly, or exactly
    pub strictly : (how ≡ 0 → ⊥) → (how ≡ 1 → ⊥) → reading s columns true (not (eqb how 2)) ≡ read_as how form s
    unfolding read_as
    strictly e f = ap (λ (n : ℕ). reading s n true (not (eqb how 2))) c ∙ by (eqb how 2) ∙ sym (rw (ne_eqb how 0 e, ne_eqb how 1 f, read_as))
      where
        by : (t : Bool) → reading s (columns_for form s) true (not t) ≡ elim t [ true ↦ reading s (columns_for form s) true false | false ↦ reading s (columns_for form s) true true ]
        by true = refl
        by false = refl
