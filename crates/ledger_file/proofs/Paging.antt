-- Laws of a page's line. Assumes nothing.
use mathlib.Core.Path.{◌≡◌, sym, ◌∙◌}
use mathlib.Core.Bool.{true, false}
use mathlib.Core.List.{List, [], ◌∷◌}
use Prim.Native.Nat.{ℕ, ◌≤◌, ◌<◌}
use lib.ListN.{length}
use borrow.Author.Tests.{eq-eqb, ne_eqb, lt-ltb, le-ltb}
use Rattle.form_file.specs.Words.{same, none}
use Rattle.ledger_file.specs.Fields.{fields_of, field, number_in}
use Rattle.ledger_file.specs.Page.{no_page, page, refused_page, counted_page, page_line_of}

module _ (line : List ℕ) where
  pub not_five : (length (fields_of line) ≡ 5 → ⊥) → no_page ≡ page_line_of line
  unfolding page_line_of
  not_five n = sym (rw (page_line_of, ne_eqb (length (fields_of line)) 5 n))

  module _ (five : length (fields_of line) ≡ 5) where
    pub no_number : none ≤ number_in (field 1 line) → no_page ≡ page_line_of line
    unfolding page_line_of
    no_number h = sym (rw (page_line_of, eq-eqb (length (fields_of line)) 5 five, le-ltb (number_in (field 1 line)) none h))

    module _ (held : number_in (field 1 line) < none) where
      is-counted : number_in (field 1 line) ≡ 0 → page_line_of line ≡ counted_page line
      unfolding page_line_of
      is-counted z = rw (page_line_of, eq-eqb (length (fields_of line)) 5 five, lt-ltb (number_in (field 1 line)) none held, eq-eqb (number_in (field 1 line)) 0 z)

      is-refused : (number_in (field 1 line) ≡ 0 → ⊥) → page_line_of line ≡ refused_page line
      unfolding page_line_of
      is-refused z = rw (page_line_of, eq-eqb (length (fields_of line)) 5 five, lt-ltb (number_in (field 1 line)) none held, ne_eqb (number_in (field 1 line)) 0 z)

      module _ (z : number_in (field 1 line) ≡ 0 → ⊥) where
        pub refused-not : same (field 2 line) (45 ∷ []) ≡ false → no_page ≡ page_line_of line
        unfolding refused_page
        refused-not e = sym (is-refused z ∙ rw (refused_page, e))

        pub refused-so : same (field 2 line) (45 ∷ []) ≡ true → page (length (field 0 line)) (number_in (field 1 line)) 0 ≡ page_line_of line
        unfolding refused_page
        refused-so e = sym (is-refused z ∙ rw (refused_page, e))

      module _ (z : number_in (field 1 line) ≡ 0) where
        pub counted-not : none ≤ number_in (field 2 line) → no_page ≡ page_line_of line
        unfolding counted_page
        counted-not h = sym (is-counted z ∙ rw (counted_page, le-ltb (number_in (field 2 line)) none h))

        pub counted-so : number_in (field 2 line) < none → page (length (field 0 line)) 0 (number_in (field 2 line)) ≡ page_line_of line
        unfolding counted_page
        counted-so h = sym (is-counted z ∙ rw (counted_page, lt-ltb (number_in (field 2 line)) none h))
