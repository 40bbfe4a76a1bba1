-- What a line says of a page: `NAME`, the verdict's number, the heads or `-`, the quota left and words, parted by tabs.
use Rattle.std.specs.Prelude.{true, false, List, [], ◌∷◌, ℕ, eqb, length}
use Rattle.form_file.specs.Words.{same}
use Rattle.ledger_file.specs.Fields.{fields_of, field, number_in, is_number}
use Rattle.ledger_file.specs.declared.PageLine.{PageLine}

-- for what is no page's line
abbrev pub no_page : PageLine
no_page = record { good = false; name = 0; number = 0; heads = 0 }

abbrev pub page : ℕ → ℕ → ℕ → PageLine
page name number heads = record { good = true; name = name; number = number; heads = heads }

-- a page that is refused has `-`, which is 45, for its heads
unfoldable pub refused_page : List ℕ → PageLine
refused_page line = elim (same (field 2 line) (45 ∷ [])) [ true ↦ page (length (field 0 line)) (number_in (field 1 line)) 0 | false ↦ no_page ]

-- one that is counted has their number
unfoldable pub counted_page : List ℕ → PageLine
counted_page line = elim (is_number (field 2 line)) [ true ↦ page (length (field 0 line)) 0 (number_in (field 2 line)) | false ↦ no_page ]

-- a page's line has five fields, of which the second is a number: 0 where the page is counted
unfoldable pub page_line_of : List ℕ → PageLine
page_line_of line =
    elim (eqb (length (fields_of line)) 5) [
      | true ↦
          elim (is_number (field 1 line)) [
            | true ↦ elim (eqb (number_in (field 1 line)) 0) [ true ↦ counted_page line | false ↦ refused_page line ]
            | false ↦ no_page
          ]
      | false ↦ no_page
    ]
