-- Several ledgers one behind the other, added up: each is the lines of its pages, and then its total's line.
use Rattle.std.specs.Prelude.{◌≡◌, true, false, ◌&&◌, List, [], ◌∷◌, ◌++◌, ℕ, ◌+◌, ◌-◌, eqb, ltb, ℤ, length, get_or, drop}
use Rattle.rules.specs.Pages.{overlaid}
use Rattle.listing_text.specs.Lines.{lines_of}
use Rattle.form_file.specs.First.{first_of}
use Rattle.form_file.specs.Words.{same}
use Rattle.ledger.specs.Balance.{opened}
use Rattle.ledger.specs.Books.{booked, has_room}
use Rattle.ledger.specs.declared.Ledger.{Ledger}
use Rattle.ledger.specs.declared.Verdict.{Verdict}
use Rattle.ledger_file.specs.Fields.{field, number_in}
use Rattle.ledger_file.specs.Page.{page_line_of}
use Rattle.ledger_file.specs.Resume.{verdict_in}
use Rattle.ledger_file.specs.Total.{is_total, total_pages}
use Rattle.ledger_file.specs.declared.AddedUp.{AddedUp}

-- ---- What can be wrong

-- a line that is neither a page's nor a total's
abbrev pub no_ledger_line : ℕ
no_ledger_line = 1

-- a total that is not that of the pages behind the total before it
abbrev pub other_total : ℕ
other_total = 2

-- pages without a total behind them
abbrev pub no_total : ℕ
no_total = 3

-- a page of a name that another has
abbrev pub stands_twice : ℕ
stands_twice = 4

-- more pages than there is room for, and more than the books hold
abbrev pub no_room : ℕ
no_room = 5

abbrev pub books_full : ℕ
books_full = 6

-- ---- One line more

-- the books of all pages so far, those behind the last total, and where the line of each page begins
pub record Sum : Type 0 where
  pub books : Ledger
  pub closed : Ledger
  pub starts : List ℕ

-- a line that is sound, or what is wrong with it, and the line that it is about besides
pub data Went : Type 0 where
  on : Sum → Went
  wrong : ℕ → ℕ → Went

-- the name with which the line at a place begins
abbrev pub name_at : List ℕ → ℕ → List ℕ
name_at text at = field 0 (drop at text)

-- the first page that has the name of the line at a place; their count where none has
abbrev pub namesake : List ℕ → ℕ → List ℕ → ℕ
namesake text at starts = first_of (λ k. same (name_at text (get_or starts k 0)) (name_at text at)) (length starts) 0

-- a page's line at a place of the text, with its verdict, where there is room for so many
unfoldable pub page_taken : List ℕ → ℕ → ℕ → Verdict → Sum → Went
page_taken text room at v s =
    elim (ltb (length s.starts) room) [
      | false ↦ wrong no_room 0
      | true ↦
          elim (ltb (namesake text at s.starts) (length s.starts)) [
            | true ↦ wrong stands_twice (get_or s.starts (namesake text at s.starts) 0)
            | false ↦
                elim (has_room s.books v) [
                  | false ↦ wrong books_full 0
                  | true ↦ on (record { books = booked s.books v; closed = s.closed; starts = s.starts ++ at ∷ [] })
                ]
          ]
    ]

-- a total's line: what is to be looked at, the heads, and how many pages its words say, are those of the pages since the total before it
unfoldable pub total_taken : List ℕ → Sum → Went
total_taken line s =
    elim (eqb (number_in (field 1 line)) (s.books.looked - s.closed.looked) && (eqb (number_in (field 2 line)) (s.books.heads - s.closed.heads) && eqb (total_pages line) (s.books.pages - s.closed.pages))) [
      | true ↦ on (record { books = s.books; closed = s.books; starts = s.starts })
      | false ↦ wrong other_total 0
    ]

unfoldable pub taken : List ℕ → ℕ → ℕ → List ℕ → Sum → Went
taken text room at line s =
    elim (is_total line) [
      | true ↦ total_taken line s
      | false ↦
          elim (page_line_of line).good [
            | true ↦ page_taken text room at (verdict_in (page_line_of line)) s
            | false ↦ wrong no_ledger_line 0
          ]
    ]

-- ---- All lines

-- the sum, and what is wrong, 0 where nothing is; the line at which it is, and the one that it is about besides
pub record Added : Type 0 where
  pub number : ℕ
  pub at : ℕ
  pub other : ℕ
  pub sum : Sum

-- the text's end: behind the last line feed nothing stands, and behind the last page its total
abbrev pub last_fault : List ℕ → Sum → ℕ
last_fault line s = elim (eqb (length line) 0) [ true ↦ elim (eqb s.books.pages s.closed.pages) [ true ↦ 0 | false ↦ no_total ] | false ↦ no_ledger_line ]

abbrev pub ended : ℕ → List ℕ → Sum → Added
ended at line s = record { number = last_fault line s; at = at; other = 0; sum = s }

-- the lines from a place on, each with its line feed but the last
unfoldable pub adding : List ℕ → ℕ → ℕ → Sum → List (List ℕ) → Added
adding text room at s [] = ended at [] s
adding text room at s (l ∷ []) = ended at l s
adding text room at s (l ∷ m ∷ ls) =
    elim (taken text room at l s) [
      | on s' ↦ adding text room (at + length l + 1) s' (m ∷ ls)
      | wrong number other ↦ record { number = number; at = at; other = other; sum = s }
    ]

abbrev pub added_up : List ℕ → ℤ → ℕ → Added
added_up text quota room = adding text room 0 (record { books = opened quota; closed = opened quota; starts = [] }) (lines_of text)

-- the answer, and every entry of the lent array: where the pages' lines begin, and behind them what it was
pub record AddsUp (text : List ℕ) (quota : ℤ) (starts : List ℕ) (r : AddedUp) (starts' : List ℕ) : Type 0 where
  pub number : r.number ≡ (added_up text quota (length starts)).number
  pub at : r.at ≡ (added_up text quota (length starts)).at
  pub other : r.other ≡ (added_up text quota (length starts)).other
  pub books : r.ledger ≡ (added_up text quota (length starts)).sum.books
  pub array : starts' ≡ overlaid (added_up text quota (length starts)).sum.starts starts
