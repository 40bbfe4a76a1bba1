-- Sheets: lines of ledgers with what the definitions make of them, by computing. Assumes nothing.
use mathlib.Core.Path.{◌≡◌, refl}
use mathlib.Core.Bool.{true, false}
use mathlib.Core.List.{List, [], ◌∷◌}
use Prim.Native.Nat.{ℕ}
use Prim.Native.String.{String}
use lib.IntN.{pos}
use Rattle.listing_text.specs.Text.{ascii}
use Rattle.listing_text.specs.Lines.{pieces}
use Rattle.form_file.specs.First.{first_of}
use Rattle.form_file.specs.Steps.{ahead}
use Rattle.form_file.specs.Words.{same, value_from}
use Rattle.ledger.specs.Books.{booked, has_room}
use Rattle.ledger_file.specs.Page.{no_page, page, counted_page, refused_page, page_line_of}
use Rattle.ledger_file.specs.Total.{is_total, is_total_words}
use Rattle.ledger_file.specs.Sums.{adding, taken, page_taken, total_taken, added_up}

-- ---- Lines

counted : page_line_of (ascii "a.g4\t0\t17\t-7\tover by 7") ≡ page 4 0 17
unfolding ascii pieces same value_from counted_page refused_page page_line_of
counted = refl

refused : page_line_of (ascii "b\t12\t-\t10\t12: the units column has 2 ticks") ≡ page 1 12 0
unfolding ascii pieces same value_from counted_page refused_page page_line_of
refused = refl

-- no heads for one that is counted, heads for one that is refused, a number that is none
wrong-lines :
    (page_line_of (ascii "a\t0\t-\t10\tcounted") ≡ no_page) × (page_line_of (ascii "a\t12\t17\t10\t12:") ≡ no_page) × (page_line_of (ascii "a\t\t17\t10\tcounted") ≡ no_page)
    × (page_line_of (ascii "a\t0\t17\t10") ≡ no_page)
unfolding ascii pieces same value_from counted_page refused_page page_line_of
wrong-lines = (refl, refl, refl, refl)

-- a page named total
named-total : (is_total (ascii "total\t0\t17\t10\tcounted") ≡ false) × (is_total (ascii "total\t0\t17\t10\t1 page, 1 counted, 0 to be looked at") ≡ true)
unfolding ascii pieces same ahead is_total is_total_words
named-total = (refl, refl)

-- ---- Ledgers, with a quota of 30 and room for three pages

abbrev sums : String → List ℕ
sums s =
    let r = added_up (ascii s) (pos 30) 3 in
    r.number ∷ r.at ∷ r.other ∷ r.sum.books.heads ∷ r.sum.books.pages ∷ r.sum.books.looked ∷ []

-- two parts: their quotas are not looked at
two-parts : sums "a\t0\t7\t3\tcounted\nb\t1\t-\t3\t1: x\ntotal\t1\t7\t3\t2 pages,\nc\t0\t2\t8\tcounted\ntotal\t0\t2\t8\t1 page,\n" ≡ 0 ∷ 86 ∷ 0 ∷ 9 ∷ 3 ∷ 1 ∷ []
unfolding ascii pieces same value_from ahead first_of counted_page refused_page page_line_of is_total is_total_words booked has_room adding taken page_taken total_taken
two-parts = refl

nothing : sums "" ≡ 0 ∷ 0 ∷ 0 ∷ 0 ∷ 0 ∷ 0 ∷ []
unfolding ascii pieces adding
nothing = refl

-- what can be wrong: a line that is none, one without its line feed, another total, no total, and a name that stands twice
no_line : sums "a\t0\t7\t3\tcounted\nx\n" ≡ 1 ∷ 16 ∷ 0 ∷ 7 ∷ 1 ∷ 0 ∷ []
unfolding ascii pieces same value_from ahead first_of counted_page refused_page page_line_of is_total is_total_words booked has_room adding taken page_taken total_taken
no_line = refl

cut_line : sums "a\t0\t7\t3\tcounted\nb" ≡ 1 ∷ 16 ∷ 0 ∷ 7 ∷ 1 ∷ 0 ∷ []
unfolding ascii pieces same value_from ahead first_of counted_page refused_page page_line_of is_total is_total_words booked has_room adding taken page_taken total_taken
cut_line = refl

other-total : sums "a\t0\t7\t3\tcounted\ntotal\t0\t8\t3\t1 page,\n" ≡ 2 ∷ 16 ∷ 0 ∷ 7 ∷ 1 ∷ 0 ∷ []
unfolding ascii pieces same value_from ahead first_of counted_page refused_page page_line_of is_total is_total_words booked has_room adding taken page_taken total_taken
other-total = refl

-- a total of two pages over the line of one, where a line without heads is lost
other-pages : sums "a\t0\t7\t3\tcounted\ntotal\t0\t7\t3\t2 pages,\n" ≡ 2 ∷ 16 ∷ 0 ∷ 7 ∷ 1 ∷ 0 ∷ []
unfolding ascii pieces same value_from ahead first_of counted_page refused_page page_line_of is_total is_total_words booked has_room adding taken page_taken total_taken
other-pages = refl

without-total : sums "a\t0\t7\t3\tcounted\n" ≡ 3 ∷ 16 ∷ 0 ∷ 7 ∷ 1 ∷ 0 ∷ []
unfolding ascii pieces same value_from ahead first_of counted_page refused_page page_line_of is_total is_total_words booked has_room adding taken page_taken total_taken
without-total = refl

twice : sums "b\t0\t7\t3\tcounted\na\t0\t7\t3\tcounted\na\t1\t-\t3\t1: x\n" ≡ 4 ∷ 32 ∷ 16 ∷ 14 ∷ 2 ∷ 0 ∷ []
unfolding ascii pieces same value_from ahead first_of counted_page refused_page page_line_of is_total is_total_words booked has_room adding taken page_taken total_taken
twice = refl
