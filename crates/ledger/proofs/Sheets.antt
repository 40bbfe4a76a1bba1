-- Sheets: lines of text with what they are made of, by computing. Assumes nothing.
use mathlib.Core.Path.{◌≡◌, refl}
use mathlib.Core.List.{List}
use Prim.Native.Nat.{ℕ}
use lib.IntN.{pos}
use Rattle.listing_text.specs.Text.{ascii, digits, decimal}
use Rattle.ledger.specs.Books as B
use Rattle.ledger.specs.Phrases as P
use Rattle.ledger.specs.Said as S
use Rattle.ledger.specs.Said.{page_line, total_line}
use Rattle.ledger.specs.declared.Verdict.{Verdict}
use Rattle.ledger.specs.declared.Ledger.{Ledger}

-- ---- Pages

books : Ledger
books = record { quota = pos 30; heads = 0; pages = 0; looked = 0 }

party : Verdict
party = record { number = 0; heads = 40; which = 0; line = 0; rows = 10; bytes = 5; place = 0; row = 0; count = 0; least = 0; most = 0 }

over : page_line (ascii "a.g4") party (B.booked books party) ≡ ascii "a.g4\t0\t40\t-10\tover by 10\n"
unfolding ascii digits decimal S.fill S.shown S.page_line P.words P.reason_at P.plain_at B.booked books party
over = refl

total : total_line (B.booked books party) ≡ ascii "total\t0\t40\t-10\t1 page, 1 counted, 0 to be looked at; over by 10\n"
unfolding ascii digits decimal S.fill S.total_line P.words B.booked books party
total = refl

-- a name can end no field and no line
odd-name : page_line (ascii "a\tb\nc") party books ≡ ascii "a?b?c\t0\t40\t30\tcounted\n"
unfolding ascii digits decimal S.fill S.shown S.page_line P.words P.reason_at P.plain_at books party
odd-name = refl

-- ---- Reasons: a verdict's number, box, line, place, row, count and its bounds

looked : ℕ → ℕ → ℕ → ℕ → ℕ → ℕ → ℕ → ℕ → Verdict
looked number which line place row count least most =
    record { number = number; heads = 0; which = which; line = line; rows = 10; bytes = 5; place = place; row = row; count = count; least = least; most = most }

said : Verdict → List ℕ
said v = page_line (ascii "b") v books

stopped : said (looked 2 0 0 4799 216 0 0 0) ≡ ascii "b\t2\t-\t30\t2: the data ends inside a code, at byte 599, bit 7, row 216\n"
unfolding said looked ascii digits decimal S.fill S.shown S.page_line P.words P.reason_at P.plain_at books
stopped = refl

two-ticks : said (looked 12 1 0 0 0 2 1 1) ≡ ascii "b\t12\t-\t30\t12: the units column has 2 ticks\n"
unfolding said looked ascii digits decimal S.fill S.shown S.page_line P.words P.reason_at P.plain_at books
two-ticks = refl

recovered : said (looked 13 9 0 0 188 2 0 0) ≡ ascii "b\t13\t-\t30\t13: the box of units 4 touches row 188, which was recovered\n"
unfolding said looked ascii digits decimal S.fill S.shown S.page_line P.words P.reason_at P.plain_at books
recovered = refl

rows-slid : said (looked 18 0 0 0 0 369 400 400) ≡ ascii "b\t18\t-\t30\t18: the page has 369 rows, and the form's page has 400\n"
unfolding said looked ascii digits decimal S.fill S.shown S.page_line P.words P.reason_at P.plain_at books
rows-slid = refl

rows-range : said (looked 18 0 0 0 0 369 377 500) ≡ ascii "b\t18\t-\t30\t18: the page has 369 rows, and the form's page has 377 to 500\n"
unfolding said looked ascii digits decimal S.fill S.shown S.page_line P.words P.reason_at P.plain_at books
rows-range = refl

doubted : said (looked 22 0 0 0 0 54 6 60) ≡ ascii "b\t22\t-\t30\t22: the box of tens 0 has 54 black pixels: in doubt from 6 on, ticked from 60 on\n"
unfolding said looked ascii digits decimal S.fill S.shown S.page_line P.words P.reason_at P.plain_at books
doubted = refl

gave_up : said (looked 23 0 0 0 0 0 0 0) ≡ ascii "b\t23\t-\t30\t23: the page's end-of-line marks stop before its end\n"
unfolding said looked ascii digits decimal S.fill S.shown S.page_line P.words P.reason_at P.plain_at books
gave_up = refl

not-proper : said (looked 24 0 0 0 0 871 0 0) ≡ ascii "b\t24\t-\t30\t24: the page's bits are not those that a writer writes for its rows: they part at bit 871\n"
unfolding said looked ascii digits decimal S.fill S.shown S.page_line P.words P.reason_at P.plain_at books
not-proper = refl

other-heads : said (looked 25 0 0 0 0 0 40 41) ≡ ascii "b\t25\t-\t30\t25: the form fits at two places of the page, and they read other heads: 40 and 41\n"
unfolding said looked ascii digits decimal S.fill S.shown S.page_line P.words P.reason_at P.plain_at books
other-heads = refl

bad_line : said (looked 32 0 7 0 0 0 0 0) ≡ ascii "b\t32\t-\t30\t32: the form's line 7 is none of a form\n"
unfolding said looked ascii digits decimal S.fill S.shown S.page_line P.words P.reason_at P.plain_at books
bad_line = refl

doubt-above : said (looked 34 0 0 0 0 0 0 0) ≡ ascii "b\t34\t-\t30\t34: the form's doubt is above its tick\n"
unfolding said looked ascii digits decimal S.fill S.shown S.page_line P.words P.reason_at P.plain_at books
doubt-above = refl

no-box : said (looked 36 7 0 0 0 0 0 0) ≡ ascii "b\t36\t-\t30\t36: the form has no box of units 3\n"
unfolding said looked ascii digits decimal S.fill S.shown S.page_line P.words P.reason_at P.plain_at P.missing_at books
no-box = refl

no_place : said (looked 36 22 0 0 0 0 0 0) ≡ ascii "b\t36\t-\t30\t36: the form has a shift, and no black or white place to find it by\n"
unfolding said looked ascii digits decimal S.fill S.shown S.page_line P.words P.reason_at P.plain_at P.missing_at books
no_place = refl

too_long : said (looked 46 0 0 0 0 0 0 0) ≡ ascii "b\t46\t-\t30\t46: the file is longer than the tool holds\n"
unfolding said looked ascii digits decimal S.fill S.shown S.page_line P.words P.reason_at P.plain_at books
too_long = refl

no-encoding : said (S.unread 47) ≡ ascii "b\t47\t-\t30\t47: neither the name's ending nor --encoding says how the page is written\n"
unfolding said ascii digits decimal S.fill S.shown S.page_line P.words P.reason_at P.plain_at books
no-encoding = refl

cut-file : said (S.unread 48) ≡ ascii "b\t48\t-\t30\t48: fewer bytes could be read than the file has\n"
unfolding said ascii digits decimal S.fill S.shown S.page_line P.words P.reason_at P.plain_at books
cut-file = refl

-- a number that no verdict on a page has
no-verdict : said (looked 49 0 0 0 0 0 0 0) ≡ ascii "b\t49\t-\t30\t49: no answer that a page has\n"
unfolding said looked ascii digits decimal S.fill S.shown S.page_line P.words P.reason_at P.plain_at books
no-verdict = refl

-- ---- Reasons alone

bad-form : S.reason_line (looked 32 0 7 0 0 0 0 0) ≡ ascii "32: the form's line 7 is none of a form\n"
unfolding looked ascii digits decimal S.fill S.shown S.reason_line P.words P.reason_at P.plain_at
bad-form = refl

done : S.reason_line party ≡ ascii "0: done\n"
unfolding party ascii digits decimal S.fill S.shown S.reason_line P.words P.reason_at P.plain_at
done = refl

-- ---- What a run ends with

ends_with : (B.status_of books ≡ 0) × (B.status_of (B.booked books party) ≡ 1) × (B.status_of (B.booked books (S.unread 42)) ≡ 1)
unfolding B.booked books party
ends_with = (refl, refl, refl)
