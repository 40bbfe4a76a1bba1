-- The text: a line for a page, and the total's line, by the phrases of specs/Phrases.antt.
use Rattle.std.specs.Prelude.{◌≡◌, Bool, true, false, not, ◌&&◌, ◌||◌, List, [], ◌∷◌, ◌++◌, map, ℕ, ◌+◌, ◌-◌, ◌*◌, ◌/◌, ◌%◌, eqb, leb, ltb, pos, length, get_or}
use Rattle.listing_text.specs.Text.{newline, decimal}
use Rattle.listing_text.specs.Listed.{Prints}
use Rattle.ledger.specs.Books.{is_counted, left, is_below, size}
use Rattle.ledger.specs.Balance.{opened}
use Rattle.ledger.specs.Phrases.{phrase, one, reason_at, alone_said}
use Rattle.ledger.specs.declared.Ledger.{Ledger}
use Rattle.ledger.specs.declared.Verdict.{Verdict}

-- ---- Templates

abbrev pub is_letter : ℕ → Bool
is_letter b = leb 65 b && leb b 90

-- a template with its numbers: that of `A` first, then that of `B`
unfoldable pub fill : List ℕ → List ℕ → List ℕ
fill ns [] = []
fill ns (b ∷ bs) = elim (is_letter b) [ true ↦ decimal (get_or ns (b - 65) 0) ++ fill ns bs | false ↦ b ∷ fill ns bs ]

-- what the letters stand for
abbrev pub numbers : Verdict → Ledger → List ℕ
numbers v b =
    v.number  -- A  the answer
    ∷ (v.place / 8)  -- B  the byte at fault
    ∷ v.count  -- C  the count that was found
    ∷ (v.which / 2)  -- D  the digit of the box
    ∷ (v.place % 8)  -- E  the bit at fault
    ∷ v.line  -- F  the form's line
    ∷ (b.pages - b.looked)  -- G  pages counted
    ∷ v.heads  -- H  heads of the page
    ∷ b.heads  -- I  heads of all pages
    ∷ v.rows  -- J  rows of the page
    ∷ b.looked  -- K  pages to be looked at
    ∷ v.least  -- L  the least that should be
    ∷ v.most  -- M  the most
    ∷ size (left b)  -- N  the quota left, or by how much it is passed
    ∷ v.row  -- O  the row, from 1
    ∷ b.pages  -- P  pages
    ∷ []

-- ---- Names

-- A byte that could end a field or a line, or move a terminal's cursor, is shown as `?`: 63
abbrev pub shown_byte : ℕ → ℕ
shown_byte b = elim (ltb b 32 || eqb b 127) [ true ↦ 63 | false ↦ b ]

unfoldable pub shown : List ℕ → List ℕ
shown name = map shown_byte name

-- ---- The lines

abbrev pub filled_with : Verdict → Ledger → ℕ → List ℕ
filled_with v b k = fill (numbers v b) (phrase k)

-- "A page that is refused has '-' for its heads"
abbrev pub head_at : Verdict → Ledger → ℕ
head_at v b = 2 * one (not (is_counted v)) + one (is_below (left b))

-- the reason of a page that is to be looked at
abbrev pub reason_with : Verdict → List ℕ → List ℕ
reason_with v ns = elim (is_counted v) [ true ↦ [] | false ↦ fill ns (phrase (reason_at v)) ]

-- a line: a name, a phrase, the reason
abbrev pub line_of : List ℕ → Verdict → List ℕ → ℕ → List ℕ
line_of name v ns k = shown name ++ (fill ns (phrase k) ++ (reason_with v ns ++ newline ∷ []))

-- the line of a page, with the books behind it
unfoldable pub page_line : List ℕ → Verdict → Ledger → List ℕ
page_line name v b = line_of name v (numbers v b) (head_at v b)

-- the verdict on a page whose file cannot be used: a number, and nothing else
abbrev pub unread : ℕ → Verdict
unread number = record { number = number; heads = 0; which = 0; line = 0; rows = 0; bytes = 0; place = 0; row = 0; count = 0; least = 0; most = 0 }

abbrev pub no_verdict : Verdict
no_verdict = unread 0

-- the reason alone, as `A: reason`; `0: done` where there is none
abbrev pub alone_at : Verdict → ℕ
alone_at v = alone_said + one (is_counted v)

unfoldable pub reason_line : Verdict → List ℕ
reason_line v = line_of [] v (numbers v (opened (pos 0))) (alone_at v)

abbrev pub total_at : Ledger → ℕ
total_at b = 4 + 2 * one (eqb b.pages 1) + one (is_below (left b))

unfoldable pub total_line : Ledger → List ℕ
total_line b = filled_with no_verdict b (total_at b) ++ newline ∷ []

-- ---- Written to a lent array

-- A line has at most 512 bytes beside its name.
abbrev pub line_room : ℕ → ℕ → Bool
line_room name out = leb (name + 512) out

-- a line that surely fits is written, and its length told; else nothing is, and 0
abbrev pub Tells : ℕ → List ℕ → List ℕ → ℕ → List ℕ → Type 0
Tells name text before r after = elim (line_room name (length before)) [ true ↦ Prints before text r after | false ↦ (r ≡ 0) × (after ≡ before) ]
