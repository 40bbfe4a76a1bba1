-- The pieces of the file, each a phrase or three with their numbers.
use Rattle.std.specs.Prelude.{◌≡◌, Bool, true, false, not, ◌&&◌, List, [], ◌∷◌, ◌++◌, ℕ, suc, ◌+◌, ◌-◌, ◌*◌, ◌/◌, ◌%◌, eqb, leb, ltb, ℤ, length, get_or}
use Rattle.listing_text.specs.Text.{newline}
use Rattle.listing_text.specs.Listed.{Prints}
use Rattle.heads.specs.Form.{Page, black_in}
use Rattle.heads.specs.declared.Box.{Box}
use Rattle.ledger.specs.Books.{is_counted, left, is_below, size}
use Rattle.ledger.specs.Balance.{opened}
use Rattle.ledger.specs.Phrases.{one}
use Rattle.ledger.specs.Said.{fill, numbers, reason_with, no_verdict, head_at}
use Rattle.ledger.specs.declared.Ledger.{Ledger}
use Rattle.ledger.specs.declared.Verdict.{Verdict}
use Rattle.look.specs.Phrases.{phrase}
use Rattle.look.specs.Escaped.{escaped}

-- ---- Written to a lent array

-- a piece has at most 24,576 bytes beside its name, and each byte of the name at most six
abbrev pub room_for : ℕ → ℕ → Bool
room_for name out = leb (name * 6 + 24576) out

-- a piece that can be said and surely fits is written, and its length told; else nothing is, and 0
pub record Tells (can : Bool) (name : ℕ) (text before : List ℕ) (r : ℕ) (after : List ℕ) : Type 0 where
  pub written : (can && room_for name (length before)) ≡ true → Prints before text r after
  pub kept : (can && room_for name (length before)) ≡ false → (r ≡ 0) × (after ≡ before)

-- ---- The two kinds of pieces

-- a phrase with its numbers, behind a line feed
abbrev pub said : List ℕ → ℕ → List ℕ
said ns k = newline ∷ fill ns (phrase k)

-- a phrase, a name, a second phrase, the reason of a page that is to be looked at, and a third phrase
abbrev pub named : List ℕ → Verdict → List ℕ → ℕ → ℕ → ℕ → List ℕ
named name v ns first middle last = said ns first ++ (escaped name ++ (fill ns (phrase middle) ++ (reason_with v ns ++ fill ns (phrase last))))

-- a part without numbers
abbrev pub part : ℕ → List ℕ
part k = said (0 ∷ 0 ∷ 0 ∷ 0 ∷ 0 ∷ 0 ∷ 0 ∷ 0 ∷ 0 ∷ []) k

-- ---- The ledger, and the table

-- no words at all: a number behind the last phrase
abbrev pub nothing : ℕ
nothing = 49

-- the books, the name of the form, and the head of the table
abbrev pub top : List ℕ → Ledger → List ℕ
top form b = named form no_verdict (numbers no_verdict b) (1 + one (is_below (left b))) 3 nothing

-- the row of a page, with the books behind it, and what stands before its picture; a page's number is how many pages the books have
abbrev pub row : List ℕ → Verdict → Ledger → List ℕ
row name v b = named name v (numbers v b) (4 + one (not (is_counted v))) (6 + head_at v b) 10

abbrev pub page : List ℕ → Verdict → Ledger → List ℕ
page name v b = named name v (numbers v b) 16 17 18

-- ---- The plot: pages from the left to the right, heads from the bottom to the top

-- the quota that the books were opened with; none, where it is below zero
abbrev pub licence : ℤ → ℕ
licence quota = elim (is_below (left (opened quota))) [ true ↦ 0 | false ↦ size (left (opened quota)) ]

abbrev pub larger : ℕ → ℕ → ℕ
larger a b = elim (ltb a b) [ true ↦ b | false ↦ a ]

-- its head, and its end
abbrev pub plot : Bool → Ledger → List ℕ
plot end b =
    said (b.pages ∷ larger (licence b.quota) b.heads ∷ b.heads ∷ licence b.quota ∷ 0 ∷ 0 ∷ 0 ∷ 0 ∷ 0 ∷ []) (11 + 3 * one end)

-- the bar of a page, as high as the heads so far
abbrev pub bar : Verdict → Ledger → List ℕ
bar v b = said ((b.pages - 1) ∷ b.heads ∷ 0 ∷ 0 ∷ 0 ∷ 0 ∷ 0 ∷ 0 ∷ 0 ∷ []) (12 + one (not (is_counted v)))

-- ---- What was read, and where the form lies

unfoldable pub count_of : ℕ → List ℕ → ℕ
count_of m [] = 0
count_of m (x ∷ xs) = elim (eqb x m) [ true ↦ suc (count_of m xs) | false ↦ count_of m xs ]

abbrev pub read_text : ℕ → List ℕ → List ℕ
read_text columns marks = said (columns ∷ length marks ∷ count_of 1 marks ∷ count_of 2 marks ∷ 0 ∷ 0 ∷ 0 ∷ 0 ∷ 0 ∷ []) 19

abbrev pub is_there : ℕ → ℕ → Bool
is_there across down = eqb across 0 && eqb down 0

-- which words: it lies there, or so many pixels to the right or left and down or up
abbrev pub found_at : Bool → ℕ → Bool → ℕ → ℕ
found_at leftward across upward down = elim (is_there across down) [ true ↦ 20 | false ↦ 21 + 2 * one leftward + one upward ]

-- how far two numbers lie apart
abbrev pub apart : ℕ → ℕ → ℕ
apart a b = a - b + (b - a)

-- an offset, across and down, and that of the form's own place
abbrev pub found : ℕ → ℕ → ℕ → ℕ → List ℕ
found x y own_x own-y =
    said (apart x own_x ∷ apart y own-y ∷ 0 ∷ 0 ∷ 0 ∷ 0 ∷ 0 ∷ 0 ∷ 0 ∷ []) (found_at (ltb x own_x) (apart x own_x) (ltb y own-y) (apart y own-y))

-- ---- The picture, and what is drawn over it: the sheet is as high as the form's page, or as the rows where these are more

abbrev pub sheet_numbers : ℕ → ℕ → ℕ → List ℕ
sheet_numbers columns rows most = columns ∷ rows ∷ larger most rows ∷ 0 ∷ 0 ∷ 0 ∷ 0 ∷ 0 ∷ 0 ∷ []

-- without a picture, and with one
abbrev pub sheet : Bool → ℕ → ℕ → ℕ → List ℕ
sheet pictured columns rows most = said (sheet_numbers columns rows most) (26 + one pictured)

abbrev pub drawing : ℕ → ℕ → ℕ → List ℕ
drawing columns rows most = said (sheet_numbers columns rows most) 28

-- a box or place: its edges and sizes, its black pixels, the number by which it is named, and the one that is asked for
abbrev pub edges : ℕ → Box → ℕ → ℕ → ℕ → List ℕ
edges k b black name asked =
    said (b.left ∷ b.top ∷ (b.right - b.left) ∷ (b.bottom - b.top) ∷ black ∷ name ∷ b.right ∷ b.bottom ∷ asked ∷ []) k

-- ---- Boxes: empty, in doubt, ticked, and not read to their bottom

abbrev pub state_of : ℕ → Box → ℕ → ℕ → ℕ → ℕ
state_of rows b black doubt tick =
    elim (ltb rows b.bottom) [ true ↦ 3 | false ↦ elim (ltb black doubt) [ true ↦ 0 | false ↦ elim (ltb black tick) [ true ↦ 1 | false ↦ 2 ] ] ]

-- a box of tens has an even number, and one of units an odd one
abbrev pub box_text : Page → Box → ℕ → ℕ → ℕ → List ℕ
box_text p b which doubt tick =
    edges (29 + 4 * (which % 2) + state_of (length p.rows) b (black_in p b) doubt tick) b (black_in p b) (which / 2) 0

-- ---- Places: not read, as the form says, with too few black pixels, with too many

abbrev pub holds : ℕ → ℕ → ℕ → Bool
holds kind black asked = elim (eqb kind 1) [ true ↦ leb asked black | false ↦ leb black asked ]

abbrev pub place_state : ℕ → Box → ℕ → ℕ → ℕ → ℕ
place_state rows b kind black asked =
    elim (ltb rows b.bottom) [ true ↦ 0 | false ↦ elim (holds kind black asked) [ true ↦ 1 | false ↦ 2 + one (not (eqb kind 1)) ] ]

abbrev pub place_text : Page → Box → ℕ → ℕ → ℕ → List ℕ
place_text p b kind asked line =
    edges (37 + place_state (length p.rows) b kind (black_in p b) asked) b (black_in p b) line asked

-- ---- Rows: those that were cut or recovered, and the one that the words are about

abbrev pub is_marked : List ℕ → ℕ → Bool
is_marked marks y = not (eqb (get_or marks y 0) 0)

abbrev pub band : ℕ → List ℕ → ℕ → List ℕ
band columns marks y = said (y ∷ columns ∷ (y + 1) ∷ 0 ∷ 0 ∷ 0 ∷ 0 ∷ 0 ∷ 0 ∷ []) (41 + one (ltb 1 (get_or marks y 0)))

-- a verdict that is the reading's own stopped at its row
abbrev pub has_row : Verdict → Bool
has_row v = not (eqb v.row 0)

abbrev pub row_mark : ℕ → Verdict → List ℕ
row_mark columns v = said ((v.row - 1) ∷ columns ∷ v.row ∷ 0 ∷ 0 ∷ 0 ∷ 0 ∷ 0 ∷ 0 ∷ []) (43 + one (ltb 8 v.number))
