-- A13 in bytes: a page of A3's writer in which any lines are bad; and, as 02 has it, one line, whose place in the page is told. Assumes nothing.
use mathlib.Core.Path.{◌≡◌, refl, sym, ap, ◌∙◌, subst}
use mathlib.Core.Bool.{Bool, true, false}
use mathlib.Core.List.{List, [], ◌∷◌, ◌++◌, append_assoc}
use mathlib.Core.Logic.{inl, inr}
use Prim.Native.Nat.{ℕ, zero, suc, ◌≤◌, ◌<◌}
use native.Mathlib.Omega.{arith}
use lib.ListN.{length, replicate, length-append}
use Rattle.rules.specs.Bits.{bits_of}
use Rattle.rules.specs.Lines.{one}
use Rattle.rules.specs.Rows.{Settings}
use Rattle.rules.specs.Pages.{Answer, most_bytes, decode, read_page}
use Rattle.rules.specs.Write.{line_bits, eol_bits}
use Rattle.rules.specs.WriteGroup3.{filled, CodedLine, coded_lines, framed, page3_bits}
use Rattle.rules.specs.Damage.{stray, Arrived, own, other, owns, arrived_bits, arrived_lines, arrived_page, up_to, may_all, Spared, no_lines, unchanged, any_row, all_clean, RoomFor, AllButOne}
use Rattle.rules.proofs.Ascending.{rises-ascends}
use Rattle.rules.specs.Rising.{Rows, no_rows, row_then}
use Rattle.rules.proofs.ExactPages.{exact-off}
use Rattle.rules.proofs.BadLines.{Mending, Stopping, Done, bad-lines, bad-lines-room}

-- ---- In bytes

-- Any lines may be bad. Read leniently is without strict, and without exact, which implies it (A12).
module _ (S : Settings) (inexact : S.exact ≡ false) (fill : ℕ) (rest : List Bool)
    (ls : List Arrived) (some_lines : 0 < length ls) (goods : may_all S.columns ls ≡ true) (stopping : Stopping S fill ls) (mending : Mending S (length ls) rest) (narrow : S.columns < 4294967295)
    (bytes : List ℕ) (small : length bytes ≤ most_bytes)
    (there : bits_of bytes ≡ arrived_page S.columns fill ls ++ rest) (store places : ℕ) where
  pub bad-lines-decode : RoomFor (length ls) S.columns store places (decode S bytes store places).number
      → ((decode S bytes store places).number ≡ 0) × Spared ls (decode S bytes store places).rows (decode S bytes store places).marks
  bad-lines-decode = subst (λ (a : Answer). RoomFor (length ls) S.columns store places a.number → (a.number ≡ 0) × Spared ls a.rows a.marks) (sym is) by
    where
      is : decode S bytes store places ≡ read_page S (arrived_page S.columns fill ls ++ rest) store places
      is =
          exact-off S inexact bytes (record { wide = mending.wide; narrow = λ e. omega arith; small = small }) store places
          ∙ ap (λ (bs : List Bool). read_page S bs store places) there

      by : RoomFor (length ls) S.columns store places (read_page S (arrived_page S.columns fill ls ++ rest) store places).number
          → Done S fill rest ls some_lines goods stopping mending (read_page S (arrived_page S.columns fill ls ++ rest) store places)
      by (inl h) = bad-lines-room S fill rest ls some_lines goods stopping mending store places h
      by (inr (roomy, placed)) = bad-lines S fill rest ls some_lines goods stopping mending store places roomy placed

-- ---- Where a line stands

-- the page of A3's writer, whose lines are all their own
own-lines : (width left : ℕ) (reference : List ℕ) (rows : List (List ℕ)) → left ≡ 0 → coded_lines width 1 left reference rows ≡ arrived_lines width (owns rows)
unfolding coded_lines arrived_lines owns
own-lines width left reference [] z = refl
own-lines width zero reference (r ∷ rs) z = ap (λ (l : List CodedLine). record { kind = one; bits = line_bits width one r } ∷ l) (own-lines width 0 r rs refl)
own-lines width (suc left) reference (r ∷ rs) z = absurd (omega arith)

pub own-page : (width fill : ℕ) (rows : List (List ℕ)) → page3_bits width (filled fill) rows ≡ arrived_page width fill (owns rows)
unfolding page3_bits arrived_page
own-page width fill rows = ap (framed (filled fill)) (own-lines width 0 [] rows refl)

module _ (width fill : ℕ) where
  -- a page, divided at the code bits of one of its lines
  page-at : (ls : List Arrived) (l : Arrived) (ls' : List Arrived)
      → arrived_page width fill (ls ++ l ∷ ls') ≡ up_to width fill ls ++ (arrived_bits width l ++ arrived_page width fill ls')
  unfolding arrived_page arrived_lines framed up_to
  page-at [] l ls' = refl
  page-at (x ∷ ls) l ls' =
      ap (λ (y : List Bool). (replicate fill false ++ eol_bits) ++ (arrived_bits width x ++ y)) (page-at ls l ls')
      ∙ sym (append_assoc (replicate fill false ++ eol_bits) (arrived_bits width x ++ up_to width fill ls) _
      ∙ ap (λ (y : List Bool). (replicate fill false ++ eol_bits) ++ y) (append_assoc (arrived_bits width x) (up_to width fill ls) _))

  module _ (first last : List (List ℕ)) where
    -- up to the code bits of one row's line, and the page of the rows behind it
    divided : (l : Arrived) → arrived_page width fill (owns first ++ l ∷ owns last) ≡ up_to width fill (owns first) ++ (arrived_bits width l ++ page3_bits width (filled fill) last)
    divided l =
        page-at (owns first) l (owns last)
        ∙ ap (λ (y : List Bool). up_to width fill (owns first) ++ (arrived_bits width l ++ y)) (sym (own-page width fill last))

    -- so does the written page stand there
    pub written-line-at : (r : List ℕ) → page3_bits width (filled fill) (first ++ r ∷ last) ≡ up_to width fill (owns first) ++ (line_bits width one r ++ page3_bits width (filled fill) last)
    unfolding owns
    written-line-at r = own-page width fill (first ++ r ∷ last) ∙ ap (arrived_page width fill) (owns-append first) ∙ divided (own r)
      where
        owns-append : (rows : List (List ℕ)) → owns (rows ++ r ∷ last) ≡ owns rows ++ own r ∷ owns last
        owns-append [] = refl
        owns-append (x ∷ rows) = ap (λ (l : List Arrived). own x ∷ l) (owns-append rows)

-- ---- One bad line

-- rows given to a page whose lines are all their own are its rows, and clean
spared-all : (rows given : List (List ℕ)) (marks : List ℕ) → Spared (owns rows) given marks → (given ≡ rows) × (marks ≡ all_clean rows)
unfolding owns
spared-all [] given marks no_lines = (refl, refl)
spared-all (r ∷ rs) given marks (unchanged {rows = later} {marks = ms} s) =
    let p = spared-all rs later ms s in
    (ap (λ (l : List (List ℕ)). r ∷ l) p.0, ap (λ (l : List ℕ). 0 ∷ l) p.1)

spared-but-one : (first last : List (List ℕ)) (bits : List Bool) (given : List (List ℕ)) (marks : List ℕ) → Spared (owns first ++ other bits ∷ owns last) given marks → AllButOne first last given marks
unfolding owns
spared-but-one [] last bits given marks (any_row {row = x} {mark = m} {rows = later} {marks = ms} s) =
    let p = spared-all last later ms s in
    (x, m, ap (λ (l : List (List ℕ)). x ∷ l) p.0, ap (λ (l : List ℕ). m ∷ l) p.1)
spared-but-one (r ∷ first) last bits given marks (unchanged {rows = later} {marks = ms} s) =
    let p = spared-but-one first last bits later ms s in
    (p.0, p.1, ap (λ (l : List (List ℕ)). r ∷ l) p.2, ap (λ (l : List ℕ). 0 ∷ l) p.3)

module _ (width : ℕ) where
  may-own : (rows : List (List ℕ)) → Rows width rows → may_all width (owns rows) ≡ true
  unfolding owns may_all
  may-own [] no_rows = refl
  may-own (r ∷ rs) (row_then h hs) = rw (rises-ascends h) (may-own rs hs)

  may-one : (first last : List (List ℕ)) (r : List ℕ) (bits : List Bool) → Rows width (first ++ r ∷ last) → stray bits ≡ true → may_all width (owns first ++ other bits ∷ owns last) ≡ true
  unfolding owns may_all
  may-one [] last r bits (row_then h hs) s = rw s (may-own last hs)
  may-one (x ∷ first) last r bits (row_then h hs) s = rw (rises-ascends h) (may-one first last r bits hs s)

length-owns : (rows : List (List ℕ)) → length (owns rows) ≡ length rows
unfolding owns
length-owns [] = refl
length-owns (r ∷ rs) = ap suc (length-owns rs)

-- Of a page's rows, one line's code bits may be any stray bits: every row but that one is unchanged, and clean.
module _ (S : Settings) (inexact : S.exact ≡ false) (fill : ℕ) (three : 3 ≤ fill)
    (first : List (List ℕ)) (r : List ℕ) (last : List (List ℕ)) (rises : Rows S.columns (first ++ r ∷ last)) (rest : List Bool) (mending : Mending S (length (first ++ r ∷ last)) rest) (narrow : S.columns < 4294967295)
    (bits : List Bool) (strays : stray bits ≡ true) (bytes : List ℕ) (small : length bytes ≤ most_bytes)
    (there : bits_of bytes ≡ up_to S.columns fill (owns first) ++ (bits ++ (page3_bits S.columns (filled fill) last ++ rest))) (store places : ℕ) where
  pub one-bad-line : RoomFor (length (first ++ r ∷ last)) S.columns store places (decode S bytes store places).number
      → ((decode S bytes store places).number ≡ 0) × AllButOne first last (decode S bytes store places).rows (decode S bytes store places).marks
  one-bad-line room =
      let d = bad-lines-decode S inexact fill rest ls (omega (arith, size, length-append first (r ∷ last))) (may-one S.columns first last r bits rises strays)
      (inl three) (subst (λ (n : ℕ). Mending S n rest) size mending) narrow bytes small (there ∙ page) store places
      (subst (λ (n : ℕ). RoomFor n S.columns store places (decode S bytes store places).number) size room) in
      (d.0, spared-but-one first last bits _ _ d.1)
    where
      ls : List Arrived
      ls = owns first ++ other bits ∷ owns last

      size : length (first ++ r ∷ last) ≡ length ls
      size = omega (arith, length-append first (r ∷ last), length-append (owns first) (other bits ∷ owns last), length-owns first, length-owns last)

      page : up_to S.columns fill (owns first) ++ (bits ++ (page3_bits S.columns (filled fill) last ++ rest)) ≡ arrived_page S.columns fill ls ++ rest
      page =
          sym (ap (λ (l : List Bool). l ++ rest) (divided S.columns fill first last (other bits))
          ∙ append_assoc (up_to S.columns fill (owns first)) (bits ++ page3_bits S.columns (filled fill) last) rest
          ∙ ap (λ (l : List Bool). up_to S.columns fill (owns first) ++ l) (append_assoc bits (page3_bits S.columns (filled fill) last) rest))
