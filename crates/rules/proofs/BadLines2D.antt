-- Bad lines of a Group 3 2D page with at least three zeros of fill cost at most the rows to the next 1D line (02 A13, carried on to tag bits). Assumes nothing.
use mathlib.Core.Path.{◌≡◌, sym, ◌∙◌, subst}
use mathlib.Core.Bool.{Bool, true, false}
use mathlib.Core.List.{List, [], ◌∷◌, ◌++◌, append_assoc}
use mathlib.Core.Logic.{inl, inr}
use Prim.Native.Nat.{ℕ, ◌≤◌, ◌<◌}
use native.Mathlib.Omega.{arith}
use lib.ListN.{length, replicate}
use Rattle.rules.specs.Bits.{bits_of}
use Rattle.rules.specs.Eols.{zero_run}
use Rattle.rules.specs.Group3.{tagged}
use Rattle.rules.specs.Rows.{Settings}
use Rattle.rules.specs.Pages.{Answer, most_bytes, ascends, decode, read_page}
use Rattle.rules.specs.Write.{eol_bits}
use Rattle.rules.specs.WriteGroup3.{times}
use Rattle.rules.specs.Damage.{found, no_eol, RoomFor}
use Rattle.rules.specs.Damage2D.{Arrived2D, own_2d, other_2d, sent_row, arrived_tag, arrived_bits_2d, arrived_page_2d, stray_2d, may_arrive_2d, may_all_2d, SparedTo1D}
use Rattle.rules.proofs.Bits.{both_true}
use Rattle.rules.proofs.Ascending.{ascends-rises}
use Rattle.rules.proofs.ExactPages.{exact-off}
use Rattle.rules.proofs.Mending.{Mends, May, MayAll, none_left, and-then, StopAll, three-stop}
use Rattle.rules.proofs.MendedPage.{Behind, front-on, Done, mended-page, mended-page-room}

may-come : (width : ℕ) (ls : List Arrived2D) → may_all_2d width ls ≡ true → MayAll tagged width ls
unfolding may_all_2d
may-come width [] q = none_left
may-come width (l ∷ ls) q =
    let p = both_true (may_arrive_2d width l) (may_all_2d width ls) q in
    and-then (by l p.0) (may-come width ls p.1)
  where
    by : (l : Arrived2D) → may_arrive_2d width l ≡ true → May tagged width l
    by (own_2d tag row) h = (tt, ascends-rises width 0 row h)
    by (other_2d row tag bits) h =
        let p = both_true (ascends width row) (stray_2d tag bits) h in
        (ascends-rises width 0 row p.0, both_true (found (zero_run bits)) (no_eol 0 (tag ∷ bits)) p.1)

front : (width fill : ℕ) (above : List ℕ) (ls : List Arrived2D) (rest : List Bool)
    → arrived_page_2d width fill above ls ++ rest ≡ replicate fill false ++ (eol_bits ++ Behind width tagged fill above ls rest)
unfolding Behind arrived_page_2d times
front width fill above [] rest = simp append_assoc
front width fill above (l ∷ ls) rest =
    front-on fill (arrived_tag l ∷ arrived_bits_2d width above l) (arrived_page_2d width fill (sent_row l) ls) rest _ (front width fill (sent_row l) ls rest)

-- In bytes. Read leniently is without strict, and without exact, which implies it (A12).
module _ (S : Settings) (inexact : S.exact ≡ false) (fill : ℕ) (three : 3 ≤ fill)
    (ls : List Arrived2D) (some_lines : 0 < length ls) (goods : may_all_2d S.columns ls ≡ true) (rest : List Bool) (mending : Mends tagged S (length ls) rest) (narrow : S.columns < 4294967295)
    (bytes : List ℕ) (small : length bytes ≤ most_bytes)
    (there : bits_of bytes ≡ arrived_page_2d S.columns fill [] ls ++ rest) (store places : ℕ) where
  pub bad-lines-2d : RoomFor (length ls) S.columns store places (decode S bytes store places).number
      → ((decode S bytes store places).number ≡ 0) × SparedTo1D false ls (decode S bytes store places).rows (decode S bytes store places).marks
  bad-lines-2d = subst (λ (a : Answer). RoomFor (length ls) S.columns store places a.number → (a.number ≡ 0) × SparedTo1D false ls a.rows a.marks) (sym is) by
    where
      is : decode S bytes store places ≡ read_page S (bits_of bytes) store places
      is = exact-off S inexact bytes (record { wide = mending.wide; narrow = λ e. omega arith; small = small }) store places

      page : bits_of bytes ≡ replicate fill false ++ (eol_bits ++ Behind S.columns tagged fill [] ls rest)
      page = there ∙ front S.columns fill [] ls rest

      mays : MayAll tagged S.columns ls
      mays = may-come S.columns ls goods

      stops : StopAll tagged S fill ls
      stops = three-stop tagged S (length ls) rest mending fill three ls mays

      by : RoomFor (length ls) S.columns store places (read_page S (bits_of bytes) store places).number
          → Done tagged S fill rest ls some_lines mays stops mending (bits_of bytes) page (read_page S (bits_of bytes) store places)
      by (inl h) = mended-page-room tagged S fill rest ls some_lines mays stops mending (bits_of bytes) page store places h
      by (inr (roomy, placed)) = mended-page tagged S fill rest ls some_lines mays stops mending (bits_of bytes) page store places roomy placed
