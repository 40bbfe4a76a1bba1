-- Bad lines cost no row but their own (02 A13): of a page by A3's writer with EOLs and at least three fill zeros, or where no line goes past the fill, any lines may have other code bits. Read leniently it gives as many rows, and
-- each row whose line is its own. It is the page of proofs/MendedPage.antt whose lines are all 1D. Assumes nothing.
use mathlib.Core.Path.{◌≡◌, refl, sym, ap, ◌∙◌, subst}
use mathlib.Core.Bool.{Bool, true, false}
use mathlib.Core.List.{List, [], ◌∷◌, ◌++◌, append_assoc}
use mathlib.Core.Logic.{◌⊎◌, inl, inr}
use Prim.Native.Nat.{ℕ, suc, ◌*◌, ◌≤◌, ◌<◌}
use native.Mathlib.Omega.{arith}
use lib.ListN.{length, replicate}
use Rattle.rules.specs.Eols.{zero_run}
use Rattle.rules.specs.Group3.{untagged}
use Rattle.rules.specs.Rows.{Settings}
use Rattle.rules.specs.Pages.{Answer, read_page}
use Rattle.rules.specs.Write.{eol_bits}
use Rattle.rules.specs.WriteGroup3.{filled, times, framed}
use Rattle.rules.specs.Damage.{found, no_eol, Arrived, own, other, arrived_bits, arrived_lines, arrived_page, may_arrive, may_all, Spared, no_lines, unchanged, any_row}
use Rattle.rules.specs.Damage2D.{Arrived2D, own_2d, other_2d, SparedTo1D, no_lines as none-come, unchanged_1_d, bad_line}
use Rattle.rules.proofs.Bits.{both_true}
use Rattle.rules.specs.Rising.{none as no-changes}
use Rattle.rules.proofs.Ascending.{ascends-rises}
use Rattle.rules.proofs.Mending.{Mends, May, MayAll, none_left, and-then, StopAll, three-stop}
use Rattle.rules.proofs.MendedPage.{Behind, front-on, mended-page, mended-page-room}

-- lenient Group 3 1D; the true number of rows, or none or more with end_of_block, or with nothing behind the page. End_of_line and alignment do not matter.
abbrev pub Mending : Settings → ℕ → List Bool → Type 0
Mending S n rest = Mends untagged S n rest

-- ---- As lines of which each is 1D

abbrev pub comes : Arrived → Arrived2D
comes (own row) = own_2d true row
comes (other bits) = other_2d [] true bits

unfoldable pub come : List Arrived → List Arrived2D
come [] = []
come (l ∷ ls) = comes l ∷ come ls

as-many-come : (ls : List Arrived) → length (come ls) ≡ length ls
unfolding come
as-many-come [] = refl
as-many-come (l ∷ ls) = ap suc (as-many-come ls)

may-come : (width : ℕ) (ls : List Arrived) → may_all width ls ≡ true → MayAll untagged width (come ls)
unfolding come may_all
may-come width [] q = none_left
may-come width (l ∷ ls) q =
    let p = both_true (may_arrive width l) (may_all width ls) q in
    and-then (by l p.0) (may-come width ls p.1)
  where
    by : (l : Arrived) → may_arrive width l ≡ true → May untagged width (comes l)
    by (own row) h = (refl, ascends-rises width 0 row h)
    by (other bits) h = (no-changes, both_true (found (zero_run bits)) (no_eol 0 bits) h)

-- three zeros of fill, or no line that takes more of the zeros behind it than the fill has
abbrev pub Stopping : Settings → ℕ → List Arrived → Type 0
Stopping S fill ls = (3 ≤ fill) ⊎ StopAll untagged S fill (come ls)

-- the page
pub front : (width fill : ℕ) (above : List ℕ) (ls : List Arrived) (rest : List Bool)
    → framed (filled fill) (arrived_lines width ls) ++ rest ≡ replicate fill false ++ (eol_bits ++ Behind width untagged fill above (come ls) rest)
unfolding Behind come framed arrived_lines times
front width fill above [] rest =
    append_assoc (replicate fill false) (eol_bits ++ times 5 eol_bits) rest ∙ ap (λ (l : List Bool). replicate fill false ++ l) (append_assoc eol_bits (times 5 eol_bits) rest)
front width fill above (l ∷ ls) rest =
    ap (λ (x : List Bool). x ++ rest) (append_assoc (replicate fill false) eol_bits (arrived_bits width l ++ page)) ∙ by l (λ x. front width fill x ls rest)
  where
    page : List Bool
    page = framed (filled fill) (arrived_lines width ls)

    by : (l : Arrived) → ((x : List ℕ) → page ++ rest ≡ replicate fill false ++ (eol_bits ++ Behind width untagged fill x (come ls) rest))
        → (replicate fill false ++ (eol_bits ++ (arrived_bits width l ++ page))) ++ rest ≡ replicate fill false ++ (eol_bits ++ Behind width untagged fill above (comes l ∷ come ls) rest)
    by (own row) ahead = front-on fill (arrived_bits width (own row)) page rest _ (ahead row)
    by (other bits) ahead = front-on fill bits page rest _ (ahead [])

-- what it costs
spared : {lost : Bool} (ls : List Arrived) {rows : List (List ℕ)} {marks : List ℕ} → SparedTo1D lost (come ls) rows marks → Spared ls rows marks
unfolding come
spared [] none-come = no_lines
spared (own row ∷ ls) (unchanged_1_d s) = unchanged (spared ls s)
spared (other bits ∷ ls) (bad_line s) = any_row (spared ls s)

-- ---- The page

-- a row for each line
pub spared-length : {ls : List Arrived} {rows : List (List ℕ)} {marks : List ℕ} → Spared ls rows marks → length rows ≡ length ls
spared-length no_lines = refl
spared-length (unchanged s) = ap suc (spared-length s)
spared-length (any_row s) = ap suc (spared-length s)

module _ (S : Settings) (fill : ℕ) (rest : List Bool)
    (ls : List Arrived) (some_lines : 0 < length ls) (goods : may_all S.columns ls ≡ true) (stopping : Stopping S fill ls) (mending : Mending S (length ls) rest) where
  abbrev page : List Bool
  page = arrived_page S.columns fill ls ++ rest

  -- done, and no row is lost but those of bad lines
  abbrev pub Done : Answer → Type 0
  Done a = (a.number ≡ 0) × Spared ls a.rows a.marks

  there : page ≡ replicate fill false ++ (eol_bits ++ Behind S.columns untagged fill [] (come ls) rest)
  unfolding arrived_page
  there = front S.columns fill [] ls rest

  some-come : 0 < length (come ls)
  some-come = omega (arith, as-many-come ls)

  mends : Mends untagged S (length (come ls)) rest
  mends = subst (λ (n : ℕ). Mends untagged S n rest) (sym (as-many-come ls)) mending

  mays : MayAll untagged S.columns (come ls)
  mays = may-come S.columns ls goods

  stops : StopAll untagged S fill (come ls)
  stops = stop-all stopping
    where
      stop-all : Stopping S fill ls → StopAll untagged S fill (come ls)
      stop-all (inl three) = three-stop untagged S (length (come ls)) rest mends fill three (come ls) mays
      stop-all (inr each) = each

  -- Any lines of a page may be bad: with room for its lines it gives a row for each, and each row whose line is its own, clean.
  pub bad-lines : (store places : ℕ) → length ls * S.columns ≤ store → length ls ≤ places → Done (read_page S page store places)
  bad-lines store places roomy placed =
      let d = mended-page untagged S fill rest (come ls) some-come mays stops mends page there store places
      (subst (λ (n : ℕ). n * S.columns ≤ store) (sym (as-many-come ls)) roomy) (omega (arith, as-many-come ls)) in
      (d.0, spared ls d.1)

  -- and so with any room that was enough, where the answer is neither 4 nor 5
  pub bad-lines-room : (store places : ℕ) → (read_page S page store places).number ≤ 3 → Done (read_page S page store places)
  bad-lines-room store places h =
      let d = mended-page-room untagged S fill rest (come ls) some-come mays stops mends page there store places h in
      (d.0, spared ls d.1)
