-- A Group 3 page that is being put, row by row: what differs by the layout and by the kind of line. Assumes nothing.
use mathlib.Core.Path.{◌≡◌, refl, sym, ap, ◌∙◌, subst}
use mathlib.Core.Bool.{Bool, true, false}
use mathlib.Core.List.{List, ◌++◌, append_assoc}
use Prim.Native.Nat.{ℕ, zero, suc, ◌+◌, ◌*◌, ◌≤◌, ◌<◌}
use native.Mathlib.Omega.{arith}
use native.Mathlib.Numerals.{add-one}
use lib.Dec.{eqb}
use lib.ListN.{length, get_or, drop, length-append, drop_of_length-le}
use lib.Seq.{drop-cons}
use borrow.Author.Tests.{eqb-true, eqb-false}
use Rattle.rules.specs.Lines.{Kind}
use Rattle.rules.specs.Write.{line_bits, rows_in}
use Rattle.rules.specs.WriteGroup3.{Layout, k_of, kind_next, left_next, coded_lines, ahead, ending, framed, page3_bits}
use Rattle.rules.proofs.Ascending.{rises-length}
use Rattle.writer.specs.Putting.{Room, Puts}
use Rattle.writer.specs.Coding.{Rowed}
use Rattle.writer.specs.Paging.{Sheet, Pages}
use Rattle.writer.specs.Paging3.{Laid, kind_from, line_from, row3_of, page3_of}
use Rattle.writer.proofs.Owing.{owes-last}
use Rattle.row_store.proofs.GoodRows.{row_to}
use Rattle.writer.proofs.Bounds.{kind-few, ahead-few, end-few}
use Rattle.writer.proofs.AtRows.{tested}
use Rattle.writer.proofs.BetweenRows.{Between, before-rows, row_fits, too_long, row-behind, page-is}

-- a 1D line where no 2D line may come
kind-is : (left : ℕ) (single : Bool) (above : List ℕ) → single ≡ eqb left 0 → kind_next left above ≡ kind_from single above
kind-is zero true above e = refl
kind-is zero false above e = absurd (eqb-false 0 0 (sym e) refl)
kind-is (suc left) true above e = absurd (omega (arith, eqb-true (suc left) 0 (sym e)))
kind-is (suc left) false above e = refl

-- ---- Between two rows

module _ (layout : Layout) where
  -- what is left: the lines of these rows, with what stands before each, and the end
  abbrev pub lines_left : ℕ → ℕ → List ℕ → List (List ℕ) → List Bool
  lines_left width left above rows = framed layout (coded_lines width (k_of layout) left above rows)

  module _ (width left : ℕ) (changes ends : List ℕ) (from base k : ℕ) where
    -- a line comes first of what is left, with what stands before it,
    pub line_first : k < length ends → (single : Bool) → single ≡ eqb left 0 → lines_left width left (row_to changes from base) (rows_in base changes (drop k ends))
        ≡ row3_of layout width single (row_to changes from base) (row_to changes base (get_or ends k 0))
        ++ lines_left width (left_next (k_of layout) left) (row_to changes base (get_or ends k 0)) (rows_in (get_or ends k 0) changes (drop (k + 1) ends))
    unfolding coded_lines framed rows_in
    line_first h single due =
        ap (λ (l : List ℕ). lines_left width left above (rows_in base changes l)) (drop-cons ends k 0 h)
        ∙ ap (λ (kind : Kind). ahead layout kind ++ (line_bits width kind row ++ later)) (kind-is left single above due)
        ∙ sym (append_assoc (ahead layout (kind_from single above)) (line_from width single above row) later)
        ∙ rw (add-one k)
      where
        above : List ℕ
        above = row_to changes from base

        row : List ℕ
        row = row_to changes base (get_or ends k 0)

        later : List Bool
        later = lines_left width (left_next (k_of layout) left) row (rows_in (get_or ends k 0) changes (drop (suc k) ends))

    -- and behind the last line the end
    pub end-last : length ends ≤ k → lines_left width left (row_to changes from base) (rows_in base changes (drop k ends)) ≡ ending layout
    unfolding coded_lines framed rows_in
    end-last h = ap (λ (l : List ℕ). lines_left width left (row_to changes from base) (rows_in base changes l)) (drop_of_length-le ends h)

  abbrev pub Paging3 : Bool → ℕ → List ℕ → List ℕ → List ℕ → ℕ → ℕ → ℕ → ℕ → ℕ → List ℕ → Type 0
  Paging3 write width changes ends start next from base k left out =
      Between write width changes ends start (page3_of layout width changes ends) next from base k
      (lines_left width left (row_to changes from base) (rows_in base changes (drop k ends))) out

  -- before the first, under a white row
  pub begin3 : {write : Bool} {width : ℕ} (changes ends : List ℕ) {bytes : ℕ} (out : List ℕ) → Sheet write width changes ends (page3_of layout width changes ends) bytes
      → Paging3 write width changes ends out 0 0 0 0 0 out
  unfolding page3_bits
  begin3 changes ends out s = before-rows out s

  module _ (laid : Laid layout) {write : Bool} {width : ℕ} {changes ends start : List ℕ} {next from base k : ℕ} (left : ℕ) {out : List ℕ}
      (g : Paging3 write width changes ends start next from base k left out) (s : Sheet write width changes ends (page3_of layout width changes ends) (length start)) where
    -- ---- A row

    module _ (h : k < length ends) (single : Bool) (due : single ≡ eqb left 0) where
      -- it, its bits, and the bits of the others
      abbrev above : List ℕ
      above = row_to changes from base

      abbrev row : List ℕ
      row = row_to changes base (get_or ends k 0)

      abbrev this : List Bool
      this = row3_of layout width single above row

      abbrev others : List Bool
      others = lines_left width (left_next (k_of layout) left) row (rows_in (get_or ends k 0) changes (drop (k + 1) ends))

      -- it can be put,
      pub row_room : Rowed write width above row this next (length out)
      row_room =
          let t = tested g.rows h in
          record {
            wide = s.wide;
            narrow = s.narrow;
            rises = g.rows.rises;
            rises' = t.rises;
            room = row_fits g s h this others (line_first width left changes ends from base k h single due) (omega (
              arith,
              length-append (ahead layout (kind_from single above)) (line_from width single above row),
              ahead-few layout laid (kind_from single above),
              kind-few width single above row g.rows.rises t.rises,
              rises-length (omega arith) g.rows.rises,
              rises-length (omega arith) t.rises,
              s.narrow,
            ));
          }

      module _ {r : ℕ} {out' : List ℕ} (p : Puts write next this out r out') where
        -- and then the page does not fit,
        pub row-over : 8 * length out' < r → Pages write (page3_of layout width changes ends) start r out'
        row-over l = too_long g s h this others (line_first width left changes ends from base k h single due) p l

        -- or the others are left
        pub row_next : r ≤ 8 * length out' → (left' : ℕ) → left' ≡ left_next (k_of layout) left → Paging3 write width changes ends start r base (get_or ends k 0) (k + 1) left' out'
        row_next l left' e =
            subst (λ (n : ℕ). Between write width changes ends start (page3_of layout width changes ends) r base (get_or ends k 0) (k + 1)
            (lines_left width n row (rows_in (get_or ends k 0) changes (drop (k + 1) ends))) out')
            (sym e) (row-behind g s h this others (line_first width left changes ends from base k h single due) p l)

    -- ---- The end

    module _ (h : length ends ≤ k) where
      -- it can be put,
      pub end-room : Room write next (length (ending layout)) (length out)
      end-room = record {
        countable = omega (arith, g.inside, s.small, end-few layout laid);
        inside = λ w. omega (arith, s.inside w, g.owes.count, g.owes.size, ap length (end-last width left changes ends from base k h));
      }

      -- and then all is
      pub ended : {r : ℕ} {out' : List ℕ} → Puts write next (ending layout) out r out' → Pages write (page3_of layout width changes ends) start r out'
      ended q = page-is (owes-last g.owes (ending layout) (end-last width left changes ends from base k h) q)
