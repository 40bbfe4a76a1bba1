-- A Group 3 page that is met, row by row; its K is found on the way. Assumes nothing.
use mathlib.Core.Path.{◌≡◌, refl, sym, ap, ◌∙◌, subst}
use mathlib.Core.Bool.{Bool, true, false, true≢false}
use mathlib.Core.List.{List, [], ◌∷◌, ◌++◌, append_assoc}
use Prim.Native.Nat.{ℕ, ◌+◌, ◌≤◌, ◌<◌}
use native.Mathlib.Omega.{arith}
use native.Mathlib.Numerals.{add-one}
use lib.ListN.{length, drop, get_or, length-append}
use lib.Seq.{drop-cons, drop-drop}
use Rattle.rules.specs.Bits.{bits_of, front_bit}
use Rattle.rules.specs.Lookup.{begins}
use Rattle.rules.specs.Lines.{Kind}
use Rattle.rules.specs.Write.{line_bits, eol_bits, rows_in}
use Rattle.rules.specs.WriteGroup3.{Layout, bare, filled, mixed, k_of, left_next, ending, page3_bits}
use Rattle.rules.specs.Proper.{kind_by, tags_along, k_by}
use Rattle.row_store.proofs.GoodRows.{row_to}
use Rattle.writer.specs.declared.kinds.Turned.{Turned}
use Rattle.writer.specs.Paging3.{kind_from, line_from, row3_of}
use Rattle.writer.specs.Meeting.{Met, Meets, Facing, Facings}
use Rattle.writer.specs.Meeting3.{found_in, found_page, every_of, turn_of}
use Rattle.writer.proofs.AtRows.{AtRow, first-row, tested, next_row}
use Rattle.writer.proofs.Row3Laws.{ahead-mixed}
use Rattle.writer.proofs.Page3Loop.{lines_left, line_first, end-last}
use Rattle.writer.proofs.KindsLaws.{first, Kinds, k_under, TurnsTo, turns-to, kinds-as, lines-few}
use Rattle.writer.proofs.Leaving.{Left, shared-all, begins-on, left-all, left-last, left-parts, left-on, meets-as}

-- ---- The tag bit of a line that is met

-- the bit behind bits that are there
bit-behind : (xs ys : List Bool) (b : Bool) (bs : List Bool) → begins (xs ++ (b ∷ ys)) bs ≡ true → begins xs bs ≡ true → front_bit (drop (length xs) bs) ≡ b
unfolding begins
bit-behind xs ys b bs e f = cases b (drop (length xs) bs) (sym (begins-on xs (b ∷ ys) bs f) ∙ e)
  where
    cases : (b : Bool) (cs : List Bool) → begins (b ∷ ys) cs ≡ true → front_bit cs ≡ b
    cases b [] e = absurd (true≢false (sym e))
    cases true (true ∷ cs) e = refl
    cases true (false ∷ cs) e = absurd (true≢false (sym e))
    cases false (true ∷ cs) e = absurd (true≢false (sym e))
    cases false (false ∷ cs) e = refl

-- bits that are there begin with their first
begins-front : (xs ys bs : List Bool) → begins (xs ++ ys) bs ≡ true → begins xs bs ≡ true
unfolding begins
begins-front [] ys bs e = refl
begins-front (x ∷ xs) ys [] e = e
begins-front (true ∷ xs) ys (true ∷ bs) e = begins-front xs ys bs e
begins-front (true ∷ xs) ys (false ∷ bs) e = e
begins-front (false ∷ xs) ys (true ∷ bs) e = e
begins-front (false ∷ xs) ys (false ∷ bs) e = begins-front xs ys bs e

eol-twelve : length eol_bits ≡ 12
unfolding eol_bits
eol-twelve = refl

module _ (width : ℕ) (k : ℕ) (single : Bool) (above row : List ℕ) {bytes : List ℕ} {next : ℕ} {r : Met}
    (m : Meets bytes next (row3_of (mixed k) width single above row) r) (d : r.same ≡ true) where
  abbrev bs : List Bool
  bs = drop next (bits_of bytes)

  abbrev line : List Bool
  line = line_from width single above row

  row_is : row3_of (mixed k) width single above row ≡ eol_bits ++ (single ∷ line)
  row_is = ap (λ (l : List Bool). l ++ line) (ahead-mixed {layout = mixed k} refl single above) ∙ append_assoc eol_bits (single ∷ []) line

  there : begins (eol_bits ++ (single ∷ line)) bs ≡ true
  there = ap (λ (l : List Bool). begins l bs) (sym row_is) ∙ sym m.whole ∙ d

  -- it is the line's kind,
  tag-met : front_bit (drop 12 bs) ≡ single
  tag-met = ap (λ (n : ℕ). front_bit (drop n bs)) (sym eol-twelve) ∙ bit-behind eol_bits line single bs there (begins-front eol_bits (single ∷ line) bs there)

  -- and the line ends where its kind says
  ends_there : next + (13 + length line) ≡ r.at
  ends_there =
      sym (m.place
      ∙ ap (λ (n : ℕ). next + n) (shared-all (row3_of (mixed k) width single above row) bs (sym m.whole ∙ d) ∙ ap length row_is)
      ∙ (let q : next + length (eol_bits ++ (single ∷ line)) ≡ next + (13 + length line) = omega (arith, length-append eol_bits (single ∷ line), eol-twelve) in q))

  -- so the tag bits behind it are those from there on
  pub tags-behind : (rows : List (List ℕ)) → tags_along width (drop (13 + length (line_bits width (kind_by (front_bit (drop 12 bs)) above) row)) bs) row rows ≡ tags_along width (drop r.at (bits_of bytes)) row rows
  tags-behind rows =
      ap (λ (b : Bool). tags_along width (drop (13 + length (line_bits width (kind_by b above) row)) bs) row rows) tag-met
      ∙ ap (λ (kind : Kind). tags_along width (drop (13 + length (line_bits width kind row)) bs) row rows) (kinds single)
      ∙ ap (λ (l : List Bool). tags_along width l row rows) (drop-drop (13 + length line) next (bits_of bytes) ∙ ap (λ (n : ℕ). drop n (bits_of bytes)) ends_there)
    where
      kinds : (b : Bool) → kind_by b above ≡ kind_from b above
      kinds true = refl
      kinds false = refl

-- ---- Between two rows

-- a layout that is found stands around lines as the one that was asked for
module _ (width : ℕ) (bits : List Bool) (rows : List (List ℕ)) where
  found-row : (layout : Layout) (single : Bool) (above row : List ℕ) → row3_of layout width single above row ≡ row3_of (found_in layout width bits rows) width single above row
  found-row bare single above row = refl
  found-row (filled fill) single above row = refl
  found-row (mixed k) true above row = refl
  found-row (mixed k) false above row = refl

  found-end : (layout : Layout) → ending layout ≡ ending (found_in layout width bits rows)
  found-end bare = refl
  found-end (filled fill) = refl
  found-end (mixed k) = refl

  found-k : (layout : Layout) → k_under layout (k_by (tags_along width bits [] rows)) ≡ k_of (found_in layout width bits rows)
  found-k bare = refl
  found-k (filled fill) = refl
  found-k (mixed k) = refl

module _ (layout : Layout) (width : ℕ) (changes ends bytes : List ℕ) where
  abbrev found : Layout
  found = found_in layout width (bits_of bytes) (rows_in 0 changes ends)

  abbrev K : ℕ
  K = k_by (tags_along width (bits_of bytes) [] (rows_in 0 changes ends))

  -- the tag bits that are left
  abbrev tags_left : ℕ → ℕ → ℕ → ℕ → List Bool
  tags_left next from base k = tags_along width (drop next (bits_of bytes)) (row_to changes from base) (rows_in base changes (drop k ends))

  pub record Turning3 (next from base k every lines : ℕ) : Type 0 where
    pub rows : AtRow width changes ends from base k
    pub more : ℕ
    pub kinds : Kinds layout K (tags_left next from base k) every lines more
    pub left : Left bytes next (lines_left found width more (row_to changes from base) (rows_in base changes (drop k ends))) 0 (found_page layout width changes ends bytes)

  -- before the first, under a white row
  pub turn3 : Facings width changes ends bytes → Turning3 0 0 0 0 (every_of layout) 0
  unfolding page3_bits
  turn3 s = record {
    rows = first-row s.good;
    more = 0;
    kinds = starts layout;
    left = left-all _ (record { size = s.small; inside = omega arith });
  }
    where
      starts : (layout : Layout) → Kinds layout K (tags_left 0 0 0 0) (every_of layout) 0 0
      starts bare = (refl, refl, refl)
      starts (filled fill) = (refl, refl, refl)
      starts (mixed k) = first refl refl refl refl

  module _ {next from base k every lines : ℕ} (g : Turning3 next from base k every lines) (s : Facings width changes ends bytes) where
    -- before K is known, no more lines came than it can be
    pub lines-held : every ≡ 0 → lines ≤ 65535
    lines-held = lines-few layout K (tags_left next from base k) every lines g.more g.kinds

    -- ---- A row

    module _ (h : k < length ends) where
      abbrev above : List ℕ
      above = row_to changes from base

      abbrev row : List ℕ
      row = row_to changes base (get_or ends k 0)

      abbrev later : List (List ℕ)
      later = rows_in (get_or ends k 0) changes (drop (k + 1) ends)

      pub row-faces : Facing width above row
      row-faces = record { wide = s.wide; narrow = s.narrow; rises = g.rows.rises; rises' = (tested g.rows h).rises }

      abbrev tag : Bool
      tag = front_bit (drop 12 (drop next (bits_of bytes)))

      abbrev tags : List Bool
      tags = tags_along width (drop (13 + length (line_bits width (kind_by tag above) row)) (drop next (bits_of bytes))) row later

      tags-are : tags_left next from base k ≡ tag ∷ tags
      unfolding tags_along rows_in
      tags-are = ap (λ (l : List ℕ). tags_along width (drop next (bits_of bytes)) above (rows_in base changes l)) (drop-cons ends k 0 h) ∙ rw (add-one k)

      module _ {t : Turned} (e : t ≡ turn_of (front_bit (drop (next + 12) (bits_of bytes))) every lines) where
        turned : TurnsTo layout K tags t g.more
        turned =
            subst (λ (t : Turned). TurnsTo layout K tags t g.more) (sym (e ∙ ap (λ (l : List Bool). turn_of (front_bit l) every lines) (sym (drop-drop 12 next (bits_of bytes)))))
            (turns-to layout K tag tags every lines g.more (kinds-as layout K every lines g.more (λ _ _. tags-are) g.kinds))

        abbrev this : List Bool
        this = row3_of layout width t.single above row

        abbrev rest : List Bool
        rest = lines_left found width (left_next (k_of found) g.more) row later

        row-comes : lines_left found width g.more above (rows_in base changes (drop k ends)) ≡ this ++ rest
        row-comes =
            line_first found width g.more changes ends from base k h t.single turned.single
            ∙ ap (λ (l : List Bool). l ++ rest) (sym (found-row width (bits_of bytes) (rows_in 0 changes ends) layout t.single above row))

        module _ {r : Met} (m : Meets bytes next this r) where
          -- it is not met, or it is, and the others are left
          pub row-parts : r.same ≡ false → Meets bytes 0 (found_page layout width changes ends bytes) r
          row-parts = left-parts g.left this rest row-comes m

          pub row_on : r.same ≡ true → Turning3 r.at base (get_or ends k 0) (k + 1) t.every t.left
          row_on d = record {
            rows = next_row g.rows h;
            more = left_next (k_of found) g.more;
            kinds =
                kinds-as layout K t.every t.left (left_next (k_of found) g.more) behind
                (subst (λ (n : ℕ). Kinds layout K tags t.every t.left (left_next n g.more)) (found-k width (bits_of bytes) (rows_in 0 changes ends) layout) turned.next);
            left = left-on g.left this rest row-comes m d;
          }
            where
              behind : (n : ℕ) → layout ≡ mixed n → tags ≡ tags_left r.at base (get_or ends k 0) (k + 1)
              behind n q = tags-behind width n t.single above row (meets-as (ap (λ (l : Layout). row3_of l width t.single above row) q) m) d later

    -- ---- The end

    pub page3-met : length ends ≤ k → {r : Met} → Meets bytes next (ending layout) r → Meets bytes 0 (found_page layout width changes ends bytes) r
    page3-met h =
        left-last g.left (ending layout)
        (end-last found width g.more changes ends from base k h ∙ sym (found-end width (bits_of bytes) (rows_in 0 changes ends) layout))
