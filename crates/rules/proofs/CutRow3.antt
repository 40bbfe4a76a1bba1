-- One row of a 1D page with EOLs that is cut, after any bit (02 A13, carried on): the page's next row; or one that is mended, with no row behind it; or the page's end, and why. Assumes nothing.
use mathlib.Core.Path.{◌≡◌, refl, sym, ap, ap₂, ◌∙◌, subst}
use mathlib.Core.Bool.{Bool, true, false, cond, not, ◌&&◌, ◌||◌, and-false}
use mathlib.Core.List.{List, [], ◌∷◌, ◌++◌, append_assoc, append-nil}
use mathlib.Core.Logic.{◌⊎◌, inl, inr, ⊎_elim}
use mathlib.Core.Option.{none, some}
use Prim.Native.Nat.{ℕ, suc, ◌+◌, ◌≤◌, ◌<◌}
use native.Mathlib.Omega.{arith}
use lib.Dec.{eqb, leb}
use lib.ListN.{length, take, drop, replicate, length-append, length-replicate, length-drop, take-append-drop}
use lib.Seq.{take-append-le, take-append_seam, take-length, drop-append_seam}
use borrow.Author.Tests.{leb-true, leb-false, eqb-true, eqb-false, ne_eqb}
use Rattle.rules.specs.Codes.{Colour}
use Rattle.rules.specs.Lines.{Line, line, Went, went, one, read_line}
use Rattle.rules.specs.Eols.{zero_run, Eols, eols_to, all_eols}
use Rattle.rules.specs.Group3.{untagged, Before, at_line, at_end, leading, check_eob, before, after_line3, row_from, row3}
use Rattle.rules.specs.Rows.{Settings, State, recovered_mark, RowOut, row, stop, rules_of}
use Rattle.rules.specs.Write.{line_bits, eol_bits}
use Rattle.rules.specs.Damage.{no_eol, owns, up_to, all_clean}
use Rattle.rules.specs.Cut.{BetweenLines, CutBefore}
use Rattle.rules.proofs.Agree.{agree-word}
use Rattle.rules.specs.Rising.{Rising, Rows, row_then}
use Rattle.rules.proofs.Lines.{read_whole}
use Rattle.rules.proofs.Local.{read-local}
use Rattle.rules.proofs.Eols.{zeros-inside}
use Rattle.rules.proofs.ReadBack.{read-line}
use Rattle.rules.proofs.MoreRoom.{line-went}
use Rattle.rules.proofs.LessRoom.{Cut, same, short, line-cut}
use Rattle.rules.proofs.PageBack.{Soon, eol-zeros}
use Rattle.rules.proofs.CutPage.{zeros-cut, agrees, bits-cut}
use Rattle.rules.proofs.EolChains.{Quiet, soon-quiet, none-quiet, no_more, chain-all, eol-long, zeros-then, fill-then, fill-after}
use Rattle.rules.proofs.Group3Back.{from, line-begins}
use Rattle.rules.proofs.NextEol.{here}
use Rattle.rules.proofs.MendedPage.{Behind}
use Rattle.rules.proofs.BadLines.{come}
use Rattle.rules.proofs.NoEolInside.{written-no-eol}
use Rattle.rules.proofs.NoLine.{no-line-in-zeros, Bare, bare-bits, no-eol-first}
use Rattle.rules.proofs.LostRow.{Unread, Lost, unread-row, lost-row, ToZeros, eols-cut}

-- ---- The bits of some rows

-- one row more
up-to-snoc : (width fill : ℕ) (first : List (List ℕ)) (r : List ℕ)
    → up_to width fill (owns (first ++ r ∷ [])) ≡ up_to width fill (owns first) ++ (line_bits width one r ++ (replicate fill false ++ eol_bits))
unfolding up_to owns
up-to-snoc width fill [] r = refl
up-to-snoc width fill (x ∷ first) r =
    let G = replicate fill false ++ eol_bits in
    let X = line_bits width one x in
    ap (λ (l : List Bool). G ++ (X ++ l)) (up-to-snoc width fill first r)
    ∙ sym (append_assoc G (X ++ up_to width fill (owns first)) _ ∙ ap (λ (l : List Bool). G ++ l) (append_assoc X (up_to width fill (owns first)) _))

-- and clean
pub clean-snoc : (rows : List (List ℕ)) (r : List ℕ) → all_clean rows ++ 0 ∷ [] ≡ all_clean (rows ++ r ∷ [])
clean-snoc [] r = refl
clean-snoc (x ∷ rows) r = ap (λ (l : List ℕ). 0 ∷ l) (clean-snoc rows r)

grouped : (a b c d e : List Bool) → (a ++ ((b ++ c) ++ d)) ++ e ≡ a ++ (b ++ (c ++ (d ++ e)))
grouped a b c d e = simp append_assoc

grouped' : (a b c d : List Bool) → (a ++ (b ++ c)) ++ d ≡ a ++ (b ++ (c ++ d))
grouped' a b c d = simp append_assoc

-- ---- The rows before the cut

module _ (S : Settings) (wide : 0 < S.columns) (narrow : S.columns ≤ 4294967295) (fill : ℕ)
    (rows : List (List ℕ)) (some-rows : 0 < length rows) (counted : (S.rows ≡ 0) ⊎ (S.rows ≡ length rows))
    (all bs cut : List Bool) (first-bits : bs ++ cut ≡ all) (rest : List Bool) (closed : zero_run rest ≡ none) where
  abbrev pub W : ℕ
  W = S.columns

  -- what stands behind the next EOL
  abbrev pub later : List ℕ → List (List ℕ) → List Bool
  later above last = Behind W untagged fill above (come (owns last)) rest

  abbrev pub Between : List (List ℕ) → Type 0
  Between first = BetweenLines W fill first bs

  abbrev pub Before-end : List (List ℕ) → List (List ℕ) → Type 0
  Before-end first last = CutBefore W fill first last bs

  -- some rows are read, and some are to come; the reader stands behind the last line
  pub record At (st : State) (above : List ℕ) (first last : List (List ℕ)) : Type 0 where
    pub done-bits : List Bool
    pub split : all ≡ done-bits ++ (replicate fill false ++ (eol_bits ++ later above last))
    pub at-is : st.at ≡ length done-bits
    pub reached : st.at ≤ length bs
    pub upto : done-bits ++ (replicate fill false ++ eol_bits) ≡ up_to W fill (owns first)
    pub parts : rows ≡ first ++ last
    pub count-is : st.count ≡ length first
    pub expected : 0 < st.count → st.eols ≡ true
    pub rises : Rows W last

  module _ (room : ℕ) (st : State) (above : List ℕ) (first last : List (List ℕ)) (h : At st above first last) (C : RowOut → Type 0)
      (stops : (n place bytes : ℕ) (loose : List ℕ) → (n ≡ 0 → (last ≡ []) ⊎ Between first) → ((n ≡ 4 → ⊥) → (n ≡ 5 → ⊥) → Before-end first last) → C (stop n place bytes loose))
      (mends : (x : List ℕ) (st' : State) → Lost S wide bs st' → st'.at ≤ length bs → Before-end first last → C (row x recovered_mark st'))
      (goes : (r : List ℕ) (rs : List (List ℕ)) → last ≡ r ∷ rs → (st' : State) → At st' r (first ++ r ∷ []) rs → C (row r 0 st')) where
    abbrev pos : ℕ
    pos = st.at

    -- the bit behind the next EOL
    abbrev e : ℕ
    e = pos + (fill + 12)

    there : drop pos all ≡ replicate fill false ++ (eol_bits ++ later above last)
    there = ap₂ drop h.at-is h.split ∙ drop-append_seam h.done-bits _

    there-e : drop e all ≡ later above last
    there-e = fill-after all fill pos (later above last) there

    size : length (up_to W fill (owns first)) ≡ e
    size = sym (ap length h.upto) ∙ omega (arith, h.at-is, length-append h.done-bits (replicate fill false ++ eol_bits), length-append (replicate fill false) eol_bits, length-replicate fill false, eol-long)

    -- data that ends where some first bits do is these bits
    ends_there : (xs ys : List Bool) → all ≡ xs ++ ys → length bs ≡ length xs → bs ≡ xs
    ends_there xs ys q n =
        sym (take-length bs) ∙ sym (take-append-le (length bs) bs cut (omega arith)) ∙ ap (take (length bs)) (first-bits ∙ q) ∙ ap (λ (i : ℕ). take i (xs ++ ys)) n ∙ take-append_seam xs ys

    -- a fault says that the page is cut
    says : Before-end first last → (n place bytes : ℕ) (loose : List ℕ) → 1 ≤ n → C (stop n place bytes loose)
    says b n place bytes loose k = stops n place bytes loose (λ z. absurd (omega arith)) (λ _ _. b)

    -- the cut fell before the end of the EOL
    before-eol : length bs < e → (last : List (List ℕ)) → Before-end first last
    before-eol k [] = tt
    before-eol k (r ∷ rs) = omega (arith, size)

    -- the rows' number is reached where none is left
    all_there : 0 < st.count → eqb st.count S.rows ≡ true → last ≡ []
    all_there k q = none_left last h.parts counted
      where
        none_left : (last : List (List ℕ)) → rows ≡ first ++ last → (S.rows ≡ 0) ⊎ (S.rows ≡ length rows) → last ≡ []
        none_left last p (inl z) = absurd (omega (arith, eqb-true st.count S.rows q))
        none_left [] p (inr z) = refl
        none_left (r ∷ rs) p (inr z) = absurd (omega (arith, eqb-true st.count S.rows q, h.count-is, ap length p, length-append first (r ∷ rs)))

    -- ---- No EOL is left

    zeros-left : length bs < e → zero_run (drop pos bs) ≡ none
    zeros-left k = ⊎_elim (λ f. f) (λ f. absurd (too_long f)) (zeros-cut (drop pos bs) cut)
      where
        too_long : zero_run (drop pos bs) ≡ zero_run (drop pos bs ++ cut) → ⊥
        too_long f =
            let z : zero_run (drop pos bs) ≡ some (fill + 11) =
            f ∙ ap zero_run (bits-cut all bs cut first-bits pos h.reached ∙ there) ∙ zeros-then fill (eol_bits ++ later above last) 11 (eol-zeros (later above last)) in
            omega (arith, zeros-inside (drop pos bs) (fill + 11) z, length-drop pos bs)

    no-eol-left : length bs < e → C (row3 S untagged bs room st)
    unfolding row3
    no-eol-left k = tests (eqb st.count 0) refl
      where
        none_here : zero_run (drop pos bs) ≡ none
        none_here = zeros-left k

        unread : Unread S wide bs pos
        unread room l q = no-line-in-zeros bs (rules_of S room) wide pos none_here l q

        lost : (st' : State) → st'.at ≡ pos → st'.eols ≡ true → 0 < st'.count → Lost S wide bs st'
        lost st' p x y = record { bare = subst (Bare bs) (sym p) (pos, here, none_here); unread = subst (Unread S wide bs) (sym p) unread; expected = x; some_read = y }

        tests : (b : Bool) → eqb st.count 0 ≡ b → C (row_from S untagged bs room st (before S untagged bs st b))
        tests true q =
            subst (λ (b : Before S untagged bs). C (row_from S untagged bs room st b)) (sym (ap (leading S untagged bs) (none-quiet bs pos none_here (length bs))))
            (unread-row S wide bs room st pos S.end_of_line h.reached unread C (λ n place loose i. says (before-eol k last) n place 0 loose i)
            (λ x r. mends r _ (lost _ refl x (omega arith)) h.reached (before-eol k last)))
        tests false q =
            let some_read : 0 < st.count = omega (arith, eqb-false st.count 0 q) in
            subst (λ (b : Bool). C (row_from S untagged bs room st (before S untagged bs st b))) q
            (lost-row S wide bs room st (lost st refl (h.expected some_read) some_read) h.reached C (ended some_read) (λ n place loose i. says (before-eol k last) n place 0 loose i))
          where
            ended : 0 < st.count → (eqb st.count S.rows ≡ true) ⊎ (length bs ≤ pos) → (bytes : ℕ) → C (stop 0 0 bytes [])
            ended some_read w bytes = stops 0 0 bytes [] (λ _. reason w) (λ _ _. before-eol k last)
              where
                reason : (eqb st.count S.rows ≡ true) ⊎ (length bs ≤ pos) → (last ≡ []) ⊎ Between first
                reason (inl d) = inl (all_there some_read d)
                reason (inr m) =
                    let q : bs ≡ h.done-bits = ends_there h.done-bits _ h.split (omega (arith, h.at-is, h.reached)) in
                    inr (omega (arith, h.count-is), inl (ap (λ (l : List Bool). l ++ (replicate fill false ++ eol_bits)) q ∙ h.upto))

    -- ---- An EOL is left

    module _ (whole-eol : e ≤ length bs) where
      eol-here : drop pos bs ≡ replicate fill false ++ (eol_bits ++ drop e bs)
      eol-here =
          let a = agrees all bs cut first-bits e whole-eol in
          let n : length (replicate fill false ++ eol_bits) ≡ fill + 12 = omega (arith, length-append (replicate fill false) eol_bits, length-replicate fill false, eol-long) in
          agree-word (record { same = sym a.same; long = a.long'; long' = a.long }) pos (replicate fill false ++ eol_bits) (later above last) (omega arith)
          (there ∙ sym (append_assoc (replicate fill false) eol_bits (later above last)))
          ∙ append_assoc (replicate fill false) eol_bits (drop (pos + length (replicate fill false ++ eol_bits)) bs)
          ∙ ap (λ (i : ℕ). replicate fill false ++ (eol_bits ++ drop (pos + i) bs)) n

      -- ---- Behind the last line

      past-last : last ≡ [] → C (row3 S untagged bs room st)
      unfolding row3 Behind come owns
      past-last q =
          subst (λ (b : Before S untagged bs). C (row_from S untagged bs room st b)) (sym is) (tests _ refl)
        where
          z : ToZeros bs e
          z = eols-cut all bs cut first-bits 5 e rest whole-eol (there-e ∙ ap (later above) q) closed

          c : ℕ
          c = z.0

          e' : ℕ
          e' = z.1

          some_read : 0 < st.count
          some_read = omega (arith, h.count-is, ap length (h.parts ∙ ap (λ (l : List (List ℕ)). first ++ l) q ∙ append-nil first))

          ends_at : Bool
          ends_at = (S.end_of_block && leb 6 (suc c)) || (eqb st.count S.rows || leb (length bs) e')

          from-here : from S untagged bs st ≡ pos
          from-here = rw (h.expected some_read, and-false S.aligned)

          is : before S untagged bs st (eqb st.count 0) ≡ cond ends_at (at_end e') (at_line e' st.eols)
          is =
              ap (before S untagged bs st) (ne_eqb st.count 0 (λ y. omega (arith, some_read)))
              ∙ ap (check_eob S untagged bs st (eqb st.count S.rows)) (ap (all_eols bs) from-here ∙ chain-all (fill-then bs fill pos (drop e bs) eol-here z.2))
              ∙ rw (ne_eqb (suc c) 0 (λ y. omega arith))

          nothing_left : Before-end first last
          nothing_left = subst (Before-end first) (sym q) tt

          unread : Unread S wide bs e'
          unread room l g = no-line-in-zeros bs (rules_of S room) wide e' z.3 l g

          tests : (b : Bool) → ends_at ≡ b → C (row_from S untagged bs room st (cond b (at_end e') (at_line e' st.eols)))
          tests true y = stops 0 0 _ [] (λ _. inl q) (λ _ _. nothing_left)
          tests false y =
              unread-row S wide bs room st e' st.eols z.4 unread C (λ n place loose i. says nothing_left n place 0 loose i)
              (λ x r. mends r _ (record { bare = (e', here, z.3); unread = unread; expected = x; some_read = omega arith }) z.4 nothing_left)

      -- ---- A line

      module _ (r : List ℕ) (rs : List (List ℕ)) (q : last ≡ r ∷ rs) where
        abbrev L : List Bool
        L = line_bits W one r

        later-is : later above last ≡ L ++ (replicate fill false ++ (eol_bits ++ later r rs))
        unfolding Behind come owns
        later-is = ap (later above) q

        line-here : drop e all ≡ L ++ (replicate fill false ++ (eol_bits ++ later r rs))
        line-here = there-e ∙ later-is

        up : Rising W 0 r
        up = by (subst (Rows W) q h.rises)
          where
            by : Rows W (r ∷ rs) → Rising W 0 r
            by (row_then x _) = x

        ups : Rows W rs
        ups = by (subst (Rows W) q h.rises)
          where
            by : Rows W (r ∷ rs) → Rows W rs
            by (row_then _ x) = x

        -- with room for it, from all bits, the line is read
        reads : (room : ℕ) → (colour : Colour) × (read_line (rules_of S (room + length r)) one all e ≡ went (line (e + length L) W colour r false))
        reads room = read-line (rules_of S (room + length r)) wide narrow one tt r up (omega arith) all _ e line-here

        -- cut: it is not read, and no EOL is left
        module _ (k : length bs < e + length L) where
          before-end : Before-end first last
          before-end = subst (Before-end first) (sym q) (omega (arith, size))

          unread-cut : Unread S wide bs e
          unread-cut room l g =
              let w = read_whole (rules_of S room) wide one bs e l g in
              let u = read-local (rules_of S room) bs all one e l g (agrees all bs cut first-bits l.at w.inside) in
              let y : l ≡ line (e + length L) W (reads room).0 r false =
              cc (line-went W S.strict S.exact room (room + length r) (omega arith) one all e l u, (reads room).1) in
              omega (arith, w.inside, ap (λ (x : Line). x.at) y)

          bare-cut : Bare bs e
          bare-cut = bare-bits bs e (ap (no_eol 0) part ∙ no-eol-first 0 (take m L) (drop m L) (ap (no_eol 0) (take-append-drop m L) ∙ written-no-eol W wide narrow one tt r up 0 (omega arith)))
            where
              m : ℕ
              m = length (drop e bs)

              part : drop e bs ≡ take m L
              part =
                  sym (take-append_seam (drop e bs) cut) ∙ ap (take m) (bits-cut all bs cut first-bits e whole-eol ∙ line-here)
                  ∙ take-append-le m L _ (omega (arith, length-drop e bs))

          cut_line : C (after_line3 S untagged bs (rules_of S room) st e true (read_line (rules_of S room) one bs e))
          cut_line =
              unread-row S wide bs room st e true whole-eol unread-cut C (λ n place loose i. says before-end n place 0 loose i)
              (λ x y. mends y _ (record { bare = bare-cut; unread = unread-cut; expected = refl; some_read = omega arith }) whole-eol before-end)

        -- whole: it is read, or there is no room for it
        module _ (k : e + length L ≤ length bs) where
          abbrev after : State
          after = record { at = e + length L; reference = r; count = suc st.count; eols = true }

          next-at : At after r (first ++ r ∷ []) rs
          next-at = record {
            done-bits = h.done-bits ++ ((replicate fill false ++ eol_bits) ++ L);
            split = h.split ∙ ap (λ (l : List Bool). h.done-bits ++ (replicate fill false ++ (eol_bits ++ l))) later-is ∙ sym (grouped h.done-bits (replicate fill false) eol_bits L (replicate fill false ++ (eol_bits ++ later r rs)));
            at-is = omega (arith, h.at-is, length-append h.done-bits ((replicate fill false ++ eol_bits) ++ L), length-append (replicate fill false ++ eol_bits) L, length-append (replicate fill false) eol_bits, length-replicate fill false, eol-long);
            reached = k;
            upto =
                grouped h.done-bits (replicate fill false) eol_bits L (replicate fill false ++ eol_bits)
                ∙ sym (grouped' h.done-bits (replicate fill false) eol_bits (L ++ (replicate fill false ++ eol_bits)))
                ∙ ap (λ (l : List Bool). l ++ (L ++ (replicate fill false ++ eol_bits))) h.upto
                ∙ sym (up-to-snoc W fill first r);
            parts = h.parts ∙ ap (λ (l : List (List ℕ)). first ++ l) q ∙ sym (append_assoc first (r ∷ []) rs);
            count-is = omega (arith, h.count-is, length-append first (r ∷ []));
            expected = λ _. refl;
            rises = ups;
          }

          whole-line : C (after_line3 S untagged bs (rules_of S room) st e true (read_line (rules_of S room) one bs e))
          whole-line = cases (line-cut W S.strict S.exact room (room + length r) (omega arith) one bs e) there-too
            where
              there-too : read_line (rules_of S (room + length r)) one bs e ≡ went (line (e + length L) W (reads room).0 r false)
              there-too =
                  let a = agrees all bs cut first-bits (e + length L) k in
                  read-local (rules_of S (room + length r)) all bs one e _ (reads room).1 (record { same = sym a.same; long = a.long'; long' = a.long })

              cases : {v w : Went} → Cut room v w → w ≡ went (line (e + length L) W (reads room).0 r false) → C (after_line3 S untagged bs (rules_of S room) st e true v)
              cases (same f) y = rw y (goes r rs q after next-at)
              cases (short {s = s} f g) y = rw (and-false (not S.strict)) (stops 4 0 0 s.changes (λ z. absurd (omega arith)) (λ no-four _. absurd (no-four refl)))

        the-line : C (after_line3 S untagged bs (rules_of S room) st e true (read_line (rules_of S room) one bs e))
        the-line = tests (leb (e + length L) (length bs)) refl
          where
            tests : (b : Bool) → leb (e + length L) (length bs) ≡ b → C (after_line3 S untagged bs (rules_of S room) st e true (read_line (rules_of S room) one bs e))
            tests true y = whole-line (leb-true (e + length L) (length bs) y)
            tests false y = cut_line (leb-false (e + length L) (length bs) y)

        at-line : C (row3 S untagged bs room st)
        unfolding row3
        at-line = tests (eqb st.count 0) refl
          where
            begins : Soon 7 (L ++ (replicate fill false ++ (eol_bits ++ later r rs)))
            begins = line-begins W wide one r (replicate fill false ++ (eol_bits ++ later r rs))

            quiet : Quiet bs e
            quiet =
                ⊎_elim (none-quiet bs e) (λ f. soon-quiet bs e (begins.0, f ∙ ap zero_run (bits-cut all bs cut first-bits e whole-eol ∙ line-here) ∙ begins.1, omega (arith, begins.2)))
                (zeros-cut (drop e bs) cut)

            one-eol : all_eols bs pos ≡ eols_to 1 e
            one-eol = chain-all (fill-then bs fill pos (drop e bs) eol-here (no_more quiet))

            line_after : (eols : Bool) → eols ≡ true → C (row_from S untagged bs room st (at_line e eols))
            line_after eols x = rw x the-line

            -- the data ends behind the EOL
            ended : 0 < st.count → length bs ≤ e → C (row_from S untagged bs room st (at_end e))
            ended some_read k =
                let y : bs ≡ up_to W fill (owns first) =
                ends_there (h.done-bits ++ (replicate fill false ++ eol_bits)) (later above last) (h.split ∙ sym (grouped' h.done-bits (replicate fill false) eol_bits (later above last))) (omega (arith, ap length h.upto, size))
                ∙ h.upto in
                stops 0 0 _ [] (λ _. inr (omega (arith, h.count-is), inr y)) (λ _ _. subst (Before-end first) (sym q) (omega (arith, size, some_bits)))
              where
                some_bits : 0 < length L
                some_bits =
                    let z = line-begins W wide one r [] in
                    omega (arith, zeros-inside (L ++ []) z.0 z.1, length-append L [])

            later-tests : 0 < st.count → (d : Bool) → eqb st.count S.rows ≡ d → (b : Bool) → leb (length bs) e ≡ b
                → C (row_from S untagged bs room st (cond ((S.end_of_block && false) || (d || b)) (at_end e) (at_line e st.eols)))
            later-tests k true y b z = absurd (let v : ◌≡◌ {A = ℕ} 0 1 = cc (sym (all_there k y) ∙ q) in omega arith)
            later-tests k false y true z = rw (and-false S.end_of_block) (ended k (leb-true (length bs) e z))
            later-tests k false y false z = rw (and-false S.end_of_block) (line_after st.eols (h.expected k))

            tests : (b : Bool) → eqb st.count 0 ≡ b → C (row_from S untagged bs room st (before S untagged bs st b))
            tests true y = subst (λ (b : Before S untagged bs). C (row_from S untagged bs room st b)) (sym (ap (leading S untagged bs) one-eol)) the-line
            tests false y =
                let some_read : 0 < st.count = omega (arith, eqb-false st.count 0 y) in
                let from-here : from S untagged bs st ≡ pos = rw (h.expected some_read, and-false S.aligned) in
                subst (λ (E : Eols). C (row_from S untagged bs room st (check_eob S untagged bs st (eqb st.count S.rows) E))) (sym (ap (all_eols bs) from-here ∙ one-eol))
                (later-tests some_read (eqb st.count S.rows) refl (leb (length bs) e) refl)

    -- A row of a page that is cut: it is the page's next, or mended, with nothing behind it, or the page ends.
    pub cut-row : C (row3 S untagged bs room st)
    cut-row = tests (leb e (length bs)) refl
      where
        kinds : e ≤ length bs → (l : List (List ℕ)) → last ≡ l → C (row3 S untagged bs room st)
        kinds k [] q = past-last k q
        kinds k (r ∷ rs) q = at-line k r rs q

        tests : (b : Bool) → leb e (length bs) ≡ b → C (row3 S untagged bs room st)
        tests true y = kinds (leb-true e (length bs) y) last refl
        tests false y = no-eol-left (leb-false e (length bs) y)
