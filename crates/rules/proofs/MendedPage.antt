-- A page whose lines may be bad, 1D or tagged (02 A13): a row for each line; and where a line arrived whole, its own row, if it is 1D or the row before it is the one that was sent.
-- Assumes nothing.
use mathlib.Core.Path.{◌≡◌, refl, sym, ap, ◌∙◌, subst}
use mathlib.Core.Bool.{Bool, true, false, true≢false}
use mathlib.Core.List.{List, [], ◌∷◌, ◌++◌, append_assoc}
use Prim.Native.Nat.{ℕ, suc, ◌+◌, ◌-◌, ◌*◌, ◌≤◌, ◌<◌}
use native.Mathlib.Omega.{arith}
use native.Mathlib.Nat.{suc-mul}
use lib.ListN.{length, drop, replicate, length-append, length-drop}
use borrow.Author.Tests.{ne_eqb}
use Rattle.rules.specs.Lines.{Rules, Line, went, Kind, one, two, read_line}
use Rattle.rules.specs.Eols.{zero_run, Eols, eols_to, read_eols, all_eols}
use Rattle.rules.specs.Group3.{Tagging, untagged, tagged, with_tags, eols3, at_end, before, row_from, row3}
use Rattle.rules.specs.Rows.{Settings, State, page_start, read_mark, RowOut, rules_of, finished}
use Rattle.rules.specs.Pages.{Answer, read_page}
use Rattle.rules.specs.Write.{line_bits, eol_bits}
use Rattle.rules.specs.WriteGroup3.{times}
use Rattle.rules.specs.Damage2D.{Arrived2D, own_2d, other_2d, sent_row, arrived_tag, arrived_bits_2d, SparedTo1D, no_lines, unchanged_1_d, unchanged_2_d, under_lost, bad_line}
use Rattle.rules.proofs.Bits.{drop-after}
use Rattle.rules.specs.Rising.{Rising, none as no-changes}
use Rattle.rules.proofs.Ascending.{rises-length}
use Rattle.rules.proofs.ReadBack.{Proper, read-line}
use Rattle.rules.proofs.MoreRoom.{page-stays}
use Rattle.rules.proofs.Eols.{eol-inside}
use Rattle.rules.proofs.PageBack.{Soon, one-eol, Given, page-ends, row-given, given-page}
use Rattle.rules.proofs.EolChains.{Chain, no_more, eol-then, soon-quiet, chain-all, eol-long, after-bit, fill-eol, fill-after, eols-chain, eols-least, tags-chain, tags-least}
use Rattle.rules.proofs.Group3Back.{rows_are}
use Rattle.rules.proofs.NextEol.{here, Facing}
use Rattle.rules.proofs.Mending.{Mends, tag_bits, codes_from, kind_read, Told, Fit, May, MayAll, none_left, and-then, Stops, StopAll, none-goes, stops-and, sent-rises, to-line, to_end, may-fit, Rowed, read-piece}

-- what a row, with its mark, must be, read under a reference, where the line was coded under the row sent before it
abbrev Fits : (reference above : List ℕ) → Arrived2D → List ℕ → ℕ → Type 0
Fits reference above (own_2d true r) x mark = (x ≡ r) × (mark ≡ 0)
Fits reference above (own_2d false r) x mark = reference ≡ above → (x ≡ r) × (mark ≡ 0)
Fits reference above (other_2d r tag bits) x mark = Unit {0}

-- what stands behind the first EOL of the page's end
abbrev pub end_bits : Tagging → List Bool
end_bits untagged = times 5 eol_bits
end_bits tagged = true ∷ times 5 (eol_bits ++ true ∷ [])

end-long : (t : Tagging) → 6 < length (end_bits t)
unfolding times eol_bits
end-long untagged = omega arith
end-long tagged = omega arith

-- the row before the next line is the one that was sent, unless it is lost
abbrev pub lost_after : Bool → Arrived2D → Bool
lost_after lost (own_2d true r) = false
lost_after lost (own_2d false r) = lost
lost_after lost (other_2d r tag bits) = true

-- one line more before a page
pub front-on : (fill : ℕ) (bits page rest later : List Bool) → page ++ rest ≡ later
    → (replicate fill false ++ (eol_bits ++ (bits ++ page))) ++ rest ≡ replicate fill false ++ (eol_bits ++ (bits ++ later))
front-on fill bits page rest later q =
    let r : (replicate fill false ++ (eol_bits ++ (bits ++ page))) ++ rest ≡ replicate fill false ++ (eol_bits ++ (bits ++ (page ++ rest))) = simp append_assoc in
    r ∙ ap (λ (l : List Bool). replicate fill false ++ (eol_bits ++ (bits ++ l))) q

-- what stands behind the next EOL, under the row that was sent last
module _ (width : ℕ) (t : Tagging) (fill : ℕ) where
  unfoldable pub Behind : List ℕ → List Arrived2D → List Bool → List Bool
  Behind above [] rest = end_bits t ++ rest
  Behind above (l ∷ ls) rest = (tag_bits t (arrived_tag l) ++ arrived_bits_2d width above l) ++ (replicate fill false ++ (eol_bits ++ Behind (sent_row l) ls rest))

  -- a page has no more lines than bits
  lines-few : (above : List ℕ) (ls : List Arrived2D) (rest : List Bool) → length ls ≤ length (Behind above ls rest)
  unfolding Behind
  lines-few above [] rest = omega arith
  lines-few above (l ∷ ls) rest =
      let P = tag_bits t (arrived_tag l) ++ arrived_bits_2d width above l in
      let later = Behind (sent_row l) ls rest in
      omega (arith, length-append P (replicate fill false ++ (eol_bits ++ later)), length-append (replicate fill false) (eol_bits ++ later), length-append eol_bits later, eol-long, lines-few (sent_row l) ls rest)

module _ (t : Tagging) (S : Settings) (n : ℕ) (rest : List Bool) (mending : Mends t S n rest) (fill : ℕ) where
  abbrev W : ℕ
  W = S.columns

  module _ (bs : List Bool) where
    -- what holds between rows, of which these are to come
    record Stands (lost : Bool) (st : State) (e : ℕ) (above : List ℕ) (ls : List Arrived2D) : Type 0 where
      facing : Facing bs st.at e
      first : st.count ≡ 0 → facing.start ≡ st.at
      expected : 0 < st.count → st.eols ≡ true
      counted : st.count + length ls ≡ n
      there : drop e bs ≡ Behind W t fill above ls rest
      rises : Rising W 0 above
      known : lost ≡ false → st.reference ≡ above

    -- the EOLs of the end: six, and more where such follow
    record Six (at : ℕ) : Type 0 where
      more-than : ℕ
      to : ℕ
      read : eols3 bs t at ≡ eols_to (suc more-than) to
      six : 5 ≤ more-than
      nothing : rest ≡ [] → length bs ≤ to

    six-read : (st : State) (e : ℕ) (f : Facing bs st.at e) → drop e bs ≡ end_bits t ++ rest → Six f.start
    unfolding zero_run times
    six-read st e f there = record {
      more-than = count - 1;
      to = (eols3 bs t f.start).at;
      read = ap (λ (n : ℕ). eols_to n (eols3 bs t f.start).at) (let q : count ≡ suc (count - 1) = omega (arith, least t there) in q);
      six = omega (arith, least t there);
      nothing = λ z. last t z there;
    }
      where
        count : ℕ
        count = (eols3 bs t f.start).count

        -- how many bits there are
        size : (t : Tagging) → drop e bs ≡ end_bits t ++ rest → (6 < length bs) × (length bs ≡ e + (length (end_bits t) + length rest))
        size t there =
            let q : length bs ≡ e + (length (end_bits t) + length rest) = omega (arith, eol-inside bs f.start f.eol, f.to, length-drop e bs, ap length there, length-append (end_bits t) rest, end-long t) in
            (omega (arith, q, end-long t), q)

        one-read : drop e bs ≡ end_bits tagged ++ rest → all_eols bs f.start ≡ eols_to 1 e
        one-read there = chain-all (subst (Chain bs 1 f.start) f.to (eol-then f.eol (no_more (soon-quiet bs _ (subst (λ (a : ℕ). Soon 10 (drop a bs)) (sym f.to) (0, ap zero_run there, omega arith))))))

        least : (t : Tagging) → drop e bs ≡ end_bits t ++ rest → 6 ≤ (eols3 bs t f.start).count
        least untagged there =
            let m = length bs - 1 in
            omega (
              arith,
              ap (λ (n : ℕ). (read_eols n bs f.start).count) (let q : length bs ≡ suc m = omega (arith, (size untagged there).0, (size untagged there).1) in q),
              ap (λ (x : Eols). x.count) (one-eol m bs f.start f.eol.zeros f.eol.run f.eol.many),
              ap (λ (a : ℕ). (read_eols m bs a).count) f.to,
              eols-least bs 5 e rest there m (omega (arith, (size untagged there).0, (size untagged there).1)),
            )
        least tagged there =
            omega (arith, ap (λ (x : Eols). (with_tags bs tagged x).count) (one-read there), tags-least bs (length bs) 5 1 e rest there (omega (arith, (size tagged there).0, (size tagged there).1)))

        last : (t : Tagging) → rest ≡ [] → drop e bs ≡ end_bits t ++ rest → length bs ≤ (eols3 bs t f.start).at
        last untagged z there =
            omega (
              arith,
              ap length z,
              (size untagged there).1,
              ap (λ (x : Eols). x.at) (chain-all (eol-then f.eol (subst (λ (a : ℕ). Chain bs 5 a (e + length (times 5 eol_bits))) (sym f.to) (eols-chain bs 5 e rest there (ap zero_run z))))),
            )
        last tagged z there =
            omega (
              arith,
              ap length z,
              (size tagged there).1,
              ap (λ (x : Eols). x.at) (ap (with_tags bs tagged) (one-read there) ∙ tags-chain bs (length bs) 5 1 e rest there (ap zero_run z) (omega (arith, (size tagged there).0, (size tagged there).1)) (omega arith)),
            )

    -- the end of the page
    row_ends : (room : ℕ) (lost : Bool) (st : State) (e : ℕ) (above : List ℕ) → 0 < n → Stands lost st e above [] → (a : ℕ) × (row3 S t bs room st ≡ finished a)
    unfolding Behind row3
    row_ends room lost st e above some-rows h =
        (r.0, ap (λ (b : Bool). row_from S t bs room st (before S t bs st b)) (ne_eqb st.count 0 (λ z. omega arith)) ∙ ap (row_from S t bs room st) r.1)
      where
        some_read : 0 < st.count
        some_read = omega (arith, h.counted)

        r : (a : ℕ) × (before S t bs st false ≡ at_end a)
        r =
            let s = six-read st e h.facing h.there in
            to_end t S n rest mending bs st s.more-than s.to h.facing (h.expected some_read) some_read (omega (arith, h.counted)) s.six s.read s.nothing

    module _ (room : ℕ) (roomy : W ≤ room) (lost : Bool) (st : State) (e : ℕ) (above : List ℕ) (l : Arrived2D) (ls : List Arrived2D)
        (may : May t W l) (stops : Stops t S fill l) (h : Stands lost st e above (l ∷ ls)) where
      abbrev later : List Bool
      later = Behind W t fill (sent_row l) ls rest

      abbrev R : Rules
      R = rules_of S room

      -- the bit behind the next EOL
      abbrev e' : ℕ
      e' = e + length (tag_bits t (arrived_tag l) ++ arrived_bits_2d W above l) + (fill + 12)

      fit : Fit t (arrived_tag l) (arrived_bits_2d W above l)
      fit = may-fit t S n rest mending bs fill above h.rises l may

      stands-there : drop e bs ≡ (tag_bits t (arrived_tag l) ++ arrived_bits_2d W above l) ++ (replicate fill false ++ (eol_bits ++ later))
      unfolding Behind
      stands-there = h.there

      -- a row
      row_goes : Rowed t S n rest mending bs fill R st (kind_read t (arrived_tag l) st.reference) (codes_from t e) e' (row3 S t bs room st)
      unfolding row3
      row_goes =
          subst (Rowed t S n rest mending bs fill R st (kind_read t (arrived_tag l) st.reference) (codes_from t e) e')
          (sym (ap (row_from S t bs room st) (to-line t S n rest mending bs st h.facing h.first h.expected (omega (arith, h.counted)) (arrived_tag l) (arrived_bits_2d W above l) _ fit stands-there)))
          (read-piece t S n rest mending bs fill room roomy st e later (arrived_tag l) (arrived_bits_2d W above l) fit stands-there
          (stops bs room above st.reference e later roomy h.rises stands-there))

      -- its own, where the line is whole and its reference the one that was sent
      row_fits : Fits st.reference above l row_goes.given row_goes.mark
      row_fits = by l may _ stands-there row_goes.same
        where
          x : List ℕ
          x = row_goes.given

          m : ℕ
          m = row_goes.mark

          -- a whole line of a kind is read
          reads : (kind : Kind) → Proper W kind → (r : List ℕ) → Rising W 0 r → (rest : List Bool) (at : ℕ) → drop at bs ≡ line_bits W kind r ++ rest
              → ((u : Line) → read_line R kind bs at ≡ went u → (x ≡ u.changes) × (m ≡ read_mark u)) → (x ≡ r) × (m ≡ 0)
          reads kind proper r up rest at there same =
              same _ (read-line R mending.wide mending.narrow kind proper r up (omega (arith, rises-length {width = W} (omega arith) up)) bs rest at there).1

          by : (l : Arrived2D) → May t W l → (rest : List Bool) → drop e bs ≡ (tag_bits t (arrived_tag l) ++ arrived_bits_2d W above l) ++ rest
              → ((u : Line) → read_line R (kind_read t (arrived_tag l) st.reference) bs (codes_from t e) ≡ went u → (x ≡ u.changes) × (m ≡ read_mark u)) → Fits st.reference above l x m
          by (own_2d true r) (told, up) rest there same = tagging t there same
            where
              tagging : (t : Tagging) → drop e bs ≡ (tag_bits t true ++ line_bits W one r) ++ rest
                  → ((u : Line) → read_line R (kind_read t true st.reference) bs (codes_from t e) ≡ went u → (x ≡ u.changes) × (m ≡ read_mark u)) → (x ≡ r) × (m ≡ 0)
              tagging untagged there same = reads one tt r up rest e there same
              tagging tagged there same = reads one tt r up rest (suc e) (after-bit bs e true _ there) same
          by (own_2d false r) (told, up) rest there same = tagging t told there same
            where
              tagging : (t : Tagging) → Told t false → drop e bs ≡ (tag_bits t false ++ line_bits W (two above) r) ++ rest
                  → ((u : Line) → read_line R (kind_read t false st.reference) bs (codes_from t e) ≡ went u → (x ≡ u.changes) × (m ≡ read_mark u)) → st.reference ≡ above → (x ≡ r) × (m ≡ 0)
              tagging untagged told there same q = absurd (true≢false (sym told))
              tagging tagged told there same q =
                  reads (two st.reference) (subst (Rising W 0) (sym q) h.rises) r up rest (suc e)
                  (after-bit bs e false _ there ∙ ap (λ (a : List ℕ). line_bits W (two a) r ++ rest) (sym q)) same
          by (other_2d r tag bits) may rest there same = tt

    -- a row for each line, its own where the line is, and the end
    record Mended (room : ℕ) (lost : Bool) (st : State) (ls : List Arrived2D) : Type 0 where
      rows : List (List ℕ)
      marks : List ℕ
      at : ℕ
      given : Given (row3 S t bs) room st rows marks at
      spared : SparedTo1D lost ls rows marks

    -- whether the row is the one that was sent
    spared-on : (lost : Bool) {reference above x : List ℕ} {m : ℕ} (l : Arrived2D) {ls : List Arrived2D} {xs : List (List ℕ)} {ms : List ℕ} → Fits reference above l x m → (lost ≡ false → reference ≡ above)
        → SparedTo1D (lost_after lost l) ls xs ms → SparedTo1D lost (l ∷ ls) (x ∷ xs) (m ∷ ms)
    spared-on lost (own_2d true r) f k s = rw (f.0, f.1) (unchanged_1_d s)
    spared-on false (own_2d false r) f k s = rw ((f (k refl)).0, (f (k refl)).1) (unchanged_2_d s)
    spared-on true (own_2d false r) f k s = under_lost s
    spared-on lost (other_2d r tag bits) f k s = bad_line s

    known_on : (lost : Bool) {reference above x : List ℕ} (m : ℕ) (l : Arrived2D) → Fits reference above l x m → (lost ≡ false → reference ≡ above) → lost_after lost l ≡ false → x ≡ sent_row l
    known_on lost m (own_2d true r) f k q = f.0
    known_on lost m (own_2d false r) f k q = (f (k q)).0
    known_on lost m (other_2d r tag bits) f k q = absurd (true≢false q)

    arrived-rows : (ls : List Arrived2D) (room : ℕ) (lost : Bool) (st : State) (e : ℕ) (above : List ℕ) → 0 < n → MayAll t W ls → StopAll t S fill ls → length ls * W ≤ room
        → Stands lost st e above ls → Mended room lost st ls
    unfolding Behind
    arrived-rows [] room lost st e above some-rows none_left none-goes roomy h =
        let r = row_ends room lost st e above some-rows h in
        record { rows = []; marks = []; at = r.0; given = page-ends r.1; spared = no_lines }
    arrived-rows (l ∷ ls) room lost st e above some-rows (and-then may mays) (stops-and stops all) roomy h =
        let m = arrived-rows ls (room - length r.given) (lost_after lost l) r.after e'' (sent_row l) some-rows mays all (omega (arith, enough, r.short)) stands in
        record {
          rows = r.given ∷ m.rows;
          marks = r.mark ∷ m.marks;
          at = m.at;
          given = row-given r.is m.given;
          spared = spared-on lost l fits h.known m.spared;
        }
      where
        e'' : ℕ
        e'' = e + length (tag_bits t (arrived_tag l) ++ arrived_bits_2d W above l) + (fill + 12)

        enough : W + length ls * W ≤ room
        enough = omega (arith, suc-mul (length ls) W)

        r : Rowed t S n rest mending bs fill (rules_of S room) st (kind_read t (arrived_tag l) st.reference) (codes_from t e) e'' (row3 S t bs room st)
        r = row_goes room (omega (arith, enough)) lost st e above l ls may stops h

        fits : Fits st.reference above l r.given r.mark
        fits = row_fits room (omega (arith, enough)) lost st e above l ls may stops h

        stands : Stands (lost_after lost l) r.after e'' (sent_row l) ls
        stands = record {
          facing = r.facing;
          first = λ z. absurd (omega (arith, r.counted));
          expected = λ _. r.expected;
          counted = omega (arith, h.counted, r.counted);
          there = fill-after bs fill (e + length (tag_bits t (arrived_tag l) ++ arrived_bits_2d W above l)) (Behind W t fill (sent_row l) ls rest)
              (drop-after bs (tag_bits t (arrived_tag l) ++ arrived_bits_2d W above l) (replicate fill false ++ (eol_bits ++ Behind W t fill (sent_row l) ls rest)) e h.there);
          rises = sent-rises t W l may;
          known = λ q. r.reference ∙ known_on lost r.mark l fits h.known q;
        }

-- ---- The page

-- a row for each line
pub spared-count : {lost : Bool} {ls : List Arrived2D} {rows : List (List ℕ)} {marks : List ℕ} → SparedTo1D lost ls rows marks → length rows ≡ length ls
spared-count no_lines = refl
spared-count (unchanged_1_d s) = ap suc (spared-count s)
spared-count (unchanged_2_d s) = ap suc (spared-count s)
spared-count (under_lost s) = ap suc (spared-count s)
spared-count (bad_line s) = ap suc (spared-count s)

module _ (t : Tagging) (S : Settings) (fill : ℕ) (rest : List Bool)
    (ls : List Arrived2D) (some_lines : 0 < length ls) (mays : MayAll t S.columns ls) (stops : StopAll t S fill ls) (mending : Mends t S (length ls) rest)
    (bs : List Bool) (page : bs ≡ replicate fill false ++ (eol_bits ++ Behind S.columns t fill [] ls rest)) where
  abbrev pub Done : Answer → Type 0
  Done a = (a.number ≡ 0) × SparedTo1D false ls a.rows a.marks

  -- Any lines of a page may be bad: with room for its lines it gives a row for each.
  pub mended-page : (store places : ℕ) → length ls * S.columns ≤ store → length ls ≤ places → Done (read_page S bs store places)
  mended-page store places roomy placed =
      subst Done
      (sym (given-page S bs store places (subst (λ (f : ℕ → State → RowOut). Given f store page_start m.rows m.marks m.at) (sym (rows_are S t mending.encoded bs)) m.given)
      (omega (arith, as_many)) (omega (arith, as_many, few))))
      (refl, m.spared)
    where
      tail' : List Bool
      tail' = Behind S.columns t fill [] ls rest

      m : Mended t S (length ls) rest mending fill bs store false page_start ls
      m = arrived-rows t S (length ls) rest mending fill bs ls store false page_start (0 + (fill + 12)) [] some_lines mays stops roomy (record {
        facing = record { start = 0; past = here; eol = fill-eol bs fill 0 tail' page; to = omega arith };
        first = λ _. refl;
        expected = λ h. absurd (omega arith);
        counted = omega arith;
        there = fill-after bs fill 0 tail' page;
        rises = no-changes;
        known = λ _. refl;
      })

      as_many : length m.rows ≡ length ls
      as_many = spared-count m.spared

      few : length ls ≤ length bs
      few = omega (arith, ap length page, length-append (replicate fill false) (eol_bits ++ tail'), length-append eol_bits tail', lines-few S.columns t fill [] ls rest)

  -- and so with any room that was enough, where the answer is neither 4 nor 5
  pub mended-page-room : (store places : ℕ) → (read_page S bs store places).number ≤ 3 → Done (read_page S bs store places)
  mended-page-room store places h =
      subst Done
      (page-stays S store (store + length ls * S.columns) places (places + length ls) (omega arith) (omega arith) bs h)
      (mended-page (store + length ls * S.columns) (places + length ls) (omega arith) (omega arith))
