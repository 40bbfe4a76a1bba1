-- Bad lines between EOLs with fill (02 A13), 1D or tagged: a row for each line, and a line's own row where it arrived whole and the row before it is the one it was coded
-- under. One argument over the tagging. A line that takes no more zeros than the fill leaves an EOL; from wherever it ends, or from its start, the search finds that EOL. With three zeros of fill
-- every line is such: it is bounded by the zeros of the next EOL, of which it takes three at most. Assumes nothing.
use mathlib.Core.Path.{◌≡◌, refl, sym, ap, ap₂, ◌∙◌, subst}
use mathlib.Core.Bool.{Bool, true, false, cond, not, ◌&&◌, ◌||◌, and-false}
use mathlib.Core.List.{List, [], ◌∷◌, ◌++◌}
use mathlib.Core.Logic.{◌⊎◌, inl, inr, ⊎_elim}
use mathlib.Core.Option.{Option, none, some}
use Prim.Native.Nat.{ℕ, suc, ◌+◌, ◌-◌, ◌≤◌, ◌<◌}
use native.Mathlib.Omega.{arith}
use lib.Dec.{eqb, leb}
use lib.ListN.{length, drop, replicate, length-drop}
use borrow.Author.Tests.{lt-ltb, le-leb, lt-leb, eq-eqb, ne_eqb, eqb-true, eqb-false}
use Rattle.rules.specs.Bits.{front_bit}
use Rattle.rules.specs.Lines.{Rules, Line, Went, went, failed, push, Kind, one, read_line}
use Rattle.rules.specs.Eols.{zero_run, eols_to, all_eols, EolAt}
use Rattle.rules.specs.Group3.{Tagging, untagged, tagged, with_tags, eols3, Before, at_line, at_end, leading, judged, searched, missing, checked, check_eob, before, tagged_line, line3, kept, whitened, recovered, after_line3}
use Rattle.rules.specs.Rows.{Settings, State, read_mark, recovered_mark, RowOut, row, rules_of}
use Rattle.rules.specs.Write.{line_bits, eol_bits}
use Rattle.rules.specs.Damage.{found, no_eol, stray}
use Rattle.rules.specs.Damage2D.{Arrived2D, own_2d, other_2d, sent_row, arrived_tag, kind_of, arrived_bits_2d}
use Rattle.rules.specs.Rising.{Rising}
use Rattle.rules.proofs.Ascending.{rises-length}
use Rattle.rules.proofs.Lines.{data-bound, read_whole}
use Rattle.rules.proofs.Barrier.{eol-bound}
use Rattle.rules.proofs.Rows.{line3-damaged, mended}
use Rattle.rules.proofs.ReadBack.{Proper}
use Rattle.rules.proofs.Roomy.{never-four, pushed-full}
use Rattle.rules.proofs.Eols.{zeros-inside, eol-inside}
use Rattle.rules.proofs.PageBack.{Soon, eol-zeros}
use Rattle.rules.proofs.EolChains.{zeros-then, soon-quiet, Chain, no_more, eol-then, chain-all, after-bit, tags-stay}
use Rattle.rules.proofs.Group3Back.{from, ends-rows, encoding_of}
use Rattle.rules.proofs.NextEol.{Towards, here, past_one, towards-ahead, Facing, skips-to, facing-on, Leads, leads, stray-soon}
use Rattle.rules.proofs.NoEolInside.{line_stays, written_one, written-no-eol}

-- ---- Settings

-- the rows do not end the page before its end
abbrev pub NoFewer : ℕ → ℕ → Type 0
NoFewer rows n = (rows ≡ 0) ⊎ (n < rows)

-- lenient Group 3; the true number of rows, or none or more with end_of_block, or with nothing behind the page. End_of_line and alignment do not matter.
pub record Mends (t : Tagging) (S : Settings) (n : ℕ) (rest : List Bool) : Type 0 where
  pub encoded : S.encoding ≡ encoding_of t
  pub lenient : S.strict ≡ false
  pub wide : 0 < S.columns
  pub narrow : S.columns ≤ 4294967295
  pub counted : (S.rows ≡ n) ⊎ (NoFewer S.rows n × ((S.end_of_block ≡ true) ⊎ (rest ≡ [])))

-- ---- What stands between two EOLs

-- a line's tag bit, where there are such, and where its code bits begin
abbrev pub tag_bits : Tagging → Bool → List Bool
tag_bits untagged tag = []
tag_bits tagged tag = tag ∷ []

abbrev pub codes_from : Tagging → ℕ → ℕ
codes_from untagged e = e
codes_from tagged e = suc e

-- as which kind it is read, under a reference
abbrev pub kind_read : Tagging → Bool → List ℕ → Kind
kind_read untagged tag reference = one
kind_read tagged tag reference = kind_of tag reference

-- a one among the code bits, and no EOL, the tag bit counted
abbrev pub Fit : Tagging → Bool → List Bool → Type 0
Fit t tag code = (found (zero_run code) ≡ true) × (no_eol 0 (tag_bits t tag ++ code) ≡ true)

-- where all lines are 1D, so is each
abbrev pub Told : Tagging → Bool → Type 0
Told untagged tag = tag ≡ true
Told tagged tag = Unit {0}

pub fit-stray : (t : Tagging) (tag : Bool) (code : List Bool) → Fit t tag code → stray (tag_bits t tag ++ code) ≡ true
unfolding zero_run
fit-stray untagged tag code (f, q) = rw (f, q)
fit-stray tagged true code (f, q) = q
fit-stray tagged false code (f, q) = rw q (ap (λ (b : Bool). b && true) (one_more (zero_run code) f))
  where
    one_more : (o : Option ℕ) → found o ≡ true → found (elim o as (λ _. Option ℕ) [ none ↦ none | some z ↦ some (suc z) ]) ≡ true
    one_more none h = h
    one_more (some z) h = refl

-- a line that was written fits
own-fit : (width : ℕ) → 0 < width → width ≤ 4294967295 → (t : Tagging) (tag : Bool) → Told t tag
    → (above r : List ℕ) → Rising width 0 above → Rising width 0 r → Fit t tag (line_bits width (kind_of tag above) r)
unfolding no_eol
own-fit width wide narrow t tag told above r up up' = (written_one width wide narrow (kind_of tag above) (proper tag) r up', none_in t tag)
  where
    proper : (tag : Bool) → Proper width (kind_of tag above)
    proper true = tt
    proper false = up

    calm : (tag : Bool) (zeros : ℕ) → zeros ≤ 3 → no_eol zeros (line_bits width (kind_of tag above) r) ≡ true
    calm tag = written-no-eol width wide narrow (kind_of tag above) (proper tag) r up'

    none_in : (t : Tagging) (tag : Bool) → no_eol 0 (tag_bits t tag ++ line_bits width (kind_of tag above) r) ≡ true
    none_in untagged tag = calm tag 0 (omega arith)
    none_in tagged true = calm true 0 (omega arith)
    none_in tagged false = calm false 1 (omega arith)

-- ---- Before a row

no-fewer : (count : ℕ) → 0 < count → {n : ℕ} → count ≤ n → (rows : ℕ) → NoFewer rows n → eqb count rows ≡ false
no-fewer count h k rows (inl y) = ne_eqb count rows (λ z. omega arith)
no-fewer count h k rows (inr y) = ne_eqb count rows (λ z. omega arith)

module _ (t : Tagging) (S : Settings) (n : ℕ) (tail' : List Bool) (mending : Mends t S n tail') (bs : List Bool) (st : State) where
  -- more rows are to come: the reader goes past what is left of the last line, to the EOLs
  meets : {e e' j : ℕ} (f : Facing bs st.at e) → st.eols ≡ true → eqb st.count S.rows ≡ false → eols3 bs t f.start ≡ eols_to (suc j) e'
      → before S t bs st false ≡ judged S t bs false true (eols_to (suc j) e')
  meets {e' = e'} {j = j} f expected q c = by f.past f.eol c
    where
      a : ℕ
      a = st.at

      -- no alignment where EOLs are expected
      from-here : from S t bs st ≡ a
      from-here = rw (expected, and-false S.aligned)

      quiet : (t : Tagging) {z : ℕ} → zero_run (drop a bs) ≡ some z → z ≤ 10 → eols3 bs t a ≡ eols_to 0 a
      quiet t {z} e h = ap (with_tags bs t) (soon-quiet bs a (z, e, h) (length bs)) ∙ none_read t
        where
          none_read : (t : Tagging) → with_tags bs t (eols_to 0 a) ≡ eols_to 0 a
          none_read untagged = refl
          none_read tagged = refl

      by : {p : ℕ} → Towards bs st.at p → EolAt bs p → eols3 bs t p ≡ eols_to (suc j) e' → before S t bs st false ≡ judged S t bs false true (eols_to (suc j) e')
      by here eol c =
          ap₂ (check_eob S t bs st) q (ap (eols3 bs t) from-here ∙ c)
          ∙ rw (ne_eqb (suc j) 0 (λ y. omega arith)) (ap (λ (b : Bool). judged S t bs false b (eols_to (suc j) e')) expected)
      by {p} (past_one {z = z} e h s) eol c =
          ap₂ (check_eob S t bs st) q (ap (eols3 bs t) from-here ∙ quiet t e h)
          ∙ ap (λ (b : Bool). checked S t bs false st (eols_to 0 a) (b && not (false || leb (length bs) a))) expected
          ∙ ap (λ (b : Bool). checked S t bs false st (eols_to 0 a) (true && not (false || b))) (lt-leb (length bs) a (omega (arith, eol-inside bs p eol, towards-ahead bs s)))
          ∙ ap (λ (b : Bool). missing S t bs b a) mending.lenient
          ∙ ap (searched S t bs a) (skips-to bs (past_one e h s) eol)
          ∙ ap (judged S t bs false true) c

  -- one EOL, and a line that fits behind it
  one-read : {e : ℕ} (f : Facing bs st.at e) (tag : Bool) (code rest : List Bool) → Fit t tag code → drop e bs ≡ (tag_bits t tag ++ code) ++ rest
      → (all_eols bs f.start ≡ eols_to 1 e) × (eols3 bs t f.start ≡ eols_to 1 e)
  unfolding no_eol
  one-read {e} f tag code rest fit there = (r, by t tag fit there (ap (with_tags bs t) r))
    where
      soon : Soon 10 (drop e bs)
      soon = subst (Soon 10) (sym there) (stray-soon (tag_bits t tag ++ code) rest (fit-stray t tag code fit))

      r : all_eols bs f.start ≡ eols_to 1 e
      r = chain-all (subst (Chain bs 1 f.start) f.to (eol-then f.eol (no_more (soon-quiet bs _ (subst (λ (a : ℕ). Soon 10 (drop a bs)) (sym f.to) soon)))))

      by : (t : Tagging) (tag : Bool) → Fit t tag code → drop e bs ≡ (tag_bits t tag ++ code) ++ rest → eols3 bs t f.start ≡ with_tags bs t (eols_to 1 e) → eols3 bs t f.start ≡ eols_to 1 e
      by untagged tag fit there q = q
      by tagged false fit there q = q ∙ tags-stay bs (length bs) e (inl (ap front_bit there))
      by tagged true (f, g) there q =
          q ∙ tags-stay bs (length bs) e (inr (soon-quiet bs (suc e) (subst (Soon 10) (sym (after-bit bs e true (code ++ rest) there)) (stray-soon code rest (rw (f, g))))))

  -- so to the next line,
  pub to-line : {e : ℕ} (f : Facing bs st.at e) → (st.count ≡ 0 → f.start ≡ st.at) → (0 < st.count → st.eols ≡ true) → st.count < n
      → (tag : Bool) (code rest : List Bool) → Fit t tag code → drop e bs ≡ (tag_bits t tag ++ code) ++ rest
      → before S t bs st (eqb st.count 0) ≡ at_line e true
  to-line {e} f first expected few tag code rest fit there = tests (eqb st.count 0) refl
    where
      read : (all_eols bs f.start ≡ eols_to 1 e) × (eols3 bs t f.start ≡ eols_to 1 e)
      read = one-read f tag code rest fit there

      inside : e < length bs
      inside =
          let s = subst (Soon 10) (sym there) (stray-soon (tag_bits t tag ++ code) rest (fit-stray t tag code fit)) in
          omega (arith, zeros-inside (drop e bs) s.0 s.1, length-drop e bs)

      not-all : 0 < st.count → (S.rows ≡ n) ⊎ (NoFewer S.rows n × ((S.end_of_block ≡ true) ⊎ (tail' ≡ []))) → eqb st.count S.rows ≡ false
      not-all h (inl y) = ne_eqb st.count S.rows (λ z. omega arith)
      not-all h (inr (y, _)) = no-fewer st.count h (omega arith) S.rows y

      tests : (b : Bool) → eqb st.count 0 ≡ b → before S t bs st b ≡ at_line e true
      tests true q = ap (leading S t bs) (ap (all_eols bs) (sym (first (eqb-true st.count 0 q))) ∙ read.0)
      tests false q =
          let h : 0 < st.count = omega (arith, eqb-false st.count 0 q) in
          meets f (expected h) (not-all h mending.counted) read.1
          ∙ rw (and-false S.end_of_block, lt-leb (length bs) e inside)

  -- or to the end
  pub to_end : {e : ℕ} (c e' : ℕ) (f : Facing bs st.at e) → st.eols ≡ true → 0 < st.count → st.count ≡ n
      → 5 ≤ c → eols3 bs t f.start ≡ eols_to (suc c) e' → (tail' ≡ [] → length bs ≤ e')
      → (a : ℕ) × (before S t bs st false ≡ at_end a)
  to_end c e' f expected h all six read nothing = tests mending.counted
    where
      ends : (b d : Bool) → (b ≡ true) ⊎ (d ≡ true) → ◌≡◌ {A = Before S t bs} (cond ((b && true) || (false || d)) (at_end e') (at_line e' true)) (at_end e')
      ends true d w = refl
      ends false true w = refl
      ends false false w = absurd (let z : ◌≡◌ {A = ℕ} 0 1 = ⊎_elim (λ y. cc) (λ y. cc) w in omega arith)

      ways : (S.end_of_block ≡ true) ⊎ (tail' ≡ []) → (S.end_of_block ≡ true) ⊎ (leb (length bs) e' ≡ true)
      ways (inl y) = inl y
      ways (inr y) = inr (le-leb (length bs) e' (nothing y))

      tests : (S.rows ≡ n) ⊎ (NoFewer S.rows n × ((S.end_of_block ≡ true) ⊎ (tail' ≡ []))) → (a : ℕ) × (before S t bs st false ≡ at_end a)
      tests (inl y) = (_, ends-rows S t bs st _ refl (eq-eqb st.count S.rows (all ∙ sym y)))
      tests (inr (y, w)) = (
        e',
        meets f expected (no-fewer st.count h (omega arith) S.rows y) read
            ∙ rw (le-leb 6 (suc c) (omega arith)) (ends S.end_of_block (leb (length bs) e') (ways w)),
      )

-- ---- A line, whole or bad

-- the row was sent; the tag is one that the page has; other bits fit
abbrev pub May : Tagging → ℕ → Arrived2D → Type 0
May t width (own_2d tag r) = Told t tag × Rising width 0 r
May t width (other_2d r tag bits) = Rising width 0 r × Fit t tag bits

pub data MayAll (t : Tagging) (width : ℕ) : List Arrived2D → Type 0 where
  none_left : MayAll t width []
  and-then : {l : Arrived2D} {ls : List Arrived2D} → May t width l → MayAll t width ls → MayAll t width (l ∷ ls)

pub sent-rises : (t : Tagging) (width : ℕ) (l : Arrived2D) → May t width l → Rising width 0 (sent_row l)
sent-rises t width (own_2d tag r) (_, h) = h
sent-rises t width (other_2d r tag bits) (h, _) = h

-- Read where it stands, under any reference, a line takes no more of the zeros behind it than the fill has.
abbrev pub Stops : Tagging → Settings → ℕ → Arrived2D → Type 0
Stops t S fill l =
    (bs : List Bool) (room : ℕ) (above reference : List ℕ) (e : ℕ) (later : List Bool) → S.columns ≤ room → Rising S.columns 0 above
    → drop e bs ≡ (tag_bits t (arrived_tag l) ++ arrived_bits_2d S.columns above l) ++ (replicate fill false ++ (eol_bits ++ later))
    → (x : Line) → read_line (rules_of S room) (kind_read t (arrived_tag l) reference) bs (codes_from t e) ≡ went x
    → x.at ≤ e + length (tag_bits t (arrived_tag l) ++ arrived_bits_2d S.columns above l) + fill

pub data StopAll (t : Tagging) (S : Settings) (fill : ℕ) : List Arrived2D → Type 0 where
  none-goes : StopAll t S fill []
  stops-and : {l : Arrived2D} {ls : List Arrived2D} → Stops t S fill l → StopAll t S fill ls → StopAll t S fill (l ∷ ls)

module _ (t : Tagging) (S : Settings) (n : ℕ) (tail' : List Bool) (mending : Mends t S n tail') (bs : List Bool) (fill : ℕ) where
  abbrev W : ℕ
  W = S.columns

  -- the fill before an EOL, the EOL, and what stands behind it
  abbrev gap : List Bool → List Bool
  gap later = replicate fill false ++ (eol_bits ++ later)

  -- it fits between two EOLs
  pub may-fit : (above : List ℕ) → Rising W 0 above → (l : Arrived2D) → May t W l → Fit t (arrived_tag l) (arrived_bits_2d W above l)
  may-fit above up (own_2d tag r) (told, up') = own-fit W mending.wide mending.narrow t tag told above r up up'
  may-fit above up (other_2d r tag bits) (_, fit) = fit

  -- a row is given, that of the line's reading where this is whole; and the reader faces the EOL behind the line
  pub record Rowed (R : Rules) (st : State) (kind : Kind) (start e' : ℕ) (o : RowOut) : Type 0 where
    pub given : List ℕ
    pub mark : ℕ
    pub after : State
    pub is : o ≡ row given mark after
    pub same : (x : Line) → read_line R kind bs start ≡ went x → (given ≡ x.changes) × (mark ≡ read_mark x)
    pub short : length given ≤ W
    pub facing : Facing bs after.at e'
    pub counted : after.count ≡ suc st.count
    pub expected : after.eols ≡ true
    pub reference : after.reference ≡ given

  module _ (room : ℕ) (roomy : W ≤ room) (st : State) (e : ℕ) (later : List Bool) where
    abbrev R : Rules
    R = rules_of S room

    abbrev outcome : Went → RowOut
    outcome = after_line3 S t bs R st e true

    -- the state behind a row that ends at a bit
    abbrev behind-row : ℕ → List ℕ → State
    behind-row at r = record { at = at; reference = r; count = suc st.count; eols = true }

    -- a line that fails with 1 to 3 is mended, and the reader returns to its start
    mends : (m place : ℕ) (l v : Line) → m ≤ 3 → push R 0 (W - l.position) (whitened S t bs l) ≡ went v
        → outcome (failed m place l) ≡ row v.changes recovered_mark (behind-row e v.changes)
    mends m place l v h q =
        ap₂ (λ (a b : Bool). recovered S t bs R st e true m place l ((true && not a) && b)) mending.lenient (le-leb m 3 h)
        ∙ ap (kept S t bs st true e recovered_mark) q

    module _ (tag : Bool) (code : List Bool) (fit : Fit t tag code) (there : drop e bs ≡ (tag_bits t tag ++ code) ++ gap later)
        (stops : (x : Line) → read_line R (kind_read t tag st.reference) bs (codes_from t e) ≡ went x → x.at ≤ e + length (tag_bits t tag ++ code) + fill) where
      abbrev kind : Kind
      kind = kind_read t tag st.reference

      abbrev start : ℕ
      start = codes_from t e

      -- the line behind its tag bit
      line-behind : e < length bs → line3 S t bs R st.reference e t ≡ read_line R kind bs start
      line-behind inside = by t there
        where
          tagged-by : (tag : Bool) → tagged_line S tagged bs R st.reference e tag ≡ read_line R (kind_of tag st.reference) bs (suc e)
          tagged-by true = refl
          tagged-by false = refl

          by : (t : Tagging) → drop e bs ≡ (tag_bits t tag ++ code) ++ gap later → line3 S t bs R st.reference e t ≡ read_line R (kind_read t tag st.reference) bs (codes_from t e)
          by untagged there = refl
          by tagged there = rw (lt-ltb e (length bs) inside) (ap (tagged_line S tagged bs R st.reference e) (ap front_bit there) ∙ tagged-by tag)

      -- its last zeros belong to the EOL behind it
      abbrev e' : ℕ
      e' = e + length (tag_bits t tag ++ code) + (fill + 12)

      pub read-piece : Rowed R st kind start e' (outcome (line3 S t bs R st.reference e t))
      read-piece = cases (line3 S t bs R st.reference e t) refl
        where
          d : Leads bs e 0 (tag_bits t tag ++ code) (gap later)
          d = leads bs (gap later) (tag_bits t tag ++ code) 0 e fit.1 there

          f : Facing bs e e'
          f = record {
            start = d.start;
            past = d.past;
            eol = record {
              zeros = d.trailing + (fill + 11);
              run = ap zero_run d.there ∙ zeros-then d.trailing (gap later) (fill + 11) (zeros-then fill (eol_bits ++ later) 11 (eol-zeros later));
              many = omega arith;
            };
            to = omega (arith, d.size);
          }

          inside : e + 11 < length bs
          inside = omega (arith, eol-inside bs d.start f.eol, towards-ahead bs d.past)

          start-near : (t : Tagging) → (e ≤ codes_from t e) × (codes_from t e ≤ e + 1)
          start-near untagged = (omega arith, omega arith)
          start-near tagged = (omega arith, omega arith)

          reading : line3 S t bs R st.reference e t ≡ read_line R kind bs start
          reading = line-behind (omega (arith, inside))

          cases : (v : Went) → line3 S t bs R st.reference e t ≡ v → Rowed R st kind start e' (outcome v)
          cases (went l) g =
              let began = line_stays R kind bs (length bs) (data-bound bs) start (omega (arith, inside, (start-near t).1)) l (sym reading ∙ g) in
              let few = rises-length {width = W} (omega arith) (read_whole R mending.wide kind bs start l (sym reading ∙ g)).rising in
              record {
                given = l.changes;
                mark = read_mark l;
                after = behind-row l.at l.changes;
                is = refl;
                same = λ x q. let y : l ≡ x = cc (sym g ∙ reading ∙ q) in (ap (λ (z : Line). z.changes) y, ap (λ (z : Line). read_mark z) y);
                short = omega arith;
                facing = facing-on bs f l.at (omega (arith, began.0, (start-near t).0)) (omega (arith, d.size, stops l (sym reading ∙ g)));
                counted = refl;
                expected = refl;
                reference = refl;
              }
          cases (failed m place l) g =
              let x = line3-damaged S t bs R mending.wide st.reference e (omega (arith, inside)) m place l g in
              let p = pushed-full R roomy (whitened S t bs l) x.line.fits x.line.rising 0 in
              let not-four = never-four W mending.wide S.strict S.exact kind bs start (omega (arith, inside, (start-near t).1)) room roomy m place l (sym reading ∙ g) in
              let up = mended S t bs R mending.wide st.reference e m l p.0 x p.1 in
              let few = rises-length {width = W} (omega arith) up.rising in
              record {
                given = p.0.changes;
                mark = recovered_mark;
                after = behind-row e p.0.changes;
                is = mends m place l p.0 (omega (arith, x.numbered, not-four)) p.1;
                same = λ y q. absurd (let z : ◌≡◌ {A = ℕ} 0 1 = cc (sym g ∙ reading ∙ q) in omega arith);
                short = omega arith;
                facing = f;
                counted = refl;
                expected = refl;
                reference = refl;
              }

-- ---- With three zeros of fill

module _ (t : Tagging) (S : Settings) (n : ℕ) (tail' : List Bool) (mending : Mends t S n tail') (fill : ℕ) (three : 3 ≤ fill) where
  three-stops : (l : Arrived2D) → May t S.columns l → Stops t S fill l
  three-stops l may bs room above reference e later roomy up there x g =
      omega (arith, d.size, (line_stays (rules_of S room) _ bs (d.start + 3) (eol-bound bs d.start zeros run (omega arith)) (codes_from t e) (near t) x g).1)
    where
      code : List Bool
      code = tag_bits t (arrived_tag l) ++ arrived_bits_2d S.columns above l

      later' : List Bool
      later' = replicate fill false ++ (eol_bits ++ later)

      d : Leads bs e 0 code later'
      d = leads bs later' code 0 e (may-fit t S n tail' mending bs fill above up l may).1 there

      zeros : ℕ
      zeros = d.trailing + (fill + 11)

      run : zero_run (drop d.start bs) ≡ some zeros
      run = ap zero_run d.there ∙ zeros-then d.trailing later' (fill + 11) (zeros-then fill (eol_bits ++ later) 11 (eol-zeros later))

      near : (t : Tagging) → codes_from t e ≤ d.start + 3
      near untagged = omega (arith, towards-ahead bs d.past)
      near tagged = omega (arith, towards-ahead bs d.past)

  pub three-stop : (ls : List Arrived2D) → MayAll t S.columns ls → StopAll t S fill ls
  three-stop [] none_left = none-goes
  three-stop (l ∷ ls) (and-then may mays) = stops-and (three-stops l may) (three-stop ls mays)
