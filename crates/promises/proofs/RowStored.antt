-- A call of the row form stores what is demanded, from any state that passes the tests. Assumes nothing.
use mathlib.Core.Path.{◌≡◌, refl, sym, ap, ap₂, ◌∙◌, subst}
use mathlib.Core.Bool.{Bool, true, false, cond, true≢false, and-false, ◌&&◌}
use mathlib.Core.List.{List, []}
use Prim.Native.Nat.{ℕ, suc, ◌+◌, ◌-◌, ◌*◌, ◌≤◌, ◌<◌}
use native.Mathlib.Omega.{arith}
use lib.Dec.{eqb, leb, ltb}
use lib.ListN.{length, take, drop}
use lib.Seq.{take_at, drop_at}
use borrow.Author.Tests.{ne_eqb, eqb-true, eqb-false, leb-true}
use Rattle.rules.specs.Answers.{complete, no_entry, bad_width, bad_rows, too_few_rows, more_to_come}
use Rattle.rules.specs.Bits.{bits_of}
use Rattle.rules.specs.Lines.{Went, went, failed, two, read_line}
use Rattle.rules.specs.Rows.{Encoding, group4, group3_1_d, group3_2_d, Settings, State, RowOut, row, stop, rules_of}
use Rattle.rules.specs.Group4.{eols_before, after_line4}
use Rattle.rules.specs.Pages.{most_bytes, is_too_wide, strict_if_exact, too_few, row_of, ascends, overlaid}
use Rattle.rules.specs.InSteps.{Said, most_counted}
use Rattle.rules.specs.Rising.{Rising}
use Rattle.rules.specs.ByRow as Rule
use Rattle.rules.specs.ByRow.{Arrays, array_at, other, written, unended, between, room_in, row_here, after_row, unless_few, sound, refuses, no_columns, next_row, tested, read_row}
use Rattle.rules.proofs.Bits.{length-bits_of, both_true}
use Rattle.rules.proofs.Lines.{read_whole, read-broken, data-bound}
use Rattle.rules.proofs.Eols.{eols-ahead}
use Rattle.rules.proofs.Rows.{row4-cases}
use Rattle.rules.proofs.Budget.{whole-bytes}
use Rattle.rules.proofs.Pages.{Does, row-does}
use Rattle.rules.proofs.LessRoom.{changes_in, RowCut, RowFills, row-fills, row_cut, row-cut-cases}
use Rattle.rules.proofs.ByRow.{call-cases, Bounded, row-bounded}
use Rattle.answer.specs.declared.Answer.{Answer}
use Rattle.settings.specs.declared.DecodeSettings.{DecodeSettings}
use Rattle.settings.specs.Settings.{settings_of}
use Rattle.by_row.specs.declared.End.TheVariants.{Unended}
use Rattle.by_row.specs.declared.RowState.{RowState}
use Rattle.by_row.specs.ByRow.{side_of, other_side, end_of, row_state_of, answer_of, count_of}
use Rattle.by_row.proofs.States.{same-side, same-state}
use Rattle.promises.specs.ByRow as ByRow
use Rattle.promises.specs.ByRow.{RowCall, RowReading, array_of, changes_of, reference_of, row_array_of}
use Rattle.promises.specs.StepsStored.{RowStored, RowFourLeaves}
use Rattle.promises.proofs.ByRow.{both, array-at, other-is, room-is, told, number_is, arrays-are, changes-at, changes-given}

-- ---- What one row does, from any state in the data

abbrev Keeps : ℕ → ℕ → RowOut → Type 0
Keeps width room (row r mark next) = Rising width 0 r × (length r ≤ room)
Keeps width room (stop n place b loose) = (n ≤ no_entry) × (length loose ≤ room) × (n ≡ complete → loose ≡ [])

module _ (S : Settings) (wide : 0 < S.columns) (bytes : List ℕ) (room : ℕ) (st : State) (inside : st.at ≤ length (bits_of bytes)) where
  abbrev bs : List Bool
  bs = bits_of bytes

  row_keeps : (enc : Encoding) → Keeps S.columns room (row_of enc S bs room st)
  unfolding row_of
  row_keeps = kinds
    where
      of3 : (o : RowOut) → Does S bs room st o → Keeps S.columns room o
      of3 (row r mark next) d = (d.rising, d.roomy)
      of3 (stop n place b loose) d = (d.numbered, d.roomy, d.clean)

      of4 : (w : Went) → read_line (rules_of S room) (two st.reference) bs (eols_before S bs st).at ≡ w → Keeps S.columns room (after_line4 S bs st w)
      of4 (went l) e = let f = read_whole (rules_of S room) wide (two st.reference) bs (eols_before S bs st).at l e in (f.rising, f.roomy)
      of4 (failed n place l) e =
          let f = read-broken (rules_of S room) wide (two st.reference) bs (eols_before S bs st).at (length bs) (data-bound bs) ((eols-ahead (cond S.end_of_block 2 (length bs)) bs st.at).inside inside) n place l e in
          (f.numbered.1, f.line.roomy, λ z. absurd (omega (arith, f.numbered.0)))

      kinds : (enc : Encoding) → Keeps S.columns room (row_of enc S bs room st)
      kinds group4 = row4-cases S bs room st (Keeps S.columns room) (λ e. (omega arith, omega arith, λ z. refl)) (λ e. of4)
      kinds group3_1_d = of3 (row_of group3_1_d S bs room st) (row-does S wide bs (whole-bytes bytes) room st group3_1_d tt inside)
      kinds group3_2_d = of3 (row_of group3_2_d S bs room st) (row-does S wide bs (whole-bytes bytes) room st group3_2_d tt inside)

-- ---- The two arrays

at-written : (side : Rule.Side) (r : List ℕ) (xs : Arrays) → array_at side (written side r xs) ≡ overlaid r (array_at side xs)
at-written Rule.first r xs = refl
at-written Rule.second r xs = refl

at_other : (side : Rule.Side) (r : List ℕ) (xs : Arrays) → array_at side (written (other side) r xs) ≡ array_at side xs
at_other Rule.first r xs = refl
at_other Rule.second r xs = refl

front-written : (side : Rule.Side) (r : List ℕ) (xs : Arrays) → take (length r) (array_at side (written side r xs)) ≡ r
unfolding overlaid
front-written side r xs = ap (take (length r)) (at-written side r xs) ∙ take_at r (drop (length r) (array_at side xs)) (length r) refl

later-written : (side : Rule.Side) (r : List ℕ) (xs : Arrays) → drop (length r) (array_at side (written side r xs)) ≡ drop (length r) (array_at side xs)
unfolding overlaid
later-written side r xs = ap (drop (length r)) (at-written side r xs) ∙ drop_at r (drop (length r) (array_at side xs)) (length r) refl

-- ---- A call of the row form, as the rules say it

-- a state that passes 8 stands in the data
sound-inside : (S : Settings) (bytes : List ℕ) (p : Rule.RowState) (xs : Arrays) → sound S bytes p xs ≡ true → p.at ≤ 8 * length bytes
unfolding sound
sound-inside S bytes p xs e = leb-true p.at (8 * length bytes) (both_true (leb p.at (8 * length bytes)) _ e).0

module _ (S : Settings) (bytes : List ℕ) (p : Rule.RowState) (xs : Arrays) where
  abbrev into : Rule.Side
  into = other p.side

  record Given (d : Rule.RowStep) : Type 0 where
    rising : Rising S.columns 0 (take (count_of d) (array_at into d.arrays))
    rows : d.said.rows ≡ p.rows + 1
    entries : d.said.entries ≡ p.entries + count_of d
    loose : d.said.loose ≡ 0
    taken : d.said.bytes ≡ 0
    place : d.said.place ≡ 0

  record Over (d : Rule.RowStep) : Type 0 where
    rows : d.said.rows ≡ p.rows
    entries : d.said.entries ≡ p.entries
    loose : d.said.loose ≡ count_of d
    clean : d.said.number ≡ complete → count_of d ≡ 0
    short : d.said.number ≡ too_few_rows → (count_of d ≡ 0) × (d.said.bytes ≡ 0)
    full : d.said.number ≡ no_entry → count_of d ≡ room_in p xs

  record Stores (d : Rule.RowStep) : Type 0 where
    fits : count_of d ≤ room_in p xs
    later : drop (count_of d) (array_at into d.arrays) ≡ drop (count_of d) (array_at into xs)
    same : array_at p.side d.arrays ≡ array_at p.side xs
    given : d.said.number ≡ more_to_come → Given d
    over : (d.said.number ≡ more_to_come → ⊥) → Over d

  stores_row : (r : List ℕ) (mark : ℕ) (next : State) → Keeps S.columns (room_in p xs) (row r mark next) → Stores (after_row p xs (row r mark next))
  stores_row r mark next (rising, roomy) = record {
    fits = roomy;
    later = later-written into r xs;
    same = at_other p.side r xs;
    given = λ e. record {
      rising = subst (Rising S.columns 0) (sym (front-written into r xs)) rising;
      rows = let z : suc p.rows ≡ p.rows + 1 = omega arith in z;
      entries = refl;
      loose = refl;
      taken = refl;
      place = refl;
    };
    over = λ ne. absurd (ne refl);
  }

  -- an end whose number is not 15; 14 replaces 0 alone
  stores-end : (n place b : ℕ) (loose : List ℕ) → (n ≡ more_to_come → ⊥) → length loose ≤ room_in p xs → (n ≡ complete → loose ≡ []) → (n ≡ too_few_rows → (loose ≡ []) × (b ≡ 0)) → (n ≡ no_entry → room_in p xs ≤ length loose)
      → Stores (after_row p xs (stop n place b loose))
  stores-end n place b loose ne roomy clean short full =
      let q : count_of (after_row p xs (stop n place b loose)) ≡ length loose = ap (λ (t : Bool). cond t p.held (length loose)) (ne_eqb n 15 ne) in
      record {
        fits = omega (arith, q);
        later = subst (λ (m : ℕ). drop m (array_at into (written into loose xs)) ≡ drop m (array_at into xs)) (sym q) (later-written into loose xs);
        same = at_other p.side loose xs;
        given = λ e. absurd (ne e);
        over = λ e. record {
          rows = refl;
          entries = refl;
          loose = sym q;
          clean = λ z. q ∙ ap length (clean z);
          short = λ z. (q ∙ ap length (short z).0, (short z).1);
          full = λ z. omega (arith, q, full z);
        };
      }

  stores-so : (o : RowOut) → Keeps S.columns (room_in p xs) o → RowFills (room_in p xs) o → Stores (after_row p xs (unless_few S bytes p xs o))
  stores-so (row r mark next) k f = stores_row r mark next k
  stores-so (stop n place b loose) (few, roomy, clean) f = tests (too_few S n p.rows) refl
    where
      tests : (t : Bool) → too_few S n p.rows ≡ t → Stores (after_row p xs (cond t (stop 14 0 0 loose) (stop n place b loose)))
      tests false e = stores-end n place b loose (λ z. omega arith) roomy clean (λ z. absurd (omega arith)) f
      tests true e =
          let none : loose ≡ [] = clean (eqb-true n 0 (both_true (eqb n 0) _ (both_true S.exact _ e).1).0) in
          stores-end 14 0 0 loose (λ z. omega arith) roomy (λ z. none) (λ z. (none, refl)) (λ z. absurd (omega arith))

  -- before the page's end, where it is not refused
  stores : p.end ≡ unended → 0 < S.columns → (bad_width ≤ (read_row S bytes p xs).said.number → (read_row S bytes p xs).said.number ≤ bad_rows → ⊥) → Stores (read_row S bytes p xs)
  stores open' wide =
      call-cases S bytes p xs (λ d. (bad_width ≤ d.said.number → d.said.number ≤ bad_rows → ⊥) → Stores d)
      (λ n place b loose e h. absurd (let z : ◌≡◌ {A = ℕ} 0 1 = cc in omega arith))
      (λ u e h. absurd (h (omega arith) (omega arith))) (λ u e f h. absurd (h (omega arith) (omega arith))) (λ u e f g h. absurd (h (omega arith) (omega arith))) (λ u e f g c h. absurd (omega arith))
      (λ u e f g w o q h. stores-so o
      (subst (Keeps S.columns (room_in p xs)) q (row_keeps (strict_if_exact S) w bytes (room_in p xs) (between p xs) (omega (arith, sound-inside S bytes p xs g, length-bits_of bytes)) S.encoding))
      (subst (RowFills (room_in p xs)) q (row-fills (strict_if_exact S) (bits_of bytes) (room_in p xs) S.encoding (between p xs))))

-- ---- The row form

module _ (bytes : List ℕ) (settings : DecodeSettings) (c : RowCall) (g : RowReading bytes settings c) where
  abbrev S' : Settings
  S' = settings_of settings

  abbrev d : Rule.RowStep
  d = told bytes settings c

  abbrev lent : Arrays
  lent = both c.first c.second

  array-is : c.step.array ≡ other_side c.state.side
  array-is = same-side c.step.array (other_side c.state.side) (g.array ∙ sym (other-is c.state.side))

  row-array : row_array_of c ≡ array_at (other (side_of c.state.side)) lent
  row-array = array-at (other_side c.state.side) c.first c.second ∙ ap (λ (s : Rule.Side). array_at s lent) (other-is c.state.side)

  after-array : array_of c.step.array c.first' c.second' ≡ array_at (other (side_of c.state.side)) d.arrays
  after-array = array-at c.step.array c.first' c.second' ∙ ap₂ (λ (s : Rule.Side) (xs : Arrays). array_at s xs) g.array (arrays-are bytes settings c g)

  after-reference : array_of c.state.side c.first' c.second' ≡ array_at (side_of c.state.side) d.arrays
  after-reference = array-at c.state.side c.first' c.second' ∙ ap (array_at (side_of c.state.side)) (arrays-are bytes settings c g)

  next-is : ByRow.number_of c ≡ more_to_come → take c.step.state.held (array_of c.step.state.side c.first' c.second') ≡ changes_of c
  next-is e =
      ap (take c.step.state.held) (array-at c.step.state.side c.first' c.second')
      ∙ ap₂ (λ (q : Rule.RowState) (xs : Arrays). take q.held (array_at q.side xs)) g.state (arrays-are bytes settings c g)
      ∙ sym (changes-given bytes settings c g e)

pub row-stored : RowStored
row-stored bytes settings c g open' wide served =
    let n = number_is bytes settings c g in
    let k = stores (settings_of settings) bytes (row_state_of c.state) (both c.first c.second) (ap end_of open') wide (λ l m. served (omega (arith, n)) (omega (arith, n))) in
    let room = room-is c in
    let count : c.step.count ≡ count_of (told bytes settings c) = g.count in
    record {
      array = array-is bytes settings c g;
      fits = omega (arith, k.fits, room, count);
      later =
          ap₂ (λ (m : ℕ) (l : List ℕ). drop m l) count (after-array bytes settings c g) ∙ k.later
          ∙ sym (ap₂ (λ (m : ℕ) (l : List ℕ). drop m l) count (row-array bytes settings c g));
      other = after-reference bytes settings c g ∙ k.same ∙ sym (array-at c.state.side c.first c.second);
      given = λ e.
          let r = k.given (sym n ∙ e) in
          record {
            rising = subst (Rising settings.columns 0) (sym (changes-at bytes settings c g)) r.rising;
            next = next-is bytes settings c g e;
            rows = ap (λ (a : Answer). a.rows) g.answer ∙ r.rows;
            entries = ap (λ (a : Answer). a.entries) g.answer ∙ r.entries ∙ ap (λ (m : ℕ). c.state.entries + m) (sym count);
            loose = ap (λ (a : Answer). a.loose) g.answer ∙ r.loose;
            bytes = ap (λ (a : Answer). a.bytes) g.answer ∙ r.taken;
            place = ap (λ (a : Answer). a.place) g.answer ∙ r.place;
          };
      over = λ ne.
          let o = k.over (λ z. ne (n ∙ z)) in
          record {
            rows = ap (λ (a : Answer). a.rows) g.answer ∙ o.rows;
            entries = ap (λ (a : Answer). a.entries) g.answer ∙ o.entries;
            loose = ap (λ (a : Answer). a.loose) g.answer ∙ o.loose ∙ sym count;
            clean = λ z. count ∙ o.clean (sym n ∙ z);
            short = λ z. let s = o.short (sym n ∙ z) in (count ∙ s.0, ap (λ (a : Answer). a.bytes) g.answer ∙ s.1);
            full = λ z. count ∙ o.full (sym n ∙ z) ∙ room;
          };
    }

-- ---- Two calls from one state, the second with a longer array for the row

module _ (S : Settings) (bytes : List ℕ) (p : Rule.RowState) (xs ys : Arrays) (same : array_at p.side ys ≡ array_at p.side xs) where
  -- the tests look at the reference alone
  sound-same : sound S bytes p ys ≡ sound S bytes p xs
  unfolding sound
  sound-same =
      ap (λ (l : List ℕ). leb p.at (8 * length bytes)
      && (leb p.held (length l) && (leb p.held (most_counted bytes) && (leb p.rows (most_counted bytes) && (leb p.entries (most_counted bytes) && ascends S.columns (take p.held l)))))) same

  -- what both do, by cases: they refuse, have no columns, or read a row
  both-cases : (C : Rule.RowStep → Rule.RowStep → Type 0) → p.end ≡ unended
      → ((n : ℕ) → bad_width ≤ n → n ≤ bad_rows → C (refuses S bytes p xs n) (refuses S bytes p ys n)) → C (no_columns S bytes p xs) (no_columns S bytes p ys)
      → (0 < S.columns → sound S bytes p xs ≡ true → C (next_row S bytes p xs) (next_row S bytes p ys))
      → C (read_row S bytes p xs) (read_row S bytes p ys)
  unfolding read_row tested
  both-cases C open' refused none reads =
      subst (λ (e : Rule.End). C (Rule.unless_ended S bytes p xs e) (Rule.unless_ended S bytes p ys e)) (sym open')
      (tests (is_too_wide S.columns) (ltb most_bytes (length bytes)) (sound S bytes p xs) refl (sound S bytes p ys) sound-same (eqb S.columns 0) refl)
    where
      step : Arrays → Bool → Bool → Bool → Bool → Rule.RowStep
      step zs a b c d =
          elim a as (λ _. Rule.RowStep) [
            | true ↦ refuses S bytes p zs 6
            | false ↦ elim b as (λ _. Rule.RowStep) [
              | true ↦ refuses S bytes p zs 7
              | false ↦ elim c as (λ _. Rule.RowStep) [
                | false ↦ refuses S bytes p zs 8
                | true ↦ elim d as (λ _. Rule.RowStep) [ true ↦ no_columns S bytes p zs | false ↦ next_row S bytes p zs ]
              ]
            ]
          ]

      tests : (a b c : Bool) → sound S bytes p xs ≡ c → (c' : Bool) → c' ≡ sound S bytes p xs → (d : Bool) → eqb S.columns 0 ≡ d → C (step xs a b c d) (step ys a b c' d)
      tests true b c g c' h d e = refused 6 (omega arith) (omega arith)
      tests false true c g c' h d e = refused 7 (omega arith) (omega arith)
      tests false false false g false h d e = refused 8 (omega arith) (omega arith)
      tests false false false g true h d e = absurd (true≢false (h ∙ g))
      tests false false true g false h d e = absurd (true≢false (sym (h ∙ g)))
      tests false false true g true h true e = none
      tests false false true g true h false e = reads (let k : S.columns ≡ 0 → ⊥ = eqb-false S.columns 0 e in omega arith) g

  -- what the two speak of
  abbrev spoken : Rule.RowStep → List ℕ
  spoken d = take (count_of d) (array_at (other p.side) d.arrays)

  record Wider (d e : Rule.RowStep) : Type 0 where
    four : d.said.number ≡ no_entry → (room_in p xs < count_of e) × (spoken d ≡ take (room_in p xs) (spoken e))
    else : (d.said.number ≡ no_entry → ⊥) → (e.said ≡ d.said) × (e.state ≡ d.state) × (spoken e ≡ spoken d)

  -- a row's changes, or the loose ones, are those that it speaks of
  spoken-is : (zs : Arrays) (w : RowOut) → Bounded (bits_of bytes) w
      → let d = after_row p zs (unless_few S bytes p zs w) in (count_of d ≡ length (changes_in w)) × (spoken d ≡ changes_in w)
  spoken-is zs (row r mark next) h = (refl, front-written (other p.side) r zs)
  spoken-is zs (stop n place b loose) h = tests (too_few S n p.rows)
    where
      ended_so : (n place b : ℕ) → (n ≡ more_to_come → ⊥) → (count_of (after_row p zs (stop n place b loose)) ≡ length loose) × (spoken (after_row p zs (stop n place b loose)) ≡ loose)
      ended_so n place b ne =
          let q : count_of (after_row p zs (stop n place b loose)) ≡ length loose = ap (λ (t : Bool). cond t p.held (length loose)) (ne_eqb n 15 ne) in
          (q, ap (λ (m : ℕ). take m (array_at (other p.side) (written (other p.side) loose zs))) q ∙ front-written (other p.side) loose zs)

      tests : (t : Bool) → let d = after_row p zs (cond t (stop 14 0 0 loose) (stop n place b loose)) in (count_of d ≡ length loose) × (spoken d ≡ loose)
      tests true = ended_so 14 0 0 (λ z. omega arith)
      tests false = ended_so n place b (λ z. omega arith)

  module _ (longer : room_in p xs < room_in p ys) where
    -- the same row, or the same end, which is not 4
    same-wider : (w : RowOut) → Bounded (bits_of bytes) w → RowFills (room_in p ys) w → length (changes_in w) ≤ room_in p xs
        → Wider (after_row p xs (unless_few S bytes p xs w)) (after_row p ys (unless_few S bytes p ys w))
    same-wider w h f k = cases w h f k ((spoken-is ys w h).1 ∙ sym (spoken-is xs w h).1)
      where
        cases : (w : RowOut) → Bounded (bits_of bytes) w → RowFills (room_in p ys) w → length (changes_in w) ≤ room_in p xs
            → spoken (after_row p ys (unless_few S bytes p ys w)) ≡ spoken (after_row p xs (unless_few S bytes p xs w))
            → Wider (after_row p xs (unless_few S bytes p xs w)) (after_row p ys (unless_few S bytes p ys w))
        cases (row r mark next) h f k q = record { four = λ z. absurd (omega arith); else = λ ne. (refl, refl, q) }
        cases (stop n place b loose) h f k q = tests (too_few S n p.rows) q
          where
            tests : (t : Bool) → spoken (after_row p ys (cond t (stop 14 0 0 loose) (stop n place b loose))) ≡ spoken (after_row p xs (cond t (stop 14 0 0 loose) (stop n place b loose)))
                → Wider (after_row p xs (cond t (stop 14 0 0 loose) (stop n place b loose))) (after_row p ys (cond t (stop 14 0 0 loose) (stop n place b loose)))
            tests true q = record { four = λ z. absurd (omega arith); else = λ ne. (refl, refl, q) }
            tests false q = record { four = λ z. absurd (omega (arith, f z)); else = λ ne. (refl, refl, q) }

    -- a row that the shorter array does not hold
    short-wider : (w : RowOut) → Bounded (bits_of bytes) w → room_in p xs < length (changes_in w)
        → Wider (after_row p xs (unless_few S bytes p xs (stop 4 0 0 (take (room_in p xs) (changes_in w))))) (after_row p ys (unless_few S bytes p ys w))
    short-wider w h k =
        let e = spoken-is ys w h in
        let d = spoken-is xs (stop 4 0 0 (take (room_in p xs) (changes_in w))) (omega arith) in
        record {
          four = λ z. (omega (arith, e.0), d.1 ∙ ap (take (room_in p xs)) (sym e.1));
          else = λ ne. absurd (ne (rw (and-false S.exact)));
        }

    wider-row : (w : RowOut) → 0 < S.columns → sound S bytes p xs ≡ true → row_of S.encoding (strict_if_exact S) (bits_of bytes) (room_in p ys) (between p xs) ≡ w
        → Wider (next_row S bytes p xs) (after_row p ys (unless_few S bytes p ys w))
    wider-row w wide g q =
        let T = strict_if_exact S in
        let inside : p.at ≤ length (bits_of bytes) = omega (arith, sound-inside S bytes p xs g, length-bits_of bytes) in
        let h : Bounded (bits_of bytes) w = subst (Bounded (bits_of bytes)) q (row-bounded T wide (bits_of bytes) (whole-bytes bytes) (room_in p ys) (between p xs) inside S.encoding) in
        let f : RowFills (room_in p ys) w = subst (RowFills (room_in p ys)) q (row-fills T (bits_of bytes) (room_in p ys) S.encoding (between p xs)) in
        row-cut-cases (λ o. Wider (after_row p xs (unless_few S bytes p xs o)) (after_row p ys (unless_few S bytes p ys w)))
        (subst (RowCut (room_in p xs) (row_here S bytes p xs)) q (row_cut T (bits_of bytes) (room_in p xs) (room_in p ys) (omega arith) S.encoding (between p xs)))
        (same-wider w h f) (short-wider w h)

    -- both calls, from the same state
    wider : p.end ≡ unended → Wider (read_row S bytes p xs) (read_row S bytes p ys)
    wider open' =
        both-cases Wider open'
        (λ n l m. record { four = λ z. absurd (omega arith); else = λ ne. (refl, refl, no-entries n (λ z. omega arith)) })
        (record { four = λ z. absurd (omega arith); else = λ ne. (refl, refl, refl) })
        (λ wide g.
        subst (λ (r : List ℕ). Wider (next_row S bytes p xs) (after_row p ys (unless_few S bytes p ys (row_of S.encoding (strict_if_exact S) (bits_of bytes) (room_in p ys) (record { at = p.at; reference = take p.held r; count = p.rows; eols = p.eols })))))
        (sym same) (wider-row _ wide g refl))
      where
        no-entries : (n : ℕ) → (n ≡ more_to_come → ⊥) → spoken (refuses S bytes p ys n) ≡ spoken (refuses S bytes p xs n)
        no-entries n ne = rw (ne_eqb n 15 ne)

module _ (bytes : List ℕ) (settings : DecodeSettings) (c : RowCall) (g : RowReading bytes settings c) (open' : c.state.end ≡ Unended) where
  -- the second call has this state, and its own arrays
  four-leaves : (w : RowCall) → let v : RowCall = record { state = c.state; first = w.first; second = w.second; step = w.step; first' = w.first'; second' = w.second' } in
      RowReading bytes settings v → reference_of v ≡ reference_of c → length (row_array_of c) < length (row_array_of v)
      → (ByRow.number_of c ≡ no_entry → (length (row_array_of c) < w.step.count) × (changes_of c ≡ take (length (row_array_of c)) (changes_of w)))
      × ((ByRow.number_of c ≡ no_entry → ⊥) → (w.step ≡ c.step) × (changes_of w ≡ changes_of c))
  four-leaves w h reference longer =
      let v : RowCall = record { state = c.state; first = w.first; second = w.second; step = w.step; first' = w.first'; second' = w.second' } in
      let side = side_of c.state.side in
      let same : array_at side (both w.first w.second) ≡ array_at side (both c.first c.second)
      = sym (array-at c.state.side w.first w.second) ∙ reference ∙ array-at c.state.side c.first c.second in
      let room = room-is c in
      let k = wider (settings_of settings) bytes (row_state_of c.state) (both c.first c.second) (both w.first w.second) same (omega (arith, room, room-is v)) (ap end_of open') in
      let n = number_is bytes settings c g in (
        (λ e. let f = k.four (sym n ∙ e) in (
          omega (arith, f.0, room, h.count),
          changes-at bytes settings c g ∙ f.1 ∙ ap₂ (λ (m : ℕ) (l : List ℕ). take m l) room (sym (changes-at bytes settings v h)),
        )),
        (λ ne. let f = k.else (λ z. ne (n ∙ z)) in (
          (λ i. record {
            answer = (h.answer ∙ ap answer_of f.0 ∙ sym g.answer) i;
            array = same-side w.step.array c.step.array (h.array ∙ sym g.array) i;
            count = (h.count ∙ ap₂ (λ (x : Said) (q : Rule.RowState). cond (eqb x.number 15) q.held x.loose) f.0 f.1 ∙ sym g.count) i;
            state = same-state w.step.state c.step.state (h.state ∙ f.1 ∙ sym g.state) i;
          }),
          changes-at bytes settings v h ∙ f.2 ∙ sym (changes-at bytes settings c g),
        )),
      )

pub row-four-leaves : RowFourLeaves
row-four-leaves bytes settings c wide g h open' e reference longer =
    four-leaves bytes settings c g open' wide
    (subst (λ (st : RowState). RowReading bytes settings (record { state = st; first = wide.first; second = wide.second; step = wide.step; first' = wide.first'; second' = wide.second' })) e h)
    (ap (λ (st : RowState). array_of st.side wide.first wide.second) (sym e) ∙ reference)
    (subst (λ (st : RowState). length (row_array_of c) < length (array_of (other_side st.side) wide.first wide.second)) e longer)
