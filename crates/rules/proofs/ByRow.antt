-- Laws of the row form (A1): what a call does, by cases; a call after the end repeats; 5 is never said; and the form takes its own states back: from them a
-- call reads the row that the page form reads. Assumes nothing.
use mathlib.Core.Path.{◌≡◌, refl, sym, ap, ap₂, ◌∙◌, subst}
use mathlib.Core.Logic.{◌⊎◌, inl, inr}
use mathlib.Core.Bool.{Bool, true, false, cond}
use mathlib.Core.List.{List, [], ◌∷◌, ◌++◌}
use Prim.Native.Nat.{ℕ, suc, ◌+◌, ◌-◌, ◌*◌, ◌≤◌, ◌<◌}
use native.Mathlib.Omega.{arith}
use lib.Dec.{eqb, leb, ltb}
use lib.ListN.{length, take, drop, length-append}
use lib.Seq.{take_at}
use borrow.Author.Tests.{leb-true, le-leb, le-ltb, ltb-true, ltb-false, eqb-true, eqb-false, ne_eqb}
use Rattle.rules.specs.Machine.{more, done}
use Rattle.rules.specs.Bits.{bits_of}
use Rattle.rules.specs.Lines.{Went, went, failed, two, read_line}
use Rattle.rules.specs.Rows.{Encoding, group4, group3_1_d, group3_2_d, Settings, State, RowOut, row, stop, rules_of}
use Rattle.rules.specs.Group4.{eols_before, after_line4}
use Rattle.rules.specs.Pages.{Kept, with_row, end_with, entries, row_of, strict_if_exact, too_few, unless_short, most_bytes, is_too_wide, overlaid}
use Rattle.rules.specs.Answers.{more_to_come}
use Rattle.rules.specs.InSteps.{says, most_counted}
use Rattle.rules.specs.ByRow.{Side, first, second, other, Arrays, array_at, written, End, unended, ended, RowState, between, room_in, RowStep, after_row, sound, leaves, refuses, no_columns, unless_few, row_here, next_row, tested, unless_ended, read_row, Caller, caller_with, does_go_on, call_step, over_of}
use Rattle.rules.proofs.Bits.{length-bits_of, both_true}
use Rattle.rules.proofs.Ascending.{rises-ascends}
use Rattle.rules.proofs.Lines.{read_whole, read-broken, data-bound}
use Rattle.rules.proofs.Eols.{eols-ahead}
use Rattle.rules.proofs.Budget.{Bytes, whole-bytes}
use Rattle.rules.proofs.Rows.{row4-cases}
use Rattle.rules.proofs.PageBack.{entries-snoc}
use Rattle.rules.proofs.Pages.{Goes, Does, row_goes, row-does, Held, held_start, held_next, page-kept}
use Rattle.rules.proofs.Marks.{RowMarked, row-marked}
use Rattle.rules.proofs.Entries.{Spared, spared-start, spared-next, spared-few}

-- ---- Any call

-- an end of the page, whose number is 14 where rows are lacking
module _ (S : Settings) (bytes : List ℕ) (p : RowState) (xs : Arrays) where
  pub few-cases : (n place b : ℕ) (loose : List ℕ) (C : RowOut → Type 0) → C (stop 14 0 0 loose) → C (stop n place b loose) → C (unless_few S bytes p xs (stop n place b loose))
  few-cases n place b loose C few enough = tests (too_few S n p.rows)
    where
      tests : (t : Bool) → C (cond t (stop 14 0 0 loose) (stop n place b loose))
      tests true = few
      tests false = enough

  -- what a call does, by cases: it repeats the end; refuses with 6, 7 or 8 and leaves everything; has no columns; or reads a row, to which belongs the page's end
  pub call-cases : (C : RowStep → Type 0)
      → ((n place b loose : ℕ) → p.end ≡ ended n place b loose → C (leaves S bytes p xs (says n place b p.rows p.entries loose)))
      → (p.end ≡ unended → is_too_wide S.columns ≡ true → C (refuses S bytes p xs 6))
      → (p.end ≡ unended → is_too_wide S.columns ≡ false → most_bytes < length bytes → C (refuses S bytes p xs 7))
      → (p.end ≡ unended → is_too_wide S.columns ≡ false → length bytes ≤ most_bytes → sound S bytes p xs ≡ false → C (refuses S bytes p xs 8))
      → (p.end ≡ unended → is_too_wide S.columns ≡ false → length bytes ≤ most_bytes → sound S bytes p xs ≡ true → S.columns ≡ 0 → C (no_columns S bytes p xs))
      → (p.end ≡ unended → is_too_wide S.columns ≡ false → length bytes ≤ most_bytes → sound S bytes p xs ≡ true → 0 < S.columns
      → (o : RowOut) → row_here S bytes p xs ≡ o → C (after_row p xs (unless_few S bytes p xs o)))
      → C (read_row S bytes p xs)
  unfolding read_row tested
  call-cases C repeats six seven eight none reads = cases p.end refl
    where
      tests : p.end ≡ unended → (a : Bool) → is_too_wide S.columns ≡ a → (b : Bool) → ltb most_bytes (length bytes) ≡ b → (c : Bool) → sound S bytes p xs ≡ c → (d : Bool) → eqb S.columns 0 ≡ d
          → C (elim a as (λ _. RowStep) [
            | true ↦ refuses S bytes p xs 6
            | false ↦ elim b as (λ _. RowStep) [
              | true ↦ refuses S bytes p xs 7
              | false ↦ elim c as (λ _. RowStep) [
                | false ↦ refuses S bytes p xs 8
                | true ↦ elim d as (λ _. RowStep) [ true ↦ no_columns S bytes p xs | false ↦ next_row S bytes p xs ]
              ]
            ]
          ])
      tests u true e b f c g d h = six u e
      tests u false e true f c g d h = seven u e (ltb-true most_bytes (length bytes) f)
      tests u false e false f false g d h = eight u e (ltb-false most_bytes (length bytes) f) g
      tests u false e false f true g true h = none u e (ltb-false most_bytes (length bytes) f) g (eqb-true S.columns 0 h)
      tests u false e false f true g false h =
          reads u e (ltb-false most_bytes (length bytes) f) g (let k : S.columns ≡ 0 → ⊥ = eqb-false S.columns 0 h in omega arith) (row_here S bytes p xs) refl

      cases : (e : End) → p.end ≡ e → C (unless_ended S bytes p xs e)
      cases unended u = tests u (is_too_wide S.columns) refl (ltb most_bytes (length bytes)) refl (sound S bytes p xs) refl (eqb S.columns 0) refl
      cases (ended n place b loose) u = repeats n place b loose u

  -- "A call after the end repeats the last answer and writes nothing", whatever it is lent, and with any settings and data.
  pub repeats-end : (S' : Settings) (bytes' : List ℕ) (ys : Arrays) → ((read_row S bytes p xs).said.number ≤ 4) ⊎ ((read_row S bytes p xs).said.number ≡ 14)
      → read_row S' bytes' (read_row S bytes p xs).state ys ≡ record { said = (read_row S bytes p xs).said; state = (read_row S bytes p xs).state; arrays = ys }
  unfolding read_row
  repeats-end S' bytes' ys = call-cases (λ d. Ends d → Repeats d)
      (λ n place b loose e h. ap (unless_ended S' bytes' p ys) e)
      (λ u e h. absurd (no_end 6 (omega arith) (omega arith) h))
      (λ u e f h. absurd (no_end 7 (omega arith) (omega arith) h))
      (λ u e f g h. absurd (no_end 8 (omega arith) (omega arith) h))
      (λ u e f g c h. refl)
      (λ u e f g c o q. rows o)
    where
      Ends : RowStep → Type 0
      Ends d = (d.said.number ≤ 4) ⊎ (d.said.number ≡ 14)

      Repeats : RowStep → Type 0
      Repeats d = read_row S' bytes' d.state ys ≡ record { said = d.said; state = d.state; arrays = ys }

      no_end : (n : ℕ) → 4 < n → (n ≡ 14 → ⊥) → (n ≤ 4) ⊎ (n ≡ 14) → ⊥
      no_end n h k (inl i) = omega arith
      no_end n h k (inr i) = k i

      rows : (o : RowOut) → Ends (after_row p xs (unless_few S bytes p xs o)) → Repeats (after_row p xs (unless_few S bytes p xs o))
      rows (row r mark next) h = absurd (no_end 15 (omega arith) (λ z. omega arith) h)
      rows (stop n place b loose) h = few-cases n place b loose (λ w. Repeats (after_row p xs w)) refl refl

  -- What a call says has a mark of A5's list, and 0 where it gives no row.
  pub call-marked : ((read_row S bytes p xs).said.mark ≤ 2) × (((read_row S bytes p xs).said.number ≡ more_to_come → ⊥) → (read_row S bytes p xs).said.mark ≡ 0)
  call-marked = call-cases Marked (λ n place b loose e. none) (λ u e. none) (λ u e f. none) (λ u e f g. none) (λ u e f g c. none)
      (λ u e f g c o q. rows o (subst RowMarked q (row-marked (strict_if_exact S) (bits_of bytes) (room_in p xs) (between p xs) S.encoding)))
    where
      Marked : RowStep → Type 0
      Marked d = (d.said.mark ≤ 2) × ((d.said.number ≡ more_to_come → ⊥) → d.said.mark ≡ 0)

      none : {A : Type 0} → (0 ≤ 2) × (A → ◌≡◌ {A = ℕ} 0 0)
      none = (omega arith, λ h. refl)

      rows : (o : RowOut) → RowMarked o → Marked (after_row p xs (unless_few S bytes p xs o))
      rows (row r mark next) h = (h, λ ne. absurd (ne refl))
      rows (stop n place b loose) h = few-cases n place b loose (λ w. Marked (after_row p xs w)) none none

-- ---- 5 is never said

-- a row has no more changes than the data has bits, and it ends the page with 0 to 4
abbrev pub Bounded : List Bool → RowOut → Type 0
Bounded bs (row r mark next) = length r ≤ length bs
Bounded bs (stop n place bytes loose) = n ≤ 4

-- So it is from any state that stands in the data.
pub row-bounded : (S : Settings) → 0 < S.columns → (bs : List Bool) → Bytes bs → (room : ℕ) (st : State) → st.at ≤ length bs → (enc : Encoding) → Bounded bs (row_of enc S bs room st)
unfolding row_of
row-bounded S wide bs bytes room st inside = kinds
  where
    of3 : (o : RowOut) → Does S bs room st o → Bounded bs o
    of3 (row r mark next) d = d.short
    of3 (stop n place b loose) d = d.numbered

    of4 : (w : Went) → read_line (rules_of S room) (two st.reference) bs (eols_before S bs st).at ≡ w → Bounded bs (after_line4 S bs st w)
    of4 (went l) e = let f = read_whole (rules_of S room) wide (two st.reference) bs (eols_before S bs st).at l e in omega (arith, f.few, f.inside)
    of4 (failed n place l) e =
        (read-broken (rules_of S room) wide (two st.reference) bs (eols_before S bs st).at (length bs) (data-bound bs) ((eols-ahead (cond S.end_of_block 2 (length bs)) bs st.at).inside inside) n place l e).numbered.1

    kinds : (enc : Encoding) → Bounded bs (row_of enc S bs room st)
    kinds group4 = row4-cases S bs room st (Bounded bs) (λ e. omega arith) (λ e. of4)
    kinds group3_1_d = of3 (row_of group3_1_d S bs room st) (row-does S wide bs bytes room st group3_1_d tt inside)
    kinds group3_2_d = of3 (row_of group3_2_d S bs room st) (row-does S wide bs bytes room st group3_2_d tt inside)

-- a state that passes 8 stands in the data
sound-inside : (S : Settings) (bytes : List ℕ) (p : RowState) (xs : Arrays) → sound S bytes p xs ≡ true → p.at ≤ 8 * length bytes
unfolding sound
sound-inside S bytes p xs e = leb-true p.at (8 * length bytes) (both_true (leb p.at (8 * length bytes)) _ e).0

-- "answer 5 can't occur": before its end a page is 0 to 4, or 14; 6, 7 or 8; or 15.
pub never-five : (S : Settings) (bytes : List ℕ) (p : RowState) (xs : Arrays) → p.end ≡ unended → (read_row S bytes p xs).said.number ≡ 5 → ⊥
never-five S bytes p xs open' =
    call-cases S bytes p xs (λ d. d.said.number ≡ 5 → ⊥) (λ n place b loose e. absurd (let z : ◌≡◌ {A = ℕ} 0 1 = cc in omega arith))
    (λ u e z. omega arith) (λ u e f z. omega arith) (λ u e f g z. omega arith) (λ u e f g c z. omega arith)
    (λ u e f g wide o q. rows o
    (subst (Bounded (bits_of bytes)) q
    (row-bounded (strict_if_exact S) wide (bits_of bytes) (whole-bytes bytes) (room_in p xs) (between p xs) (omega (arith, sound-inside S bytes p xs g, length-bits_of bytes)) S.encoding)))
  where
    rows : (o : RowOut) → Bounded (bits_of bytes) o → (after_row p xs (unless_few S bytes p xs o)).said.number ≡ 5 → ⊥
    rows (row r mark next) h = λ z. omega arith
    rows (stop n place b loose) h = few-cases S bytes p xs n place b loose (λ w. (after_row p xs w).said.number ≡ 5 → ⊥) (λ z. omega arith) (λ z. omega arith)

-- Where a row is given the arrays have changed places: it lies in the one that it went to. Else the reference is where it was.
module _ (S : Settings) (bytes : List ℕ) (p : RowState) (xs : Arrays) (listed : (n place b loose : ℕ) → p.end ≡ ended n place b loose → n ≡ more_to_come → ⊥) where
  abbrev Sided : RowStep → Type 0
  Sided d = (d.said.number ≡ more_to_come → d.state.side ≡ other p.side) × ((d.said.number ≡ more_to_come → ⊥) → d.state.side ≡ p.side)

  pub call-sides : Sided (read_row S bytes p xs)
  call-sides =
      call-cases S bytes p xs Sided (λ n place b loose e. (λ z. absurd (listed n place b loose e z), λ h. refl))
      (λ u e. (λ z. absurd (omega arith), λ h. refl)) (λ u e f. (λ z. absurd (omega arith), λ h. refl)) (λ u e f g. (λ z. absurd (omega arith), λ h. refl)) (λ u e f g c. (λ z. absurd (omega arith), λ h. refl))
      (λ u e f g wide o q. rows o
      (subst (Bounded (bits_of bytes)) q
      (row-bounded (strict_if_exact S) wide (bits_of bytes) (whole-bytes bytes) (room_in p xs) (between p xs) (omega (arith, sound-inside S bytes p xs g, length-bits_of bytes)) S.encoding)))
    where
      rows : (o : RowOut) → Bounded (bits_of bytes) o → Sided (after_row p xs (unless_few S bytes p xs o))
      rows (row r mark next) h = (λ z. refl, λ ne. absurd (ne refl))
      rows (stop n place b loose) h = few-cases S bytes p xs n place b loose (λ w. Sided (after_row p xs w)) (λ z. absurd (omega arith), λ ne. refl) (λ z. absurd (omega arith), λ ne. refl)

-- ---- The arrays

-- a row lies where it was written
at-written : (side : Side) (r : List ℕ) (xs : Arrays) → array_at side (written side r xs) ≡ overlaid r (array_at side xs)
at-written first r xs = refl
at-written second r xs = refl

row_written : (side : Side) (r : List ℕ) (xs : Arrays) → take (length r) (array_at side (written side r xs)) ≡ r
unfolding overlaid
row_written side r xs = ap (take (length r)) (at-written side r xs) ∙ take_at r (drop (length r) (array_at side xs)) (length r) refl

written-longer : (side : Side) (r : List ℕ) (xs : Arrays) → length r ≤ length (array_at side (written side r xs))
unfolding overlaid
written-longer side r xs = omega (arith, ap length (at-written side r xs), length-append r (drop (length r) (array_at side xs)))

-- ---- Its own states

module _ (S : Settings) (wide : 0 < S.columns) (bytes : List ℕ) where
  abbrev pub bs : List Bool
  bs = bits_of bytes

  -- the settings under which the page is read
  abbrev pub T : Settings
  T = strict_if_exact S

  abbrev pub HeldIn : ℕ → ℕ → Kept → Type 0
  HeldIn store places k = Held S.encoding T wide bs (whole-bytes bytes) store places k

  -- what holds between rows does not depend on the store, as long as the rows fit it
  resized : (store places store' places' : ℕ) (k : Kept) → entries k.rows ≤ store' → length k.rows ≤ places' → HeldIn store places k → HeldIn store' places' k
  resized store places store' places' k roomy placed h = record {
    counted = h.counted;
    inside = h.inside;
    reference = h.reference;
    rising = h.rising;
    placed = placed;
    roomy = roomy;
    budget = h.budget;
    fitting = h.fitting;
    few = h.few;
  }

  -- the page form's state after the same rows
  abbrev pub kept_of : Caller → Kept
  kept_of c = record { state = between c.state c.arrays; rows = c.rows; marks = c.marks }

  -- What holds of a state that the form hands back after a row: the page has not ended, and what holds between the rows of a page holds, in a store of any size.
  pub record Own (c : Caller) : Type 0 where
    pub held : HeldIn (entries c.rows) (length c.rows) (kept_of c)
    pub spared : Spared S.encoding T wide bs (whole-bytes bytes) (kept_of c)
    pub unended-yet : c.state.end ≡ unended
    pub counted : c.state.entries ≡ entries c.rows
    pub within : c.state.held ≤ length (array_at c.state.side c.arrays)
    pub short : c.state.held ≤ length bs

  pub own-start : (xs : Arrays) → Own (caller_with xs)
  unfolding entries
  own-start xs = record {
    held = held_start S.encoding T wide bs (whole-bytes bytes) 0 0;
    spared = spared-start S.encoding T wide bs (whole-bytes bytes);
    unended-yet = refl;
    counted = refl;
    within = omega arith;
    short = omega arith;
  }

  -- They are never refused with 8.
  pub own-sound : (c : Caller) → Own c → sound S bytes c.state c.arrays ≡ true
  unfolding sound
  own-sound c o =
      let h = o.held in
      rw (
        le-leb c.state.at (8 * length bytes) (omega (arith, h.inside, length-bits_of bytes)),
        le-leb c.state.held (length (array_at c.state.side c.arrays)) o.within,
        le-leb c.state.held (most_counted bytes) (omega (arith, o.short, length-bits_of bytes)),
        le-leb c.state.rows (most_counted bytes) (omega (arith, h.counted, h.few, h.inside, length-bits_of bytes)),
        le-leb c.state.entries (most_counted bytes) (omega (arith, o.counted, length-bits_of bytes, spared-few S.encoding T wide bs (whole-bytes bytes) _ _ 0 (kept_of c) h o.spared)),
      )
      (rises-ascends h.reference)

  -- nor do they depend on the array that the row goes to
  pub own-lent : (c : Caller) → Own c → (ys : Arrays) → array_at c.state.side ys ≡ array_at c.state.side c.arrays → Own (record { state = c.state; arrays = ys; rows = c.rows; marks = c.marks })
  own-lent c o ys e =
      let same : between c.state c.arrays ≡ between c.state ys = ap (λ (l : List ℕ). record { at = c.state.at; reference = take c.state.held l; count = c.state.rows; eols = c.state.eols }) (sym e) in
      record {
        held = subst (λ (s : State). HeldIn (entries c.rows) (length c.rows) (record { state = s; rows = c.rows; marks = c.marks })) same o.held;
        spared = subst (λ (s : State). Spared S.encoding T wide bs (whole-bytes bytes) (record { state = s; rows = c.rows; marks = c.marks })) same o.spared;
        unended-yet = o.unended-yet;
        counted = o.counted;
        within = subst (λ (l : List ℕ). c.state.held ≤ length l) (sym e) o.within;
        short = o.short;
      }

  -- ---- One call

  abbrev pub row_at : ℕ → State → RowOut
  row_at = row_of S.encoding T bs

  -- what the next row does
  abbrev pub row_in : Caller → RowOut
  row_in c = row_at (room_in c.state c.arrays) (between c.state c.arrays)

  -- after a row
  abbrev pub given : Caller → List ℕ → ℕ → State → Caller
  given c r mark next = record {
    state = (after_row c.state c.arrays (row r mark next)).state;
    arrays = written (other c.state.side) r c.arrays;
    rows = c.rows ++ r ∷ [];
    marks = c.marks ++ mark ∷ [];
  }

  module _ (c : Caller) (o : Own c) where
    abbrev room : ℕ
    room = room_in c.state c.arrays

    pub does : Does T bs room (between c.state c.arrays) (row_in c)
    does = row-does T wide bs (whole-bytes bytes) room (between c.state c.arrays) S.encoding o.held.fitting o.held.inside

    module _ (r : List ℕ) (mark : ℕ) (next : State) (e : row_in c ≡ row r mark next) where
      -- the state between the rows is the page form's
      pub between-given : between (given c r mark next).state (given c r mark next).arrays ≡ next
      between-given =
          let g = subst (Goes bs (between c.state c.arrays)) e (row_goes T wide bs (whole-bytes bytes) room (between c.state c.arrays) S.encoding) in
          let m = subst (Does T bs room (between c.state c.arrays)) e does in
          ap₂ (λ (l : List ℕ) (n : ℕ). record { at = next.at; reference = l; count = n; eols = next.eols })
          (row_written (other c.state.side) r c.arrays ∙ sym m.refers)
          (sym g.counted)

      -- a store with just this room
      abbrev store : ℕ
      store = entries c.rows + room

      abbrev places : ℕ
      places = suc (length c.rows)

      before : HeldIn store places (kept_of c)
      before = resized (entries c.rows) (length c.rows) store places (kept_of c) (omega arith) (omega arith) o.held

      after : HeldIn store places (with_row (kept_of c) r mark next)
      after =
          held_next S.encoding T wide bs (whole-bytes bytes) store places (kept_of c) (with_row (kept_of c) r mark next) before
          (page-kept S.encoding T wide bs (whole-bytes bytes) store places (kept_of c) r mark next
          (ap (λ (n : ℕ). row_at n (between c.state c.arrays)) (let z : store - entries c.rows ≡ room = omega arith in z) ∙ e) (omega arith))

      pub own-next : Own (given c r mark next)
      own-next = record {
        held = resized store places (entries (c.rows ++ r ∷ [])) (length (c.rows ++ r ∷ [])) (kept_of (given c r mark next)) (omega arith) (omega arith)
            (subst (λ (s : State). HeldIn store places (with_row (kept_of c) r mark s)) (sym between-given) after);
        spared = subst (λ (s : State). Spared S.encoding T wide bs (whole-bytes bytes) (with_row (kept_of c) r mark s)) (sym between-given)
            (spared-next S.encoding T wide bs (whole-bytes bytes) store places room (kept_of c) before o.spared r mark next e);
        unended-yet = refl;
        counted = ap (λ (n : ℕ). n + length r) o.counted ∙ sym (entries-snoc c.rows r);
        within = written-longer (other c.state.side) r c.arrays;
        short = (subst (Does T bs room (between c.state c.arrays)) e does).short;
      }

  module _ (narrow : is_too_wide S.columns ≡ false) (size : length bytes ≤ most_bytes) where
    -- once its tests are passed, a call reads a row
    pub tests-pass : (p : RowState) (xs : Arrays) → sound S bytes p xs ≡ true → tested S bytes p xs ≡ next_row S bytes p xs
    unfolding tested
    tests-pass p xs e = rw (narrow, le-ltb most_bytes (length bytes) size, e, ne_eqb S.columns 0 (λ z. omega arith), tested)

    module _ (c : Caller) (o : Own c) where
      -- A call with a state of its own reads a row.
      pub own-reads : read_row S bytes c.state c.arrays ≡ next_row S bytes c.state c.arrays
      unfolding read_row
      own-reads = ap (unless_ended S bytes c.state c.arrays) o.unended-yet ∙ tests-pass c.state c.arrays (own-sound c o)

      -- so it gives the row,
      pub call-gives : (r : List ℕ) (mark : ℕ) (next : State) → row_in c ≡ row r mark next → call_step S bytes c ≡ more (given c r mark next)
      unfolding call_step
      call-gives r mark next e =
          rw (own-reads, e)
          (ap (λ (l : List ℕ). more (record { state = (given c r mark next).state; arrays = (given c r mark next).arrays; rows = c.rows ++ l ∷ []; marks = c.marks ++ mark ∷ [] })) (row_written (other c.state.side) r c.arrays))

      -- or the page's end
      pub call_ends : (n place b : ℕ) (loose : List ℕ) → row_in c ≡ stop n place b loose → call_step S bytes c ≡ done (over_of (unless_short S (end_with (kept_of c) n place b loose)))
      unfolding call_step
      call_ends n place b loose e =
          let m = subst (Does T bs (room_in c.state c.arrays) (between c.state c.arrays)) e (does c o) in
          rw (own-reads, e)
          (tests (too_few S n c.state.rows) (omega (arith, m.numbered))
          ∙ ap (λ (k : ℕ). done (over_of (cond (too_few S n k) (end_with (kept_of c) 14 0 0 loose) (end_with (kept_of c) n place b loose)))) o.held.counted)
        where
          ended_so : (n place b : ℕ) → (n ≡ 15 → ⊥)
              → does_go_on c (after_row c.state c.arrays (stop n place b loose)) (eqb n 15) ≡ done (over_of (end_with (kept_of c) n place b loose))
          ended_so n place b ne =
              rw (ne_eqb n 15 ne, o.counted, o.held.counted)
              (ap (λ (l : List ℕ). done (record { said = says n place b (length c.rows) (entries c.rows) (length loose); rows = c.rows; marks = c.marks; loose = l })) (row_written (other c.state.side) loose c.arrays))

          -- 14 is put where the page form has it, by the same test
          tests : (t : Bool) → (n ≡ 15 → ⊥)
              → does_go_on c (after_row c.state c.arrays (cond t (stop 14 0 0 loose) (stop n place b loose))) (eqb (after_row c.state c.arrays (cond t (stop 14 0 0 loose) (stop n place b loose))).said.number 15)
              ≡ done (over_of (cond t (end_with (kept_of c) 14 0 0 loose) (end_with (kept_of c) n place b loose)))
          tests true ne = ended_so 14 0 0 (λ z. omega arith)
          tests false ne = ended_so n place b ne
