-- Laws of pages, over the encoding: each row moves on, so a page ends; its rows ascend strictly below the width; there are at most as many as bits and one; and their
-- entries are less than twice the bits, so that row ends and counts fit 64 bits. Assumes nothing.
use mathlib.Core.Path.{◌≡◌, refl, sym, ap, ◌∙◌, subst}
use mathlib.Core.Logic.{⊎_elim}
use mathlib.Core.Bool.{Bool, true, false, cond, not, ◌&&◌, ◌||◌}
use mathlib.Core.List.{List, [], ◌∷◌, ◌++◌, append_assoc, append-nil}
use Prim.Native.Nat.{ℕ, suc, ◌+◌, ◌-◌, ◌*◌, ◌≤◌, ◌<◌}
use native.Mathlib.Omega.{arith}
use lib.Dec.{eqb, leb, ltb}
use lib.ListN.{length, length-append}
use borrow.Author.Tests.{leb-false, ltb-true, ltb-false, lt-ltb, le-ltb, eqb-true, eqb-false, ne_eqb}
use Rattle.rules.specs.Machine.{Out, more, done, run, ends}
use Rattle.rules.specs.Lines.{Rules, Line, Went, went, failed, push, two, read_line}
use Rattle.rules.specs.Rows.{Encoding, group4, group3_1_d, group3_2_d, Settings, State, recovered_mark, RowOut, row, stop, rules_of, bytes_to, aligned_if}
use Rattle.rules.specs.Group4.{eols_before, over, after_line4, row4}
use Rattle.rules.specs.Group3.{Tagging, untagged, tagged, Before, at_line, at_end, before, line3, kept, whitened, after_line3, row3}
use Rattle.rules.specs.Pages.{Answer, Kept, none_kept, with_row, end_with, entries, keep_row, page_step, rows_left, page_of, row_of, read_page}
use Rattle.rules.proofs.Machine.{Falls, run-ind, ends-ind, ends-stops}
use Rattle.rules.specs.Rising as Asc
use Rattle.rules.specs.Rising.{Rising, Rows, no_rows, row_then}
use Rattle.rules.proofs.PageBack.{entries-snoc}
use Rattle.rules.proofs.Lines.{Whole, read_whole, read-broken, data-bound, Each, Pushes, PushFails, push-pushes}
use Rattle.rules.proofs.Eols.{Ahead, eols-ahead, reach, reaches}
use Rattle.rules.proofs.Budget.{Budgeted, Budget, Due, Bytes, aligned-ahead, Starts, Sets, before-sets}
use Rattle.rules.proofs.Spare.{Blank, push-blank}
use Rattle.rules.proofs.Rows.{row4-cases, row3-cases, mended-cases, line3-whole, Damaged, line3-damaged, mended}

-- ---- What one row does

-- a row that is kept moves the reader on, unless it is the first
pub record Onward (bs : List Bool) (st next : State) : Type 0 where
  pub counted : next.count ≡ suc st.count
  pub forward : st.at ≤ next.at
  pub further : (st.count ≡ 0 → ⊥) → (st.at < next.at) × (st.at < length bs)

-- it is the next reference, ascends strictly below the width, and keeps the budget
pub record Moved (S : Settings) (bs : List Bool) (room : ℕ) (st : State) (r : List ℕ) (next : State) : Type 0 where
  pub refers : next.reference ≡ r
  pub rising : Rising S.columns 0 r
  pub roomy : length r ≤ room
  pub short : length r ≤ length bs
  pub inside : next.at ≤ length bs
  pub budget : (n : ℕ) → (st.count ≡ 0 → n ≡ 0) → Budget bs st n → Budget bs next (n + length r)

-- a page's end, with 0 to 4
pub record Stopped (bs : List Bool) (room n bytes : ℕ) (loose : List ℕ) : Type 0 where
  pub numbered : n ≤ 4
  pub clean : n ≡ 0 → loose ≡ []
  pub roomy : length loose ≤ room
  pub short : length loose ≤ length bs
  pub few_bytes : bytes ≤ bytes_to (length bs)

abbrev pub Goes : List Bool → State → RowOut → Type 0
Goes bs st (row r mark next) = Onward bs st next
Goes bs st (stop n place bytes loose) = Unit {0}

abbrev pub Does : Settings → List Bool → ℕ → State → RowOut → Type 0
Does S bs room st (row r mark next) = Moved S bs room st r next
Does S bs room st (stop n place bytes loose) = Stopped bs room n bytes loose

finished-stops : (bs : List Bool) (room at : ℕ) → at ≤ length bs → Stopped bs room 0 (bytes_to at) []
finished-stops bs room at h = record { numbered = omega arith; clean = λ q. refl; roomy = omega arith; short = omega arith; few_bytes = omega arith }

-- a Group 4 page expects no EOLs
abbrev pub Fitting : Encoding → Bool → Type 0
Fitting group4 eols = eols ≡ false
Fitting group3_1_d eols = Unit {0}
Fitting group3_2_d eols = Unit {0}

module _ (S : Settings) (wide : 0 < S.columns) (bs : List Bool) (bytes : Bytes bs) (room : ℕ) (st : State) where
  -- ---- Group 4

  abbrev at4 : ℕ
  at4 = (eols_before S bs st).at

  ahead4 : Ahead bs st.at (eols_before S bs st)
  ahead4 = eols-ahead (cond S.end_of_block 2 (length bs)) bs st.at

  more4 : over S bs st (eols_before S bs st) ≡ false → at4 < length bs
  more4 = tests (S.end_of_block && leb 2 (eols_before S bs st).count) (not (eqb S.rows 0) && eqb st.count S.rows) (leb (length bs) at4) refl
    where
      tests : (a b c : Bool) → leb (length bs) at4 ≡ c → (a || (b || c)) ≡ false → at4 < length bs
      tests false false false q e = leb-false (length bs) at4 q
      tests false false true q e = absurd (let z : ◌≡◌ {A = ℕ} 0 1 = cc in omega arith)
      tests false true c q e = absurd (let z : ◌≡◌ {A = ℕ} 0 1 = cc in omega arith)
      tests true b c q e = absurd (let z : ◌≡◌ {A = ℕ} 0 1 = cc in omega arith)

  row4-goes : Goes bs st (row4 S bs room st)
  row4-goes = row4-cases S bs room st (Goes bs st) (λ e. tt) (λ e. cases (more4 e))
    where
      cases : at4 < length bs → (w : Went) → read_line (rules_of S room) (two st.reference) bs at4 ≡ w → Goes bs st (after_line4 S bs st w)
      cases l (went s) e =
          let f = read_whole (rules_of S room) wide (two st.reference) bs at4 s e in
          let a = aligned-ahead bs bytes S.aligned s.at in
          record {
            counted = refl;
            forward = omega (arith, a.0, f.some_bits, ahead4.forward);
            further = λ n. (omega (arith, a.0, f.some_bits, ahead4.forward), omega (arith, ahead4.forward));
          }
      cases l (failed n p s) e = tt

  row4-does : st.eols ≡ false → st.at ≤ length bs → Does S bs room st (row4 S bs room st)
  row4-does plain inside' =
      row4-cases S bs room st (Does S bs room st) (λ e. finished-stops bs room at4 (ahead4.inside inside')) (λ e. cases (more4 e))
    where
      cases : at4 < length bs → (w : Went) → read_line (rules_of S room) (two st.reference) bs at4 ≡ w → Does S bs room st (after_line4 S bs st w)
      cases l (went s) e =
          let f = read_whole (rules_of S room) wide (two st.reference) bs at4 s e in
          let a = aligned-ahead bs bytes S.aligned s.at in
          record {
            refers = refl;
            rising = f.rising;
            roomy = f.roomy;
            short = omega (arith, f.few, f.inside);
            inside = a.1 f.inside;
            budget = λ n z w.
                let v : n ≤ st.at + (length bs - 1) = subst (Budgeted bs st.at n) plain w in
                subst (Budgeted bs (aligned_if S.aligned s.at) (n + length s.changes)) (sym plain) (omega (arith, a.0, f.few, ahead4.forward));
          }
      cases l (failed n p s) e =
          let f = read-broken (rules_of S room) wide (two st.reference) bs at4 (length bs) (data-bound bs) (omega arith) n p s e in
          record {
            numbered = f.numbered.1;
            clean = λ z. absurd (omega (arith, f.numbered.0));
            roomy = f.line.roomy;
            short = omega (arith, f.line.few, f.line.inside);
            few_bytes = omega arith;
          }

  -- ---- Group 3

  module _ (t : Tagging) where
    abbrev R : Rules
    R = rules_of S room

    sets : (b : Before S t bs) → before S t bs st (eqb st.count 0) ≡ b → Sets S t bs bytes st b
    sets b e = subst (Sets S t bs bytes st) e (before-sets S t bs bytes st)

    row3-goes : Goes bs st (row3 S t bs room st)
    row3-goes = row3-cases S t bs room st (Goes bs st) (λ at e. tt) (λ at e. tt) (λ at expected e. cases at expected (sets (at_line at expected) e))
      where
        kept_goes : (at : ℕ) (expected : Bool) → Starts bs st at expected → expected ≡ true → (w : Went) → Goes bs st (kept S t bs st expected at recovered_mark w)
        kept_goes at expected f q (went u) = record { counted = refl; forward = f.forward; further = λ n. (f.after-eol n q, omega (arith, f.forward, f.left n)) }
        kept_goes at expected f q (failed n p u) = tt

        cases : (at : ℕ) (expected : Bool) → Starts bs st at expected → (w : Went) → line3 S t bs R st.reference at t ≡ w → Goes bs st (after_line3 S t bs R st at expected w)
        cases at expected f (went l) e =
            let g = line3-whole S t bs R wide st.reference at l e in
            record {
              counted = refl;
              forward = omega (arith, f.forward, g.some_bits);
              further = λ n. (omega (arith, f.forward, g.some_bits), omega (arith, f.forward, f.left n));
            }
        cases at expected f (failed n p l) e = mended-cases S t bs R st at expected n p l (Goes bs st) (λ q s h w d. kept_goes at expected f q w) tt

    row3-does : st.at ≤ length bs → Does S bs room st (row3 S t bs room st)
    row3-does inside' =
        row3-cases S t bs room st (Does S bs room st)
        (λ at e. finished-stops bs room at (sets (at_end at) e inside'))
        (λ at e. record { numbered = omega arith; clean = λ z. absurd (omega arith); roomy = omega arith; short = omega arith; few_bytes = omega arith })
        (λ at expected e. cases at expected (sets (at_line at expected) e))
      where
        -- a mended row, or one for whose last change there is no room
        kept-does : (at : ℕ) (expected : Bool) → Starts bs st at expected → expected ≡ true → (n : ℕ) (l : Line) → Damaged S t bs R wide st.reference at n l
            → (w : Went) → push R 0 (R.width - l.position) (whitened S t bs l) ≡ w → Does S bs room st (kept S t bs st expected at recovered_mark w)
        kept-does at expected f q n l d (went u) e =
            let m = mended S t bs R wide st.reference at n l u d e in
            let i = f.inside inside' in
            record {
              refers = refl;
              rising = m.rising;
              roomy = m.roomy;
              short = ⊎_elim (λ z. omega (arith, ap length z)) (λ h. omega (arith, (reaches bs at).inside)) m.few;
              inside = i;
              budget = λ n z w.
                  let v : n ≤ at = subst (Due bs at n) q (f.due n z w) in
                  subst (Budgeted bs at (n + length u.changes)) (sym q)
                  (⊎_elim
                  (λ z. (omega (arith, (reaches bs at).here i, ap length z), λ y. omega (arith, ap length z)))
                  (λ h. (omega arith, λ y. omega (arith, (reaches bs at).inside)))
                  m.few);
            }
        kept-does at expected f q n l d (failed m p u) e =
            let g = subst (Each (Pushes R (reach bs at) at (whitened S t bs l)) (PushFails R (reach bs at) at (whitened S t bs l))) e (push-pushes R (reach bs at) at 0 (R.width - l.position) (whitened S t bs l)) in
            let i = (reaches bs at).inside in
            ⊎_elim
            (λ z. let b : u.changes ≡ [] = subst Blank e (push-blank R 0 (R.width - l.position) (whitened S t bs l) z refl) in
            record { numbered = g.1; clean = λ y. b; roomy = omega (arith, ap length b); short = omega (arith, ap length b); few_bytes = omega arith })
            (λ w. let k = g.3 1 (record { inside = w.inside; few = w.few; fits = w.fits; rising = w.rising; roomy = w.roomy }) in
            record { numbered = g.1; clean = λ y. absurd (omega (arith, g.0)); roomy = k.roomy; short = omega (arith, k.few, k.inside); few_bytes = omega arith })
            d.spare

        cases : (at : ℕ) (expected : Bool) → Starts bs st at expected → (w : Went) → line3 S t bs R st.reference at t ≡ w → Does S bs room st (after_line3 S t bs R st at expected w)
        cases at expected f (went l) e =
            let g = line3-whole S t bs R wide st.reference at l e in
            record {
              refers = refl;
              rising = g.rising;
              roomy = g.roomy;
              short = omega (arith, g.few, g.inside);
              inside = g.inside;
              budget = λ n z w. read-budget expected n l g (f.due n z w);
            }
          where
            read-budget : (b : Bool) (n : ℕ) (l : Line) → Whole R bs at l → Due bs at n b → Budgeted bs l.at (n + length l.changes) b
            read-budget true n l g h = (omega (arith, g.few, (reaches bs l.at).here g.inside), λ z. absurd (omega (arith, g.some_bits)))
            read-budget false n l g h = omega (arith, g.few)
        cases at expected f (failed n p l) e =
            let d = line3-damaged S t bs R wide st.reference at (f.inside inside') n p l e in
            let i = (reaches bs at).inside in
            mended-cases S t bs R st at expected n p l (Does S bs room st)
            (λ q s h w c. kept-does at expected f q n l d w c)
            (record { numbered = d.numbered.1; clean = λ z. absurd (omega (arith, d.numbered.0)); roomy = d.line.roomy; short = omega (arith, d.line.few, d.line.inside); few_bytes = omega arith })

  -- ---- Any encoding

  pub row_goes : (enc : Encoding) → Goes bs st (row_of enc S bs room st)
  unfolding row_of
  row_goes group4 = row4-goes
  row_goes group3_1_d = row3-goes untagged
  row_goes group3_2_d = row3-goes tagged

  pub row-does : (enc : Encoding) → Fitting enc st.eols → st.at ≤ length bs → Does S bs room st (row_of enc S bs room st)
  unfolding row_of
  row-does group4 f i = row4-does f i
  row-does group3_1_d f i = row3-does untagged i
  row-does group3_2_d f i = row3-does tagged i

  abbrev Stays : Encoding → RowOut → Type 0
  Stays enc (row r mark next) = Fitting enc next.eols
  Stays enc (stop n place b loose) = Unit {0}

  row_stays : (enc : Encoding) → Fitting enc st.eols → Stays enc (row_of enc S bs room st)
  unfolding row_of
  row_stays group4 f = row4-cases S bs room st (Stays group4) (λ e. tt) (λ e w q. cases w)
    where
      cases : (w : Went) → Stays group4 (after_line4 S bs st w)
      cases (went l) = f
      cases (failed n p l) = tt
  row_stays group3_1_d f = any (row_of group3_1_d S bs room st)
    where
      any : (o : RowOut) → Stays group3_1_d o
      any (row r mark next) = tt
      any (stop n place b loose) = tt
  row_stays group3_2_d f = any (row_of group3_2_d S bs room st)
    where
      any : (o : RowOut) → Stays group3_2_d o
      any (row r mark next) = tt
      any (stop n place b loose) = tt

-- ---- The page machine

-- one row more
rows_snoc : {width : ℕ} {rs : List (List ℕ)} {r : List ℕ} → Rows width rs → Rising width 0 r → Rows width (rs ++ r ∷ [])
rows_snoc no_rows h = row_then h no_rows
rows_snoc (row_then k rs) h = row_then k (rows_snoc rs h)

no-entries : (rows : List (List ℕ)) → length rows ≡ 0 → entries rows ≡ 0
unfolding entries
no-entries [] q = refl
no-entries (r ∷ rows) q = absurd (omega arith)

module _ (enc : Encoding) (S : Settings) (wide : 0 < S.columns) (bs : List Bool) (bytes : Bytes bs) (store places : ℕ) where
  abbrev pub step : Kept → Out Kept Answer
  step = page_step (row_of enc S bs) store places

  abbrev pub room_for : Kept → ℕ
  room_for k = store - entries k.rows

  -- what one step does, by cases: a row is kept; it is complete and no row end is left; or the page ends
  pub page-cases : (k : Kept) (C : Out Kept Answer → Type 0)
      → ((r : List ℕ) (mark : ℕ) (next : State) → row_of enc S bs (room_for k) k.state ≡ row r mark next → length k.rows < places → C (more (with_row k r mark next)))
      → ((r : List ℕ) (mark : ℕ) (next : State) → row_of enc S bs (room_for k) k.state ≡ row r mark next → places ≤ length k.rows → C (done (end_with k 5 0 0 r)))
      → ((n p b : ℕ) (loose : List ℕ) → row_of enc S bs (room_for k) k.state ≡ stop n p b loose → C (done (end_with k n p b loose)))
      → C (step k)
  unfolding page_step
  page-cases k C keeps full ends' = cases (row_of enc S bs (room_for k) k.state) refl
    where
      cases : (o : RowOut) → row_of enc S bs (room_for k) k.state ≡ o → C (keep_row (row_of enc S bs) store places k o)
      cases (row r mark next) e = tests (ltb (length k.rows) places) refl
        where
          tests : (b : Bool) → ltb (length k.rows) places ≡ b
              → C (cond b (more (with_row k r mark next)) (done (end_with k 5 0 0 r)))
          tests true q = keeps r mark next e (ltb-true _ _ q)
          tests false q = full r mark next e (ltb-false _ _ q)
      cases (stop n p b loose) e = ends' n p b loose e

  -- the same, as equations
  module _ (k : Kept) where
    pub page-kept : (r : List ℕ) (mark : ℕ) (next : State) → row_of enc S bs (room_for k) k.state ≡ row r mark next → length k.rows < places → step k ≡ more (with_row k r mark next)
    unfolding page_step
    page-kept r mark next e h = rw (e, lt-ltb _ _ h)

    pub page-full : (r : List ℕ) (mark : ℕ) (next : State) → row_of enc S bs (room_for k) k.state ≡ row r mark next → places ≤ length k.rows
        → step k ≡ done (end_with k 5 0 0 r)
    unfolding page_step
    page-full r mark next e h = rw (e, le-ltb _ _ h)

    pub page-stopped : (n p b : ℕ) (loose : List ℕ) → row_of enc S bs (room_for k) k.state ≡ stop n p b loose
        → step k ≡ done (end_with k n p b loose)
    unfolding page_step
    page-stopped n p b loose e = rw e

  -- each row but the first takes a bit
  pub page-falls : Falls step (rows_left bs)
  page-falls k j =
      page-cases k (λ o. o ≡ more j → rows_left bs j < rows_left bs k)
      (λ r mark next e l q. let g : with_row k r mark next ≡ j = cc in
      subst (λ (x : Kept). rows_left bs x < rows_left bs k) g (falls next (subst (Goes bs k.state) e (row_goes S wide bs bytes (room_for k) k.state enc))))
      (λ r mark next e l q. absurd (let z : ◌≡◌ {A = ℕ} 0 1 = cc in omega arith))
      (λ n p b loose e q. absurd (let z : ◌≡◌ {A = ℕ} 0 1 = cc in omega arith))
    where
      falls : (next : State) → Onward bs k.state next → length bs - next.at + cond (eqb next.count 0) 1 0 < length bs - k.state.at + cond (eqb k.state.count 0) 1 0
      falls next o = tests (eqb k.state.count 0) refl
        where
          none_left : eqb next.count 0 ≡ false
          none_left = ne_eqb next.count 0 (λ z. omega (arith, o.counted))

          tests : (b : Bool) → eqb k.state.count 0 ≡ b → length bs - next.at + cond (eqb next.count 0) 1 0 < length bs - k.state.at + cond b 1 0
          tests true q = rw none_left (omega (arith, o.forward))
          tests false q = let f = o.further (eqb-false k.state.count 0 q) in rw none_left (omega arith)

  -- The rows kept, and their marks, stay the first of the answer's.
  abbrev pub Behind : Kept → Answer → Type 0
  Behind k a = (rest : List (List ℕ)) × (a.rows ≡ k.rows ++ rest) × (later : List ℕ) × (a.marks ≡ k.marks ++ later)

  pub run-behind : (n : ℕ) (k : Kept) (a : Answer) → run step n k ≡ done a → Behind k a
  run-behind n k a e = run-ind step Behind base onward n k a e
    where
      here : (k : Kept) (n p b : ℕ) (loose : List ℕ) → Behind k (end_with k n p b loose)
      here k n p b loose = ([], sym (append-nil k.rows), [], sym (append-nil k.marks))

      longer : (k : Kept) (r : List ℕ) (mark : ℕ) (next : State) (a : Answer) → Behind (with_row k r mark next) a → Behind k a
      longer k r mark next a (rest, x, later, y) = (r ∷ rest, x ∙ append_assoc k.rows (r ∷ []) rest, mark ∷ later, y ∙ append_assoc k.marks (mark ∷ []) later)

      base : (k : Kept) (a : Answer) → step k ≡ done a → Behind k a
      base k a =
          page-cases k (λ o. o ≡ done a → Behind k a)
          (λ r mark next e l q. absurd (let z : ◌≡◌ {A = ℕ} 0 1 = cc in omega arith))
          (λ r mark next e l q. subst (Behind k) (let g : end_with k 5 0 0 r ≡ a = cc in g) (here k 5 0 0 r))
          (λ n p b loose e q. subst (Behind k) (let g : end_with k n p b loose ≡ a = cc in g) (here k n p b loose))

      onward : (k j : Kept) (a : Answer) → step k ≡ more j → Behind j a → Behind k a
      onward k j a =
          page-cases k (λ o. o ≡ more j → Behind j a → Behind k a)
          (λ r mark next e l q h. longer k r mark next a (subst (λ (i : Kept). Behind i a) (let g : j ≡ with_row k r mark next = cc in g) h))
          (λ r mark next e l q h. absurd (let z : ◌≡◌ {A = ℕ} 0 1 = cc in omega arith))
          (λ n p b loose e q h. absurd (let z : ◌≡◌ {A = ℕ} 0 1 = cc in omega arith))

  pub ends-behind : (k : Kept) (a : Answer) → ends step (rows_left bs) k ≡ done a → Behind k a
  unfolding ends
  ends-behind k a e = run-behind (suc (rows_left bs k)) k a e

  -- What holds between rows.
  pub record Held (k : Kept) : Type 0 where
    pub counted : k.state.count ≡ length k.rows
    pub inside : k.state.at ≤ length bs
    pub reference : Rising S.columns 0 k.state.reference
    pub rising : Rows S.columns k.rows
    pub placed : length k.rows ≤ places
    pub roomy : entries k.rows ≤ store
    pub budget : Budget bs k.state (entries k.rows)
    pub fitting : Fitting enc k.state.eols
    pub few : length k.rows ≤ k.state.at + 1

  pub held_start : Held none_kept
  unfolding entries
  held_start = record {
    counted = refl;
    inside = omega arith;
    reference = Asc.none;
    rising = no_rows;
    placed = omega arith;
    roomy = omega arith;
    budget = omega arith;
    fitting = fits enc;
    few = omega arith;
  }
    where
      fits : (enc : Encoding) → Fitting enc false
      fits group4 = refl
      fits group3_1_d = tt
      fits group3_2_d = tt

  pub held_next : (k j : Kept) → Held k → step k ≡ more j → Held j
  held_next k j h =
      page-cases k (λ o. o ≡ more j → Held j)
      (λ r mark next e l q. let g : with_row k r mark next ≡ j = cc in
      subst Held g
      (holds r mark next l
      (subst (Goes bs k.state) e (row_goes S wide bs bytes (room_for k) k.state enc))
      (subst (Does S bs (room_for k) k.state) e (row-does S wide bs bytes (room_for k) k.state enc h.fitting h.inside))
      (subst (Stays S wide bs bytes (room_for k) k.state enc) e (row_stays S wide bs bytes (room_for k) k.state enc h.fitting))))
      (λ r mark next e l q. absurd (let z : ◌≡◌ {A = ℕ} 0 1 = cc in omega arith))
      (λ n p b loose e q. absurd (let z : ◌≡◌ {A = ℕ} 0 1 = cc in omega arith))
    where
      none_yet : k.state.count ≡ 0 → entries k.rows ≡ 0
      none_yet z = no-entries k.rows (sym h.counted ∙ z)

      more_rows : (next : State) → Onward bs k.state next → length k.rows + 1 ≤ next.at + 1
      more_rows next o = tests (eqb k.state.count 0) refl
        where
          tests : (b : Bool) → eqb k.state.count 0 ≡ b → length k.rows + 1 ≤ next.at + 1
          tests true q = omega (arith, eqb-true k.state.count 0 q, h.counted)
          tests false q = let f = o.further (eqb-false k.state.count 0 q) in omega (arith, h.few)

      holds : (r : List ℕ) (mark : ℕ) (next : State) → length k.rows < places → Onward bs k.state next → Moved S bs (room_for k) k.state r next → Fitting enc next.eols
          → Held (with_row k r mark next)
      holds r mark next l o m f = record {
        counted = o.counted ∙ ap suc h.counted ∙ sym (length-append k.rows (r ∷ []) ∙ (let q : length k.rows + 1 ≡ suc (length k.rows) = omega arith in q));
        inside = m.inside;
        reference = subst (Rising S.columns 0) (sym m.refers) m.rising;
        rising = rows_snoc h.rising m.rising;
        placed = omega (arith, length-append k.rows (r ∷ []));
        roomy = omega (arith, entries-snoc k.rows r, m.roomy, h.roomy);
        budget = subst (Budget bs next) (sym (entries-snoc k.rows r)) (m.budget (entries k.rows) none_yet h.budget);
        fitting = f;
        few = omega (arith, length-append k.rows (r ∷ []), more_rows next o);
      }

  -- entries are less than twice the bits
  pub held-entries : (k : Kept) → Held k → entries k.rows ≤ 2 * length bs - 1
  held-entries k h = tests k.state.eols refl
    where
      tests : (b : Bool) → k.state.eols ≡ b → entries k.rows ≤ 2 * length bs - 1
      tests true q = let w = subst (Budgeted bs k.state.at (entries k.rows)) q h.budget in omega (arith, (reaches bs k.state.at).inside)
      tests false q = let w : entries k.rows ≤ k.state.at + (length bs - 1) = subst (Budgeted bs k.state.at (entries k.rows)) q h.budget in omega (arith, h.inside)

  -- ---- The page's answer

  -- 0 to 5; rows that ascend strictly below the width, in the store and its ends; loose entries behind them, and none after 0
  pub record Answered (a : Answer) : Type 0 where
    pub numbered : a.number ≤ 5
    pub rising : Rows S.columns a.rows
    pub placed : length a.rows ≤ places
    pub roomy : entries a.rows + length a.loose ≤ store
    pub clean : a.number ≡ 0 → a.loose ≡ []
    pub few_rows : length a.rows ≤ length bs + 1
    pub few_entries : entries a.rows ≤ 2 * length bs - 1
    pub few_loose : length a.loose ≤ length bs
    pub few_bytes : a.bytes ≤ bytes_to (length bs)

  page-answered : (k : Kept) (a : Answer) → step k ≡ done a → Held k → Answered a
  page-answered k a =
      page-cases k (λ o. o ≡ done a → Held k → Answered a)
      (λ r mark next e l q h. absurd (let z : ◌≡◌ {A = ℕ} 0 1 = cc in omega arith))
      (λ r mark next e l q h.
      let m = subst (Does S bs (room_for k) k.state) e (row-does S wide bs bytes (room_for k) k.state enc h.fitting h.inside) in
      subst Answered (let g : end_with k 5 0 0 r ≡ a = cc in g)
      (record { numbered = omega arith; rising = h.rising; placed = h.placed; roomy = omega (arith, m.roomy, h.roomy); clean = λ z. absurd (omega arith); few_rows = omega (arith, h.few, h.inside); few_entries = held-entries k h; few_loose = m.short; few_bytes = omega arith }))
      (λ n p b loose e q h.
      let m = subst (Does S bs (room_for k) k.state) e (row-does S wide bs bytes (room_for k) k.state enc h.fitting h.inside) in
      subst Answered (let g : end_with k n p b loose ≡ a = cc in g)
      (record { numbered = omega (arith, m.numbered); rising = h.rising; placed = h.placed; roomy = omega (arith, m.roomy, h.roomy); clean = m.clean; few_rows = omega (arith, h.few, h.inside); few_entries = held-entries k h; few_loose = m.short; few_bytes = m.few_bytes }))

  -- Every page is answered so.
  pub read-answered : S.encoding ≡ enc → Answered (read_page S bs store places)
  unfolding read_page
  read-answered q =
      let k : Kept = none_kept in
      let p = ends-stops step (rows_left bs) page-falls k in
      subst (λ (e : Encoding). Answered (page_of (ends (page_step (row_of e S bs) store places) (rows_left bs) k))) (sym q)
      (subst (λ (o : Out Kept Answer). Answered (page_of o)) (sym p.1)
      (ends-ind step (λ k a. Held k → Answered a) page-answered (λ k j a e f h. f (held_next k j h e)) (rows_left bs) k p.0 p.1 held_start))
