-- A place that is named with 1, 2 or 3 lies no earlier than where the reader stood before the row: the rows kept were read from bits before it. So they are the first rows of any other data
-- that agree with these up to it. Assumes nothing.
use mathlib.Core.Path.{◌≡◌, refl, sym, ap, ◌∙◌, subst}
use mathlib.Core.Bool.{Bool, true, false, cond, not, ◌&&◌, ◌||◌}
use mathlib.Core.Logic.{◌⊎◌, inl, ⊎_elim}
use mathlib.Core.List.{List, [], ◌++◌}
use mathlib.Core.Option.{Option, none, some}
use Prim.Native.Nat.{ℕ, zero, suc, ◌+◌, ◌-◌, ◌≤◌, ◌<◌}
use native.Mathlib.Omega.{arith}
use lib.Dec.{eqb, leb, ltb}
use lib.ListN.{length, drop}
use borrow.Author.Tests.{le-leb}
use Rattle.rules.specs.Machine.{Out, more, done, and_then, run, ends}
use Rattle.rules.specs.Bits.{front_bit, bits_of}
use Rattle.rules.specs.Runs.{Res, ok, fault, Sum, sum, read_run}
use Rattle.rules.specs.Modes.{Mode, pass, horizontal, VR, VL, Moded, read_mode}
use Rattle.rules.specs.Lines.{Rules, Line, new_line, turned, moved_to, with_cut, Went, went, failed, next, recorded, add, push, push_turn, after_run, push_run, b1, b2, vertical, idle, unless_idle, apply, after_mode, code_2d, Kind, one, two, code_of, line_of, line_step, line_end, read_line}
use Rattle.rules.specs.Eols.{Eols, eols_to, skip_to_eol}
use Rattle.rules.specs.Rows.{Encoding, group4, group3_1_d, group3_2_d, Settings, State, recovered_mark, RowOut, row, stop, rules_of, aligned_if}
use Rattle.rules.specs.Group4.{eols_before, after_line4, row4}
use Rattle.rules.specs.Group3.{Tagging, untagged, tagged, eols3, Before, at_line, at_end, at_no_eol, judged, searched, missing, lacking, checked, before, tagged_line, line_of_tag, line3, kept, whitened, after_line3, row3}
use Rattle.rules.specs.Pages.{Answer, Kept, none_kept, end_with, entries, page_step, rows_left, page_of, row_of, read_page, strict_if_exact, unless_short, most_bytes, decode}
use Rattle.rules.specs.Standing.{WasRead, Sure, NoEols, last_or, has_given_up}
use Rattle.rules.proofs.Machine.{ends-ind, ends-stops}
use Rattle.rules.proofs.Runs.{Within, read-within}
use Rattle.rules.proofs.Modes.{ModeAt, mode_is_at}
use Rattle.rules.proofs.Lines.{moves, line-cases, line-falls}
use Rattle.rules.proofs.Eols.{eols-ahead, eols3-ahead}
use Rattle.rules.proofs.Budget.{Bytes, whole-bytes, Sets, before-sets}
use Rattle.rules.proofs.Answers.{short-cases, short-rows, short-marks, decode-reads}
use Rattle.rules.proofs.Rows.{row4-cases, row3-cases, mended-cases}
use Rattle.rules.proofs.Untouched.{align-up}
use Rattle.rules.proofs.Agree.{Agree}
use Rattle.rules.proofs.Pages.{page-cases, page-falls, Held, held_start, held_next}
use Rattle.rules.proofs.Standing.{Stands, Read, stands-as, stands-over, page-fronts, kept-counted, sure-stands, bare-stands, bare-first, read-stands}
use Rattle.rules.proofs.GivenUp.{none-gave-stays}

-- a failure with 1, 2 or 3 names a bit from here on
abbrev pub From : ℕ → Went → Type 0
From a (went t) = Unit {0}
From a (failed n p u) = n ≤ 3 → a ≤ p

from_less : (a b : ℕ) → b ≤ a → (w : Went) → From a w → From b w
from_less a b h (went t) f = tt
from_less a b h (failed n p u) f = λ k. let g = f k in omega arith

module _ (R : Rules) (bs : List Bool) where
  -- ---- One code

  add-from : (a count : ℕ) (s : Line) → From a (add R count s)
  unfolding add
  add-from a count s = tests (eqb count 0) (leb (length (recorded s)) R.room)
    where
      tests : (b c : Bool) → From a (cond b (went s) (cond c (went (record { at = s.at; position = s.position + count; colour = s.colour; changes = recorded s; cut = s.cut })) (failed 4 0 s)))
      tests true c = tt
      tests false true = tt
      tests false false = λ k. absurd (omega arith)

  push-from : (a place count : ℕ) (s : Line) → a ≤ place → From a (push R place count s)
  unfolding push
  push-from a place count s h = tests (leb count (R.width - s.position)) R.strict
    where
      tests : (b c : Bool) → From a (cond b (add R count s) (cond c (failed 1 place s) (add R (R.width - s.position) (with_cut s))))
      tests true c = add-from a count s
      tests false true = λ k. h
      tests false false = add-from a (R.width - s.position) (with_cut s)

  -- a count to the width fails with 4 alone
  pub fits-from : (a : ℕ) (s : Line) → From a (push R 0 (R.width - s.position) s)
  unfolding push
  fits-from a s = rw (le-leb (R.width - s.position) (R.width - s.position) (omega arith)) (add-from a (R.width - s.position) s)

  turn-from : (a : ℕ) (w : Went) → From a w → From a (next w λ t. went (turned t))
  turn-from a (went t) f = tt
  turn-from a (failed n p u) f = f

  run-from : (s : Line) → From s.at (push_run R bs s)
  unfolding push_run
  run-from s = cases (read_run s.colour bs s.at) (read-within s.colour bs s.at)
    where
      cases : (r : Res Sum) → Within bs (sum s.at 0) r → From s.at (after_run R s r)
      cases (ok r) w = turn-from s.at (push R s.at r.total (moved_to r.at s)) (push-from s.at s.at r.total (moved_to r.at s) (omega arith))
      cases (fault n p) w = λ k. w.0

  two_from : (s : Line) → From s.at (next (push_run R bs s) (push_run R bs))
  two_from s = cases (push_run R bs s) refl (run-from s)
    where
      cases : (w : Went) → push_run R bs s ≡ w → From s.at w → From s.at (next w (push_run R bs))
      cases (went u) e f = let m = moves R one bs s u e in from_less u.at s.at (omega (arith, m.0)) (push_run R bs u) (run-from u)
      cases (failed n p u) e f = f

  module _ (reference : List ℕ) where
    vertical-from : (a place a1 : ℕ) (s : Line) → a ≤ place → From a (vertical R reference place a1 s)
    unfolding vertical
    vertical-from a place a1 s h = tests (leb a1 4294967295 && leb s.position a1)
      where
        tests : (b : Bool) → From a (cond b (push_turn R place (a1 - s.position) s) (failed 3 place s))
        tests true = turn-from a (push R place (a1 - s.position) s) (push-from a place (a1 - s.position) s h)
        tests false = λ k. h

    apply-from : (a place : ℕ) (mode : Mode) (s : Line) → a ≤ place → a ≤ s.at → From a (apply R reference bs place mode s)
    unfolding apply
    apply-from a place pass s h k = push-from a place (b2 R.width reference s.position s.colour - s.position) s h
    apply-from a place horizontal s h k = from_less s.at a k (next (push_run R bs s) (push_run R bs)) (two_from s)
    apply-from a place (VR i) s h k = vertical-from a place (b1 R.width reference s.position s.colour + i) s h
    apply-from a place (VL i) s h k = tests (leb i (b1 R.width reference s.position s.colour))
      where
        tests : (b : Bool) → From a (cond b (vertical R reference place (b1 R.width reference s.position s.colour - i) s) (failed 3 place s))
        tests true = vertical-from a place (b1 R.width reference s.position s.colour - i) s h
        tests false = λ k. h

    idle-from : (a : ℕ) (mode : Mode) (s : Line) → a ≤ s.at → (w : Went) → From a w → From a (unless_idle R mode s w)
    idle-from a mode s h (went t) f = tests (R.exact && idle mode s t)
      where
        tests : (b : Bool) → From a (cond b (failed 1 s.at s) (went t))
        tests true = λ k. h
        tests false = tt
    idle-from a mode s h (failed n p u) f = f

    mode-from : (s : Line) → From s.at (code_2d R reference bs s)
    unfolding code_2d
    mode-from s = cases (read_mode bs s.at) (mode_is_at bs s.at)
      where
        cases : (r : Res Moded) → ModeAt bs s.at r → From s.at (after_mode R reference bs s r)
        cases (ok r) m = idle-from s.at r.mode s (omega arith) (apply R reference bs s.at r.mode (moved_to r.at s)) (apply-from s.at s.at r.mode (moved_to r.at s) (omega arith) (let k = m.some_bits in omega arith))
        cases (fault n p) m = λ k. omega (arith, m.0)

  code-from : (k : Kind) (s : Line) → From s.at (code_of R k bs s)
  code-from one s = run-from s
  code-from (two reference) s = mode-from reference s

  -- ---- The line

  pub read-from : (k : Kind) (start : ℕ) → From start (read_line R k bs start)
  unfolding read_line line_end
  read-from k start =
      let p = ends-stops (line_step R.width (code_of R k bs)) (λ u. length bs - u.at) (line-falls R.width (code_of R k bs) bs (moves R k bs)) (new_line start) in
      subst (λ (o : Out Line Went). From start (line_of o)) (sym p.1) (ends-ind (line_step R.width (code_of R k bs)) (λ s r. From s.at r) base goes (λ u. length bs - u.at) (new_line start) p.0 p.1)
    where
      base : (s : Line) (r : Went) → line_step R.width (code_of R k bs) s ≡ done r → From s.at r
      base s r =
          line-cases R.width (code_of R k bs) s (λ o. o ≡ done r → From s.at r)
          (λ h e. subst (From s.at) (let q : went s ≡ r = cc in q) tt)
          (λ h t q e. absurd (let y : ◌≡◌ {A = ℕ} 0 1 = cc in omega arith))
          (λ h n p t q e. subst (From s.at) (q ∙ (let g : failed n p t ≡ r = cc in g)) (code-from k s))

      goes : (s t : Line) (r : Went) → line_step R.width (code_of R k bs) s ≡ more t → From t.at r → From s.at r
      goes s t r =
          line-cases R.width (code_of R k bs) s (λ o. o ≡ more t → From t.at r → From s.at r)
          (λ h e. absurd (let y : ◌≡◌ {A = ℕ} 0 1 = cc in omega arith))
          (λ h u q e f. let g : u ≡ t = cc in let m = moves R k bs s u q in from_less t.at s.at (omega (arith, m.0, ap (λ (x : Line). x.at) g)) r f)
          (λ h n p u q e. absurd (let y : ◌≡◌ {A = ℕ} 0 1 = cc in omega arith))

-- ---- A row

abbrev pub Blames : State → RowOut → Type 0
Blames st (row r mark next) = Unit {0}
Blames st (stop n place b loose) = 1 ≤ n → n ≤ 3 → st.at ≤ place

module _ (S : Settings) (bs : List Bool) (bytes : Bytes bs) (room : ℕ) (st : State) where
  abbrev R : Rules
  R = rules_of S room

  row4-blames : Blames st (row4 S bs room st)
  row4-blames = row4-cases S bs room st (Blames st) (λ h i j. absurd (omega arith)) (λ h w q. cases w (subst (From at4) q (read-from R bs (two st.reference) at4)))
    where
      at4 : ℕ
      at4 = (eols_before S bs st).at

      cases : (w : Went) → From at4 w → Blames st (after_line4 S bs st w)
      cases (went l) f = tt
      cases (failed n p l) f = λ i j. let h = f j in let k = (eols-ahead (cond S.end_of_block 2 (length bs)) bs st.at).forward in omega (arith, h, k)

  module _ (t : Tagging) where
    -- an EOL that is missing
    never-lacks : (rows_done expected : Bool) (e : Eols) (at : ℕ) → judged S t bs rows_done expected e ≡ at_no_eol at → ⊥
    never-lacks rows_done expected e at = tests ((S.end_of_block && leb 6 e.count) || (rows_done || leb (length bs) e.at))
      where
        tests : (b : Bool) → cond {A = Before S t bs} b (at_end e.at) (at_line e.at expected) ≡ at_no_eol at → ⊥
        tests true f = let y : ◌≡◌ {A = ℕ} 0 1 = cc in omega arith
        tests false f = let y : ◌≡◌ {A = ℕ} 0 1 = cc in omega arith

    missing-after : (b : Bool) (at : ℕ) → before S t bs st b ≡ at_no_eol at → st.at ≤ at
    missing-after true at = λ e. absurd (let y : ◌≡◌ {A = ℕ} 0 1 = cc in omega arith)
    missing-after false at = tests (lacking S t bs rows_done st e)
      where
        rows_done : Bool
        rows_done = eqb st.count S.rows

        a0 : ℕ
        a0 = aligned_if (S.aligned && not st.eols) st.at

        e : Eols
        e = eols3 bs t a0

        finds : (o : Option ℕ) → searched S t bs e.at o ≡ at_no_eol at → st.at ≤ at
        finds (some a) f = absurd (never-lacks false true (eols3 bs t a) at f)
        finds none f = absurd (never-lacks false false (eols_to 0 e.at) at f)

        stricts : (b : Bool) → missing S t bs b e.at ≡ at_no_eol at → st.at ≤ at
        stricts true f =
            let p : e.at ≡ at = cc in
            let k = (eols3-ahead bs t a0).forward in
            omega (arith, k, align-up (S.aligned && not st.eols) st.at)
        stricts false f = finds (skip_to_eol bs e.at) f

        tests : (b : Bool) → checked S t bs rows_done st e b ≡ at_no_eol at → st.at ≤ at
        tests true f = stricts S.strict f
        tests false f = absurd (never-lacks rows_done st.eols e at f)

    line3-from : (at : ℕ) → at ≤ length bs → (u : Tagging) → From at (line3 S t bs R st.reference at u)
    line3-from at h untagged = read-from R bs one at
    line3-from at h tagged = tests (ltb at (length bs))
      where
        kinds : (b : Bool) → From at (tagged_line S t bs R st.reference at b)
        kinds true = from_less (suc at) at (omega arith) (read_line R one bs (suc at)) (read-from R bs one (suc at))
        kinds false = from_less (suc at) at (omega arith) (read_line R (two st.reference) bs (suc at)) (read-from R bs (two st.reference) (suc at))

        tests : (b : Bool) → From at (line_of_tag S t bs R st.reference at b)
        tests true = kinds (front_bit (drop at bs))
        tests false = λ k. h

    row3-blames : st.at ≤ length bs → Blames st (row3 S t bs room st)
    row3-blames inside =
        row3-cases S t bs room st (Blames st)
        (λ at q i j. absurd (omega arith))
        (λ at q i j. missing-after (eqb st.count 0) at q)
        (λ at expected q w m.
        let f : Sets S t bs bytes st (at_line at expected) = subst (Sets S t bs bytes st) q (before-sets S t bs bytes st) in
        cases at expected f.forward w (subst (From at) m (line3-from at (f.inside inside) t)))
      where
        mends : (at : ℕ) (expected : Bool) (l : Line) (w : Went) → push R 0 (R.width - l.position) (whitened S t bs l) ≡ w → Blames st (kept S t bs st expected at recovered_mark w)
        mends at expected l w e = keeps w (subst (From st.at) e (fits-from R bs st.at (whitened S t bs l)))
          where
            keeps : (w : Went) → From st.at w → Blames st (kept S t bs st expected at recovered_mark w)
            keeps (went u) f = tt
            keeps (failed n p u) f = λ i j. f j

        cases : (at : ℕ) (expected : Bool) → st.at ≤ at → (w : Went) → From at w → Blames st (after_line3 S t bs R st at expected w)
        cases at expected h (went l) f = tt
        cases at expected h (failed n p l) f = mended-cases S t bs R st at expected n p l (Blames st) (λ x y z w k. mends at expected l w k) (λ i j. let g = f j in omega arith)

  -- A row that ends the page with 1, 2 or 3 names a bit from the reader's on.
  pub row-blames : (enc : Encoding) → st.at ≤ length bs → Blames st (row_of enc S bs room st)
  unfolding row_of
  row-blames group4 inside = row4-blames
  row-blames group3_1_d inside = row3-blames untagged inside
  row-blames group3_2_d inside = row3-blames tagged inside

-- ---- A page

module _ (enc : Encoding) (S : Settings) (wide : 0 < S.columns) (bs cs : List Bool) (bytes : Bytes bs) (store places : ℕ) where
  -- Every row before the place was read from bits before it: a page of which these rows were kept and that ended with 1, 2 or 3 gives them again, if they stand, over any other data that agree with these up to the place.
  pub refused-stands : (k : Kept) (a : Answer) → Stands Read (row_of enc S bs) store places none_kept k → Held enc S wide bs bytes store places k → page_step (row_of enc S bs) store places k ≡ done a
      → 1 ≤ a.number → a.number ≤ 3 → Agree a.place bs cs → Stands (λ mark next. Unit {0}) (row_of enc S cs) store places none_kept k
  refused-stands k a s h =
      page-cases enc S wide bs bytes store places k (λ o. o ≡ done a → 1 ≤ a.number → a.number ≤ 3 → Agree a.place bs cs → Stands (λ mark next. Unit {0}) (row_of enc S cs) store places none_kept k)
      (λ r mark next e l q. absurd (let z : ◌≡◌ {A = ℕ} 0 1 = cc in omega arith))
      (λ r mark next e l q i j. absurd (let z : 5 ≡ a.number = cc in omega arith))
      (λ n p b loose e q i j g.
      let y : n ≡ a.number = cc in
      let x : p ≡ a.place = cc in
      let f = subst (Blames k.state) e (row-blames S bs bytes (store - entries k.rows) k.state enc h.inside) in
      let le : k.state.at ≤ p = f (omega arith) (omega arith) in
      stands-over S wide bs cs bytes store places a.place g enc (stands-as a.place (λ mark next i w. inl (w, i)) (omega arith) s))

-- the rows so far are the answer's
abbrev pub Told : Kept → Answer → Type 0
Told k a = (a.rows ≡ k.rows) × (a.marks ≡ k.marks)

module _ (S : Settings) (wide : 0 < S.columns) (bs : List Bool) (bytes : Bytes bs) (store places : ℕ) where
  abbrev pub step' : Kept → Out Kept Answer
  step' = page_step (row_of S.encoding S bs) store places

  abbrev pub HeldHere : Kept → Type 0
  HeldHere = Held S.encoding S wide bs bytes store places

  -- the page so far at which an answer was given
  pub record Last (j : Kept) (a : Answer) : Type 0 where
    pub rows-read : ℕ
    pub kept_then : Kept
    pub before-it : run step' rows-read j ≡ more kept_then
    pub ended-it : step' kept_then ≡ done a
    pub held_then : HeldHere kept_then

  last : (n : ℕ) (j : Kept) (a : Answer) → HeldHere j → run step' n j ≡ done a → Last j a
  unfolding run
  last zero j a h = λ e. absurd (let z : ◌≡◌ {A = ℕ} 0 1 = cc in omega arith)
  last (suc n) j a h = cases (step' j) refl (λ k. last n k a)
    where
      cases : (o : Out Kept Answer) → step' j ≡ o → ((k : Kept) → HeldHere k → run step' n k ≡ done a → Last k a) → and_then o (run step' n) ≡ done a → Last j a
      cases (more k) e ih f =
          let r = ih k (held_next S.encoding S wide bs bytes store places j k h e) f in
          record { rows-read = suc r.rows-read; kept_then = r.kept_then; before-it = rw e r.before-it; ended-it = r.ended-it; held_then = r.held_then }
      cases (done b) e ih f = record { rows-read = 0; kept_then = j; before-it = refl; ended-it = e ∙ f; held_then = h }

  none_yet : (j k : Kept) → run step' 0 j ≡ more k → j ≡ k
  unfolding run
  none_yet j k q = let y : j ≡ k = cc in y

  -- its rows are the answer's
  pub ended-rows : (k : Kept) (a : Answer) → step' k ≡ done a → Told k a
  ended-rows k a =
      page-cases S.encoding S wide bs bytes store places k (λ o. o ≡ done a → Told k a)
      (λ r mark next e l q. absurd (let z : ◌≡◌ {A = ℕ} 0 1 = cc in omega arith))
      (λ r mark next e l q. let y : end_with k 5 0 0 r ≡ a = cc in (ap (λ (x : Answer). x.rows) (sym y), ap (λ (x : Answer). x.marks) (sym y)))
      (λ n p b loose e q. let y : end_with k n p b loose ≡ a = cc in (ap (λ (x : Answer). x.rows) (sym y), ap (λ (x : Answer). x.marks) (sym y)))

  -- a page's own
  pub page-last : Last none_kept (read_page S bs store places)
  unfolding read_page ends
  page-last =
      let p = ends-stops step' (rows_left bs) (page-falls S.encoding S wide bs bytes store places) none_kept in
      subst (Last none_kept) (sym (ap page_of p.1)) (last (suc (rows_left bs none_kept)) none_kept p.0 (held_start S.encoding S wide bs bytes store places) p.1)

  -- What was refused, where all rows stand: those before the place are the first of every other data that agree with these up to it.
  pub refused : ((n : ℕ) (k : Kept) → run step' (suc n) none_kept ≡ more k → Told k (read_page S bs store places) → Stands Read (row_of S.encoding S bs) store places none_kept k) → (cs : List Bool) → Bytes cs → 1 ≤ (read_page S bs store places).number → (read_page S bs store places).number ≤ 3 → Agree (read_page S bs store places).place bs cs
      → (rest : List (List ℕ)) × ((read_page S cs store places).rows ≡ (read_page S bs store places).rows ++ rest) × (later : List ℕ) × ((read_page S cs store places).marks ≡ (read_page S bs store places).marks ++ later)
  refused all cs bytes' i j g = counts page-last.rows-read page-last.before-it
    where
      a : Answer
      a = read_page S bs store places

      k : Kept
      k = page-last.kept_then

      same : Told k a
      same = ended-rows k a page-last.ended-it

      counts : (n : ℕ) → run step' n none_kept ≡ more k
          → (rest : List (List ℕ)) × ((read_page S cs store places).rows ≡ a.rows ++ rest) × (later : List ℕ) × ((read_page S cs store places).marks ≡ a.marks ++ later)
      counts zero q =
          let y : none_kept ≡ k = none_yet none_kept k q in
          let u : a.rows ≡ [] = same.0 ∙ ap (λ (x : Kept). x.rows) (sym y) in
          let v : a.marks ≡ [] = same.1 ∙ ap (λ (x : Kept). x.marks) (sym y) in
          ((read_page S cs store places).rows, ap (λ (l : List (List ℕ)). l ++ (read_page S cs store places).rows) (sym u), (read_page S cs store places).marks, ap (λ (l : List ℕ). l ++ (read_page S cs store places).marks) (sym v))
      counts (suc n) q =
          let s = all n k q same in
          let t = refused-stands S.encoding S wide bs cs bytes store places k a s page-last.held_then page-last.ended-it i j g in
          let (rest, x, later, y) = page-fronts S wide store places cs bytes' k t in
          (rest, x ∙ ap (λ (m : List (List ℕ)). m ++ rest) (sym same.0), later, y ∙ ap (λ (m : List ℕ). m ++ later) (sym same.1))

-- The same of the page in bytes.
module _ (S : Settings) (wide : 0 < S.columns) (narrow : S.columns < 4294967295) (bytes bytes' : List ℕ) (small : length bytes ≤ most_bytes) (small' : length bytes' ≤ most_bytes) (store places : ℕ) where
  abbrev pub T : Settings
  T = strict_if_exact S

  abbrev page : Answer
  page = read_page T (bits_of bytes) store places

  abbrev page' : Answer
  page' = read_page T (bits_of bytes') store places

  abbrev Stood : Kept → Type 0
  Stood k = Stands Read (row_of S.encoding T (bits_of bytes)) store places none_kept k

  -- its rows are the first of the other page's
  abbrev pub First : Answer → Type 0
  First a =
      1 ≤ a.number → a.number ≤ 3 → Agree a.place (bits_of bytes) (bits_of bytes')
      → (rest : List (List ℕ)) × ((decode S bytes' store places).rows ≡ a.rows ++ rest) × (later : List ℕ) × ((decode S bytes' store places).marks ≡ a.marks ++ later)

  decode-stood : ((n : ℕ) (k : Kept) → run (page_step (row_of S.encoding T (bits_of bytes)) store places) (suc n) none_kept ≡ more k → Told k (decode S bytes store places) → Stood k) → First (decode S bytes store places)
  decode-stood all =
      subst First (sym reads)
      (short-cases S page First (λ l i j. absurd (omega arith))
      (λ n i j g.
      let (rest, x, later, y) = refused T wide (bits_of bytes) (whole-bytes bytes) store places (λ n k q t. all n k q (rows ∙ t.0, marks ∙ t.1)) (bits_of bytes') (whole-bytes bytes') i j g in
      (rest, ap (λ (a : Answer). a.rows) reads' ∙ short-rows S page' ∙ x, later, ap (λ (a : Answer). a.marks) reads' ∙ short-marks S page' ∙ y)))
    where
      reads : decode S bytes store places ≡ unless_short S page
      reads = decode-reads S wide narrow bytes small store places

      reads' : decode S bytes' store places ≡ unless_short S page'
      reads' = decode-reads S wide narrow bytes' small' store places

      rows : (decode S bytes store places).rows ≡ page.rows
      rows = ap (λ (a : Answer). a.rows) reads ∙ short-rows S page

      marks : (decode S bytes store places).marks ≡ page.marks
      marks = ap (λ (a : Answer). a.marks) reads ∙ short-marks S page

  -- in Group 4, in what is read strictly, and where no EOLs are expected
  pub decode-refused : Sure S.encoding T ⊎ NoEols S (bits_of bytes) → First (decode S bytes store places)
  decode-refused firm = decode-stood λ n k q t. ⊎_elim
      (λ s. sure-stands S.encoding T wide (bits_of bytes) (whole-bytes bytes) store places s n k q)
      (λ b. bare-stands S.encoding T wide (bits_of bytes) (whole-bytes bytes) store places
      (bare-first S.encoding T wide (bits_of bytes) (whole-bytes bytes) store places (record { none_leads = b.none_leads; never_asked = b.never_asked })) n k q) firm

  -- and where EOLs were not given up, and the last row was read
  pub decode-watched-refused : has_given_up S bytes store places ≡ false → WasRead (last_or 0 (decode S bytes store places).marks) → First (decode S bytes store places)
  decode-watched-refused z w = decode-stood λ n k q t.
      read-stands S.encoding T wide (bits_of bytes) (whole-bytes bytes) store places Read k (subst (λ (m : List ℕ). WasRead (last_or 0 m)) t.1 w) n
      (none-gave-stays S wide bytes store places z n k (omega (arith, ap length t.0, (kept-counted S.encoding T wide (bits_of bytes) (whole-bytes bytes) store places (suc n) none_kept k q).0)) q) q
