-- The place that an answer names (A7): a bit of the data, or its end, for 1, 2 and 3; and 0 for every other answer. Assumes nothing.
use mathlib.Core.Path.{◌≡◌, refl, sym, ap, subst}
use mathlib.Core.Bool.{Bool, true, false, cond, ◌&&◌}
use mathlib.Core.List.{List}
use Prim.Native.Nat.{ℕ, suc, ◌+◌, ◌-◌, ◌≤◌, ◌<◌}
use native.Mathlib.Omega.{arith}
use lib.Dec.{eqb, leb, ltb}
use lib.ListN.{length, drop}
use borrow.Author.Tests.{ltb-true}
use Rattle.rules.specs.Machine.{Out, more, done, ends}
use Rattle.rules.specs.Bits.{front_bit}
use Rattle.rules.specs.Codes.{Colour}
use Rattle.rules.specs.Runs.{Res, ok, fault, Sum, sum, run_step, bits_after, read_run}
use Rattle.rules.specs.Modes.{Mode, pass, horizontal, VR, VL, Moded, read_mode}
use Rattle.rules.specs.Lines.{Rules, Line, line, new_line, turned, moved_to, with_cut, Went, went, failed, next, recorded, add, push, push_turn, after_run, push_run, b1, b2, vertical, apply, after_mode, code_2d, Kind, one, two, code_of, line_step, line_end, read_line}
use Rattle.rules.specs.Rows.{Encoding, group4, group3_1_d, group3_2_d, Settings, State, recovered_mark, RowOut, row, stop, rules_of}
use Rattle.rules.specs.Group4.{eols_before, after_line4, row4}
use Rattle.rules.specs.Group3.{Tagging, untagged, tagged, Before, at_line, at_no_eol, before, tagged_line, line_of_tag, line3, kept, whitened, after_line3, row3}
use Rattle.rules.specs.Pages.{Answer, Kept, none_kept, end_with, page_step, rows_left, page_of, row_of, read_page}
use Rattle.rules.proofs.Machine.{ends-ind, ends-stops}
use Rattle.rules.proofs.Runs.{after, run-cases, run-falls}
use Rattle.rules.proofs.Modes.{ModeAt, mode_is_at}
use Rattle.rules.proofs.Lines.{Each, Pushes, PushFails, push-pushes, unless-idle, line-cases, line-falls, moves}
use Rattle.rules.proofs.Eols.{eols-ahead}
use Rattle.rules.proofs.Budget.{Bytes, Sets, before-sets}
use Rattle.rules.proofs.Rows.{row4-cases, row3-cases, mended-cases}
use Rattle.rules.proofs.Pages.{step, room_for, page-cases, page-falls, Held, held_start, held_next}

-- a number and the place beside it
pub record Fault (bs : List Bool) (n place : ℕ) : Type 0 where
  pub inside : place ≤ length bs
  pub none : (n ≡ 0) → place ≡ 0
  pub later : 3 < n → place ≡ 0

module _ (bs : List Bool) where
  fault-at : (n place : ℕ) → 1 ≤ n → n ≤ 3 → place ≤ length bs → Fault bs n place
  fault-at n place a b h = record { inside = h; none = λ z. absurd (omega arith); later = λ l. absurd (omega arith) }

  no_place : (n : ℕ) → Fault bs n 0
  no_place n = record { inside = omega arith; none = λ z. refl; later = λ l. refl }

  -- ---- A run

  abbrev Inside : Res Sum → Type 0
  Inside (ok r) = r.at ≤ length bs
  Inside (fault n p) = Fault bs n p

  run-place : (colour : Colour) (s : Sum) (r : Res Sum) → ends (run_step colour bs) (bits_after bs) s ≡ done r → s.at ≤ length bs → Inside r
  run-place colour s r e = ends-ind (run_step colour bs) (λ s r. s.at ≤ length bs → Inside r) base next' (bits_after bs) s r e
    where
      base : (s : Sum) (r : Res Sum) → run_step colour bs s ≡ done r → s.at ≤ length bs → Inside r
      base s r =
          run-cases colour bs s (λ o. o ≡ done r → s.at ≤ length bs → Inside r)
          (λ c k l e h. subst Inside (let q : ok (after s c) ≡ r = cc in q) k.fits)
          (λ c k l e h. absurd (let z : ◌≡◌ {A = ℕ} 0 1 = cc in omega arith))
          (λ n p q e h. subst Inside (let q : fault n s.at ≡ r = cc in q) (fault-at n s.at p q h))

      next' : (s t : Sum) (r : Res Sum) → run_step colour bs s ≡ more t → (t.at ≤ length bs → Inside r) → s.at ≤ length bs → Inside r
      next' s t r =
          run-cases colour bs s (λ o. o ≡ more t → (t.at ≤ length bs → Inside r) → s.at ≤ length bs → Inside r)
          (λ c k l e f h. absurd (let z : ◌≡◌ {A = ℕ} 0 1 = cc in omega arith))
          (λ c k l e f h. f (let q : after s c ≡ t = cc in omega (arith, ap (λ (x : Sum). x.at) q, k.fits)))
          (λ n p q e f h. absurd (let z : ◌≡◌ {A = ℕ} 0 1 = cc in omega arith))

  pub read-place : (colour : Colour) (at : ℕ) → at ≤ length bs → Inside (read_run colour bs at)
  unfolding read_run
  read-place colour at h =
      let p = ends-stops (run_step colour bs) (bits_after bs) (run-falls colour bs) (sum at 0) in
      rw p.1 (run-place colour (sum at 0) p.0 p.1 h)

  -- ---- A line

  -- the bit after a line that goes on, or the place of one that fails
  abbrev pub Placed : Went → Type 0
  Placed (went t) = t.at ≤ length bs
  Placed (failed n p t) = Fault bs n p

  -- the place of one that fails, wherever it stands
  abbrev Named : Went → Type 0
  Named (went t) = Unit {0}
  Named (failed n p t) = Fault bs n p

  module _ (R : Rules) where
    add-named : (count : ℕ) (s : Line) → Named (add R count s)
    unfolding add
    add-named count s = tests (eqb count 0) (leb (length (recorded s)) R.room)
      where
        tests : (b c : Bool) → Named (cond b (went s) (cond c (went (line s.at (s.position + count) s.colour (recorded s) s.cut)) (failed 4 0 s)))
        tests true c = tt
        tests false true = tt
        tests false false = no_place 4

    push-named : (place count : ℕ) (s : Line) → place ≤ length bs → Named (push R place count s)
    unfolding push
    push-named place count s k = tests (leb count (R.width - s.position)) R.strict
      where
        tests : (b c : Bool) → Named (cond b (add R count s) (cond c (failed 1 place s) (add R (R.width - s.position) (with_cut s))))
        tests true c = add-named count s
        tests false true = fault-at 1 place (omega arith) (omega arith) k
        tests false false = add-named (R.width - s.position) (with_cut s)

    -- a count leaves the bit as it is
    pub push-placed : (place count : ℕ) (s : Line) → place ≤ length bs → s.at ≤ length bs → Placed (push R place count s)
    push-placed place count s k h = cases (push R place count s) (push-named place count s k) (push-pushes R 0 0 place count s)
      where
        cases : (w : Went) → Named w → Each (Pushes R 0 0 s) (PushFails R 0 0 s) w → Placed w
        cases (went t) n (e, f) = omega (arith, e)
        cases (failed m p t) n f = n

    next-placed : (w : Went) (then : Line → Went) → Placed w → ((t : Line) → t.at ≤ length bs → Placed (then t)) → Placed (next w then)
    next-placed (went t) then h f = f t h
    next-placed (failed n p t) then h f = h

    push_turn-placed : (place count : ℕ) (s : Line) → place ≤ length bs → s.at ≤ length bs → Placed (push_turn R place count s)
    push_turn-placed place count s k h = next-placed (push R place count s) (λ t. went (turned t)) (push-placed place count s k h) (λ t i. i)

    push_run-placed : (s : Line) → s.at ≤ length bs → Placed (push_run R bs s)
    unfolding push_run
    push_run-placed s h = cases (read_run s.colour bs s.at) (read-place s.colour s.at h)
      where
        cases : (r : Res Sum) → Inside r → Placed (after_run R s r)
        cases (ok r) i = push_turn-placed s.at r.total (moved_to r.at s) h i
        cases (fault n p) i = i

    module _ (reference : List ℕ) where
      vertical-placed : (place a1 : ℕ) (s : Line) → place ≤ length bs → s.at ≤ length bs → Placed (vertical R reference place a1 s)
      unfolding vertical
      vertical-placed place a1 s k h = tests (leb a1 4294967295 && leb s.position a1)
        where
          tests : (b : Bool) → Placed (cond b (push_turn R place (a1 - s.position) s) (failed 3 place s))
          tests true = push_turn-placed place (a1 - s.position) s k h
          tests false = fault-at 3 place (omega arith) (omega arith) k

      apply-placed : (place : ℕ) (m : Mode) (s : Line) → place ≤ length bs → s.at ≤ length bs → Placed (apply R reference bs place m s)
      unfolding apply
      apply-placed place pass s k h = push-placed place (b2 R.width reference s.position s.colour - s.position) s k h
      apply-placed place horizontal s k h = next-placed (push_run R bs s) (push_run R bs) (push_run-placed s h) push_run-placed
      apply-placed place (VR j) s k h = vertical-placed place (b1 R.width reference s.position s.colour + j) s k h
      apply-placed place (VL j) s k h = tests (leb j (b1 R.width reference s.position s.colour))
        where
          tests : (b : Bool) → Placed (cond b (vertical R reference place (b1 R.width reference s.position s.colour - j) s) (failed 3 place s))
          tests true = vertical-placed place (b1 R.width reference s.position s.colour - j) s k h
          tests false = fault-at 3 place (omega arith) (omega arith) k

      code_2d-placed : (s : Line) → s.at ≤ length bs → Placed (code_2d R reference bs s)
      unfolding code_2d
      code_2d-placed s h = cases (read_mode bs s.at) (mode_is_at bs s.at)
        where
          cases : (r : Res Moded) → ModeAt bs s.at r → Placed (after_mode R reference bs s r)
          cases (ok r) w =
              unless-idle R r.mode s Placed (fault-at 1 s.at (omega arith) (omega arith) h) (apply R reference bs s.at r.mode (moved_to r.at s))
              (apply-placed s.at r.mode (moved_to r.at s) h w.fits)
          cases (fault n p) w = fault-at n p (omega arith) (omega arith) (omega arith)

    pub code-placed : (k : Kind) (s : Line) → s.at ≤ length bs → Placed (code_of R k bs s)
    code-placed one s h = push_run-placed s h
    code-placed (two reference) s h = code_2d-placed reference s h

    line-placed : (k : Kind) (s : Line) → s.at ≤ length bs → Placed (line_end R.width (code_of R k bs) bs s)
    unfolding line_end
    line-placed k s h =
        let p = ends-stops (line_step R.width (code_of R k bs)) (λ u. length bs - u.at) (line-falls R.width (code_of R k bs) bs (moves R k bs)) s in
        rw p.1 (ends-ind (line_step R.width (code_of R k bs)) (λ s r. s.at ≤ length bs → Placed r) base goes (λ t. length bs - t.at) s p.0 p.1 h)
      where
        coded : (s : Line) (r : Went) → code_of R k bs s ≡ r → s.at ≤ length bs → Placed r
        coded s r e h = subst Placed e (code-placed k s h)

        base : (s : Line) (r : Went) → line_step R.width (code_of R k bs) s ≡ done r → s.at ≤ length bs → Placed r
        base s r =
            line-cases R.width (code_of R k bs) s (λ o. o ≡ done r → s.at ≤ length bs → Placed r)
            (λ n e h. subst Placed (let q : went s ≡ r = cc in q) h)
            (λ n t q e h. absurd (let z : ◌≡◌ {A = ℕ} 0 1 = cc in omega arith))
            (λ n m p t q e h. subst Placed (let g : failed m p t ≡ r = cc in g) (coded s (failed m p t) q h))

        goes : (s t : Line) (r : Went) → line_step R.width (code_of R k bs) s ≡ more t → (t.at ≤ length bs → Placed r) → s.at ≤ length bs → Placed r
        goes s t r =
            line-cases R.width (code_of R k bs) s (λ o. o ≡ more t → (t.at ≤ length bs → Placed r) → s.at ≤ length bs → Placed r)
            (λ n e f h. absurd (let z : ◌≡◌ {A = ℕ} 0 1 = cc in omega arith))
            (λ n u q e f h. let g : u ≡ t = cc in f (subst (λ (x : Line). x.at ≤ length bs) g (coded s (went u) q h)))
            (λ n m p u q e f h. absurd (let z : ◌≡◌ {A = ℕ} 0 1 = cc in omega arith))

    -- a line that fails names a place in the data
    pub read-placed : (k : Kind) (start : ℕ) → start ≤ length bs → Placed (read_line R k bs start)
    unfolding read_line
    read-placed k start h = line-placed k (new_line start) h

-- ---- A row

-- a row that is kept names none
abbrev pub RowPlaced : List Bool → RowOut → Type 0
RowPlaced bs (row r mark next) = Unit {0}
RowPlaced bs (stop n p b loose) = Fault bs n p

module _ (S : Settings) (bs : List Bool) (bytes : Bytes bs) (room : ℕ) (st : State) (inside : st.at ≤ length bs) where
  row4-placed : RowPlaced bs (row4 S bs room st)
  row4-placed =
      row4-cases S bs room st (RowPlaced bs) (λ e. no_place bs 0) (λ e w q. cases w (subst (Placed bs) q
      (read-placed bs (rules_of S room) (two st.reference) (eols_before S bs st).at ((eols-ahead (cond S.end_of_block 2 (length bs)) bs st.at).inside inside))))
    where
      cases : (w : Went) → Placed bs w → RowPlaced bs (after_line4 S bs st w)
      cases (went l) h = tt
      cases (failed n p l) h = h

  module _ (t : Tagging) where
    abbrev R : Rules
    R = rules_of S room

    line3-placed : (at : ℕ) → at ≤ length bs → (u : Tagging) → Placed bs (line3 S t bs R st.reference at u)
    line3-placed at h untagged = read-placed bs R one at h
    line3-placed at h tagged = cases (ltb at (length bs)) refl
      where
        cases : (b : Bool) → ltb at (length bs) ≡ b → Placed bs (line_of_tag S t bs R st.reference at b)
        cases true q = tags (front_bit (drop at bs))
          where
            tags : (b : Bool) → Placed bs (tagged_line S t bs R st.reference at b)
            tags true = read-placed bs R one (suc at) (omega (arith, ltb-true at (length bs) q))
            tags false = read-placed bs R (two st.reference) (suc at) (omega (arith, ltb-true at (length bs) q))
        cases false q = fault-at bs 2 (length bs) (omega arith) (omega arith) (omega arith)

    row3-placed : RowPlaced bs (row3 S t bs room st)
    row3-placed =
        row3-cases S t bs room st (RowPlaced bs)
        (λ at e. no_place bs 0)
        (λ at e. fault-at bs 1 at (omega arith) (omega arith) (sets (at_no_eol at) e))
        (λ at expected e w q. let i = (sets (at_line at expected) e).inside inside in cases at expected w (subst (Placed bs) q (line3-placed at i t)))
      where
        sets : (b : Before S t bs) → before S t bs st (eqb st.count 0) ≡ b → Sets S t bs bytes st b
        sets b e = subst (Sets S t bs bytes st) e (before-sets S t bs bytes st)

        -- what is left of a damaged line fails with 4 alone
        mended-placed : (at : ℕ) (expected : Bool) (l : Line) (w : Went) → push R 0 (R.width - l.position) (whitened S t bs l) ≡ w → RowPlaced bs (kept S t bs st expected at recovered_mark w)
        mended-placed at expected l (went u) e = tt
        mended-placed at expected l (failed n p u) e = subst (Named bs) e (push-named bs R 0 (R.width - l.position) (whitened S t bs l) (omega arith))

        cases : (at : ℕ) (expected : Bool) (w : Went) → Placed bs w → RowPlaced bs (after_line3 S t bs R st at expected w)
        cases at expected (went l) h = tt
        cases at expected (failed n p l) h = mended-cases S t bs R st at expected n p l (RowPlaced bs) (λ q s k w e. mended-placed at expected l w e) h

  pub row-placed : (enc : Encoding) → RowPlaced bs (row_of enc S bs room st)
  unfolding row_of
  row-placed group4 = row4-placed
  row-placed group3_1_d = row3-placed untagged
  row-placed group3_2_d = row3-placed tagged

-- ---- A page

module _ (enc : Encoding) (S : Settings) (wide : 0 < S.columns) (bs : List Bool) (bytes : Bytes bs) (store places : ℕ) where
  -- Every page's answer names a place in the data with 1, 2 or 3, and none with any other number.
  pub page-placed : S.encoding ≡ enc → Fault bs (read_page S bs store places).number (read_page S bs store places).place
  unfolding read_page
  page-placed q =
      let k : Kept = none_kept in
      let p = ends-stops (step enc S wide bs bytes store places) (rows_left bs) (page-falls enc S wide bs bytes store places) k in
      subst (λ (e : Encoding). Names (page_of (ends (page_step (row_of e S bs) store places) (rows_left bs) k))) (sym q)
      (subst (λ (o : Out Kept Answer). Names (page_of o)) (sym p.1)
      (ends-ind (step enc S wide bs bytes store places) (λ k a. Held enc S wide bs bytes store places k → Names a) base (λ k j a e f h. f (held_next enc S wide bs bytes store places k j h e)) (rows_left bs) k p.0 p.1 (held_start enc S wide bs bytes store places)))
    where
      Names : Answer → Type 0
      Names a = Fault bs a.number a.place

      base : (k : Kept) (a : Answer) → step enc S wide bs bytes store places k ≡ done a → Held enc S wide bs bytes store places k → Names a
      base k a =
          page-cases enc S wide bs bytes store places k (λ o. o ≡ done a → Held enc S wide bs bytes store places k → Names a)
          (λ r mark next e l q h. absurd (let z : ◌≡◌ {A = ℕ} 0 1 = cc in omega arith))
          (λ r mark next e l q h. subst Names (let g : end_with k 5 0 0 r ≡ a = cc in g) (no_place bs 5))
          (λ n p b loose e q h. subst Names (let g : end_with k n p b loose ≡ a = cc in g)
          (subst (RowPlaced bs) e (row-placed S bs bytes (room_for enc S wide bs bytes store places k) k.state h.inside enc)))
