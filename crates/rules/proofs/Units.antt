-- Laws of a page in units: taken one after the other they come to the page form's answer, and there are as many as are counted. Assumes nothing.
use mathlib.Core.Path.{◌≡◌, refl, sym, ap, ◌∙◌, subst}
use mathlib.Core.Bool.{Bool, true, false, cond, ◌&&◌}
use mathlib.Core.List.{List, [], ◌∷◌, ◌++◌}
use mathlib.Core.Option.{Option, none, some}
use Prim.Native.Nat.{ℕ, zero, suc, ◌+◌, ◌-◌, ◌<◌}
use native.Mathlib.Omega.{arith}
use lib.Dec.{eqb, ltb}
use lib.ListN.{length, drop}
use borrow.Author.Tests.{lt-ltb, le-ltb, eqb-true, eqb-false, eq-eqb, ne_eqb}
use Rattle.rules.specs.Machine.{Out, more, done, ends, onward, spent, costs}
use Rattle.rules.specs.Codes.{Colour}
use Rattle.rules.specs.Runs.{Res, ok, fault, Sum, sum, run_step, bits_after, answer, read_run}
use Rattle.rules.specs.Modes.{Mode, pass, horizontal, VR, VL, Moded, read_mode}
use Rattle.rules.specs.Lines.{Rules, Line, new_line, moved_to, Went, went, failed, next, after_run, push_run, idle, unless_idle, apply, after_mode, code_2d, go_on, line_of, line_step, line_end, two, read_line, unmoved}
use Rattle.rules.specs.Eols.{zero_run, eol_after, Eols, eols_to, read_eols}
use Rattle.rules.specs.Rows.{Encoding, group4, Settings, read_mark, rules_of, aligned_if}
use Rattle.rules.specs.Group4.{eols_before, over, after_line4, line_or_end, row4}
use Rattle.rules.specs.Pages.{Answer, Kept, none_kept, with_row, end_with, entries, keep_row, page_step, rows_left, page_of, row_of, read_page}
use Rattle.rules.specs.Counts.{of_second, behind_mode, behind_code, of_code, of_line}
use Rattle.rules.specs.Units.{each, run_units, line_units, row_units, page_units, Half, first, second, between, in_line, in_run, Keeping, Going, going, units_start, answer_with, rules_at, broken, next_eol, line_or_over, over_at, eol_or_line, between_rows, keeps, close_row, settle, after_code, after_mode4, mode_unit, unless_unmoved, after_half, run_end, run_unit, unit}
use Rattle.rules.proofs.Machine.{ends-stops}
use Rattle.rules.proofs.Runs.{run-falls}
use Rattle.rules.proofs.Lines.{line-falls, moves}
use Rattle.rules.proofs.PageBack.{entries-snoc}
use Rattle.rules.proofs.Grows.{Grows, GrowsTo, behind, after_run-grows}
use Rattle.rules.proofs.Budget.{Bytes}
use Rattle.rules.proofs.Pages.{page-falls, Held, held_start, held_next}
use Rattle.rules.proofs.Paced.{Steps, here, there, steps-add, lifted, paced-ends}

-- ---- The units of a short run

module _ (bs : List Bool) (colour : Colour) (at : ℕ) where
  -- one code
  pub one_unit : {r : Res Sum} → run_step colour bs (sum at 0) ≡ done r → run_units bs colour at ≡ 1
  unfolding run_units costs spent
  one_unit e = rw e refl

  -- and two: the first is not the data's last
  pub two-units : {t : Sum} {r : Res Sum} → run_step colour bs (sum at 0) ≡ more t → run_step colour bs t ≡ done r → at < length bs → run_units bs colour at ≡ 2
  unfolding run_units costs spent
  two-units {t} {r} e f h =
      ap (λ (o : Out Sum (Res Sum)). 1 + onward o (spent each (run_step colour bs) (length bs - at))) e
      ∙ ap (λ (n : ℕ). 1 + spent each (run_step colour bs) n t) (let z : length bs - at ≡ suc (length bs - at - 1) = omega arith in z)
      ∙ ap (λ (o : Out Sum (Res Sum)). 1 + (1 + onward o (spent each (run_step colour bs) (length bs - at - 1)))) f

module _ (S : Settings) (bs : List Bool) (store places : ℕ) where
  abbrev Pages : Out Going Answer → ℕ → Out Going Answer → Type 0
  Pages = Steps (unit S bs store places)

  -- ---- A run, code after code

  module _ (g : Keeping) (h : Half) (l : Line) where
    run-paced : Pages (more (going g (in_run h l (sum l.at 0)))) (run_units bs l.colour l.at) (run_end S bs store places g h l (read_run l.colour bs l.at))
    unfolding run_units read_run unit
    run-paced =
        let p = ends-stops (run_step l.colour bs) (bits_after bs) (run-falls l.colour bs) (sum l.at 0) in
        subst (λ (r : Res Sum). Pages (more (going g (in_run h l (sum l.at 0)))) (costs each (run_step l.colour bs) (bits_after bs) (sum l.at 0)) (run_end S bs store places g h l r)) (sym (ap answer p.1))
        (paced-ends each (run_step l.colour bs) (unit S bs store places) from (run_end S bs store places g h l) (λ s. Unit {0}) (λ s t i e. tt) (λ s i. sim s) (bits_after bs) (sum l.at 0) p.0 tt p.1)
      where
        from : Sum → Out Going Answer
        from s = more (going g (in_run h l s))

        sim : (s : Sum) → Pages (from s) 1 (lifted from (run_end S bs store places g h l) (run_step l.colour bs s))
        sim s = there (cases (run_step l.colour bs s))
          where
            cases : (o : Out Sum (Res Sum)) → Pages (run_unit S bs store places g h l o) 0 (lifted from (run_end S bs store places g h l) o)
            cases (more t) = here
            cases (done r) = here

  -- ---- A line, code after code

  module _ (k : Keeping) where
    -- what a line comes to: a row, or the page's end
    abbrev line_to : Went → Out Going Answer
    line_to (went l) = close_row S bs store places k l
    line_to (failed n p l) = broken S bs store places k n p l

    abbrev line_from : Line → Out Going Answer
    line_from l = settle S bs store places (going k (in_line l))

    abbrev goes_to : Out Line Went → Out Going Answer
    goes_to = lifted line_from line_to

    goes_on : (w : Went) → Pages (after_code S bs store places k w) 0 (goes_to (go_on w))
    goes_on (went l) = here
    goes_on (failed n p l) = here

    -- The two runs of a horizontal code; `s` is the line before it. That it moved nothing is found run by run.
    both-still : (s t u : Line) → Grows (rules_at S bs store places k) s t → Grows (rules_at S bs store places k) t u → (idle horizontal s u) ≡ (unmoved s t && unmoved t u)
    both-still s t u g h = tests (eqb t.position s.position) refl (eqb u.position t.position) refl
      where
        tests : (a : Bool) → eqb t.position s.position ≡ a → (b : Bool) → eqb u.position t.position ≡ b → eqb u.position s.position ≡ (a && b)
        tests true p true q = eq-eqb u.position s.position (eqb-true _ _ q ∙ eqb-true _ _ p)
        tests true p false q = ne_eqb u.position s.position (λ z. eqb-false _ _ q (z ∙ sym (eqb-true _ _ p)))
        tests false p b q = ne_eqb u.position s.position (λ z. eqb-false t.position s.position p (omega (arith, g.further, h.further)))

    -- the same answer, whether the line before the code or before its second run is at fault
    same-loose : (s t : Line) → t.changes ≡ s.changes → broken S bs store places k 1 s.at t ≡ broken S bs store places k 1 s.at s
    same-loose s t e = ap (λ (l : List ℕ). done (answer_with k 1 s.at 0 l)) e

    -- behind the second run
    end-paced : (s t : Line) → Grows (rules_at S bs store places k) s t → (w : Went) → GrowsTo (rules_at S bs store places k) t w
        → after_code S bs store places k (unless_unmoved S bs store places s.at (unmoved s t) t w) ≡ goes_to (go_on (unless_idle (rules_at S bs store places k) horizontal s w))
    end-paced s t g (failed n p u) h = refl
    end-paced s t g (went u) h =
        ap (λ (b : Bool). after_code S bs store places k (cond (S.exact && b) (failed 1 s.at t) (went u))) (sym (both-still s t u g h))
        ∙ tests S.exact (idle horizontal s u) (eqb-true _ _)
      where
        tests : (a b : Bool) → (b ≡ true → u.position ≡ s.position)
            → after_code S bs store places k (cond (a && b) (failed 1 s.at t) (went u)) ≡ goes_to (go_on (cond (a && b) (failed 1 s.at s) (went u)))
        tests true true q = same-loose s t (g.still (omega (arith, q refl, g.further, h.further)))
        tests true false q = refl
        tests false b q = refl

    second-paced : (s : Line) (w : Went) → GrowsTo (rules_at S bs store places k) s w
        → Pages (after_half S bs store places k (first s.at) s w) (of_second (run_units bs) (rules_at S bs store places k) bs w) (goes_to (go_on (unless_idle (rules_at S bs store places k) horizontal s (next w (push_run (rules_at S bs store places k) bs)))))
    unfolding push_run
    second-paced s (failed n p l) g = here
    second-paced s (went l) g =
        subst (λ (o : Out Going Answer). Pages (more (going k (in_run (second s.at (unmoved s l)) l (sum l.at 0)))) (run_units bs l.colour l.at) o)
        (end-paced s l g (after_run (rules_at S bs store places k) l (read_run l.colour bs l.at)) (after_run-grows (rules_at S bs store places k) l (read_run l.colour bs l.at)))
        (run-paced k (second s.at (unmoved s l)) l)

    -- the runs are read behind the mode code's bits
    both-paced : (s : Line) (a : ℕ)
        → Pages (more (going k (in_run (first s.at) (moved_to a s) (sum a 0)))) (behind_mode (run_units bs) (rules_at S bs store places k) bs horizontal (moved_to a s))
        (goes_to (go_on (unless_idle (rules_at S bs store places k) horizontal s (apply (rules_at S bs store places k) k.reference bs s.at horizontal (moved_to a s)))))
    unfolding apply push_run
    both-paced s a =
        let w : Went = after_run (rules_at S bs store places k) (moved_to a s) (read_run s.colour bs a) in
        steps-add (run-paced k (first s.at) (moved_to a s))
        (subst (λ (o : Out Going Answer). Pages o (of_second (run_units bs) (rules_at S bs store places k) bs w) (goes_to (go_on (unless_idle (rules_at S bs store places k) horizontal s (next w (push_run (rules_at S bs store places k) bs))))))
        (moved w)
        (second-paced s w (behind (rules_at S bs store places k) s a w (after_run-grows (rules_at S bs store places k) (moved_to a s) (read_run s.colour bs a)))))
      where
        moved : (w : Went) → after_half S bs store places k (first s.at) s w ≡ after_half S bs store places k (first s.at) (moved_to a s) w
        moved (went l) = refl
        moved (failed n p l) = refl

    mode-paced : (m : Mode) (l : Line) (a : ℕ)
        → Pages (after_mode4 S bs store places k l m (moved_to a l)) (behind_mode (run_units bs) (rules_at S bs store places k) bs m (moved_to a l))
        (goes_to (go_on (unless_idle (rules_at S bs store places k) m l (apply (rules_at S bs store places k) k.reference bs l.at m (moved_to a l)))))
    mode-paced horizontal l a = both-paced l a
    mode-paced pass l a = goes_on (unless_idle (rules_at S bs store places k) pass l (apply (rules_at S bs store places k) k.reference bs l.at pass (moved_to a l)))
    mode-paced (VR n) l a = goes_on (unless_idle (rules_at S bs store places k) (VR n) l (apply (rules_at S bs store places k) k.reference bs l.at (VR n) (moved_to a l)))
    mode-paced (VL n) l a = goes_on (unless_idle (rules_at S bs store places k) (VL n) l (apply (rules_at S bs store places k) k.reference bs l.at (VL n) (moved_to a l)))

    code-paced : (l : Line) (r : Res Moded) → Pages (mode_unit S bs store places k l r) (behind_code (run_units bs) (rules_at S bs store places k) bs l r) (goes_to (go_on (after_mode (rules_at S bs store places k) k.reference bs l r)))
    code-paced l (ok m) = mode-paced m.mode l m.at
    code-paced l (fault n p) = here

    one_code : (l : Line) → Pages (more (going k (in_line l))) (suc (behind_code (run_units bs) (rules_at S bs store places k) bs l (read_mode bs l.at))) (goes_to (go_on (code_2d (rules_at S bs store places k) k.reference bs l)))
    unfolding unit code_2d
    one_code l = there (code-paced l (read_mode bs l.at))

    pub line-sim : (l : Line) → Pages (line_from l) (of_code (run_units bs) (rules_at S bs store places k) bs l) (goes_to (line_step S.columns (code_2d (rules_at S bs store places k) k.reference bs) l))
    unfolding settle line_step of_code
    line-sim l = tests (eqb l.position S.columns)
      where
        tests : (b : Bool) → Pages (cond b (close_row S bs store places k l) (more (going k (in_line l)))) (cond b 0 (suc (behind_code (run_units bs) (rules_at S bs store places k) bs l (read_mode bs l.at)))) (goes_to (cond b (done (went l)) (go_on (code_2d (rules_at S bs store places k) k.reference bs l))))
        tests true = here
        tests false = one_code l

    line-paced : (l : Line) → Pages (line_from l) (line_units (rules_at S bs store places k) bs k.reference l) (line_to (line_end S.columns (code_2d (rules_at S bs store places k) k.reference bs) bs l))
    unfolding of_line line_end
    line-paced l =
        let p = ends-stops code (λ t. length bs - t.at) (line-falls S.columns (code_2d (rules_at S bs store places k) k.reference bs) bs (moves (rules_at S bs store places k) (two k.reference) bs)) l in
        subst (λ (w : Went). Pages (line_from l) (costs (of_code (run_units bs) (rules_at S bs store places k) bs) code (λ t. length bs - t.at) l) (line_to w)) (sym (ap line_of p.1))
        (paced-ends (of_code (run_units bs) (rules_at S bs store places k) bs) code (unit S bs store places) line_from line_to (λ s. Unit {0}) (λ s t i e. tt) (λ s i. line-sim s) (λ t. length bs - t.at) l p.0 tt p.1)
      where
        code : Line → Out Line Went
        code = line_step S.columns (code_2d (rules_at S bs store places k) k.reference bs)

    -- ---- EOLs, one after the other

    abbrev most : ℕ
    most = cond S.end_of_block 2 (length bs)

    abbrev line_at : Eols → Out Going Answer
    line_at e = line_or_over S bs store places k e (over_at S bs store places k e)

    -- none is to come, so a line begins or the page is over
    without_eol : (e : Eols) (n : ℕ) → n ≡ e.count + 0 → Pages (line_at e) 0 (line_at (eols_to n e.at))
    without_eol e n q = subst (λ (m : ℕ). Pages (line_at e) 0 (line_at (eols_to m e.at))) (let z : e.count ≡ n = omega arith in z) here

    one-eol : (e : Eols) (a n : ℕ) (o : Out Going Answer) → next_eol S bs store places e ≡ some a → Pages (between_rows S bs store places k (eols_to (suc e.count) a)) n o → Pages (more (going k (between e))) (suc n) o
    unfolding unit settle
    one-eol e a n o q h = there {s = going k (between e)} {n = n} {o = o} (rw q h)

    -- the EOLs before a line, behind those read so far
    eols-paced : (left : ℕ) (e : Eols) → e.count + left ≡ most
        → Pages (between_rows S bs store places k e) (read_eols left bs e.at).count (line_at (eols_to (e.count + (read_eols left bs e.at).count) (read_eols left bs e.at).at))
    unfolding read_eols
    eols-paced zero e h = rw (le-ltb e.count most (omega arith)) (without_eol e (e.count + 0) refl)
    eols-paced (suc left) e h = rw (lt-ltb e.count most (omega arith)) (cases (λ d. eols-paced left d) (eol_after e.at (zero_run (drop e.at bs))) refl)
      where
        cases : ((d : Eols) → d.count + left ≡ most → Pages (between_rows S bs store places k d) (read_eols left bs d.at).count (line_at (eols_to (d.count + (read_eols left bs d.at).count) (read_eols left bs d.at).at)))
            → (o : Option ℕ) → eol_after e.at (zero_run (drop e.at bs)) ≡ o
            → let r : Eols = elim o as (λ _. Eols) [ none ↦ eols_to 0 e.at | some a ↦ let later = read_eols left bs a in eols_to (suc later.count) later.at ] in
            Pages (eol_or_line S bs store places k e o) r.count (line_at (eols_to (e.count + r.count) r.at))
        cases ih none q = without_eol e (e.count + 0) refl
        cases ih (some a) q =
            let r : Eols = read_eols left bs a in
            one-eol e a r.count (line_at (eols_to (e.count + suc r.count) r.at)) (rw (lt-ltb e.count most (omega arith)) q)
            (subst (λ (n : ℕ). Pages (between_rows S bs store places k (eols_to (suc e.count) a)) r.count (line_at (eols_to n r.at))) (let z : suc e.count + r.count ≡ e.count + suc r.count = omega arith in z)
            (ih (eols_to (suc e.count) a) (omega arith)))

  -- ---- The page

  -- between rows, as the page form stands there
  abbrev keeping_of : Kept → Keeping
  keeping_of k = record { count = k.state.count; base = entries k.rows; reference = k.state.reference; rows = k.rows; marks = k.marks }

  abbrev page_from : Kept → Out Going Answer
  page_from k = between_rows S bs store places (keeping_of k) (eols_to 0 k.state.at)

  abbrev counts : Kept → Type 0
  counts k = k.state.count ≡ length k.rows

  abbrev page_to : Out Kept Answer → Out Going Answer
  page_to = lifted page_from (λ (a : Answer). done a)

  module _ (wide : 0 < S.columns) where
    -- a line that begins is settled
    begins-line : (k : Keeping) (at : ℕ) → line_from k (new_line at) ≡ more (going k (in_line (new_line at)))
    unfolding settle
    begins-line k at = rw (ne_eqb 0 S.columns (λ q. omega arith))

    kept-paced : (k : Kept) → counts k → (w : Went) → Pages (line_to (keeping_of k) w) 0 (page_to (keep_row (row4 S bs) store places k (after_line4 S bs k.state w)))
    kept-paced k c (failed n p l) = here
    kept-paced k c (went l) =
        subst (λ (n : ℕ). Pages (cond (ltb n places) later (broken S bs store places (keeping_of k) 5 0 l)) 0 (page_to (keep_row (row4 S bs) store places k (after_line4 S bs k.state (went l))))) (sym c)
        (tests (ltb (length k.rows) places))
      where
        e : Eols
        e = eols_to 0 (aligned_if S.aligned l.at)

        later : Out Going Answer
        later = between_rows S bs store places (keeps S bs store places (keeping_of k) l.changes (read_mark l)) e

        after : Kept
        after = with_row k l.changes (read_mark l) (record { at = e.at; reference = l.changes; count = suc k.state.count; eols = k.state.eols })

        same : later ≡ page_from after
        same = ap (λ (n : ℕ). between_rows S bs store places (record { count = suc k.state.count; base = n; reference = l.changes; rows = k.rows ++ l.changes ∷ []; marks = k.marks ++ read_mark l ∷ [] }) e) (sym (entries-snoc k.rows l.changes))

        tests : (b : Bool) → Pages (cond b later (broken S bs store places (keeping_of k) 5 0 l)) 0 (page_to (cond b (more after) (done (end_with k 5 0 0 l.changes))))
        tests true = subst (λ (o : Out Going Answer). Pages later 0 o) same here
        tests false = here

    -- a line that begins, to what the page form makes of it
    line_row : (k : Kept) → counts k → (at : ℕ)
        → Pages (more (going (keeping_of k) (in_line (new_line at)))) (line_units (rules_of S (store - entries k.rows)) bs k.state.reference (new_line at))
        (page_to (keep_row (row4 S bs) store places k (after_line4 S bs k.state (read_line (rules_of S (store - entries k.rows)) (two k.state.reference) bs at))))
    unfolding read_line
    line_row k c at =
        let n : ℕ = line_units (rules_of S (store - entries k.rows)) bs k.state.reference (new_line at) in
        let w : Went = line_end S.columns (code_2d (rules_of S (store - entries k.rows)) k.state.reference bs) bs (new_line at) in
        let o : Out Going Answer = page_to (keep_row (row4 S bs) store places k (after_line4 S bs k.state w)) in
        subst (λ (m : ℕ). Pages (more (going (keeping_of k) (in_line (new_line at)))) m o) (let z : n + 0 ≡ n = omega arith in z)
        (subst (λ (p : Out Going Answer). Pages p (n + 0) o) (begins-line (keeping_of k) at)
        (steps-add (line-paced (keeping_of k) (new_line at)) (kept-paced k c w)))

    row-sim : (k : Kept) → counts k → Pages (page_from k) (row_units S bs (store - entries k.rows) k.state) (page_to (page_step (row_of group4 S bs) store places k))
    unfolding row_units page_step row_of row4
    row-sim k c =
        steps-add
        (subst (λ (n : ℕ). Pages (page_from k) e.count (line_at (keeping_of k) (eols_to n e.at))) (let z : 0 + e.count ≡ e.count = omega arith in z)
        (eols-paced (keeping_of k) (most (keeping_of k)) (eols_to 0 k.state.at) (let z : 0 + most (keeping_of k) ≡ most (keeping_of k) = omega arith in z)))
        (tests (over S bs k.state e))
      where
        e : Eols
        e = eols_before S bs k.state

        R : Rules
        R = rules_of S (store - entries k.rows)

        tests : (b : Bool) → Pages (line_or_over S bs store places (keeping_of k) e b) (cond b 0 (line_units R bs k.state.reference (new_line e.at))) (page_to (keep_row (row4 S bs) store places k (line_or_end S bs (store - entries k.rows) k.state e b)))
        tests true = here
        tests false = line_row k c e.at

    -- The whole page: taken unit after unit it comes to the page form's answer, in as many units as are counted.
    pub page-paced : Bytes bs → S.encoding ≡ group4 → Pages (settle S bs store places units_start) (page_units S bs store places) (done (read_page S bs store places))
    unfolding page_units read_page settle entries
    page-paced bytes q =
        let p = ends-stops step (rows_left bs) (page-falls group4 S wide bs bytes store places) start in
        subst (λ (n : Encoding). Pages (page_from start) (costs row_cost step (rows_left bs) start) (done (page_of (ends (page_step (row_of n S bs) store places) (rows_left bs) start)))) (sym q)
        (subst (λ (o : Out Kept Answer). Pages (page_from start) (costs row_cost step (rows_left bs) start) (done (page_of o))) (sym p.1)
        (paced-ends row_cost step (unit S bs store places) page_from (λ (a : Answer). done a) (Held group4 S wide bs bytes store places)
        (λ k j h e. held_next group4 S wide bs bytes store places k j h e) (λ k h. row-sim k h.counted) (rows_left bs) start p.0 (held_start group4 S wide bs bytes store places) p.1))
      where
        start : Kept
        start = none_kept

        step : Kept → Out Kept Answer
        step = page_step (row_of group4 S bs) store places

        row_cost : Kept → ℕ
        row_cost k = row_units S bs (store - entries k.rows) k.state
