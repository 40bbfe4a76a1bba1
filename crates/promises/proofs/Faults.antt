-- Why a code, a line and a row fail, and at which bit: the causes of A7, from the definitions. Assumes nothing.
use mathlib.Core.Path.{◌≡◌, refl, sym, ap, ◌∙◌, subst, subst₂}
use mathlib.Core.Bool.{Bool, true, false, cond, not, ◌&&◌}
use mathlib.Core.List.{List, [], ◌∷◌, ◌++◌, append_assoc}
use Prim.Native.Nat.{ℕ, ◌+◌, ◌-◌, ◌≤◌, ◌<◌}
use native.Mathlib.Omega.{arith}
use lib.Dec.{eqb, leb, ltb}
use lib.ListN.{length, drop, length-append}
use borrow.Author.Tests.{leb-true, leb-false, eqb-true, not-true}
use Rattle.rules.specs.Answers.{invalid_code, overflow, no_entry, most_pixels}
use Rattle.rules.specs.Machine.{Out, more, done, run, ends}
use Rattle.rules.specs.Codes.{Colour, Code, code_bits}
use Rattle.rules.specs.Lookup.{Entry, valid, invalid}
use Rattle.rules.specs.Runs.{Res, ok, fault, Sum, sum, run_take, run_step, bits_after, answer, read_run}
use Rattle.rules.specs.Modes.{Mode, pass, horizontal, VR, VL, ModeIn, known, unknown, mode_by_table, mode_take, Moded, read_mode}
use Rattle.rules.specs.Lines.{Rules, Line, line, new_line, turned, moved_to, with_cut, Went, went, failed, next, recorded, add, push, push_turn, after_run, push_run, b1, b2, at_the_first, unmoved, idle, unless_idle, vertical, apply, after_mode, code_2d, Kind, one, two, code_of, line_of, line_step, line_end, read_line}
use Rattle.rules.specs.Write.{codes_bits}
use Rattle.rules.proofs.Machine.{Reaches, reach_here, reach-more, ends-ind, ends-stops}
use Rattle.rules.proofs.Codes.{length-code_bits}
use Rattle.rules.proofs.Runs.{Takes, after, run-cases, run-falls}
use Rattle.rules.proofs.Bits.{both_true}
use Rattle.rules.proofs.Lines.{Each, line-cases, line-falls, moves}
use Rattle.rules.specs.Counts.{Vertical}
use Rattle.rules.proofs.Counts.{AtA1, to-a1, by-two-runs}
use Rattle.rules.specs.Counts as Counts
use Rattle.promises.specs.Places.{MakeUps, none, next as longer, entry_at, CodeFails, no_code, cut_code, cut_short, passes, RunFault, ModeFault, no_mode, cut_mode, cut_zeros, PushFails, inside_run, too_long, MovesTo, by_pass, right, left, NoMove, below_0, above, left_of, Fails, run_1_d, mode, move, too_many, idle_move, idle_runs, first_run, second_run, LineFault}

-- ---- A run

module _ (colour : Colour) (bs : List Bool) where
  -- why one step fails
  why-code : (s : Sum) (n p : ℕ) → run_step colour bs s ≡ done (fault n p) → (p ≡ s.at) × CodeFails colour bs s.total s.at n
  unfolding run_step run_take
  why-code s n p = entry (entry_at colour bs s.at) refl
    where
      Why : Out Sum (Res Sum) → Type 0
      Why o = o ≡ done (fault n p) → (p ≡ s.at) × CodeFails colour bs s.total s.at n

      at-fault : (m : ℕ) → CodeFails colour bs s.total s.at m → Why (done (fault m s.at))
      at-fault m f e = (sym (let q : s.at ≡ p = cc in q), subst (CodeFails colour bs s.total s.at) (let q : m ≡ n = cc in q) f)

      entry : (o : Entry) → entry_at colour bs s.at ≡ o → Why (run_take (length bs) s o)
      entry (invalid size) q = tests (leb (s.at + size) (length bs)) (leb-true _ _) (leb-false _ _)
        where
          tests : (b : Bool) → (b ≡ true → s.at + size ≤ length bs) → (b ≡ false → length bs < s.at + size) → Why (done (fault (cond b 1 2) s.at))
          tests true h k = at-fault 1 (no_code q (h refl))
          tests false h k = at-fault 2 (cut_short q (k refl))
      entry (valid pixels size) q = tests (leb (s.at + size) (length bs)) (leb-true _ _) (leb-false _ _) (leb (s.total + pixels) most_pixels) (leb-false _ _) (ltb pixels 64)
        where
          tests : (b : Bool) → (b ≡ true → s.at + size ≤ length bs) → (b ≡ false → length bs < s.at + size) → (c : Bool) → (c ≡ false → most_pixels < s.total + pixels) → (d : Bool)
              → Why (cond b (cond c (cond d (done (ok (sum (s.at + size) (s.total + pixels)))) (more (sum (s.at + size) (s.total + pixels)))) (done (fault 3 s.at))) (done (fault 2 s.at)))
          tests true h k true l true e = absurd (let z : ◌≡◌ {A = ℕ} 0 1 = cc in omega arith)
          tests true h k true l false e = absurd (let z : ◌≡◌ {A = ℕ} 0 1 = cc in omega arith)
          tests true h k false l d e = at-fault 3 (passes q (h refl) (l refl)) e
          tests false h k c l d e = at-fault 2 (cut_code q (k refl)) e

  -- a fault behind make-up codes that are still to come, and a sum that was made before
  record Blamed (s : Sum) (n place : ℕ) : Type 0 where
    more-sum : ℕ
    codes : List Code
    make_ups : MakeUps colour more-sum codes
    within : s.total + more-sum ≤ most_pixels
    there : drop s.at bs ≡ codes_bits codes ++ drop place bs
    place_is : place ≡ s.at + length (codes_bits codes)
    fails : CodeFails colour bs (s.total + more-sum) place n

  abbrev Blames : Sum → Res Sum → Type 0
  Blames s (ok r) = Unit {0}
  Blames s (fault n p) = s.total ≤ most_pixels → Blamed s n p

  run-blames : (s : Sum) (r : Res Sum) → ends (run_step colour bs) (bits_after bs) s ≡ done r → Blames s r
  unfolding codes_bits
  run-blames s r e = ends-ind (run_step colour bs) Blames base next' (bits_after bs) s r e
    where
      base : (s : Sum) (r : Res Sum) → run_step colour bs s ≡ done r → Blames s r
      base s (ok r) e = tt
      base s (fault n p) e = λ h.
          let w = why-code s n p e in
          record {
            more-sum = 0;
            codes = [];
            make_ups = none;
            within = omega arith;
            there = ap (λ (i : ℕ). drop i bs) (sym w.0);
            place_is = omega (arith, w.0);
            fails = subst₂ (λ (t i : ℕ). CodeFails colour bs t i n) (let q : s.total ≡ s.total + 0 = omega arith in q) (sym w.0) w.1;
          }

      along : (s : Sum) (c : Code) → Takes colour bs s c → 64 ≤ c.run → (r : Res Sum) → Blames (after s c) r → Blames s r
      along s c k l (ok r) w = tt
      along s c k l (fault n p) w = λ h.
          let b = w k.small in
          record {
            more-sum = c.run + b.more-sum;
            codes = c ∷ b.codes;
            make_ups = longer (record { member = k.member; run_is = refl }) l b.make_ups;
            within = omega (arith, b.within);
            there = k.there ∙ ap (λ (t : List Bool). code_bits c ++ t) b.there ∙ sym (append_assoc (code_bits c) (codes_bits b.codes) (drop p bs));
            place_is = rw length-append (omega (arith, b.place_is, length-code_bits c));
            fails = subst (λ (t : ℕ). CodeFails colour bs t p n) (let q : s.total + c.run + b.more-sum ≡ s.total + (c.run + b.more-sum) = omega arith in q) b.fails;
          }

      next' : (s t : Sum) (r : Res Sum) → run_step colour bs s ≡ more t → Blames t r → Blames s r
      next' s t r =
          run-cases colour bs s (λ o. o ≡ more t → Blames t r → Blames s r)
          (λ c k l e. absurd (let z : ◌≡◌ {A = ℕ} 0 1 = cc in omega arith))
          (λ c k l e w. along s c k l r (subst (λ (x : Sum). Blames x r) (let q : t ≡ after s c = cc in q) w))
          (λ n p q e. absurd (let z : ◌≡◌ {A = ℕ} 0 1 = cc in omega arith))

  pub run-fault : (at n p : ℕ) → read_run colour bs at ≡ fault n p → RunFault colour bs at n p
  unfolding read_run
  run-fault at n p e =
      let q = ends-stops (run_step colour bs) (bits_after bs) (run-falls colour bs) (sum at 0) in
      let b = subst (Blames (sum at 0)) (sym (ap answer q.1) ∙ e) (run-blames (sum at 0) q.0 q.1) (omega arith) in
      record {
        sum = b.more-sum;
        codes = b.codes;
        make_ups = b.make_ups;
        within = omega (arith, b.within);
        there = b.there;
        place_is = b.place_is;
        fails = subst (λ (t : ℕ). CodeFails colour bs t p n) (let z : 0 + b.more-sum ≡ b.more-sum = omega arith in z) b.fails;
      }

-- ---- A mode code

pub mode-fault : (bs : List Bool) (at n p : ℕ) → read_mode bs at ≡ fault n p → (p ≡ at) × ModeFault bs at n
unfolding read_mode mode_take
mode-fault bs at n p = cases (mode_by_table (drop at bs)) refl
  where
    Why : Res Moded → Type 0
    Why r = r ≡ fault n p → (p ≡ at) × ModeFault bs at n

    at-fault : (m : ℕ) → ModeFault bs at m → Why (fault m at)
    at-fault m f e = (sym (let q : at ≡ p = cc in q), subst (ModeFault bs at) (let q : m ≡ n = cc in q) f)

    cases : (i : ModeIn) → mode_by_table (drop at bs) ≡ i → Why (mode_take (length bs) at i)
    cases (known m size) q = tests (leb (at + size) (length bs)) (leb-false _ _)
      where
        tests : (b : Bool) → (b ≡ false → length bs < at + size) → Why (cond b (ok (record { at = at + size; mode = m })) (fault 2 at))
        tests true h e = absurd (let z : ◌≡◌ {A = ℕ} 0 1 = cc in omega arith)
        tests false h e = at-fault 2 (cut_mode q (h refl)) e
    cases unknown q = tests (leb (at + 6) (length bs)) (leb-true _ _) (leb-false _ _)
      where
        tests : (b : Bool) → (b ≡ true → at + 6 ≤ length bs) → (b ≡ false → length bs < at + 6) → Why (fault (cond b 1 2) at)
        tests true h k = at-fault 1 (no_mode q (h refl))
        tests false h k = at-fault 2 (cut_zeros q (k refl))

-- ---- A count

module _ (R : Rules) where
  -- a count that fits fails with 4 alone
  add-why : (count : ℕ) (s : Line) (n p : ℕ) (t : Line) → add R count s ≡ failed n p t → n ≡ no_entry
  unfolding add
  add-why count s n p t = tests (eqb count 0) (leb (length (recorded s)) R.room)
    where
      tests : (b c : Bool) → cond b (went s) (cond c (went (line s.at (s.position + count) s.colour (recorded s) s.cut)) (failed no_entry 0 s)) ≡ failed n p t → n ≡ no_entry
      tests true c e = absurd (let z : ◌≡◌ {A = ℕ} 0 1 = cc in omega arith)
      tests false true e = absurd (let z : ◌≡◌ {A = ℕ} 0 1 = cc in omega arith)
      tests false false e = sym (let q : 4 ≡ n = cc in q)

  -- too many pixels
  pub record TooMany (place count : ℕ) (s : Line) (n p : ℕ) : Type 0 where
    pub number : n ≡ invalid_code
    pub place_is : p ≡ place
    pub strict : R.strict ≡ true
    pub beyond : R.width - s.position < count

  pub push-why : (place count : ℕ) (s : Line) (n p : ℕ) (t : Line) → push R place count s ≡ failed n p t → n ≤ overflow → TooMany place count s n p
  unfolding push
  push-why place count s n p t e h = tests (leb count (R.width - s.position)) (leb-false _ _) R.strict refl e
    where
      tests : (b : Bool) → (b ≡ false → R.width - s.position < count) → (c : Bool) → R.strict ≡ c
          → cond b (add R count s) (cond c (failed 1 place s) (add R (R.width - s.position) (with_cut s))) ≡ failed n p t → TooMany place count s n p
      tests true k c q e = absurd (omega (arith, add-why count s n p t e))
      tests false k true q e = record { number = sym (let z : 1 ≡ n = cc in z); place_is = sym (let z : place ≡ p = cc in z); strict = q; beyond = k refl }
      tests false k false q e = absurd (omega (arith, add-why (R.width - s.position) (with_cut s) n p t e))

  turn-why : (w : Went) (n p : ℕ) (t : Line) → (next w λ u. went (turned u)) ≡ failed n p t → w ≡ failed n p t
  turn-why (went u) n p t e = absurd (let z : ◌≡◌ {A = ℕ} 0 1 = cc in omega arith)
  turn-why (failed m i u) n p t e = e

  -- exact implies strict (A12)
  module _ (bs : List Bool) (implies : R.exact ≡ true → R.strict ≡ true) where
    run-why : (s : Line) (n p : ℕ) (t : Line) → push_run R bs s ≡ failed n p t → n ≤ overflow → PushFails R bs s n p
    unfolding push_run
    run-why s n p t e h = cases (read_run s.colour bs s.at) refl e
      where
        cases : (r : Res Sum) → read_run s.colour bs s.at ≡ r → after_run R s r ≡ failed n p t → PushFails R bs s n p
        cases (ok r) q e =
            let f = push-why s.at r.total (moved_to r.at s) n p t (turn-why (push R s.at r.total (moved_to r.at s)) n p t e) h in
            subst₂ (λ (m i : ℕ). PushFails R bs s m i) (sym f.number) (sym f.place_is) (too_long q f.strict (omega (arith, f.beyond)))
        cases (fault m i) q e =
            subst₂ (λ (m i : ℕ). PushFails R bs s m i) (let z : m ≡ n = cc in z) (let z : i ≡ p = cc in z) (inside_run (run-fault s.colour bs s.at m i q))

    -- ---- The codes of a 2D line

    module _ (reference : List ℕ) (s : Line) (n p : ℕ) (t : Line) (few : n ≤ overflow) where
      abbrev B1 : ℕ
      B1 = b1 R.width reference s.position s.colour

      abbrev B2 : ℕ
      B2 = b2 R.width reference s.position s.colour

      abbrev Why : Type 0
      Why = Fails R bs s (two reference) n p

      module _ (m : Moded) (q : read_mode bs s.at ≡ ok m) where
        pushed : (a1 : ℕ) → MovesTo B1 B2 m.mode a1 → push R s.at (a1 - s.position) (moved_to m.at s) ≡ failed n p t → Why
        pushed a1 v e =
            let f = push-why s.at (a1 - s.position) (moved_to m.at s) n p t e few in
            subst₂ (λ (m i : ℕ). Fails R bs s (two reference) m i) (sym f.number) (sym f.place_is) (too_many q v f.strict (omega (arith, f.beyond)))

        over : NoMove B1 B2 s.position m.mode → failed 3 s.at (moved_to m.at s) ≡ failed n p t → Why
        over v e = subst₂ (λ (m i : ℕ). Fails R bs s (two reference) m i) (let z : 3 ≡ n = cc in z) (let z : s.at ≡ p = cc in z) (move q v)

        moved : (a1 : ℕ) → MovesTo B1 B2 m.mode a1 → vertical R reference s.at a1 (moved_to m.at s) ≡ failed n p t → Why
        unfolding vertical
        moved a1 v = tests (leb a1 most_pixels) (leb-false _ _) (leb s.position a1) (leb-false _ _)
          where
            tests : (b : Bool) → (b ≡ false → most_pixels < a1) → (c : Bool) → (c ≡ false → a1 < s.position)
                → cond (b && c) (push_turn R s.at (a1 - s.position) (moved_to m.at s)) (failed 3 s.at (moved_to m.at s)) ≡ failed n p t → Why
            tests true h true k e = pushed a1 v (turn-why (push R s.at (a1 - s.position) (moved_to m.at s)) n p t e)
            tests true h false k e = over (left_of v (k refl)) e
            tests false h c k e = over (above v (h refl)) e

      applied : (at : ℕ) (m : Mode) → read_mode bs s.at ≡ ok (record { at = at; mode = m }) → apply R reference bs s.at m (moved_to at s) ≡ failed n p t → Why
      unfolding apply
      applied at pass q e = pushed (record { at = at; mode = pass }) q B2 by_pass e
      applied at horizontal q e = runs (push_run R bs (moved_to at s)) refl e
        where
          runs : (w : Went) → push_run R bs (moved_to at s) ≡ w → next w (push_run R bs) ≡ failed n p t → Why
          runs (went u) z e = second_run q z (run-why u n p t e few)
          runs (failed m i u) z e = first_run q (run-why (moved_to at s) n p t (z ∙ e) few)
      applied at (VR k) q e = moved (record { at = at; mode = VR k }) q (B1 + k) right e
      applied at (VL k) q e = tests (leb k B1) (leb-true _ _) (leb-false _ _) e
        where
          tests : (b : Bool) → (b ≡ true → k ≤ B1) → (b ≡ false → B1 < k)
              → cond b (vertical R reference s.at (B1 - k) (moved_to at s)) (failed 3 s.at (moved_to at s)) ≡ failed n p t → Why
          tests true h l = moved (record { at = at; mode = VL k }) q (B1 - k) (left (h refl))
          tests false h l = over (record { at = at; mode = VL k }) q (below_0 (l refl))

      -- an idle code: the line u that it made has not moved
      module _ (at : ℕ) (u : Line) (exact : R.exact ≡ true) where
        abbrev Reason : Mode → Type 0
        Reason m = read_mode bs s.at ≡ ok (record { at = at; mode = m }) → apply R reference bs s.at m (moved_to at s) ≡ went u → idle m s u ≡ true → Fails R bs s (two reference) 1 s.at

        upright : (m : Mode) (a1 : ℕ) → read_mode bs s.at ≡ ok (record { at = at; mode = m }) → Vertical m → MovesTo B1 B2 m a1 → u.position ≡ a1 → (unmoved s u && not (at_the_first s)) ≡ true
            → Fails R bs s (two reference) 1 s.at
        upright m a1 q v moves e i =
            let b = both_true (unmoved s u) (not (at_the_first s)) i in
            idle_move q v (subst (MovesTo B1 B2 m) (sym e ∙ eqb-true u.position s.position b.0) moves) exact (not-true (at_the_first s) b.1)

        reason : (m : Mode) → Reason m
        unfolding apply
        reason pass q e i = absurd (let z : ◌≡◌ {A = ℕ} 0 1 = cc in omega arith)
        reason horizontal q e i =
            let r = by-two-runs R (implies exact) bs (moved_to at s) u e in
            let stays = eqb-true u.position s.position i in
            let none_first : r.first.total ≡ 0 = omega (arith, r.moves) in
            let none-second : r.second.total ≡ 0 = omega (arith, r.moves) in
            idle_runs q
            (record {
              between = r.first.at;
              behind = r.second.at;
              first = r.first-is ∙ ap (λ (k : ℕ). ok (sum r.first.at k)) none_first;
              second = r.second_is ∙ ap (λ (k : ℕ). ok (sum r.second.at k)) none-second;
            })
            exact
        reason (VR k) q e i =
            upright (VR k) (B1 + k) q (Counts.right k) right
            (subst (Each (AtA1 R (implies exact) (B1 + k) s) (λ n t. Unit {0})) e (to-a1 R (implies exact) reference s.at (B1 + k) (moved_to at s))).1 i
        reason (VL k) q e i = tests (leb k B1) (leb-true _ _) e
          where
            tests : (b : Bool) → (b ≡ true → k ≤ B1) → cond b (vertical R reference s.at (B1 - k) (moved_to at s)) (failed 3 s.at (moved_to at s)) ≡ went u → Fails R bs s (two reference) 1 s.at
            tests true h e =
                upright (VL k) (B1 - k) q (Counts.left k) (left (h refl))
                (subst (Each (AtA1 R (implies exact) (B1 - k) s) (λ n t. Unit {0})) e (to-a1 R (implies exact) reference s.at (B1 - k) (moved_to at s))).1 i
            tests false h e = absurd (let z : ◌≡◌ {A = ℕ} 0 1 = cc in omega arith)

      -- what a code did, or that it was idle
      done-or-idle : (at : ℕ) (m : Mode) → read_mode bs s.at ≡ ok (record { at = at; mode = m }) → (w : Went) → apply R reference bs s.at m (moved_to at s) ≡ w → unless_idle R m s w ≡ failed n p t → Why
      done-or-idle at m q (failed k i u) z e = applied at m q (z ∙ e)
      done-or-idle at m q (went u) z e = tests R.exact refl (idle m s u) refl e
        where
          tests : (x : Bool) → R.exact ≡ x → (y : Bool) → idle m s u ≡ y → cond (x && y) (failed 1 s.at s) (went u) ≡ failed n p t → Why
          tests true x true y e = subst₂ (λ (k i : ℕ). Fails R bs s (two reference) k i) (let c : 1 ≡ n = cc in c) (let c : s.at ≡ p = cc in c) (reason at u x m q z y)
          tests true x false y e = absurd (let c : ◌≡◌ {A = ℕ} 0 1 = cc in omega arith)
          tests false x y i e = absurd (let c : ◌≡◌ {A = ℕ} 0 1 = cc in omega arith)

      code-2d : code_2d R reference bs s ≡ failed n p t → Why
      unfolding code_2d
      code-2d e = cases (read_mode bs s.at) refl e
        where
          cases : (r : Res Moded) → read_mode bs s.at ≡ r → after_mode R reference bs s r ≡ failed n p t → Why
          cases (ok m) q e = done-or-idle m.at m.mode q (apply R reference bs s.at m.mode (moved_to m.at s)) refl e
          cases (fault m i) q e =
              let f = mode-fault bs s.at m i q in
              subst₂ (λ (m i : ℕ). Fails R bs s (two reference) m i) (let z : m ≡ n = cc in z) (sym f.0 ∙ (let z : i ≡ p = cc in z)) (mode f.1)

    pub code-why : (kind : Kind) (s : Line) (n p : ℕ) (t : Line) → code_of R kind bs s ≡ failed n p t → n ≤ overflow → Fails R bs s kind n p
    code-why one s n p t e h = run_1_d (run-why s n p t e h)
    code-why (two reference) s n p t e h = code-2d reference s n p t h e

    -- ---- A line

    module _ (kind : Kind) where
      abbrev step : Line → Out Line Went
      step = line_step R.width (code_of R kind bs)

      abbrev Told : Line → Went → Type 0
      Told s (went t) = Unit {0}
      Told s (failed n p t) = n ≤ overflow → (l : Line) × Reaches step s (more l) × Fails R bs l kind n p

      line-told : (s : Line) (r : Went) → ends step (λ t. length bs - t.at) s ≡ done r → Told s r
      line-told s r e = ends-ind step Told base goes (λ t. length bs - t.at) s r e
        where
          base : (s : Line) (r : Went) → step s ≡ done r → Told s r
          base s r =
              line-cases R.width (code_of R kind bs) s (λ o. o ≡ done r → Told s r)
              (λ h e. subst (Told s) (let q : went s ≡ r = cc in q) tt)
              (λ h t q e. absurd (let z : ◌≡◌ {A = ℕ} 0 1 = cc in omega arith))
              (λ h n p t q e. subst (Told s) (let g : failed n p t ≡ r = cc in g) (λ k. (s, reach_here step s, code-why kind s n p t q k)))

          further : (s t : Line) → step s ≡ more t → (r : Went) → Told t r → Told s r
          further s t e (went u) w = tt
          further s t e (failed n p u) w = λ k. let (l, f, c) = w k in (l, reach-more step s t (more l) e f, c)

          goes : (s t : Line) (r : Went) → step s ≡ more t → Told t r → Told s r
          goes s t r e = further s t e r

      pub line-fault : (start n p : ℕ) (t : Line) → read_line R kind bs start ≡ failed n p t → n ≤ overflow → LineFault R kind bs start n p
      unfolding read_line line_end
      line-fault start n p t e h =
          let q = ends-stops step (λ u. length bs - u.at) (line-falls R.width (code_of R kind bs) bs (moves R kind bs)) (new_line start) in
          let w = subst (Told (new_line start)) (sym (ap line_of q.1) ∙ e) (line-told (new_line start) q.0 q.1) h in
          record { codes = w.1.0; line = w.0; reached = w.1.1; fails = w.2 }
