-- In an exact line (A12) every code moves on, but for the line's first where it moves to 0; so a line has at most as many mode codes as columns, and one, and three times as many codes besides
-- make-ups: no data can hold the reader up with idle codes. Assumes nothing.
use mathlib.Core.Path.{◌≡◌, refl, sym, ap, ap₂, ◌∙◌, subst}
use mathlib.Core.Bool.{Bool, true, false, cond, not, ◌&&◌, and-false}
use mathlib.Core.List.{List}
use Prim.Native.Nat.{ℕ, suc, ◌+◌, ◌-◌, ◌*◌, ◌≤◌, ◌<◌}
use native.Mathlib.Omega.{arith}
use native.Mathlib.Nat.{mul-suc, mul-le-mul_left, sub-zero}
use lib.Dec.{eqb, leb, ltb}
use lib.ListN.{length}
use borrow.Author.Tests.{eqb-true, eqb-false, eq-eqb, ne_eqb, leb-true, ltb-true, ltb-false}
use Rattle.rules.specs.Machine.{costs}
use Rattle.rules.specs.Codes.{Colour, white, black, opposite, differ}
use Rattle.rules.specs.Runs.{Res, ok, fault, Sum, read_run}
use Rattle.rules.specs.Modes.{Mode, pass, horizontal, VR, VL, Moded, moded, read_mode}
use Rattle.rules.specs.Lines.{Rules, Line, line, new_line, turned, moved_to, Went, went, failed, next, recorded, add, push, push_turn, after_run, push_run, b1, b2, unmoved, at_the_first, idle, vertical, apply, after_mode, code_2d, line_step, line_in}
use Rattle.rules.specs.Counts.{of_second, behind_mode, behind_code, of_code, of_line, mode_codes, codes_but_makeups, Vertical, right, left, MovesOn, further, to_0}
use Rattle.rules.proofs.Bits.{both_true}
use Rattle.rules.proofs.Machine.{Paid, spent-most}
use Rattle.rules.specs.Rising.{Rising}
use Rattle.rules.proofs.Ahead.{b2-behind}
use Rattle.rules.proofs.Lines.{idle-went, exact-busy, Each, line-cases}
use Rattle.rules.proofs.Grows.{apply-grows, code_2d-grows}

-- ---- A strict line moves by its counts, so what is unmoved is what 02 calls idle

abbrev Any : ℕ → Line → Type 0
Any n t = Unit {0}

module _ (R : Rules) (strict : R.strict ≡ true) where
  abbrev Adds : ℕ → Line → Line → Type 0
  Adds count s t = (t.at ≡ s.at) × (t.colour ≡ s.colour) × (t.position ≡ s.position + count)

  push-adds : (place count : ℕ) (s : Line) → Each (Adds count s) Any (push R place count s)
  unfolding push add
  push-adds place count s = rw strict (tests (leb count (R.width - s.position)) (eqb count 0) (eqb-true count 0) (leb (length (recorded s)) R.room))
    where
      tests : (a b : Bool) → (b ≡ true → count ≡ 0) → (c : Bool)
          → Each (Adds count s) Any (cond a (cond b (went s) (cond c (went (line s.at (s.position + count) s.colour (recorded s) s.cut)) (failed 4 0 s))) (failed 1 place s))
      tests true true z c = (refl, refl, omega (arith, z refl))
      tests true false z true = (refl, refl, refl)
      tests true false z false = tt
      tests false b z c = tt

  -- and then turns
  abbrev Turns : ℕ → Line → Line → Type 0
  Turns count s t = (t.at ≡ s.at) × (t.colour ≡ opposite s.colour) × (t.position ≡ s.position + count)

  turn-turns : (place count : ℕ) (s : Line) → Each (Turns count s) Any (push_turn R place count s)
  turn-turns place count s = cases (push R place count s) (push-adds place count s)
    where
      cases : (w : Went) → Each (Adds count s) Any w → Each (Turns count s) Any (next w λ t. went (turned t))
      cases (went t) (a, c, p) = (a, ap opposite c, p)
      cases (failed n p t) x = tt

  -- A vertical mode goes to a1, so it is unmoved where a1 is the position;
  abbrev pub AtA1 : ℕ → Line → Line → Type 0
  AtA1 a1 s t = (t.colour ≡ opposite s.colour) × (t.position ≡ a1)

  pub to-a1 : (reference : List ℕ) (place a1 : ℕ) (s : Line) → Each (AtA1 a1 s) Any (vertical R reference place a1 s)
  unfolding vertical
  to-a1 reference place a1 s = tests (leb a1 4294967295) (leb s.position a1) (leb-true s.position a1)
    where
      reaches : s.position ≤ a1 → (w : Went) → Each (Turns (a1 - s.position) s) Any w → Each (AtA1 a1 s) Any w
      reaches h (went t) (a, c, p) = (c, omega arith)
      reaches h (failed n p t) x = tt

      tests : (a b : Bool) → (b ≡ true → s.position ≤ a1) → Each (AtA1 a1 s) Any (cond (a && b) (push_turn R place (a1 - s.position) s) (failed 3 place s))
      tests true true h = reaches (h refl) (push_turn R place (a1 - s.position) s) (turn-turns place (a1 - s.position) s)
      tests true false h = tt
      tests false b h = tt

  -- and a horizontal mode goes by its two runs, so it is unmoved where both are zero.
  pub record TwoRuns (bs : List Bool) (s t : Line) : Type 0 where
    pub first : Sum
    pub first-is : read_run s.colour bs s.at ≡ ok first
    pub second : Sum
    pub second_is : read_run (opposite s.colour) bs first.at ≡ ok second
    pub moves : t.position ≡ s.position + first.total + second.total

  run-turns : (bs : List Bool) (s t : Line) → push_run R bs s ≡ went t → (r : Sum) × (read_run s.colour bs s.at ≡ ok r) × Turns r.total (moved_to r.at s) t
  unfolding push_run
  run-turns bs s t = cases (read_run s.colour bs s.at) refl
    where
      cases : (r : Res Sum) → read_run s.colour bs s.at ≡ r → after_run R s r ≡ went t → (q : Sum) × (read_run s.colour bs s.at ≡ ok q) × Turns q.total (moved_to q.at s) t
      cases (ok r) e f = (r, e, subst (Each (Turns r.total (moved_to r.at s)) Any) f (turn-turns s.at r.total (moved_to r.at s)))
      cases (fault n p) e f = absurd (let z : ◌≡◌ {A = ℕ} 0 1 = cc in omega arith)

  pub by-two-runs : (bs : List Bool) (s t : Line) → next (push_run R bs s) (push_run R bs) ≡ went t → TwoRuns bs s t
  by-two-runs bs s t = cases (push_run R bs s) refl
    where
      cases : (w : Went) → push_run R bs s ≡ w → next w (push_run R bs) ≡ went t → TwoRuns bs s t
      cases (went u) e f =
          let (r, x, (a, c, p)) = run-turns bs s u e in
          let (q, y, (b, d, k)) = run-turns bs u t f in
          record {
            first = r;
            first-is = x;
            second = q;
            second_is = sym (ap₂ (λ (v : Colour) (n : ℕ). read_run v bs n) c a) ∙ y;
            moves = omega arith;
          }
      cases (failed n p u) e f = absurd (let z : ◌≡◌ {A = ℕ} 0 1 = cc in omega arith)

-- ---- One code

-- the first code is read in white, at 0
at_first : (s : Line) → at_the_first s ≡ true → (s.position ≡ 0) × (s.colour ≡ white)
at_first s e = let b = both_true (eqb s.position 0) (differ black s.colour) e in (eqb-true s.position 0 b.0, is_white s.colour b.1)
  where
    is_white : (c : Colour) → differ black c ≡ true → c ≡ white
    is_white white q = refl
    is_white black q = absurd (let z : ◌≡◌ {A = ℕ} 0 1 = cc in omega arith)

module _ (R : Rules) (strict : R.strict ≡ true) (exact : R.exact ≡ true) (reference : List ℕ) (rises : Rising R.width 0 reference) (bs : List Bool) where
  module _ (s t : Line) (before : s.position < R.width) where
    abbrev applied : ℕ → Mode → Went
    applied a mode = apply R reference bs s.at mode (moved_to a s)

    abbrev from : ℕ
    from = b1 R.width reference s.position s.colour

    -- b2 lies right of a0
    b2-right : (colour : Colour) → s.position < b2 R.width reference s.position colour
    b2-right colour = tests (ltb (b2 R.width reference s.position colour) R.width) refl
      where
        tests : (b : Bool) → ltb (b2 R.width reference s.position colour) R.width ≡ b → s.position < b2 R.width reference s.position colour
        tests true e = b2-behind rises s.position colour (ltb-true _ _ e)
        tests false e = omega (arith, ltb-false (b2 R.width reference s.position colour) R.width e)

    -- a vertical mode that is not idle
    vertical-moves : (m : Moded) → read_mode bs s.at ≡ ok m → Vertical m.mode → (unmoved s t && not (at_the_first s)) ≡ false → s.position ≤ t.position → t.colour ≡ opposite s.colour → MovesOn bs s t
    vertical-moves m r v busy h c = tests (unmoved s t) refl (at_the_first s) refl busy
      where
        tests : (x : Bool) → unmoved s t ≡ x → (y : Bool) → at_the_first s ≡ y → (x && not y) ≡ false → MovesOn bs s t
        tests false p y q e = further (let z : t.position ≡ s.position → ⊥ = eqb-false t.position s.position p in omega arith)
        tests true p true q e = let f = at_first s q in to_0 m r v q (eqb-true t.position s.position p ∙ f.0) (c ∙ ap opposite f.1)
        tests true p false q e = absurd (let z : ◌≡◌ {A = ℕ} 0 1 = cc in omega arith)

    -- which turns the colour
    turns : (a : ℕ) (mode : Mode) → Vertical mode → applied a mode ≡ went t → t.colour ≡ opposite s.colour
    unfolding apply
    turns a mode (right k) e = (subst (Each (AtA1 R strict (from + k) s) Any) e (to-a1 R strict reference s.at (from + k) (moved_to a s))).0
    turns a mode (left k) e = (subst (Each (AtA1 R strict (from - k) s) Any) e (tests (leb k from))).0
      where
        tests : (b : Bool) → Each (AtA1 R strict (from - k) s) Any (cond b (vertical R reference s.at (from - k) (moved_to a s)) (failed 3 s.at (moved_to a s)))
        tests true = to-a1 R strict reference s.at (from - k) (moved_to a s)
        tests false = tt

    by_mode : (a : ℕ) (mode : Mode) → read_mode bs s.at ≡ ok (moded a mode) → applied a mode ≡ went t → idle mode s t ≡ false → s.position ≤ t.position → MovesOn bs s t
    unfolding apply
    by_mode a pass r e busy h =
        let (x, y, p) = subst (Each (Adds R strict count (moved_to a s)) Any) e (push-adds R strict s.at count (moved_to a s)) in
        further (omega (arith, b2-right s.colour))
      where
        count : ℕ
        count = b2 R.width reference s.position s.colour - s.position
    by_mode a horizontal r e busy h = further (let z : t.position ≡ s.position → ⊥ = eqb-false t.position s.position busy in omega arith)
    by_mode a (VR k) r e busy h = vertical-moves (moded a (VR k)) r (right k) busy h (turns a (VR k) (right k) e)
    by_mode a (VL k) r e busy h = vertical-moves (moded a (VL k)) r (left k) busy h (turns a (VL k) (left k) e)

    -- Every code of an exact line moves on, but for the first where it moves to 0.
    pub exact-moves : code_2d R reference bs s ≡ went t → MovesOn bs s t
    unfolding code_2d
    exact-moves = cases (read_mode bs s.at) refl
      where
        cases : (r : Res Moded) → read_mode bs s.at ≡ r → after_mode R reference bs s r ≡ went t → MovesOn bs s t
        cases (ok m) q e =
            let g = idle-went R m.mode s t (applied m.at m.mode) e in
            by_mode m.at m.mode q g (exact-busy R exact m.mode s t (applied m.at m.mode) e)
            (subst (λ (w : Went). s.position ≤ (line_in w).position) g (apply-grows R reference bs s.at m.mode (moved_to m.at s)).further)
        cases (fault n p) q e = absurd (let z : ◌≡◌ {A = ℕ} 0 1 = cc in omega arith)

    -- So position 0 in white is where the line's first code is read, and no other.
    pub first-once : code_2d R reference bs s ≡ went t → at_the_first t ≡ false
    first-once e = cases (exact-moves e)
      where
        cases : MovesOn bs s t → at_the_first t ≡ false
        cases (further h) = rw (ne_eqb t.position 0 (λ z. omega arith))
        cases (to_0 m r v f p c) = rw c (and-false (eqb t.position 0))

  -- ---- A line

  -- where no run counts more than `most`
  module _ (ofRun : Colour → ℕ → ℕ) (most : ℕ) (few : (colour : Colour) (a : ℕ) → ofRun colour a ≤ most) where
    abbrev each : ℕ
    each = suc (most + most)

    -- what is held for the codes to come: for each column left, and one for the first
    abbrev held : Line → ℕ
    held s = each * (R.width - s.position) + cond (at_the_first s) 1 0

    behind-few : (s : Line) (r : Res Moded) → suc (behind_code ofRun R bs s r) ≤ each
    behind-few s (ok m) = modes m.mode (moved_to m.at s)
      where
        second : (w : Went) → of_second ofRun R bs w ≤ most
        second (went u) = few u.colour u.at
        second (failed n p u) = omega arith

        modes : (mode : Mode) (u : Line) → suc (behind_mode ofRun R bs mode u) ≤ each
        modes pass u = omega arith
        modes horizontal u = omega (arith, few u.colour u.at, second (push_run R bs u))
        modes (VR k) u = omega arith
        modes (VL k) u = omega arith
    behind-few s (fault n p) = omega arith

    vertical-alone : (mode : Mode) → Vertical mode → (u : Line) → behind_mode ofRun R bs mode u ≡ 0
    vertical-alone mode (right k) u = refl
    vertical-alone mode (left k) u = refl

    -- one code
    code-few : (s : Line) → of_code ofRun R bs s ≤ each
    unfolding of_code
    code-few s = tests (eqb s.position R.width)
      where
        tests : (b : Bool) → cond b 0 (suc (behind_code ofRun R bs s (read_mode bs s.at))) ≤ each
        tests true = omega arith
        tests false = behind-few s (read_mode bs s.at)

    code-none : (s : Line) → s.position ≡ R.width → of_code ofRun R bs s ≡ 0
    unfolding of_code
    code-none s h = rw (eq-eqb s.position R.width h)

    code-alone : (s : Line) → (s.position ≡ R.width → ⊥) → (m : Moded) → read_mode bs s.at ≡ ok m → Vertical m.mode → of_code ofRun R bs s ≡ 1
    unfolding of_code
    code-alone s n m r v = rw (ne_eqb s.position R.width n, r) (ap suc (vertical-alone m.mode v (moved_to m.at s)))

    -- each is paid for
    paid : (s : Line) → s.position ≤ R.width → Paid (λ t. t.position ≤ R.width) (of_code ofRun R bs) held s (line_step R.width (code_2d R reference bs) s)
    paid s inside =
        line-cases R.width (code_2d R reference bs) s (Paid (λ t. t.position ≤ R.width) (of_code ofRun R bs) held s)
        (λ h. omega (arith, code-none s h))
        (λ n t e. let before : s.position < R.width = omega arith in (
          subst (λ (w : Went). (line_in w).position ≤ R.width) e ((code_2d-grows R reference bs s).fits inside),
          subst (λ (b : Bool). of_code ofRun R bs s + (each * (R.width - t.position) + cond b 1 0) ≤ held s) (sym (first-once s t before e)) (moved n t (exact-moves s t before e)),
        ))
        (λ n m p t e. omega (arith, column (R.width - s.position) 0 (of_code ofRun R bs s) (cond (at_the_first s) 1 0) (omega arith) (code-few s)))
      where
        -- for a code out of what is held for a column
        column : (a b c x : ℕ) → b < a → c ≤ each → c + (each * b + 0) ≤ each * a + x
        column a b c x h k = omega (arith, mul-le-mul_left {m = suc b} {n = a} each h, mul-suc each b)

        moved : (s.position ≡ R.width → ⊥) → (t : Line) → MovesOn bs s t → of_code ofRun R bs s + (each * (R.width - t.position) + 0) ≤ held s
        moved n t (further h) = column (R.width - s.position) (R.width - t.position) (of_code ofRun R bs s) (cond (at_the_first s) 1 0) (omega arith) (code-few s)
        moved n t (to_0 m r v f p c) =
            subst (λ (b : Bool). of_code ofRun R bs s + (each * (R.width - t.position) + 0) ≤ each * (R.width - s.position) + cond b 1 0) (sym f)
            (omega (arith, code-alone s n m r v, ap (λ (q : ℕ). each * (R.width - q)) (p ∙ sym (at_first s f).0)))

    -- What is counted of an exact line: for each column a mode code and what two runs count, and one.
    pub exact-few : (at : ℕ) → of_line ofRun R bs reference (new_line at) ≤ each * R.width + 1
    unfolding of_line costs
    exact-few at =
        rw (sub-zero R.width) at (spent-most (λ t. t.position ≤ R.width) (of_code ofRun R bs) held (line_step R.width (code_2d R reference bs)) paid (suc (length bs - at)) (new_line at) (omega arith))

  -- So it has at most as many mode codes as columns, and one,
  pub few-modes : (at : ℕ) → mode_codes R reference bs at ≤ R.width + 1
  few-modes at = omega (arith, exact-few (λ colour a. 0) 0 (λ colour a. omega arith) at)

  -- and at most three times as many codes besides make-ups, and one.
  pub few-codes : (at : ℕ) → codes_but_makeups R reference bs at ≤ 3 * R.width + 1
  few-codes at = omega (arith, exact-few (λ colour a. 1) 1 (λ colour a. omega arith) at)
