-- What a code whose pixels fit makes of a line of the rules. Assumes nothing.
use mathlib.Core.Path.{◌≡◌, refl, ap, ◌∙◌}
use mathlib.Core.Bool.{Bool, true, false, cond}
use mathlib.Core.List.{List, [], ◌∷◌, ◌++◌}
use Prim.Native.Nat.{ℕ, suc, ◌+◌, ◌-◌, ◌≤◌, ◌<◌}
use native.Mathlib.Omega.{arith}
use lib.ListN.{length, length-append}
use borrow.Author.Tests.{le-leb, ne_eqb}
use Rattle.rules.specs.Codes.{Colour, white, black, opposite, differ}
use Rattle.rules.specs.Runs.{ok, sum, read_run}
use Rattle.rules.specs.Modes.{Mode, pass, horizontal, VR, VL, moded, read_mode}
use Rattle.rules.specs.Lines.{Rules, Line, line, turned, moved_to, Went, went, next, last_colour, recorded, add, push, push_turn, after_run, push_run, b1, b2, unless_idle, apply, after_mode, code_2d}
use Rattle.rules.proofs.Lines.{not-idle}
use Rattle.std.specs.Prelude.{Some}
use Rattle.context.specs.Offset.{move_by}
use Rattle.context.proofs.Moves.{Upright, after_move, mode-moves}
use Rattle.context.proofs.Idle.{pass-busy, move_some}

-- ---- A change recorded

pub recorded-by : (t : Line) (b : Bool) → differ (last_colour t.changes) t.colour ≡ b → recorded t ≡ cond b (t.changes ++ t.position ∷ []) t.changes
unfolding recorded
recorded-by t b e = ap (λ (b : Bool). cond b (t.changes ++ t.position ∷ []) t.changes) e

-- one more at most
pub recorded-few : (t : Line) → (length t.changes ≤ length (recorded t)) × (length (recorded t) ≤ suc (length t.changes))
recorded-few t = cases (differ (last_colour t.changes) t.colour) refl
  where
    cases : (b : Bool) → differ (last_colour t.changes) t.colour ≡ b → (length t.changes ≤ length (recorded t)) × (length (recorded t) ≤ suc (length t.changes))
    cases true e = omega (arith, ap length (recorded-by t true e), length-append t.changes (t.position ∷ []))
    cases false e = omega (arith, ap length (recorded-by t false e))

last_snoc : (xs : List ℕ) (x : ℕ) → last_colour (xs ++ x ∷ []) ≡ opposite (last_colour xs)
unfolding last_colour
last_snoc [] x = refl
last_snoc (y ∷ xs) x = ap opposite (last_snoc xs x)

-- then the last pixel has the line's colour
pub last-recorded : (t : Line) → last_colour (recorded t) ≡ t.colour
last-recorded t = cases (differ (last_colour t.changes) t.colour) refl
  where
    other : (c d : Colour) → differ c d ≡ true → opposite c ≡ d
    other white white e = absurd (let z : ◌≡◌ {A = ℕ} 0 1 = cc in omega arith)
    other white black e = refl
    other black white e = refl
    other black black e = absurd (let z : ◌≡◌ {A = ℕ} 0 1 = cc in omega arith)

    same : (c d : Colour) → differ c d ≡ false → c ≡ d
    same white white e = refl
    same white black e = absurd (let z : ◌≡◌ {A = ℕ} 0 1 = cc in omega arith)
    same black white e = absurd (let z : ◌≡◌ {A = ℕ} 0 1 = cc in omega arith)
    same black black e = refl

    cases : (b : Bool) → differ (last_colour t.changes) t.colour ≡ b → last_colour (recorded t) ≡ t.colour
    cases true e = ap last_colour (recorded-by t true e) ∙ last_snoc t.changes t.position ∙ other (last_colour t.changes) t.colour e
    cases false e = ap last_colour (recorded-by t false e) ∙ same (last_colour t.changes) t.colour e

opposite-differs : (c : Colour) → differ c (opposite c) ≡ true
opposite-differs white = refl
opposite-differs black = refl

pub opposite-twice : (c : Colour) → opposite (opposite c) ≡ c
opposite-twice white = refl
opposite-twice black = refl

-- ---- Pixels that fit

module _ (R : Rules) (place count : ℕ) (t : Line) (some : 0 < count) (fits : t.position + count ≤ R.width) (roomy : length (recorded t) ≤ R.room) where
  push-fits : push R place count t ≡ went (line t.at (t.position + count) t.colour (recorded t) t.cut)
  unfolding push add
  push-fits = rw (le-leb count (R.width - t.position) (omega arith), ne_eqb count 0 (λ e. omega arith), le-leb (length (recorded t)) R.room roomy)

  turn-fits : push_turn R place count t ≡ went (line t.at (t.position + count) (opposite t.colour) (recorded t) t.cut)
  turn-fits = ap (λ (w : Went). next w λ u. went (turned u)) push-fits

-- ---- Runs

module _ (R : Rules) (bs : List Bool) (t : Line) (n : ℕ) where
  pub run-goes : (pixels : ℕ) → read_run t.colour bs t.at ≡ ok (sum n pixels) → 0 < pixels → t.position + pixels ≤ R.width → length (recorded t) ≤ R.room
      → push_run R bs t ≡ went (line n (t.position + pixels) (opposite t.colour) (recorded t) t.cut)
  unfolding push_run recorded
  run-goes pixels read some fits roomy = ap (after_run R t) read ∙ turn-fits R t.at pixels (moved_to n t) some fits roomy

  -- a run of 0 turns the colour alone
  pub run_none : read_run t.colour bs t.at ≡ ok (sum n 0) → push_run R bs t ≡ went (line n t.position (opposite t.colour) t.changes t.cut)
  unfolding push_run push add
  run_none read = ap (after_run R t) read ∙ rw (le-leb 0 (R.width - t.position) (omega arith))

-- the next one begins with a change
pub recorded-next : (t : Line) (n p : ℕ) → recorded (line n p (opposite t.colour) (recorded t) t.cut) ≡ recorded t ++ p ∷ []
recorded-next t n p =
    recorded-by (line n p (opposite t.colour) (recorded t) t.cut) true
    (ap (λ (c : Colour). differ c (opposite t.colour)) (last-recorded t) ∙ opposite-differs t.colour)

-- ---- Codes

-- a vertical move that stays in 32 bits
module _ (b a1 k position : ℕ) (small : a1 ≤ 4294967295) (right : position ≤ a1) where
  pub moves-right : b + k ≡ a1 → move_by b (VR k) position ≡ Some (a1 - position)
  unfolding move_by
  moves-right e = rw (e, le-leb a1 4294967295 small, le-leb position a1 right)

  pub moves-left : b ≡ a1 + k → move_by b (VL k) position ≡ Some (a1 - position)
  unfolding move_by
  moves-left e = let d : b - k ≡ a1 = omega arith in rw (le-leb k b (omega arith), d, le-leb a1 4294967295 small, le-leb position a1 right)

module _ (R : Rules) (reference : List ℕ) (bs : List Bool) (t : Line) (n : ℕ) where
  module _ (m : Mode) (upright : Upright m) (read : read_mode bs t.at ≡ ok (moded n m)) (a1 : ℕ)
      (move : move_by (b1 R.width reference t.position t.colour) m t.position ≡ Some (a1 - t.position))
      (right : t.position < a1) (fits : a1 ≤ R.width) (roomy : length (recorded t) ≤ R.room) where
    pub vertical-goes : code_2d R reference bs t ≡ went (line n a1 (opposite t.colour) (recorded t) t.cut)
    unfolding code_2d recorded
    vertical-goes =
        let e : t.position + (a1 - t.position) ≡ a1 = omega arith in
        ap (after_mode R reference bs t) read
        ∙ ap (unless_idle R m t) (mode-moves R reference bs t.at (moved_to n t) m upright ∙ ap (after_move R t.at (moved_to n t)) move)
        ∙ move_some R m upright t t.at n (a1 - t.position) (omega arith) (λ z. omega arith)
        ∙ turn-fits R t.at (a1 - t.position) (moved_to n t) (omega arith) (omega arith) roomy
        ∙ ap (λ (p : ℕ). went (line n p (opposite t.colour) (recorded t) t.cut)) e

  module _ (read : read_mode bs t.at ≡ ok (moded n pass)) (right : t.position < b2 R.width reference t.position t.colour) (fits : b2 R.width reference t.position t.colour ≤ R.width) (roomy : length (recorded t) ≤ R.room) where
    pub pass-goes : code_2d R reference bs t ≡ went (line n (b2 R.width reference t.position t.colour) t.colour (recorded t) t.cut)
    unfolding code_2d apply recorded
    pass-goes =
        let e : t.position + (b2 R.width reference t.position t.colour - t.position) ≡ b2 R.width reference t.position t.colour = omega arith in
        ap (after_mode R reference bs t) read
        ∙ pass-busy R t (apply R reference bs t.at pass (moved_to n t))
        ∙ push-fits R t.at (b2 R.width reference t.position t.colour - t.position) (moved_to n t) (omega arith) (omega arith) roomy
        ∙ ap (λ (p : ℕ). went (line n p t.colour (recorded t) t.cut)) e

  module _ (read : read_mode bs t.at ≡ ok (moded n horizontal)) (n1 p1 n2 p2 : ℕ)
      (one : read_run t.colour bs n ≡ ok (sum n1 p1)) (two : read_run (opposite t.colour) bs n1 ≡ ok (sum n2 p2))
      (some1 : 0 < p1) (some2 : 0 < p2) (fits : t.position + p1 + p2 ≤ R.width) (roomy : suc (length (recorded t)) ≤ R.room) where
    mid : Line
    mid = line n1 (t.position + p1) (opposite t.colour) (recorded t) t.cut

    end : Line
    end = line n2 (t.position + p1 + p2) t.colour (recorded t ++ (t.position + p1) ∷ []) t.cut

    first : push_run R bs (moved_to n t) ≡ went mid
    unfolding mid recorded
    first = run-goes R bs (moved_to n t) n1 p1 one some1 (omega arith) (omega arith)

    second : push_run R bs mid ≡ went end
    unfolding mid end
    second =
        let q = recorded-next t n1 (t.position + p1) in
        run-goes R bs mid n2 p2 two some2 fits (omega (arith, ap length q, length-append (recorded t) ((t.position + p1) ∷ [])))
        ∙ (λ i. went (line n2 (t.position + p1 + p2) (opposite-twice t.colour i) (q i) t.cut))

    pub horizontal-goes : code_2d R reference bs t ≡ went (line n2 (t.position + p1 + p2) t.colour (recorded t ++ (t.position + p1) ∷ []) t.cut)
    unfolding code_2d apply end
    horizontal-goes =
        ap (after_mode R reference bs t) read
        ∙ ap (λ (w : Went). unless_idle R horizontal t (next w (push_run R bs))) first
        ∙ ap (unless_idle R horizontal t) second
        ∙ not-idle R horizontal t end (ne_eqb (t.position + p1 + p2) t.position (λ z. omega arith))
