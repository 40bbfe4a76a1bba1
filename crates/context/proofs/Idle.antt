-- Idle codes (A12): a vertical move of nothing, and two runs that are both zero. Assumes nothing.
use mathlib.Core.Path.{◌≡◌, refl, sym, ap, ◌∙◌}
use mathlib.Core.Bool.{Bool, true, false, cond, not, ◌&&◌}
use mathlib.Core.List.{List}
use Prim.Native.Nat.{ℕ, zero, suc, ◌+◌, ◌-◌, ◌≤◌, ◌<◌}
use native.Mathlib.Omega.{arith}
use lib.Dec.{eqb, leb}
use lib.ListN.{length}
use borrow.Author.Tests.{eqb-true, eq-eqb, ne_eqb, le-leb}
use Rattle.std.specs.Prelude.{Ok, Err}
use Rattle.rules.specs.Bits.{bits_of}
use Rattle.rules.specs.Codes.{black, differ}
use Rattle.rules.specs.Modes.{Mode, pass, horizontal, VR, VL}
use Rattle.rules.specs.Lines as Rule
use Rattle.rules.specs.Lines.{Rules, Went, went, failed, next, turned, moved_to, with_cut, recorded, add, push, push_turn, at_the_first, idle, unless_idle}
use Rattle.rules.specs.Pages.{overlaid}
use Rattle.rules.proofs.Lines.{not-idle, Each}
use Rattle.rules.proofs.Grows.{GrowsTo, two_runs-grows}
use Rattle.tables.specs.Tables.{colour_of}
use Rattle.context.specs.declared.line.Line.{Line}
use Rattle.context.specs.declared.step.Rules as Code
use Rattle.context.specs.State.{line_at, line_for, rules_for, Holds}
use Rattle.context.specs.Outcome.{Step, stop_at, Steps, runs_from}
use Rattle.context.specs.Coding.{unless_idle_for, TwoRuns}
use Rattle.context.proofs.State.{line-for}
use Rattle.context.proofs.Moves.{Upright}

-- ---- Pass mode

-- it is never idle
pub pass-busy : (R : Rules) (s : Rule.Line) (w : Went) → unless_idle R pass s w ≡ w
pass-busy R s (went t) = not-idle R pass s t refl
pass-busy R s (failed n p t) = refl

-- ---- A vertical move

abbrev Any : ℕ → Rule.Line → Type 0
Any n t = Unit {0}

module _ (R : Rules) where
  -- pixels that are more than none take the line further
  add-on : (count : ℕ) (s : Rule.Line) → (count ≡ 0 → ⊥) → Each (λ t. s.position < t.position) Any (add R count s)
  unfolding add
  add-on count s some = rw (ne_eqb count 0 some) (tests (leb (length (recorded s)) R.room))
    where
      tests : (b : Bool) → Each (λ t. s.position < t.position) Any (cond b (went (Rule.line s.at (s.position + count) s.colour (recorded s) s.cut)) (failed 4 0 s))
      tests true = omega arith
      tests false = tt

  turn_on : (place count : ℕ) (s : Rule.Line) → s.position < R.width → (count ≡ 0 → ⊥) → Each (λ t. s.position < t.position) Any (push_turn R place count s)
  unfolding push
  turn_on place count s short some = turns (push R place count s) (tests (leb count (R.width - s.position)) R.strict)
    where
      turns : (w : Went) → Each (λ t. s.position < t.position) Any w → Each (λ t. s.position < t.position) Any (next w λ t. went (turned t))
      turns (went t) h = h
      turns (failed n p t) h = tt

      tests : (b c : Bool) → Each (λ t. s.position < t.position) Any (cond b (add R count s) (cond c (failed 1 place s) (add R (R.width - s.position) (with_cut s))))
      tests true c = add-on count s some
      tests false true = tt
      tests false false = add-on (R.width - s.position) (with_cut s) (λ e. omega arith)

  module _ (mode : Mode) (u : Upright mode) (s : Rule.Line) where
    upright-idle : (t : Rule.Line) → idle mode s t ≡ (eqb t.position s.position && not (at_the_first s))
    upright-idle t = by mode u
      where
        by : (m : Mode) → Upright m → idle m s t ≡ (eqb t.position s.position && not (at_the_first s))
        by pass v = absurd v
        by horizontal v = absurd v
        by (VR k) v = refl
        by (VL k) v = refl

    -- a move of nothing: the line turns, or it is refused
    pub move-none : (place at : ℕ) → unless_idle R mode s (push_turn R place 0 (moved_to at s)) ≡ cond (R.exact && not (at_the_first s)) (failed 1 s.at s) (went (turned (moved_to at s)))
    unfolding push add
    move-none place at =
        let nothing : push_turn R place 0 (moved_to at s) ≡ went (turned (moved_to at s)) = rw (le-leb 0 (R.width - s.position) (omega arith)) in
        let stays : idle mode s (turned (moved_to at s)) ≡ not (at_the_first s) = upright-idle (turned (moved_to at s)) ∙ rw (eq-eqb s.position s.position refl) in
        ap (unless_idle R mode s) nothing ∙ ap (λ (x : Bool). cond (R.exact && x) (failed 1 s.at s) (went (turned (moved_to at s)))) stays

    -- any other takes the line further
    pub move_some : (place at count : ℕ) → s.position < R.width → (count ≡ 0 → ⊥) → unless_idle R mode s (push_turn R place count (moved_to at s)) ≡ push_turn R place count (moved_to at s)
    move_some place at count short some = moved (push_turn R place count (moved_to at s)) (turn_on place count (moved_to at s) short some)
      where
        moved : (v : Went) → Each (λ t. s.position < t.position) Any v → unless_idle R mode s v ≡ v
        moved (went t) h = not-idle R mode s t (upright-idle t ∙ rw (ne_eqb t.position s.position (λ q. omega arith)))
        moved (failed n p t) h = refl

-- the code's test of the first code is the rules'
pub first-is : (xs : List ℕ) (l : Line) (at : ℕ) → l.colour ≤ 1 → (eqb l.position 0 && eqb l.colour 0) ≡ at_the_first (line_at at xs l)
first-is xs l at h = ap (λ (b : Bool). eqb l.position 0 && b) (white-is l.colour h)
  where
    white-is : (n : ℕ) → n ≤ 1 → eqb n 0 ≡ differ black (colour_of n)
    white-is zero h = refl
    white-is (suc zero) h = refl
    white-is (suc (suc n)) h = absurd (omega arith)

-- ---- The two runs of a horizontal code

module _ (bytes xs : List ℕ) (l : Line) (at next' : ℕ) (rules : Code.Rules) (r : Step) (ys : List ℕ) where
  abbrev R : Rules
  R = rules_for l.width rules xs

  abbrev s : Rule.Line
  s = line_at at xs l

  abbrev W : Went
  W = runs_from R true (bits_of bytes) (line_at next' xs l)

  -- A line that is not exact takes them as they are, and a fault that was found in them came first. Where both are zero nothing was written.
  pub runs-tested : Holds xs l → Steps l.width xs W r ys → TwoRuns bytes xs l at next' rules (unless_idle_for r l at rules.exact) ys
  runs-tested h c = cases W (two_runs-grows R (bits_of bytes) (line_at next' xs l)) c
    where
      idle-or-not : (t : Rule.Line) → (t.position ≡ l.position → t.changes ≡ s.changes) → ys ≡ overlaid t.changes xs → (x : Bool) → rules.exact ≡ x → (y : Bool) → eqb t.position l.position ≡ y
          → Steps l.width xs (cond (x && y) (failed 1 at s) (went t)) (cond (x && y) (Err (stop_at 1 l at)) (Ok (line_for l.width t, t.at))) ys
      idle-or-not t still e true a true b = record { answer = ap (λ (k : Line). Err (stop_at 1 k at)) (sym (line-for xs l h at)); store = e ∙ ap (λ (zs : List ℕ). overlaid zs xs) (still (eqb-true t.position l.position b)) }
      idle-or-not t still e true a false b = record { answer = refl; store = e }
      idle-or-not t still e false a y b = record { answer = refl; store = e }

      cases : (w : Went) → GrowsTo R (line_at next' xs l) w → Steps l.width xs w r ys → Steps l.width xs (unless_idle R horizontal s w) (unless_idle_for r l at rules.exact) ys
      cases (went t) g c = rw c.answer (idle-or-not t g.still c.store rules.exact refl (eqb t.position l.position) refl)
      cases (failed n p t) g c = rw c.answer (record { answer = refl; store = c.store })
