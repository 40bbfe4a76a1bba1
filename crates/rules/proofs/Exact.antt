-- Exact lines (A12) beside strict ones: one that is read exactly is read so strictly, and one that is not read strictly is not read exactly. Assumes nothing.
use mathlib.Core.Path.{◌≡◌, refl, sym, ap, ◌∙◌}
use mathlib.Core.Bool.{Bool, true, false, cond, true≢false}
use mathlib.Core.List.{List}
use Prim.Native.Nat.{ℕ}
use native.Mathlib.Omega.{arith}
use Rattle.rules.specs.Runs.{Res, ok, fault, Sum, read_run}
use Rattle.rules.specs.Modes.{Mode, pass, horizontal, VR, VL, Moded, read_mode}
use Rattle.rules.specs.Lines.{Rules, Line, new_line, moved_to, Went, went, failed, next, add, push, after_run, push_run, vertical, idle, unless_idle, apply, after_mode, code_2d, Kind, one, two, code_of, read_line}
use Rattle.rules.proofs.Unless.{Unless, same, but, unless_not, line-unless}

-- a line answered with 1
pub data One : Went → Type 0 where
  with-1 : {place : ℕ} {s : Line} → One (failed 1 place s)

pub one-fails : (s : Line) → One (went s) → ⊥
one-fails s p = elim p [ ]

module _ (width room : ℕ) where
  abbrev pub exactly : Rules
  exactly = record { width = width; strict = true; exact = true; room = room }

  abbrev pub strictly : Rules
  strictly = record { width = width; strict = true; exact = false; room = room }

  run-same : (bs : List Bool) (s : Line) → push_run exactly bs s ≡ push_run strictly bs s
  unfolding push_run push add
  run-same bs s = cases (read_run s.colour bs s.at)
    where
      cases : (r : Res Sum) → after_run exactly s r ≡ after_run strictly s r
      cases (ok r) = refl
      cases (fault n place) = refl

  module _ (reference : List ℕ) (bs : List Bool) where
    -- until it is seen whether a code was idle, both do the same
    apply-same : (place : ℕ) (mode : Mode) (s : Line) → apply exactly reference bs place mode s ≡ apply strictly reference bs place mode s
    unfolding apply vertical push add
    apply-same place pass s = refl
    apply-same place horizontal s = ap (λ (w : Went). next w (push_run exactly bs)) (run-same bs s) ∙ second (push_run strictly bs s)
      where
        second : (w : Went) → next w (push_run exactly bs) ≡ next w (push_run strictly bs)
        second (went t) = run-same bs t
        second (failed n p t) = refl
    apply-same place (VR k) s = refl
    apply-same place (VL k) s = refl

    idle-one : (mode : Mode) (s : Line) (w : Went) → Unless One (unless_idle exactly mode s w) (unless_idle strictly mode s w)
    idle-one mode s (went t) = tests (idle mode s t)
      where
        tests : (b : Bool) → Unless One (cond b (failed 1 s.at s) (went t)) (went t)
        tests true = but with-1
        tests false = same
    idle-one mode s (failed n place t) = same

    mode-one : (s : Line) → Unless One (code_2d exactly reference bs s) (code_2d strictly reference bs s)
    unfolding code_2d
    mode-one s = cases (read_mode bs s.at)
      where
        cases : (r : Res Moded) → Unless One (after_mode exactly reference bs s r) (after_mode strictly reference bs s r)
        cases (ok m) =
            rw (apply-same s.at m.mode (moved_to m.at s)) (idle-one m.mode s (apply strictly reference bs s.at m.mode (moved_to m.at s)))
        cases (fault n place) = same

  -- a code of either kind of line; a 1D line has none that is idle
  code_one : (kind : Kind) (bs : List Bool) (s : Line) → Unless One (code_of exactly kind bs s) (code_of strictly kind bs s)
  code_one one bs s = rw (run-same bs s) same
  code_one (two reference) bs s = mode-one reference bs s

  -- An exact line is read as a strict one, unless it is answered with 1.
  pub line-one : (kind : Kind) (bs : List Bool) (at : ℕ) → Unless One (read_line exactly kind bs at) (read_line strictly kind bs at)
  unfolding read_line
  line-one kind bs at = line-unless One one-fails width (code_of exactly kind bs) (code_of strictly kind bs) (code_one kind bs) bs (new_line at)

  -- So a line that is read exactly is read so strictly.
  pub exact-is-strict : (kind : Kind) (bs : List Bool) (at : ℕ) (l : Line) → read_line exactly kind bs at ≡ went l → read_line strictly kind bs at ≡ went l
  exact-is-strict kind bs at l e = unless_not (line-one kind bs at) (not-one e) ∙ e
    where
      not-one : {w : Went} → w ≡ went l → One w → ⊥
      not-one e with-1 = let z : ◌≡◌ {A = ℕ} 0 1 = cc in omega arith

  -- in other words, whichever of the two a reader is
  pub strict-reads : (strict exact : Bool) → strict ≡ true → (kind : Kind) (bs : List Bool) (at : ℕ) (l : Line)
      → read_line (record { width = width; strict = strict; exact = exact; room = room }) kind bs at ≡ went l → read_line strictly kind bs at ≡ went l
  strict-reads true true h kind bs at l e = exact-is-strict kind bs at l e
  strict-reads true false h kind bs at l e = e
  strict-reads false exact h kind bs at l e = absurd (true≢false (sym h))
