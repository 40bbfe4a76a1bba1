-- A mode code by itself, and a run's end. Assumes nothing.
use mathlib.Core.Path.{◌≡◌, sym, ap, ◌∙◌, subst}
use mathlib.Core.Bool.{true}
use mathlib.Core.List.{List}
use Prim.Native.Nat.{ℕ}
use native.Mathlib.Omega.{arith}
use lib.IntN.{ℤ, pos, negsuc}
use Rattle.std.specs.Prelude.{Result, Ok, Err}
use Rattle.rules.specs.Bits.{bits_of}
use Rattle.rules.specs.Modes.{pass, horizontal, Moded, moded, read_mode}
use Rattle.rules.specs.Lines.{Went}
use Rattle.codes.specs.declared.fault.Fault.{Fault}
use Rattle.codes.specs.Modes.{offset_mode, mode_of}
use Rattle.codes.specs.declared.mode.Mode.{Mode}
use Rattle.codes.specs.declared.mode.Mode.TheVariants.{Pass, Horizontal, Vertical}
use Rattle.context.specs.declared.line.Line.{Line}
use Rattle.context.specs.declared.step.Rules as Code
use Rattle.context.specs.State.{line_at, rules_for, Push, Comes, Pushes}
use Rattle.context.specs.Coding.{after_push}
use Rattle.one_line.specs.OneCode.{RunsAt, RunEnded}
use Rattle.context.proofs.Carried.{push-same}
use Rattle.one_line.proofs.ModeCode.{pushed-steps}

-- ---- Which modes have runs to come

module _ (bytes : List ℕ) (at : ℕ) (m : Result (Mode × ℕ) Fault) (q : mode_of m ≡ read_mode (bits_of bytes) at) where
  pub runs-at : (next : ℕ) → m ≡ Ok (Horizontal, next) → RunsAt bytes at next
  runs-at next e = sym q ∙ ap mode_of e

  pub bad-no-runs : (e : Fault) → m ≡ Err e → (next : ℕ) → RunsAt bytes at next → ⊥
  bad-no-runs e f next r = let z : ◌≡◌ {A = ℕ} 0 1 = cc in omega arith

  pub pass-no-runs : (n : ℕ) → m ≡ Ok (Pass, n) → (next : ℕ) → RunsAt bytes at next → ⊥
  pass-no-runs n f next r =
      let e : moded next horizontal ≡ moded n pass = cc in
      let g : horizontal ≡ pass = ap (λ (m : Moded). m.mode) e in
      let z : ◌≡◌ {A = ℕ} 0 1 = cc in
      omega arith

  pub vertical-no-runs : (o : ℤ) (n : ℕ) → m ≡ Ok (Vertical o, n) → (next : ℕ) → RunsAt bytes at next → ⊥
  vertical-no-runs o n f next r = moves-only o (let e : moded n (offset_mode o) ≡ moded next horizontal = cc in ap (λ (m : Moded). m.mode) e)
    where
      moves-only : (o : ℤ) → offset_mode o ≡ horizontal → ⊥
      moves-only (pos k) e = let z : ◌≡◌ {A = ℕ} 0 1 = cc in omega arith
      moves-only (negsuc k) e = let z : ◌≡◌ {A = ℕ} 0 1 = cc in omega arith

-- ---- A run's end

pub run-ended : (xs : List ℕ) (l : Line) (rules : Code.Rules) (from next count : ℕ) (r : Push) (ys : List ℕ) → Pushes xs l count rules.strict r ys
    → RunEnded xs l count from next rules (after_push r from next true) ys
run-ended xs l rules from next count r ys p =
    pushed-steps (rules_for l.width rules xs) xs from count (line_at next xs l) true r ys
    (subst (λ (w : Went). Comes l.width xs w r ys) (push-same l.width rules xs from count (line_at next xs l)) (p next from))
