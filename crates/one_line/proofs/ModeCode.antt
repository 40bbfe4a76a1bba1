-- One mode code: what each mode makes of a line, as the code's answer says it. Assumes nothing.
use mathlib.Core.Path.{◌≡◌, sym, ap, ◌∙◌, subst}
use mathlib.Core.Bool.{Bool, true, false, cond, not, ◌&&◌}
use mathlib.Core.List.{List}
use Prim.Native.Nat.{ℕ, ◌-◌, ◌*◌, ◌≤◌, ◌<◌}
use native.Mathlib.Omega.{arith}
use lib.Dec.{eqb}
use lib.IntN.{ℤ, pos, negsuc}
use lib.ListN.{length}
use Rattle.std.specs.Prelude.{Option, Some, None, Result, Ok, Err}
use Rattle.rules.specs.Bits.{bits_of}
use Rattle.rules.specs.Runs.{Res, ok, fault}
use Rattle.rules.specs.Modes as Modes
use Rattle.rules.specs.Modes.{Moded, moded, read_mode}
use Rattle.rules.specs.Lines as Rule
use Rattle.rules.specs.Lines.{Rules, Went, went, failed, next, turned, push, b1, b2, unless_idle, apply, after_mode, code_2d}
use Rattle.rules.specs.Pages.{overlaid}
use Rattle.rules.proofs.Bits.{length-bits_of}
use Rattle.rules.proofs.Modes.{ModeAt, mode_is_at, Coded, c-right, c-left}
use Rattle.tables.specs.Tables.{colour_of}
use Rattle.answer.specs.Answer.{number_of}
use Rattle.codes.specs.declared.fault.Fault.{Fault}
use Rattle.codes.specs.Modes.{offset_mode, mode_of}
use Rattle.codes.specs.declared.mode.Mode.{Mode}
use Rattle.codes.specs.declared.mode.Mode.TheVariants.{Pass, Horizontal, Vertical}
use Rattle.context.specs.declared.line.Line.{Line}
use Rattle.context.specs.declared.step.Rules as Code
use Rattle.context.specs.State.{line_at, line_for, turned_for, rules_for, Holds, changes_of, Push, Comes, Pushes}
use Rattle.context.specs.Outcome.{place_for, Step, stop_at, Steps}
use Rattle.context.specs.Offset.{Offset, move_by}
use Rattle.context.specs.Coding.{Coloured, after_push, unmoved_for, TwoRuns}
use Rattle.context.proofs.State.{line-for, overlaid-same}
use Rattle.context.proofs.Carried.{turned-is, colour-small, push-on, push-stop, push_at, push-place, push-same}
use Rattle.context.proofs.Signed.{held, offset-held}
use Rattle.context.proofs.Moves.{after_move, upright, offset-moves}
use Rattle.context.proofs.Idle.{pass-busy, move-none, move_some, first-is}

-- ---- What a push answers

-- the outcome, with its turn
abbrev turned_by : Bool → Went → Went
turned_by true w = next w λ t. went (turned t)
turned_by false w = w

pub comes-coloured : (width : ℕ) (xs : List ℕ) (w : Went) (r : Push) (ys : List ℕ) → Comes width xs w r ys → Coloured r
comes-coloured width xs w (Ok m) ys c =
    let (t, e, same) = push-on width w m c.answer in
    subst (λ (m : Line). m.colour ≤ 1) (sym same) (colour-small t.colour)
comes-coloured width xs w (Err f) ys c = tt

-- a count that is pushed on the line behind a code's bits
pub pushed-steps : (R : Rules) (xs : List ℕ) (place count : ℕ) (s : Rule.Line) (turns : Bool) (r : Push) (ys : List ℕ)
    → Comes R.width xs (push R place count s) r ys → Steps R.width xs (turned_by turns (push R place count s)) (after_push r place s.at turns) ys
pushed-steps R xs place count s turns (Ok m) ys c =
    let (t, e, same) = push-on R.width (push R place count s) m c.answer in
    let at_same = push_at R place count s t e in
    by turns t e same (push_at R place count s t e) (c.store ∙ ap (λ (w : Went). overlaid (changes_of w) xs) e)
  where
    by : (turns : Bool) (t : Rule.Line) → push R place count s ≡ went t → m ≡ line_for R.width t → t.at ≡ s.at → ys ≡ overlaid t.changes xs
        → Steps R.width xs (turned_by turns (push R place count s)) (Ok (cond turns (turned_for m) m, s.at)) ys
    by true t e same a store' = rw e (record { answer = λ i. Ok ((ap turned_for same ∙ turned-is R.width t) i, sym a i); store = store' })
    by false t e same a store' = rw e (record { answer = λ i. Ok (same i, sym a i); store = store' })
pushed-steps R xs place count s turns (Err f) ys c =
    let (p, t, e, same) = push-stop R.width (push R place count s) f c.answer in
    by turns p t e same (push-place R place count s t f.number p e) (c.store ∙ ap (λ (w : Went). overlaid (changes_of w) xs) e)
  where
    by : (turns : Bool) (p : ℕ) (t : Rule.Line) → push R place count s ≡ failed f.number p t → f.line ≡ line_for R.width t → p ≡ place_for f.number place → ys ≡ overlaid t.changes xs
        → Steps R.width xs (turned_by turns (push R place count s)) (Err (stop_at f.number f.line (place_for f.number place))) ys
    by true p t e same a store' = rw e (record { answer = λ i. Err (stop_at f.number (same i) (sym a i)); store = store' })
    by false p t e same a store' = rw e (record { answer = λ i. Err (stop_at f.number (same i) (sym a i)); store = store' })

-- ---- What a mode does

-- a mode that was told apart, with the bit after it
pub told-mode : {r : Result (Mode × ℕ) Fault} {m k : Mode} {n : ℕ} → r ≡ Ok (m, n) → m ≡ k → r ≡ Ok (k, n)
told-mode {n = n} e f = e ∙ ap (λ (m : Mode). Ok (m, n)) f

module _ (bytes xs : List ℕ) (l : Line) (at : ℕ) (rules : Code.Rules) where
  abbrev bs : List Bool
  bs = bits_of bytes

  abbrev R : Rules
  R = rules_for l.width rules xs

  abbrev s : Rule.Line
  s = line_at at xs l

  module _ (m : Result (Mode × ℕ) Fault) (q : mode_of m ≡ read_mode bs at) where
    -- the bits of horizontal mode lie in the data
    pub mode-inside : (next : ℕ) → m ≡ Ok (Horizontal, next) → next ≤ 8 * length bytes
    mode-inside next e = let w = subst (ModeAt bs at) (sym q ∙ ap mode_of e) (mode_is_at bs at) in omega (arith, w.fits, length-bits_of bytes)

    offset-small : (z : ℤ) (next : ℕ) → m ≡ Ok (Vertical z, next) → Offset z
    offset-small z next e = let w = subst (ModeAt bs at) (sym q ∙ ap mode_of e) (mode_is_at bs at) in small z w.coded
      where
        small : (z : ℤ) → Coded (offset_mode z) → Offset z
        small (pos k) (c-right h) = h
        small (negsuc k) (c-left h) = omega arith

    pub mode-offset : (z : ℤ) (next : ℕ) → m ≡ Ok (Vertical z, next) → Offset (held z)
    mode-offset z next e = let h = offset-small z next e in subst Offset (sym (offset-held z h)) h

    module _ (reference : List ℕ) where
      coded : (o : Res Moded) → mode_of m ≡ o → code_2d R reference bs s ≡ after_mode R reference bs s o
      unfolding code_2d
      coded o e = ap (after_mode R reference bs s) (sym q ∙ e)

      pub mode-bad : Holds xs l → (f : Fault) → m ≡ Err f → Steps l.width xs (code_2d R reference bs s) (Err (stop_at (number_of f.error) l f.at)) xs
      mode-bad h f e =
          rw (coded (fault (number_of f.error) f.at) (ap mode_of e))
          (record { answer = ap (λ (m : Line). Err (stop_at (number_of f.error) m f.at)) (sym (line-for xs l h at)); store = overlaid-same l.changes xs h.held })

      pub mode-horizontal : (next' : ℕ) → m ≡ Ok (Horizontal, next') → (r : Step) (ys : List ℕ)
          → TwoRuns bytes xs l at next' rules r ys → Steps l.width xs (code_2d R reference bs s) r ys
      unfolding apply
      mode-horizontal next' f r ys t = rw (coded (ok (moded next' Modes.horizontal)) (ap mode_of f)) t

      -- a count that the code pushes on the line behind its bits
      comes : (next' count : ℕ) (r : Push) (ys : List ℕ) → Pushes xs l count rules.strict r ys → Comes l.width xs (push R at count (line_at next' xs l)) r ys
      comes next' count r ys p = subst (λ (w : Went). Comes l.width xs w r ys) (push-same l.width rules xs at count (line_at next' xs l)) (p next' at)

      pub mode-pass : (next' b : ℕ) → m ≡ Ok (Pass, next') → b ≡ b2 l.width reference l.position (colour_of l.colour) → (r : Push) (ys : List ℕ)
          → Pushes xs l (b - l.position) rules.strict r ys → Steps l.width xs (code_2d R reference bs s) (after_push r at next' false) ys
      unfolding apply
      mode-pass next' b f e r ys p =
          rw (coded (ok (moded next' Modes.pass)) (ap mode_of f) ∙ pass-busy R s (apply R reference bs at Modes.pass (line_at next' xs l)), ← e)
          (pushed-steps R xs at (b - l.position) (line_at next' xs l) false r ys (comes next' (b - l.position) r ys p))

      module _ (z : ℤ) (next' b : ℕ) (f : m ≡ Ok (Vertical z, next')) (e : b ≡ b1 l.width reference l.position (colour_of l.colour)) where
        moved : (v : Option ℕ) → v ≡ move_by b (offset_mode (held z)) l.position → code_2d R reference bs s ≡ unless_idle R (offset_mode z) s (after_move R at (line_at next' xs l) v)
        moved v k = coded (ok (moded next' (offset_mode z))) (ap mode_of f) ∙ ap (unless_idle R (offset_mode z) s) (offset-moves R reference bs at (line_at next' xs l) z e (k ∙ ap (λ (y : ℤ). move_by b (offset_mode y) l.position) (offset-held z (offset-small z next' f))))

        pub mode-over : Holds xs l → None ≡ move_by b (offset_mode (held z)) l.position → Steps l.width xs (code_2d R reference bs s) (Err (stop_at 3 l at)) xs
        mode-over h k =
            rw (moved None k)
            (record { answer = ap (λ (m : Line). Err (stop_at 3 m at)) (sym (line-for xs l h next')); store = overlaid-same l.changes xs h.held })

        module _ (count : ℕ) (k : Some count ≡ move_by b (offset_mode (held z)) l.position) where
          pub mode-unmoved : Holds xs l → count ≡ 0 → Steps l.width xs (code_2d R reference bs s) (unmoved_for l at next' rules.exact) xs
          mode-unmoved h e =
              rw (moved (Some count) k ∙ ap (λ (n : ℕ). unless_idle R (offset_mode z) s (after_move R at (line_at next' xs l) (Some n))) e ∙ move-none R (offset_mode z) (upright z) s at next', ← first-is xs l at h.coloured)
              (cases (rules.exact && not (eqb l.position 0 && eqb l.colour 0)))
            where
              cases : (b : Bool) → Steps l.width xs (cond b (failed 1 at s) (went (turned (line_at next' xs l)))) (cond b (Err (stop_at 1 l at)) (Ok (turned_for l, next'))) xs
              cases true = record { answer = ap (λ (m : Line). Err (stop_at 1 m at)) (sym (line-for xs l h at)); store = overlaid-same l.changes xs h.held }
              cases false = record {
                answer = ap (λ (m : Line). Ok (m, next')) (ap turned_for (sym (line-for xs l h next')) ∙ turned-is l.width (line_at next' xs l));
                store = overlaid-same l.changes xs h.held;
              }

          pub mode-vertical : l.position < l.width → (count ≡ 0 → ⊥) → (r : Push) (ys : List ℕ)
              → Pushes xs l count rules.strict r ys → Steps l.width xs (code_2d R reference bs s) (after_push r at next' true) ys
          mode-vertical short some r ys p =
              rw (moved (Some count) k ∙ move_some R (offset_mode z) (upright z) s at next' count short some)
              (pushed-steps R xs at count (line_at next' xs l) true r ys (comes next' count r ys p))
