-- What every code makes of a line: no fewer changes, which keep to their room and go on rising below the position, and a position no further left, which
-- keeps to the width; where the position stays, so do the changes. Assumes nothing.
use mathlib.Core.Path.{◌≡◌, refl, ◌∙◌}
use mathlib.Core.Bool.{Bool, true, false, cond, ◌&&◌}
use mathlib.Core.List.{List, [], ◌∷◌, ◌++◌}
use Prim.Native.Nat.{ℕ, ◌+◌, ◌-◌, ◌≤◌, ◌<◌}
use native.Mathlib.Omega.{arith}
use lib.Dec.{eqb, leb}
use lib.ListN.{length, length-append}
use borrow.Author.Tests.{leb-true, eqb-false}
use Rattle.rules.specs.Codes.{differ}
use Rattle.rules.specs.Runs.{Res, ok, fault, Sum, read_run}
use Rattle.rules.specs.Modes.{Mode, pass, horizontal, VR, VL, Moded, read_mode}
use Rattle.rules.specs.Lines.{Rules, Line, line, turned, moved_to, with_cut, Went, went, failed, next, last_colour, recorded, add, push, push_turn, after_run, push_run, b1, vertical, apply, after_mode, code_2d, Kind, one, two, code_of, line_in}
use Rattle.rules.specs.Rising.{Rising}
use Rattle.rules.proofs.Ascending.{rises-wider, rises-snoc}
use Rattle.rules.proofs.Lines.{unless-idle}

pub record Grows (R : Rules) (s t : Line) : Type 0 where
  pub longer : length s.changes ≤ length t.changes
  pub further : s.position ≤ t.position
  pub fits : s.position ≤ R.width → t.position ≤ R.width
  pub still : t.position ≡ s.position → t.changes ≡ s.changes
  pub roomy : length s.changes ≤ R.room → length t.changes ≤ R.room
  pub rises : Rising s.position 0 s.changes → Rising t.position 0 t.changes

abbrev pub GrowsTo : Rules → Line → Went → Type 0
GrowsTo R s w = Grows R s (line_in w)

module _ (R : Rules) where
  -- bits, colour and the flag have no part in it
  pub grows-here : (s : Line) (at : ℕ) → Grows R s (moved_to at s)
  grows-here s at = record { longer = omega arith; further = omega arith; fits = λ h. h; still = λ e. refl; roomy = λ h. h; rises = λ h. h }

  grows_then : (s t u : Line) → Grows R s t → Grows R t u → Grows R s u
  grows_then s t u g h = record {
    longer = omega arith;
    further = omega arith;
    fits = λ p. h.fits (g.fits p);
    still = λ e. h.still (omega arith) ∙ g.still (omega arith);
    roomy = λ p. h.roomy (g.roomy p);
    rises = λ p. h.rises (g.rises p);
  }

  next_grows : (s : Line) (w : Went) (f : Line → Went) → GrowsTo R s w → ((t : Line) → GrowsTo R t (f t)) → GrowsTo R s (next w f)
  next_grows s (went t) f g h = grows_then s t (line_in (f t)) g (h t)
  next_grows s (failed n p t) f g h = g

  pub turned-grows : (t : Line) → Grows R t (turned t)
  turned-grows t = record { longer = omega arith; further = omega arith; fits = λ h. h; still = λ e. refl; roomy = λ h. h; rises = λ h. h }

  -- ---- Pixels

  recorded-longer : (s : Line) → length s.changes ≤ length (recorded s)
  unfolding recorded
  recorded-longer s = tests (differ (last_colour s.changes) s.colour)
    where
      tests : (b : Bool) → length s.changes ≤ length (cond b (s.changes ++ s.position ∷ []) s.changes)
      tests true = omega (arith, length-append s.changes (s.position ∷ []))
      tests false = omega arith

  add-grows : (count : ℕ) (s : Line) → count ≤ R.width - s.position → GrowsTo R s (add R count s)
  unfolding add recorded
  add-grows count s h = tests (eqb count 0) (eqb-false count 0) (leb (length (recorded s)) R.room) (leb-true _ _)
    where
      recorded-rises : (count ≡ 0 → ⊥) → Rising s.position 0 s.changes → Rising (s.position + count) 0 (recorded s)
      recorded-rises z r = cases (differ (last_colour s.changes) s.colour)
        where
          further' : s.position < s.position + count
          further' = omega (arith, z)

          cases : (b : Bool) → Rising (s.position + count) 0 (cond b (s.changes ++ s.position ∷ []) s.changes)
          cases true = rises-snoc (omega arith) further' r
          cases false = rises-wider (omega (arith, further')) r

      tests : (b : Bool) → (b ≡ false → count ≡ 0 → ⊥) → (c : Bool) → (c ≡ true → length (recorded s) ≤ R.room)
          → GrowsTo R s (cond b (went s) (cond c (went (line s.at (s.position + count) s.colour (recorded s) s.cut)) (failed 4 0 s)))
      tests true z c k = grows-here s s.at
      tests false z true k = record { longer = recorded-longer s; further = omega arith; fits = λ q. omega arith; still = λ e. absurd (z refl (omega arith)); roomy = λ q. k refl; rises = recorded-rises (z refl) }
      tests false z false k = grows-here s s.at

  pub push-grows : (place count : ℕ) (s : Line) → GrowsTo R s (push R place count s)
  unfolding push
  push-grows place count s = tests (leb count (R.width - s.position)) (leb-true _ _) R.strict
    where
      cut-grows : (t : Line) → Grows R (with_cut s) t → Grows R s t
      cut-grows t g = record { longer = g.longer; further = g.further; fits = g.fits; still = g.still; roomy = g.roomy; rises = g.rises }

      tests : (b : Bool) → (b ≡ true → count ≤ R.width - s.position) → (c : Bool) → GrowsTo R s (cond b (add R count s) (cond c (failed 1 place s) (add R (R.width - s.position) (with_cut s))))
      tests true h c = add-grows count s (h refl)
      tests false h true = grows-here s s.at
      tests false h false = cut-grows (line_in (add R (R.width - s.position) (with_cut s))) (add-grows (R.width - s.position) (with_cut s) (omega arith))

  pub push_turn-grows : (place count : ℕ) (s : Line) → GrowsTo R s (push_turn R place count s)
  push_turn-grows place count s = next_grows s (push R place count s) (λ t. went (turned t)) (push-grows place count s) turned-grows

  -- ---- Codes

  -- what grows behind a code's bits grows from where it began
  pub behind : (s : Line) (at : ℕ) (w : Went) → GrowsTo R (moved_to at s) w → GrowsTo R s w
  behind s at w g = grows_then s (moved_to at s) (line_in w) (grows-here s at) g

  pub after_run-grows : (s : Line) (r : Res Sum) → GrowsTo R s (after_run R s r)
  after_run-grows s (ok r) = behind s r.at (push_turn R s.at r.total (moved_to r.at s)) (push_turn-grows s.at r.total (moved_to r.at s))
  after_run-grows s (fault n p) = grows-here s s.at

  pub push_run-grows : (bs : List Bool) (s : Line) → GrowsTo R s (push_run R bs s)
  unfolding push_run
  push_run-grows bs s = after_run-grows s (read_run s.colour bs s.at)

  pub two_runs-grows : (bs : List Bool) (s : Line) → GrowsTo R s (next (push_run R bs s) (push_run R bs))
  two_runs-grows bs s = next_grows s (push_run R bs s) (push_run R bs) (push_run-grows bs s) (push_run-grows bs)

  module _ (reference : List ℕ) where
    vertical-grows : (place a1 : ℕ) (s : Line) → GrowsTo R s (vertical R reference place a1 s)
    unfolding vertical
    vertical-grows place a1 s = tests (leb a1 4294967295 && leb s.position a1)
      where
        tests : (b : Bool) → GrowsTo R s (cond b (push_turn R place (a1 - s.position) s) (failed 3 place s))
        tests true = push_turn-grows place (a1 - s.position) s
        tests false = grows-here s s.at

    pub apply-grows : (bs : List Bool) (place : ℕ) (mode : Mode) (s : Line) → GrowsTo R s (apply R reference bs place mode s)
    unfolding apply
    apply-grows bs place pass s = push-grows place _ s
    apply-grows bs place horizontal s = two_runs-grows bs s
    apply-grows bs place (VR k) s = vertical-grows place _ s
    apply-grows bs place (VL k) s = tests (leb k (b1 R.width reference s.position s.colour))
      where
        tests : (b : Bool) → GrowsTo R s (cond b (vertical R reference place (b1 R.width reference s.position s.colour - k) s) (failed 3 place s))
        tests true = vertical-grows place _ s
        tests false = grows-here s s.at

    pub code_2d-grows : (bs : List Bool) (s : Line) → GrowsTo R s (code_2d R reference bs s)
    unfolding code_2d
    code_2d-grows bs s = cases (read_mode bs s.at)
      where
        cases : (r : Res Moded) → GrowsTo R s (after_mode R reference bs s r)
        cases (ok m) =
            unless-idle R m.mode s (GrowsTo R s) (grows-here s s.at) (apply R reference bs s.at m.mode (moved_to m.at s))
            (behind s m.at (apply R reference bs s.at m.mode (moved_to m.at s)) (apply-grows bs s.at m.mode (moved_to m.at s)))
        cases (fault n p) = grows-here s s.at

  -- every code, of either kind of line
  pub code-grows : (k : Kind) (bs : List Bool) (s : Line) → GrowsTo R s (code_of R k bs s)
  code-grows one bs s = push_run-grows bs s
  code-grows (two reference) bs s = code_2d-grows reference bs s
