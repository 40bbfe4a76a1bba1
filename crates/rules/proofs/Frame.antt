-- What a page in calls does is independent of the rows kept before the call: they stay in front. Assumes nothing.
use mathlib.Core.Path.{◌≡◌, refl, sym, ap, ap₂, ◌∙◌}
use mathlib.Core.Bool.{Bool, true, false, cond}
use mathlib.Core.List.{List, [], ◌∷◌, append_assoc, append-nil}
use mathlib.Core.Option.{Option, none, some}
use Prim.Native.Nat.{ℕ, zero, suc, ◌+◌}
use lib.Dec.{eqb, ltb}
use lib.ListN.{length}
use Rattle.rules.specs.Machine.{Out, more, done, and_then, run, onward, spent}
use Rattle.rules.specs.Runs.{Res, ok, fault, Sum, run_step}
use Rattle.rules.specs.Modes.{Mode, pass, horizontal, VR, VL, Moded, read_mode}
use Rattle.rules.specs.Lines.{Line, moved_to, Went, went, failed, after_run, unless_idle, apply}
use Rattle.rules.specs.Eols.{Eols, eols_to}
use Rattle.rules.specs.Rows.{Settings, read_mark, aligned_if}
use Rattle.rules.specs.Pages.{Answer}
use Rattle.rules.specs.Units.{each, Half, first, second, Stand, between, in_line, in_run, Keeping, Going, going, rules_at, broken, next_eol, line_or_over, over_at, eol_or_line, between_rows, keeps, close_row, settle, after_code, after_mode4, mode_unit, unless_unmoved, after_half, run_unit, eol_unit, unit, call, taken, behind_rows, out_behind, anew}

module _ (S : Settings) (bs : List Bool) (store places : ℕ) (rs : List (List ℕ)) (ms : List ℕ) where
  abbrev B : Keeping → Keeping
  B = behind_rows rs ms

  abbrev F : Out Going Answer → Out Going Answer
  F = out_behind rs ms

  between-frame : (k : Keeping) (e : Eols) → between_rows S bs store places (B k) e ≡ F (between_rows S bs store places k e)
  between-frame k e = cases (next_eol S bs store places e)
    where
      over' : (b : Bool) → line_or_over S bs store places (B k) e b ≡ F (line_or_over S bs store places k e b)
      over' true = refl
      over' false = refl

      cases : (o : Option ℕ) → eol_or_line S bs store places (B k) e o ≡ F (eol_or_line S bs store places k e o)
      cases (some a) = refl
      cases none = over' (over_at S bs store places k e)

  close-frame : (k : Keeping) (l : Line) → close_row S bs store places (B k) l ≡ F (close_row S bs store places k l)
  close-frame k l = cases (ltb k.count places)
    where
      e : Eols
      e = eols_to 0 (aligned_if S.aligned l.at)

      kept : between_rows S bs store places (keeps S bs store places (B k) l.changes (read_mark l)) e ≡ F (between_rows S bs store places (keeps S bs store places k l.changes (read_mark l)) e)
      kept =
          ap₂ (λ (r : List (List ℕ)) (m : List ℕ). between_rows S bs store places (record { count = suc k.count; base = k.base + length l.changes; reference = l.changes; rows = r; marks = m }) e)
          (append_assoc rs k.rows (l.changes ∷ [])) (append_assoc ms k.marks (read_mark l ∷ []))
          ∙ between-frame (keeps S bs store places k l.changes (read_mark l)) e

      cases : (b : Bool) → cond b (between_rows S bs store places (keeps S bs store places (B k) l.changes (read_mark l)) e) (broken S bs store places (B k) 5 0 l) ≡ F (cond b (between_rows S bs store places (keeps S bs store places k l.changes (read_mark l)) e) (broken S bs store places k 5 0 l))
      cases true = kept
      cases false = refl

  settle-frame : (k : Keeping) (s : Stand) → settle S bs store places (going (B k) s) ≡ F (settle S bs store places (going k s))
  unfolding settle
  settle-frame k (between e) = between-frame k e
  settle-frame k (in_run h l s) = refl
  settle-frame k (in_line l) = cases (eqb l.position S.columns)
    where
      cases : (b : Bool) → cond b (close_row S bs store places (B k) l) (more (going (B k) (in_line l))) ≡ F (cond b (close_row S bs store places k l) (more (going k (in_line l))))
      cases true = close-frame k l
      cases false = refl

  code_frame : (k : Keeping) (w : Went) → after_code S bs store places (B k) w ≡ F (after_code S bs store places k w)
  code_frame k (went l) = settle-frame k (in_line l)
  code_frame k (failed n p l) = refl

  pub unit-frame : (k : Keeping) (s : Stand) → unit S bs store places (going (B k) s) ≡ F (unit S bs store places (going k s))
  unfolding unit
  unit-frame k (between e) = cases (next_eol S bs store places e)
    where
      cases : (o : Option ℕ) → eol_unit S bs store places (B k) e o ≡ F (eol_unit S bs store places k e o)
      cases (some a) = settle-frame k (between (eols_to (suc e.count) a))
      cases none = settle-frame k (between e)
  unit-frame k (in_line l) = cases (read_mode bs l.at)
    where
      mode : (m : Mode) (u : Line) → after_mode4 S bs store places (B k) l m u ≡ F (after_mode4 S bs store places k l m u)
      mode horizontal u = refl
      mode pass u = code_frame k (unless_idle (rules_at S bs store places k) pass l (apply (rules_at S bs store places k) k.reference bs l.at pass u))
      mode (VR n) u = code_frame k (unless_idle (rules_at S bs store places k) (VR n) l (apply (rules_at S bs store places k) k.reference bs l.at (VR n) u))
      mode (VL n) u = code_frame k (unless_idle (rules_at S bs store places k) (VL n) l (apply (rules_at S bs store places k) k.reference bs l.at (VL n) u))

      cases : (r : Res Moded) → mode_unit S bs store places (B k) l r ≡ F (mode_unit S bs store places k l r)
      cases (ok m) = mode m.mode (moved_to m.at l)
      cases (fault n p) = refl
  unit-frame k (in_run h l s) = cases (run_step l.colour bs s)
    where
      half : (h : Half) (w : Went) → after_half S bs store places (B k) h l w ≡ F (after_half S bs store places k h l w)
      half (first p) (went u) = refl
      half (first p) (failed n q u) = refl
      half (second p b) w = code_frame k (unless_unmoved S bs store places p b l w)

      cases : (o : Out Sum (Res Sum)) → run_unit S bs store places (B k) h l o ≡ F (run_unit S bs store places k h l o)
      cases (more t) = refl
      cases (done r) = half h (after_run (rules_at S bs store places k) l r)

  -- n units, and their number
  Framed : ℕ → Out Going Answer → Type 0
  Framed n o =
      (and_then (F o) (run (unit S bs store places) n) ≡ F (and_then o (run (unit S bs store places) n)))
      × (onward (F o) (spent each (unit S bs store places) n) ≡ onward o (spent each (unit S bs store places) n))

  run-frame : (n : ℕ) (o : Out Going Answer) → Framed n o
  unfolding run spent Framed
  run-frame zero o = cases o
    where
      cases : (o : Out Going Answer) → Framed zero o
      cases (more g) = (refl, refl)
      cases (done a) = (refl, refl)
  run-frame (suc n) o = cases (λ p. run-frame n p) o
    where
      cases : ((p : Out Going Answer) → Framed n p) → (o : Out Going Answer) → Framed (suc n) o
      cases ih (done a) = (refl, refl)
      cases ih (more g) =
          let r = ih (unit S bs store places g) in
          let e = unit-frame g.keeping g.stand in (
            ap (λ (p : Out Going Answer). and_then p (run (unit S bs store places) n)) e ∙ r.0,
            ap (λ (p : Out Going Answer). 1 + onward p (spent each (unit S bs store places) n)) e ∙ ap (λ (m : ℕ). 1 + m) r.1,
          )

  -- a call
  pub call-frame : (n : ℕ) (k : Keeping) (s : Stand) → (call S bs store places n (more (going (B k) s)) ≡ F (call S bs store places n (more (going k s)))) × (taken S bs store places n (more (going (B k) s)) ≡ taken S bs store places n (more (going k s)))
  unfolding call taken Framed
  call-frame n k s =
      let r = run-frame n (settle S bs store places (going k s)) in
      let e = settle-frame k s in
      (ap (λ (o : Out Going Answer). and_then o (run (unit S bs store places) n)) e ∙ r.0, ap (λ (o : Out Going Answer). onward o (spent each (unit S bs store places) n)) e ∙ r.1)

-- so a call may begin anew: the rows before it stay in front, and the units are the same
module _ (S : Settings) (bs : List Bool) (store places : ℕ) where
  pub call-anew : (n : ℕ) (g : Going) → (call S bs store places n (more g) ≡ out_behind g.keeping.rows g.keeping.marks (call S bs store places n (more (anew g)))) × (taken S bs store places n (more g) ≡ taken S bs store places n (more (anew g)))
  call-anew n g =
      let f = call-frame S bs store places g.keeping.rows g.keeping.marks n (anew g).keeping g.stand in
      let e = ap₂ (λ (r : List (List ℕ)) (m : List ℕ). more (going (record { count = g.keeping.count; base = g.keeping.base; reference = g.keeping.reference; rows = r; marks = m }) g.stand)) (append-nil g.keeping.rows) (append-nil g.keeping.marks) in
      (ap (call S bs store places n) (sym e) ∙ f.0, ap (taken S bs store places n) (sym e) ∙ f.1)
