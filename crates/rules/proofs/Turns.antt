-- Laws of the form in calls: a reading's entries never become fewer, what is kept changes only with a whole row, and the lent arrays handed back as
-- left stand for the reading that the call left. Assumes nothing.
use mathlib.Core.Path.{◌≡◌, refl, ap}
use mathlib.Core.Bool.{Bool, true, false, cond, ◌&&◌}
use mathlib.Core.List.{List}
use mathlib.Core.Option.{Option, none, some}
use Prim.Native.Nat.{ℕ, suc, ◌+◌, ◌≤◌}
use native.Mathlib.Omega.{arith}
use lib.Dec.{eqb, ltb}
use lib.ListN.{length}
use Rattle.rules.specs.Machine.{Out, more, done}
use Rattle.rules.specs.Runs.{Res, ok, fault, Sum, run_step}
use Rattle.rules.specs.Modes.{Mode, pass, horizontal, VR, VL, Moded, read_mode}
use Rattle.rules.specs.Lines.{Line, moved_to, Went, went, failed, after_run, unless_idle, apply, unmoved, line_in}
use Rattle.rules.specs.Eols.{Eols, eols_to}
use Rattle.rules.specs.Rows.{Settings, read_mark, aligned_if}
use Rattle.rules.specs.Pages.{Answer, entries}
use Rattle.rules.specs.Units.{Half, first, second, Stand, between, in_line, in_run, Keeping, Going, going, loose_of, so_far, rules_at, broken, next_eol, line_or_over, over_at, eol_or_line, between_rows, keeps, settle, after_code, applied, after_mode4, mode_unit, unless_unmoved, after_half, run_unit, eol_unit, unit, call}
use Rattle.rules.proofs.Machine.{run-keeps}
use Rattle.rules.proofs.PageBack.{entries-snoc}
use Rattle.rules.proofs.Lines.{unless-idle}
use Rattle.rules.proofs.Grows.{apply-grows, after_run-grows}

-- ---- What holds of the rows kept, and stays so with each whole row

module _ (S : Settings) (bs : List Bool) (store places : ℕ) (Inv : Keeping → Type 0) (with_row : (k : Keeping) (r : List ℕ) (mark : ℕ) → Inv k → Inv (keeps S bs store places k r mark)) where
  abbrev pub InvOut : Out Going Answer → Type 0
  InvOut (more g) = Inv g.keeping
  InvOut (done a) = Unit {0}

  inv-between : (k : Keeping) (e : Eols) → Inv k → InvOut (between_rows S bs store places k e)
  inv-between k e i = cases (next_eol S bs store places e)
    where
      over' : (b : Bool) → InvOut (line_or_over S bs store places k e b)
      over' true = tt
      over' false = i

      cases : (o : Option ℕ) → InvOut (eol_or_line S bs store places k e o)
      cases (some a) = i
      cases none = over' (over_at S bs store places k e)

  pub inv-settle : (k : Keeping) (s : Stand) → Inv k → InvOut (settle S bs store places (going k s))
  unfolding settle
  inv-settle k (between e) i = inv-between k e i
  inv-settle k (in_run h l s) i = i
  inv-settle k (in_line l) i = tests (eqb l.position S.columns) (ltb k.count places)
    where
      tests : (b c : Bool) → InvOut (cond b (cond c (between_rows S bs store places (keeps S bs store places k l.changes (read_mark l)) (eols_to 0 (aligned_if S.aligned l.at))) (broken S bs store places k 5 0 l)) (more (going k (in_line l))))
      tests true true = inv-between (keeps S bs store places k l.changes (read_mark l)) (eols_to 0 (aligned_if S.aligned l.at)) (with_row k l.changes (read_mark l) i)
      tests true false = tt
      tests false c = i

  inv-code : (k : Keeping) (w : Went) → Inv k → InvOut (after_code S bs store places k w)
  inv-code k (went l) i = inv-settle k (in_line l) i
  inv-code k (failed n p l) i = tt

  pub inv-unit : (k : Keeping) (s : Stand) → Inv k → InvOut (unit S bs store places (going k s))
  unfolding unit
  inv-unit k (between e) i = cases (next_eol S bs store places e)
    where
      cases : (o : Option ℕ) → InvOut (eol_unit S bs store places k e o)
      cases (some a) = inv-settle k (between (eols_to (suc e.count) a)) i
      cases none = inv-settle k (between e) i
  inv-unit k (in_line l) i = cases (read_mode bs l.at)
    where
      mode : (m : Mode) (u : Line) → InvOut (after_mode4 S bs store places k l m u)
      mode horizontal u = i
      mode pass u = inv-code k (unless_idle (rules_at S bs store places k) pass l (apply (rules_at S bs store places k) k.reference bs l.at pass u)) i
      mode (VR n) u = inv-code k (unless_idle (rules_at S bs store places k) (VR n) l (apply (rules_at S bs store places k) k.reference bs l.at (VR n) u)) i
      mode (VL n) u = inv-code k (unless_idle (rules_at S bs store places k) (VL n) l (apply (rules_at S bs store places k) k.reference bs l.at (VL n) u)) i

      cases : (r : Res Moded) → InvOut (mode_unit S bs store places k l r)
      cases (ok m) = mode m.mode (moved_to m.at l)
      cases (fault n p) = tt
  inv-unit k (in_run h l s) i = cases (run_step l.colour bs s)
    where
      half : (h : Half) (w : Went) → InvOut (after_half S bs store places k h l w)
      half (first p) (went u) = i
      half (first p) (failed n q u) = tt
      half (second p y) w = inv-code k (unless_unmoved S bs store places p y l w) i

      cases : (o : Out Sum (Res Sum)) → InvOut (run_unit S bs store places k h l o)
      cases (more t) = i
      cases (done r) = half h (after_run (rules_at S bs store places k) l r)

  pub inv-call : (n : ℕ) (o : Out Going Answer) → InvOut o → InvOut (call S bs store places n o)
  unfolding call
  inv-call n (done a) i = tt
  inv-call n (more g) i =
      run-keeps InvOut (unit S bs store places) (λ h j. inv-unit h.keeping h.stand j) n (settle S bs store places g) (inv-settle g.keeping g.stand i)

-- ---- Entries never become fewer

module _ (S : Settings) (bs : List Bool) (store places : ℕ) where
  -- the entries in kept rows and the loose ones
  abbrev pub size_of : Out Going Answer → ℕ
  size_of o = entries (so_far o).rows + length (so_far o).loose

  size-between : (k : Keeping) (e : Eols) → entries k.rows ≤ size_of (between_rows S bs store places k e)
  size-between k e = cases (next_eol S bs store places e)
    where
      over' : (b : Bool) → entries k.rows ≤ size_of (line_or_over S bs store places k e b)
      over' true = omega arith
      over' false = omega arith

      cases : (o : Option ℕ) → entries k.rows ≤ size_of (eol_or_line S bs store places k e o)
      cases (some a) = omega arith
      cases none = over' (over_at S bs store places k e)

  abbrev size_at : Keeping → Stand → ℕ
  size_at k s = entries k.rows + length (loose_of s)

  pub size-settle : (k : Keeping) (s : Stand) → size_at k s ≤ size_of (settle S bs store places (going k s))
  unfolding settle
  size-settle k (between e) = omega (arith, size-between k e)
  size-settle k (in_run h l s) = omega arith
  size-settle k (in_line l) = tests (eqb l.position S.columns) (ltb k.count places)
    where
      tests : (b c : Bool) → entries k.rows + length l.changes ≤ size_of (cond b (cond c (between_rows S bs store places (keeps S bs store places k l.changes (read_mark l)) (eols_to 0 (aligned_if S.aligned l.at))) (broken S bs store places k 5 0 l)) (more (going k (in_line l))))
      tests true true = omega (arith, entries-snoc k.rows l.changes, size-between (keeps S bs store places k l.changes (read_mark l)) (eols_to 0 (aligned_if S.aligned l.at)))
      tests true false = omega arith
      tests false c = omega arith

  size-code : (k : Keeping) (w : Went) → entries k.rows + length (line_in w).changes ≤ size_of (after_code S bs store places k w)
  size-code k (went l) = size-settle k (in_line l)
  size-code k (failed n p l) = omega arith

  pub size-unit : (k : Keeping) (s : Stand) → size_at k s ≤ size_of (unit S bs store places (going k s))
  unfolding unit
  size-unit k (between e) = cases (next_eol S bs store places e)
    where
      cases : (o : Option ℕ) → entries k.rows + 0 ≤ size_of (eol_unit S bs store places k e o)
      cases (some a) = size-settle k (between (eols_to (suc e.count) a))
      cases none = size-settle k (between e)
  size-unit k (in_line l) = cases (read_mode bs l.at)
    where
      coded : (m : Mode) (u : Line) → u.changes ≡ l.changes → entries k.rows + length l.changes ≤ size_of (applied S bs store places k l m u)
      coded m u e =
          let w : Went = apply (rules_at S bs store places k) k.reference bs l.at m u in
          omega (
            arith,
            size-code k (unless_idle (rules_at S bs store places k) m l w),
            unless-idle (rules_at S bs store places k) m l (λ v. length l.changes ≤ length (line_in v).changes) (omega arith) w
                (omega (arith, ap length e, (apply-grows (rules_at S bs store places k) k.reference bs l.at m u).longer)),
          )

      mode : (m : Mode) (u : Line) → u.changes ≡ l.changes → entries k.rows + length l.changes ≤ size_of (after_mode4 S bs store places k l m u)
      mode horizontal u e = omega (arith, ap length e)
      mode pass u e = coded pass u e
      mode (VR n) u e = coded (VR n) u e
      mode (VL n) u e = coded (VL n) u e

      cases : (r : Res Moded) → entries k.rows + length l.changes ≤ size_of (mode_unit S bs store places k l r)
      cases (ok m) = mode m.mode (moved_to m.at l) refl
      cases (fault n p) = omega arith
  size-unit k (in_run h l s) = cases (run_step l.colour bs s)
    where
      -- no fewer than the line before the run has
      half : (h : Half) (w : Went) → length l.changes ≤ length (line_in w).changes → entries k.rows + length l.changes ≤ size_of (after_half S bs store places k h l w)
      half (first p) (went u) g = omega arith
      half (first p) (failed n q u) g = omega arith
      half (second p y) (failed n q u) g = omega arith
      half (second p y) (went u) g = tests (S.exact && (y && unmoved l u))
        where
          tests : (b : Bool) → entries k.rows + length l.changes ≤ size_of (after_code S bs store places k (cond b (failed 1 p l) (went u)))
          tests true = omega arith
          tests false = omega (arith, size-code k (went u))

      cases : (o : Out Sum (Res Sum)) → entries k.rows + length l.changes ≤ size_of (run_unit S bs store places k h l o)
      cases (more t) = omega arith
      cases (done r) = half h (after_run (rules_at S bs store places k) l r) (after_run-grows (rules_at S bs store places k) l r).longer

  pub size-call : (n : ℕ) (g : Going) → size_of (more g) ≤ size_of (call S bs store places n (more g))
  unfolding call
  size-call n g =
      run-keeps (λ o. size_of (more g) ≤ size_of o) (unit S bs store places) (λ h i. omega (arith, i, size-unit h.keeping h.stand)) n (settle S bs store places g)
      (size-settle g.keeping g.stand)
