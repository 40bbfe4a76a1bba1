-- Laws of a page in calls (02, A9): a state that is handed back is settled; each call takes the smaller of its number and the units left;
-- and any choice of numbers comes to the page form's answer. Assumes nothing.
use mathlib.Core.Path.{◌≡◌, refl, sym, ap, ◌∙◌, subst}
use mathlib.Core.Bool.{Bool, true, false, cond}
use mathlib.Core.List.{List, [], ◌∷◌}
use mathlib.Core.Option.{Option, none, some}
use Prim.Native.Nat.{ℕ, zero, suc, ◌+◌, ◌-◌, ◌*◌, ◌/◌, ◌≤◌, ◌<◌, min}
use native.Mathlib.Omega.{arith}
use native.Mathlib.Nat.{min-eq_left, min-eq_right, le-div_iff_mul-le, div-lt_iff_lt-mul, suc-mul, zero-mul}
use lib.Dec.{eqb, leb, ltb}
use borrow.Author.Tests.{leb-true, leb-false, eqb-true, eqb-false, ne_eqb}
use Rattle.rules.specs.Machine.{Out, more, done, and_then}
use Rattle.rules.specs.Runs.{Res, ok, fault, Sum, run_step}
use Rattle.rules.specs.Modes.{Mode, pass, horizontal, VR, VL, Moded, read_mode}
use Rattle.rules.specs.Lines.{Line, moved_to, Went, went, failed, after_run, unless_idle, apply}
use Rattle.rules.specs.Eols.{Eols, eols_to}
use Rattle.rules.specs.Rows.{group4, Settings, read_mark, aligned_if}
use Rattle.rules.specs.Pages.{Answer, read_page}
use Rattle.rules.specs.Units.{total, same_each, calls_for, page_units, Half, first, second, Stand, between, in_line, in_run, Keeping, Going, going, units_start, rules_at, broken, next_eol, line_or_over, over_at, eol_or_line, between_rows, keeps, settle_at, settle, after_code, after_mode4, mode_unit, unless_unmoved, after_half, run_unit, eol_unit, unit_at, unit, call, taken, calls}
use Rattle.rules.proofs.Budget.{Bytes}
use Rattle.rules.proofs.Paced.{Steps, here, there, steps-some, steps-split, steps-run, steps-over}
use Rattle.rules.proofs.Units.{page-paced}

-- ---- How many calls

pub total-same : (i n : ℕ) → total (same_each i n) ≡ i * n
unfolding total same_each
total-same zero n = sym (zero-mul n)
total-same (suc i) n = ap (λ (m : ℕ). n + m) (total-same i n) ∙ (let z : i * n + n ≡ suc i * n = sym (suc-mul i n) in let y : n + i * n ≡ i * n + n = omega arith in y ∙ z)

-- as many as `calls_for` says are enough, and one at least; fewer are not, unless there is none
module _ (u n : ℕ) (some' : 0 < n) where
  pub calls-enough : (0 < calls_for u n) × (u ≤ calls_for u n * n)
  unfolding calls_for
  calls-enough = cases (eqb u 0) refl
    where
      c : ℕ
      c = (u + (n - 1)) / n

      enough : u ≤ c * n
      enough = let h : u + (n - 1) < suc c * n = (div-lt_iff_lt-mul some').0 (let z : c < suc c = omega arith in z) in let m = suc-mul c n in omega arith

      positive : (m : ℕ) → u ≤ m * n → (u ≡ 0 → ⊥) → 0 < m
      positive zero h z = absurd (z (let y = zero-mul n in omega arith))
      positive (suc m) h z = omega arith

      cases : (b : Bool) → eqb u 0 ≡ b → (0 < cond b 1 c) × (u ≤ cond b 1 c * n)
      cases true q = (omega arith, let z = eqb-true u 0 q in omega arith)
      cases false q = (positive c enough (eqb-false u 0 q), enough)

  pub calls-few : (i : ℕ) → suc i < calls_for u n → suc i * n < u
  unfolding calls_for
  calls-few i = cases (eqb u 0)
    where
      cases : (b : Bool) → suc i < cond b 1 ((u + (n - 1)) / n) → suc i * n < u
      cases true h = absurd (omega arith)
      cases false h = let l : suc (suc i) * n ≤ u + (n - 1) = (le-div_iff_mul-le some').0 h in let m = suc-mul (suc i) n in omega arith

module _ (S : Settings) (wide : 0 < S.columns) (bs : List Bool) (store places : ℕ) where
  abbrev close : Going → Out Going Answer
  close = settle S bs store places

  -- ---- What is settled stays so

  abbrev Settled : Out Going Answer → Type 0
  Settled o = and_then o close ≡ o

  settled-line : (k : Keeping) (e : Eols) (b : Bool) → Settled (line_or_over S bs store places k e b)
  unfolding settle
  settled-line k e true = refl
  settled-line k e false = rw (ne_eqb 0 S.columns (λ q. omega arith))

  settled-between : (k : Keeping) (e : Eols) → Settled (between_rows S bs store places k e)
  unfolding settle
  settled-between k e = cases (next_eol S bs store places e) refl
    where
      cases : (o : Option ℕ) → next_eol S bs store places e ≡ o → and_then (eol_or_line S bs store places k e o) (settle S bs store places) ≡ eol_or_line S bs store places k e o
      cases (some a) q = rw q
      cases none q = settled-line k e (over_at S bs store places k e)

  settled-close : (g : Going) → Settled (close g)
  unfolding settle
  settled-close g = cases g.keeping g.stand
    where
      cases : (k : Keeping) (s : Stand) → Settled (settle_at S bs store places k s)
      cases k (between e) = settled-between k e
      cases k (in_run h l s) = refl
      cases k (in_line l) = tests (eqb l.position S.columns) refl (ltb k.count places)
        where
          tests : (b : Bool) → eqb l.position S.columns ≡ b → (c : Bool)
              → Settled (cond b (cond c (between_rows S bs store places (keeps S bs store places k l.changes (read_mark l)) (eols_to 0 (aligned_if S.aligned l.at))) (broken S bs store places k 5 0 l)) (more (going k (in_line l))))
          tests true q true = settled-between (keeps S bs store places k l.changes (read_mark l)) (eols_to 0 (aligned_if S.aligned l.at))
          tests true q false = refl
          tests false q c = rw q

  settled-code : (k : Keeping) (w : Went) → Settled (after_code S bs store places k w)
  settled-code k (went l) = settled-close (going k (in_line l))
  settled-code k (failed n p l) = refl

  settled-unit : (g : Going) → Settled (unit S bs store places g)
  unfolding unit settle
  settled-unit g = cases g.keeping g.stand
    where
      eol : (k : Keeping) (e : Eols) (o : Option ℕ) → Settled (eol_unit S bs store places k e o)
      eol k e (some a) = settled-between k (eols_to (suc e.count) a)
      eol k e none = settled-between k e

      mode : (k : Keeping) (l : Line) (m : Mode) (u : Line) → Settled (after_mode4 S bs store places k l m u)
      mode k l horizontal u = refl
      mode k l pass u = settled-code k (unless_idle (rules_at S bs store places k) pass l (apply (rules_at S bs store places k) k.reference bs l.at pass u))
      mode k l (VR n) u = settled-code k (unless_idle (rules_at S bs store places k) (VR n) l (apply (rules_at S bs store places k) k.reference bs l.at (VR n) u))
      mode k l (VL n) u = settled-code k (unless_idle (rules_at S bs store places k) (VL n) l (apply (rules_at S bs store places k) k.reference bs l.at (VL n) u))

      read : (k : Keeping) (l : Line) (r : Res Moded) → Settled (mode_unit S bs store places k l r)
      read k l (ok m) = mode k l m.mode (moved_to m.at l)
      read k l (fault n p) = refl

      half : (k : Keeping) (h : Half) (l : Line) (w : Went) → Settled (after_half S bs store places k h l w)
      half k (first p) l (went u) = refl
      half k (first p) l (failed n q u) = refl
      half k (second p b) l w = settled-code k (unless_unmoved S bs store places p b l w)

      runs : (k : Keeping) (h : Half) (l : Line) (o : Out Sum (Res Sum)) → Settled (run_unit S bs store places k h l o)
      runs k h l (more s) = refl
      runs k h l (done r) = half k h l (after_run (rules_at S bs store places k) l r)

      cases : (k : Keeping) (s : Stand) → Settled (unit_at S bs store places k s)
      cases k (between e) = eol k e (next_eol S bs store places e)
      cases k (in_line l) = read k l (read_mode bs l.at)
      cases k (in_run h l s) = runs k h l (run_step l.colour bs s)

  settled-start : (o : Out Going Answer) → Settled (and_then o close)
  settled-start (more g) = settled-close g
  settled-start (done a) = refl

  settled-steps : {o p : Out Going Answer} {n : ℕ} → Settled o → Steps (unit S bs store places) o n p → Settled p
  settled-steps h here = h
  settled-steps h (there {s = g} k) = settled-steps (settled-unit g) k

  -- ---- One call

  -- u units are left to the end a
  abbrev pub Left : Out Going Answer → ℕ → Answer → Type 0
  Left o u a = Steps (unit S bs store places) (and_then o close) u (done a)

  -- "Each call takes exactly the smaller of N and the units left", and the others are left
  pub record Called (o : Out Going Answer) (u n : ℕ) (a : Answer) : Type 0 where
    pub takes : taken S bs store places n o ≡ min n u
    pub left : Left (call S bs store places n o) (u - n) a
    pub ended : u ≤ n → call S bs store places n o ≡ done a
    pub open' : n < u → (g : Going) × (call S bs store places n o ≡ more g)

  pub called : (o : Out Going Answer) (u n : ℕ) (a : Answer) → Left o u a → Called o u n a
  unfolding call taken
  called o u n a h = cases (leb u n) refl
    where
      cases : (b : Bool) → leb u n ≡ b → Called o u n a
      cases true q =
          let l : u ≤ n = leb-true u n q in
          let r = steps-over n l h in
          record {
            takes = r.1 ∙ sym (min-eq_right l);
            left = subst (λ (p : Out Going Answer). Left p (u - n) a) (sym r.0) (subst (λ (m : ℕ). Left (done a) m a) (let z : 0 ≡ u - n = omega arith in z) here);
            ended = λ i. r.0;
            open' = λ i. absurd (omega arith);
          }
      cases false q =
          let l : n < u = leb-false u n q in
          let p = steps-split n (let i : n ≤ u = omega arith in i) h in
          let r = steps-run p.1 in
          let some' = steps-some (let i : 0 < u - n = omega arith in i) p.2 in
          record {
            takes = r.1 ∙ sym (min-eq_left (let i : n ≤ u = omega arith in i));
            left =
                subst (λ (o : Out Going Answer). Left o (u - n) a) (sym r.0)
                (subst (λ (o : Out Going Answer). Steps (unit S bs store places) o (u - n) (done a)) (sym (settled-steps (settled-start o) p.1)) p.2);
            ended = λ i. absurd (omega arith);
            open' = λ i. (some'.0, r.0 ∙ some'.1);
          }

  -- ---- Calls, one after the other

  -- an end stays
  pub called-after : (n : ℕ) (a : Answer) → (call S bs store places n (done a) ≡ done a) × (taken S bs store places n (done a) ≡ 0)
  unfolding call taken
  called-after n a = (refl, refl)

  pub calls-left : (ns : List ℕ) (o : Out Going Answer) (u : ℕ) (a : Answer) → Left o u a → Left (calls S bs store places ns o) (u - total ns) a
  unfolding calls total
  calls-left [] o u a h = subst (λ (m : ℕ). Left o m a) (let z : u ≡ u - 0 = omega arith in z) h
  calls-left (n ∷ ns) o u a h =
      subst (λ (m : ℕ). Left (calls S bs store places ns (call S bs store places n o)) m a) (let z : u - n - total ns ≡ u - (n + total ns) = omega arith in z)
      (calls-left ns (call S bs store places n o) (u - n) a (called o u n a h).left)

  -- enough units end the page,
  pub calls-ended : (n : ℕ) (ns : List ℕ) (o : Out Going Answer) (u : ℕ) (a : Answer) → Left o u a → u ≤ total (n ∷ ns) → calls S bs store places (n ∷ ns) o ≡ done a
  unfolding calls total
  calls-ended n [] o u a h l = (called o u n a h).ended (omega arith)
  calls-ended n (m ∷ ns) o u a h l = calls-ended m ns (call S bs store places n o) (u - n) a (called o u n a h).left (omega arith)

  -- and fewer do not
  pub calls-open : (ns : List ℕ) (o : Out Going Answer) (u : ℕ) (a : Answer) → Left o u a → total ns < u → (g : Going) × (calls S bs store places ns o ≡ more g)
  calls-open ns o u a h l = cases (calls S bs store places ns o) refl (calls-left ns o u a h)
    where
      cases : (p : Out Going Answer) → calls S bs store places ns o ≡ p → Left p (u - total ns) a → (g : Going) × (calls S bs store places ns o ≡ more g)
      cases (more g) q k = (g, q)
      cases (done b) q k =
          let s = steps-some (let i : 0 < u - total ns = omega arith in i) k in
          absurd (let z : ◌≡◌ {A = ℕ} 0 1 = (let e : done b ≡ more s.0 = s.1 in cc) in omega arith)

  -- ---- The page

  module _ (bytes : Bytes bs) (q : S.encoding ≡ group4) where
    abbrev units : ℕ
    units = page_units S bs store places

    -- the whole page is left at its start
    pub page-left : Left (more units_start) units (read_page S bs store places)
    page-left = page-paced S bs store places wide bytes q

    -- "Any choice of N at each call" that adds up to the page's units "gives the page form's rows, answer and bytes",
    pub page-ended : (n : ℕ) (ns : List ℕ) → units ≤ total (n ∷ ns) → calls S bs store places (n ∷ ns) (more units_start) ≡ done (read_page S bs store places)
    page-ended n ns l = calls-ended n ns (more units_start) units (read_page S bs store places) page-left l

    -- and none that does not
    pub page-open : (ns : List ℕ) → total ns < units → (g : Going) × (calls S bs store places ns (more units_start) ≡ more g)
    page-open ns l = calls-open ns (more units_start) units (read_page S bs store places) page-left l

    -- a further call takes the smaller of its number and the units left
    pub page-takes : (ns : List ℕ) (n : ℕ) → taken S bs store places n (calls S bs store places ns (more units_start)) ≡ min n (units - total ns)
    page-takes ns n =
        (called (calls S bs store places ns (more units_start)) (units - total ns) n (read_page S bs store places)
        (calls-left ns (more units_start) units (read_page S bs store places) page-left)).takes

    -- ---- One number for every call: "done after U/N calls rounded up, or one call if U is 0"

    module _ (n : ℕ) (some' : 0 < n) where
      pub page-after : calls S bs store places (same_each (calls_for units n) n) (more units_start) ≡ done (read_page S bs store places)
      unfolding same_each
      page-after = let h = calls-enough units n some' in cases (calls_for units n) h.0 h.1
        where
          cases : (i : ℕ) → 0 < i → units ≤ i * n → calls S bs store places (same_each i n) (more units_start) ≡ done (read_page S bs store places)
          cases zero l h = absurd (omega arith)
          cases (suc i) l h = page-ended n (same_each i n) (let z = total-same (suc i) n in omega arith)

      pub page-before : (i : ℕ) → i < calls_for units n → (g : Going) × (calls S bs store places (same_each i n) (more units_start) ≡ more g)
      unfolding same_each calls
      page-before zero l = (units_start, refl)
      page-before (suc i) l = page-open (same_each (suc i) n) (let z = total-same (suc i) n in let y = calls-few units n some' i l in omega arith)
