-- What holds of every state of a page in units: its rows and entries are no more than the bits before it, its line is sound, and a run that is
-- begun is the run that a reading at one go would find. So no state that is handed back is refused. Assumes nothing.
use mathlib.Core.Path.{◌≡◌, refl, sym, ap, ◌∙◌, subst}
use mathlib.Core.Bool.{Bool, true, false, cond, ◌&&◌}
use mathlib.Core.List.{List}
use mathlib.Core.Option.{Option, none, some}
use Prim.Native.Nat.{ℕ, suc, ◌+◌, ◌≤◌, ◌<◌}
use native.Mathlib.Omega.{arith}
use lib.Dec.{eqb, ltb}
use lib.ListN.{length, drop}
use borrow.Author.Tests.{ltb-true, ltb-false, eqb-true}
use Rattle.rules.specs.Machine.{Out, more, done, ends}
use Rattle.rules.specs.Runs.{Res, ok, fault, Sum, sum, run_step, bits_after, answer, read_run}
use Rattle.rules.specs.Modes.{Mode, pass, horizontal, VR, VL, Moded, read_mode}
use Rattle.rules.specs.Lines.{Rules, Line, new_line, moved_to, Went, went, failed, after_run, push_run, unless_idle, apply, after_mode, code_2d, one, two, unmoved}
use Rattle.rules.specs.Eols.{zero_run, eol_after, Eols, eols_to}
use Rattle.rules.specs.Rows.{Settings, read_mark, aligned_if}
use Rattle.rules.specs.Pages.{Answer}
use Rattle.rules.specs.Units.{Half, first, second, Stand, between, in_line, in_run, Keeping, Going, going, units_start, rules_at, broken, next_eol, line_or_over, over_at, eol_or_line, between_rows, keeps, settle, after_code, after_mode4, mode_unit, after_half, run_end, run_unit, eol_unit, unit, call}
use Rattle.rules.proofs.Machine.{run-keeps, ends_more, ends-done}
use Rattle.rules.specs.Rising.{Rising, none as no_change}
use Rattle.rules.proofs.Ascending.{rises-wider}
use Rattle.rules.proofs.Runs.{after, run-cases, run-falls}
use Rattle.rules.proofs.Modes.{ModeAt, mode_is_at}
use Rattle.rules.proofs.Lines.{Sound, data-bound, sound-new, Coded, code-coded}
use Rattle.rules.proofs.Eols.{eol-inside}
use Rattle.rules.proofs.Budget.{Bytes, aligned-ahead}

-- the bit of the mode code
abbrev pub mode_bit : Half → ℕ
mode_bit (first p) = p
mode_bit (second p z) = p

module _ (S : Settings) (wide : 0 < S.columns) (bs : List Bool) (bytes : Bytes bs) (store places : ℕ) where
  -- what is kept, at a bit
  pub record KeepsFair (k : Keeping) (bit : ℕ) : Type 0 where
    pub placed : k.count ≤ places
    pub roomy : k.base ≤ store
    pub rising : Rising S.columns 0 k.reference
    pub refers : length k.reference ≤ k.base
    pub few_rows : k.count ≤ bit
    pub few_entries : k.base ≤ bit

  -- a line that began at a bit behind what is kept
  pub record LineFair (k : Keeping) (l : Line) : Type 0 where
    pub start : ℕ
    pub kept : KeepsFair k start
    pub sound : Sound (rules_at S bs store places k) (length bs) start 0 l
    pub begun : 0 < l.position → start < l.at

  pub record RunFair (k : Keeping) (h : Half) (l : Line) (s : Sum) : Type 0 where
    pub line : LineFair k l
    pub behind : l.at ≤ s.at
    pub inside : s.at ≤ length bs
    pub small : s.total ≤ 4294967295
    pub mode : mode_bit h ≤ l.at
    pub same : answer (ends (run_step l.colour bs) (bits_after bs) s) ≡ read_run l.colour bs l.at

  pub record EolsFair (k : Keeping) (e : Eols) : Type 0 where
    pub kept : KeepsFair k e.at
    pub inside : e.at ≤ length bs
    pub few : e.count ≤ e.at

  abbrev pub Fair : Keeping → Stand → Type 0
  Fair k (between e) = EolsFair k e
  Fair k (in_line l) = LineFair k l
  Fair k (in_run h l s) = RunFair k h l s

  abbrev pub FairOut : Out Going Answer → Type 0
  FairOut (more g) = Fair g.keeping g.stand
  FairOut (done a) = Unit {0}

  pub fair-start : FairOut (more units_start)
  fair-start = record {
    kept = record { placed = omega arith; roomy = omega arith; rising = no_change; refers = omega arith; few_rows = omega arith; few_entries = omega arith };
    inside = omega arith;
    few = omega arith;
  }

  -- ---- Between rows

  keeps-later : {k : Keeping} {a b : ℕ} → a ≤ b → KeepsFair k a → KeepsFair k b
  keeps-later h f = record { placed = f.placed; roomy = f.roomy; rising = f.rising; refers = f.refers; few_rows = omega (arith, f.few_rows); few_entries = omega (arith, f.few_entries) }

  fair-new : (k : Keeping) (e : Eols) → EolsFair k e → LineFair k (new_line e.at)
  fair-new k e f = record { start = e.at; kept = f.kept; sound = sound-new (rules_at S bs store places k) (length bs) e.at f.inside; begun = λ h. absurd (omega arith) }

  fair-between : (k : Keeping) (e : Eols) → EolsFair k e → FairOut (between_rows S bs store places k e)
  fair-between k e f = cases (next_eol S bs store places e)
    where
      over' : (b : Bool) → FairOut (line_or_over S bs store places k e b)
      over' true = tt
      over' false = fair-new k e f

      cases : (o : Option ℕ) → FairOut (eol_or_line S bs store places k e o)
      cases (some a) = f
      cases none = over' (over_at S bs store places k e)

  -- an EOL takes bits, in the data
  pub eol-forward : (e : Eols) (a : ℕ) → next_eol S bs store places e ≡ some a → (e.at < a) × (a ≤ length bs)
  eol-forward e a = tests (ltb e.count (cond S.end_of_block 2 (length bs))) (zero_run (drop e.at bs)) refl
    where
      closed : (z : ℕ) → zero_run (drop e.at bs) ≡ some z → (c : Bool) → ltb z 11 ≡ c → cond c none (some (e.at + suc z)) ≡ some a → (e.at < a) × (a ≤ length bs)
      closed z q true r h = absurd (let y : ◌≡◌ {A = ℕ} 0 1 = cc in omega arith)
      closed z q false r h =
          let y : e.at + suc z ≡ a = cc in
          let i = eol-inside bs e.at (record { zeros = z; run = q; many = ltb-false z 11 r }) in
          omega arith

      tests : (b : Bool) (o : Option ℕ) → zero_run (drop e.at bs) ≡ o → cond b (eol_after e.at o) none ≡ some a → (e.at < a) × (a ≤ length bs)
      tests false o q h = absurd (let y : ◌≡◌ {A = ℕ} 0 1 = cc in omega arith)
      tests true none q h = absurd (let y : ◌≡◌ {A = ℕ} 0 1 = cc in omega arith)
      tests true (some z) q h = closed z q (ltb z 11) refl h

  -- ---- Closing a row

  fair-closed : (k : Keeping) (l : Line) → LineFair k l → l.position ≡ S.columns → k.count < places → EolsFair (keeps S bs store places k l.changes (read_mark l)) (eols_to 0 (aligned_if S.aligned l.at))
  fair-closed k l f q c =
      let a = aligned-ahead bs bytes S.aligned l.at in
      let b = f.begun (omega arith) in
      record {
        kept = record {
          placed = omega arith;
          roomy = omega (arith, f.kept.roomy, f.sound.roomy);
          rising = rises-wider (omega arith) f.sound.rising;
          refers = omega arith;
          few_rows = omega (arith, f.kept.few_rows, a.0);
          few_entries = omega (arith, f.kept.few_entries, f.sound.few, a.0);
        };
        inside = a.1 f.sound.inside;
        few = omega arith;
      }

  fair-settle : (k : Keeping) (s : Stand) → Fair k s → FairOut (settle S bs store places (going k s))
  unfolding settle
  fair-settle k (between e) f = fair-between k e f
  fair-settle k (in_run h l s) f = f
  fair-settle k (in_line l) f = tests (eqb l.position S.columns) refl (ltb k.count places) refl
    where
      tests : (b : Bool) → eqb l.position S.columns ≡ b → (c : Bool) → ltb k.count places ≡ c
          → FairOut (cond b (cond c (between_rows S bs store places (keeps S bs store places k l.changes (read_mark l)) (eols_to 0 (aligned_if S.aligned l.at))) (broken S bs store places k 5 0 l)) (more (going k (in_line l))))
      tests true q true r = fair-between (keeps S bs store places k l.changes (read_mark l)) (eols_to 0 (aligned_if S.aligned l.at)) (fair-closed k l f (eqb-true _ _ q) (ltb-true _ _ r))
      tests true q false r = tt
      tests false q c r = f

  -- ---- One unit

  -- a code that began at the line
  module _ (k : Keeping) (l : Line) (f : LineFair k l) where
    abbrev R : Rules
    R = rules_at S bs store places k

    abbrev Coding : Went → Type 0
    Coding w = Coded R bs (length bs) (data-bound bs) f.start l w

    fair-code : (w : Went) → Coding w → FairOut (after_code S bs store places k w)
    fair-code (failed n p t) c = tt
    fair-code (went t) (a, b, keep) =
        fair-settle k (in_line t) (record { start = f.start; kept = f.kept; sound = keep 0 f.sound; begun = λ h. omega (arith, f.sound.few) })

    -- the bits of a mode code are taken
    fair-moved : (a : ℕ) → l.at < a → a ≤ length bs → LineFair k (moved_to a l)
    fair-moved a h i =
        let s = f.sound in
        record {
          start = f.start;
          kept = f.kept;
          sound = record { inside = i; few = omega (arith, s.few); fits = s.fits; rising = s.rising; roomy = s.roomy };
          begun = λ p. omega (arith, s.few);
        }

    -- a run's first state
    fair-run : (h : Half) → mode_bit h ≤ l.at → RunFair k h l (sum l.at 0)
    unfolding read_run
    fair-run h m = record { line = f; behind = omega arith; inside = f.sound.inside; small = omega arith; mode = m; same = refl }

  fair-mode : (k : Keeping) (l : Line) → LineFair k l → FairOut (mode_unit S bs store places k l (read_mode bs l.at))
  unfolding code_2d
  fair-mode k l f = cases (read_mode bs l.at) (mode_is_at bs l.at) (code-coded (rules_at S bs store places k) bs (length bs) (data-bound bs) f.start (two k.reference) l)
    where
      mode : (m : Mode) (a : ℕ) → l.at < a → a ≤ length bs → Coding k l f (unless_idle (rules_at S bs store places k) m l (apply (rules_at S bs store places k) k.reference bs l.at m (moved_to a l))) → FairOut (after_mode4 S bs store places k l m (moved_to a l))
      mode horizontal a h i c = fair-run k (moved_to a l) (fair-moved k l f a h i) (first l.at) (omega arith)
      mode pass a h i c = fair-code k l f (unless_idle (rules_at S bs store places k) pass l (apply (rules_at S bs store places k) k.reference bs l.at pass (moved_to a l))) c
      mode (VR n) a h i c = fair-code k l f (unless_idle (rules_at S bs store places k) (VR n) l (apply (rules_at S bs store places k) k.reference bs l.at (VR n) (moved_to a l))) c
      mode (VL n) a h i c = fair-code k l f (unless_idle (rules_at S bs store places k) (VL n) l (apply (rules_at S bs store places k) k.reference bs l.at (VL n) (moved_to a l))) c

      cases : (r : Res Moded) → ModeAt bs l.at r → Coding k l f (after_mode (rules_at S bs store places k) k.reference bs l r) → FairOut (mode_unit S bs store places k l r)
      cases (ok m) w c = mode m.mode m.at w.some_bits w.fits c
      cases (fault n p) w c = tt

  -- a run's end: the whole run is a code of the line
  fair-half : (k : Keeping) (h : Half) (l : Line) (f : LineFair k l) → mode_bit h ≤ l.at → (w : Went) → Coding k l f w → FairOut (after_half S bs store places k h l w)
  fair-half k (first p) l f m (failed n q t) c = tt
  fair-half k (first p) l f m (went t) (a, b, keep) =
      fair-run k t (record { start = f.start; kept = f.kept; sound = keep 0 f.sound; begun = λ h. omega (arith, f.sound.few) }) (second p (unmoved l t)) (omega arith)
  fair-half k (second p y) l f m (failed n q t) c = tt
  fair-half k (second p y) l f m (went t) c = tests (S.exact && (y && unmoved l t))
    where
      tests : (b : Bool) → FairOut (after_code S bs store places k (cond b (failed 1 p l) (went t)))
      tests true = tt
      tests false = fair-code k l f (went t) c

  fair-runs : (k : Keeping) (h : Half) (l : Line) (s : Sum) → RunFair k h l s → FairOut (run_unit S bs store places k h l (run_step l.colour bs s))
  unfolding push_run
  fair-runs k h l s f = run-cases l.colour bs s (λ o. run_step l.colour bs s ≡ o → FairOut (run_unit S bs store places k h l o))
      (λ c t i e. ended (ok (after s c)) e)
      (λ c t i e. record {
        line = f.line;
        behind = omega (arith, f.behind);
        inside = t.fits;
        small = t.small;
        mode = f.mode;
        same = ap answer (sym (ends_more (run_step l.colour bs) (bits_after bs) (run-falls l.colour bs) s (after s c) e)) ∙ f.same;
      })
      (λ n i j e. ended (fault n s.at) e)
      refl
    where
      ended : (r : Res Sum) → run_step l.colour bs s ≡ done r → FairOut (run_end S bs store places k h l r)
      ended r e =
          let q : r ≡ read_run l.colour bs l.at = ap answer (sym (ends-done (run_step l.colour bs) (bits_after bs) (run-falls l.colour bs) s r e)) ∙ f.same in
          let c = code-coded (rules_at S bs store places k) bs (length bs) (data-bound bs) f.line.start one l in
          fair-half k h l f.line f.mode (after_run (rules_at S bs store places k) l r)
          (subst (λ (x : Res Sum). Coding k l f.line (after_run (rules_at S bs store places k) l x)) (sym q) c)

  fair-unit : (k : Keeping) (s : Stand) → Fair k s → FairOut (unit S bs store places (going k s))
  unfolding unit
  fair-unit k (in_line l) f = fair-mode k l f
  fair-unit k (in_run h l s) f = fair-runs k h l s f
  fair-unit k (between e) f = cases (next_eol S bs store places e) refl
    where
      cases : (o : Option ℕ) → next_eol S bs store places e ≡ o → FairOut (eol_unit S bs store places k e o)
      cases none q = fair-settle k (between e) f
      cases (some a) q =
          let g = eol-forward e a q in
          fair-settle k (between (eols_to (suc e.count) a))
          (record { kept = keeps-later (let i : e.at ≤ a = omega arith in i) f.kept; inside = g.1; few = omega (arith, f.few) })

  -- ---- A call

  -- every state that is handed back is fair
  pub fair-call : (n : ℕ) (o : Out Going Answer) → FairOut o → FairOut (call S bs store places n o)
  unfolding call
  fair-call n (done a) f = tt
  fair-call n (more g) f =
      run-keeps FairOut (unit S bs store places) (λ h i. fair-unit h.keeping h.stand i) n (settle S bs store places g) (fair-settle g.keeping g.stand f)
