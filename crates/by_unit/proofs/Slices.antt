-- A unit in a line, on the row as it is lent and handed back: what each call of it asks, and what it comes to. Assumes nothing.
use mathlib.Core.Path.{◌≡◌, refl, sym, ap, ◌∙◌, subst}
use mathlib.Core.Bool.{Bool, true, false, cond, ◌&&◌}
use mathlib.Core.List.{List, ◌++◌}
use Prim.Native.Nat.{ℕ, ◌-◌, ◌≤◌, ◌<◌}
use native.Mathlib.Omega.{arith}
use lib.Dec.{eqb}
use lib.ListN.{length, take, drop, take-append-drop}
use borrow.Rule.Slice.PartMut.{mid_of, put_mid}
use Rattle.std.specs.Prelude.{Result, Ok, Err}
use Rattle.rules.specs.Machine.{done}
use Rattle.rules.specs.Bits.{bits_of}
use Rattle.rules.specs.Runs.{ok, sum, run_step}
use Rattle.rules.specs.Lines as Lines
use Rattle.rules.specs.Lines.{Rules, Went, went, failed, after_run, code_2d, two}
use Rattle.rules.specs.Pages.{places_in}
use Rattle.rules.proofs.Ahead.{b2-ahead}
use Rattle.rules.specs.Rising.{Rising}
use Rattle.rules.proofs.Bits.{length-bits_of}
use Rattle.rules.proofs.Grows.{Grows, GrowsTo, code_2d-grows, after_run-grows}
use Rattle.rules.proofs.Lines.{moves}
use Rattle.tables.specs.Tables.{colour_of}
use Rattle.answer.specs.Answer.{number_of}
use Rattle.codes.specs.declared.fault.Fault.{Fault}
use Rattle.codes.specs.declared.eol.Eols.{Eols}
use Rattle.codes.specs.declared.run.RunCode.{RunCode}
use Rattle.codes.specs.Runs.{code_of}
use Rattle.context.specs.declared.line.Line.{Line}
use Rattle.context.specs.declared.reference.FoundChanges.{FoundChanges}
use Rattle.context.specs.declared.step.Stop.{Stop}
use Rattle.one_line.specs.declared.one_code.OneCode.{OneCode}
use Rattle.one_line.specs.declared.one_code.OneCode.TheVariants.{Runs, Did}
use Rattle.context.specs.State.{line_at, rules_for, flag_number, Holds}
use Rattle.context.specs.Outcome.{stop_at, Step, step_for, Steps}
use Rattle.context.specs.Reference.{Searches, Finds}
use Rattle.context.specs.Coding.{unless_idle_for}
use Rattle.one_line.specs.OneCode.{OneCoding, OneCoded, RunEnded}
use Rattle.context.proofs.Carried.{step-on}
use Rattle.context.proofs.RowPart.{row-lent, row_back}
use Rattle.settings.specs.declared.DecodeSettings.{DecodeSettings}
use Rattle.by_unit.specs.declared.stand.Half.{Half}
use Rattle.by_unit.specs.declared.stand.Half.TheVariants.{First, Second}
use Rattle.by_unit.specs.declared.stand.Stand.{Stand}
use Rattle.by_unit.specs.declared.stand.Stand.TheVariants.{Between, InLine, InRun}
use Rattle.by_unit.specs.declared.stand.Kept.{Kept}
use Rattle.by_unit.specs.declared.stand.Out.{Out}
use Rattle.by_unit.specs.declared.stand.Out.TheVariants.{More}
use Rattle.by_unit.specs.declared.take.TakenUnits.{TakenUnits}
use Rattle.by_unit.specs.Standing.{KeptIn, LineIn, Asked, done_for, next_of, Settles}
use Rattle.by_unit.specs.OneUnit.{rules_in, eol_unit_for, CodeEnds, AfterCodes, first_for, AfterRuns, UnitFrom, UnitGives, SomeGive}
use Rattle.by_unit.proofs.Parts.{next-inside}
use Rattle.by_unit.proofs.Units.{Fair, R, rules-same, roomy, eol-comes, mode-comes, runs-come, run-fails, run-goes, ran, fair, run_ends}

-- ---- By the way a unit takes

module _ (bytes : List ℕ) (settings : DecodeSettings) (es ms : List ℕ) (k : Kept) (seen : ℕ) where
  -- a code that failed, and one that did not
  pub code-stopped : (step : Step) (f : Stop) → step ≡ Err f → (r : Out) → r ≡ done_for f.number f.place 0 k f.line.changes → AfterCodes bytes settings es ms k step seen r es ms
  code-stopped step f q r a = subst (λ (t : Step). AfterCodes bytes settings es ms k t seen r es ms) (sym q) (record { answer = a; ends = refl; marks = refl })

  pub code-on : (step : Step) (l : Line) (at : ℕ) → step ≡ Ok (l, at) → (r : Out) (fs ns : List ℕ) → Settles bytes settings es ms k (InLine l at) seen r fs ns → AfterCodes bytes settings es ms k step seen r fs ns
  code-on step l at q r fs ns a = subst (λ (t : Step). AfterCodes bytes settings es ms k t seen r fs ns) (sym q) a

  -- the same of a run, by its half
  module _ (h : Half) (l : Line) (step : Step) where
    module _ (mode : ℕ) (q : h ≡ First mode) where
      by_first : (r : Out) → r ≡ first_for k mode l step seen → AfterRuns bytes settings es ms k h l step seen r es ms
      by_first r a = subst (λ (x : Half). AfterRuns bytes settings es ms k x l step seen r es ms) (sym q) (record { answer = a; ends = refl; marks = refl })

      pub first-stopped : (f : Stop) → step ≡ Err f → (r : Out) → r ≡ done_for f.number f.place 0 k f.line.changes → AfterRuns bytes settings es ms k h l step seen r es ms
      first-stopped f e r a = by_first r (a ∙ ap (λ (t : Step). first_for k mode l t seen) (sym e))

      pub first_on : (m : Line) (at : ℕ) → step ≡ Ok (m, at)
          → AfterRuns bytes settings es ms k h l step seen (More k (InRun (Second mode (eqb m.position l.position)) m at 0 at) seen) es ms
      first_on m at e = by_first _ (ap (λ (t : Step). first_for k mode l t seen) (sym e))

    pub by-second : (mode : ℕ) (blank : Bool) → h ≡ Second mode blank → (t : Step) → t ≡ unless_idle_for step l mode (blank && settings.exact)
        → (r : Out) (fs ns : List ℕ) → AfterCodes bytes settings es ms k t seen r fs ns → AfterRuns bytes settings es ms k h l step seen r fs ns
    by-second mode blank q t e r fs ns a =
        subst (λ (x : Half). AfterRuns bytes settings es ms k x l step seen r fs ns) (sym q) (subst (λ (t : Step). AfterCodes bytes settings es ms k t seen r fs ns) e a)

module _ (bytes : List ℕ) (settings : DecodeSettings) (xs es ms : List ℕ) (k : Kept) (s : Stand) (seen : ℕ) where
  -- a unit of a stand that is known
  pub asks_at : (t : Stand) → s ≡ t → UnitFrom bytes settings xs es ms k s seen → UnitFrom bytes settings xs es ms k t seen
  asks_at t q u = subst (λ (x : Stand). UnitFrom bytes settings xs es ms k x seen) q u

  pub gives_at : (t : Stand) → s ≡ t → (r : Out) (ys fs ns : List ℕ) → UnitGives bytes settings xs es ms k t r ys fs ns → UnitGives bytes settings xs es ms k s r ys fs ns
  gives_at t q r ys fs ns g = subst (λ (x : Stand). UnitGives bytes settings xs es ms k x r ys fs ns) (sym q) g

  pub some_at : (t : Stand) → s ≡ t → (left : ℕ) (r : TakenUnits) (ys fs ns : List ℕ) → SomeGive bytes settings xs es ms k t left r ys fs ns → SomeGive bytes settings xs es ms k s left r ys fs ns
  some_at t q left r ys fs ns g = subst (λ (x : Stand). SomeGive bytes settings xs es ms k x left r ys fs ns) (sym q) g

  pub eol-gives : (e : Eols) → s ≡ Between e → UnitFrom bytes settings xs es ms k s seen → (r : Out) → r ≡ eol_unit_for bytes settings k e (next_of bytes settings e) → UnitGives bytes settings xs es ms k s r xs es ms
  eol-gives e q u r a =
      let v = asks_at (Between e) q u in
      gives_at (Between e) q r xs es ms
      (subst (λ (x : Out). UnitGives bytes settings xs es ms k (Between e) x xs es ms) (sym a)
      (eol-comes bytes settings v.asked xs es ms k v.kept e v.stand (λ a q. (next-inside bytes settings e a q).1)))

-- a code that may be idle asks no more
pub idle-ends : (bytes : List ℕ) (k : Kept) (step : Step) (l : Line) (at : ℕ) (b : Bool) → CodeEnds bytes k step → CodeEnds bytes k (unless_idle_for step l at b)
idle-ends bytes k (Err f) l at b h = tt
idle-ends bytes k (Ok (m, a)) l at b h = cases (b && eqb m.position l.position)
  where
    cases : (c : Bool) → CodeEnds bytes k (cond c (Err (stop_at 1 l at)) (Ok (m, a)))
    cases true = tt
    cases false = h

module _ (bytes : List ℕ) (settings : DecodeSettings) (xs es ms : List ℕ) (k : Kept) (l : Line) (at seen : ℕ) (asked : Asked bytes settings) (kept : KeptIn settings.columns xs es ms k) (line : LineIn bytes settings.columns xs k l at seen) where
  abbrev width : ℕ
  width = settings.columns

  abbrev places : ℕ
  places = places_in es ms

  -- the row as it is lent
  abbrev lent : List ℕ
  lent = mid_of k.base (length xs - k.base) xs

  abbrev row : List ℕ
  row = drop k.base xs

  abbrev reference : List ℕ
  reference = mid_of k.start (k.base - k.start) xs

  lent_is : lent ≡ row
  lent_is = row-lent xs k.base

  -- and the array when it is back
  abbrev back : List ℕ → List ℕ
  back zs = put_mid k.base (length xs - k.base) xs zs

  back_is : (zs : List ℕ) → back zs ≡ take k.base xs ++ zs
  back_is zs = row_back xs k.base kept.held zs

  abbrev rules_here : Rules
  rules_here = R bytes settings asked xs es ms k kept l at seen line

  -- a line that a code leaves may be closed
  ends_so : length xs < 18446744073709551616 → (a : ℕ) (w : Went) → GrowsTo rules_here (line_at a row l) w → ((t : Lines.Line) → w ≡ went t → t.at ≤ length (bits_of bytes)) → (step : Step) → step ≡ step_for width w → CodeEnds bytes k step
  ends_so long a w g inside (Err f) e = tt
  ends_so long a w g inside (Ok (m, b)) e =
      let (t, o, same, there) = step-on width w m b e in
      let grows : Grows rules_here (line_at a row l) t = subst (GrowsTo rules_here (line_at a row l)) o g in
      record {
        size = asked.size;
        inside = omega (arith, there, inside t o, length-bits_of bytes);
        fits = omega (arith, ap (λ (n : Line). n.changes) same, grows.roomy (roomy bytes settings asked xs es ms k kept l at seen line), kept.held);
        flagged = subst (λ (n : Line). n.cut ≤ 1) (sym same) (flag_small t.cut);
      }
    where
      flag_small : (b : Bool) → flag_number b ≤ 1
      flag_small true = omega arith
      flag_small false = omega arith

  pub row-holds : Holds lent l
  row-holds = rw lent_is line.holds

  -- ---- A mode code

  pub mode-seeks : Searches reference seen l.width l.position l.colour
  mode-seeks = record {
    rising = subst (λ (n : ℕ). Rising n 0 reference) (sym line.width_is) kept.rising;
    passed = line.passed;
    narrow = omega (arith, line.holds.fits, line.holds.narrow);
    two_colours = line.holds.coloured;
  }

  module _ (short : l.position < l.width) (f : FoundChanges) (q : Finds reference l.width l.position (colour_of l.colour) f) where
    pub mode-asks : OneCoding bytes lent l at f.b2
    mode-asks = record {
      loading = record { size = asked.size; inside = line.inside };
      holds = row-holds;
      short = short;
      ahead = rw q.b2-is (b2-ahead l.width reference l.position (colour_of l.colour) mode-seeks.rising line.holds.fits);
    }

    module _ (o : OneCode) (zs : List ℕ) (c : OneCoded bytes lent l at f.b1 f.b2 (rules_in settings) o zs) where
      did : (step : Step) → o ≡ Did step → OneCoded bytes row l at f.b1 f.b2 (rules_in settings) (Did step) zs
      did step e = subst (λ (x : OneCode). OneCoded bytes row l at f.b1 f.b2 (rules_in settings) x zs) e (subst (λ (r : List ℕ). OneCoded bytes r l at f.b1 f.b2 (rules_in settings) o zs) lent_is c)

      steps : (step : Step) → o ≡ Did step → Steps l.width row (code_2d (rules_for l.width (rules_in settings) row) reference (bits_of bytes) (line_at at row l)) step zs
      steps step e = (did step e).1 reference q.b1-is q.b2-is

      same-rules : rules_for l.width (rules_in settings) row ≡ rules_here
      same-rules = rules-same bytes settings asked xs es ms k kept l at seen line

      pub mode-ends : length xs < 18446744073709551616 → (step : Step) → o ≡ Did step → CodeEnds bytes k step
      mode-ends long step e =
          let s = subst (λ (v : Rules). Steps v.width row (code_2d v reference (bits_of bytes) (line_at at row l)) step zs) same-rules (steps step e) in
          ends_so long at (code_2d rules_here reference (bits_of bytes) (line_at at row l)) (code_2d-grows rules_here reference (bits_of bytes) (line_at at row l))
          (λ t w. (moves rules_here (two reference) (bits_of bytes) (line_at at row l) t w).1) step s.answer

      pub mode-runs : (next : ℕ) → o ≡ Runs next → UnitGives bytes settings xs es ms k (InLine l at) (More k (InRun (First at) l next 0 next) f.seen) (back zs) es ms
      mode-runs next e =
          let h = subst (λ (x : OneCode). OneCoded bytes lent l at f.b1 f.b2 (rules_in settings) x zs) e c in
          subst (λ (ys : List ℕ). UnitGives bytes settings xs es ms k (InLine l at) (More k (InRun (First at) l next 0 next) f.seen) ys es ms)
          (sym (back_is zs ∙ ap (λ (r : List ℕ). take k.base xs ++ r) (h.1 ∙ lent_is) ∙ take-append-drop k.base xs))
          (runs-come bytes settings asked xs es ms k kept l at seen line short next h.0 f.seen q.passed)

      pub mode-did : (step : Step) → o ≡ Did step → (r : Out) (fs ns : List ℕ) → AfterCodes bytes settings es ms k step f.seen r fs ns → UnitGives bytes settings xs es ms k (InLine l at) r (back zs) fs ns
      mode-did step e r fs ns a =
          mode-comes bytes settings asked xs es ms k kept l at seen line short (did step e).0 step zs (steps step e) (back zs) (back_is zs) f.seen q.passed r fs ns a

  -- ---- A code of a run

  module _ (h : Half) (from total : ℕ) (code : Result RunCode Fault) (q : code_of code ≡ run_step (colour_of l.colour) (bits_of bytes) (sum at total)) where
    pub run-bad : (f : Fault) → code ≡ Err f → UnitGives bytes settings xs es ms k (InRun h l from total at) (done_for (number_of f.error) f.at 0 k l.changes) xs es ms
    run-bad f c = run-fails bytes settings asked xs es ms k kept l at seen line h from total (number_of f.error) f.at (sym (ap code_of c) ∙ q)

    pub run_more : (total' next : ℕ) → code ≡ Ok (RunCode.More total' next) → UnitGives bytes settings xs es ms k (InRun h l from total at) (More k (InRun h l from total' next) seen) xs es ms
    run_more total' next c = run-goes bytes settings asked xs es ms k kept l at seen line h from total total' next (sym (ap code_of c) ∙ q)

    module _ (total' next : ℕ) (c : code ≡ Ok (RunCode.Last total' next)) (step : Step) (zs : List ℕ) (e : RunEnded lent l total' from next (rules_in settings) step zs) where
      ended : RunEnded row l total' from next (rules_in settings) step zs
      ended = subst (λ (r : List ℕ). RunEnded r l total' from next (rules_in settings) step zs) lent_is e

      last : done (ok (sum next total')) ≡ run_step (colour_of l.colour) (bits_of bytes) (sum at total)
      last = sym (ap code_of c) ∙ q

      pub run-last-ends : length xs < 18446744073709551616 → CodeEnds bytes k step
      run-last-ends long =
          let s = ran bytes settings asked xs es ms k kept l at seen line h from total total' next last step zs ended (take k.base xs ++ zs) refl (More k (Between (record { count = 0; at = 0 })) 0) es ms in
          ends_so long from (after_run rules_here (line_at from row l) (ok (sum next total'))) (after_run-grows rules_here (line_at from row l) (ok (sum next total')))
          (λ t w. subst (Fair (bits_of bytes)) w (fair bytes settings asked xs es ms k kept l at seen line h from total total' next last step zs ended (take k.base xs ++ zs) refl (More k (Between (record { count = 0; at = 0 })) 0) es ms)) step s.answer

      pub run-last : (r : Out) (fs ns : List ℕ) → AfterRuns bytes settings es ms k h l step seen r fs ns → UnitGives bytes settings xs es ms k (InRun h l from total at) r (back zs) fs ns
      run-last r fs ns a = run_ends bytes settings asked xs es ms k kept l at seen line h from total total' next last step zs ended (back zs) (back_is zs) r fs ns a
