-- One unit: an EOL, a mode code, or a code of a run, and what the code makes of the page behind it. Assumes nothing.
use mathlib.Core.Path.{◌≡◌, refl, sym, ap, ◌∙◌, subst}
use mathlib.Core.Logic.{⊎_elim}
use mathlib.Core.Bool.{Bool, true, false, cond, ◌&&◌}
use mathlib.Core.List.{List, [], ◌++◌}
use mathlib.Core.Option.{Option, some}
use Prim.Native.Nat.{ℕ, ◌+◌, ◌-◌, ◌*◌, ◌≤◌, ◌<◌}
use native.Mathlib.Numerals.{add-one}
use native.Mathlib.Omega.{arith}
use lib.Dec.{eqb, leb}
use lib.ListN.{length, take, drop, length-drop}
use lib.Seq.{length-take-le}
use borrow.Author.Tests.{eqb-true}
use Rattle.std.specs.Prelude.{Ok, Err}
use Rattle.rules.specs.Machine as Rule
use Rattle.rules.specs.Machine.{more, done}
use Rattle.rules.specs.Bits.{bits_of}
use Rattle.rules.specs.Runs.{Res, ok, fault, Sum, sum, run_step}
use Rattle.rules.specs.Modes.{Mode, pass, horizontal, VR, VL, Moded, moded, read_mode}
use Rattle.rules.specs.Lines as Lines
use Rattle.rules.specs.Lines.{Rules, Went, went, failed, turned, moved_to, with_cut, recorded, add, push, after_run, right_of_a0, after_mode, code_2d, two}
use Rattle.rules.specs.Eols.{eols_to}
use Rattle.rules.specs.Rows.{Settings}
use Rattle.rules.specs.Pages as Page
use Rattle.rules.specs.Pages.{entries, joined, ends_from, overlaid, places_in}
use Rattle.rules.specs.Units as Units
use Rattle.rules.specs.Units.{between, in_line, in_run, Keeping, Going, going, rules_at, broken, settle, after_code, mode_unit, unless_unmoved, after_half, run_unit, eol_unit, unit, out_behind}
use Rattle.rules.specs.ByUnit.{part, overlaid_from}
use Rattle.rules.specs.Rising.{Rising}
use Rattle.rules.proofs.Bits.{length-bits_of}
use Rattle.rules.proofs.Grows.{Grows, GrowsTo, grows-here, after_run-grows, code_2d-grows}
use Rattle.rules.proofs.Lines.{Each, Pushes, PushFails, push-pushes, data-bound, Coded, code-coded}
use Rattle.rules.proofs.Modes.{ModeAt, mode_is_at}
use Rattle.rules.proofs.Places.{Placed, code-placed}
use Rattle.rules.proofs.Runs.{run-cases}
use Rattle.rules.proofs.Turns.{size-settle}
use Rattle.tables.specs.Tables.{colour_of}
use Rattle.codes.specs.declared.eol.Eols.{Eols}
use Rattle.codes.specs.Eols.{eols_of}
use Rattle.context.specs.declared.line.Line.{Line}
use Rattle.context.specs.State.{line_at, line_for, rules_for, changes_of}
use Rattle.context.specs.Outcome.{stop_at, Step, step_for, Steps}
use Rattle.context.specs.Reference.{Passed}
use Rattle.context.specs.Coding.{unless_idle_for}
use Rattle.one_line.specs.OneCode.{RunsAt, RunEnded}
use Rattle.context.specs.declared.reference.Reference.TheVariants as Reference
use Rattle.context.proofs.State.{line-for}
use Rattle.context.proofs.Carried.{Carries, carries-new, carries-holds, carries-line}
use Rattle.context.proofs.RowPart.{reference-same}
use Rattle.context.proofs.Search.{right-grows, passed_on}
use Rattle.settings.specs.declared.DecodeSettings.{DecodeSettings}
use Rattle.settings.specs.Settings.{settings_of}
use Rattle.by_unit.specs.declared.stand.Half.{Half}
use Rattle.by_unit.specs.declared.stand.Half.TheVariants.{First, Second}
use Rattle.by_unit.specs.declared.stand.Stand.TheVariants.{InLine, InRun}
use Rattle.by_unit.specs.declared.stand.Kept.{Kept}
use Rattle.by_unit.specs.declared.stand.Out.{Out}
use Rattle.by_unit.specs.declared.stand.Out.TheVariants.{More}
use Rattle.by_unit.specs.Standing.{half_of, keeping_of, going_at, KeptIn, LineIn, Asked, Leaves, Comes, next_of, done_for, between_for, eols_at, Stays, Settles}
use Rattle.by_unit.specs.OneUnit.{rules_in, eol_unit_for, AfterCodes, first_for, AfterRuns}
use Rattle.by_unit.proofs.Leaves.{from_front, from_row, from-length, from-none, Behind, leaves-then}
use Rattle.by_unit.proofs.Closing.{said-behind, none-behind, placed-ends, placed-marks, between-comes, sized, as-left, settles}

-- a code fails with 1 to 4, and 4 names no place
abbrev Failing : ℕ → ℕ → Type 0
Failing n place = (1 ≤ n) × (n ≤ 4) × (3 < n → place ≡ 0)

-- a line that goes on stands in the data, and one that fails does so as a code fails
abbrev pub Fair : List Bool → Went → Type 0
Fair bs (went t) = t.at ≤ length bs
Fair bs (failed n place t) = Failing n place

-- a count of pixels for which there is no entry names no place
abbrev Late : Went → Type 0
Late (went t) = Unit {0}
Late (failed n place t) = 3 < n → place ≡ 0

push-late : (R : Rules) (place count : ℕ) (s : Lines.Line) → Late (push R place count s)
unfolding push add
push-late R place count s = tests (leb count (R.width - s.position)) R.strict
  where
    adds : (count : ℕ) (s : Lines.Line) → Late (add R count s)
    adds count s = cases (eqb count 0) (leb (length (recorded s)) R.room)
      where
        cases : (b c : Bool) → Late (cond b (went s) (cond c (went (Lines.line s.at (s.position + count) s.colour (recorded s) s.cut)) (failed 4 0 s)))
        cases true c = tt
        cases false true = tt
        cases false false = λ h. refl

    tests : (b c : Bool) → Late (cond b (add R count s) (cond c (failed 1 place s) (add R (R.width - s.position) (with_cut s))))
    tests true c = adds count s
    tests false true = λ h. absurd (omega arith)
    tests false false = adds (R.width - s.position) (with_cut s)

module _ (bytes : List ℕ) (settings : DecodeSettings) (asked : Asked bytes settings) where
  abbrev S : Settings
  S = settings_of settings

  abbrev bs : List Bool
  bs = bits_of bytes

  abbrev width : ℕ
  width = settings.columns

  module _ (xs es ms : List ℕ) (k : Kept) (kept : KeptIn width xs es ms k) where
    abbrev K : Keeping
    K = keeping_of xs k

    abbrev places : ℕ
    places = places_in es ms

    abbrev row : List ℕ
    row = drop k.base xs

    abbrev reference : List ℕ
    reference = part k.start k.base xs

    abbrev ComesTo : Rule.Out Going Page.Answer → Out → List ℕ → List ℕ → List ℕ → Type 0
    ComesTo o r ys fs ns = Comes bytes width k.rows k.base xs es ms o r ys fs ns

    none : Behind k.rows k.base K
    none = none-behind bytes settings asked xs es ms k kept

    -- ---- An EOL

    pub eol-comes : (e : Eols) → e.at ≤ 8 * length bytes → ((a : ℕ) → next_of bytes settings e ≡ some a → a ≤ 8 * length bytes)
        → ComesTo (unit S bs (length xs) places (going K (between (eols_of e)))) (eol_unit_for bytes settings k e (next_of bytes settings e)) xs es ms
    unfolding unit settle
    eol-comes e h inside' = cases (next_of bytes settings e) refl
      where
        cases : (o : Option ℕ) → next_of bytes settings e ≡ o → ComesTo (eol_unit S bs (length xs) places K (eols_of e) o) (eol_unit_for bytes settings k e o) xs es ms
        cases Option.none q = between-comes bytes settings asked xs es ms k kept e h
        cases (some a) q =
            subst (λ (n : ℕ). ComesTo (settle S bs (length xs) places (going K (between (eols_to n a)))) (between_for bytes settings k (eols_at (e.count + 1) a)) xs es ms) (add-one e.count)
            (between-comes bytes settings asked xs es ms k kept (eols_at (e.count + 1) a) (inside' a q))

    -- ---- A page that fails behind the rows kept

    pub fails : (n place : ℕ) (loose : List ℕ) (ys : List ℕ) → Failing n place → ys ≡ overlaid_from k.base loose xs → length ys ≡ length xs
        → ComesTo (done (record { number = n; place = place; bytes = 0; rows = []; marks = []; loose = loose })) (done_for n place 0 k (length loose)) ys es ms
    unfolding joined ends_from
    fails n place loose ys h e long = record {
      told = record {
        answer = said-behind bytes settings asked k.rows k.base K k n place 0 loose refl refl none;
        listed = omega (arith, h.1);
        allowed = record {
          no_bytes = λ z. refl;
          no_place = ⊎_elim (λ z. absurd (omega (arith, h.0))) h.2;
          no_loose = ⊎_elim (λ z. absurd (omega (arith, h.0))) (λ z. absurd (omega (arith, h.1)));
        };
      };
      leaves = record {
        changes = e;
        ends = from-none k.rows es (placed-ends bytes settings asked xs es ms k kept);
        marks = from-none k.rows ms (placed-marks bytes settings asked xs es ms k kept);
        changes_long = long;
        ends_long = refl;
        marks_long = refl;
      };
    }

    -- ---- A line, and what a code makes of it

    module _ (l : Line) (at seen : ℕ) (line : LineIn bytes width xs k l at seen) where
      abbrev pub L : ℕ → Lines.Line
      L a = line_at a row l

      -- the rules of the code and those of the page
      abbrev pub R : Rules
      R = rules_at S bs (length xs) places K

      pub rules-same : rules_for l.width (rules_in settings) row ≡ R
      rules-same = λ i. record { width = line.width_is i; strict = settings.strict; exact = settings.exact; room = length-drop k.base xs i }

      carried : (a : ℕ) → Carries width row (L a) l row
      carried a = subst (λ (n : ℕ). Carries n row (L a) l row) line.width_is (carries-new row l a line.holds)

      pub roomy : length (L at).changes ≤ R.room
      roomy = omega (arith, length-take-le l.changes row line.holds.held, line.holds.held, length-drop k.base xs)

      module _ (a : ℕ) (w : Went) (grows : GrowsTo R (L a) w) (ys : List ℕ) (e : ys ≡ overlaid_from k.base (changes_of w) xs) where
        -- what lies before the row stays
        front_same : take k.base ys ≡ take k.base xs
        front_same = ap (take k.base) e ∙ from_front k.base xs kept.held (changes_of w)

        row_is : drop k.base ys ≡ overlaid (changes_of w) row
        row_is = ap (drop k.base) e ∙ from_row k.base xs kept.held (changes_of w)

        pub length-same : length ys ≡ length xs
        length-same = ap length e ∙ from-length k.base xs kept.held (changes_of w) (omega (arith, grows.roomy roomy, kept.held))

        reference-is : part k.start k.base ys ≡ reference
        reference-is =
            reference-same (Reference.Kept k.start) k.base [] xs ys (kept.ordered, kept.held) (kept.ordered, omega (arith, length-same, kept.held)) front_same

        pub kept-after : KeptIn width ys es ms k
        kept-after = record {
          ordered = kept.ordered;
          held = omega (arith, length-same, kept.held);
          placed = kept.placed;
          rising = subst (Rising width 0) (sym reference-is) kept.rising;
        }

        pub keeping-same : keeping_of ys k ≡ K
        keeping-same = ap (λ (l : List ℕ). record { count = k.rows; base = k.base; reference = l; rows = []; marks = [] }) reference-is

      -- a line that goes on
      module _ (a : ℕ) (t : Lines.Line) (grows : Grows R (L a) t) (ys : List ℕ) (e : ys ≡ overlaid_from k.base t.changes xs) (m : Line) (m-is : m ≡ line_for width t) where
        carries : Carries width row t m (drop k.base ys)
        carries = record {
          line-is = m-is;
          store = row_is a (went t) grows ys e;
          fits = grows.fits (omega (arith, line.holds.fits, line.width_is));
          roomy = omega (arith, grows.roomy roomy, length-drop k.base xs);
          narrow = asked.narrow;
        }

        -- it is the rules' line
        pub line-is : (b : ℕ) → line_at b (drop k.base ys) m ≡ moved_to b t
        line-is b = carries-line carries b

        pub line_after : (b seen' : ℕ) → b ≤ 8 * length bytes → Passed (right_of_a0 l.position) seen' reference → LineIn bytes width ys k m b seen'
        line_after b seen' h p = record {
          inside = h;
          width_is = ap (λ (n : Line). n.width) m-is;
          holds = carries-holds carries;
          rising = subst (λ (n : Lines.Line). Rising n.position 0 n.changes) (sym (line-is b)) (grows.rises line.rising);
          passed =
              subst (Passed (right_of_a0 m.position) seen') (sym (reference-is a (went t) grows ys e))
              (passed_on p (right-grows l.position m.position (omega (arith, ap (λ (n : Line). n.position) m-is, grows.further))));
        }

        -- what the page has written so far
        pub line-leaves : Leaves k.rows k.base xs es ms (more (going K (in_line t))) ys es ms
        unfolding joined ends_from
        line-leaves = record {
          changes = e;
          ends = from-none k.rows es (placed-ends bytes settings asked xs es ms k kept);
          marks = from-none k.rows ms (placed-marks bytes settings asked xs es ms k kept);
          changes_long = length-same a (went t) grows ys e;
          ends_long = refl;
          marks_long = refl;
        }

      -- ---- What a code makes of the page

      pub code-comes : (a : ℕ) (w : Went) → GrowsTo R (L a) w → Fair bs w → (step : Step) → step ≡ step_for width w → (ys : List ℕ) → ys ≡ overlaid_from k.base (changes_of w) xs
          → (seen' : ℕ) → Passed (right_of_a0 l.position) seen' reference → (r : Out) (fs ns : List ℕ) → AfterCodes bytes settings es ms k step seen' r fs ns
          → ComesTo (after_code S bs (length xs) places K w) r ys fs ns
      code-comes a (failed n p t) grows fair step q ys e seen' passed' r fs ns c =
          let d : Stays (done_for n p 0 k (length t.changes)) es ms r fs ns = subst (λ (s : Step). AfterCodes bytes settings es ms k s seen' r fs ns) q c in
          rw (d.answer, d.ends, d.marks) (fails n p t.changes ys fair e (length-same a (failed n p t) grows ys e))
      code-comes a (went t) grows fair step q ys e seen' passed' r fs ns c =
          let d : Settles bytes settings es ms k (InLine (line_for width t) t.at) seen' r fs ns = subst (λ (s : Step). AfterCodes bytes settings es ms k s seen' r fs ns) q c in
          let here = kept-after a (went t) grows ys e in
          let long = length-same a (went t) grows ys e in
          let there : Comes bytes width k.rows k.base ys es ms (settle S bs (length ys) places (going_at ys k (InLine (line_for width t) t.at))) r ys fs ns =
          settles bytes settings asked ys es ms k here (InLine (line_for width t) t.at) seen' (line_after a t grows ys e (line_for width t) refl t.at seen' (omega (arith, fair, length-bits_of bytes)) passed') r fs ns d in
          let same : going_at ys k (InLine (line_for width t) t.at) ≡ going K (in_line t) =
          λ i. going (keeping-same a (went t) grows ys e i) (in_line (line-is a t grows ys e (line_for width t) refl t.at i)) in
          let settled : Comes bytes width k.rows k.base ys es ms (settle S bs (length xs) places (going K (in_line t))) r ys fs ns =
          subst (λ (o : Rule.Out Going Page.Answer). Comes bytes width k.rows k.base ys es ms o r ys fs ns) (λ i. settle S bs (long i) places (same i)) there in
          record {
            told = settled.told;
            leaves =
                subst (λ (o : Rule.Out Going Page.Answer). Leaves k.rows k.base xs es ms o ys fs ns) (none_before (settle S bs (length xs) places (going K (in_line t))))
                (leaves-then kept.held (placed-ends bytes settings asked xs es ms k kept) (placed-marks bytes settings asked xs es ms k kept) (line-leaves a t grows ys e (line_for width t) refl) none settled.leaves
                (larger (size-settle S bs (length xs) places K (in_line t))));
          }
        where
          -- rows that were not there
          none_before : (o : Rule.Out Going Page.Answer) → out_behind [] [] o ≡ o
          none_before (more g) = refl
          none_before (done a) = refl

          larger : {n : ℕ} → entries [] + length t.changes ≤ n → length t.changes ≤ n
          larger h = omega (arith, h)

      -- in a run: the line and what is written are as they were
      inside_run : (h : Half) (from total next seen' : ℕ) → next ≤ 8 * length bytes → Passed (right_of_a0 l.position) seen' reference
          → ComesTo (more (going K (in_run (half_of h) (L from) (sum next total)))) (More k (InRun h l from total next) seen') xs es ms
      unfolding joined ends_from
      inside_run h from total next seen' inside p = record {
        told = record {
          is = refl;
          rows_are = none.rows_are;
          entries_are = none.entries_are;
          kept = kept;
          stand = record { inside = inside; width_is = line.width_is; holds = line.holds; rising = line.rising; passed = p };
          settled = tt;
        };
        leaves = record {
          changes = as-left bytes settings asked xs es ms k kept l at seen line;
          ends = from-none k.rows es (placed-ends bytes settings asked xs es ms k kept);
          marks = from-none k.rows ms (placed-marks bytes settings asked xs es ms k kept);
          changes_long = refl;
          ends_long = refl;
          marks_long = refl;
        };
      }

      -- ---- A mode code

      module _ (short : l.position < l.width) where
        -- any mode but horizontal does what the code does
        mode-is : (r : Res Moded) → read_mode bs at ≡ r → ((next : ℕ) → RunsAt bytes at next → ⊥) → mode_unit S bs (length xs) places K (L at) r ≡ after_code S bs (length xs) places K (after_mode R reference bs (L at) r)
        mode-is (ok m) e n = cases m.mode refl
          where
            cases : (o : Mode) → m.mode ≡ o
                → Units.after_mode4 S bs (length xs) places K (L at) o (moved_to m.at (L at)) ≡ after_code S bs (length xs) places K (Lines.unless_idle R o (L at) (Lines.apply R reference bs at o (moved_to m.at (L at))))
            cases pass q = refl
            cases horizontal q = absurd (n m.at (e ∙ ap (λ (o : Mode). ok (moded m.at o)) q))
            cases (VR i) q = refl
            cases (VL i) q = refl
        mode-is (fault i p) e n = refl

        pub mode-comes : ((next : ℕ) → RunsAt bytes at next → ⊥) → (step : Step) (zs : List ℕ) → Steps l.width row (code_2d (rules_for l.width (rules_in settings) row) reference bs (L at)) step zs
            → (ys : List ℕ) → ys ≡ take k.base xs ++ zs → (seen' : ℕ) → Passed (right_of_a0 l.position) seen' reference → (r : Out) (fs ns : List ℕ) → AfterCodes bytes settings es ms k step seen' r fs ns
            → ComesTo (unit S bs (length xs) places (going K (in_line (L at)))) r ys fs ns
        unfolding unit code_2d
        mode-comes n step zs c ys e seen' p r fs ns d =
            subst (λ (o : Rule.Out Going Page.Answer). ComesTo o r ys fs ns) (sym (mode-is (read_mode bs at) refl n))
            (code-comes at (code_2d R reference bs (L at)) (code_2d-grows R reference bs (L at)) (fair (code_2d R reference bs (L at)) (code-coded R bs (length bs) (data-bound bs) 0 (two reference) (L at)) (code-placed bs R (two reference) (L at) (omega (arith, line.inside, length-bits_of bytes))))
            step same.answer ys (e ∙ ap (λ (l : List ℕ). take k.base xs ++ l) same.store) seen' p r fs ns d)
          where
            same : Steps width row (code_2d R reference bs (L at)) step zs
            same = subst (λ (v : Rules). Steps v.width row (code_2d v reference bs (L at)) step zs) rules-same c

            fair : (w : Went) → Coded R bs (length bs) (data-bound bs) 0 (L at) w → Placed bs w → Fair bs w
            fair (went t) c h = c.1
            fair (failed n p t) c h = (c.0, c.1, h.later)

        -- horizontal mode has its runs to come
        pub runs-come : (next : ℕ) → RunsAt bytes at next → (seen' : ℕ) → Passed (right_of_a0 l.position) seen' reference
            → ComesTo (unit S bs (length xs) places (going K (in_line (L at)))) (More k (InRun (First at) l next 0 next) seen') xs es ms
        unfolding unit
        runs-come next e seen' p = rw e (inside_run (First at) next 0 next seen' (let m = subst (ModeAt bs at) e (mode_is_at bs at) in omega (arith, m.fits, length-bits_of bytes)) p)

      -- ---- A code of a run whose first bit was `from`

      module _ (h : Half) (from total : ℕ) where
        abbrev step_here : Rule.Out Sum (Res Sum)
        step_here = run_step (colour_of l.colour) bs (sum at total)

        abbrev unit_here : Rule.Out Going Page.Answer
        unit_here = unit S bs (length xs) places (going K (in_run (half_of h) (L from) (sum at total)))

        -- the next bit lies in the data, and a fault has a number of the list
        abbrev Steady : Rule.Out Sum (Res Sum) → Type 0
        Steady (more s) = s.at ≤ length bs
        Steady (done (ok s)) = s.at ≤ length bs
        Steady (done (fault n p)) = Failing n p

        steady : Steady step_here
        steady = run-cases (colour_of l.colour) bs (sum at total) Steady (λ c t i. t.fits) (λ c t i. t.fits) (λ n i j. (i, omega arith, λ h. absurd (omega arith)))

        pub run-fails : (n place : ℕ) → done (fault n place) ≡ step_here → ComesTo unit_here (done_for n place 0 k l.changes) xs es ms
        unfolding unit
        run-fails n place e =
            subst (λ (o : Rule.Out Sum (Res Sum)). ComesTo (run_unit S bs (length xs) places K (half_of h) (L from) o) (done_for n place 0 k l.changes) xs es ms) e (cases h)
          where
            ended : ComesTo (broken S bs (length xs) places K n place (L from)) (done_for n place 0 k l.changes) xs es ms
            ended =
                subst (λ (i : ℕ). ComesTo (broken S bs (length xs) places K n place (L from)) (done_for n place 0 k i) xs es ms) (sized bytes settings asked xs es ms k kept l at seen line)
                (fails n place (L from).changes xs (subst Steady (sym e) steady) (as-left bytes settings asked xs es ms k kept l at seen line) refl)

            cases : (h : Half) → ComesTo (run_unit S bs (length xs) places K (half_of h) (L from) (done (fault n place))) (done_for n place 0 k l.changes) xs es ms
            cases (First m) = ended
            cases (Second m b) = ended

        pub run-goes : (total' next : ℕ) → more (sum next total') ≡ step_here → ComesTo unit_here (More k (InRun h l from total' next) seen) xs es ms
        unfolding unit
        run-goes total' next e =
            subst (λ (o : Rule.Out Sum (Res Sum)). ComesTo (run_unit S bs (length xs) places K (half_of h) (L from) o) (More k (InRun h l from total' next) seen) xs es ms) e
            (inside_run h from total' next seen (let i : next ≤ length bs = subst Steady (sym e) steady in omega (arith, i, length-bits_of bytes)) line.passed)

        -- what a whole run makes of the line
        module _ (total' next : ℕ) (e : done (ok (sum next total')) ≡ step_here) (step : Step) (zs : List ℕ) (c : RunEnded row l total' from next (rules_in settings) step zs)
            (ys : List ℕ) (f : ys ≡ take k.base xs ++ zs) (r : Out) (fs ns : List ℕ) where
          abbrev pub W : Went
          W = after_run R (L from) (ok (sum next total'))

          pub ran : Steps width row W step zs
          ran = subst (λ (v : Rules). Steps v.width row (after_run v (L from) (ok (sum next total'))) step zs) rules-same c

          inside' : next ≤ length bs
          inside' = subst Steady (sym e) steady

          pub fair : Fair bs W
          fair = cases (push R from total' (moved_to next (L from))) (push-pushes R (length bs) 0 from total' (moved_to next (L from))) (push-late R from total' (moved_to next (L from)))
            where
              cases : (w : Went) → Each (Pushes R (length bs) 0 (moved_to next (L from))) (PushFails R (length bs) 0 (moved_to next (L from))) w → Late w → Fair bs (Lines.next w λ t. went (turned t))
              cases (went t) p h = omega (arith, p.0, inside')
              cases (failed n q t) p h = (p.0, p.1, h)

          pub run_ends : AfterRuns bytes settings es ms k h l step seen r fs ns → ComesTo unit_here r ys fs ns
          unfolding unit
          run_ends d =
              subst (λ (o : Rule.Out Sum (Res Sum)). ComesTo (run_unit S bs (length xs) places K (half_of h) (L from) o) r ys fs ns) e
              (half h W (after_run-grows R (L from) (ok (sum next total'))) fair ran.answer (f ∙ ap (λ (l : List ℕ). take k.base xs ++ l) ran.store) d)
            where
              -- behind the first run comes the second
              after_first : (mode : ℕ) (w : Went) → GrowsTo R (L from) w → Fair bs w → step ≡ step_for width w → ys ≡ overlaid_from k.base (changes_of w) xs → Stays (first_for k mode l step seen) es ms r fs ns
                  → ComesTo (after_half S bs (length xs) places K (Units.first mode) (L from) w) r ys fs ns
              after_first mode (failed n p t) g a q u d =
                  rw (d.answer ∙ ap (λ (s : Step). first_for k mode l s seen) q, d.ends, d.marks) (fails n p t.changes ys a u (length-same from (failed n p t) g ys u))
              after_first mode (went t) g a q u d =
                  rw (d.answer ∙ ap (λ (s : Step). first_for k mode l s seen) q, d.ends, d.marks) (record {
                    told = record {
                      is = λ i. going (keeping-same from (went t) g ys u i) (in_run (Units.second mode (eqb t.position l.position)) (line-is from t g ys u (line_for width t) refl t.at i) (sum t.at 0));
                      rows_are = none.rows_are;
                      entries_are = none.entries_are;
                      kept = kept-after from (went t) g ys u;
                      stand = line_after from t g ys u (line_for width t) refl t.at seen (omega (arith, a, length-bits_of bytes)) line.passed;
                      settled = tt;
                    };
                    leaves = (let m = line-leaves from t g ys u (line_for width t) refl in record { changes = m.changes; ends = m.ends; marks = m.marks; changes_long = m.changes_long; ends_long = refl; marks_long = refl });
                  })

              -- behind the second the next mode code, unless both moved nothing
              after-second : (mode : ℕ) (blank : Bool) (w : Went) → GrowsTo R (L from) w → Fair bs w → step ≡ step_for width w → ys ≡ overlaid_from k.base (changes_of w) xs
                  → AfterCodes bytes settings es ms k (unless_idle_for step l mode (blank && settings.exact)) seen r fs ns
                  → ComesTo (after_code S bs (length xs) places K (unless_unmoved S bs (length xs) places mode blank (L from) w)) r ys fs ns
              after-second mode blank (failed n p t) g a q u d =
                  code-comes from (failed n p t) g a (Err (stop_at n (line_for width t) p)) refl ys u seen line.passed r fs ns
                  (subst (λ (s : Step). AfterCodes bytes settings es ms k (unless_idle_for s l mode (blank && settings.exact)) seen r fs ns) q d)
              after-second mode blank (went t) g a q u d =
                  tests settings.exact blank (eqb t.position l.position) refl
                  (subst (λ (s : Step). AfterCodes bytes settings es ms k (unless_idle_for s l mode (blank && settings.exact)) seen r fs ns) q d)
                where
                  goes : AfterCodes bytes settings es ms k (Ok (line_for width t, t.at)) seen r fs ns → ComesTo (after_code S bs (length xs) places K (went t)) r ys fs ns
                  goes d = code-comes from (went t) g a (Ok (line_for width t, t.at)) refl ys u seen line.passed r fs ns d

                  idle : eqb t.position l.position ≡ true → AfterCodes bytes settings es ms k (Err (stop_at 1 l mode)) seen r fs ns → ComesTo (after_code S bs (length xs) places K (failed 1 mode (L from))) r ys fs ns
                  idle b d =
                      code-comes from (failed 1 mode (L from)) (grows-here R (L from) from) (omega arith, omega arith, λ h. absurd (omega arith)) (Err (stop_at 1 l mode))
                      (λ i. Err (stop_at 1 (sym (ap (λ (n : ℕ). line_for n (L from)) (sym line.width_is) ∙ line-for row l line.holds from) i) mode))
                      ys (u ∙ ap (λ (l : List ℕ). overlaid_from k.base l xs) (g.still (eqb-true _ _ b))) seen line.passed r fs ns d

                  tests : (x y z : Bool) → eqb t.position l.position ≡ z → AfterCodes bytes settings es ms k (cond ((y && x) && z) (Err (stop_at 1 l mode)) (Ok (line_for width t, t.at))) seen r fs ns
                      → ComesTo (after_code S bs (length xs) places K (cond (x && (y && z)) (failed 1 mode (L from)) (went t))) r ys fs ns
                  tests true true true b d = idle b d
                  tests true true false b d = goes d
                  tests true false z b d = goes d
                  tests false true z b d = goes d
                  tests false false z b d = goes d

              half : (h : Half) (w : Went) → GrowsTo R (L from) w → Fair bs w → step ≡ step_for width w → ys ≡ overlaid_from k.base (changes_of w) xs → AfterRuns bytes settings es ms k h l step seen r fs ns
                  → ComesTo (after_half S bs (length xs) places K (half_of h) (L from) w) r ys fs ns
              half (First mode) w g a q u d = after_first mode w g a q u d
              half (Second mode blank) w g a q u d = after-second mode blank w g a q u d
