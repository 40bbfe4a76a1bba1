-- Units one behind the other, and how many a code is. Assumes nothing.
use Rattle.std.specs.Prelude.{Option, Some, None}
use mathlib.Core.Path.{◌≡◌, refl, sym, ap, ◌∙◌, subst}
use mathlib.Core.Bool.{Bool, true, false, cond}
use mathlib.Core.List.{List, []}
use Prim.Native.Nat.{ℕ, zero, suc, ◌+◌, ◌-◌, ◌*◌, ◌/◌, ◌%◌, ◌^◌, ◌≤◌, ◌<◌}
use native.Mathlib.Omega.{arith}
use lib.Dec.{eqb}
use lib.ListN.{length, get_or, drop, set}
use lib.Seq.{length-take-le}
use borrow.Author.Tests.{ne_eqb}
use Rattle.rules.specs.Machine.{Out, more, done, and_then, run, onward, spent}
use Rattle.rules.specs.Bits.{bits_of}
use Rattle.rules.specs.Codes.{opposite}
use Rattle.rules.specs.Runs.{Res, ok, sum, read_run}
use Rattle.rules.specs.Modes.{Mode, horizontal, VR, VL, Moded, moded, read_mode}
use Rattle.rules.specs.Lines.{Rules, Line, Went, went, failed, moved_to, recorded, code_2d, go_on, line_step}
use Rattle.rules.specs.Counts.{of_second, behind_mode, behind_code, of_code}
use Rattle.rules.specs.Rows.{Settings}
use Rattle.rules.specs.Pages.{Answer}
use Rattle.rules.specs.Units.{each, run_units, Keeping, Going, rules_at, broken, close_row, unit}
use Rattle.rules.proofs.Grows.{Grows, GrowsTo, code_2d-grows}
use Rattle.rules.proofs.Paced.{Steps, here, there, steps-add, steps-run, lifted}
use Rattle.rules.proofs.Units.{line-sim}
use Rattle.tables.specs.Tables.{colour_of}
use Rattle.bit_reader.specs.Loaded.{Ahead}
use Rattle.codes.proofs.Modes.{top-straight}
use Rattle.context.specs.declared.reference.Reference.TheVariants.{Kept}
use Rattle.context.specs.State.{ruling}
use Rattle.context.specs.Coding.{reference_in, Placed}
use Rattle.context.proofs.Goes.{recorded-few, run-goes}
use Rattle.context.proofs.RowPart.{placed-as, reference-same}
use Rattle.swift_loops.specs.declared.fast_2d.BetweenCodes.{BetweenCodes}
use Rattle.swift_loops.specs.Swift.{standing, Walked, Walks, room_in, side_mode, Ready, Turned}
use Rattle.swift_loops.proofs.Swiftly.{OneCode, OneCodeIn, ready-note, walks-none, room-same, walked_further}
use Rattle.swift_loops.proofs.StraightLoop.{Along, along-new, kept-code, kept_on}
use Rattle.swift_units.specs.declared.UnitsLeft.{UnitsLeft}
use Rattle.swift_units.specs.Counted.{Leads, line_in, Counted, CountedIn, Spent, Counts, CountedEach}

-- ---- Steps of a machine, as they are told

-- n of them lead there, and are n
pub steps-led : {S A : Type 0} {step : S → Out S A} (n : ℕ) (o p : Out S A) → and_then o (run step n) ≡ p → onward o (spent each step n) ≡ n → Steps step o n p
unfolding run spent
steps-led {step = step} zero (more s) p e q = subst (λ (x : Out _ _). Steps step (more s) 0 x) e here
steps-led {step = step} zero (done a) p e q = subst (λ (x : Out _ _). Steps step (done a) 0 x) e here
steps-led (suc n) (done a) p e q = absurd (omega arith)
steps-led {step = step} (suc n) (more s) p e q = there (steps-led n (step s) p e (omega arith))

module _ (S : Settings) (bs : List Bool) (store places : ℕ) where
  pub leads-none : (o : Out Going Answer) → Leads S bs store places o 0 o
  leads-none o = steps-run here

  pub leads-then : (o p q : Out Going Answer) {n m : ℕ} → Leads S bs store places o n p → Leads S bs store places p m q → Leads S bs store places o (n + m) q
  leads-then o p q {n} {m} a b = steps-run (steps-add (steps-led n o p a.0 a.1) (steps-led m p q b.0 b.1))

-- ---- The units of a code

module _ (bs : List Bool) (R : Rules) (l : Line) (short : l.position < R.width) where
  -- a mode that has nothing behind it is one
  pub mode-units : (next : ℕ) (m : Mode) → read_mode bs l.at ≡ ok (moded next m) → behind_mode (run_units bs) R bs m (moved_to next l) ≡ 0
      → of_code (run_units bs) R bs l ≡ 1
  unfolding of_code
  mode-units next m read none =
      ap (λ (b : Bool). cond b 0 (suc (behind_code (run_units bs) R bs l (read_mode bs l.at)))) (ne_eqb l.position R.width (λ z. omega arith))
      ∙ ap (λ (r : Res Moded). suc (behind_code (run_units bs) R bs l r)) read
      ∙ ap suc none

  -- a horizontal one has those of its runs
  pub runs-units : (next n1 p1 : ℕ) → read_mode bs l.at ≡ ok (moded next horizontal) → read_run l.colour bs next ≡ ok (sum n1 p1) → 0 < p1
      → l.position + p1 ≤ R.width → length (recorded l) ≤ R.room
      → of_code (run_units bs) R bs l ≡ suc (run_units bs l.colour next + run_units bs (opposite l.colour) n1)
  unfolding of_code recorded
  runs-units next n1 p1 read one some fits roomy =
      ap (λ (b : Bool). cond b 0 (suc (behind_code (run_units bs) R bs l (read_mode bs l.at)))) (ne_eqb l.position R.width (λ z. omega arith))
      ∙ ap (λ (r : Res Moded). suc (behind_code (run_units bs) R bs l r)) read
      ∙ ap (λ (w : Went). suc (run_units bs l.colour next + of_second (run_units bs) R bs w)) (run-goes R bs (moved_to next l) n1 p1 one some fits roomy)

-- a code whose units are known, whatever the rules
module _ {reference : List ℕ} {bs : List Bool} {base room width : ℕ} {xs ys : List ℕ} {s t : BetweenCodes}
    (c : OneCode reference bs base room width xs s ys t) where
  module _ (S : Settings) (store places : ℕ) (k : Keeping) (cut : Bool) (wide : S.columns ≡ width) (under : k.reference ≡ reference)
      (within : store - k.base ≡ room) where
    abbrev from : Line
    from = standing (drop base xs) cut s

    abbrev to : Line
    to = standing (drop base ys) cut t

    abbrev line_to : Went → Out Going Answer
    line_to (went l) = close_row S bs store places k l
    line_to (failed n p l) = broken S bs store places k n p l

    rules-are : rules_at S bs store places k ≡ ruling width room S.strict S.exact
    rules-are = λ i. record { width = wide i; strict = S.strict; exact = S.exact; room = within i }

    step_is : line_step S.columns (code_2d (rules_at S bs store places k) k.reference bs) from ≡ more to
    unfolding line_step
    step_is =
        ap (λ (b : Bool). cond b (done (went from)) (go_on (code_2d (rules_at S bs store places k) k.reference bs from))) (ne_eqb s.position S.columns (λ z. omega (arith, c.short)))
        ∙ ap go_on ((λ i. code_2d (rules-are i) (under i) bs from) ∙ c.goes S.strict S.exact cut)

    one-leads : (n : ℕ) → ((strict exact : Bool) → of_code (run_units bs) (ruling width room strict exact) bs from ≡ n)
        → Leads S bs store places (line_in S bs store places k from) n (line_in S bs store places k to)
    one-leads n cost =
        let units = (λ i. of_code (run_units bs) (rules-are i) bs from) ∙ cost S.strict S.exact in
        let steps = subst (λ (o : Out Line Went). Steps (unit S bs store places) (line_in S bs store places k from) (of_code (run_units bs) (rules_at S bs store places k) bs from) (lifted (line_in S bs store places k) line_to o)) step_is
        (line-sim S bs store places k from) in
        steps-run (subst (λ (i : ℕ). Steps (unit S bs store places) (line_in S bs store places k from) i (line_in S bs store places k to)) units steps)

  grows : Grows (ruling width room false false) (standing (drop base xs) false s) (standing (drop base ys) false t)
  grows = subst (GrowsTo (ruling width room false false) (standing (drop base xs) false s)) (c.goes false false false) (code_2d-grows (ruling width room false false) reference bs (standing (drop base xs) false s))

  pub counted-one : (n : ℕ) → ((strict exact cut : Bool) → of_code (run_units bs) (ruling width room strict exact) bs (standing (drop base xs) cut s) ≡ n)
      → Counted reference bs base room width xs s n ys t
  counted-one n cost = record {
    walked = c.walked;
    further = grows.further;
    still = grows.still;
    rises = grows.rises;
    leads = λ S store places k cut wide under within. one-leads S store places k cut wide under within n (λ strict exact. cost strict exact cut);
  }

  -- a mode that has nothing behind it
  pub mode-counted : (next : ℕ) (m : Mode) → read_mode bs s.at ≡ ok (moded next m) → ((R : Rules) (l : Line) → behind_mode (run_units bs) R bs m l ≡ 0)
      → Counted reference bs base room width xs s 1 ys t
  mode-counted next m read none =
      counted-one 1 (λ strict exact cut. mode-units bs (ruling width room strict exact) (standing (drop base xs) cut s) c.short next m read (none _ _))

pub side-none : (bs : List Bool) (d twice : ℕ) (R : Rules) (l : Line) → behind_mode (run_units bs) R bs (side_mode d twice) l ≡ 0
side-none bs d twice R l = cases (eqb twice 0)
  where
    cases : (b : Bool) → behind_mode (run_units bs) R bs (cond b (VL d) (VR d)) l ≡ 0
    cases true = refl
    cases false = refl

-- two runs
module _ (bytes : List ℕ) (start : ℕ) {xs : List ℕ} {base width : ℕ} {s : BetweenCodes} {b : ℕ} (g : Ready (Kept start) [] xs base width s b) where
  pub two-counted : {ys : List ℕ} {t : BetweenCodes} (n1 p1 u1 u2 : ℕ) → OneCodeIn bytes (Kept start) [] xs base width s ys t
      → read_mode (bits_of bytes) s.at ≡ ok (moded (s.at + 3) horizontal)
      → read_run (colour_of (s.place % 2)) (bits_of bytes) (s.at + 3) ≡ ok (sum n1 p1) → 0 < p1 → p1 ≤ width - s.position
      → run_units (bits_of bytes) (colour_of (s.place % 2)) (s.at + 3) ≡ u1 → run_units (bits_of bytes) (opposite (colour_of (s.place % 2))) n1 ≡ u2
      → CountedIn bytes start xs base width s (suc (u1 + u2)) ys t
  two-counted n1 p1 u1 u2 c read run some fits one two = counted-one c (suc (u1 + u2)) λ strict exact cut.
      runs-units (bits_of bytes) (ruling width (room_in base xs) strict exact) (standing (drop base xs) cut s) c.short (s.at + 3) n1 p1 read run some
      (omega (arith, c.short))
      (omega (arith, recorded-few (standing (drop base xs) cut s), length-take-le s.count (drop base xs) (omega (arith, ready-note g)), ready-note g))
      ∙ (λ i. suc (one i + two i))

-- ---- Codes one behind the other

pub counted-here : {reference : List ℕ} {bs : List Bool} {base room width : ℕ} {xs : List ℕ} {s : BetweenCodes} → Walked reference bs base room width xs s xs s
    → Counted reference bs base room width xs s 0 xs s
counted-here {bs = bs} w = record {
  walked = w;
  further = omega arith;
  still = λ e. refl;
  rises = λ r. r;
  leads = λ S store places k cut wide under within. leads-none S bs store places _;
}

pub counted_none : {bytes : List ℕ} {start : ℕ} {xs : List ℕ} {base width : ℕ} {s : BetweenCodes} → Walks bytes (Kept start) [] xs base width s
    → CountedIn bytes start xs base width s 0 xs s
counted_none h = counted-here (walks-none h)

module _ (bytes : List ℕ) (start : ℕ) {xs zs us : List ℕ} {base width : ℕ} {s t u : BetweenCodes} {n m : ℕ} where
  pub counted-further : Placed (Kept start) base xs → CountedIn bytes start xs base width s n zs t → CountedIn bytes start zs base width t m us u
      → CountedIn bytes start xs base width s (n + m) us u
  counted-further placed a b = record {
    walked = walked_further (Kept start) [] placed a.walked b.walked;
    further = omega (arith, a.further, b.further);
    still = λ e. b.still (omega (arith, a.further, b.further)) ∙ a.still (omega (arith, a.further, b.further));
    rises = λ r. b.rises (a.rises r);
    leads = λ S store places k cut wide under within.
        leads-then S (bits_of bytes) store places (line_in S (bits_of bytes) store places k (standing (drop base xs) cut s)) (line_in S (bits_of bytes) store places k (standing (drop base zs) cut t)) (line_in S (bits_of bytes) store places k (standing (drop base us) cut u))
        (a.leads S store places k cut wide under within) (b.leads S store places k cut wide (under ∙ sym same) (within ∙ sym room));
  }
    where
      same : reference_in (Kept start) base [] zs ≡ reference_in (Kept start) base [] xs
      same = reference-same (Kept start) base [] xs zs placed (placed-as (Kept start) base xs zs a.walked.size placed) a.walked.front

      room : room_in base zs ≡ room_in base xs
      room = room-same base xs zs a.walked.size

-- ---- What is left of them

module _ (bytes : List ℕ) (start : ℕ) {xs : List ℕ} {base width : ℕ} {s : BetweenCodes} where
  -- n of so many are taken
  pub left_of : {ys : List ℕ} {t : BetweenCodes} (n left rest : ℕ) → CountedIn bytes start xs base width s n ys t → rest + n ≡ left → (rest ≡ left → ys ≡ xs)
      → Spent bytes start xs base width s left (record { stand = t; left = rest }) ys
  left_of {ys} {t} n left rest c e same =
      (subst (λ (i : ℕ). CountedIn bytes start xs base width s i ys t) (let z : n ≡ left - rest = omega arith in z) c, omega arith, same)

  -- one is
  pub one_left : {ys : List ℕ} {t : BetweenCodes} (left : ℕ) → CountedIn bytes start xs base width s 1 ys t → 0 < left
      → Counts bytes start xs base width s left (Some (record { stand = t; left = left - 1 })) ys
  one_left left c h = (left_of 1 left (left - 1) c (omega arith) (λ e. absurd (omega arith)), omega arith)

  -- behind units that were taken: a code is another, or it takes some of those that are left
  module _ (placed : Placed (Kept start) base xs) {units : ℕ} {u : UnitsLeft} {zs : List ℕ} (v : Spent bytes start xs base width s units u zs) (r : Option UnitsLeft) (ys : List ℕ)
      (took : Counts bytes start zs base width u.stand u.left r ys) where
    pub spent-other : r ≡ None → Spent bytes start xs base width s units u ys
    spent-other e = rw (subst (λ (q : Option UnitsLeft). Counts bytes start zs base width u.stand u.left q ys) e took) v

    module _ {w : UnitsLeft} (e : r ≡ Some w) where
      on : Spent bytes start zs base width u.stand u.left w ys × (w.left < u.left)
      on = subst (λ (q : Option UnitsLeft). Counts bytes start zs base width u.stand u.left q ys) e took

      pub spent-less : w.left < u.left
      spent-less = on.1

      pub spent-on : Spent bytes start xs base width s units w ys
      spent-on = left_of (units - u.left + (u.left - w.left)) units w.left (counted-further bytes start placed v.0 on.0.0) (omega (arith, v.1, on.1)) (λ e. absurd (omega (arith, v.1, on.1)))

-- ---- V0 codes one behind the other

-- they have come from s to t, and each noted a change
pub record EachTo (start : ℕ) (xs : List ℕ) (base width : ℕ) (s : BetweenCodes) (bits most : ℕ) (zs : List ℕ) (t : BetweenCodes) (rest : ℕ) : Type 0 where
  pub along : Along (Kept start) [] xs base width s bits zs t rest
  pub longer : s.count ≤ t.count
  pub few : t.count ≤ most
  pub counted : (bytes : List ℕ) (live : ℕ) → Ahead bytes s.at live bits → CountedIn bytes start xs base width s (t.count - s.count) zs t

module _ {start : ℕ} {xs : List ℕ} {base width : ℕ} {s : BetweenCodes} (g : Turned (Kept start) [] xs base width s) where
  pub each-new : (bits most : ℕ) → s.count ≤ most → EachTo start xs base width s bits most xs s bits
  each-new bits most h = record {
    along = along-new g bits;
    longer = omega arith;
    few = h;
    counted = λ bytes live k.
        subst (λ (i : ℕ). CountedIn bytes start xs base width s i xs s) (let z : 0 ≡ s.count - s.count = omega arith in z)
        (counted-here ((along-new g bits).walked bytes live k).0);
  }

  module _ {bits most : ℕ} {zs : List ℕ} {t : BetweenCodes} {rest : ℕ} (a : EachTo start xs base width s bits most zs t rest) where
    pub each-went : CountedEach start xs base width s bits most t zs
    each-went = record { longer = a.longer; few = a.few; counted = a.counted }

    pub each_on : t.place < base - start → t.count < most → rest / 2 ^ 63 ≡ 1
        → EachTo start xs base width s bits most (set zs (base + t.count) t.position)
        (record { at = t.at + 1; position = get_or (set zs (base + t.count) t.position) (start + t.place) 0; count = t.count + 1; place = t.place + 1 })
        (rest * 2 ^ 1 % 2 ^ 64)
    each_on inside some one = record {
      along = kept_on g a.along inside one;
      longer = omega (arith, a.longer);
      few = omega (arith, some);
      counted = λ bytes live k.
          let shown = (a.along.walked bytes live k).1.next in
          subst (λ (i : ℕ). CountedIn bytes start xs base width s i (set zs (base + t.count) t.position) (record { at = t.at + 1; position = get_or (set zs (base + t.count) t.position) (start + t.place) 0; count = t.count + 1; place = t.place + 1 }))
          (let l = a.longer in let z : t.count - s.count + 1 ≡ t.count + 1 - s.count = omega arith in z)
          (counted-further bytes start g.placed (a.counted bytes live k)
          (mode-counted (kept-code g a.along inside bytes shown one) (t.at + 1) (VR 0) (top-straight shown one) (λ R l. refl)));
    }
