-- The units of a call, one after the other: what holds before each, and that together they are the rules' `call`. Assumes nothing.
use mathlib.Core.Path.{◌≡◌, sym, ap₂, ◌∙◌, subst}
use mathlib.Core.List.{List, [], ◌∷◌, ◌++◌, append-nil}
use mathlib.Core.Bool.{Bool}
use Prim.Native.Nat.{ℕ, ◌+◌, ◌-◌, ◌≤◌, ◌<◌, min}
use native.Mathlib.Omega.{arith}
use lib.ListN.{length, length-append, length-drop}
use Rattle.rules.specs.Machine as Rule
use Rattle.rules.specs.Machine.{more, done}
use Rattle.rules.specs.Bits.{bits_of}
use Rattle.rules.specs.Rows.{Settings}
use Rattle.rules.specs.Pages as Page
use Rattle.rules.specs.Pages.{entries, places_in}
use Rattle.rules.specs.InSteps.{says}
use Rattle.rules.specs.Units.{Keeping, Going, going, so_far, loose_of, keeps, settle, unit, call, taken, out_behind, anew}
use Rattle.rules.proofs.PageBack.{entries-snoc}
use Rattle.rules.proofs.Store.{entries-append}
use Rattle.rules.proofs.Paced.{Steps, here, there, steps-add, steps-run, steps-over}
use Rattle.rules.proofs.Frame.{unit-frame}
use Rattle.rules.proofs.Turns.{InvOut, inv-settle, inv-unit, size_of, size-unit}
use Rattle.answer.specs.declared.Answer.{Answer}
use Rattle.settings.specs.declared.DecodeSettings.{DecodeSettings}
use Rattle.settings.specs.Settings.{settings_of}
use Rattle.by_unit.specs.declared.stand.Stand.{Stand}
use Rattle.by_unit.specs.declared.stand.Stand.TheVariants.{Between, InLine, InRun}
use Rattle.by_unit.specs.declared.stand.Kept.{Kept}
use Rattle.by_unit.specs.declared.stand.Out.{Out}
use Rattle.by_unit.specs.declared.stand.Out.TheVariants.{More, Done}
use Rattle.by_unit.specs.Standing.{keeping_of, going_at, KeptIn, StandIn, Asked, answer_of, Told, Comes, Settling, Settles}
use Rattle.swift_units.specs.Counted.{Leads}
use Rattle.swift_units.proofs.Counting.{steps-led}
use Rattle.by_unit.specs.declared.take.TakenUnits.{TakenUnits}
use Rattle.by_unit.specs.OneUnit.{UnitFrom, SomeGive}
use Rattle.by_unit.specs.Taking.{TakeFrom, Takes}
use Rattle.by_unit.proofs.Leaves.{Behind, leaves-then}
use Rattle.by_unit.proofs.Closing.{none-behind, placed-ends, placed-marks, settles}

-- ---- Told behind rows that were kept

-- a page told by itself is told behind them
told-behind : (bytes : List ℕ) (width rows base : ℕ) (k : Keeping) → Behind rows base k → (xs es ms : List ℕ) (o : Rule.Out Going Page.Answer) (r : Out)
    → Told bytes width k.count k.base xs es ms o r → Told bytes width rows base xs es ms (out_behind k.rows k.marks o) r
told-behind bytes width rows base k b xs es ms (more g) (More n s seen) t = record {
  is = t.is;
  rows_are = omega (arith, t.rows_are, b.rows_are, length-append k.rows g.keeping.rows);
  entries_are = omega (arith, t.entries_are, b.entries_are, entries-append k.rows g.keeping.rows);
  kept = t.kept;
  stand = t.stand;
  settled = t.settled;
}
told-behind bytes width rows base k b xs es ms (done a) (Done r) t = record {
  answer = t.answer ∙ (λ i. answer_of (says a.number a.place a.bytes (rows_are i) (entries_are i) (length a.loose)));
  listed = t.listed;
  allowed = t.allowed;
}
  where
    rows_are : k.count + length a.rows ≡ rows + length (k.rows ++ a.rows)
    rows_are = omega (arith, b.rows_are, length-append k.rows a.rows)

    entries_are : k.base + entries a.rows ≡ base + entries (k.rows ++ a.rows)
    entries_are = omega (arith, b.entries_are, entries-append k.rows a.rows)
told-behind bytes width rows base k b xs es ms (more g) (Done r) t = absurd t
told-behind bytes width rows base k b xs es ms (done a) (More n s seen) t = absurd t

module _ {bytes : List ℕ} {settings : DecodeSettings} {xs es ms : List ℕ} {k : Kept} {s : Stand} (from : TakeFrom bytes settings xs es ms k s) (n : ℕ) where
  abbrev S : Settings
  S = settings_of settings

  abbrev bs : List Bool
  bs = bits_of bytes

  abbrev width : ℕ
  width = settings.columns

  abbrev places : ℕ
  places = places_in es ms

  abbrev one : Going → Rule.Out Going Page.Answer
  one = unit S bs (length xs) places

  abbrev begin : Rule.Out Going Page.Answer
  begin = settle S bs (length xs) places (going_at xs k s)

  -- a row more is counted
  pub with_row : (K : Keeping) (r : List ℕ) (mark : ℕ) → Behind k.rows k.base K → Behind k.rows k.base (keeps S bs (length xs) places K r mark)
  with_row K r mark b = record {
    rows_are = omega (arith, b.rows_are, length-append K.rows (r ∷ []));
    entries_are = omega (arith, b.entries_are, entries-snoc K.rows r);
    marks_are = omega (arith, b.marks_are, length-append K.marks (mark ∷ []), length-append K.rows (r ∷ []));
  }

  abbrev BehindOut : Rule.Out Going Page.Answer → Type 0
  BehindOut o = InvOut S bs (length xs) places (Behind k.rows k.base) with_row o

  abbrev ComesTo : Rule.Out Going Page.Answer → Out → List ℕ → List ℕ → List ℕ → Type 0
  ComesTo o r ys fs ns = Comes bytes width k.rows k.base xs es ms o r ys fs ns

  -- rows before those that were kept stay in front of them
  steps-framed : (rs : List (List ℕ)) (ms' : List ℕ) {o p : Rule.Out Going Page.Answer} {m : ℕ} → Steps one o m p → Steps one (out_behind rs ms' o) m (out_behind rs ms' p)
  steps-framed rs ms' here = here
  steps-framed rs ms' {p = p} {m = m} (there {s = g} {n = i} h) =
      there (subst (λ (o : Rule.Out Going Page.Answer). Steps one o i (out_behind rs ms' p)) (sym (unit-frame S bs (length xs) places rs ms' g.keeping g.stand)) (steps-framed rs ms' h))

  -- what holds of the rows kept stays so
  steps-inv : {o p : Rule.Out Going Page.Answer} {m : ℕ} → Steps one o m p → BehindOut o → BehindOut p
  steps-inv here b = b
  steps-inv (there {s = g} h) b = steps-inv h (inv-unit S bs (length xs) places (Behind k.rows k.base) with_row g.keeping g.stand b)

  -- and entries never become fewer
  steps-size : {o p : Rule.Out Going Page.Answer} {m : ℕ} → Steps one o m p → size_of S bs (length xs) places o ≤ size_of S bs (length xs) places p
  steps-size here = omega arith
  steps-size (there {s = g} h) = omega (arith, size-unit S bs (length xs) places g.keeping g.stand, steps-size h)

  -- so many are left, and the others led here
  pub record Running (left : ℕ) (out : Out) (ys fs ns : List ℕ) : Type 0 where
    pub few : left ≤ n
    pub o : Rule.Out Going Page.Answer
    pub steps : Steps one begin (n - left) o
    pub comes : ComesTo o out ys fs ns
    pub behind : BehindOut o

  pub running-new : (r : Out) (fs ns : List ℕ) → Settles bytes settings es ms k s 0 r fs ns → Running n r xs fs ns
  running-new r fs ns c = record {
    few = omega arith;
    o = begin;
    steps = subst (λ (i : ℕ). Steps one begin i begin) (let z : 0 ≡ n - n = omega arith in z) here;
    comes = settles bytes settings from.asked xs es ms k from.kept s 0 from.stand r fs ns c;
    behind = inv-settle S bs (length xs) places (Behind k.rows k.base) with_row (keeping_of xs k) (going_at xs k s).stand (none-behind bytes settings from.asked xs es ms k from.kept);
  }

  -- ---- Another unit

  module _ {left : ℕ} {out : Out} {ys fs ns : List ℕ} (u : Running left out ys fs ns) {k' : Kept} {s' : Stand} {seen : ℕ} (e : out ≡ More k' s' seen) where
    -- what it asks holds
    pub running-asks : UnitFrom bytes settings ys fs ns k' s' seen
    running-asks = cases u.o (subst (Told bytes width k.rows k.base ys fs ns u.o) e u.comes.told)
      where
        cases : (o : Rule.Out Going Page.Answer) → Told bytes width k.rows k.base ys fs ns o (More k' s' seen) → UnitFrom bytes settings ys fs ns k' s' seen
        cases (more g) t = record { asked = from.asked; kept = t.kept; stand = t.stand; settled = t.settled }
        cases (done a) t = absurd t

    pub running-units : (r : TakenUnits) (zs gs hs : List ℕ) → SomeGive bytes settings ys fs ns k' s' left r zs gs hs → Running (left - r.units) r.out zs gs hs
    running-units r zs gs hs d = cases u.o u.steps (subst (λ (x : Out). ComesTo u.o x ys fs ns) e u.comes) u.behind
      where
        cases : (o : Rule.Out Going Page.Answer) → Steps one begin (n - left) o → ComesTo o (More k' s' seen) ys fs ns → BehindOut o → Running (left - r.units) r.out zs gs hs
        cases (done a) st c b = absurd c.told
        cases (more g) st c b = record {
          few = omega (arith, u.few);
          o = out_behind K.rows K.marks o';
          steps = subst (λ (i : ℕ). Steps one begin i (out_behind K.rows K.marks o')) (let f = u.few in let m = d.few in let z : n - left + r.units ≡ n - (left - r.units) = omega arith in z) (steps-add st framed);
          comes = record {
            told = told-behind bytes width k.rows k.base K b zs gs hs o' r.out there'.told;
            leaves =
                leaves-then from.kept.held (placed-ends bytes settings from.asked xs es ms k from.kept) (placed-marks bytes settings from.asked xs es ms k from.kept) c.leaves b there'.leaves longer;
          };
          behind = steps-inv framed b;
        }
          where
            K : Keeping
            K = g.keeping

            o' : Rule.Out Going Page.Answer
            o' = d.gives.outcome

            is : going_at ys k' s' ≡ anew g
            is = c.told.is

            same-places : places_in fs ns ≡ places
            same-places = ap₂ min c.leaves.ends_long c.leaves.marks_long

            -- the units, from the state that the arrays stand for
            led : Steps one (more (anew g)) r.units o'
            led =
                let l = d.gives.leads in
                let m = subst (λ (i : ℕ). Leads S bs i (places_in fs ns) (more (going_at ys k' s')) r.units o') c.leaves.changes_long l in
                let p = subst (λ (i : ℕ). Leads S bs (length xs) i (more (going_at ys k' s')) r.units o') same-places m in
                let q = subst (λ (h : Going). Leads S bs (length xs) places (more h) r.units o') is p in
                steps-led r.units (more (anew g)) o' q.0 q.1

            -- the rows kept before stay in front
            framed : Steps one (more g) r.units (out_behind K.rows K.marks o')
            framed =
                subst (λ (h : Going). Steps one (more h) r.units (out_behind K.rows K.marks o'))
                (λ i. going (record { count = K.count; base = K.base; reference = K.reference; rows = append-nil K.rows i; marks = append-nil K.marks i }) g.stand)
                (steps-framed K.rows K.marks led)

            there' : Comes bytes width K.count K.base ys fs ns o' r.out zs gs hs
            there' = subst (λ (h : Going). Comes bytes width h.keeping.count h.keeping.base ys fs ns o' r.out zs gs hs) is d.gives.comes

            larger : {m : ℕ} → entries [] + length (loose_of g.stand) ≤ m → length (loose_of g.stand) ≤ m
            larger h = omega (arith, h)

            longer : length (loose_of g.stand) ≤ entries (so_far o').rows + length (so_far o').loose
            longer = larger (steps-size led)

  -- ---- The end

  module _ {left : ℕ} {out : Out} {ys fs ns : List ℕ} (u : Running left out ys fs ns) where
    -- no array became longer or shorter
    pub running-long : (length ys ≡ length xs) × (length fs ≡ length es) × (length ns ≡ length ms)
    running-long = (u.comes.leaves.changes_long, u.comes.leaves.ends_long, u.comes.leaves.marks_long)

    -- the page's
    pub running-done : {a : Answer} → out ≡ Done a → Takes bytes settings xs es ms k s n (record { out = out; units = n - left }) ys fs ns
    unfolding call taken
    running-done {a} e = cases u.o u.steps u.comes (subst (Told bytes width k.rows k.base ys fs ns u.o) e u.comes.told)
      where
        cases : (o : Rule.Out Going Page.Answer) → Steps one begin (n - left) o → ComesTo o out ys fs ns → Told bytes width k.rows k.base ys fs ns o (Done a) → Takes bytes settings xs es ms k s n (record { out = out; units = n - left }) ys fs ns
        cases (more g) st c t = absurd t
        cases (done b) st c t =
            let over = steps-over n (let z : n - left ≤ n = omega arith in z) st in
            record { comes = subst (λ (o : Rule.Out Going Page.Answer). ComesTo o out ys fs ns) (sym over.0) c; units = sym over.1 }

    -- or the call's
    pub running-over : left ≡ 0 → Takes bytes settings xs es ms k s n (record { out = out; units = n - left }) ys fs ns
    unfolding call taken
    running-over e =
        let st : Steps one begin n u.o = subst (λ (i : ℕ). Steps one begin i u.o) (let z : n - left ≡ n = omega arith in z) u.steps in
        let whole = steps-run st in
        record { comes = subst (λ (o : Rule.Out Going Page.Answer). ComesTo o out ys fs ns) (sym whole.0) u.comes; units = (let z : n - left ≡ n = omega arith in z) ∙ sym whole.1 }

-- ---- What closing asks

-- holds of any state that passed the tests
pub settling : {bytes : List ℕ} {settings : DecodeSettings} {xs es ms : List ℕ} {k : Kept} → (Asked bytes settings) × (KeptIn settings.columns xs es ms k) → length xs < 18446744073709551616 → (s : Stand) (seen : ℕ) → StandIn bytes settings.columns xs k seen s → Settling bytes k s
settling f long (Between e) seen h = (f.0.size, h)
settling {xs = xs} {k = k} f long (InLine l at) seen h = record { size = f.0.size; inside = h.inside; fits = omega (arith, h.holds.held, length-drop k.base xs, f.1.held); flagged = h.holds.flagged }
settling f long (InRun m l from total at) seen h = tt
