-- The swift units of a line: what they ask, what closing behind them asks, and that they come to the units of the rules. Assumes nothing.
use mathlib.Core.Path.{◌≡◌, refl, sym, ap, ◌∙◌, subst}
use mathlib.Core.Bool.{Bool, cond}
use mathlib.Core.List.{List, [], ◌++◌}
use Prim.Native.Nat.{ℕ, ◌-◌, ◌%◌, ◌≤◌, ◌<◌}
use native.Mathlib.Omega.{arith}
use lib.ListN.{length, get_or, take, drop, length-drop, take-append-drop}
use lib.Seq.{length-take-le}
use borrow.Author.Tests.{ne_eqb}
use Rattle.std.specs.Prelude.{Ok}
use Rattle.rules.specs.Machine as Rule
use Rattle.rules.specs.Machine.{more}
use Rattle.rules.specs.Bits.{bits_of}
use Rattle.rules.specs.Lines as Lines
use Rattle.rules.specs.Lines.{went, right_of_a0}
use Rattle.rules.specs.Pages as Page
use Rattle.rules.specs.Pages.{places_in}
use Rattle.rules.specs.Rising.{Rising}
use Rattle.rules.specs.Rows.{Settings}
use Rattle.rules.specs.Units.{in_line, Keeping, Going, going, close_row, settle, unit}
use Rattle.rules.specs.ByUnit.{part, overlaid_from}
use Rattle.rules.proofs.Bits.{length-bits_of}
use Rattle.rules.proofs.Grows.{Grows}
use Rattle.rules.proofs.Paced.{here, there, steps-run}
use Rattle.tables.specs.Tables.{colour_of}
use Rattle.context.specs.declared.line.Line.{Line}
use Rattle.context.specs.declared.reference.Reference.TheVariants.{Kept}
use Rattle.context.specs.State.{line_at, line_for, flag_of, Holds}
use Rattle.context.specs.Coding.{reference_in}
use Rattle.context.specs.Places.{B1At}
use Rattle.context.specs.Reference.{Passed}
use Rattle.context.proofs.Placing.{before_at}
use Rattle.context.proofs.Search.{right-more, head_at}
use Rattle.context.proofs.State.{line-for}
use Rattle.settings.specs.declared.DecodeSettings.{DecodeSettings}
use Rattle.settings.specs.Settings.{settings_of}
use Rattle.swift_loops.specs.Swift.{line_of, Walks}
use Rattle.swift_loops.proofs.Swiftly.{room-same}
use Rattle.swift_units.specs.declared.UnitsLeft.{UnitsLeft}
use Rattle.swift_units.specs.Counted.{Leads, CountedIn}
use Rattle.by_unit.specs.declared.stand.Stand.{Stand}
use Rattle.by_unit.specs.declared.stand.Stand.TheVariants.{InLine}
use Rattle.by_unit.specs.declared.stand.Kept as Stood
use Rattle.by_unit.specs.declared.stand.Out.{Out}
use Rattle.by_unit.specs.Standing.{keeping_of, going_at, LineIn, Comes, Closing, Settles}
use Rattle.by_unit.specs.OneUnit.{UnitFrom, UnitGives, SomeGive}
use Rattle.by_unit.specs.Swift.{SwiftFrom, stand_at, SwiftTook}
use Rattle.by_unit.proofs.Units.{L, R, code-comes}

-- ---- The line before them

-- where the change before a guess is passed, so are those before it
pub guess-passed : {reference : List ℕ} {width position guess : ℕ} → Rising width 0 reference → 0 < guess → guess ≤ length reference
    → (position ≡ 0 → ⊥) → get_or reference (guess - 1) 0 ≤ position → Passed (right_of_a0 position) guess reference
guess-passed {reference} {width = width} {position = position} {guess = guess} rising more' inside begun left = record {
  inside = inside;
  each = λ i h.
      omega (
        arith,
        before_at rising i (guess - 1) 0 (omega arith) (omega arith) (omega arith),
        head_at width reference (guess - 1) (omega arith),
        right-more position begun,
        left,
      );
}

module _ {bytes xs : List ℕ} {start base : ℕ} {l : Line} {at seen : ℕ} (h : SwiftFrom bytes xs start base l at seen) where
  pub swift-walks : {place : ℕ} → B1At (reference_in (Kept start) base [] xs) l.position l.colour place
      → Walks bytes (Kept start) [] xs base l.width (stand_at l at place)
  swift-walks b = record {
    loading = h.loading;
    placed = h.placed;
    narrow = h.holds.narrow;
    rising = h.rising;
    stands = record { fits = h.holds.fits; held = h.holds.held; seen = b.seen; near = omega (arith, b.near) };
  }

-- ---- One unit, told as some

pub one-gives : (bytes : List ℕ) (settings : DecodeSettings) (xs es ms : List ℕ) (k : Stood.Kept) (s : Stand) (r : Out) (ys fs ns : List ℕ)
    → UnitGives bytes settings xs es ms k s r ys fs ns → (left : ℕ) → 0 < left → SomeGive bytes settings xs es ms k s left (record { out = r; units = 1 }) ys fs ns
one-gives bytes settings xs es ms k s r ys fs ns c left h = record {
  some = omega arith;
  few = h;
  gives = record {
    outcome = unit (settings_of settings) (bits_of bytes) (length xs) (places_in es ms) (going_at xs k s);
    leads = steps-run (there here);
    comes = c;
  };
}

module _ (bytes : List ℕ) (settings : DecodeSettings) (xs es ms : List ℕ) (k : Stood.Kept) (l : Line) (at seen : ℕ) (u : UnitFrom bytes settings xs es ms k (InLine l at) seen) where
  abbrev S : Settings
  S = settings_of settings

  abbrev bs : List Bool
  bs = bits_of bytes

  abbrev places : ℕ
  places = places_in es ms

  abbrev K : Keeping
  K = keeping_of xs k

  abbrev row : List ℕ
  row = drop k.base xs

  line : LineIn bytes settings.columns xs k l at seen
  line = u.stand

  pub swift-asks : SwiftFrom bytes xs k.start k.base l at seen
  swift-asks = record {
    loading = record { size = u.asked.size; inside = line.inside };
    placed = (u.kept.ordered, u.kept.held);
    rising = subst (λ (n : ℕ). Rising n 0 (part k.start k.base xs)) (sym line.width_is) u.kept.rising;
    holds = line.holds;
    passed = line.passed;
  }

  module _ {left : ℕ} {v : UnitsLeft} {ys : List ℕ} (took : SwiftTook bytes xs k.start k.base l at left v ys) where
    counted : CountedIn bytes k.start xs k.base l.width (stand_at l at took.place) (left - v.left) ys v.stand
    counted = took.spent.0

    -- none was taken
    module _ (none : v.left ≡ left) where
      pub none-asks : UnitFrom bytes settings ys es ms k (InLine l at) seen
      none-asks = subst (λ (zs : List ℕ). UnitFrom bytes settings zs es ms k (InLine l at) seen) (sym (took.spent.2 none)) u

      pub none-gives : (r : Out) (zs fs ns : List ℕ) → UnitGives bytes settings ys es ms k (InLine l at) r zs fs ns → 0 < left
          → SomeGive bytes settings xs es ms k (InLine l at) left (record { out = r; units = 1 }) zs fs ns
      none-gives r zs fs ns c h =
          one-gives bytes settings xs es ms k (InLine l at) r zs fs ns
          (subst (λ (ws : List ℕ). UnitGives bytes settings ws es ms k (InLine l at) r zs fs ns) (took.spent.2 none) c) left h

    -- ---- The line behind them

    abbrev next : Line
    next = line_of l.width v.stand l.cut

    abbrev T : Lines.Line
    T = line_at v.stand.at (drop k.base ys) next

    room-is : length (drop k.base ys) ≡ length (drop k.base xs)
    room-is = room-same k.base xs ys counted.walked.size

    pub swift-long : length ys ≡ length xs
    swift-long = counted.walked.size

    swift-holds : Holds (drop k.base ys) next
    swift-holds = record {
      narrow = line.holds.narrow;
      fits = counted.walked.stands.fits;
      held = omega (arith, counted.walked.stands.held, room-is);
      coloured = omega arith;
      flagged = line.holds.flagged;
    }

    pub swift-closing : length xs < 18446744073709551616 → Closing bytes k next v.stand.at
    swift-closing long = record {
      size = u.asked.size;
      inside = omega (arith, counted.walked.inside, length-bits_of bytes);
      fits = omega (arith, counted.walked.stands.held, length-drop k.base xs, u.kept.held);
      flagged = line.holds.flagged;
    }

    grows : Grows (R bytes settings u.asked xs es ms k u.kept l at seen line) (L bytes settings u.asked xs es ms k u.kept l at seen line at) T
    grows = record {
      longer = omega (arith, counted.walked.longer, length-take-le l.changes row line.holds.held, length-take-le v.stand.count (drop k.base ys) swift-holds.held);
      further = counted.further;
      fits = λ h. omega (arith, counted.walked.stands.fits, line.width_is);
      still = counted.still;
      roomy = λ h. omega (arith, counted.walked.stands.held, length-drop k.base xs, length-take-le v.stand.count (drop k.base ys) swift-holds.held);
      rises = counted.rises;
    }

    written : ys ≡ overlaid_from k.base T.changes xs
    written = sym (take-append-drop k.base ys) ∙ (λ i. counted.walked.front i ++ counted.walked.store i)

    swift-comes : (r : Out) (fs ns : List ℕ) → Settles bytes settings es ms k (InLine next v.stand.at) seen r fs ns
        → Comes bytes settings.columns k.rows k.base xs es ms (settle S bs (length xs) places (going K (in_line T))) r ys fs ns
    swift-comes r fs ns d =
        code-comes bytes settings u.asked xs es ms k u.kept l at seen line at (went T) grows counted.walked.inside (Ok (line_for settings.columns T, T.at)) refl ys written seen line.passed r fs ns
        (subst (λ (m : Line). Settles bytes settings es ms k (InLine m v.stand.at) seen r fs ns)
        (sym (ap (λ (n : ℕ). line_for n T) (sym line.width_is) ∙ line-for (drop k.base ys) next swift-holds v.stand.at)) d)

    -- before them nothing is to be closed
    open_is : (c : ℕ) → c ≡ l.colour
        → settle S bs (length xs) places (going K (in_line (Lines.line at l.position (colour_of c) (take l.changes row) (flag_of l.cut)))) ≡ more (going_at xs k (InLine l at))
    unfolding settle
    open_is c e =
        ap (λ (n : ℕ). settle S bs (length xs) places (going K (in_line (Lines.line at l.position (colour_of n) (take l.changes row) (flag_of l.cut))))) e
        ∙ ap (λ (b : Bool). cond b (close_row S bs (length xs) places K (line_at at row l)) (more (going_at xs k (InLine l at))))
        (ne_eqb l.position settings.columns (λ z. omega (arith, u.settled, line.width_is)))

    swift-leads : Leads S bs (length xs) places (more (going_at xs k (InLine l at))) (left - v.left) (settle S bs (length xs) places (going K (in_line T)))
    swift-leads =
        subst (λ (o : Rule.Out Going Page.Answer). Leads S bs (length xs) places o (left - v.left) (settle S bs (length xs) places (going K (in_line T)))) (open_is (took.place % 2) took.parity)
        (counted.leads S (length xs) places K (flag_of l.cut) (sym line.width_is) refl (sym (length-drop k.base xs)))

    pub swift-gives : (v.left ≡ left → ⊥) → (r : Out) (fs ns : List ℕ) → Settles bytes settings es ms k (InLine next v.stand.at) seen r fs ns
        → SomeGive bytes settings xs es ms k (InLine l at) left (record { out = r; units = left - v.left }) ys fs ns
    swift-gives some r fs ns d = record {
      some = omega (arith, took.spent.1, some);
      few = omega arith;
      gives = record { outcome = settle S bs (length xs) places (going K (in_line T)); leads = swift-leads; comes = swift-comes r fs ns d };
    }
