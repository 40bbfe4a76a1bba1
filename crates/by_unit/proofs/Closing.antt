-- Closing a row or the page: what the code makes of it is what the rules make of the reading. Assumes nothing.
use mathlib.Core.Path.{◌≡◌, refl, sym, ap, ap₂, ◌∙◌, subst}
use mathlib.Core.Logic.{⊎_elim}
use mathlib.Core.Bool.{Bool, true, false, cond}
use mathlib.Core.List.{List, [], ◌∷◌, ◌++◌, append-nil}
use mathlib.Core.Option.{Option, none, some}
use Prim.Native.Nat.{ℕ, zero, suc, ◌+◌, ◌-◌, ◌*◌, ◌≤◌, ◌<◌, min}
use native.Mathlib.Nat.{min-le_left, min-le_right}
use native.Mathlib.Numerals.{add-one}
use native.Mathlib.Omega.{arith}
use lib.Dec.{eqb, ltb}
use lib.ListN.{length, take, drop, set, length-drop, length-set}
use lib.Seq.{length-take-le}
use borrow.Author.Tests.{ltb-true, eqb-false}
use Rattle.rules.specs.Machine as Rule
use Rattle.rules.specs.Machine.{more}
use Rattle.rules.specs.Bits.{bits_of}
use Rattle.rules.specs.Lines.{new_line, right_of_a0}
use Rattle.rules.specs.Lines as Lines
use Rattle.rules.specs.Eols as Eol
use Rattle.rules.specs.Eols.{eols_to}
use Rattle.rules.specs.Rows.{Settings, read_mark, bytes_to, aligned_if}
use Rattle.rules.specs.Group4.{over}
use Rattle.rules.specs.Pages as Page
use Rattle.rules.specs.Pages.{entries, joined, ends_from, places_in}
use Rattle.rules.specs.InSteps.{says}
use Rattle.rules.specs.Units.{between, in_line, Keeping, Going, going, so_far, next_eol, line_or_over, over_at, eol_or_line, between_rows, keeps, close_row, broken, settle}
use Rattle.rules.specs.ByUnit.{part, said_behind, overlaid_from}
use Rattle.rules.specs.Rising.{Rising}
use Rattle.rules.proofs.Ascending.{rises-wider}
use Rattle.rules.proofs.Bits.{length-bits_of}
use Rattle.rules.proofs.Budget.{whole-bytes, aligned-ahead}
use Rattle.codes.specs.declared.eol.Eols.{Eols}
use Rattle.codes.specs.Eols.{eols_of}
use Rattle.context.specs.declared.line.Line.{Line}
use Rattle.context.specs.State.{line_at, new_for, flag_of}
use Rattle.context.proofs.Search.{passed_none}
use Rattle.settings.specs.declared.DecodeSettings.{DecodeSettings}
use Rattle.settings.specs.Settings.{settings_of}
use Rattle.by_unit.specs.declared.stand.Stand.{Stand}
use Rattle.by_unit.specs.declared.stand.Stand.TheVariants.{Between, InLine, InRun}
use Rattle.by_unit.specs.declared.stand.Kept.{Kept}
use Rattle.by_unit.specs.declared.stand.Out.{Out}
use Rattle.by_unit.specs.declared.stand.Out.TheVariants.{More}
use Rattle.by_unit.specs.Standing.{keeping_of, going_at, KeptIn, LineIn, StandIn, Asked, answer_of, Leaves, Told, Comes, next_of, over_for, done_for, line_or_over_for, eol_or_line_for, between_for, kept_for, eols_at, close_for, put_if, Closes, SettlesLine, Settles}
use Rattle.by_unit.proofs.Leaves.{from-none, from-same, from_one, Behind}

-- a keeping without its own rows
abbrev pub anew_keeping : Keeping → Keeping
anew_keeping k = record { count = k.count; base = k.base; reference = k.reference; rows = []; marks = [] }

module _ (bytes : List ℕ) (settings : DecodeSettings) (asked : Asked bytes settings) where
  abbrev S : Settings
  S = settings_of settings

  abbrev bs : List Bool
  bs = bits_of bytes

  abbrev width : ℕ
  width = settings.columns

  -- ---- Between rows

  -- what is said of a page that ends behind rows that were kept
  pub said-behind : (rows base : ℕ) (K : Keeping) (k : Kept) (n place b : ℕ) (loose : List ℕ) → k.rows ≡ K.count → k.base ≡ K.base → Behind rows base K
      → answer_of (says n place b k.rows k.base (length loose)) ≡ answer_of (said_behind rows base (record { number = n; place = place; bytes = b; rows = K.rows; marks = K.marks; loose = loose }))
  said-behind rows base K k n place b loose p q h =
      λ i. answer_of (says n place b ((p ∙ h.rows_are) i) ((q ∙ h.entries_are) i) (length loose))

  module _ (store places rows base : ℕ) (xs es ms : List ℕ) (K : Keeping) (k : Kept) (same : keeping_of xs k ≡ anew_keeping K) (behind : Behind rows base K) (kept : KeptIn width xs es ms k) where
    rows_same : k.rows ≡ K.count
    rows_same = ap (λ (x : Keeping). x.count) same

    base_same : k.base ≡ K.base
    base_same = ap (λ (x : Keeping). x.base) same

    -- a line that begins
    new_in : (at : ℕ) → at ≤ 8 * length bytes → LineIn bytes width xs k (new_for width) at 0
    new_in at h = record {
      inside = h;
      width_is = refl;
      holds = record { narrow = asked.narrow; fits = omega arith; held = omega arith; coloured = omega arith; flagged = omega arith };
      rising = Rising.none;
      passed = passed_none (right_of_a0 0) (part k.start k.base xs);
    }

    pub between-told : (e : Eols) → e.at ≤ 8 * length bytes → Told bytes width rows base xs es ms (between_rows S bs store places K (eols_of e)) (between_for bytes settings k e)
    between-told e h = cases (next_of bytes settings e)
      where
        over-same : over_for bytes settings k e ≡ over_at S bs store places K (eols_of e)
        over-same = ap (λ (n : ℕ). over S bs (record { at = e.at; reference = []; count = n; eols = false }) (eols_of e)) rows_same

        begins : (b : Bool) → Told bytes width rows base xs es ms (line_or_over S bs store places K (eols_of e) b) (line_or_over_for settings k e b)
        begins true = record {
          answer = said-behind rows base K k 0 0 (bytes_to e.at) [] rows_same base_same behind;
          listed = omega arith;
          allowed = record { no_bytes = λ h. absurd (h refl); no_place = λ h. refl; no_loose = λ h. refl };
        }
        begins false = record {
          is = ap (λ (x : Keeping). going x (in_line (new_line e.at))) same;
          rows_are = rows_same ∙ behind.rows_are;
          entries_are = base_same ∙ behind.entries_are;
          kept = kept;
          stand = new_in e.at h;
          settled = asked.wide;
        }

        cases : (o : Option ℕ) → Told bytes width rows base xs es ms (eol_or_line S bs store places K (eols_of e) o) (eol_or_line_for bytes settings k e o)
        cases (some a) = record { is = ap (λ (x : Keeping). going x (between (eols_of e))) same; rows_are = rows_same ∙ behind.rows_are; entries_are = base_same ∙ behind.entries_are; kept = kept; stand = h; settled = tt }
        cases none = subst (λ (b : Bool). Told bytes width rows base xs es ms (line_or_over S bs store places K (eols_of e) (over_at S bs store places K (eols_of e))) (line_or_over_for settings k e b)) (sym over-same) (begins (over_at S bs store places K (eols_of e)))

  -- it keeps no row, and leaves no change loose
  module _ (store places : ℕ) (K : Keeping) (e : Eol.Eols) (C : List (List ℕ) → List ℕ → List ℕ → Type 0) (c : C K.rows K.marks []) where
    abbrev SoFar : Rule.Out Going Page.Answer → Type 0
    SoFar o = C (so_far o).rows (so_far o).marks (so_far o).loose

    pub between-keeps : SoFar (between_rows S bs store places K e)
    between-keeps = cases (next_eol S bs store places e)
      where
        begins : (b : Bool) → SoFar (line_or_over S bs store places K e b)
        begins true = c
        begins false = c

        cases : (o : Option ℕ) → SoFar (eol_or_line S bs store places K e o)
        cases (some a) = c
        cases none = begins (over_at S bs store places K e)

  -- ---- A reading with no rows of its own

  module _ (xs es ms : List ℕ) (k : Kept) (kept : KeptIn width xs es ms k) where
    abbrev K : Keeping
    K = keeping_of xs k

    abbrev places : ℕ
    places = places_in es ms

    abbrev ComesTo : Rule.Out Going Page.Answer → Out → List ℕ → List ℕ → Type 0
    ComesTo o r fs ns = Comes bytes width k.rows k.base xs es ms o r xs fs ns

    pub none-behind : Behind k.rows k.base K
    unfolding entries
    none-behind = record { rows_are = omega arith; entries_are = omega arith; marks_are = refl }

    pub placed-ends : k.rows ≤ length es
    placed-ends = omega (arith, kept.placed, min-le_left (length es) (length ms))

    pub placed-marks : k.rows ≤ length ms
    placed-marks = omega (arith, kept.placed, min-le_right (length es) (length ms))

    -- nothing is written
    pub leaves_none : (o : Rule.Out Going Page.Answer) → (so_far o).rows ≡ [] → (so_far o).marks ≡ [] → xs ≡ overlaid_from k.base (so_far o).loose xs → Leaves k.rows k.base xs es ms o xs es ms
    unfolding joined ends_from
    leaves_none o p q e = record {
      changes = e ∙ ap (λ (l : List (List ℕ)). overlaid_from k.base (joined l ++ (so_far o).loose) xs) (sym p);
      ends = from-none k.rows es placed-ends ∙ ap (λ (l : List (List ℕ)). overlaid_from k.rows (ends_from k.base l) es) (sym p);
      marks = from-none k.rows ms placed-marks ∙ ap (λ (l : List ℕ). overlaid_from k.rows l ms) (sym q);
      changes_long = refl;
      ends_long = refl;
      marks_long = refl;
    }

    pub between-comes : (e : Eols) → e.at ≤ 8 * length bytes → ComesTo (between_rows S bs (length xs) places K (eols_of e)) (between_for bytes settings k e) es ms
    between-comes e h = record {
      told = between-told (length xs) places k.rows k.base xs es ms K k refl none-behind kept e h;
      leaves =
          leaves_none (between_rows S bs (length xs) places K (eols_of e))
          (between-keeps (length xs) places K (eols_of e) (λ rs marks loose. rs ≡ []) refl)
          (between-keeps (length xs) places K (eols_of e) (λ rs marks loose. marks ≡ []) refl)
          (between-keeps (length xs) places K (eols_of e) (λ rs marks loose. xs ≡ overlaid_from k.base loose xs) (from-none k.base xs kept.held));
    }

    -- ---- A line that is complete

    module _ (l : Line) (at seen : ℕ) (line : LineIn bytes width xs k l at seen) where
      abbrev L : Lines.Line
      L = line_at at (drop k.base xs) l

      abbrev room : Bool
      room = ltb k.rows places

      held : k.base + l.changes ≤ length xs
      held = omega (arith, line.holds.held, length-drop k.base xs, kept.held)

      pub sized : length L.changes ≡ l.changes
      sized = length-take-le l.changes (drop k.base xs) line.holds.held

      marked : l.cut ≡ read_mark L
      marked = cases l.cut line.holds.flagged
        where
          cases : (n : ℕ) → n ≤ 1 → n ≡ cond (flag_of n) 1 0
          cases zero h = refl
          cases (suc zero) h = refl
          cases (suc (suc n)) h = absurd (omega arith)

      pub as-left : xs ≡ overlaid_from k.base L.changes xs
      as-left = from-same k.base xs kept.held l.changes held

      -- the line goes on
      pub line_stays : l.position < l.width → ComesTo (more (going K (in_line L))) (More k (InLine l at) seen) es ms
      line_stays short = record {
        told = record { is = refl; rows_are = none-behind.rows_are; entries_are = none-behind.entries_are; kept = kept; stand = line; settled = short };
        leaves = leaves_none (more (going K (in_line L))) refl refl as-left;
      }

      -- 5
      no_place : ComesTo (broken S bs (length xs) places K 5 0 L) (done_for 5 0 0 k l.changes) es ms
      no_place = record {
        told = record {
          answer = ap (λ (n : ℕ). answer_of (says 5 0 0 k.rows k.base n)) (sym sized) ∙ said-behind k.rows k.base K k 5 0 0 L.changes refl refl none-behind;
          listed = omega arith;
          allowed = record { no_bytes = λ h. refl; no_place = λ h. refl; no_loose = ⊎_elim (λ h. absurd (omega arith)) (λ h. absurd (omega arith)) };
        };
        leaves = leaves_none (broken S bs (length xs) places K 5 0 L) refl refl as-left;
      }

      -- the row is kept
      abbrev K' : Keeping
      K' = keeps S bs (length xs) places K L.changes (read_mark L)

      abbrev k' : Kept
      k' = kept_for k l

      row_kept : k.rows < places → ComesTo (between_rows S bs (length xs) places K' (eols_to 0 (aligned_if S.aligned at))) (between_for bytes settings k' (eols_at 0 (aligned_if S.aligned at))) (set es k.rows (k.base + l.changes)) (set ms k.rows l.cut)
      unfolding joined ends_from entries
      row_kept r = record {
        told = between-told (length xs) places k.rows k.base xs es' ms' K' k' same behind kept' (eols_at 0 (aligned_if S.aligned at)) inside';
        leaves = record {
          changes = between-keeps (length xs) places K' e (λ rs marks loose. xs ≡ overlaid_from k.base (joined rs ++ loose) xs) (as-left ∙ ap (λ (l : List ℕ). overlaid_from k.base l xs) (sym (append-nil (L.changes ++ []) ∙ append-nil L.changes)));
          ends = between-keeps (length xs) places K' e (λ rs marks loose. es' ≡ overlaid_from k.rows (ends_from k.base rs) es)
              (from_one k.rows es (k.base + l.changes) (omega (arith, min-le_left (length es) (length ms))) ∙ ap (λ (n : ℕ). overlaid_from k.rows ((k.base + n) ∷ []) es) (sym sized));
          marks = between-keeps (length xs) places K' e (λ rs marks loose. ms' ≡ overlaid_from k.rows marks ms)
              (from_one k.rows ms l.cut (omega (arith, min-le_right (length es) (length ms))) ∙ ap (λ (n : ℕ). overlaid_from k.rows (n ∷ []) ms) marked);
          changes_long = refl;
          ends_long = length-set es k.rows (k.base + l.changes);
          marks_long = length-set ms k.rows l.cut;
        };
      }
        where
          es' : List ℕ
          es' = set es k.rows (k.base + l.changes)

          ms' : List ℕ
          ms' = set ms k.rows l.cut

          e : Eol.Eols
          e = eols_to 0 (aligned_if S.aligned at)

          inside' : aligned_if S.aligned at ≤ 8 * length bytes
          inside' = omega (arith, (aligned-ahead bs (whole-bytes bytes) S.aligned at).1 (omega (arith, line.inside, length-bits_of bytes)), length-bits_of bytes)

          next-part : part k.base (k.base + l.changes) xs ≡ L.changes
          next-part = ap (λ (n : ℕ). take n (drop k.base xs)) (let z : k.base + l.changes - k.base ≡ l.changes = omega arith in z)

          same : keeping_of xs k' ≡ anew_keeping K'
          same = λ i. record { count = add-one k.rows i; base = k.base + sym sized i; reference = next-part i; rows = []; marks = [] }

          behind : Behind k.rows k.base K'
          behind = record { rows_are = omega arith; entries_are = omega arith; marks_are = refl }

          kept' : KeptIn width xs es' ms' k'
          kept' = record {
            ordered = omega arith;
            held = held;
            placed = omega (arith, ap₂ min (length-set es k.rows (k.base + l.changes)) (length-set ms k.rows l.cut));
            rising = subst (Rising width 0) (sym next-part) (rises-wider (omega (arith, line.holds.fits, line.width_is)) line.rising);
          }

      pub line-closes : (r : Out) (fs ns : List ℕ) → Closes bytes settings es ms k l at r fs ns → ComesTo (close_row S bs (length xs) places K L) r fs ns
      line-closes r fs ns c = cases room refl c.answer c.ends c.marks
        where
          cases : (b : Bool) → room ≡ b → r ≡ close_for bytes settings k l at b → fs ≡ put_if b k.rows (k.base + l.changes) es → ns ≡ put_if b k.rows l.cut ms
              → ComesTo (cond b (between_rows S bs (length xs) places K' (eols_to 0 (aligned_if S.aligned at))) (broken S bs (length xs) places K 5 0 L)) r fs ns
          cases true q a p m = rw (a, p, m) (row_kept (ltb-true _ _ q))
          cases false q a p m = rw (a, p, m) no_place

      pub line-settles : (r : Out) (fs ns : List ℕ) → SettlesLine bytes settings es ms k l at seen r fs ns (eqb l.position width) → ComesTo (settle S bs (length xs) places (going K (in_line L))) r fs ns
      unfolding settle
      line-settles r fs ns s = cases (eqb l.position width) refl s
        where
          cases : (b : Bool) → eqb l.position width ≡ b → SettlesLine bytes settings es ms k l at seen r fs ns b → ComesTo (cond b (close_row S bs (length xs) places K L) (more (going K (in_line L)))) r fs ns
          cases true q c = line-closes r fs ns c
          cases false q c = rw (c.answer, c.ends, c.marks) (line_stays (let n : l.position ≡ width → ⊥ = eqb-false _ _ q in omega (arith, n, line.holds.fits, line.width_is)))

    -- ---- Any stand

    pub settles : (s : Stand) (seen : ℕ) → StandIn bytes width xs k seen s → (r : Out) (fs ns : List ℕ) → Settles bytes settings es ms k s seen r fs ns
        → ComesTo (settle S bs (length xs) places (going_at xs k s)) r fs ns
    unfolding settle
    settles (Between e) seen h r fs ns c = rw (c.answer, c.ends, c.marks) (between-comes e h)
    settles (InLine l at) seen h r fs ns c = line-settles l at seen h r fs ns c
    settles (InRun half l from total at) seen h r fs ns c = rw (c.answer, c.ends, c.marks) (record {
      told = record { is = refl; rows_are = none-behind.rows_are; entries_are = none-behind.entries_are; kept = kept; stand = h; settled = tt };
      leaves = leaves_none (more (going_at xs k (InRun half l from total at))) refl refl (from-same k.base xs kept.held l.changes (omega (arith, h.holds.held, length-drop k.base xs, kept.held)));
    })
