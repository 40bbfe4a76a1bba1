-- What holds of a page in units from any state that passes the tests of 8, also from one that no call handed back: the rows kept since ascend strictly
-- below the width, rows, entries and loose entries have their places, and a run's sum keeps its limit. Assumes nothing.
use mathlib.Core.Path.{◌≡◌, refl}
use mathlib.Core.Bool.{Bool, true, false, cond, ◌&&◌}
use mathlib.Core.List.{List, [], ◌∷◌, ◌++◌}
use mathlib.Core.Option.{Option, none, some}
use Prim.Native.Nat.{ℕ, suc, ◌+◌, ◌-◌, ◌≤◌, ◌<◌}
use native.Mathlib.Omega.{arith}
use lib.Dec.{eqb, leb, ltb}
use lib.ListN.{length, length-append}
use borrow.Author.Tests.{ltb-true}
use Rattle.rules.specs.Answers.{complete, invalid_code, no_entry, no_row_end, most_pixels}
use Rattle.rules.specs.Machine.{Out, more, done}
use Rattle.rules.specs.Runs.{Res, ok, fault, Sum, run_step}
use Rattle.rules.specs.Modes.{Mode, pass, horizontal, VR, VL, Moded, read_mode}
use Rattle.rules.specs.Lines.{Rules, Line, line, turned, moved_to, with_cut, Went, went, failed, next, line_in, recorded, add, push, push_turn, after_run, b1, vertical, unless_idle, apply, unmoved}
use Rattle.rules.specs.Eols.{Eols, eols_to}
use Rattle.rules.specs.Rows.{Settings, read_mark, bytes_to, aligned_if}
use Rattle.rules.specs.Pages.{Answer, entries}
use Rattle.rules.specs.Rising.{Rising, none as no_change, Rows, no_rows, row_then}
use Rattle.rules.specs.Units.{Half, first, second, Stand, between, in_line, in_run, Keeping, Going, going, answer_with, loose_of, so_far, rules_at, broken, next_eol, line_or_over, over_at, eol_or_line, between_rows, keeps, settle, after_code, applied, after_mode4, mode_unit, after_half, run_end, run_unit, eol_unit, unit, call}
use Rattle.rules.proofs.Machine.{run-keeps}
use Rattle.rules.proofs.Ascending.{rises-wider}
use Rattle.rules.proofs.PageBack.{entries-snoc}
use Rattle.rules.proofs.Runs.{after, run-cases}
use Rattle.rules.proofs.Modes.{ModeAt, mode_is_at}
use Rattle.rules.proofs.Lines.{unless-idle}
use Rattle.rules.proofs.Grows.{Grows, grows-here, behind, after_run-grows, apply-grows}

rows_snoc : {width : ℕ} (rs : List (List ℕ)) (r : List ℕ) → Rows width rs → Rising width 0 r → Rows width (rs ++ r ∷ [])
rows_snoc [] r no_rows h = row_then h no_rows
rows_snoc (q ∷ rs) r (row_then k l) h = row_then k (rows_snoc rs r l h)

-- ---- The numbers with which a code fails

abbrev Fails : Went → Type 0
Fails (went t) = Unit {0}
Fails (failed n place t) = (invalid_code ≤ n) × (n ≤ no_entry)

module _ (R : Rules) where
  fails-add : (count : ℕ) (s : Line) → Fails (add R count s)
  unfolding add
  fails-add count s = tests (eqb count 0) (leb (length (recorded s)) R.room)
    where
      tests : (b c : Bool) → Fails (cond b (went s) (cond c (went (line s.at (s.position + count) s.colour (recorded s) s.cut)) (failed no_entry 0 s)))
      tests true c = tt
      tests false true = tt
      tests false false = (omega arith, omega arith)

  fails-push : (place count : ℕ) (s : Line) → Fails (push R place count s)
  unfolding push
  fails-push place count s = tests (leb count (R.width - s.position)) R.strict
    where
      tests : (b c : Bool) → Fails (cond b (add R count s) (cond c (failed 1 place s) (add R (R.width - s.position) (with_cut s))))
      tests true c = fails-add count s
      tests false true = (omega arith, omega arith)
      tests false false = fails-add (R.width - s.position) (with_cut s)

  fails-turn : (place count : ℕ) (s : Line) → Fails (push_turn R place count s)
  fails-turn place count s = cases (push R place count s) (fails-push place count s)
    where
      cases : (w : Went) → Fails w → Fails (next w (λ t. went (turned t)))
      cases (went t) h = tt
      cases (failed n p t) h = h

  fails-vertical : (reference : List ℕ) (place a1 : ℕ) (s : Line) → Fails (vertical R reference place a1 s)
  unfolding vertical
  fails-vertical reference place a1 s = tests (leb a1 most_pixels && leb s.position a1)
    where
      tests : (b : Bool) → Fails (cond b (push_turn R place (a1 - s.position) s) (failed 3 place s))
      tests true = fails-turn place (a1 - s.position) s
      tests false = (omega arith, omega arith)

  -- a mode that has no runs
  fails-apply : (reference : List ℕ) (bs : List Bool) (place : ℕ) (mode : Mode) (s : Line) → (mode ≡ horizontal → ⊥) → Fails (apply R reference bs place mode s)
  unfolding apply
  fails-apply reference bs place pass s h = fails-push place _ s
  fails-apply reference bs place horizontal s h = absurd (h refl)
  fails-apply reference bs place (VR k) s h = fails-vertical reference place _ s
  fails-apply reference bs place (VL k) s h = tests (leb k (b1 R.width reference s.position s.colour))
    where
      tests : (b : Bool) → Fails (cond b (vertical R reference place (b1 R.width reference s.position s.colour - k) s) (failed 3 place s))
      tests true = fails-vertical reference place _ s
      tests false = (omega arith, omega arith)

-- ---- What holds

-- rows and entries that were kept before the call, and the most that a run's sum may be
module _ (S : Settings) (bs : List Bool) (store places rows₀ base₀ most : ℕ) (enough : most_pixels ≤ most) where
  pub record KeepsWell (k : Keeping) : Type 0 where
    pub placed : k.count ≤ places
    pub roomy : k.base ≤ store
    pub counted : k.count ≡ rows₀ + length k.rows
    pub entries_are : k.base ≡ base₀ + entries k.rows
    pub marks_are : length k.marks ≡ length k.rows
    pub rising : Rows S.columns k.rows

  pub record LineWell (k : Keeping) (l : Line) : Type 0 where
    pub kept : KeepsWell k
    pub fits : l.position ≤ S.columns
    pub rises : Rising l.position 0 l.changes
    pub room : length l.changes ≤ store - k.base

  abbrev pub Well : Keeping → Stand → Type 0
  Well k (between e) = KeepsWell k
  Well k (in_line l) = LineWell k l
  Well k (in_run h l s) = LineWell k l × (s.total ≤ most)

  pub record AnswersWell (a : Answer) : Type 0 where
    pub placed : rows₀ + length a.rows ≤ places
    pub roomy : base₀ + entries a.rows + length a.loose ≤ store
    pub marks_are : length a.marks ≡ length a.rows
    pub rising : Rows S.columns a.rows
    pub loose_rising : Rising S.columns 0 a.loose
    pub clean : a.number ≡ complete → a.loose ≡ []

  abbrev pub WellOut : Out Going Answer → Type 0
  WellOut (more g) = Well g.keeping g.stand
  WellOut (done a) = AnswersWell a × (a.number ≤ no_row_end)

  -- ---- Closing

  -- what was kept, and a line's changes
  answers-line : (k : Keeping) (n place : ℕ) (l : Line) → 1 ≤ n → LineWell k l → AnswersWell (answer_with k n place 0 l.changes)
  answers-line k n place l h w =
      let f = w.kept in
      record {
        placed = omega (arith, f.placed, f.counted);
        roomy = omega (arith, f.roomy, f.entries_are, w.room);
        marks_are = f.marks_are;
        rising = f.rising;
        loose_rising = rises-wider w.fits w.rises;
        clean = λ z. absurd (omega arith);
      }

  answers-none : (k : Keeping) (n bytes : ℕ) → KeepsWell k → AnswersWell (answer_with k n 0 bytes [])
  answers-none k n bytes f = record {
    placed = omega (arith, f.placed, f.counted);
    roomy = omega (arith, f.roomy, f.entries_are);
    marks_are = f.marks_are;
    rising = f.rising;
    loose_rising = no_change;
    clean = λ z. refl;
  }

  -- the page ends so
  well-broken : (k : Keeping) (n place : ℕ) (l : Line) → (invalid_code ≤ n) × (n ≤ no_row_end) → LineWell k l → WellOut (broken S bs store places k n place l)
  well-broken k n place l h w = (answers-line k n place l h.0 w, h.1)

  well-between : (k : Keeping) (e : Eols) → KeepsWell k → WellOut (between_rows S bs store places k e)
  well-between k e f = cases (next_eol S bs store places e)
    where
      over' : (b : Bool) → WellOut (line_or_over S bs store places k e b)
      over' true = (answers-none k 0 (bytes_to e.at) f, omega arith)
      over' false = record { kept = f; fits = omega arith; rises = no_change; room = omega arith }

      cases : (o : Option ℕ) → WellOut (eol_or_line S bs store places k e o)
      cases (some a) = f
      cases none = over' (over_at S bs store places k e)

  -- a row that is complete
  well-closed : (k : Keeping) (l : Line) → LineWell k l → k.count < places → KeepsWell (keeps S bs store places k l.changes (read_mark l))
  well-closed k l w c =
      let f = w.kept in
      record {
        placed = omega arith;
        roomy = omega (arith, f.roomy, w.room);
        counted = omega (arith, f.counted, length-append k.rows (l.changes ∷ []));
        entries_are = omega (arith, f.entries_are, entries-snoc k.rows l.changes);
        marks_are = omega (arith, f.marks_are, length-append k.rows (l.changes ∷ []), length-append k.marks (read_mark l ∷ []));
        rising = rows_snoc k.rows l.changes f.rising (rises-wider w.fits w.rises);
      }

  well-settle : (k : Keeping) (s : Stand) → Well k s → WellOut (settle S bs store places (going k s))
  unfolding settle
  well-settle k (between e) w = well-between k e w
  well-settle k (in_run h l s) w = w
  well-settle k (in_line l) w = tests (eqb l.position S.columns) (ltb k.count places) refl
    where
      tests : (b c : Bool) → ltb k.count places ≡ c
          → WellOut (cond b (cond c (between_rows S bs store places (keeps S bs store places k l.changes (read_mark l)) (eols_to 0 (aligned_if S.aligned l.at))) (broken S bs store places k 5 0 l)) (more (going k (in_line l))))
      tests true true q = well-between (keeps S bs store places k l.changes (read_mark l)) (eols_to 0 (aligned_if S.aligned l.at)) (well-closed k l w (ltb-true _ _ q))
      tests true false q = well-broken k 5 0 l (omega arith, omega arith) w
      tests false c q = w

  -- ---- One unit

  module _ (k : Keeping) where
    abbrev R : Rules
    R = rules_at S bs store places k

    -- what a code makes of a line
    well-grown : (l t : Line) → LineWell k l → Grows R l t → LineWell k t
    well-grown l t w g = record { kept = w.kept; fits = g.fits w.fits; rises = g.rises w.rises; room = g.roomy w.room }

    well-code : (l : Line) → LineWell k l → (v : Went) → Fails v → Grows R l (line_in v) → WellOut (after_code S bs store places k v)
    well-code l w (went t) h g = well-settle k (in_line t) (well-grown l t w g)
    well-code l w (failed n p t) h g = well-broken k n p t (h.0, omega (arith, h.1)) (well-grown l t w g)

    well-applied : (l : Line) (m : Mode) (at : ℕ) → (m ≡ horizontal → ⊥) → LineWell k l → WellOut (applied S bs store places k l m (moved_to at l))
    well-applied l m at h w =
        well-code l w (unless_idle R m l (apply R k.reference bs l.at m (moved_to at l)))
        (unless-idle R m l Fails (omega arith, omega arith) (apply R k.reference bs l.at m (moved_to at l)) (fails-apply R k.reference bs l.at m (moved_to at l) h))
        (unless-idle R m l (λ v. Grows R l (line_in v)) (grows-here R l l.at) (apply R k.reference bs l.at m (moved_to at l))
        (behind R l at (apply R k.reference bs l.at m (moved_to at l)) (apply-grows R k.reference bs l.at m (moved_to at l))))

    well-mode : (l : Line) → LineWell k l → (r : Res Moded) → ModeAt bs l.at r → WellOut (mode_unit S bs store places k l r)
    well-mode l w (fault n p) h = well-broken k n p l (h.1, omega (arith, h.2)) w
    well-mode l w (ok m) h = mode m.mode
      where
        mode : (x : Mode) → WellOut (after_mode4 S bs store places k l x (moved_to m.at l))
        mode horizontal = (well-grown l (moved_to m.at l) w (grows-here R l m.at), omega arith)
        mode pass = well-applied l pass m.at (λ e. let z : ◌≡◌ {A = ℕ} 0 1 = cc in omega arith) w
        mode (VR n) = well-applied l (VR n) m.at (λ e. let z : ◌≡◌ {A = ℕ} 0 1 = cc in omega arith) w
        mode (VL n) = well-applied l (VL n) m.at (λ e. let z : ◌≡◌ {A = ℕ} 0 1 = cc in omega arith) w

    well-half : (h : Half) (l : Line) → LineWell k l → (v : Went) → Fails v → Grows R l (line_in v) → WellOut (after_half S bs store places k h l v)
    well-half (first p) l w (went t) f g = (well-grown l t w g, omega arith)
    well-half (first p) l w (failed n q t) f g = well-broken k n q t (f.0, omega (arith, f.1)) (well-grown l t w g)
    well-half (second p y) l w (failed n q t) f g = well-broken k n q t (f.0, omega (arith, f.1)) (well-grown l t w g)
    well-half (second p y) l w (went t) f g = tests (S.exact && (y && unmoved l t))
      where
        tests : (b : Bool) → WellOut (after_code S bs store places k (cond b (failed 1 p l) (went t)))
        tests true = well-broken k 1 p l (omega arith, omega arith) w
        tests false = well-code l w (went t) tt g

    well-run : (h : Half) (l : Line) (s : Sum) → LineWell k l → WellOut (run_unit S bs store places k h l (run_step l.colour bs s))
    well-run h l s w =
        run-cases l.colour bs s (λ o. WellOut (run_unit S bs store places k h l o))
        (λ c t i. ended (ok (after s c)) (fails-turn R l.at (after s c).total (moved_to (after s c).at l)))
        (λ c t i. (w, (let h = t.small in let z : (after s c).total ≤ most = omega arith in z)))
        (λ n i j. ended (fault n s.at) (i, omega arith))
      where
        ended : (r : Res Sum) → Fails (after_run R l r) → WellOut (run_end S bs store places k h l r)
        ended r f = well-half h l w (after_run R l r) f (after_run-grows R l r)

  well-unit : (k : Keeping) (s : Stand) → Well k s → WellOut (unit S bs store places (going k s))
  unfolding unit
  well-unit k (in_line l) w = well-mode k l w (read_mode bs l.at) (mode_is_at bs l.at)
  well-unit k (in_run h l s) w = well-run k h l s w.0
  well-unit k (between e) w = cases (next_eol S bs store places e)
    where
      cases : (o : Option ℕ) → WellOut (eol_unit S bs store places k e o)
      cases none = well-settle k (between e) w
      cases (some a) = well-settle k (between (eols_to (suc e.count) a)) w

  -- ---- A call

  pub well-call : (n : ℕ) (g : Going) → Well g.keeping g.stand → WellOut (call S bs store places n (more g))
  unfolding call
  well-call n g w = run-keeps WellOut (unit S bs store places) (λ h i. well-unit h.keeping h.stand i) n (settle S bs store places g) (well-settle g.keeping g.stand w)

  -- what a call says so far
  pub well-so-far : (o : Out Going Answer) → WellOut o → AnswersWell (so_far o)
  well-so-far (done a) w = w.0
  well-so-far (more g) w = cases g.stand w
    where
      cases : (s : Stand) → Well g.keeping s → AnswersWell (answer_with g.keeping 15 0 0 (loose_of s))
      cases (between e) w = answers-none g.keeping 15 0 w
      cases (in_line l) w = answers-line g.keeping 15 0 l (omega arith) w
      cases (in_run h l s) w = answers-line g.keeping 15 0 l (omega arith) w.0
