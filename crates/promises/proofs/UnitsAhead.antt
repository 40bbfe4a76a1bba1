-- A page in units only ever goes on: the rows that are kept stay, and the changes of the unfinished row begin the row that comes of it. So what a call
-- answers so far is a front of what the page comes to. Assumes nothing.
use mathlib.Core.Path.{◌≡◌, refl, sym, ap, ◌∙◌}
use mathlib.Core.Bool.{Bool, true, false, cond, ◌&&◌}
use mathlib.Core.List.{List, [], ◌∷◌, ◌++◌, append_assoc, append-nil}
use mathlib.Core.Option.{Option, none, some}
use Prim.Native.Nat.{ℕ, suc, ◌+◌, ◌-◌}
use native.Mathlib.Omega.{arith}
use lib.Dec.{eqb, leb, ltb}
use lib.ListN.{length, take, get_or, length-append}
use lib.Seq.{take_at}
use Rattle.rules.specs.Answers.{most_pixels}
use Rattle.rules.specs.Machine.{Out, more, done}
use Rattle.rules.specs.Codes.{differ}
use Rattle.rules.specs.Runs.{Res, ok, fault, Sum, run_step, read_run}
use Rattle.rules.specs.Modes.{Mode, pass, horizontal, VR, VL, Moded, read_mode}
use Rattle.rules.specs.Lines.{Rules, Line, line, turned, moved_to, with_cut, Went, went, failed, next, last_colour, recorded, add, push, push_turn, after_run, push_run, b1, vertical, apply, line_in, unless_idle, unmoved}
use Rattle.rules.specs.Eols.{Eols, eols_to}
use Rattle.rules.specs.Rows.{Settings, read_mark, aligned_if}
use Rattle.rules.specs.Pages.{Answer}
use Rattle.rules.specs.Units.{Half, first, second, Stand, between, in_line, in_run, Keeping, Going, going, answer_with, loose_of, so_far, rules_at, broken, next_eol, line_or_over, over_at, eol_or_line, between_rows, keeps, settle, after_code, applied, after_mode4, mode_unit, after_half, run_unit, eol_unit, unit, call}
use Rattle.rules.proofs.Machine.{run-keeps}
use Rattle.rules.proofs.Lines.{unless-idle}
use Rattle.rules.proofs.Within.{Front}

-- ---- Changes are only ever appended

abbrev Begins : List ℕ → List ℕ → Type 0
Begins xs ys = (later : List ℕ) × (ys ≡ xs ++ later)

begins-same : (xs : List ℕ) → Begins xs xs
begins-same xs = ([], sym (append-nil xs))

begins-then : (xs ys zs : List ℕ) → Begins xs ys → Begins ys zs → Begins xs zs
begins-then xs ys zs (a, p) (b, q) = (a ++ b, q ∙ ap (λ (l : List ℕ). l ++ b) p ∙ append_assoc xs a b)

module _ (R : Rules) where
  abbrev On : Line → Went → Type 0
  On s w = Begins s.changes (line_in w).changes

  on-add : (count : ℕ) (s : Line) → On s (add R count s)
  unfolding add recorded
  on-add count s = tests (eqb count 0) (leb (length (recorded s)) R.room) (differ (last_colour s.changes) s.colour)
    where
      tests : (b c d : Bool) → On s (cond b (went s) (cond c (went (line s.at (s.position + count) s.colour (cond d (s.changes ++ s.position ∷ []) s.changes) s.cut)) (failed 4 0 s)))
      tests true c d = begins-same s.changes
      tests false true true = (s.position ∷ [], refl)
      tests false true false = begins-same s.changes
      tests false false d = begins-same s.changes

  on-push : (place count : ℕ) (s : Line) → On s (push R place count s)
  unfolding push
  on-push place count s = tests (leb count (R.width - s.position)) R.strict
    where
      tests : (b c : Bool) → On s (cond b (add R count s) (cond c (failed 1 place s) (add R (R.width - s.position) (with_cut s))))
      tests true c = on-add count s
      tests false true = begins-same s.changes
      tests false false = on-add (R.width - s.position) (with_cut s)

  on-turn : (place count : ℕ) (s : Line) → On s (push_turn R place count s)
  on-turn place count s = cases (push R place count s) (on-push place count s)
    where
      cases : (w : Went) → On s w → On s (next w (λ t. went (turned t)))
      cases (went t) h = h
      cases (failed n p t) h = h

  on-run : (s : Line) (r : Res Sum) → On s (after_run R s r)
  on-run s (ok r) = on-turn s.at r.total (moved_to r.at s)
  on-run s (fault n p) = begins-same s.changes

  on-vertical : (reference : List ℕ) (place a1 : ℕ) (s : Line) → On s (vertical R reference place a1 s)
  unfolding vertical
  on-vertical reference place a1 s = tests (leb a1 most_pixels && leb s.position a1)
    where
      tests : (b : Bool) → On s (cond b (push_turn R place (a1 - s.position) s) (failed 3 place s))
      tests true = on-turn place (a1 - s.position) s
      tests false = begins-same s.changes

  on-apply : (reference : List ℕ) (bs : List Bool) (place : ℕ) (mode : Mode) (s : Line) → On s (apply R reference bs place mode s)
  unfolding apply push_run
  on-apply reference bs place pass s = on-push place _ s
  on-apply reference bs place (VR k) s = on-vertical reference place _ s
  on-apply reference bs place (VL k) s = tests (leb k (b1 R.width reference s.position s.colour))
    where
      tests : (b : Bool) → On s (cond b (vertical R reference place (b1 R.width reference s.position s.colour - k) s) (failed 3 place s))
      tests true = on-vertical reference place _ s
      tests false = begins-same s.changes
  on-apply reference bs place horizontal s = cases (push_run R bs s) (on-run s (read_run s.colour bs s.at))
    where
      cases : (w : Went) → On s w → On s (next w (push_run R bs))
      cases (failed n p t) h = h
      cases (went t) h = begins-then s.changes t.changes (line_in (push_run R bs t)).changes h (on-run t (read_run t.colour bs t.at))

-- ---- An answer that goes on from another

pub record Ahead (a b : Answer) : Type 0 where
  pub rest : List (List ℕ)
  pub rows : b.rows ≡ a.rows ++ rest
  pub rest-marks : List ℕ
  pub marks : b.marks ≡ a.marks ++ rest-marks
  pub loose : Begins a.loose (get_or rest 0 b.loose)

ahead-then : (a b c : Answer) → Ahead a b → Ahead b c → Ahead a c
ahead-then a b c f g = record {
  rest = f.rest ++ g.rest;
  rows = g.rows ∙ ap (λ (l : List (List ℕ)). l ++ g.rest) f.rows ∙ append_assoc a.rows f.rest g.rest;
  rest-marks = f.rest-marks ++ g.rest-marks;
  marks = g.marks ∙ ap (λ (l : List ℕ). l ++ g.rest-marks) f.marks ∙ append_assoc a.marks f.rest-marks g.rest-marks;
  loose = cases f.rest f.loose;
}
  where
    cases : (rs : List (List ℕ)) → Begins a.loose (get_or rs 0 b.loose) → Begins a.loose (get_or (rs ++ g.rest) 0 c.loose)
    cases [] h = begins-then a.loose b.loose (get_or g.rest 0 c.loose) h g.loose
    cases (r ∷ rs) h = h

-- the rows stay, and the unfinished one goes on
ahead-same : (k : Keeping) (n n' place place' bytes bytes' : ℕ) (xs ys : List ℕ) → Begins xs ys → Ahead (answer_with k n place bytes xs) (answer_with k n' place' bytes' ys)
ahead-same k n n' place place' bytes bytes' xs ys h = record { rest = []; rows = sym (append-nil k.rows); rest-marks = []; marks = sym (append-nil k.marks); loose = h }

-- ---- Units

module _ (S : Settings) (bs : List Bool) (store places : ℕ) where
  abbrev AheadOf : Keeping → List ℕ → Out Going Answer → Type 0
  AheadOf k xs o = Ahead (answer_with k 15 0 0 xs) (so_far o)

  ahead-between : (k : Keeping) (e : Eols) → AheadOf k [] (between_rows S bs store places k e)
  ahead-between k e = cases (next_eol S bs store places e)
    where
      over' : (b : Bool) → AheadOf k [] (line_or_over S bs store places k e b)
      over' true = ahead-same k 15 0 0 0 0 _ [] [] (begins-same [])
      over' false = ahead-same k 15 15 0 0 0 0 [] [] (begins-same [])

      cases : (o : Option ℕ) → AheadOf k [] (eol_or_line S bs store places k e o)
      cases (some a) = ahead-same k 15 15 0 0 0 0 [] [] (begins-same [])
      cases none = over' (over_at S bs store places k e)

  -- a row that is kept goes on from its line
  ahead-kept : (k : Keeping) (xs r : List ℕ) (mark : ℕ) → Begins xs r → Ahead (answer_with k 15 0 0 xs) (answer_with (keeps S bs store places k r mark) 15 0 0 [])
  ahead-kept k xs r mark h = record { rest = r ∷ []; rows = refl; rest-marks = mark ∷ []; marks = refl; loose = h }

  ahead-line : (k : Keeping) (xs : List ℕ) (l : Line) → Begins xs l.changes → AheadOf k xs (settle S bs store places (going k (in_line l)))
  unfolding settle
  ahead-line k xs l h = tests (eqb l.position S.columns) (ltb k.count places)
    where
      k' : Keeping
      k' = keeps S bs store places k l.changes (read_mark l)

      tests : (b c : Bool) → AheadOf k xs (cond b (cond c (between_rows S bs store places (keeps S bs store places k l.changes (read_mark l)) (eols_to 0 (aligned_if S.aligned l.at))) (broken S bs store places k 5 0 l)) (more (going k (in_line l))))
      tests true true = ahead-then (answer_with k 15 0 0 xs) (answer_with k' 15 0 0 []) (so_far (between_rows S bs store places k' (eols_to 0 (aligned_if S.aligned l.at)))) (ahead-kept k xs l.changes (read_mark l) h) (ahead-between k' (eols_to 0 (aligned_if S.aligned l.at)))
      tests true false = ahead-same k 15 5 0 0 0 0 xs l.changes h
      tests false c = ahead-same k 15 15 0 0 0 0 xs l.changes h

  ahead-settle : (k : Keeping) (s : Stand) → AheadOf k (loose_of s) (settle S bs store places (going k s))
  unfolding settle
  ahead-settle k (between e) = ahead-between k e
  ahead-settle k (in_run h l s) = ahead-same k 15 15 0 0 0 0 l.changes l.changes (begins-same l.changes)
  ahead-settle k (in_line l) = ahead-line k l.changes l (begins-same l.changes)

  module _ (k : Keeping) where
    abbrev R : Rules
    R = rules_at S bs store places k

    ahead-code : (l : Line) (v : Went) → On R l v → AheadOf k l.changes (after_code S bs store places k v)
    ahead-code l (went t) h = ahead-line k l.changes t h
    ahead-code l (failed n p t) h = ahead-same k 15 n 0 p 0 0 l.changes t.changes h

    ahead-applied : (l : Line) (m : Mode) (at : ℕ) → AheadOf k l.changes (applied S bs store places k l m (moved_to at l))
    ahead-applied l m at =
        ahead-code l (unless_idle R m l (apply R k.reference bs l.at m (moved_to at l)))
        (unless-idle R m l (On R l) (begins-same l.changes) (apply R k.reference bs l.at m (moved_to at l)) (on-apply R k.reference bs l.at m (moved_to at l)))

    ahead-mode : (l : Line) (r : Res Moded) → AheadOf k l.changes (mode_unit S bs store places k l r)
    ahead-mode l (fault n p) = ahead-same k 15 n 0 p 0 0 l.changes l.changes (begins-same l.changes)
    ahead-mode l (ok m) = mode m.mode
      where
        mode : (x : Mode) → AheadOf k l.changes (after_mode4 S bs store places k l x (moved_to m.at l))
        mode horizontal = ahead-same k 15 15 0 0 0 0 l.changes l.changes (begins-same l.changes)
        mode pass = ahead-applied l pass m.at
        mode (VR n) = ahead-applied l (VR n) m.at
        mode (VL n) = ahead-applied l (VL n) m.at

    ahead-half : (h : Half) (l : Line) (v : Went) → On R l v → AheadOf k l.changes (after_half S bs store places k h l v)
    ahead-half (first p) l (went t) g = ahead-same k 15 15 0 0 0 0 l.changes t.changes g
    ahead-half (first p) l (failed n q t) g = ahead-same k 15 n 0 q 0 0 l.changes t.changes g
    ahead-half (second p y) l (failed n q t) g = ahead-same k 15 n 0 q 0 0 l.changes t.changes g
    ahead-half (second p y) l (went t) g = tests (S.exact && (y && unmoved l t))
      where
        tests : (b : Bool) → AheadOf k l.changes (after_code S bs store places k (cond b (failed 1 p l) (went t)))
        tests true = ahead-same k 15 1 0 p 0 0 l.changes l.changes (begins-same l.changes)
        tests false = ahead-code l (went t) g

    ahead-run : (h : Half) (l : Line) (o : Out Sum (Res Sum)) → AheadOf k l.changes (run_unit S bs store places k h l o)
    ahead-run h l (more s) = ahead-same k 15 15 0 0 0 0 l.changes l.changes (begins-same l.changes)
    ahead-run h l (done r) = ahead-half h l (after_run R l r) (on-run R l r)

  ahead-unit : (k : Keeping) (s : Stand) → AheadOf k (loose_of s) (unit S bs store places (going k s))
  unfolding unit
  ahead-unit k (in_line l) = ahead-mode k l (read_mode bs l.at)
  ahead-unit k (in_run h l s) = ahead-run k h l (run_step l.colour bs s)
  ahead-unit k (between e) = cases (next_eol S bs store places e)
    where
      cases : (o : Option ℕ) → AheadOf k [] (eol_unit S bs store places k e o)
      cases none = ahead-settle k (between e)
      cases (some a) = ahead-settle k (between (eols_to (suc e.count) a))

  -- a call goes on from what it was handed
  pub ahead-call : (n : ℕ) (g : Going) → Ahead (so_far (more g)) (so_far (call S bs store places n (more g)))
  unfolding call
  ahead-call n g =
      run-keeps (λ o. Ahead (so_far (more g)) (so_far o)) (unit S bs store places) (λ h i. ahead-then (so_far (more g)) (so_far (more h)) (so_far (unit S bs store places h)) i (ahead-unit h.keeping h.stand)) n (settle S bs store places g)
      (ahead-settle g.keeping g.stand)

-- what goes on from an answer has it for a front
get_d-behind : (kept rest : List (List ℕ)) (xs : List ℕ) → get_or (kept ++ rest) (length kept) xs ≡ get_or rest 0 xs
get_d-behind [] rest xs = refl
get_d-behind (r ∷ kept) rest xs = get_d-behind kept rest xs

pub ahead-front : (a b : Answer) → length a.marks ≡ length a.rows → Ahead a b → Front b a
ahead-front a b e f = record {
  fewer = omega (arith, ap length f.rows, length-append a.rows f.rest);
  rows = sym (ap (take (length a.rows)) f.rows ∙ take_at a.rows f.rest (length a.rows) refl);
  marks = sym (ap (take (length a.rows)) f.marks ∙ take_at a.marks f.rest-marks (length a.rows) e);
  loose = sym
      (ap (λ (l : List (List ℕ)). take (length a.loose) (get_or l (length a.rows) b.loose)) f.rows
      ∙ ap (take (length a.loose)) (get_d-behind a.rows f.rest b.loose ∙ f.loose.1)
      ∙ take_at a.loose f.loose.0 (length a.loose) refl);
}
