-- A call of the unit form stores what is demanded, from any state that passes the tests; and columns 0 in either form. Assumes nothing.
use mathlib.Core.Path.{◌≡◌, refl, sym, ap, ap₂, ◌∙◌, subst}
use mathlib.Core.Bool.{Bool, true, false, cond, true≢false, and-false}
use mathlib.Core.List.{List, [], ◌∷◌, ◌++◌, append_assoc}
use Prim.Native.Nat.{ℕ, zero, suc, ◌+◌, ◌-◌, ◌≤◌, ◌<◌}
use native.Mathlib.Nat.{min-le_left, min-le_right}
use native.Mathlib.Omega.{arith}
use lib.Dec.{eqb}
use lib.ListN.{length, take, drop, length-append, length-drop}
use lib.Seq.{take_at, drop_at, drop-drop, length-take-le}
use borrow.Author.Tests.{eqb-true}
use Rattle.rules.specs.Answers.{complete, bad_width, bad_rows, too_few_rows, more_to_come, most_pixels}
use Rattle.rules.specs.Bits.{bits_of}
use Rattle.rules.specs.Rows.{Settings}
use Rattle.rules.specs.Pages as Page
use Rattle.rules.specs.Pages.{most_bytes, entries, places_in, strict_if_exact, too_few, overlaid, joined, ends_from}
use Rattle.rules.specs.Write.{rows_in}
use Rattle.rules.specs.InSteps.{Said, says}
use Rattle.rules.specs.Rising.{Rising, Rows, no_rows}
use Rattle.rules.specs.ByRow as Rule
use Rattle.rules.specs.ByRow.{unended, no_columns}
use Rattle.rules.specs.Machine.{Out, more, done}
use Rattle.rules.specs.Units as Units
use Rattle.rules.specs.Units.{Stand, Keeping, Going, so_far, call, taken}
use Rattle.rules.specs.ByUnit as Unit
use Rattle.rules.specs.ByUnit.{part, line_from, stand_of, going_of, saved_at, said_behind, unless_fewer, opened, reading_after, overlaid_from, turn_of, as_group4, read_on, turn}
use Rattle.rules.proofs.Bits.{both_true}
use Rattle.rules.proofs.ByUnit.{turn-cases}
use Rattle.rules.proofs.Store.{length-joined, length-ends, rows_back}
use Rattle.rules.proofs.ByRow.{call-cases}
use Rattle.answer.specs.declared.Answer.{Answer}
use Rattle.settings.specs.declared.DecodeSettings.{DecodeSettings}
use Rattle.settings.specs.Settings.{settings_of}
use Rattle.by_row.specs.declared.End.TheVariants.{Unended}
use Rattle.by_row.specs.ByRow.{end_of, row_state_of, answer_of, count_of}
use Rattle.by_unit.specs.declared.Saved.{Saved}
use Rattle.by_unit.specs.declared.Reading.TheVariants.{Open}
use Rattle.by_unit.specs.Reading.{phase_of, saved_of, reading_of, TurnIs}
use Rattle.promises.specs.ByRow as ByRow
use Rattle.promises.specs.ByRow.{RowCall, RowReading}
use Rattle.promises.specs.ByUnit as ByUnit
use Rattle.promises.specs.ByUnit.{UnitCall, UnitReading}
use Rattle.promises.specs.StepsStored.{RowNothing, UnitNothing, NoColumnsInSteps, UnitStores, UnitStored, rows_closed, loose_of}
use Rattle.promises.proofs.UnitsHold.{KeepsWell, LineWell, Well, AnswersWell, WellOut, well-call, well-so-far}
use Rattle.promises.proofs.ByRow.{both, told, sound-passes}
use Rattle.promises.proofs.ByUnit.{passes-sound as passes-sound', sound-passes as sound-passes'}

-- an array that begins anew from a place on: what lies before it, and what lies behind what was put there
module _ (xs m : List ℕ) (n : ℕ) (h : n ≤ length xs) where
  abbrev anew : List ℕ
  anew = overlaid_from n m xs

  front_long : length (take n xs) ≡ n
  front_long = length-take-le n xs h

  before-anew : take n anew ≡ take n xs
  before-anew = take_at (take n xs) (overlaid m (drop n xs)) n front_long

  unfolded : anew ≡ take n xs ++ (m ++ drop (length m) (drop n xs))
  unfolding overlaid
  unfolded = refl

  later-anew : (k : ℕ) → k ≡ n + length m → drop k anew ≡ drop k xs
  later-anew k e =
      ap (drop k) (unfolded ∙ sym (append_assoc (take n xs) m (drop (length m) (drop n xs))))
      ∙ drop_at (take n xs ++ m) (drop (length m) (drop n xs)) k (omega (arith, length-append (take n xs) m, front_long))
      ∙ drop-drop (length m) n xs
      ∙ ap (λ (i : ℕ). drop i xs) (sym e)

-- rows that lie behind others are read by their ends
rows_behind : (front : List ℕ) (rows : List (List ℕ)) (rest : List ℕ) (base : ℕ) → length front ≡ base → rows_in base (front ++ (joined rows ++ rest)) (ends_from base rows) ≡ rows
unfolding rows_in joined ends_from
rows_behind front rows rest base e =
    ap₂ (λ (n : ℕ) (l : List ℕ). rows_in n l (ends_from n rows)) (let z : base ≡ 0 + length front = omega arith in z) (sym (append_assoc front (joined rows) rest))
    ∙ ap later (rows_back (front ∷ rows) rest)
  where
    later : List (List ℕ) → List (List ℕ)
    later [] = []
    later (r ∷ rs) = rs

-- what is said of an answer, whether its rows are too few or not
module _ (S : Settings) (x : Said) where
  few-counts : ((unless_fewer S x).rows ≡ x.rows) × ((unless_fewer S x).entries ≡ x.entries) × ((unless_fewer S x).loose ≡ x.loose)
  few-counts = tests (too_few S x.number x.rows)
    where
      tests : (t : Bool) → let y = cond t (says 14 0 0 x.rows x.entries x.loose) x in (y.rows ≡ x.rows) × (y.entries ≡ x.entries) × (y.loose ≡ x.loose)
      tests true = (refl, refl, refl)
      tests false = (refl, refl, refl)

-- an outcome behind so many rows and entries, whose rows and loose entries have their places
module _ (S Q : Settings) (changes ends marks : List ℕ) (rows₀ base₀ most : ℕ) (enough : most_pixels ≤ most) (bs : List Bool) (o : Out Going Page.Answer) (units : ℕ)
    (w : AnswersWell Q bs (length changes) (places_in ends marks) rows₀ base₀ most enough (so_far o)) where
  abbrev a : Page.Answer
  a = so_far o

  abbrev t : Unit.Turn
  t = turn_of S rows₀ base₀ changes ends marks units o

  abbrev stored : List ℕ
  stored = joined a.rows ++ a.loose

  stored-long : length stored ≡ entries a.rows + length a.loose
  stored-long = length-append (joined a.rows) a.loose ∙ ap (λ (n : ℕ). n + length a.loose) (length-joined a.rows)

  rows_are : t.answer.rows ≡ rows₀ + length a.rows
  rows_are = (few-counts S (said_behind rows₀ base₀ a)).0

  entries_are : t.answer.entries ≡ base₀ + entries a.rows
  entries_are = (few-counts S (said_behind rows₀ base₀ a)).1

  loose-are : t.answer.loose ≡ length a.loose
  loose-are = (few-counts S (said_behind rows₀ base₀ a)).2

  fits-changes : base₀ ≤ length changes
  fits-changes = omega (arith, w.roomy)

  fits-ends : rows₀ + length a.rows ≤ length ends
  fits-ends = omega (arith, w.placed, min-le_left (length ends) (length marks))

  fits-marks : rows₀ + length a.rows ≤ length marks
  fits-marks = omega (arith, w.placed, min-le_right (length ends) (length marks))

  -- the rows closed lie there
  closed-are : rows_in base₀ t.changes (part rows₀ t.answer.rows t.ends) ≡ a.rows
  closed-are =
      ap₂ (λ (l m : List ℕ). rows_in base₀ l m)
      (unfolded changes stored base₀ fits-changes ∙ ap (λ (l : List ℕ). take base₀ changes ++ l) (append_assoc (joined a.rows) a.loose _))
      (ap (λ (n : ℕ). part rows₀ n t.ends) rows_are ∙ ends-part)
      ∙ rows_behind (take base₀ changes) a.rows _ base₀ (front_long changes stored base₀ fits-changes)
    where
      put : List ℕ
      put = ends_from base₀ a.rows

      ends-part : part rows₀ (rows₀ + length a.rows) t.ends ≡ put
      ends-part =
          ap₂ (λ (n : ℕ) (l : List ℕ). take n l) (let z : rows₀ + length a.rows - rows₀ ≡ length a.rows = omega arith in z)
          (ap (drop rows₀) (unfolded ends put rows₀ (omega (arith, fits-ends))) ∙ drop_at (take rows₀ ends) (put ++ _) rows₀ (front_long ends put rows₀ (omega (arith, fits-ends))))
          ∙ take_at put _ (length a.rows) (length-ends base₀ a.rows)

  loose_at : take t.answer.loose (drop t.answer.entries t.changes) ≡ a.loose
  loose_at =
      ap (λ (l : List ℕ). take t.answer.loose (drop t.answer.entries l))
      (unfolded changes stored base₀ fits-changes
      ∙ ap (λ (l : List ℕ). take base₀ changes ++ l) (append_assoc (joined a.rows) a.loose _)
      ∙ sym (append_assoc (take base₀ changes) (joined a.rows) (a.loose ++ _)))
      ∙ ap (take t.answer.loose) (drop_at (take base₀ changes ++ joined a.rows) (a.loose ++ _) t.answer.entries
      (length-append (take base₀ changes) (joined a.rows) ∙ ap₂ (λ (m n : ℕ). m + n) (front_long changes stored base₀ fits-changes) (length-joined a.rows) ∙ sym entries_are))
      ∙ take_at a.loose _ t.answer.loose (sym loose-are)

-- a state whose run's sum keeps a limit
module _ (bytes : List ℕ) (settings : DecodeSettings) (c : UnitCall) (s : Saved) (most : ℕ) (enough : most_pixels ≤ most) (limited : s.run ≤ most) where
  abbrev pub S₄ : Settings
  S₄ = as_group4 (settings_of settings)

  abbrev pub T₄ : Settings
  T₄ = strict_if_exact S₄

  abbrev pub places : ℕ
  places = places_in c.ends c.marks

  abbrev pub base : ℕ
  base = Unit.end_of c.ends s.rows

  abbrev pub WellFrom : Keeping → Stand → Type 0
  WellFrom = Well T₄ (bits_of bytes) (length c.changes) places s.rows base most enough

  -- a state that passed the tests
  pub well-start : ByUnit.Sound bytes settings c s → WellFrom (going_of c.changes c.ends (saved_of s)).keeping (going_of c.changes c.ends (saved_of s)).stand
  unfolding going_of entries
  well-start h = cases (phase_of s.phase)
    where
      kept : KeepsWell T₄ (bits_of bytes) (length c.changes) places s.rows base most enough (going_of c.changes c.ends (saved_of s)).keeping
      kept = record {
        placed = h.placed;
        roomy = omega (arith, h.held);
        counted = let z : s.rows ≡ s.rows + 0 = omega arith in z;
        entries_are = let z : base ≡ base + 0 = omega arith in z;
        marks_are = refl;
        rising = no_rows;
      }

      begun : (at : ℕ) → LineWell T₄ (bits_of bytes) (length c.changes) places s.rows base most enough (going_of c.changes c.ends (saved_of s)).keeping (line_from c.changes c.ends (saved_of s) at)
      begun at = record {
        kept = kept;
        fits = h.position;
        rises = h.unfinished;
        room =
            let l = length-drop base c.changes in
            let n : base + s.loose - base ≡ s.loose = omega arith in
            let q = length-take-le (base + s.loose - base) (drop base c.changes) (omega (arith, h.held)) in
            omega (arith, h.held, q);
      }

      cases : (p : Unit.Phase) → WellFrom (going_of c.changes c.ends (saved_of s)).keeping (stand_of c.changes c.ends (saved_of s) p)
      cases Unit.at_eols = kept
      cases Unit.at_mode = begun s.at
      cases Unit.at_the_first = (begun s.run_at, limited)
      cases Unit.at_second = (begun s.run_at, limited)

  -- the counts of the state that is handed back
  rows_left : (n : ℕ) (t : Stand) → ((saved_at n t).rows ≡ n) × ((saved_at n t).loose ≡ length (Units.loose_of t))
  rows_left n (Units.between e) = (refl, refl)
  rows_left n (Units.in_line l) = (refl, refl)
  rows_left n (Units.in_run (Units.first m) l k) = (refl, refl)
  rows_left n (Units.in_run (Units.second m z) l k) = (refl, refl)

  counts-left : (u : Saved) (o : Out Going Page.Answer) (x : Said) → opened (saved_of u) ≡ reading_after x o → WellOut T₄ (bits_of bytes) (length c.changes) places s.rows base most enough o
      → (u.rows ≡ s.rows + length (so_far o).rows) × (u.loose ≡ length (so_far o).loose)
  counts-left u (done a) x q w = absurd (let z : ◌≡◌ {A = ℕ} 0 1 = cc in omega arith)
  counts-left u (more g) x q w =
      let e : saved_of u ≡ Unit.saved_of g = cc in
      let r = rows_left g.keeping.count g.stand in
      (ap (λ (y : Unit.Saved). y.rows) e ∙ r.0 ∙ counted g.stand w, ap (λ (y : Unit.Saved). y.loose) e ∙ r.1)
    where
      counted : (t : Stand) → WellFrom g.keeping t → g.keeping.count ≡ s.rows + length g.keeping.rows
      counted (Units.between e) w = w.counted
      counted (Units.in_line l) w = w.kept.counted
      counted (Units.in_run h l k) w = w.0.kept.counted

  abbrev said_at : Out Going Page.Answer → Said
  said_at o = unless_fewer S₄ (said_behind s.rows base (so_far o))

  abbrev OutWell : Out Going Page.Answer → Type 0
  OutWell o = WellOut T₄ (bits_of bytes) (length c.changes) places s.rows base most enough o

  -- what 0, 14 and 15 have
  record Has (x : Said) : Type 0 where
    clean : x.number ≡ complete → x.loose ≡ 0
    short : x.number ≡ too_few_rows → (x.loose ≡ 0) × (x.bytes ≡ 0)
    more : x.number ≡ more_to_come → (x.bytes ≡ 0) × (x.place ≡ 0)

  said_has : (o : Out Going Page.Answer) → OutWell o → Has (said_at o)
  said_has (more g) w = rw (and-false settings.exact) (record { clean = λ z. absurd (omega arith); short = λ z. absurd (omega arith); more = λ z. (refl, refl) })
  said_has (done a) (w, few) = tests (too_few S₄ a.number (s.rows + length a.rows)) refl
    where
      y : Said
      y = said_behind s.rows base a

      tests : (t : Bool) → too_few S₄ a.number (s.rows + length a.rows) ≡ t → Has (cond t (says 14 0 0 y.rows y.entries y.loose) y)
      tests true e =
          let none : length a.loose ≡ 0 = ap length (w.clean (eqb-true a.number 0 (both_true (eqb a.number 0) _ (both_true settings.exact _ e).1).0)) in
          record { clean = λ z. none; short = λ z. (none, refl); more = λ z. absurd (omega arith) }
      tests false e = record { clean = λ z. ap length (w.clean z); short = λ z. absurd (omega arith); more = λ z. absurd (omega arith) }

  unit-stores : (n : ℕ) → TurnIs (turn S₄ bytes c.changes c.ends c.marks (suc n) (opened (saved_of s))) c.turn c.changes' c.ends' c.marks'
      → 0 < settings.columns → (bad_width ≤ ByUnit.number_of c → ByUnit.number_of c ≤ bad_rows → ⊥) → UnitStores settings c s
  unit-stores n =
      turn-cases S₄ bytes c.changes c.ends c.marks n (saved_of s) (λ t. TurnIs t c.turn c.changes' c.ends' c.marks' → 0 < settings.columns → (bad_width ≤ ByUnit.number_of c → ByUnit.number_of c ≤ bad_rows → ⊥) → UnitStores settings c s)
      (λ e g w h. absurd (refused 6 (ap (λ (x : Answer). x.number) g.answer) (omega arith) (omega arith) h))
      (λ e f g w h. absurd (refused 7 (ap (λ (x : Answer). x.number) g.answer) (omega arith) (omega arith) h))
      (λ e f q g w h. absurd (refused 8 (ap (λ (x : Answer). x.number) g.answer) (omega arith) (omega arith) h))
      (λ e f q z g w h. absurd (omega arith))
      (λ e f q z g w h. reads g (passes-sound' bytes settings c s q))
    where
      refused : (m : ℕ) → ByUnit.number_of c ≡ m → bad_width ≤ m → m ≤ bad_rows → (bad_width ≤ ByUnit.number_of c → ByUnit.number_of c ≤ bad_rows → ⊥) → ⊥
      refused m e l k h = h (omega arith) (omega arith)

      o : Out Going Page.Answer
      o = call T₄ (bits_of bytes) (length c.changes) places (suc n) (more (going_of c.changes c.ends (saved_of s)))

      reads : TurnIs (read_on S₄ bytes c.changes c.ends c.marks (suc n) (saved_of s)) c.turn c.changes' c.ends' c.marks' → ByUnit.Sound bytes settings c s → UnitStores settings c s
      reads g h = record {
        more_rows = omega (arith, rows);
        rows_fit = omega (arith, rows, fits-ends S₄ T₄ xs es ms s.rows base most enough bs₄ o units w);
        marks_fit = omega (arith, rows, fits-marks S₄ T₄ xs es ms s.rows base most enough bs₄ o units w);
        entries_fit = omega (arith, entries', loose, w.roomy);
        rising = subst (Rows settings.columns) (sym closed) w.rising;
        counted = ap (λ (rs : List (List ℕ)). base + entries rs) closed ∙ sym entries';
        loose_rising = subst (Rising settings.columns 0) (sym loose-is) w.loose_rising;
        before_changes = ap (take base) g.changes ∙ before-anew xs put base small;
        before_ends = ap (take s.rows) g.ends ∙ before-anew es (ends_from base (so_far o).rows) s.rows (omega (arith, fits-ends S₄ T₄ xs es ms s.rows base most enough bs₄ o units w));
        before_marks = ap (take s.rows) g.marks ∙ before-anew ms (so_far o).marks s.rows (omega (arith, fits-marks S₄ T₄ xs es ms s.rows base most enough bs₄ o units w));
        later_changes =
            ap (drop (c.turn.answer.entries + c.turn.answer.loose)) g.changes
            ∙ later-anew xs put base small (c.turn.answer.entries + c.turn.answer.loose) (omega (arith, entries', loose, stored-long S₄ T₄ xs es ms s.rows base most enough bs₄ o units w));
        later_ends =
            ap (drop c.turn.answer.rows) g.ends
            ∙ later-anew es (ends_from base (so_far o).rows) s.rows (omega (arith, fits-ends S₄ T₄ xs es ms s.rows base most enough bs₄ o units w)) c.turn.answer.rows (omega (arith, rows, length-ends base (so_far o).rows));
        later_marks =
            ap (drop c.turn.answer.rows) g.marks
            ∙ later-anew ms (so_far o).marks s.rows (omega (arith, fits-marks S₄ T₄ xs es ms s.rows base most enough bs₄ o units w)) c.turn.answer.rows (omega (arith, rows, w.marks_are));
        more = λ e.
            let m = (said_has o out).more (sym number ∙ e) in
            record {
              bytes = ap (λ (x : Answer). x.bytes) g.answer ∙ m.0;
              place = ap (λ (x : Answer). x.place) g.answer ∙ m.1;
              next = λ u q. let k = counts-left u o _ (sym (ap reading_of q) ∙ g.reading) out in (k.0 ∙ sym rows, k.1 ∙ sym loose);
            };
        clean = λ e. ap (λ (x : Answer). x.loose) g.answer ∙ (said_has o out).clean (sym number ∙ e);
        short = λ e. let k = (said_has o out).short (sym number ∙ e) in (ap (λ (x : Answer). x.loose) g.answer ∙ k.0, ap (λ (x : Answer). x.bytes) g.answer ∙ k.1);
      }
        where
          xs : List ℕ
          xs = c.changes

          es : List ℕ
          es = c.ends

          ms : List ℕ
          ms = c.marks

          bs₄ : List Bool
          bs₄ = bits_of bytes

          units : ℕ
          units = taken T₄ bs₄ (length xs) places (suc n) (more (going_of xs es (saved_of s)))

          put : List ℕ
          put = joined (so_far o).rows ++ (so_far o).loose

          out : WellOut T₄ bs₄ (length xs) places s.rows base most enough o
          out = well-call T₄ bs₄ (length xs) places s.rows base most enough (suc n) (going_of xs es (saved_of s)) (well-start h)

          w : AnswersWell T₄ bs₄ (length xs) places s.rows base most enough (so_far o)
          w = well-so-far T₄ bs₄ (length xs) places s.rows base most enough o out

          number : c.turn.answer.number ≡ (unless_fewer S₄ (said_behind s.rows base (so_far o))).number
          number = ap (λ (x : Answer). x.number) g.answer

          rows : c.turn.answer.rows ≡ s.rows + length (so_far o).rows
          rows = ap (λ (x : Answer). x.rows) g.answer ∙ rows_are S₄ T₄ xs es ms s.rows base most enough bs₄ o units w

          entries' : c.turn.answer.entries ≡ base + entries (so_far o).rows
          entries' = ap (λ (x : Answer). x.entries) g.answer ∙ entries_are S₄ T₄ xs es ms s.rows base most enough bs₄ o units w

          loose : c.turn.answer.loose ≡ length (so_far o).loose
          loose = ap (λ (x : Answer). x.loose) g.answer ∙ loose-are S₄ T₄ xs es ms s.rows base most enough bs₄ o units w

          small : base ≤ length xs
          small = fits-changes S₄ T₄ xs es ms s.rows base most enough bs₄ o units w

          closed : rows_closed c s ≡ (so_far o).rows
          closed =
              (λ i. rows_in base (g.changes i) (part s.rows (g.answer i).rows (g.ends i)))
              ∙ closed-are S₄ T₄ xs es ms s.rows base most enough bs₄ o units w

          loose-is : loose_of c ≡ (so_far o).loose
          loose-is =
              (λ i. take (g.answer i).loose (drop (g.answer i).entries (g.changes i)))
              ∙ loose_at S₄ T₄ xs es ms s.rows base most enough bs₄ o units w

-- a call on an open page, by its N
pub at_open : (bytes : List ℕ) (settings : DecodeSettings) (c : UnitCall) (s : Saved) (C : ℕ → Type 0)
    → ((n : ℕ) → TurnIs (turn (as_group4 (settings_of settings)) bytes c.changes c.ends c.marks (suc n) (opened (saved_of s))) c.turn c.changes' c.ends' c.marks' → C (suc n))
    → UnitReading bytes settings c → 0 < c.n → c.reading ≡ Open s → C c.n
at_open bytes settings c s C f g some' q =
    cases c.n some' (subst (λ (r : Unit.Reading). TurnIs (turn (as_group4 (settings_of settings)) bytes c.changes c.ends c.marks c.n r) c.turn c.changes' c.ends' c.marks') (ap reading_of q) g)
  where
    cases : (n : ℕ) → 0 < n → TurnIs (turn (as_group4 (settings_of settings)) bytes c.changes c.ends c.marks n (opened (saved_of s))) c.turn c.changes' c.ends' c.marks' → C n
    cases zero p t = absurd (omega arith)
    cases (suc n) p t = f n t

pub unit-stored : UnitStored
unit-stored bytes settings c g some' s q wide served =
    at_open bytes settings c s (λ n. UnitStores settings c s) (λ n t. unit-stores bytes settings c s (most_pixels + s.run) (omega arith) (omega arith) n t wide served) g some' q

-- ---- Columns 0

pub no-columns-in-steps : NoColumnsInSteps
no-columns-in-steps = record { by_row = by-row'; by_unit = by-unit' }
  where
    by-row' : (bytes : List ℕ) (settings : DecodeSettings) (c : RowCall) → RowReading bytes settings c
        → c.state.end ≡ Unended → settings.columns ≡ 0 → length bytes ≤ most_bytes → ByRow.Sound bytes settings c → RowNothing c
    by-row' bytes settings c g open' z few h =
        let e = none in
        record {
          answer = g.answer ∙ ap (λ (x : Rule.RowStep). answer_of x.said) e;
          count = g.count ∙ ap count_of e;
          first = g.first ∙ ap (λ (x : Rule.RowStep). x.arrays.first) e;
          second = g.second ∙ ap (λ (x : Rule.RowStep). x.arrays.second) e;
          over = ap (λ (p : Rule.RowState). p.end) g.state ∙ ap (λ (x : Rule.RowStep). x.state.end) e;
        }
      where
        none : told bytes settings c ≡ no_columns (settings_of settings) bytes (row_state_of c.state) (both c.first c.second)
        none =
            call-cases (settings_of settings) bytes (row_state_of c.state) (both c.first c.second) (λ d. d ≡ no_columns (settings_of settings) bytes (row_state_of c.state) (both c.first c.second))
            (λ n place b loose e. absurd (let q : end_of c.state.end ≡ unended = ap end_of open' in let y : ◌≡◌ {A = ℕ} 0 1 = cc in omega arith))
            (λ u e. absurd (omega (arith, eqb-true settings.columns most_pixels e)))
            (λ u e l. absurd (omega arith))
            (λ u e l s. absurd (true≢false (sym (sound-passes bytes settings c h) ∙ s)))
            (λ u e l s k. refl)
            (λ u e l s k o q. absurd (omega arith))

    by-unit' : (bytes : List ℕ) (settings : DecodeSettings) (c : UnitCall) → UnitReading bytes settings c
        → 0 < c.n → (s : Saved) → c.reading ≡ Open s → settings.columns ≡ 0 → length bytes ≤ most_bytes → ByUnit.Sound bytes settings c s → UnitNothing c
    by-unit' bytes settings c g some' s q z few h = at_open bytes settings c s (λ n. UnitNothing c) none g some' q
      where
        none : (n : ℕ) → TurnIs (turn (as_group4 (settings_of settings)) bytes c.changes c.ends c.marks (suc n) (opened (saved_of s))) c.turn c.changes' c.ends' c.marks' → UnitNothing c
        none n =
            turn-cases (as_group4 (settings_of settings)) bytes c.changes c.ends c.marks n (saved_of s) (λ t. TurnIs t c.turn c.changes' c.ends' c.marks' → UnitNothing c)
            (λ e t. absurd (omega (arith, eqb-true settings.columns most_pixels e)))
            (λ e l t. absurd (omega arith))
            (λ e l k t. absurd (true≢false (sym (sound-passes' bytes settings c s h) ∙ k)))
            (λ e l k y t. record { answer = t.answer; units = t.units; changes = t.changes; ends = t.ends; marks = t.marks; over = t.reading })
            (λ e l k y t. absurd (omega arith))
