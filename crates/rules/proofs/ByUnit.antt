-- The form in calls, on lent arrays handed back as left: any choice of numbers gives the page form's answer, counts and arrays, after as many calls as
-- its units ask for; each call reports the smaller of its number and the units left; and none is refused. Assumes nothing.
use mathlib.Core.Path.{◌≡◌, refl, sym, ap, ap₂, ◌∙◌, subst}
use mathlib.Core.Bool.{Bool, true, false, cond, and-false}
use mathlib.Core.Logic.{◌⊎◌, inl, inr}
use mathlib.Core.List.{List, [], ◌∷◌, ◌++◌, append_assoc}
use Prim.Native.Nat.{ℕ, zero, suc, ◌+◌, ◌-◌, ◌*◌, ◌≤◌, ◌<◌, min}
use native.Mathlib.Nat.{min-le_left, min-le_right}
use native.Mathlib.Omega.{arith}
use lib.Dec.{eqb, ltb}
use lib.ListN.{length, take, drop, length-append}
use lib.Seq.{take_at, drop_at, drop-drop, drop-append-add}
use borrow.Author.Tests.{le-ltb, ltb-true, ltb-false, eqb-true, eqb-false, ne_eqb}
use Rattle.rules.specs.Machine.{Out, more, done}
use Rattle.rules.specs.Bits.{bits_of}
use Rattle.rules.specs.Eols.{eols_to}
use Rattle.rules.specs.Rows.{group4, Settings}
use Rattle.rules.specs.Pages.{Answer, entries, strict_if_exact, too_few, short_of, unless_short, most_bytes, is_too_wide, read_page, decode, overlaid, joined, ends_from, changes_after, ends_after, places_in, marks_after}
use Rattle.rules.specs.InSteps.{Said, says, says_only}
use Rattle.rules.specs.Units.{first, second, Stand, between, in_line, in_run, Keeping, Going, units_start, loose_of, so_far, keeps, call, taken, calls, total, same_each, calls_for, answer_behind, out_behind, anew, page_units}
use Rattle.rules.specs.ByUnit.{Saved, saved_start, going_of, base_of, sound, saved_at, saved_of, said_behind, unless_fewer, Reading, opened, ended, Turn, reading_after, overlaid_from, turn_of, still, read_on, turn_on, turn, turns}
use Rattle.rules.proofs.PageBack.{entries-snoc}
use Rattle.rules.proofs.Store.{length-joined, length-ends, length-overlaid, overlaid-behind, overlaid-nothing, entries-append, joined-append, ends-append}
use Rattle.rules.proofs.Budget.{whole-bytes}
use Rattle.rules.proofs.Answers.{short-rows, short-marks, short-loose, decode-reads}
use Rattle.rules.proofs.Calls.{total-same, calls-enough, calls-few, page-ended, page-open, page-takes}
use Rattle.rules.proofs.Frame.{call-anew}
use Rattle.rules.proofs.Fair.{Fair, FairOut, fair-start, fair-call}
use Rattle.rules.proofs.Turns.{InvOut, inv-call, size_of, size-call}
use Rattle.rules.proofs.Handed.{no_row, last_row, Counted, Holds, holds, handed, accepted}

-- ---- Any call

module _ (S : Settings) (bytes changes ends marks : List ℕ) (n : ℕ) where
  -- what a call on an open page does, by cases: it refuses with 6, 7 or 8 and leaves everything; has no columns; or reads on
  pub turn-cases : (s : Saved) (C : Turn → Type 0)
      → (is_too_wide S.columns ≡ true → C (still S bytes changes ends marks (says_only 6) (opened s)))
      → (is_too_wide S.columns ≡ false → most_bytes < length bytes → C (still S bytes changes ends marks (says_only 7) (opened s)))
      → (is_too_wide S.columns ≡ false → length bytes ≤ most_bytes → sound changes ends s S.columns (length (bits_of bytes)) (places_in ends marks) ≡ false → C (still S bytes changes ends marks (says_only 8) (opened s)))
      → (is_too_wide S.columns ≡ false → length bytes ≤ most_bytes → sound changes ends s S.columns (length (bits_of bytes)) (places_in ends marks) ≡ true → S.columns ≡ 0 → C (still S bytes changes ends marks (says_only 0) (ended (says_only 0))))
      → (is_too_wide S.columns ≡ false → length bytes ≤ most_bytes → sound changes ends s S.columns (length (bits_of bytes)) (places_in ends marks) ≡ true → 0 < S.columns → C (read_on S bytes changes ends marks (suc n) s))
      → C (turn S bytes changes ends marks (suc n) (opened s))
  unfolding turn turn_on
  turn-cases s C six seven eight none reads =
      tests (is_too_wide S.columns) refl (ltb most_bytes (length bytes)) refl (sound changes ends s S.columns (length (bits_of bytes)) (places_in ends marks)) refl (eqb S.columns 0) refl
    where
      tests : (a : Bool) → is_too_wide S.columns ≡ a → (b : Bool) → ltb most_bytes (length bytes) ≡ b → (c : Bool) → sound changes ends s S.columns (length (bits_of bytes)) (places_in ends marks) ≡ c
          → (d : Bool) → eqb S.columns 0 ≡ d → C (turn_on S bytes changes ends marks (suc n) s)
      tests true e b f c g d h = rw (e, turn_on) (six e)
      tests false e true f c g d h = rw (e, f, turn_on) (seven e (ltb-true most_bytes (length bytes) f))
      tests false e false f false g d h = rw (e, f, g, turn_on) (eight e (ltb-false most_bytes (length bytes) f) g)
      tests false e false f true g true h = rw (e, f, g, h, turn_on) (none e (ltb-false most_bytes (length bytes) f) g (eqb-true S.columns 0 h))
      tests false e false f true g false h =
          rw (e, f, g, h, turn_on) (reads e (ltb-false most_bytes (length bytes) f) g (let k : S.columns ≡ 0 → ⊥ = eqb-false S.columns 0 h in omega arith))

  -- After 0 to 5 and 14 the page has ended, with the answer to repeat.
  pub turn-ends : (r : Reading) → let t = turn S bytes changes ends marks (suc n) r in (t.answer.number ≤ 5) ⊎ (t.answer.number ≡ 14) → t.reading ≡ ended t.answer
  unfolding turn
  turn-ends (ended c) = λ h. refl
  turn-ends (opened s) =
      turn-cases s (λ t. (t.answer.number ≤ 5) ⊎ (t.answer.number ≡ 14) → t.reading ≡ ended t.answer)
      (λ e h. absurd (no_end 6 (omega arith) (omega arith) h)) (λ e f h. absurd (no_end 7 (omega arith) (omega arith) h)) (λ e f g h. absurd (no_end 8 (omega arith) (omega arith) h)) (λ e f g c h. refl)
      (λ e f g w. cases (call (strict_if_exact S) (bits_of bytes) (length changes) (places_in ends marks) (suc n) (more (going_of changes ends s))))
    where
      no_end : (n : ℕ) → 5 < n → (n ≡ 14 → ⊥) → (n ≤ 5) ⊎ (n ≡ 14) → ⊥
      no_end n h k (inl i) = omega arith
      no_end n h k (inr i) = k i

      cases : (o : Out Going Answer)
          → ((unless_fewer S (said_behind s.rows (base_of changes ends s) (so_far o))).number ≤ 5) ⊎ ((unless_fewer S (said_behind s.rows (base_of changes ends s) (so_far o))).number ≡ 14)
          → reading_after (unless_fewer S (said_behind s.rows (base_of changes ends s) (so_far o))) o ≡ ended (unless_fewer S (said_behind s.rows (base_of changes ends s) (so_far o)))
      cases (done a) h = refl
      cases (more g) h = absurd (no_end 15 (omega arith) (λ z. omega arith) (rw (and-false S.exact) at h))

  -- "A call after the end repeats that answer and writes nothing", whatever it is lent, and with any settings and data.
  pub turn-repeats : (c : Said) → turn S bytes changes ends marks (suc n) (ended c) ≡ still S bytes changes ends marks c (ended c)
  unfolding turn
  turn-repeats c = refl

-- ---- The arrays, handed back as left

-- an array that was begun with some loose entries, and is begun with no fewer
pub overlaid-longer : (front loose later array : List ℕ) (n : ℕ) → length front ≡ n → length loose ≤ length later
    → overlaid_from n later (overlaid (front ++ loose) array) ≡ overlaid (front ++ later) array
unfolding overlaid
overlaid-longer front loose later array n e h =
    ap (λ (l : List ℕ). take n l ++ (later ++ drop (length later) (drop n l))) (append_assoc front loose rest)
    ∙ ap₂ (λ (a b : List ℕ). a ++ (later ++ drop (length later) b)) (take_at front (loose ++ rest) n e) (drop_at front (loose ++ rest) n e)
    ∙ ap (λ (l : List ℕ). front ++ (later ++ l)) behind
    ∙ sym (append_assoc front later (drop (length (front ++ later)) array))
  where
    rest : List ℕ
    rest = drop (length (front ++ loose)) array

    more' : ℕ
    more' = length later - length loose

    behind : drop (length later) (loose ++ rest) ≡ drop (length (front ++ later)) array
    behind =
        ap (λ (m : ℕ). drop m (loose ++ rest)) (let z : length later ≡ length loose + more' = omega arith in z)
        ∙ drop-append-add loose rest more'
        ∙ drop-drop more' (length (front ++ loose)) array
        ∙ ap (λ (m : ℕ). drop m array) (let a = length-append front loose in let b = length-append front later in let z : length (front ++ loose) + more' ≡ length (front ++ later) = omega arith in z)

module _ (S : Settings) (wide : 0 < S.columns) (narrow : S.columns < 4294967295) (bytes : List ℕ) (few : length bytes ≤ most_bytes) (xs0 es0 ms0 : List ℕ) where
  abbrev bs : List Bool
  bs = bits_of bytes

  -- as the page is read
  abbrev T : Settings
  T = strict_if_exact S

  abbrev store : ℕ
  store = length xs0

  abbrev places : ℕ
  places = places_in es0 ms0

  pub counted-row : (k : Keeping) (r : List ℕ) (mark : ℕ) → Counted k → Counted (keeps T bs store places k r mark)
  counted-row k r mark c = record {
    rows = let a = length-append k.rows (r ∷ []) in let b = c.rows in omega arith;
    entries_are = ap (λ (n : ℕ). n + length r) c.entries_are ∙ sym (entries-snoc k.rows r);
    marks_are = let a = length-append k.marks (mark ∷ []) in let b = c.marks_are in omega arith;
    last = last_row k.rows r;
  }

  -- a reading, and what the caller holds of it
  pub record Tie (o : Out Going Answer) (reading : Reading) (xs es ms : List ℕ) : Type 0 where
    pub reading-is : reading ≡ reading_after (unless_fewer S (said_behind 0 0 (so_far o))) o
    pub changes_are : xs ≡ overlaid (joined (so_far o).rows ++ (so_far o).loose) xs0
    pub ends_are : es ≡ overlaid (ends_from 0 (so_far o).rows) es0
    pub marks_are : ms ≡ overlaid (so_far o).marks ms0
    pub fair : FairOut T wide bs (whole-bytes bytes) store places o
    pub counted : InvOut T bs store places Counted counted-row o

  pub tie-start : Tie (more units_start) (opened saved_start) xs0 es0 ms0
  unfolding joined ends_from entries
  tie-start = record {
    reading-is = refl;
    changes_are = sym (overlaid-nothing xs0);
    ends_are = sym (overlaid-nothing es0);
    marks_are = sym (overlaid-nothing ms0);
    fair = fair-start T wide bs (whole-bytes bytes) store places;
    counted = start-counted;
  }
    where
      start-counted : Counted units_start.keeping
      start-counted = record { rows = refl; entries_are = refl; marks_are = refl; last = no_row }

  -- what a call gives for a reading
  abbrev Gives : ℕ → Out Going Answer → Turn → Type 0
  Gives n o t =
      (t.answer ≡ unless_fewer S (said_behind 0 0 (so_far (call T bs store places n o))))
      × (t.units ≡ taken T bs store places n o)
      × Tie (call T bs store places n o) t.reading t.changes t.ends t.marks

  -- ---- What is held fits the arrays

  held_fits : (k : Keeping) (s : Stand) → Fair T wide bs (whole-bytes bytes) store places k s → k.base + length (loose_of s) ≤ store
  held_fits k (between e) f = omega (arith, f.kept.roomy)
  held_fits k (in_line l) f = omega (arith, f.kept.roomy, f.sound.roomy)
  held_fits k (in_run h l s) f = omega (arith, f.line.kept.roomy, f.line.sound.roomy)

  held-placed : (k : Keeping) (s : Stand) → Fair T wide bs (whole-bytes bytes) store places k s → k.count ≤ places
  held-placed k (between e) f = f.kept.placed
  held-placed k (in_line l) f = f.kept.placed
  held-placed k (in_run h l s) f = f.line.kept.placed

  rows_of : (n : ℕ) (s : Stand) → (saved_at n s).rows ≡ n
  rows_of n (between e) = refl
  rows_of n (in_line l) = refl
  rows_of n (in_run (first m) l s) = refl
  rows_of n (in_run (second m z) l s) = refl

  -- where the tests are passed, a call reads on
  passed : (n : ℕ) (xs es ms : List ℕ) (s : Saved) → sound xs es s S.columns (length bs) (places_in es ms) ≡ true → turn S bytes xs es ms (suc n) (opened s) ≡ read_on S bytes xs es ms (suc n) s
  unfolding turn turn_on
  passed n xs es ms s h = rw (ne_eqb S.columns 4294967295 (λ q. omega arith), le-ltb most_bytes (length bytes) few, h, ne_eqb S.columns 0 (λ q. omega arith), turn_on)

  module _ (g : Going) (f : Fair T wide bs (whole-bytes bytes) store places g.keeping g.stand) (c : Counted g.keeping) where
    abbrev k : Keeping
    k = g.keeping

    -- the arrays as they were left
    abbrev xs : List ℕ
    xs = overlaid (joined k.rows ++ loose_of g.stand) xs0

    abbrev es : List ℕ
    es = overlaid (ends_from 0 k.rows) es0

    abbrev ms : List ℕ
    ms = overlaid k.marks ms0

    xs-long : length xs ≡ store
    xs-long = length-overlaid (joined k.rows ++ loose_of g.stand) xs0 (omega (arith, length-append (joined k.rows) (loose_of g.stand), length-joined k.rows, c.entries_are, held_fits k g.stand f))

    same-places : places_in es ms ≡ places
    same-places =
        let h = held-placed k g.stand f in
        ap₂ min
        (length-overlaid (ends_from 0 k.rows) es0 (omega (arith, length-ends 0 k.rows, c.rows, h, min-le_left (length es0) (length ms0))))
        (length-overlaid k.marks ms0 (omega (arith, c.marks_are, h, min-le_right (length es0) (length ms0))))

    holding : Holds xs es k (loose_of g.stand)
    holding = holds k (loose_of g.stand) xs0 es0 c

    -- such a state is not refused
    pub not-refused : sound xs es (saved_of g) S.columns (length bs) (places_in es ms) ≡ true
    not-refused =
        ap (sound xs es (saved_of g) S.columns (length bs)) same-places
        ∙ accepted T wide bs (whole-bytes bytes) xs es store places xs-long k g.stand f holding

    abbrev after : ℕ → Out Going Answer
    after n = call T bs store places n (more (anew g))

    abbrev turned : ℕ → Turn
    turned n = turn_of S k.count k.base xs es ms (taken T bs store places n (more (anew g))) (after n)

    -- so the call reads on
    reads : (n : ℕ) → turn S bytes xs es ms (suc n) (opened (saved_of g)) ≡ turned (suc n)
    reads n = passed n xs es ms (saved_of g) not-refused ∙ same
      where
        rows_are : (saved_of g).rows ≡ k.count
        rows_are = rows_of k.count g.stand

        base-is : base_of xs es (saved_of g) ≡ k.base
        base-is = ap (λ (m : ℕ). base_of xs es (saved_at m (between (eols_to 0 0)))) rows_are ∙ holding.base-is

        going-is : going_of xs es (saved_of g) ≡ anew g
        going-is = handed xs es k g.stand holding

        same : read_on S bytes xs es ms (suc n) (saved_of g) ≡ turned (suc n)
        same = λ i. turn_of S (rows_are i) (base-is i) xs es ms (taken T bs (xs-long i) (same-places i) (suc n) (more (going-is i))) (call T bs (xs-long i) (same-places i) (suc n) (more (going-is i)))

    -- ---- What it gives, behind the rows kept before

    behind-answer : (o : Out Going Answer) → so_far (out_behind k.rows k.marks o) ≡ answer_behind k.rows k.marks (so_far o)
    behind-answer (more h) = refl
    behind-answer (done a) = refl

    behind-counts : (o : Out Going Answer) → said_behind k.count k.base (so_far o) ≡ said_behind 0 0 (so_far (out_behind k.rows k.marks o))
    behind-counts o =
        (λ i. says (so_far o).number (so_far o).place (so_far o).bytes (rows_are i) (entries_are i) (length (so_far o).loose))
        ∙ ap (said_behind 0 0) (sym (behind-answer o))
      where
        rows_are : k.count + length (so_far o).rows ≡ 0 + length (k.rows ++ (so_far o).rows)
        rows_are = omega (arith, c.rows, length-append k.rows (so_far o).rows)

        entries_are : k.base + entries (so_far o).rows ≡ 0 + entries (k.rows ++ (so_far o).rows)
        entries_are = omega (arith, c.entries_are, entries-append k.rows (so_far o).rows)

    behind-reading : (o : Out Going Answer)
        → reading_after (unless_fewer S (said_behind k.count k.base (so_far o))) o ≡ reading_after (unless_fewer S (said_behind 0 0 (so_far (out_behind k.rows k.marks o)))) (out_behind k.rows k.marks o)
    behind-reading (more h) = refl
    behind-reading (done a) = ap (λ (x : Said). ended (unless_fewer S x)) (behind-counts (done a))

    behind-changes : (o : Out Going Answer) → length (loose_of g.stand) ≤ size_of T bs store places o
        → overlaid_from k.base (joined (so_far o).rows ++ (so_far o).loose) xs ≡ overlaid (joined (so_far (out_behind k.rows k.marks o)).rows ++ (so_far (out_behind k.rows k.marks o)).loose) xs0
    behind-changes o h =
        overlaid-longer (joined k.rows) (loose_of g.stand) (joined (so_far o).rows ++ (so_far o).loose) xs0 k.base (length-joined k.rows ∙ sym c.entries_are)
        (omega (arith, h, length-append (joined (so_far o).rows) (so_far o).loose, length-joined (so_far o).rows))
        ∙ ap (λ (l : List ℕ). overlaid l xs0) (sym (append_assoc (joined k.rows) (joined (so_far o).rows) (so_far o).loose) ∙ ap (λ (l : List ℕ). l ++ (so_far o).loose) (sym (joined-append k.rows (so_far o).rows)))
        ∙ ap (λ (a : Answer). overlaid (joined a.rows ++ a.loose) xs0) (sym (behind-answer o))

    behind-ends : (o : Out Going Answer) → overlaid_from k.count (ends_from k.base (so_far o).rows) es ≡ overlaid (ends_from 0 (so_far (out_behind k.rows k.marks o)).rows) es0
    behind-ends o =
        overlaid-behind (ends_from 0 k.rows) (ends_from k.base (so_far o).rows) es0 k.count (length-ends 0 k.rows ∙ sym c.rows)
        ∙ ap (λ (l : List ℕ). overlaid l es0) (ap (λ (m : ℕ). ends_from 0 k.rows ++ ends_from m (so_far o).rows) (let q = c.entries_are in let z : k.base ≡ 0 + entries k.rows = omega arith in z) ∙ sym (ends-append 0 k.rows (so_far o).rows))
        ∙ ap (λ (a : Answer). overlaid (ends_from 0 a.rows) es0) (sym (behind-answer o))

    behind-marks : (o : Out Going Answer) → overlaid_from k.count (so_far o).marks ms ≡ overlaid (so_far (out_behind k.rows k.marks o)).marks ms0
    behind-marks o =
        overlaid-behind k.marks (so_far o).marks ms0 k.count c.marks_are
        ∙ ap (λ (a : Answer). overlaid a.marks ms0) (sym (behind-answer o))

    gives : (n : ℕ) → Gives (suc n) (more g) (turn S bytes xs es ms (suc n) (opened (saved_of g)))
    gives n =
        subst (Gives (suc n) (more g)) (sym (reads n)) (
          ap (unless_fewer S) (behind-counts (after (suc n)) ∙ ap (λ (o : Out Going Answer). said_behind 0 0 (so_far o)) (sym full)),
          sym (call-anew T bs store places (suc n) g).1,
          record {
            reading-is = behind-reading (after (suc n)) ∙ ap (λ (o : Out Going Answer). reading_after (unless_fewer S (said_behind 0 0 (so_far o))) o) (sym full);
            changes_are = behind-changes (after (suc n)) longer ∙ ap (λ (o : Out Going Answer). overlaid (joined (so_far o).rows ++ (so_far o).loose) xs0) (sym full);
            ends_are = behind-ends (after (suc n)) ∙ ap (λ (o : Out Going Answer). overlaid (ends_from 0 (so_far o).rows) es0) (sym full);
            marks_are = behind-marks (after (suc n)) ∙ ap (λ (o : Out Going Answer). overlaid (so_far o).marks ms0) (sym full);
            fair = fair-call T wide bs (whole-bytes bytes) store places (suc n) (more g) f;
            counted = inv-call T bs store places Counted counted-row (suc n) (more g) c;
          },
        )
      where
        full : call T bs store places (suc n) (more g) ≡ out_behind k.rows k.marks (after (suc n))
        full = (call-anew T bs store places (suc n) g).0

        longer : length (loose_of g.stand) ≤ size_of T bs store places (after (suc n))
        longer = omega (arith, size-call T bs store places (suc n) (anew g))

  -- ---- A call on what the last one handed back

  pub tie-call : (n : ℕ) (o : Out Going Answer) (reading : Reading) (xs es ms : List ℕ) → Tie o reading xs es ms → Gives (suc n) o (turn S bytes xs es ms (suc n) reading)
  unfolding turn call taken
  tie-call n (done a) reading xs es ms t =
      subst (λ (p : Reading). Gives (suc n) (done a) (turn S bytes xs es ms (suc n) p)) (sym t.reading-is)
      (refl, refl, record { reading-is = refl; changes_are = t.changes_are; ends_are = t.ends_are; marks_are = t.marks_are; fair = tt; counted = tt })
  tie-call n (more g) reading xs es ms t =
      subst (λ (p : Reading). Gives (suc n) (more g) (turn S bytes xs es ms (suc n) p)) (sym t.reading-is)
      (subst (λ (l : List ℕ). Gives (suc n) (more g) (turn S bytes l es ms (suc n) (opened (saved_of g)))) (sym t.changes_are)
      (subst (λ (l : List ℕ). Gives (suc n) (more g) (turn S bytes left l ms (suc n) (opened (saved_of g)))) (sym t.ends_are)
      (subst (λ (l : List ℕ). Gives (suc n) (more g) (turn S bytes left (overlaid (ends_from 0 g.keeping.rows) es0) l (suc n) (opened (saved_of g)))) (sym t.marks_are)
      (gives g t.fair t.counted n))))
    where
      left : List ℕ
      left = overlaid (joined g.keeping.rows ++ loose_of g.stand) xs0

  -- ---- Calls, one after the other

  abbrev Tied : Out Going Answer → Turn → Type 0
  Tied o t = Tie o t.reading t.changes t.ends t.marks

  abbrev next : ℕ → Turn → Turn
  next n t = turn S bytes t.changes t.ends t.marks n t.reading

  step : (n : ℕ) → 0 < n → (o : Out Going Answer) (t : Turn) → Tied o t → Gives n o (next n t)
  step zero h o t i = absurd (omega arith)
  step (suc n) h o t i = tie-call n o t.reading t.changes t.ends t.marks i

  -- each number is 1 or more
  unfoldable pub Positive : List ℕ → Type 0
  Positive [] = Unit {0}
  Positive (n ∷ ns) = (0 < n) × Positive ns

  tie-turns : (ns : List ℕ) → Positive ns → (o : Out Going Answer) (t : Turn) → Tied o t → Tied (calls T bs store places ns o) (turns S bytes ns t)
  unfolding Positive calls turns
  tie-turns [] h o t i = i
  tie-turns (n ∷ ns) h o t i = tie-turns ns h.1 (call T bs store places n o) (next n t) (step n h.0 o t i).2

  turns-answer : (n : ℕ) (ns : List ℕ) → Positive (n ∷ ns) → (o : Out Going Answer) (t : Turn) → Tied o t → (turns S bytes (n ∷ ns) t).answer ≡ unless_fewer S (said_behind 0 0 (so_far (calls T bs store places (n ∷ ns) o)))
  unfolding Positive calls turns
  turns-answer n [] h o t i = (step n h.0 o t i).0
  turns-answer n (m ∷ ns) h o t i = turns-answer m ns h.1 (call T bs store places n o) (next n t) (step n h.0 o t i).2

  module _ (enc : S.encoding ≡ group4) where
    abbrev units : ℕ
    units = page_units T bs store places

    -- the page form's answer
    abbrev answer : Answer
    answer = decode S bytes store places

    is-page : answer ≡ unless_short S (read_page T bs store places)
    is-page = decode-reads S wide narrow bytes few store places

    -- short of rows or not (A12), it is the same for both forms
    same-counts : (a : Answer) → unless_fewer S (said_behind 0 0 a) ≡ said_behind 0 0 (unless_short S a)
    same-counts a = ap (λ (n : ℕ). with_rows n) (let z : 0 + length a.rows ≡ length a.rows = omega arith in z) ∙ tests (too_few S a.number (length a.rows))
      where
        with_rows : ℕ → Said
        with_rows n = cond (too_few S a.number n) (said_behind 0 0 (short_of a)) (said_behind 0 0 a)

        tests : (t : Bool) → cond t (said_behind 0 0 (short_of a)) (said_behind 0 0 a) ≡ said_behind 0 0 (cond t (short_of a) a)
        tests true = refl
        tests false = refl

    -- the caller's start: the page's first state and the lent arrays
    abbrev begin : Turn
    begin = still S bytes xs0 es0 ms0 (said_behind 0 0 (so_far (more units_start))) (opened saved_start)

    -- "Any choice of N at each call, on the same data and with the store handed back as left, gives the page form's rows, answer and bytes", and its marks and place.
    pub turns-ended : (n : ℕ) (ns : List ℕ) → Positive (n ∷ ns) → units ≤ total (n ∷ ns)
        → ((turns S bytes (n ∷ ns) begin).answer ≡ said_behind 0 0 answer)
        × ((turns S bytes (n ∷ ns) begin).changes ≡ changes_after answer xs0)
        × ((turns S bytes (n ∷ ns) begin).ends ≡ ends_after answer es0)
        × ((turns S bytes (n ∷ ns) begin).marks ≡ marks_after answer ms0)
    unfolding changes_after ends_after marks_after
    turns-ended n ns h l =
        let e = page-ended T wide bs store places (whole-bytes bytes) enc n ns l in
        let a = read_page T bs store places in
        let t = tie-turns (n ∷ ns) h (more units_start) begin tie-start in (
          turns-answer n ns h (more units_start) begin tie-start ∙ ap (λ (o : Out Going Answer). unless_fewer S (said_behind 0 0 (so_far o))) e ∙ same-counts a ∙ ap (said_behind 0 0) (sym is-page),
          t.changes_are ∙ ap (λ (o : Out Going Answer). overlaid (joined (so_far o).rows ++ (so_far o).loose) xs0) e
              ∙ ap₂ (λ (r : List (List ℕ)) (x : List ℕ). overlaid (joined r ++ x) xs0) (sym (short-rows S a)) (sym (short-loose S a)) ∙ ap (λ (x : Answer). overlaid (joined x.rows ++ x.loose) xs0) (sym is-page),
          t.ends_are ∙ ap (λ (o : Out Going Answer). overlaid (ends_from 0 (so_far o).rows) es0) e
              ∙ ap (λ (r : List (List ℕ)). overlaid (ends_from 0 r) es0) (sym (short-rows S a)) ∙ ap (λ (x : Answer). overlaid (ends_from 0 x.rows) es0) (sym is-page),
          t.marks_are ∙ ap (λ (o : Out Going Answer). overlaid (so_far o).marks ms0) e
              ∙ ap (λ (m : List ℕ). overlaid m ms0) (sym (short-marks S a)) ∙ ap (λ (x : Answer). overlaid x.marks ms0) (sym is-page),
        )

    -- fewer units leave more to come
    pub turns-open : (n : ℕ) (ns : List ℕ) → Positive (n ∷ ns) → total (n ∷ ns) < units → ((turns S bytes (n ∷ ns) begin).answer.number ≡ 15) × ((turns S bytes (n ∷ ns) begin).answer.bytes ≡ 0)
    turns-open n ns h l =
        let e = page-open T wide bs store places (whole-bytes bytes) enc (n ∷ ns) l in
        let a = turns-answer n ns h (more units_start) begin tie-start ∙ ap (λ (o : Out Going Answer). unless_fewer S (said_behind 0 0 (so_far o))) e.1 ∙ open-counts e.0 in
        (ap (λ (c : Said). c.number) a, ap (λ (c : Said). c.bytes) a)
      where
        -- 15 is no end
        open-counts : (g : Going) → unless_fewer S (said_behind 0 0 (so_far (more g))) ≡ said_behind 0 0 (so_far (more g))
        open-counts g = rw (and-false S.exact)

    -- "Each call takes exactly the smaller of N and the units left, and reports that number."
    pub turns-report : (ns : List ℕ) (n : ℕ) → Positive ns → 0 < n → (next n (turns S bytes ns begin)).units ≡ min n (units - total ns)
    turns-report ns n h p =
        (step n p (calls T bs store places ns (more units_start)) (turns S bytes ns begin) (tie-turns ns h (more units_start) begin tie-start)).1
        ∙ page-takes T wide bs store places (whole-bytes bytes) enc ns n

    -- "A page of U units is done after U/N calls rounded up, or one call if U is 0."
    module _ (n : ℕ) (p : 0 < n) where
      same-positive : (i : ℕ) → Positive (same_each i n)
      unfolding Positive same_each
      same-positive zero = tt
      same-positive (suc i) = (p, same-positive i)

      pub turns-after : (turns S bytes (same_each (calls_for units n) n) begin).answer ≡ said_behind 0 0 answer
      unfolding same_each
      turns-after = let h = calls-enough units n p in cases (calls_for units n) h.0 h.1
        where
          cases : (i : ℕ) → 0 < i → units ≤ i * n → (turns S bytes (same_each i n) begin).answer ≡ said_behind 0 0 answer
          cases zero l h = absurd (omega arith)
          cases (suc i) l h = (turns-ended n (same_each i n) (same-positive (suc i)) (let z = total-same (suc i) n in omega arith)).0

      pub turns-before : (i : ℕ) → suc i < calls_for units n → (turns S bytes (same_each (suc i) n) begin).answer.number ≡ 15
      unfolding same_each
      turns-before i l = (turns-open n (same_each i n) (same-positive (suc i)) (let z = total-same (suc i) n in let y = calls-few units n p i l in omega arith)).0
