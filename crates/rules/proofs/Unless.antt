-- Two readings that are the same, unless something holds of the first (it found no room; it was refused): through tests, machines, lines and rows. Assumes nothing.
use mathlib.Core.Path.{◌≡◌, refl}
use mathlib.Core.Bool.{Bool, true, false, cond, not, ◌&&◌, ◌||◌}
use mathlib.Core.List.{List}
use mathlib.Core.Option.{Option, none, some}
use Prim.Native.Nat.{ℕ, zero, suc, ◌-◌, ◌≤◌}
use native.Mathlib.Omega.{arith}
use lib.Dec.{eqb, leb, ltb}
use lib.ListN.{length, drop}
use borrow.Author.Tests.{leb-true, le-leb}
use Rattle.rules.specs.Machine.{Out, more, done, and_then, run, ends}
use Rattle.rules.specs.Bits.{front_bit}
use Rattle.rules.specs.Lines.{Line, Went, went, failed, next, push, Kind, one, two, go_on, line_of, line_step, line_end, read_line}
use Rattle.rules.specs.Eols.{Eols, eols_to, skip_to_eol}
use Rattle.rules.specs.Rows.{Encoding, group4, group3_1_d, group3_2_d, Settings, State, recovered_mark, RowOut, stop, rules_of, aligned_if}
use Rattle.rules.specs.Group4.{row4, after_line4, line_or_end, eols_before, over}
use Rattle.rules.specs.Group3.{Tagging, untagged, tagged, eols3, Before, at_line, at_end, judged, searched, missing, lacking, checked, before, tagged_line, line_of_tag, line3, kept, whitened, recovered, after_line3, row_from, row3}
use Rattle.rules.specs.Pages.{row_of}

module _ {A : Type 0} where
  -- the second is the first, unless this holds of the first
  pub data Unless (P : A → Type 0) : A → A → Type 0 where
    same : {a : A} → Unless P a a
    but : {a b : A} → P a → Unless P a b

  -- so where it does not, the second is the first
  pub unless_not : {P : A → Type 0} {a b : A} → Unless P a b → (P a → ⊥) → b ≡ a
  unless_not same h = refl
  unless_not (but p) h = absurd (h p)

  -- by the same test
  pub unless-cond : {P : A → Type 0} {a b c d : A} (t : Bool) → Unless P a c → Unless P b d → Unless P (cond t a b) (cond t c d)
  unless-cond true p q = p
  unless-cond false p q = q

  -- n entries find room, and then in more of it too; else it holds
  pub unless-fits : {P : A → Type 0} (n small large : ℕ) → small ≤ large → (a b : A) → P b → Unless P (cond (leb n small) a b) (cond (leb n large) a b)
  unless-fits {P} n small large le a b p = tests (leb n small) refl
    where
      tests : (t : Bool) → leb n small ≡ t → Unless P (cond t a b) (cond (leb n large) a b)
      tests true e = rw (le-leb n large (omega (arith, leb-true n small e))) same
      tests false e = but p

-- ---- Machines

module _ {S A : Type 0} (P : A → Type 0) where
  -- an end of which it holds
  abbrev pub Ended : Out S A → Type 0
  Ended (more s) = ⊥
  Ended (done a) = P a

  -- one step and then the next
  and-then : {o o' : Out S A} (j k : S → Out S A) → Unless Ended o o' → ((s : S) → Unless Ended (j s) (k s)) → Unless Ended (and_then o j) (and_then o' k)
  and-then {o = more s} j k same h = h s
  and-then {o = done a} j k same h = same
  and-then {o = more s} j k (but p) h = absurd p
  and-then {o = done a} j k (but p) h = but p

  -- what holds for each step holds for any number of them
  pub run-unless : (step step' : S → Out S A) → ((s : S) → Unless Ended (step s) (step' s)) → (n : ℕ) (s : S) → Unless Ended (run step n s) (run step' n s)
  unfolding run
  run-unless step step' h zero s = same
  run-unless step step' h (suc n) s = and-then (run step n) (run step' n) (h s) (run-unless step step' h n)

  -- and for what they come to
  pub end-unless : {o o' : Out S A} (end : Out S A → A) → ((a : A) → P a → P (end (done a))) → Unless Ended o o' → Unless P (end o) (end o')
  end-unless end h same = same
  end-unless {o = more s} end h (but p) = absurd p
  end-unless {o = done a} end h (but p) = but (h a p)

-- ---- Lines: it holds of none that goes on

module _ (P : Went → Type 0) (fails : (s : Line) → P (went s) → ⊥) where
  -- one part of a code and then the next
  pub next-unless : {v w : Went} (j k : Line → Went) → Unless P v w → ((s : Line) → Unless P (j s) (k s)) → Unless P (next v j) (next w k)
  next-unless {v = went s} j k same h = h s
  next-unless {v = failed n place s} j k same h = same
  next-unless {v = went s} j k (but p) h = absurd (fails s p)
  next-unless {v = failed n place s} j k (but p) h = but p

  -- a line, where it is so for each code
  pub line-unless : (width : ℕ) (j k : Line → Went) → ((s : Line) → Unless P (j s) (k s)) → (bs : List Bool) (s : Line) → Unless P (line_end width j bs s) (line_end width k bs s)
  unfolding line_end line_step ends
  line-unless width j k h bs s = end-unless P line_of (λ w p. p) (run-unless P (line_step width j) (line_step width k) step (suc (length bs - s.at)) s)
    where
      goes : {v w : Went} → Unless P v w → Unless (Ended P) (go_on v) (go_on w)
      goes same = same
      goes {v = went t} (but p) = absurd (fails t p)
      goes {v = failed n place t} (but p) = but p

      step : (t : Line) → Unless (Ended P) (line_step width j t) (line_step width k t)
      step t = unless-cond (eqb t.position width) same (goes (h t))

-- ---- Rows, under settings that are the same but for exact

abbrev pub with_exact : Bool → Settings → Settings
with_exact exact S = record {
  columns = S.columns;
  rows = S.rows;
  end_of_block = S.end_of_block;
  end_of_line = S.end_of_line;
  aligned = S.aligned;
  encoding = S.encoding;
  strict = S.strict;
  exact = exact;
}

-- Where it is so for the lines and for the white that mends one, and no line of which it holds is mended.
module _ (S : Settings) (exact exact' : Bool) (bs : List Bool) (room room' : ℕ) (P : Went → Type 0) (Q : RowOut → Type 0) (fails : (s : Line) → P (went s) → ⊥)
    (lines : (kind : Kind) (at : ℕ) → Unless P (read_line (rules_of (with_exact exact S) room) kind bs at) (read_line (rules_of (with_exact exact' S) room') kind bs at))
    (whites : (count : ℕ) (s : Line) → Unless P (push (rules_of (with_exact exact S) room) 0 count s) (push (rules_of (with_exact exact' S) room') 0 count s))
    (unmended : (n place : ℕ) (s : Line) (expected : Bool) → P (failed n place s) → ((expected && not S.strict) && leb n 3) ≡ false)
    (stops : (n place : ℕ) (s : Line) → P (failed n place s) → Q (stop n place 0 s.changes)) where
  abbrev A : Settings
  A = with_exact exact S

  abbrev B : Settings
  B = with_exact exact' S

  -- a row of Group 4
  row4-unless : (st : State) → Unless Q (row4 A bs room st) (row4 B bs room' st)
  unfolding row4
  row4-unless st = tests (over S bs st (eols_before S bs st))
    where
      after : {v w : Went} → Unless P v w → Unless Q (after_line4 A bs st v) (after_line4 B bs st w)
      after {v = went l} same = same
      after {v = failed n place l} same = same
      after {v = went l} (but p) = absurd (fails l p)
      after {v = failed n place l} (but p) = but (stops n place l p)

      tests : (b : Bool) → Unless Q (line_or_end A bs room st (eols_before S bs st) b) (line_or_end B bs room' st (eols_before S bs st) b)
      tests true = same
      tests false = after (lines (two st.reference) (eols_before S bs st).at)

  module _ (t : Tagging) (st : State) where
    line3-unless : (at : ℕ) (u : Tagging) → Unless P (line3 A t bs (rules_of A room) st.reference at u) (line3 B t bs (rules_of B room') st.reference at u)
    line3-unless at untagged = lines one at
    line3-unless at tagged = there (ltb at (length bs))
      where
        tags : (b : Bool) → Unless P (tagged_line A t bs (rules_of A room) st.reference at b) (tagged_line B t bs (rules_of B room') st.reference at b)
        tags true = lines one (suc at)
        tags false = lines (two st.reference) (suc at)

        there : (b : Bool) → Unless P (line_of_tag A t bs (rules_of A room) st.reference at b) (line_of_tag B t bs (rules_of B room') st.reference at b)
        there true = tags (front_bit (drop at bs))
        there false = same

    after3-unless : {v w : Went} (at : ℕ) (expected : Bool) → Unless P v w → Unless Q (after_line3 A t bs (rules_of A room) st at expected v) (after_line3 B t bs (rules_of B room') st at expected w)
    after3-unless {v = went l} at expected same = same
    after3-unless {v = failed n place l} at expected same = mends ((expected && not S.strict) && leb n 3)
      where
        keeps : {v w : Went} → Unless P v w → Unless Q (kept A t bs st expected at recovered_mark v) (kept B t bs st expected at recovered_mark w)
        keeps {v = went u} same = same
        keeps {v = failed m p u} same = same
        keeps {v = went u} (but p) = absurd (fails u p)
        keeps {v = failed m p u} (but q) = but (stops m p u q)

        mends : (b : Bool) → Unless Q (recovered A t bs (rules_of A room) st at expected n place l b) (recovered B t bs (rules_of B room') st at expected n place l b)
        mends true = keeps (whites (S.columns - l.position) (whitened S t bs l))
        mends false = same
    after3-unless {v = went l} at expected (but p) = absurd (fails l p)
    after3-unless {v = failed n place l} at expected (but p) = rw (unmended n place l expected p) (but (stops n place l p))

    abbrev From : Before A t bs → Before B t bs → Type 0
    From x y = Unless Q (row_from A t bs room st x) (row_from B t bs room' st y)

    -- what stands before a row is told alike
    judged-unless : (rows_done expected : Bool) (e : Eols) → From (judged A t bs rows_done expected e) (judged B t bs rows_done expected e)
    judged-unless rows_done expected e = tests ((S.end_of_block && leb 6 e.count) || (rows_done || leb (length bs) e.at))
      where
        tests : (b : Bool) → From (cond b (at_end e.at) (at_line e.at expected)) (cond b (at_end e.at) (at_line e.at expected))
        tests true = same
        tests false = after3-unless e.at expected (line3-unless e.at t)

    before-unless : (first : Bool) → From (before A t bs st first) (before B t bs st first)
    before-unless true = after3-unless _ _ (line3-unless _ t)
    before-unless false = tests (lacking S t bs rows_done st e)
      where
        rows_done : Bool
        rows_done = eqb st.count S.rows

        e : Eols
        e = eols3 bs t (aligned_if (S.aligned && not st.eols) st.at)

        search : (o : Option ℕ) → From (searched A t bs e.at o) (searched B t bs e.at o)
        search (some a) = judged-unless false true (eols3 bs t a)
        search none = judged-unless false false (eols_to 0 e.at)

        misses : (strict : Bool) → From (missing A t bs strict e.at) (missing B t bs strict e.at)
        misses true = same
        misses false = search (skip_to_eol bs e.at)

        tests : (b : Bool) → From (checked A t bs rows_done st e b) (checked B t bs rows_done st e b)
        tests true = misses S.strict
        tests false = judged-unless rows_done st.eols e

    row3-unless : Unless Q (row3 A t bs room st) (row3 B t bs room' st)
    unfolding row3
    row3-unless = before-unless (eqb st.count 0)

  -- a row of any encoding
  pub row-unless : (e : Encoding) (st : State) → Unless Q (row_of e A bs room st) (row_of e B bs room' st)
  unfolding row_of
  row-unless group4 st = row4-unless st
  row-unless group3_1_d st = row3-unless untagged st
  row-unless group3_2_d st = row3-unless tagged st
