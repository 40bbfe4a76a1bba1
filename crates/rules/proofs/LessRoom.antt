-- With less room a line and a row come out the same where their changes fit, and else are 4 with the front of the changes that fits: changes are only ever appended, and 4 is
-- never recovered from. And a 4 leaves no entry unused. Assumes nothing.
use mathlib.Core.Path.{◌≡◌, refl, sym, ap, ◌∙◌, subst}
use mathlib.Core.Bool.{Bool, true, false, cond, not, ◌&&◌, and-false}
use mathlib.Core.List.{List, [], ◌∷◌, ◌++◌, append_assoc, append-nil}
use Prim.Native.Nat.{ℕ, zero, suc, ◌+◌, ◌-◌, ◌≤◌, ◌<◌}
use native.Mathlib.Omega.{arith}
use lib.Dec.{eqb, leb, ltb}
use lib.ListN.{length, take, drop, length-append}
use lib.Seq.{take_at, take-append-le}
use borrow.Author.Tests.{leb-true, leb-false}
use Rattle.rules.specs.Machine.{Out, done, and_then, run, ends}
use Rattle.rules.specs.Bits.{front_bit}
use Rattle.rules.specs.Codes.{differ}
use Rattle.rules.specs.Runs.{Res, ok, fault, Sum, sum, read_run, unreachable}
use Rattle.rules.specs.Modes.{Mode, pass, horizontal, VR, VL, Moded, read_mode}
use Rattle.rules.specs.Lines.{Rules, Line, line, new_line, turned, moved_to, with_cut, Went, went, failed, next, last_colour, recorded, add, push, push_turn, after_run, push_run, b1, b2, vertical, idle, unless_idle, apply, after_mode, code_2d, Kind, one, two, code_of, go_on, line_of, line_step, line_end, read_line, line_in}
use Rattle.rules.specs.Rows.{Encoding, group4, group3_1_d, group3_2_d, Settings, State, read_mark, recovered_mark, RowOut, row, stop, rules_of}
use Rattle.rules.specs.Group4.{row4, after_line4, line_or_end, eols_before, over}
use Rattle.rules.specs.Group3.{Tagging, untagged, tagged, Before, at_line, at_end, at_no_eol, before, tagged_line, line_of_tag, line3, kept, whitened, recovered, after_line3, row_from, row3}
use Rattle.rules.specs.Pages.{row_of}
use Rattle.rules.proofs.Runs.{Within, read-within}
use Rattle.rules.proofs.Modes.{ModeAt, mode_is_at}
use Rattle.rules.proofs.Lines.{unless-idle, idle-stays}
use Rattle.rules.proofs.Grows.{apply-grows}

-- ---- Changes are only ever appended

-- the second list is the first, and then others
record Begins (xs ys : List ℕ) : Type 0 where
  later : List ℕ
  is : ys ≡ xs ++ later

begins-same : (xs : List ℕ) → Begins xs xs
begins-same xs = record { later = []; is = sym (append-nil xs) }

begins-then : {xs ys zs : List ℕ} → Begins xs ys → Begins ys zs → Begins xs zs
begins-then {xs} p q = record { later = p.later ++ q.later; is = q.is ∙ ap (λ (l : List ℕ). l ++ q.later) p.is ∙ append_assoc xs p.later q.later }

-- the changes of a line, whole or not
abbrev pub changes_of : Went → List ℕ
changes_of (went s) = s.changes
changes_of (failed n place s) = s.changes

-- ---- With less room

-- The second was read with room for n changes or more. With room for n it is the same, if its changes fit; else 4, and the changes are the first n.
pub data Cut (n : ℕ) : Went → Went → Type 0 where
  same : {w : Went} → length (changes_of w) ≤ n → Cut n w w
  short : {s : Line} {w : Went} → n < length (changes_of w) → s.changes ≡ take n (changes_of w) → Cut n (failed 4 0 s) w

-- where it is 4, no entry is left
abbrev pub Fills : ℕ → Went → Type 0
Fills room (went s) = Unit {0}
Fills room (failed n place s) = n ≡ 4 → room ≤ length s.changes

-- the front of a list that goes on
front-on : {n : ℕ} {front xs ys : List ℕ} → n < length xs → front ≡ take n xs → Begins xs ys → (n < length ys) × (front ≡ take n ys)
front-on {n} {front} {xs} {ys} h e g =
    (omega (arith, ap length g.is, length-append xs g.later), e ∙ sym (ap (take n) g.is ∙ take-append-le n xs g.later (omega arith)))

module _ (width : ℕ) (strict exact : Bool) (small large : ℕ) (le : small ≤ large) where
  abbrev P : Rules
  P = record { width = width; strict = strict; exact = exact; room = small }

  abbrev Q : Rules
  Q = record { width = width; strict = strict; exact = exact; room = large }

  -- what a code makes of a line with these changes: with less room, and with more
  record Both (xs : List ℕ) (v w : Went) : Type 0 where
    grows : Begins xs (changes_of w)
    cuts : length xs ≤ small → Cut small v w
    fills : Fills large w

  -- the line goes on as it is, or fails with another number than 4
  both-went : (s : Line) → Both s.changes (went s) (went s)
  both-went s = record { grows = begins-same s.changes; cuts = λ h. same h; fills = tt }

  both-failed : (n place : ℕ) (s : Line) → (n ≡ 4 → ⊥) → Both s.changes (failed n place s) (failed n place s)
  both-failed n place s z = record { grows = begins-same s.changes; cuts = λ h. same h; fills = λ q. absurd (z q) }

  both_cond : {xs : List ℕ} {a b c d : Went} (t : Bool) → Both xs a c → Both xs b d → Both xs (cond t a b) (cond t c d)
  both_cond true p q = p
  both_cond false p q = q

  -- one part of a code and then the next
  both-next : {xs : List ℕ} {v w : Went} (j k : Line → Went) → Both xs v w → ((s : Line) → Both s.changes (j s) (k s)) → Both xs (next v j) (next w k)
  both-next {xs} {v} {w} j k b h = record { grows = on w b.grows; cuts = λ l. cut (b.cuts l); fills = filled w b.fills }
    where
      on : (w : Went) → Begins xs (changes_of w) → Begins xs (changes_of (next w k))
      on (went s) g = begins-then g (h s).grows
      on (failed n place s) g = g

      cut : {v w : Went} → Cut small v w → Cut small (next v j) (next w k)
      cut (same {w = went s} l) = (h s).cuts l
      cut (same {w = failed n place s} l) = same l
      cut (short {w = went s} l e) = let f = front-on l e (h s).grows in short f.0 f.1
      cut (short {w = failed n place s} l e) = short l e

      filled : (w : Went) → Fills large w → Fills large (next w k)
      filled (went s) f = (h s).fills
      filled (failed n place s) f = f

  -- ---- Pixels

  recorded-begins : (s : Line) → (later : List ℕ) × (recorded s ≡ s.changes ++ later) × (length later ≤ 1)
  unfolding recorded
  recorded-begins s = tests (differ (last_colour s.changes) s.colour)
    where
      tests : (b : Bool) → (later : List ℕ) × (cond b (s.changes ++ s.position ∷ []) s.changes ≡ s.changes ++ later) × (length later ≤ 1)
      tests true = (s.position ∷ [], refl, omega arith)
      tests false = ([], sym (append-nil s.changes), omega arith)

  -- a count that fits the line
  add-both : (count : ℕ) (s : Line) → Both s.changes (add P count s) (add Q count s)
  unfolding add
  add-both count s = both_cond (eqb count 0) (both-went s) (tests (leb (length (recorded s)) small) refl (leb (length (recorded s)) large) refl)
    where
      on : Went
      on = went (line s.at (s.position + count) s.colour (recorded s) s.cut)

      r : (later : List ℕ) × (recorded s ≡ s.changes ++ later) × (length later ≤ 1)
      r = recorded-begins s

      size : length (recorded s) ≡ length s.changes + length r.0
      size = ap length r.1 ∙ length-append s.changes r.0

      goes : Begins s.changes (recorded s)
      goes = record { later = r.0; is = r.1 }

      tests : (b : Bool) → leb (length (recorded s)) small ≡ b → (c : Bool) → leb (length (recorded s)) large ≡ c → Both s.changes (cond b on (failed 4 0 s)) (cond c on (failed 4 0 s))
      tests true p true q = record { grows = goes; cuts = λ h. same (leb-true (length (recorded s)) small p); fills = tt }
      tests true p false q = absurd (omega (arith, leb-true (length (recorded s)) small p, leb-false (length (recorded s)) large q))
      tests false p true q =
          let l : small < length (recorded s) = leb-false (length (recorded s)) small p in
          record {
            grows = goes;
            cuts = λ h. short l (sym (ap (take small) r.1 ∙ take_at s.changes r.0 small (omega (arith, size, r.2))));
            fills = tt;
          }
      tests false p false q = record { grows = begins-same s.changes; cuts = λ h. same h; fills = λ z. omega (arith, leb-false (length (recorded s)) large q, size, r.2) }

  -- any count
  push-both : (place count : ℕ) (s : Line) → Both s.changes (push P place count s) (push Q place count s)
  unfolding push
  push-both place count s =
      both_cond (leb count (width - s.position)) (add-both count s)
      (both_cond strict (both-failed 1 place s (λ q. omega arith)) (add-both (width - s.position) (with_cut s)))

  -- with its turn
  turn-both : (place count : ℕ) (s : Line) → Both s.changes (push_turn P place count s) (push_turn Q place count s)
  turn-both place count s = both-next (λ t. went (turned t)) (λ t. went (turned t)) (push-both place count s) (λ t. both-went (turned t))

  -- ---- Codes

  -- a run
  run-both : (bs : List Bool) (s : Line) → Both s.changes (push_run P bs s) (push_run Q bs s)
  unfolding push_run
  run-both bs s = cases (read_run s.colour bs s.at) (read-within s.colour bs s.at)
    where
      cases : (r : Res Sum) → Within bs (sum s.at 0) r → Both s.changes (after_run P s r) (after_run Q s r)
      cases (ok r) w = turn-both s.at r.total (moved_to r.at s)
      cases (fault n place) w = both-failed n place s (λ q. omega arith)

  module _ (reference : List ℕ) (bs : List Bool) where
    -- a vertical mode
    vertical-both : (place a1 : ℕ) (s : Line) → Both s.changes (vertical P reference place a1 s) (vertical Q reference place a1 s)
    unfolding vertical
    vertical-both place a1 s = both_cond (leb a1 4294967295 && leb s.position a1) (turn-both place (a1 - s.position) s) (both-failed 3 place s (λ q. omega arith))

    -- any mode
    apply-both : (place : ℕ) (mode : Mode) (s : Line) → Both s.changes (apply P reference bs place mode s) (apply Q reference bs place mode s)
    unfolding apply
    apply-both place pass s = push-both place (b2 width reference s.position s.colour - s.position) s
    apply-both place horizontal s = both-next (push_run P bs) (push_run Q bs) (run-both bs s) (run-both bs)
    apply-both place (VR k) s = vertical-both place (b1 width reference s.position s.colour + k) s
    apply-both place (VL k) s =
        both_cond (leb k (b1 width reference s.position s.colour)) (vertical-both place (b1 width reference s.position s.colour - k) s) (both-failed 3 place s (λ q. omega arith))

    -- A code that may be idle: it is so only where the position stays, and so do the changes.
    idle-both : {v w : Went} (mode : Mode) (s : Line) → ((line_in w).position ≡ s.position → (line_in w).changes ≡ s.changes) → Both s.changes v w → Both s.changes (unless_idle P mode s v) (unless_idle Q mode s w)
    idle-both {v} {w} mode s still b = record {
      grows = unless-idle Q mode s (λ u. Begins s.changes (changes_of u)) (begins-same s.changes) w b.grows;
      cuts = λ h. cut h still (b.cuts h);
      fills = unless-idle Q mode s (Fills large) (λ q. absurd (omega arith)) w b.fills;
    }
      where
        cut : {v w : Went} → length s.changes ≤ small → ((line_in w).position ≡ s.position → (line_in w).changes ≡ s.changes) → Cut small v w → Cut small (unless_idle P mode s v) (unless_idle Q mode s w)
        cut h still (same {w = went t} l) = tests (exact && idle mode s t)
          where
            tests : (b : Bool) → Cut small (cond b (failed 1 s.at s) (went t)) (cond b (failed 1 s.at s) (went t))
            tests true = same h
            tests false = same l
        cut h still (same {w = failed n place t} l) = same l
        cut h still (short {s = u} {w = went t} l e) = tests exact (idle mode s t) refl
          where
            tests : (x b : Bool) → idle mode s t ≡ b → Cut small (failed 4 0 u) (cond (x && b) (failed 1 s.at s) (went t))
            tests true true q = absurd (omega (arith, ap length (still (idle-stays mode s t q))))
            tests true false q = short l e
            tests false b q = short l e
        cut h still (short {w = failed n place t} l e) = short l e

    -- a mode that is read
    mode-both : (s : Line) → Both s.changes (code_2d P reference bs s) (code_2d Q reference bs s)
    unfolding code_2d
    mode-both s = cases (read_mode bs s.at) (mode_is_at bs s.at)
      where
        cases : (r : Res Moded) → ModeAt bs s.at r → Both s.changes (after_mode P reference bs s r) (after_mode Q reference bs s r)
        cases (ok m) w =
            idle-both m.mode s (apply-grows Q reference bs s.at m.mode (moved_to m.at s)).still (apply-both s.at m.mode (moved_to m.at s))
        cases (fault n place) w = both-failed n place s (λ q. omega arith)

  -- a code of either kind of line
  code-both : (kind : Kind) (bs : List Bool) (s : Line) → Both s.changes (code_of P kind bs s) (code_of Q kind bs s)
  code-both one bs s = run-both bs s
  code-both (two reference) bs s = mode-both reference bs s

  -- ---- A line

  -- to go on from what a code left is to go on with the next
  goes_on : (f : Line → Out Line Went) (w : Went) → line_of (and_then (go_on w) f) ≡ next w (λ s. line_of (f s))
  goes_on f (went s) = refl
  goes_on f (failed n place s) = refl

  steps-both : (kind : Kind) (bs : List Bool) (n : ℕ) (s : Line)
      → Both s.changes (line_of (run (line_step width (code_of P kind bs)) n s)) (line_of (run (line_step width (code_of Q kind bs)) n s))
  unfolding run line_step
  steps-both kind bs zero s = both-failed unreachable 0 s (λ q. omega arith)
  steps-both kind bs (suc n) s = tests (eqb s.position width) (steps-both kind bs n)
    where
      with-small : Line → Out Line Went
      with-small = run (line_step width (code_of P kind bs)) n

      with-large : Line → Out Line Went
      with-large = run (line_step width (code_of Q kind bs)) n

      tests : (b : Bool) → ((t : Line) → Both t.changes (line_of (with-small t)) (line_of (with-large t)))
          → Both s.changes (line_of (and_then (cond b (done (went s)) (go_on (code_of P kind bs s))) with-small)) (line_of (and_then (cond b (done (went s)) (go_on (code_of Q kind bs s))) with-large))
      tests true ih = both-went s
      tests false ih =
          rw (goes_on with-small (code_of P kind bs s), goes_on with-large (code_of Q kind bs s))
          (both-next (λ t. line_of (with-small t)) (λ t. line_of (with-large t)) (code-both kind bs s) ih)

  line-both : (kind : Kind) (bs : List Bool) (at : ℕ) → Both [] (read_line P kind bs at) (read_line Q kind bs at)
  unfolding read_line line_end ends
  line-both kind bs at = steps-both kind bs (suc (length bs - at)) (new_line at)

-- With less room a line is the same, or 4 with the front of its changes;
pub line-cut : (width : ℕ) (strict exact : Bool) (small large : ℕ) → small ≤ large → (kind : Kind) (bs : List Bool) (at : ℕ)
    → Cut small (read_line (record { width = width; strict = strict; exact = exact; room = small }) kind bs at) (read_line (record { width = width; strict = strict; exact = exact; room = large }) kind bs at)
line-cut width strict exact small large le kind bs at = (line-both width strict exact small large le kind bs at).cuts (omega arith)

-- and where it is 4, no entry is left.
pub line-fills : (width : ℕ) (strict exact : Bool) (room : ℕ) (kind : Kind) (bs : List Bool) (at : ℕ) → Fills room (read_line (record { width = width; strict = strict; exact = exact; room = room }) kind bs at)
line-fills width strict exact room kind bs at = (line-both width strict exact room room (omega arith) kind bs at).fills

-- ---- A row

-- the changes of a row, or the loose ones
abbrev pub changes_in : RowOut → List ℕ
changes_in (row r mark next) = r
changes_in (stop n place bytes loose) = loose

-- as `Cut`, of a row
pub data RowCut (n : ℕ) : RowOut → RowOut → Type 0 where
  row_same : {o : RowOut} → length (changes_in o) ≤ n → RowCut n o o
  row-short : {o : RowOut} → n < length (changes_in o) → RowCut n (stop 4 0 0 (take n (changes_in o))) o

-- as `Fills`, of a row
abbrev pub RowFills : ℕ → RowOut → Type 0
RowFills room (row r mark next) = Unit {0}
RowFills room (stop n place bytes loose) = n ≡ 4 → room ≤ length loose

-- a line that found no room is no row, whatever more room makes of it
short_row : {n : ℕ} {front xs : List ℕ} {o : RowOut} → n < length xs → front ≡ take n xs → Begins xs (changes_in o) → RowCut n (stop 4 0 0 front) o
short_row {n} {o = o} h e g = let f = front-on h e g in subst (λ (l : List ℕ). RowCut n (stop 4 0 0 l) o) (sym f.1) (row-short f.0)

module _ (S : Settings) (bs : List Bool) (small large : ℕ) (le : small ≤ large) where
  -- with less room, and with more
  record RowBoth (o u : RowOut) : Type 0 where
    cuts : RowCut small o u
    fills : RowFills large u

  stays : {o : RowOut} → changes_in o ≡ [] → RowFills large o → RowBoth o o
  stays {o} e f = let h : length (changes_in o) ≤ small = omega (arith, ap length e) in record { cuts = row_same h; fills = f }

  abbrev BothLines : List ℕ → Went → Went → Type 0
  BothLines = Both S.columns S.strict S.exact small large le

  line-of : (kind : Kind) (at : ℕ) → BothLines [] (read_line (rules_of S small) kind bs at) (read_line (rules_of S large) kind bs at)
  line-of kind at = line-both S.columns S.strict S.exact small large le kind bs at

  -- what comes after a line: a row with its mark where it is whole, and its failure where not
  module _ (after : Went → RowOut) (mark : Line → ℕ) (next : Line → State) (kept' : (l : Line) → after (went l) ≡ row l.changes (mark l) (next l))
      (ended : (n place : ℕ) (l : Line) → after (failed n place l) ≡ stop n place 0 l.changes) where
    after_line : {v w : Went} → Cut small v w → RowCut small (after v) (after w)
    after_line (same {w = went l} h) = rw (kept' l) (row_same h)
    after_line (same {w = failed n place l} h) = rw (ended n place l) (row_same h)
    after_line (short {s = s} {w = went l} h e) = rw (kept' l, ended 4 0 s) (short_row h e (begins-same l.changes))
    after_line (short {s = s} {w = failed n place l} h e) = rw (ended n place l, ended 4 0 s) (short_row h e (begins-same l.changes))

    line-filled : (w : Went) → Fills large w → RowFills large (after w)
    line-filled (went l) f = rw (kept' l) tt
    line-filled (failed n place l) f = rw (ended n place l) f

    line-begins : {xs : List ℕ} (w : Went) → Begins xs (changes_of w) → Begins xs (changes_in (after w))
    line-begins (went l) g = rw (kept' l) g
    line-begins (failed n place l) g = rw (ended n place l) g

  -- a row of Group 4
  row4-both : (st : State) → RowBoth (row4 S bs small st) (row4 S bs large st)
  unfolding row4
  row4-both st = tests (over S bs st (eols_before S bs st))
    where
      after : {v w : Went} → BothLines [] v w → RowBoth (after_line4 S bs st v) (after_line4 S bs st w)
      after {w = w} b = record {
        cuts = after_line (after_line4 S bs st) read_mark _ (λ l. refl) (λ n place l. refl) (b.cuts (omega arith));
        fills = line-filled (after_line4 S bs st) read_mark _ (λ l. refl) (λ n place l. refl) w b.fills;
      }

      tests : (b : Bool) → RowBoth (line_or_end S bs small st (eols_before S bs st) b) (line_or_end S bs large st (eols_before S bs st) b)
      tests true = stays refl (λ q. absurd (omega arith))
      tests false = after (line-of (two st.reference) (eols_before S bs st).at)

  module _ (t : Tagging) (st : State) where
    line3-both : (at : ℕ) (u : Tagging) → BothLines [] (line3 S t bs (rules_of S small) st.reference at u) (line3 S t bs (rules_of S large) st.reference at u)
    line3-both at untagged = line-of one at
    line3-both at tagged = there (ltb at (length bs))
      where
        tags : (b : Bool) → BothLines [] (tagged_line S t bs (rules_of S small) st.reference at b) (tagged_line S t bs (rules_of S large) st.reference at b)
        tags true = line-of one (suc at)
        tags false = line-of (two st.reference) (suc at)

        there : (b : Bool) → BothLines [] (line_of_tag S t bs (rules_of S small) st.reference at b) (line_of_tag S t bs (rules_of S large) st.reference at b)
        there true = tags (front_bit (drop at bs))
        there false = both-failed S.columns S.strict S.exact small large le 2 (length bs) (new_line at) (λ q. omega arith)

    module _ (expected : Bool) (at : ℕ) where
      -- the damaged line that is mended
      white-both : (l : Line) → BothLines l.changes (push (rules_of S small) 0 (S.columns - l.position) (whitened S t bs l)) (push (rules_of S large) 0 (S.columns - l.position) (whitened S t bs l))
      white-both l = push-both S.columns S.strict S.exact small large le 0 (S.columns - l.position) (whitened S t bs l)

      recovered-cut : (n place : ℕ) (l : Line) (b : Bool) → length l.changes ≤ small
          → RowCut small (recovered S t bs (rules_of S small) st at expected n place l b) (recovered S t bs (rules_of S large) st at expected n place l b)
      recovered-cut n place l true h = after_line (kept S t bs st expected at recovered_mark) (λ l. recovered_mark) _ (λ l. refl) (λ n place l. refl) ((white-both l).cuts h)
      recovered-cut n place l false h = row_same h

      recovered-filled : (n place : ℕ) (l : Line) (b : Bool) → (n ≡ 4 → large ≤ length l.changes) → RowFills large (recovered S t bs (rules_of S large) st at expected n place l b)
      recovered-filled n place l true f = line-filled (kept S t bs st expected at recovered_mark) (λ l. recovered_mark) _ (λ l. refl) (λ n place l. refl) (push (rules_of S large) 0 (S.columns - l.position) (whitened S t bs l)) (white-both l).fills
      recovered-filled n place l false f = f

      recovered-begins : (n place : ℕ) (l : Line) (b : Bool) → Begins l.changes (changes_in (recovered S t bs (rules_of S large) st at expected n place l b))
      recovered-begins n place l true = line-begins (kept S t bs st expected at recovered_mark) (λ l. recovered_mark) _ (λ l. refl) (λ n place l. refl) (push (rules_of S large) 0 (S.columns - l.position) (whitened S t bs l)) (white-both l).grows
      recovered-begins n place l false = begins-same l.changes

      -- 4 is never recovered from
      after-cut : {v w : Went} → Cut small v w → RowCut small (after_line3 S t bs (rules_of S small) st at expected v) (after_line3 S t bs (rules_of S large) st at expected w)
      after-cut (same {w = went l} h) = row_same h
      after-cut (same {w = failed n place l} h) = recovered-cut n place l ((expected && not S.strict) && leb n 3) h
      after-cut (short {w = went l} h e) = rw (and-false (expected && not S.strict)) (short_row h e (begins-same l.changes))
      after-cut (short {w = failed n place l} h e) =
          rw (and-false (expected && not S.strict)) (short_row h e (recovered-begins n place l ((expected && not S.strict) && leb n 3)))

      after_filled : (w : Went) → Fills large w → RowFills large (after_line3 S t bs (rules_of S large) st at expected w)
      after_filled (went l) f = tt
      after_filled (failed n place l) f = recovered-filled n place l ((expected && not S.strict) && leb n 3) f

      after_both : {v w : Went} → BothLines [] v w → RowBoth (after_line3 S t bs (rules_of S small) st at expected v) (after_line3 S t bs (rules_of S large) st at expected w)
      after_both {w = w} b = record { cuts = after-cut (b.cuts (omega arith)); fills = after_filled w b.fills }

    -- a row of Group 3
    row3-both : RowBoth (row3 S t bs small st) (row3 S t bs large st)
    unfolding row3
    row3-both = from (before S t bs st (eqb st.count 0))
      where
        from : (b : Before S t bs) → RowBoth (row_from S t bs small st b) (row_from S t bs large st b)
        from (at_line at expected) = after_both expected at (line3-both at t)
        from (at_end at) = stays refl (λ q. absurd (omega arith))
        from (at_no_eol at) = stays refl (λ q. absurd (omega arith))

  -- a row of any encoding
  row-both : (e : Encoding) (st : State) → RowBoth (row_of e S bs small st) (row_of e S bs large st)
  unfolding row_of
  row-both group4 st = row4-both st
  row-both group3_1_d st = row3-both untagged st
  row-both group3_2_d st = row3-both tagged st

  -- With less room a row is the same, or 4 with the front of its changes;
  pub row_cut : (e : Encoding) (st : State) → RowCut small (row_of e S bs small st) (row_of e S bs large st)
  row_cut e st = (row-both e st).cuts

-- and where it is 4, no entry is left.
pub row-fills : (S : Settings) (bs : List Bool) (room : ℕ) (e : Encoding) (st : State) → RowFills room (row_of e S bs room st)
row-fills S bs room e st = (row-both S bs room room (omega arith) e st).fills

-- by cases
pub row-cut-cases : {n : ℕ} {o u : RowOut} (C : RowOut → Type 0) → RowCut n o u → (length (changes_in u) ≤ n → C u) → (n < length (changes_in u) → C (stop 4 0 0 (take n (changes_in u)))) → C o
row-cut-cases C (row_same h) f g = f h
row-cut-cases C (row-short h) f g = g h
