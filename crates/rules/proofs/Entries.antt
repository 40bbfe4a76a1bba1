-- The entries of a page, with the loose ones, are at most the bits of its data and one, for every encoding. Assumes nothing.
use mathlib.Core.Path.{◌≡◌, refl, sym, ap, ◌∙◌, subst}
use mathlib.Core.Logic.{◌⊎◌, inl, inr}
use mathlib.Core.Bool.{Bool, true, false, cond, not, ◌&&◌, true≢false}
use mathlib.Core.List.{List, []}
use mathlib.Core.Option.{Option, none, some}
use Prim.Native.Nat.{ℕ, zero, suc, ◌+◌, ◌-◌, ◌*◌, ◌≤◌, ◌<◌}
use native.Mathlib.Omega.{arith}
use lib.Dec.{eqb}
use lib.ListN.{length}
use borrow.Author.Tests.{eqb-true, eqb-false}
use Rattle.rules.specs.Lines.{Rules, Line, Went, went, failed, push, two, read_line}
use Rattle.rules.specs.Eols.{Eols, eols_to, skip_to_eol, EolAt}
use Rattle.rules.specs.Rows.{Encoding, group4, group3_1_d, group3_2_d, Settings, State, page_start, read_mark, recovered_mark, RowOut, row, stop, rules_of, aligned_if}
use Rattle.rules.specs.Group4.{eols_before, after_line4, row4}
use Rattle.rules.specs.Group3.{Tagging, untagged, tagged, eols3, Before, at_line, at_end, at_no_eol, searched, missing, check_eob, before, line3, kept, whitened, after_line3, row3}
use Rattle.rules.specs.Pages.{Kept, none_kept, with_row, entries, row_of}
use Rattle.rules.specs.Rising.{Rising}
use Rattle.rules.proofs.Lines.{Each, read-broken, data-bound}
use Rattle.rules.proofs.PageBack.{entries-snoc}
use Rattle.rules.proofs.Pages.{Goes, Does, row_goes, row-does, Held}
use Rattle.rules.proofs.Eols.{Ahead, eols-ahead, eols3-ahead, eols3-read, skip-finds, reach, reach_of, reaches, reach-eol}
use Rattle.rules.proofs.Budget.{Budgeted, Budget, Bytes, judged-cases, eob-cases, from-here, aligned-ahead, Sets, before-sets}
use Rattle.rules.proofs.Rows.{row4-cases, row3-cases, mended-cases, line3-whole, Damaged, line3-damaged}
use Rattle.rules.proofs.Thrift.{count-both, count-mono, O, Z, Unread, Spent, Lost, line-spent, Paid, line2-paid, Pushed, Unpushed, push-pushed, owed-one}

-- ---- Before a row of a Group 3 page

module _ (S : Settings) (t : Tagging) (bs : List Bool) (bytes : Bytes bs) (st : State) where
  -- where EOLs are expected, one was read, and the line is past it; where none are, none were, or none is left and the line is where the row before it was to end
  abbrev Found : Before S t bs → Type 0
  Found (at_line at true) = (st.eols ≡ true) × (reach bs st.at + 9 ≤ at)
  Found (at_line at false) = ((st.eols ≡ false) × (st.at ≤ at)) ⊎ (at ≡ st.at)
  Found (at_end at) = Unit {0}
  Found (at_no_eol at) = Unit {0}

  searched-found : st.eols ≡ true → (o : Option ℕ) → skip_to_eol bs st.at ≡ o → Found (searched S t bs st.at o)
  searched-found q (some a) e =
      let n = skip-finds (length bs) bs st.at a e in
      judged-cases S t bs st false true (eols3 bs t a) Found tt (λ d l. (q, omega (arith, ((eols3-ahead bs t a).stood (eols3-read bs t a n.eol)).1, ap (reach_of bs) e)))
  searched-found q none e = judged-cases S t bs st false false (eols_to 0 st.at) Found tt (λ d l. inr refl)

  eob-found : (rows_done : Bool) (e : Eols) → Ahead bs (aligned_if (S.aligned && not st.eols) st.at) e → Found (check_eob S t bs st rows_done e)
  eob-found rows_done e a =
      eob-cases S t bs st rows_done e Found (λ q z l. lacks q z) tt (λ l q ne. (q, read q ne))
      (λ l q. inl (q, omega (arith, a.forward, (aligned-ahead bs bytes (S.aligned && not st.eols) st.at).0)))
    where
      here : st.eols ≡ true → aligned_if (S.aligned && not st.eols) st.at ≡ st.at
      here = from-here S t bs st

      lacks : st.eols ≡ true → e.count ≡ 0 → Found (missing S t bs S.strict e.at)
      lacks q z = subst (λ (i : ℕ). Found (missing S t bs S.strict i)) (sym (a.none_read z ∙ here q)) (tests S.strict)
        where
          tests : (b : Bool) → Found (missing S t bs b st.at)
          tests true = tt
          tests false = searched-found q (skip_to_eol bs st.at) refl

      read : st.eols ≡ true → (e.count ≡ 0 → ⊥) → reach bs st.at + 9 ≤ e.at
      read q ne =
          let s = a.stood (positive e.count ne) in
          let p : EolAt bs st.at = subst (EolAt bs) (here q) s.0 in
          omega (arith, s.1, here q, reach-eol bs st.at p)
        where
          positive : (n : ℕ) → (n ≡ 0 → ⊥) → 0 < n
          positive zero z = absurd (z refl)
          positive (suc n) z = omega arith

  before-found : (st.count ≡ 0 → ⊥) → Found (before S t bs st (eqb st.count 0))
  before-found later = cases (eqb st.count 0) refl
    where
      cases : (b : Bool) → eqb st.count 0 ≡ b → Found (before S t bs st b)
      cases true q = absurd (later (eqb-true st.count 0 q))
      cases false q = eob-found (eqb st.count S.rows) (eols3 bs t (aligned_if (S.aligned && not st.eols) st.at)) (eols3-ahead bs t (aligned_if (S.aligned && not st.eols) st.at))

-- ---- Between rows

module _ (bs : List Bool) where
  -- the ones passed and all zeros, and one
  abbrev pub Within : ℕ → ℕ → Type 0
  Within at n = n ≤ O bs at + Z bs (length bs) + 1

  within-length : (at n : ℕ) → at ≤ length bs → Within at n → n ≤ length bs + 1
  within-length at n h w = omega (arith, count-mono true at (length bs) bs h, count-both (length bs) bs (omega arith))

  within-here : (at n : ℕ) → at ≤ length bs → n ≤ at → Within at n
  within-here at n h k = omega (arith, count-both at bs h, count-mono false at (length bs) bs h)

-- Where EOLs are expected: with the reference's changes, the entries do not reach behind the next EOL; and without them they are within the ones passed and the zeros, unless the
-- line would not be read again, and then they leave the room that it may take. Where none are expected, they are within those.
module _ (S : Settings) (t : Tagging) (bs : List Bool) where
  abbrev pub LeftFor : ℕ → ℕ → Type 0
  LeftFor at n = Within bs at n ⊎ (Unread S t bs at × (2 * n ≤ at + length bs + 2))

  abbrev pub SavedAt : ℕ → List ℕ → ℕ → Bool → Type 0
  SavedAt at reference n true = (n + length reference ≤ reach bs at + 9) × LeftFor at n
  SavedAt at reference n false = Within bs at n

  abbrev pub Saved3 : State → ℕ → Type 0
  Saved3 st n = SavedAt st.at st.reference n st.eols

  module _ (wide : 0 < S.columns) (bytes : Bytes bs) (room : ℕ) (st : State) (n : ℕ) (blank : st.count ≡ 0 → (n ≡ 0) × (st.reference ≡ [])) (inside : st.at ≤ length bs)
      (rising : Rising S.columns 0 st.reference) (budget : Budget bs st n) (saved : Saved3 st n) where
    abbrev R : Rules
    R = rules_of S room

    abbrev c : ℕ
    c = length st.reference

    -- at the line's first bit
    abbrev Owed : ℕ → Bool → Type 0
    Owed at true = n + c ≤ at
    Owed at false = LeftFor at n

    owed-at : (at : ℕ) (expected : Bool) → at ≤ length bs → before S t bs st (eqb st.count 0) ≡ at_line at expected → Owed at expected
    owed-at at expected h e = cases (eqb st.count 0) refl
      where
        none_yet : st.count ≡ 0 → (b : Bool) → Owed at b
        none_yet z true = omega (arith, (blank z).0, ap length (blank z).1)
        none_yet z false = inl (omega (arith, (blank z).0))

        found : (b : Bool) → Found S t bs bytes st (at_line at b) → (d : Bool) → SavedAt st.at st.reference n d → st.eols ≡ d → Owed at b
        found true (x, f) true w q = omega (arith, w.0)
        found true (x, f) false w q = absurd (true≢false (sym x ∙ q))
        found false (inl (x, f)) true w q = absurd (true≢false (sym q ∙ x))
        found false (inl (x, f)) false w q = inl (omega (arith, w, count-mono true st.at at bs f))
        found false (inr x) true w q = subst (λ (i : ℕ). LeftFor i n) (sym x) w.1
        found false (inr x) false w q = inl (subst (λ (i : ℕ). Within bs i n) (sym x) w)

        cases : (b : Bool) → eqb st.count 0 ≡ b → Owed at expected
        cases true q = none_yet (eqb-true st.count 0 q) expected
        cases false q = found expected (subst (Found S t bs bytes st) e (before-found S t bs bytes st (eqb-false st.count 0 q))) st.eols saved refl

    -- a row that is kept leaves as much; and with the loose entries there are few enough
    abbrev Leaves : RowOut → Type 0
    Leaves (row r mark next) = Saved3 next (n + length r)
    Leaves (stop m place b loose) = n + length loose ≤ length bs + 1

    none-loose : n ≤ length bs + 1
    none-loose = cases st.eols saved budget
      where
        cases : (b : Bool) → SavedAt st.at st.reference n b → Budgeted bs st.at n b → n ≤ length bs + 1
        cases true w h = omega (arith, h.0, (reaches bs st.at).inside)
        cases false w h = within-length bs st.at n inside w

    -- a damaged line
    damaged-few : (at : ℕ) (expected : Bool) → at ≤ length bs → Owed at expected → (m place : ℕ) (l : Line) → line3 S t bs R st.reference at t ≡ failed m place l → n + length l.changes ≤ length bs + 1
    damaged-few at expected h o m place l e = cases expected o
      where
        lost : Lost S t bs at st.reference m l
        lost = subst (Each (Spent S t bs at st.reference) (Lost S t bs at st.reference)) e (line-spent S t bs room wide st.reference rising at)

        ends : l.at ≤ length bs
        ends = omega (arith, (line3-damaged S t bs R wide st.reference at h m place l e).line.inside, (reaches bs at).inside)

        by_ones : Within bs at n → n + length l.changes ≤ length bs + 1
        by_ones w = within-length bs l.at (n + length l.changes) ends (omega (arith, w, lost.spent.ones))

        cases : (b : Bool) → Owed at b → n + length l.changes ≤ length bs + 1
        cases true o = by_ones (within-here bs at n h (omega arith))
        cases false (inl w) = by_ones w
        cases false (inr (x, k)) = omega (arith, k, x.twice room st.reference m place l e, ends)

    -- read whole
    whole-leaves : (at : ℕ) (expected : Bool) → at ≤ length bs → Owed at expected → (l : Line) → line3 S t bs R st.reference at t ≡ went l → Leaves (kept S t bs st expected l.at (read_mark l) (went l))
    whole-leaves at expected h o l e = cases expected o
      where
        spent : Spent S t bs at st.reference l
        spent = subst (Each (Spent S t bs at st.reference) (Lost S t bs at st.reference)) e (line-spent S t bs room wide st.reference rising at)

        ends : l.at ≤ length bs
        ends = (line3-whole S t bs R wide st.reference at l e).inside

        cases : (b : Bool) → Owed at b → SavedAt l.at l.changes (n + length l.changes) b
        cases true o = (
          omega (arith, spent.twice, (reaches bs l.at).here ends),
          inl (omega (arith, spent.ones, within-here bs at n h (omega arith))),
        )
        cases false (inl w) = omega (arith, spent.ones, w)
        cases false (inr (u, k)) = absurd (u.never room st.reference l e)

    -- mended
    mended-leaves : (at : ℕ) (expected : Bool) → at ≤ length bs → expected ≡ true → Owed at expected → (m place : ℕ) (l : Line) → m ≤ 3 → line3 S t bs R st.reference at t ≡ failed m place l
        → (w : Went) → push R 0 (S.columns - l.position) (whitened S t bs l) ≡ w → Leaves (kept S t bs st expected at recovered_mark w)
    mended-leaves at expected h q o m place l few e (went u) f = subst (λ (b : Bool). SavedAt at u.changes (n + length u.changes) b) (sym q) (reached, again (lost.again few))
      where
        owes : n + c ≤ at
        owes = subst (Owed at) q o

        lost : Lost S t bs at st.reference m l
        lost = subst (Each (Spent S t bs at st.reference) (Lost S t bs at st.reference)) e (line-spent S t bs room wide st.reference rising at)

        broken : Damaged S t bs R wide st.reference at m l
        broken = line3-damaged S t bs R wide st.reference at h m place l e

        -- with one change more, to white
        one_more : length u.changes ≤ length l.changes + 1
        one_more =
            let p = subst (Each (Pushed R (S.columns - l.position) (whitened S t bs l)) (Unpushed (whitened S t bs l))) f (push-pushed R 0 (S.columns - l.position) (whitened S t bs l) broken.line.fits) in
            omega (arith, p.few, owed-one (whitened S t bs l))

        reached : n + length u.changes + length u.changes ≤ reach bs at + 9
        reached = omega (arith, owes, one_more, lost.spent.twice, broken.line.inside)

        again : (length l.changes + Z bs at ≤ c + Z bs l.at) ⊎ Unread S t bs at → LeftFor at (n + length u.changes)
        again (inl z) = inl (omega (arith, owes, one_more, z, count-both at bs h, count-mono false l.at (length bs) bs (omega (arith, broken.line.inside, (reaches bs at).inside))))
        again (inr x) = inr (x, omega (arith, owes, one_more, x.twice room st.reference m place l e, broken.line.inside, (reaches bs at).inside))
    mended-leaves at expected h q o m place l few e (failed x y u) f =
        let p = subst (Each (Pushed R (S.columns - l.position) (whitened S t bs l)) (Unpushed (whitened S t bs l))) f (push-pushed R 0 (S.columns - l.position) (whitened S t bs l) (line3-damaged S t bs R wide st.reference at h m place l e).line.fits) in
        omega (arith, damaged-few at expected h o m place l e, ap length p.1)

    row-leaves : Leaves (row3 S t bs room st)
    row-leaves =
        row3-cases S t bs room st Leaves (λ at e. omega (arith, none-loose)) (λ at e. omega (arith, none-loose)) (λ at expected e.
        let h = (subst (Sets S t bs bytes st) e (before-sets S t bs bytes st)).inside inside in
        cases at expected h (owed-at at expected h e))
      where
        cases : (at : ℕ) (expected : Bool) → at ≤ length bs → Owed at expected → (w : Went) → line3 S t bs R st.reference at t ≡ w → Leaves (after_line3 S t bs R st at expected w)
        cases at expected h o (went l) e = whole-leaves at expected h o l e
        cases at expected h o (failed m place l) e =
            mended-cases S t bs R st at expected m place l Leaves (λ q s few w f. mended-leaves at expected h q o m place l few e w f) (damaged-few at expected h o m place l e)

-- ---- Any encoding

-- what has been saved between two rows
abbrev pub Saved : Encoding → Settings → List Bool → State → ℕ → Type 0
Saved group4 S bs st n = Within bs st.at n
Saved group3_1_d S bs st n = Saved3 S untagged bs st n
Saved group3_2_d S bs st n = Saved3 S tagged bs st n

pub saved-start : (enc : Encoding) (S : Settings) (bs : List Bool) → Saved enc S bs page_start 0
saved-start group4 S bs = omega arith
saved-start group3_1_d S bs = omega arith
saved-start group3_2_d S bs = omega arith

module _ (S : Settings) (wide : 0 < S.columns) (bs : List Bool) (bytes : Bytes bs) (room : ℕ) (st : State) (n : ℕ)
    (blank : st.count ≡ 0 → (n ≡ 0) × (st.reference ≡ [])) (inside : st.at ≤ length bs) (rising : Rising S.columns 0 st.reference) (budget : Budget bs st n) where
  -- a row that is kept saves as much, and with the loose entries there are few enough
  abbrev pub SavesOn : Encoding → RowOut → Type 0
  SavesOn enc (row r mark next) = Saved enc S bs next (n + length r)
  SavesOn enc (stop m place b loose) = n + length loose ≤ length bs + 1

  row4-saves : Within bs st.at n → SavesOn group4 (row4 S bs room st)
  row4-saves w = row4-cases S bs room st (SavesOn group4) (λ e. omega (arith, within-length bs st.at n inside w)) (λ e. cases)
    where
      at4 : ℕ
      at4 = (eols_before S bs st).at

      ahead : Ahead bs st.at (eols_before S bs st)
      ahead = eols-ahead (cond S.end_of_block 2 (length bs)) bs st.at

      paid : (v : Went) → read_line (rules_of S room) (two st.reference) bs at4 ≡ v
          → Each (Paid (rules_of S room) bs st.reference rising at4) (λ n. Paid (rules_of S room) bs st.reference rising at4) v
      paid v e = subst (Each (Paid (rules_of S room) bs st.reference rising at4) (λ n. Paid (rules_of S room) bs st.reference rising at4)) e (line2-paid (rules_of S room) bs st.reference rising at4)

      cases : (v : Went) → read_line (rules_of S room) (two st.reference) bs at4 ≡ v → SavesOn group4 (after_line4 S bs st v)
      cases (went l) e =
          omega (
            arith,
            w,
            (paid (went l) e).ones,
            count-mono true st.at at4 bs ahead.forward,
            count-mono true l.at (aligned_if S.aligned l.at) bs (aligned-ahead bs bytes S.aligned l.at).0,
          )
      cases (failed m place l) e =
          let b = read-broken (rules_of S room) wide (two st.reference) bs at4 (length bs) (data-bound bs) (ahead.inside inside) m place l e in
          within-length bs l.at (n + length l.changes) b.line.inside (omega (arith, w, (paid (failed m place l) e).ones, count-mono true st.at at4 bs ahead.forward))

  pub row-saves : (enc : Encoding) → Saved enc S bs st n → SavesOn enc (row_of enc S bs room st)
  unfolding row_of
  row-saves group4 w = row4-saves w
  row-saves group3_1_d w = cases (row3 S untagged bs room st) (row-leaves S untagged bs wide bytes room st n blank inside rising budget w)
    where
      cases : (o : RowOut) → Leaves S untagged bs wide bytes room st n blank inside rising budget w o → SavesOn group3_1_d o
      cases (row r mark next) h = h
      cases (stop m place b loose) h = h
  row-saves group3_2_d w = cases (row3 S tagged bs room st) (row-leaves S tagged bs wide bytes room st n blank inside rising budget w)
    where
      cases : (o : RowOut) → Leaves S tagged bs wide bytes room st n blank inside rising budget w o → SavesOn group3_2_d o
      cases (row r mark next) h = h
      cases (stop m place b loose) h = h

  -- so the entries are at most the bits and one
  pub saved-few : (enc : Encoding) → Saved enc S bs st n → n ≤ length bs + 1
  saved-few group4 w = within-length bs st.at n inside w
  saved-few group3_1_d w = none-loose S untagged bs wide bytes room st n blank inside rising budget w
  saved-few group3_2_d w = none-loose S tagged bs wide bytes room st n blank inside rising budget w

-- ---- Between the rows of a page

module _ (enc : Encoding) (S : Settings) (wide : 0 < S.columns) (bs : List Bool) (bytes : Bytes bs) where
  pub record Spared (k : Kept) : Type 0 where
    pub blank : k.state.count ≡ 0 → (entries k.rows ≡ 0) × (k.state.reference ≡ [])
    pub saved : Saved enc S bs k.state (entries k.rows)

  pub spared-start : Spared none_kept
  unfolding entries
  spared-start = record { blank = λ z. (refl, refl); saved = saved-start enc S bs }

  module _ (store places room : ℕ) (k : Kept) (h : Held enc S wide bs bytes store places k) (p : Spared k) where
    saves : SavesOn S wide bs bytes room k.state (entries k.rows) p.blank h.inside h.reference h.budget enc (row_of enc S bs room k.state)
    saves = row-saves S wide bs bytes room k.state (entries k.rows) p.blank h.inside h.reference h.budget enc p.saved

    -- a row that is kept
    pub spared-next : (r : List ℕ) (mark : ℕ) (next : State) → row_of enc S bs room k.state ≡ row r mark next → Spared (with_row k r mark next)
    spared-next r mark next e =
        let g = subst (Goes bs k.state) e (row_goes S wide bs bytes room k.state enc) in
        record {
          blank = λ z. absurd (omega (arith, g.counted));
          saved = subst (Saved enc S bs next) (sym (entries-snoc k.rows r))
              (subst (SavesOn S wide bs bytes room k.state (entries k.rows) p.blank h.inside h.reference h.budget enc) e saves);
        }

    -- Entries are at most the bits and one, with a row's or the loose ones too.
    pub spared-few : entries k.rows ≤ length bs + 1
    spared-few = saved-few S wide bs bytes room k.state (entries k.rows) p.blank h.inside h.reference h.budget enc p.saved

    pub spared-loose : (n place b : ℕ) (loose : List ℕ) → row_of enc S bs room k.state ≡ stop n place b loose → entries k.rows + length loose ≤ length bs + 1
    spared-loose n place b loose e = subst (SavesOn S wide bs bytes room k.state (entries k.rows) p.blank h.inside h.reference h.budget enc) e saves

    pub spared-row : (r : List ℕ) (mark : ℕ) (next : State) → row_of enc S bs room k.state ≡ row r mark next → entries k.rows + length r ≤ length bs + 1
    spared-row r mark next e =
        let g = subst (Goes bs k.state) e (row_goes S wide bs bytes room k.state enc) in
        let m = subst (Does S bs room k.state) e (row-does S wide bs bytes room k.state enc h.fitting h.inside) in
        saved-few S wide bs bytes room next (entries k.rows + length r) (λ z. absurd (omega (arith, g.counted))) m.inside (subst (Rising S.columns 0) (sym m.refers) m.rising)
        (m.budget (entries k.rows) (λ z. (p.blank z).0) h.budget) enc
        (subst (SavesOn S wide bs bytes room k.state (entries k.rows) p.blank h.inside h.reference h.budget enc) e saves)
