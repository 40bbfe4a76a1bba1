-- A recovered row over other bits: its line failed before the eleven zeros of the next EOL, so it stands over any other data that agree with these up to their end. Where another row
-- follows, with EOLs still expected, that EOL lies before it. Assumes nothing.
use mathlib.Core.Path.{◌≡◌, refl, sym, ap, ◌∙◌, subst}
use mathlib.Core.Logic.{◌⊎◌, inl, inr}
use mathlib.Core.Bool.{Bool, true, false, cond, not, ◌&&◌, ◌||◌}
use mathlib.Core.List.{List, [], ◌++◌}
use mathlib.Core.Option.{Option, none, some}
use Prim.Native.Nat.{ℕ, zero, suc, ◌+◌, ◌-◌, ◌≤◌, ◌<◌}
use native.Mathlib.Omega.{arith}
use lib.Dec.{eqb, leb, ltb}
use lib.ListN.{length, drop, replicate, drop_of_length-le}
use borrow.Author.Tests.{ltb-true, lt-ltb, le-leb, eqb-true, ne_eqb}
use Rattle.rules.specs.Bits.{front_bit}
use Rattle.rules.specs.Lines.{Rules, Line, Went, went, failed, push, one, two}
use Rattle.rules.specs.Eols.{zero_run, EolAt, eol_after, Eols, eols_to, read_eols, all_eols, skip, skip_to_eol}
use Rattle.rules.specs.Rows.{Settings, State, read_mark, recovered_mark, RowOut, row, stop, rules_of, aligned_if}
use Rattle.rules.specs.Group3.{Tagging, untagged, tagged, between_tags, eols3, Before, at_line, at_end, judged, searched, missing, lacking, checked, check_eob, before, tagged_line, line_of_tag, line3, kept, whitened, recovered, after_line3, row3}
use Rattle.rules.proofs.Bits.{both_true}
use Rattle.rules.proofs.Agree.{Agree, agree_less}
use Rattle.rules.proofs.Eols.{eols-ahead, eol-read, eols3-ahead, eols3-read, skip-finds}
use Rattle.rules.proofs.EolChains.{Quiet, soon-quiet, none-quiet}
use Rattle.rules.proofs.Barrier.{eol-zeros}
use Rattle.rules.proofs.Rows.{row3-cases, mended-cases, line3-whole}
use Rattle.rules.proofs.Broken.{Like, read-like}
use Rattle.rules.proofs.Untouched.{one-here, bit-same, Clears, skip-same, towards-quiet, quiet-eols3, Open, before_same}

-- ---- All EOLs are read

module _ (bs : List Bool) where
  all_quiet : (n at : ℕ) → length bs ≤ n + at → Quiet bs (read_eols n bs at).at
  unfolding read_eols zero_run
  all_quiet zero at h = none-quiet bs at (ap zero_run (drop_of_length-le bs (let k : length bs ≤ at = omega arith in k)))
  all_quiet (suc n) at h = cases (λ b. all_quiet n b) (zero_run (drop at bs)) refl
    where
      step : Option ℕ → Eols
      step o = elim o as (λ _. Eols) [ none ↦ eols_to 0 at | some b ↦ let later = read_eols n bs b in eols_to (suc later.count) later.at ]

      closed : ((b : ℕ) → length bs ≤ n + b → Quiet bs (read_eols n bs b).at) → (z : ℕ) → zero_run (drop at bs) ≡ some z → (b : Bool) → ltb z 11 ≡ b → Quiet bs (step (cond b none (some (at + suc z)))).at
      closed ih z e true q = soon-quiet bs at (z, e, (let k = ltb-true z 11 q in omega arith))
      closed ih z e false q = ih (at + suc z) (omega arith)

      cases : ((b : ℕ) → length bs ≤ n + b → Quiet bs (read_eols n bs b).at) → (o : Option ℕ) → zero_run (drop at bs) ≡ o → Quiet bs (step (eol_after at o)).at
      cases ih none e = none-quiet bs at e
      cases ih (some z) e = closed ih z e (ltb z 11) refl

  eols-quiet : (at : ℕ) → Quiet bs (all_eols bs at).at
  eols-quiet at = all_quiet (length bs) at (omega arith)

  -- no EOL behind a one where none was read
  none-behind : (at : ℕ) → (all_eols bs at).count ≡ 0 → Quiet bs at
  none-behind at h = subst (Quiet bs) ((eols-ahead (length bs) bs at).none_read h) (eols-quiet at)

  tags-clear : (n : ℕ) (e : Eols) → length bs ≤ n + e.at → Quiet bs e.at → Clears bs bs tagged (between_tags n bs e)
  unfolding between_tags
  tags-clear zero e h q = (q, λ j k b. absurd (let y : ◌≡◌ {A = ℕ} 0 1 = let f : front_bit [] ≡ true = ap front_bit (sym (drop_of_length-le bs (let k : length bs ≤ e.at = omega arith in k))) ∙ b in cc in omega arith))
  tags-clear (suc n) e h q = cases (λ d. tags-clear n d) (front_bit (drop e.at bs)) refl
    where
      later : Eols
      later = all_eols bs (suc e.at)

      joined : Eols
      joined = eols_to (e.count + later.count) later.at

      ahead : suc e.at ≤ later.at
      ahead = (eols-ahead (length bs) bs (suc e.at)).forward

      cases : ((d : Eols) → length bs ≤ n + d.at → Quiet bs d.at → Clears bs bs tagged (between_tags n bs d)) → (b : Bool) → front_bit (drop e.at bs) ≡ b
          → Clears bs bs tagged (elim b as (λ _. Eols) [
            | false ↦ e
            | true ↦ elim (eqb later.count 0) [ true ↦ cond (leb 6 e.count) (eols_to e.count (suc e.at)) e | false ↦ between_tags n bs joined ]
          ])
      cases ih false b = (q, λ j l c. absurd (let y : ◌≡◌ {A = ℕ} 0 1 = cc in omega arith))
      cases ih true b = counts (eqb later.count 0) refl
        where
          counts : (c : Bool) → eqb later.count 0 ≡ c
              → Clears bs bs tagged (elim c as (λ _. Eols) [ true ↦ cond (leb 6 e.count) (eols_to e.count (suc e.at)) e | false ↦ between_tags n bs joined ])
          counts false g = ih joined (omega (arith, ahead)) (eols-quiet (suc e.at))
          counts true g = sixes (leb 6 e.count) refl
            where
              behind : Quiet bs (suc e.at)
              behind = none-behind (suc e.at) (eqb-true later.count 0 g)

              sixes : (d : Bool) → leb 6 e.count ≡ d → Clears bs bs tagged (cond d (eols_to e.count (suc e.at)) e)
              sixes false k = (q, λ j l c. behind)
              sixes true k = (behind, λ j l c. absurd (let y : ◌≡◌ {A = ℕ} 0 1 = cc in omega arith))

  pub eols3-clear : (t : Tagging) (at : ℕ) → Clears bs bs t (eols3 bs t at)
  eols3-clear untagged at = eols-quiet at
  eols3-clear tagged at = counts (eqb (all_eols bs at).count 0) refl
    where
      e : Eols
      e = all_eols bs at

      counts : (b : Bool) → eqb e.count 0 ≡ b → Clears bs bs tagged (cond b e (between_tags (length bs) bs e))
      counts false h = tags-clear (length bs) e (omega arith) (eols-quiet at)
      counts true h = (eols-quiet at, λ j. absurd (omega (arith, eqb-true e.count 0 h)))

-- ---- The same over other bits

module _ (bs cs : List Bool) where
  quiet-over : (n at a : ℕ) → skip n bs at ≡ some a → Quiet bs at → Agree a bs cs → Quiet cs at
  quiet-over n at a e q g =
      let f = skip-finds n bs at a e in
      towards-quiet (skip-same bs cs n at a e g)
      (λ p. absurd (let k = eol-read 0 bs at (subst (EolAt bs) (sym p) f.eol) in omega (arith, ap (λ (x : Eols). x.count) (q 1))))

  skip-one : (n at a : ℕ) → front_bit (drop at bs) ≡ true → skip n bs at ≡ some a → (m : ℕ) × (skip m bs (suc at) ≡ some a)
  unfolding skip
  skip-one zero at a b e = absurd (let y : ◌≡◌ {A = ℕ} 0 1 = cc in omega arith)
  skip-one (suc n) at a b e = (n, ap (λ (i : ℕ). skip n bs i) (let p : suc at ≡ at + 1 = omega arith in p) ∙ (rw (one-here (drop at bs) b, skip) at e))

  clears-over : (t : Tagging) (f : Eols) (n a : ℕ) → skip n bs f.at ≡ some a → Agree (a + 11) bs cs → Clears bs bs t f → Clears bs cs t f
  clears-over untagged f n a e g q = quiet-over n f.at a e q (agree_less a (omega arith) g)
  clears-over tagged f n a e g (q, h) = (
    quiet-over n f.at a e q (agree_less a (omega arith) g),
    λ j l c.
        let le = (skip-finds n bs f.at a e).forward in
        let b : front_bit (drop f.at bs) ≡ true = sym (bit-same bs cs f.at (agree_less (suc f.at) (omega arith) g)) ∙ c in
        let s = skip-one n f.at a b e in
        quiet-over s.0 (suc f.at) a s.1 (h j l b) (agree_less a (omega arith) g),
  )

-- ---- Before a row

module _ (S : Settings) (t : Tagging) (bs : List Bool) where
  judged-at : (rows_done ex : Bool) (e : Eols) (at : ℕ) (x : Bool) → judged S t bs rows_done ex e ≡ at_line at x → (e.at ≡ at) × (ex ≡ x) × ((rows_done || leb (length bs) e.at) ≡ false)
  judged-at rows_done ex e at x = tests (S.end_of_block && leb 6 e.count) (rows_done || leb (length bs) e.at)
    where
      tests : (a b : Bool) → cond {A = Before S t bs} (a || b) (at_end e.at) (at_line e.at ex) ≡ at_line at x → (e.at ≡ at) × (ex ≡ x) × (b ≡ false)
      tests false false f = ((let p : e.at ≡ at = cc in p), (let p : ex ≡ x = cc in p), refl)
      tests false true f = absurd (let y : ◌≡◌ {A = ℕ} 0 1 = cc in omega arith)
      tests true b f = absurd (let y : ◌≡◌ {A = ℕ} 0 1 = cc in omega arith)

  eols3-quiet : (a : ℕ) → Quiet bs (eols3 bs t a).at
  eols3-quiet a = cases t (eols3-clear bs t a)
    where
      cases : (u : Tagging) → Clears bs bs u (eols3 bs t a) → Quiet bs (eols3 bs t a).at
      cases untagged q = q
      cases tagged q = q.0

  -- no EOL stands where a line begins
  before-quiet : (st : State) (b : Bool) (at : ℕ) (x : Bool) → before S t bs st b ≡ at_line at x → Quiet bs at
  before-quiet st true at x = λ e. subst (Quiet bs) (let p : (all_eols bs st.at).at ≡ at = cc in p) (eols-quiet bs st.at)
  before-quiet st false at x = tests (lacking S t bs rows_done st e)
    where
      rows_done : Bool
      rows_done = eqb st.count S.rows

      a0 : ℕ
      a0 = aligned_if (S.aligned && not st.eols) st.at

      e : Eols
      e = eols3 bs t a0

      finds : (o : Option ℕ) → searched S t bs e.at o ≡ at_line at x → Quiet bs at
      finds (some a) f = subst (Quiet bs) (judged-at false true (eols3 bs t a) at x f).0 (eols3-quiet a)
      finds none f = subst (Quiet bs) (judged-at false false (eols_to 0 e.at) at x f).0 (eols3-quiet a0)

      stricts : (b : Bool) → missing S t bs b e.at ≡ at_line at x → Quiet bs at
      stricts true f = absurd (let y : ◌≡◌ {A = ℕ} 0 1 = cc in omega arith)
      stricts false f = finds (skip_to_eol bs e.at) f

      tests : (b : Bool) → checked S t bs rows_done st e b ≡ at_line at x → Quiet bs at
      tests true f = stricts S.strict f
      tests false f = subst (Quiet bs) (judged-at rows_done st.eols e at x f).0 (eols3-quiet a0)

  -- EOLs are expected as before, or a lenient reader gave them up
  pub before-eols : (st : State) (at : ℕ) (x : Bool) → before S t bs st false ≡ at_line at x → (st.eols ≡ x) ⊎ ((st.eols ≡ true) × (S.strict ≡ false))
  before-eols st at x = tests (lacking S t bs rows_done st e) refl
    where
      rows_done : Bool
      rows_done = eqb st.count S.rows

      e : Eols
      e = eols3 bs t (aligned_if (S.aligned && not st.eols) st.at)

      stricts : st.eols ≡ true → (b : Bool) → S.strict ≡ b → missing S t bs b e.at ≡ at_line at x → (st.eols ≡ x) ⊎ ((st.eols ≡ true) × (S.strict ≡ false))
      stricts l true s f = absurd (let y : ◌≡◌ {A = ℕ} 0 1 = cc in omega arith)
      stricts l false s f = inr (l, s)

      tests : (b : Bool) → lacking S t bs rows_done st e ≡ b → checked S t bs rows_done st e b ≡ at_line at x → (st.eols ≡ x) ⊎ ((st.eols ≡ true) × (S.strict ≡ false))
      tests true l f = stricts (both_true (eqb e.count 0) st.eols (both_true (eqb e.count 0 && st.eols) (not (rows_done || leb (length bs) e.at)) l).0).1 S.strict refl f
      tests false l f = inl (judged-at rows_done st.eols e at x f).1

  -- Behind a line's start at which EOLs are expected, as behind a recovered row, the next line lies behind the next EOL, or they are given up.
  before-found : (st : State) → Quiet bs st.at → st.eols ≡ true → (at : ℕ) (x : Bool) → before S t bs st false ≡ at_line at x → x ≡ true → (a : ℕ) × (skip_to_eol bs st.at ≡ some a) × (a + 12 ≤ at)
  before-found st quiet eols at x f true-x = tests (rows_done || leb (length bs) st.at) refl (sym (ap (check_eob S t bs st rows_done) here') ∙ f)
    where
      rows_done : Bool
      rows_done = eqb st.count S.rows

      from : (b c : Bool) → c ≡ true → aligned_if (b && not c) st.at ≡ st.at
      from true true e = refl
      from false true e = refl
      from b false e = absurd (let y : ◌≡◌ {A = ℕ} 0 1 = cc in omega arith)

      here' : eols3 bs t (aligned_if (S.aligned && not st.eols) st.at) ≡ eols_to 0 st.at
      here' = ap (eols3 bs t) (from S.aligned st.eols eols) ∙ quiet-eols3 bs t st.at quiet

      finds : (o : Option ℕ) → skip_to_eol bs st.at ≡ o → searched S t bs st.at o ≡ at_line at x → (a : ℕ) × (skip_to_eol bs st.at ≡ some a) × (a + 12 ≤ at)
      finds (some a) q g =
          let j = judged-at false true (eols3 bs t a) at x g in
          let found = skip-finds (length bs) bs st.at a q in
          (a, q, omega (arith, ((eols3-ahead bs t a).stood (eols3-read bs t a found.eol)).1, j.0))
      finds none q g = absurd (let p : false ≡ true = (judged-at false false (eols_to 0 st.at) at x g).1 ∙ true-x in let y : ◌≡◌ {A = ℕ} 0 1 = cc in omega arith)

      stricts : (b : Bool) → missing S t bs b st.at ≡ at_line at x → (a : ℕ) × (skip_to_eol bs st.at ≡ some a) × (a + 12 ≤ at)
      stricts true g = absurd (let y : ◌≡◌ {A = ℕ} 0 1 = cc in omega arith)
      stricts false g = finds (skip_to_eol bs st.at) refl g

      tests : (b : Bool) → (rows_done || leb (length bs) st.at) ≡ b → check_eob S t bs st rows_done (eols_to 0 st.at) ≡ at_line at x → (a : ℕ) × (skip_to_eol bs st.at ≡ some a) × (a + 12 ≤ at)
      tests false q g = stricts S.strict (rw (eols, q) at g)
      tests true q g =
          let j = judged-at rows_done true (eols_to 0 st.at) at x (rw (eols, q) at g) in
          absurd (let p : true ≡ false = sym q ∙ j.2 in let y : ◌≡◌ {A = ℕ} 0 1 = cc in omega arith)

-- ---- One row

abbrev pub next_of : State → RowOut → State
next_of other (row x m s) = s
next_of other (stop n p b x) = other

abbrev pub mark_of : RowOut → ℕ
mark_of (row x m s) = m
mark_of (stop n p b x) = 0

-- a row that was read is not marked as recovered
pub read-marked : (l : Line) → read_mark l ≡ recovered_mark → ⊥
read-marked l = tests l.cut
  where
    tests : (b : Bool) → cond b 1 0 ≡ recovered_mark → ⊥
    tests true e = omega arith
    tests false e = omega arith

all-met : (a b c : Bool) → a ≡ true → b ≡ false → c ≡ true → ((a && not b) && c) ≡ true
all-met true false true x y z = refl
all-met true false false x y z = z
all-met true true c x y z = absurd (let w : ◌≡◌ {A = ℕ} 0 1 = cc in omega arith)
all-met false b c x y z = absurd (let w : ◌≡◌ {A = ℕ} 0 1 = cc in omega arith)

module _ (S : Settings) (t : Tagging) (wide : 0 < S.columns) (bs : List Bool) (room : ℕ) (st : State) (r : List ℕ) (mark : ℕ) (next : State) where
  -- what is known of a row that was given, of its line's start and of the state behind it
  pub record Given : Type 0 where
    pub start : ℕ
    pub expected : Bool
    pub begins : before S t bs st (eqb st.count 0) ≡ at_line start expected
    pub eols : next.eols ≡ expected
    pub counted : next.count ≡ suc st.count
    pub behind : start ≤ next.at
    pub mended : mark ≡ recovered_mark → (next.at ≡ start) × (expected ≡ true) × (S.strict ≡ false)

  pub given : row3 S t bs room st ≡ row r mark next → Given
  given =
      row3-cases S t bs room st (λ o. o ≡ row r mark next → Given)
      (λ at q f. absurd (let z : ◌≡◌ {A = ℕ} 0 1 = cc in omega arith))
      (λ at q f. absurd (let z : ◌≡◌ {A = ℕ} 0 1 = cc in omega arith))
      reads
    where
      R : Rules
      R = rules_of S room

      keeps : (at : ℕ) (expected : Bool) → before S t bs st (eqb st.count 0) ≡ at_line at expected → expected ≡ true → S.strict ≡ false → (w : Went) → kept S t bs st expected at recovered_mark w ≡ row r mark next → Given
      keeps at expected q x y (went u) f =
          let to = ap (next_of next) f in
          record {
            start = at;
            expected = expected;
            begins = q;
            eols = ap (λ (s : State). s.eols) (sym to);
            counted = ap (λ (s : State). s.count) (sym to);
            behind = omega (arith, ap (λ (s : State). s.at) to);
            mended = λ m. (ap (λ (s : State). s.at) (sym to), x, y);
          }
      keeps at expected q x y (failed n p u) f = absurd (let z : ◌≡◌ {A = ℕ} 0 1 = cc in omega arith)

      reads : (at : ℕ) (expected : Bool) → before S t bs st (eqb st.count 0) ≡ at_line at expected → (w : Went) → line3 S t bs R st.reference at t ≡ w
          → after_line3 S t bs R st at expected w ≡ row r mark next → Given
      reads at expected q (went l) m = λ f.
          let to = ap (next_of next) f in
          record {
            start = at;
            expected = expected;
            begins = q;
            eols = ap (λ (s : State). s.eols) (sym to);
            counted = ap (λ (s : State). s.count) (sym to);
            behind = omega (arith, ap (λ (s : State). s.at) to, (line3-whole S t bs R wide st.reference at l m).some_bits);
            mended = λ k. absurd (read-marked l (ap mark_of f ∙ k));
          }
      reads at expected q (failed n p l) m =
          mended-cases S t bs R st at expected n p l (λ o. o ≡ row r mark next → Given)
          (λ x y z w k f. keeps at expected q x y w f)
          (λ f. absurd (let z : ◌≡◌ {A = ℕ} 0 1 = cc in omega arith))

-- a recovered row that another follows, with EOLs still expected: the next EOL lies before that
pub follows : (S : Settings) (t : Tagging) → 0 < S.columns → (bs : List Bool) (room room' : ℕ) (st : State) (r r' : List ℕ) (mark' : ℕ) (next next' : State)
    → row3 S t bs room st ≡ row r recovered_mark next → row3 S t bs room' next ≡ row r' mark' next' → (next.eols ≡ true → next'.eols ≡ true)
    → (a : ℕ) × (skip_to_eol bs next.at ≡ some a) × (a + 12 ≤ next'.at)
follows S t wide bs room room' st r r' mark' next next' e f k =
    let g = given S t wide bs room st r recovered_mark next e in
    let h = given S t wide bs room' next r' mark' next' f in
    let m = g.mended refl in
    let eols : next.eols ≡ true = g.eols ∙ m.1 in
    let quiet : Quiet bs next.at = subst (Quiet bs) (sym m.0) (before-quiet S t bs st (eqb st.count 0) g.start g.expected g.begins) in
    let b = before-found S t bs next quiet eols h.start h.expected (ap (before S t bs next) (sym (ne_eqb next.count 0 (λ z. omega (arith, g.counted)))) ∙ h.begins) (sym h.eols ∙ k eols) in
    (b.0, b.1, omega (arith, b.2, h.behind))

module _ (S : Settings) (t : Tagging) (bs cs : List Bool) (R : Rules) (reference : List ℕ) (a : ℕ) (rest : List Bool) (zeros : drop a bs ≡ replicate 11 false ++ rest) (agree : Agree (a + 11) bs cs) where
  -- a line of a Group 3 page that begins before the zeros
  line3-like : (u : Tagging) (at : ℕ) → at ≤ a → Like R bs cs a rest zeros agree (line3 S t bs R reference at u) (line3 S t cs R reference at u)
  line3-like untagged at h = read-like R bs cs a rest zeros agree one at (omega arith)
  line3-like tagged at h =
      subst (λ (b : Bool). Like R bs cs a rest zeros agree (line_of_tag S t bs R reference at b) (line_of_tag S t cs R reference at (ltb at (length cs)))) (sym (lt-ltb at (length bs) (omega (arith, agree.long))))
      (subst (λ (b : Bool). Like R bs cs a rest zeros agree (line_of_tag S t bs R reference at true) (line_of_tag S t cs R reference at b)) (sym (lt-ltb at (length cs) (omega (arith, agree.long'))))
      (subst (λ (b : Bool). Like R bs cs a rest zeros agree (tagged_line S t bs R reference at (front_bit (drop at bs))) (tagged_line S t cs R reference at b)) (sym (bit-same bs cs at (agree_less (suc at) (omega arith) agree)))
      (tags (front_bit (drop at bs)))))
    where
      tags : (b : Bool) → Like R bs cs a rest zeros agree (tagged_line S t bs R reference at b) (tagged_line S t cs R reference at b)
      tags true = read-like R bs cs a rest zeros agree one (suc at) (omega arith)
      tags false = read-like R bs cs a rest zeros agree (two reference) (suc at) (omega arith)

-- A recovered row stands over any other data that agree with these up to the eleven zeros of the next EOL.
module _ (S : Settings) (t : Tagging) (bs cs : List Bool) (room : ℕ) (st : State) (r : List ℕ) (next : State) (a : ℕ) (agree : Agree (a + 11) bs cs) where
  pub mended-same : skip_to_eol bs next.at ≡ some a → row3 S t bs room st ≡ row r recovered_mark next → row3 S t cs room st ≡ row r recovered_mark next
  unfolding row3
  mended-same sk =
      row3-cases S t bs room st (λ o. o ≡ row r recovered_mark next → row3 S t cs room st ≡ row r recovered_mark next)
      (λ at q f. absurd (let z : ◌≡◌ {A = ℕ} 0 1 = cc in omega arith))
      (λ at q f. absurd (let z : ◌≡◌ {A = ℕ} 0 1 = cc in omega arith))
      reads
    where
      R : Rules
      R = rules_of S room

      found : EolAt bs a
      found = (skip-finds (length bs) bs next.at a sk).eol

      rest : List Bool
      rest = drop 11 (drop a bs)

      zeros : drop a bs ≡ replicate 11 false ++ rest
      zeros = eol-zeros 11 (drop a bs) found.zeros found.run found.many

      open' : (at : ℕ) (x b : Bool) → next.at ≡ at → before S t bs st b ≡ at_line at x → Open S t bs cs b at
      open' at x true e q = quiet-over bs cs (length bs) at a (ap (skip_to_eol bs) (sym e) ∙ sk) (before-quiet S t bs st true at x q) (agree_less a (omega arith) agree)
      open' at x false e q = λ i p. clears-over bs cs t (eols3 bs t i) (length bs) a (ap (skip_to_eol bs) (p ∙ sym e) ∙ sk) agree (eols3-clear bs t i)

      mends : (at : ℕ) (expected : Bool) → before S t bs st (eqb st.count 0) ≡ at_line at expected → expected ≡ true → R.strict ≡ false → (n p : ℕ) (l : Line) → n ≤ 3
          → line3 S t bs R st.reference at t ≡ failed n p l → (w : Went) → push R 0 (R.width - l.position) (whitened S t bs l) ≡ w → kept S t bs st expected at recovered_mark w ≡ row r recovered_mark next
          → row3 S t cs room st ≡ row r recovered_mark next
      mends at expected q x y n p l h m (failed i j u) k f = absurd (let z : ◌≡◌ {A = ℕ} 0 1 = cc in omega arith)
      mends at expected q x y n p l h m (went u) k f =
          let to : next.at ≡ at = ap (λ (s : State). s.at) (sym (ap (next_of next) f)) in
          let le : at ≤ a = omega (arith, (skip-finds (length bs) bs next.at a sk).forward) in
          let b = before_same S t bs cs at expected (eqb st.count 0) (open' at expected (eqb st.count 0) to q) (agree_less (suc at) (omega arith) agree) st (λ z i. x) q in
          let g : Like R bs cs a rest zeros agree (failed n p l) (line3 S t cs R st.reference at t) = subst (λ (w : Went). Like R bs cs a rest zeros agree w (line3 S t cs R st.reference at t)) m (line3-like S t bs cs R st.reference a rest zeros agree t at le) in
          rw (b, g.2)
          (ap (recovered S t cs R st at expected g.0 g.1 l) (all-met expected R.strict (leb g.0 3) x y (le-leb g.0 3 (g.3 h)))
          ∙ ap (kept S t cs st expected at recovered_mark) k ∙ f)

      reads : (at : ℕ) (expected : Bool) → before S t bs st (eqb st.count 0) ≡ at_line at expected → (w : Went) → line3 S t bs R st.reference at t ≡ w
          → after_line3 S t bs R st at expected w ≡ row r recovered_mark next → row3 S t cs room st ≡ row r recovered_mark next
      reads at expected q (went l) m = λ f. absurd (read-marked l (ap mark_of f))
      reads at expected q (failed n p l) m =
          mended-cases S t bs R st at expected n p l (λ o. o ≡ row r recovered_mark next → row3 S t cs room st ≡ row r recovered_mark next)
          (λ x y z w k f. mends at expected q x y n p l z m w k f)
          (λ f. absurd (let z : ◌≡◌ {A = ℕ} 0 1 = cc in omega arith))
