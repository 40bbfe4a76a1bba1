-- Refusals, and calls in steps that go on, name no place and have no bytes. Assumes nothing.
use mathlib.Core.Path.{◌≡◌, refl, ap, ◌∙◌, subst}
use mathlib.Core.Logic.{◌⊎◌, inl, inr}
use mathlib.Core.Bool.{and-false}
use mathlib.Core.List.{List}
use Prim.Native.Nat.{ℕ, zero, suc, ◌≤◌, ◌<◌}
use native.Mathlib.Omega.{arith}
use lib.ListN.{length}
use Rattle.rules.specs.Answers.{no_row_end, bad_number, too_few_rows, more_to_come}
use Rattle.rules.specs.Machine.{Out, more, done}
use Rattle.rules.specs.Bits.{bits_of}
use Rattle.rules.specs.Rows.{Settings, RowOut, row, stop}
use Rattle.rules.specs.Pages as Page
use Rattle.rules.specs.Pages.{strict_if_exact, places_in}
use Rattle.rules.specs.InSteps.{Said, says_only}
use Rattle.rules.specs.ByRow as Rows
use Rattle.rules.specs.ByRow.{ended, unended, after_row, unless_few}
use Rattle.rules.specs.Units.{Going, so_far, call}
use Rattle.rules.specs.ByUnit as Units
use Rattle.rules.specs.ByUnit.{going_of, base_of, said_behind, unless_fewer, reading_after, as_group4, turn}
use Rattle.rules.proofs.ByRow.{few-cases, call-cases}
use Rattle.rules.proofs.ByUnit.{turn-cases}
use Rattle.answer.specs.declared.Answer.{Answer}
use Rattle.settings.specs.declared.DecodeSettings.{DecodeSettings}
use Rattle.settings.specs.Settings.{settings_of}
use Rattle.by_row.specs.declared.RowState.{RowState}
use Rattle.by_row.specs.ByRow.{Ending, end_of, row_state_of}
use Rattle.by_row.proofs.States as RowEnds
use Rattle.by_unit.specs.declared.Saved.{Saved}
use Rattle.by_unit.specs.declared.Reading.{Reading}
use Rattle.by_unit.specs.declared.Reading.TheVariants.{Open, Ended}
use Rattle.by_unit.specs.Standing.{answer_of}
use Rattle.by_unit.specs.Reading.{saved_of, reading_of}
use Rattle.by_unit.proofs.States as UnitEnds
use Rattle.exports.specs.RowState.{ReadsRowForC}
use Rattle.exports.specs.UnitState.{ReadsUnitsForC}
use Rattle.exports.specs.declared.UnitAnswer.{UnitAnswer}
use Rattle.promises.specs.ByRow.{RowCall, RowReading}
use Rattle.promises.specs.ByUnit.{UnitCall, UnitReading}
use Rattle.promises.specs.RefusalPlaces.{Refusal, NamesNone, RefusalPlaces, TenCountsNothing}
use Rattle.promises.proofs.ByUnit.{ended-listed, ten-means}
use Rattle.promises.proofs.Places.{decode-places, read-line-places, writers-name-none}

-- a refusal, or more to come
abbrev Passing : ℕ → Type 0
Passing n = Refusal n ⊎ (n ≡ more_to_come)

-- neither is an end of the page
not-passing : {n : ℕ} → (n ≤ no_row_end) ⊎ (n ≡ too_few_rows) → Passing n → ⊥
not-passing (inl h) (inl k) = omega (arith, k.0)
not-passing (inl h) (inr k) = omega arith
not-passing (inr h) (inl k) = omega (arith, k.1)
not-passing (inr h) (inr k) = omega arith

above : {n : ℕ} → Passing n → 3 < n
above (inl k) = omega (arith, k.0)
above (inr k) = omega arith

-- what is said then has no place and no bytes
abbrev Bare : Said → Type 0
Bare s = Passing s.number → (s.place ≡ 0) × (s.bytes ≡ 0)

-- ---- The row form

module _ (bytes : List ℕ) (settings : DecodeSettings) (c : RowCall) (g : RowReading bytes settings c) where
  abbrev S : Settings
  S = settings_of settings

  abbrev lent : Rows.Arrays
  lent = record { first = c.first; second = c.second }

  -- an end that a state of the code has
  row-end : (st : RowState) (n place b loose : ℕ) → end_of st.end ≡ ended n place b loose → (n ≤ no_row_end) ⊎ (n ≡ too_few_rows)
  row-end st n place b loose q = wider (subst EndOf q (RowEnds.end-listed st.end))
    where
      EndOf : Rows.End → Type 0
      EndOf unended = Unit {0}
      EndOf (ended n place b loose) = Ending n

      wider : Ending n → (n ≤ no_row_end) ⊎ (n ≡ too_few_rows)
      wider (inl h) = inl (omega arith)
      wider (inr h) = inr h

  -- the state that is handed back tells which ends there are
  abbrev RowSays : Rows.RowStep → Type 0
  RowSays d = row_state_of c.step.state ≡ d.state → Bare d.said

  ends-says : (n place b : ℕ) (loose : List ℕ) → RowSays (after_row (row_state_of c.state) lent (stop n place b loose))
  ends-says n place b loose q h = absurd (not-passing (row-end c.step.state n place b (length loose) (ap (λ (p : Rows.RowState). p.end) q)) h)

  row-says : RowSays (Rows.read_row S bytes (row_state_of c.state) lent)
  row-says =
      call-cases S bytes (row_state_of c.state) lent RowSays
      (λ n place b loose e q h. absurd (not-passing (row-end c.state n place b loose e) h))
      (λ u e q h. (refl, refl)) (λ u e f q h. (refl, refl)) (λ u e f s q h. (refl, refl)) (λ u e f s z q h. (refl, refl))
      (λ u e f s w o q. rows o)
    where
      rows : (o : RowOut) → RowSays (after_row (row_state_of c.state) lent (unless_few S bytes (row_state_of c.state) lent o))
      rows (row r mark next) = λ q h. (refl, refl)
      rows (stop n place b loose) =
          few-cases S bytes (row_state_of c.state) lent n place b loose (λ w. RowSays (after_row (row_state_of c.state) lent w)) (ends-says 14 0 0 loose) (ends-says n place b loose)

  pub row-bare : Passing c.step.answer.number → (c.step.answer.place ≡ 0) × (c.step.answer.bytes ≡ 0)
  row-bare h =
      let b = row-says g.state (subst (λ (a : Answer). Passing a.number) g.answer h) in
      (ap (λ (a : Answer). a.place) g.answer ∙ b.0, ap (λ (a : Answer). a.bytes) g.answer ∙ b.1)

-- ---- The unit form

module _ (bytes : List ℕ) (settings : DecodeSettings) (c : UnitCall) (g : UnitReading bytes settings c) where
  abbrev S₁ : Settings
  S₁ = as_group4 (settings_of settings)

  abbrev UnitSays : Units.Turn → Type 0
  UnitSays t = reading_of c.turn.reading ≡ t.reading → Bare t.answer

  -- units are taken: more to come, or an end, which what is handed back tells
  reads-says : (s : Saved) (o : Out Going Page.Answer)
      → reading_of c.turn.reading ≡ reading_after (unless_fewer S₁ (said_behind s.rows (base_of c.changes c.ends (saved_of s)) (so_far o))) o
      → Bare (unless_fewer S₁ (said_behind s.rows (base_of c.changes c.ends (saved_of s)) (so_far o)))
  reads-says s (more k) q = rw (and-false settings.exact) (λ h. (refl, refl))
  reads-says s (done a) q = λ h. absurd (not-passing (ended-listed c.turn.reading (unless_fewer S₁ (said_behind s.rows (base_of c.changes c.ends (saved_of s)) a)) q) h)

  unit-says : (n : ℕ) (r : Reading) → UnitSays (turn S₁ bytes c.changes c.ends c.marks n (reading_of r))
  unfolding turn
  unit-says zero r = λ q h. (refl, refl)
  unit-says (suc n) (Ended e d) = λ q h. absurd (not-passing (UnitEnds.end-listed e d) h)
  unit-says (suc n) (Open s) =
      turn-cases S₁ bytes c.changes c.ends c.marks n (saved_of s) UnitSays
      (λ e q h. (refl, refl)) (λ e f q h. (refl, refl)) (λ e f k q h. (refl, refl)) (λ e f k z q h. (refl, refl))
      (λ e f k w. reads-says s (call (strict_if_exact S₁) (bits_of bytes) (length c.changes) (places_in c.ends c.marks) (suc n) (more (going_of c.changes c.ends (saved_of s)))))

  pub unit-bare : Passing c.turn.answer.number → (c.turn.answer.place ≡ 0) × (c.turn.answer.bytes ≡ 0)
  unit-bare h =
      let b = unit-says c.n c.reading g.reading (subst (λ (a : Answer). Passing a.number) g.answer h) in
      (ap (λ (a : Answer). a.place) g.answer ∙ b.0, ap (λ (a : Answer). a.bytes) g.answer ∙ b.1)

-- ---- For C

-- the row form's call from the numbers' state, or a refusal
c_row : (bytes : List ℕ) (settings : DecodeSettings) (encoding : ℕ) (state first second : List ℕ) (r : Answer) (state' first' second' : List ℕ)
    → ReadsRowForC bytes settings encoding state first second r state' first' second' → NamesNone r
c_row bytes settings encoding state first second r state' first' second' (inl c) h =
    ap (λ (a : Answer). a.place) c.answer
    ∙ (row-bare bytes settings (record { state = c.state; first = first; second = second; step = c.step; first' = first'; second' = second' }) c.reads
    (subst (λ (a : Answer). Passing a.number) c.answer h)).0
c_row bytes settings encoding state first second r state' first' second' (inr u) h = ap (λ (a : Answer). a.place) u.answer

c_units : (bytes : List ℕ) (settings : DecodeSettings) (changes ends marks state : List ℕ) (n : ℕ) (r : UnitAnswer) (changes' ends' marks' state' : List ℕ)
    → ReadsUnitsForC bytes settings changes ends marks state n r changes' ends' marks' state' → NamesNone r.answer
c_units bytes settings changes ends marks state n r changes' ends' marks' state' (inl c) h =
    ap (λ (a : Answer). a.place) c.answer
    ∙ (unit-bare bytes settings (record { n = n; reading = c.reading; changes = changes; ends = ends; marks = marks; turn = c.turn; changes' = changes'; ends' = ends'; marks' = marks' }) c.reads
    (subst (λ (a : Answer). Passing a.number) c.answer h)).0
c_units bytes settings changes ends marks state n r changes' ends' marks' state' (inr u) h = ap (λ (a : Answer). a.place) u.answer

-- ---- All forms

pub refusal-places : RefusalPlaces
refusal-places = record {
  page = λ bytes settings changes ends marks r changes' ends' marks' called h. (decode-places bytes settings changes ends marks r changes' ends' marks' called).later (above h);
  line = λ bytes at columns strict reference changes r changes' called h. (read-line-places bytes at columns strict reference changes r changes' called).0.later (above h);
  row_form = λ bytes settings c g h. (row-bare bytes settings c g h).0;
  unit_form = λ bytes settings c g h. (unit-bare bytes settings c g h).0;
  c_row = c_row;
  c_units = c_units;
  writers = λ w out r out' called h. writers-name-none w out r out' called;
}

pub ten-counts-nothing : TenCountsNothing
unfolding turn
ten-counts-nothing bytes settings c g e =
    let t = ap (λ (n : ℕ). (turn (as_group4 (settings_of settings)) bytes c.changes c.ends c.marks n (reading_of c.reading)).answer) ((ten-means bytes settings c g).0.0 e) in
    let a : c.turn.answer ≡ answer_of (says_only bad_number) = g.answer ∙ ap answer_of t in
    (ap (λ (x : Answer). x.rows) a, ap (λ (x : Answer). x.entries) a, ap (λ (x : Answer). x.loose) a, ap (λ (x : Answer). x.bytes) a)
