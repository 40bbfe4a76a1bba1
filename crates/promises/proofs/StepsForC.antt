-- The forms in steps for C are as demanded: what their contracts say of the numbers that C lends is what the forms' own contracts say of their states.
-- Assumes nothing.
use mathlib.Core.Path.{◌≡◌, refl, sym, ap, ap₂, ◌∙◌, subst}
use mathlib.Core.Logic.{inl, inr}
use mathlib.Core.Bool.{Bool, true, false, cond}
use mathlib.Core.List.{List, [], ◌∷◌, map}
use Prim.Native.Nat.{ℕ, zero, suc, ◌≤◌}
use native.Mathlib.Omega.{arith}
use lib.Dec.{eqb}
use lib.ListN.{length, take, get_or}
use Rattle.rules.specs.Answers.{more_to_come, most_pixels}
use Rattle.rules.specs.Rows.{group4, Settings}
use Rattle.rules.specs.Group4.{row4}
use Rattle.rules.specs.Pages as Page'
use Rattle.rules.specs.Pages.{strict_if_exact, row_of, read_page, decode, places_in}
use Rattle.rules.specs.Machine.{Out, more, done}
use Rattle.rules.specs.Bits.{bits_of}
use Rattle.rules.specs.InSteps.{Said}
use Rattle.rules.specs.Units.{first, second, Stand, between, in_line, in_run, Keeping, Going, so_far, call, same_each}
use Rattle.rules.specs.ByUnit as Rule'
use Rattle.rules.specs.ByUnit.{end_of, going_of, saved_at, said_behind, unless_fewer, opened, ended, reading_after, as_group4, turn}
use Rattle.rules.specs.ByRow as Rule
use Rattle.rules.specs.ByRow.{Arrays, array_at, other}
use Rattle.rules.proofs.ByUnit.{turn-cases}
use Rattle.answer.specs.declared.Answer.{Answer}
use Rattle.settings.specs.declared.DecodeSettings.{DecodeSettings}
use Rattle.settings.specs.declared.EncodingMode.{EncodingMode}
use Rattle.settings.specs.declared.EncodingMode.TheVariants.{Group4, Group3_1D, Group3_2D}
use Rattle.settings.specs.Settings.{settings_of as ofSource}
use Rattle.ccitt.specs.Decode.{Gives}
use Rattle.by_row.specs.declared.Side.{Side}
use Rattle.by_row.specs.declared.Side.TheVariants.{First, Second}
use Rattle.by_row.specs.declared.End.TheVariants.{Unended}
use Rattle.by_row.specs.declared.RowState.{RowState}
use Rattle.by_row.specs.declared.RowStep.{RowStep}
use Rattle.by_row.specs.ByRow.{side_of, row_state_of, ReadsRow}
use Rattle.by_row.proofs.States.{same-state}
use Rattle.by_unit.specs.declared.Phase.TheVariants as Phase
use Rattle.by_unit.specs.declared.Reading as Unit
use Rattle.by_unit.specs.declared.Reading.TheVariants.{Open, Ended}
use Rattle.by_unit.specs.declared.Saved.{Saved}
use Rattle.by_unit.specs.declared.Turn.{Turn}
use Rattle.by_unit.specs.Reading.{saved_of, reading_of, ReadsUnits}
use Rattle.by_unit.proofs.States.{same-reading}
use Rattle.exports.specs.Exports.{settings_for}
use Rattle.exports.specs.RowState as Row
use Rattle.exports.specs.RowState.{side_number, mode_of}
use Rattle.exports.specs.UnitState as Units
use Rattle.exports.proofs.RowState as RowLaws
use Rattle.exports.proofs.UnitState as UnitLaws
use Rattle.promises.specs.Rooms.{Call, Reading}
use Rattle.promises.specs.ByRow.{RowCall, RowReading, number_of, mark_of, changes_of, Follows}
use Rattle.promises.specs.StepsForC.{ZerosAreTheStart, ccitt_row, ccitt_loose, Parameters, settings_of, RowCallForC, RowReadingForC, row_for_c, mark_for_c, ToldAlike, MacrosTell, RowsFollow, PageReadingForC, FormsAgreeForC, UnitCallForC, group4_of, UnitReadingForC, UnitsAlike, NumbersTell, UnitsFollow, UnitsAgreeForC}
use Rattle.promises.specs.ByUnit as UnitForm
use Rattle.promises.specs.ByUnit.{UnitCall, UnitReading}
use Rattle.promises.proofs.ByRow.{both, told, arrays-are, changes-given, changes-loose, read-row-pinned, forms-agree}
use Rattle.promises.proofs.ByUnit.{passes-sound, read-units-pinned, units-agree}
use Rattle.promises.proofs.UnitsHold.{Well, WellOut, well-call}
use Rattle.promises.proofs.UnitStored.{well-start}

-- ---- The start

abbrev row_zero : RowState
row_zero = record { at = 0; rows = 0; entries = 0; eols = false; side = Second; held = 0; end = Unended }

abbrev unit_zero : Unit.Reading
unit_zero = Open (record { phase = Phase.Eols; at = 0; eols = 0; rows = 0; position = 0; black = false; loose = 0; cut = false; run = 0; run_at = 0; mode_at = 0; blank = false })

pub zeros-are-the-start : ZerosAreTheStart
unfolding same_each
zeros-are-the-start = record {
  row = λ st. ((λ e. ap row_state_of (RowLaws.same_numbers st row_zero e)), λ e. ap Row.numbers_of (same-state st row_zero e));
  unit = λ r. ((λ e. ap reading_of (UnitLaws.same_numbers r unit_zero e)), λ e. ap Units.numbers_of (same-reading r unit_zero e));
}

-- ---- The macros

-- the array that a state's numbers name, and the other one
row_at : (s : Side) (xs ys : List ℕ) → cond (eqb (side_number s) 1) xs ys ≡ array_at (side_of s) (both xs ys)
row_at First xs ys = refl
row_at Second xs ys = refl

loose_at : (s : Side) (xs ys : List ℕ) → cond (eqb (side_number s) 1) ys xs ≡ array_at (other (side_of s)) (both xs ys)
loose_at First xs ys = refl
loose_at Second xs ys = refl

module _ (bytes : List ℕ) (settings : DecodeSettings) (d : RowCall) (g : RowReading bytes settings d) where
  -- the numbers that are handed back
  abbrev back : List ℕ
  back = Row.numbers_of d.step.state

  row-found : number_of d ≡ more_to_come → take d.step.state.held (ccitt_row back d.first' d.second') ≡ changes_of d
  row-found e =
      ap (take d.step.state.held) (row_at d.step.state.side d.first' d.second')
      ∙ ap₂ (λ (q : Rule.RowState) (xs : Arrays). take q.held (array_at q.side xs)) g.state (arrays-are bytes settings d g)
      ∙ sym (changes-given bytes settings d g e)

  loose-found : (number_of d ≡ more_to_come → ⊥) → take d.step.answer.loose (ccitt_loose back d.first' d.second') ≡ changes_of d
  loose-found ne =
      ap₂ (λ (n : ℕ) (l : List ℕ). take n l) (ap (λ (a : Answer). a.loose) g.answer) (loose_at d.step.state.side d.first' d.second')
      ∙ ap₂ (λ (q : Rule.RowState) (xs : Arrays). take (told bytes settings d).said.loose (array_at (other q.side) xs)) g.state (arrays-are bytes settings d g)
      ∙ sym (changes-loose bytes settings d g ne)

pub macros-tell : MacrosTell
macros-tell bytes p few c g d h es ef eg = cases g
  where
    S : DecodeSettings
    S = settings_of p

    same : Row.Called bytes S p.encoding c.state c.first c.second c.answer c.state' c.first' c.second' → ToldAlike c d
    same k = record {
      answer = answer;
      state = state;
      first = once.1;
      second = once.2;
      row = λ e. (λ i. take (get_or (state i) 1 0) (ccitt_row (state i) (once.1 i) (once.2 i))) ∙ row-found bytes S d h (sym (ap (λ (a : Answer). a.number) answer) ∙ e);
      loose = λ ne. (λ i. take (answer i).loose (ccitt_loose (state i) (once.1 i) (once.2 i))) ∙ loose-found bytes S d h (λ z. ne (ap (λ (a : Answer). a.number) answer ∙ z));
    }
      where
        states : k.state ≡ d.state
        states = RowLaws.same_numbers k.state d.state (k.fits.is ∙ es)

        once : (k.step ≡ d.step) × (c.first' ≡ d.first') × (c.second' ≡ d.second')
        once = read-row-pinned bytes S d.state d.first d.second k.step d.step c.first' d.first' c.second' d.second' (subst (λ (l : List ℕ). ReadsRow bytes S d.state l d.second k.step c.first' c.second') ef (subst (λ (l : List ℕ). ReadsRow bytes S d.state c.first l k.step c.first' c.second') eg (subst (λ (st : RowState). ReadsRow bytes S st c.first c.second k.step c.first' c.second') states k.reads))) h

        answer : c.answer ≡ d.step.answer
        answer = k.answer ∙ ap (λ (t : RowStep). t.answer) once.0

        state : c.state' ≡ Row.numbers_of d.step.state
        state = k.handed_back ∙ ap (λ (t : RowStep). Row.numbers_of t.state) once.0

    cases : RowReadingForC bytes p c → ToldAlike c d
    cases (inl k) = same k
    cases (inr k) = absurd (k.none d.state (record { is = sym es; named = inl few }))

-- ---- Calls one after the other

module _ (bytes : List ℕ) (p : Parameters) (few : p.encoding ≤ 2) where
  -- the row form's call that C made
  record Made (st : RowState) (c : RowCallForC) : Type 0 where
    call : RowCall
    state : call.state ≡ st
    first : call.first ≡ c.first
    second : call.second ≡ c.second
    reads : RowReading bytes (settings_of p) call
    alike : ToldAlike c call

  made : (st : RowState) (c : RowCallForC) → c.state ≡ Row.numbers_of st → RowReadingForC bytes p c → Made st c
  made st c e g = cases g
    where
      cases : RowReadingForC bytes p c → Made st c
      cases (inr k) = absurd (k.none st (record { is = sym e; named = inl few }))
      cases (inl k) =
          let d : RowCall = record { state = k.state; first = c.first; second = c.second; step = k.step; first' = c.first'; second' = c.second' } in
          record {
            call = d;
            state = RowLaws.same_numbers k.state st (k.fits.is ∙ e);
            first = refl;
            second = refl;
            reads = k.reads;
            alike = macros-tell bytes p few c g d k.reads (sym k.fits.is) refl refl;
          }

  record Walked (st : RowState) (xs ys : List ℕ) (cs : List RowCallForC) (last : RowCallForC) : Type 0 where
    given : List RowCall
    end : RowCall
    follows : Follows bytes (settings_of p) st xs ys given end
    rows : map row_for_c cs ≡ map changes_of given
    marks : map mark_for_c cs ≡ map mark_of given
    alike : ToldAlike last end

  walked : (cs : List RowCallForC) (last : RowCallForC) (st : RowState) (state xs ys : List ℕ) → state ≡ Row.numbers_of st → RowsFollow bytes p state xs ys cs last → Walked st xs ys cs last
  unfolding Follows RowsFollow
  walked [] last st state xs ys e (a, b, d, g) =
      let m = made st last (a ∙ e) g in
      record { given = []; end = m.call; follows = ((m.state, m.first ∙ b, m.second ∙ d), m.reads); rows = refl; marks = refl; alike = m.alike }
  walked (c ∷ cs) last st state xs ys e (a, b, d, g, q, f) =
      let m = made st c (a ∙ e) g in
      let w = walked cs last m.call.step.state c.state' c.first' c.second' m.alike.state f in
      record {
        given = m.call ∷ w.given;
        end = w.end;
        follows = (
          (m.state, m.first ∙ b, m.second ∙ d),
          m.reads,
          sym (ap (λ (x : Answer). x.number) m.alike.answer) ∙ q,
          subst (λ (l : List ℕ). Follows bytes (settings_of p) m.call.step.state l m.call.second' w.given w.end) m.alike.first
              (subst (λ (l : List ℕ). Follows bytes (settings_of p) m.call.step.state c.first' l w.given w.end) m.alike.second w.follows),
        );
        rows = ap₂ (λ (r : List ℕ) (l : List (List ℕ)). r ∷ l) (m.alike.row q) w.rows;
        marks = ap₂ (λ (r : ℕ) (l : List ℕ). r ∷ l) (ap (λ (x : Answer). x.mark) m.alike.answer) w.marks;
        alike = w.alike;
      }

-- Group 4 does not read `end_of_line`
line-unread : (columns rows : ℕ) (block line line' aligned strict exact : Bool) (bytes : List ℕ) (store places : ℕ)
    → decode (record { columns = columns; rows = rows; end_of_block = block; end_of_line = line; aligned = aligned; encoding = group4; strict = strict; exact = exact }) bytes store places
    ≡ decode (record { columns = columns; rows = rows; end_of_block = block; end_of_line = line'; aligned = aligned; encoding = group4; strict = strict; exact = exact }) bytes store places
unfolding decode read_page row_of row4
line-unread columns rows block line line' aligned strict exact bytes store places = refl

-- so the page form of an encoding reads with the settings of the row form
page-alike : (bytes : List ℕ) (p : Parameters) (page : Call) → PageReadingForC bytes p page → Reading bytes (settings_of p) page
page-alike bytes p page = tests (eqb p.encoding 0) refl
  where
    At : Bool → EncodingMode → DecodeSettings
    At line mode = settings_for p.columns p.rows p.block line p.aligned mode p.strict p.exact p.plain

    tests : (b : Bool) → eqb p.encoding 0 ≡ b → Reading bytes (At (cond b false p.line) (mode_of p.encoding)) page → Reading bytes (settings_of p) page
    tests false e r = r
    tests true e r =
        let mode : mode_of p.encoding ≡ Group4 = ap (λ (b : Bool). cond b Group4 (cond (eqb p.encoding 1) Group3_1D Group3_2D)) e in
        subst (λ (m : EncodingMode). Reading bytes (At p.line m) page) (sym mode)
        (subst (λ (a : Page'.Answer). Gives a page.changes page.ends page.marks page.answer page.changes' page.ends' page.marks')
        (line-unread p.columns p.rows p.block false p.line p.aligned p.strict p.exact bytes (length page.changes) (places_in page.ends page.marks))
        (subst (λ (m : EncodingMode). Reading bytes (At false m) page) mode r))

pub forms-agree-for-c : FormsAgreeForC
forms-agree-for-c bytes p few page r four five xs ys fits cs last f ne =
    let w = walked bytes p few cs last row_zero (same_each 10 0) xs ys (sym ((zeros-are-the-start.row row_zero).1 refl)) f in
    let number : last.answer.number ≡ number_of w.end = ap (λ (x : Answer). x.number) w.alike.answer in
    let a = forms-agree bytes (settings_of p) page (page-alike bytes p page r) four five xs ys fits w.given w.end
    (record { start = row_zero; is_start = refl; follows = w.follows }) (λ z. ne (number ∙ z)) in
    (w.rows ∙ a.0, w.marks ∙ a.1, w.alike.answer ∙ a.2, w.alike.loose ne ∙ a.3)

-- ---- A little at a time

-- a state of the rules that 32 bits hold
abbrev Small : Rule'.Reading → Type 0
Small (opened s) = (s.position ≤ most_pixels) × (s.run ≤ most_pixels)
Small (ended c) = Unit {0}

small-wordy : (r : Unit.Reading) → Small (reading_of r) → Units.Wordy r
small-wordy (Open s) h = h
small-wordy (Ended e c) h = tt

wordy-small : (r : Unit.Reading) → Units.Wordy r → Small (reading_of r)
wordy-small (Open s) h = h
wordy-small (Ended e c) h = tt

within : most_pixels ≤ most_pixels
within = omega arith

module _ (bytes : List ℕ) (settings : DecodeSettings) (narrow : settings.columns ≤ most_pixels) where
  -- an open page's state, and what a call on it comes to
  module _ (c : UnitCall) (s : Saved) (h : Small (opened (saved_of s))) where
    abbrev S : Settings
    S = as_group4 (ofSource settings)

    abbrev places : ℕ
    places = places_in c.ends c.marks

    abbrev WellHere : Keeping → Stand → Type 0
    WellHere = Well (strict_if_exact S) (bits_of bytes) (length c.changes) places s.rows (end_of c.ends s.rows) most_pixels within

    small-stand : (k : Keeping) (t : Stand) → WellHere k t → Small (opened (saved_at k.count t))
    small-stand k (between e) w = (omega arith, omega arith)
    small-stand k (in_line l) w = (omega (arith, w.fits), omega arith)
    small-stand k (in_run (first m) l t) w = (omega (arith, w.0.fits), w.1)
    small-stand k (in_run (second m z) l t) w = (omega (arith, w.0.fits), w.1)

    small-left : (o : Out Going Page'.Answer) (x : Said) → WellOut (strict_if_exact S) (bits_of bytes) (length c.changes) places s.rows (end_of c.ends s.rows) most_pixels within o → Small (reading_after x o)
    small-left (done a) x w = tt
    small-left (more g) x w = small-stand g.keeping g.stand w

    small_open : (n : ℕ) → Small (turn S bytes c.changes c.ends c.marks (suc n) (opened (saved_of s))).reading
    small_open n =
        turn-cases S bytes c.changes c.ends c.marks n (saved_of s) (λ t. Small t.reading) (λ e. h) (λ e f. h) (λ e f q. h) (λ e f q z. tt)
        (λ e f q z. small-left o (unless_fewer S (said_behind s.rows (end_of c.ends s.rows) (so_far o)))
        (well-call (strict_if_exact S) (bits_of bytes) (length c.changes) places s.rows (end_of c.ends s.rows) most_pixels within (suc n) (going_of c.changes c.ends (saved_of s))
        (well-start bytes settings c s most_pixels within h.1 (passes-sound bytes settings c s q))))
      where
        o : Out Going Page'.Answer
        o = call (strict_if_exact S) (bits_of bytes) (length c.changes) places (suc n) (more (going_of c.changes c.ends (saved_of s)))

  -- a reading that 32 bits hold is left for another
  wordy-after : (c : UnitCall) → UnitReading bytes settings c → Units.Wordy c.reading → Units.Wordy c.turn.reading
  unfolding turn
  wordy-after c g h = small-wordy c.turn.reading (subst Small (sym g.reading) (cases c.n c.reading (wordy-small c.reading h)))
    where
      cases : (n : ℕ) (r : Unit.Reading) → Small (reading_of r) → Small (turn (as_group4 (ofSource settings)) bytes c.changes c.ends c.marks n (reading_of r)).reading
      cases zero r h = h
      cases (suc n) (Open s) h = small_open c s h n
      cases (suc n) (Ended e x) h = tt

pub numbers-tell : NumbersTell
numbers-tell bytes p narrow c g d h es w en ex ee em = cases g
  where
    S : DecodeSettings
    S = group4_of p

    cases : UnitReadingForC bytes p c → UnitsAlike c d
    cases (inr k) = absurd (k.none d.reading w (sym es))
    cases (inl k) =
        let readings : k.reading ≡ d.reading = UnitLaws.same_numbers k.reading d.reading (k.is ∙ es) in
        let reads : ReadsUnits bytes S d.changes d.ends d.marks d.reading d.n k.turn c.changes' c.ends' c.marks'
        = subst (λ (n : ℕ). ReadsUnits bytes S d.changes d.ends d.marks d.reading n k.turn c.changes' c.ends' c.marks') en (alike readings k.reads) in
        let once = read-units-pinned bytes S d.changes d.ends d.marks d.reading d.n k.turn d.turn c.changes' d.changes' c.ends' d.ends' c.marks' d.marks' reads h in
        record {
          answer = k.answer ∙ ap (λ (t : Turn). t.answer) once.0;
          units = k.units ∙ ap (λ (t : Turn). t.units) once.0;
          state = k.handed_back ∙ ap (λ (t : Turn). Units.numbers_of t.reading) once.0;
          wordy = wordy-after bytes S narrow d h w;
          changes = once.1;
          ends = once.2;
          marks = once.3;
        }
      where
        -- the same state and arrays were handed to both
        alike : {r : Unit.Reading} {t : Turn} → r ≡ d.reading → ReadsUnits bytes S c.changes c.ends c.marks r c.n t c.changes' c.ends' c.marks'
            → ReadsUnits bytes S d.changes d.ends d.marks d.reading c.n t c.changes' c.ends' c.marks'
        alike {r} {t} q x =
            subst (λ (r : Unit.Reading). ReadsUnits bytes S d.changes d.ends d.marks r c.n t c.changes' c.ends' c.marks') q
            (subst (λ (l : List ℕ). ReadsUnits bytes S d.changes d.ends l r c.n t c.changes' c.ends' c.marks') em
            (subst (λ (l : List ℕ). ReadsUnits bytes S d.changes l c.marks r c.n t c.changes' c.ends' c.marks') ee
            (subst (λ (l : List ℕ). ReadsUnits bytes S l c.ends c.marks r c.n t c.changes' c.ends' c.marks') ex x)))

module _ (bytes : List ℕ) (p : Parameters) (narrow : p.columns ≤ most_pixels) where
  -- the unit form's call that C made
  record UnitMade (r : Unit.Reading) (c : UnitCallForC) : Type 0 where
    call : UnitCall
    reading : call.reading ≡ r
    n-is : call.n ≡ c.n
    changes : call.changes ≡ c.changes
    ends : call.ends ≡ c.ends
    marks : call.marks ≡ c.marks
    reads : UnitReading bytes (group4_of p) call
    alike : UnitsAlike c call

  unit-made : (r : Unit.Reading) (c : UnitCallForC) → Units.Wordy r → c.state ≡ Units.numbers_of r → UnitReadingForC bytes p c → UnitMade r c
  unit-made r c w e g = cases g
    where
      cases : UnitReadingForC bytes p c → UnitMade r c
      cases (inr k) = absurd (k.none r w (sym e))
      cases (inl k) =
          let d : UnitCall = record { n = c.n; reading = k.reading; changes = c.changes; ends = c.ends; marks = c.marks; turn = k.turn; changes' = c.changes'; ends' = c.ends'; marks' = c.marks' } in
          record {
            call = d;
            reading = UnitLaws.same_numbers k.reading r (k.is ∙ e);
            n-is = refl;
            changes = refl;
            ends = refl;
            marks = refl;
            reads = k.reads;
            alike = numbers-tell bytes p narrow c g d k.reads (sym k.is) k.wordy refl refl refl refl;
          }

  record UnitsWalked (r : Unit.Reading) (xs es ms : List ℕ) (last : UnitCallForC) : Type 0 where
    before : List UnitCall
    end : UnitCall
    follows : UnitForm.Follows bytes (group4_of p) r xs es ms before end
    alike : UnitsAlike last end

  units-walked : (cs : List UnitCallForC) (last : UnitCallForC) (r : Unit.Reading) (state xs es ms : List ℕ) → Units.Wordy r → state ≡ Units.numbers_of r
      → UnitsFollow bytes p state xs es ms cs last → UnitsWalked r xs es ms last
  unfolding UnitForm.Follows UnitsFollow
  units-walked [] last r state xs es ms w e (a, b, d, f, g, q) =
      let m = unit-made r last w (a ∙ e) g in
      record { before = []; end = m.call; follows = ((m.reading, m.changes ∙ b, m.ends ∙ d, m.marks ∙ f), m.reads, omega (arith, q, m.n-is)); alike = m.alike }
  units-walked (c ∷ cs) last r state xs es ms w e (a, b, d, f, g, q, later) =
      let m = unit-made r c w (a ∙ e) g in
      let t = m.alike in
      let k = units-walked cs last m.call.turn.reading c.state' m.call.changes' m.call.ends' m.call.marks' t.wordy t.state
      (subst (λ (l : List ℕ). UnitsFollow bytes p c.state' m.call.changes' m.call.ends' l cs last) t.marks
      (subst (λ (l : List ℕ). UnitsFollow bytes p c.state' m.call.changes' l c.marks' cs last) t.ends
      (subst (λ (l : List ℕ). UnitsFollow bytes p c.state' l c.ends' c.marks' cs last) t.changes later))) in
      record { before = m.call ∷ k.before; end = k.end; follows = ((m.reading, m.changes ∙ b, m.ends ∙ d, m.marks ∙ f), m.reads, omega (arith, q, m.n-is), k.follows); alike = k.alike }

pub units-agree-for-c : UnitsAgreeForC
units-agree-for-c bytes p narrow page r before last f ne =
    let w = units-walked bytes p narrow before last unit_zero (same_each 16 0) page.changes page.ends page.marks (omega arith, omega arith) (sym ((zeros-are-the-start.unit unit_zero).1 refl)) f in
    let a = units-agree bytes (group4_of p) narrow refl page r w.before w.end (record { start = unit_zero; is_start = refl; follows = w.follows }) (λ z. ne (ap (λ (x : Answer). x.number) w.alike.answer ∙ z)) in
    (w.alike.answer ∙ a.0, w.alike.changes ∙ a.1, w.alike.ends ∙ a.2, w.alike.marks ∙ a.3)
