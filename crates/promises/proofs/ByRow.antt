-- The row form is as demanded: what its contract says of calls, one after the other, is what the rules' laws say of them. Assumes nothing.
use mathlib.Core.Path.{◌≡◌, refl, sym, ap, ap₂, ◌∙◌, subst}
use mathlib.Core.Logic.{◌⊎◌, inl, inr, ◌↔◌}
use mathlib.Core.Bool.{Bool, true, false, cond, true≢false}
use mathlib.Core.List.{List, [], ◌∷◌, ◌++◌, map, append_assoc, append-nil}
use Prim.Native.Nat.{ℕ, suc, ◌+◌, ◌*◌, ◌≤◌, ◌<◌}
use native.Mathlib.Omega.{arith}
use lib.Dec.{leb}
use lib.ListN.{length, take, length-append}
use borrow.Author.Tests.{leb-true, le-leb, eq-eqb, ne_eqb, eqb-true, eqb-false}
use Rattle.rules.specs.Answers.{complete, no_entry, no_row_end, bad_width, too_long, bad_rows, too_few_rows, more_to_come, most_pixels}
use Rattle.rules.specs.Machine.{more, done, run}
use Rattle.rules.specs.Bits.{bits_of}
use Rattle.rules.specs.Rows.{Settings, State, RowOut, row, stop}
use Rattle.rules.specs.Pages as Page
use Rattle.rules.specs.Pages.{most_bytes, is_too_wide, strict_if_exact}
use Rattle.rules.specs.InSteps.{Said}
use Rattle.rules.specs.ByRow as Rule
use Rattle.rules.specs.ByRow.{Arrays, array_at, other, unended, ended, reference_in, between, room_in, after_row, unless_few, sound, read_row, Caller, caller_with, Over, does_go_on, call_step, over_of, FitIn}
use Rattle.rules.proofs.Machine.{run-once}
use Rattle.rules.proofs.Bits.{length-bits_of, both_true}
use Rattle.rules.specs.Rising.{Rising}
use Rattle.rules.proofs.Ascending.{ascends-rises, rises-ascends}
use Rattle.rules.proofs.Budget.{whole-bytes}
use Rattle.rules.proofs.LessRoom.{changes_in}
use Rattle.rules.proofs.ByRow.{few-cases, call-cases, repeats-end, call-marked, Bounded, row-bounded, call-sides, Own, own-start, own-lent, row_at, row_in, own-next, own-reads}
use Rattle.rules.proofs.ByRow as Laws
use Rattle.rules.proofs.FormsAgree.{start-sound, fitting-agree, few_changes, any_row, changes_here, four-exactly}
use Rattle.answer.specs.declared.Answer.{Answer}
use Rattle.settings.specs.declared.DecodeSettings.{DecodeSettings}
use Rattle.settings.specs.Settings.{settings_of}
use Rattle.by_row.specs.declared.Side.{Side}
use Rattle.by_row.specs.declared.Side.TheVariants.{First, Second}
use Rattle.by_row.specs.declared.End.TheVariants.{Unended}
use Rattle.by_row.specs.declared.RowState.{RowState}
use Rattle.by_row.specs.declared.RowStep.{RowStep}
use Rattle.by_row.specs.ByRow.{side_of, other_side, Ending, end_of, row_state_of, answer_of, count_of}
use Rattle.by_row.proofs.States.{same-side, same-state, not_more, end-listed}
use Rattle.promises.specs.Rooms.{places, rows_of}
use Rattle.promises.specs.ByRow.{RowCall, RowReading, number_of, mark_of, array_of, changes_of, reference_of, row_array_of, Handed, Follows, Page, FormsAgree, RowsEnd, RowFormRepeats, Sound, RowListed, Left, RowRefusals, OwnStates, FourMeans, LineArrayEnough, NeverFive, ReadRowPinned, RowStartPinned}
use Rattle.promises.proofs.Rooms.{answer_in, rows_are, marks_are, loose-are, as_many}

-- ---- Pinned

pub row-start-pinned : RowStartPinned
row-start-pinned r s e f = same-state r s (e ∙ sym f)

pub read-row-pinned : ReadRowPinned
read-row-pinned bytes settings st first second r s xs ys us vs g h = (
  (λ i. record {
    answer = (g.answer ∙ sym h.answer) i;
    array = same-side r.array s.array (g.array ∙ sym h.array) i;
    count = (g.count ∙ sym h.count) i;
    state = same-state r.state s.state (g.state ∙ sym h.state) i;
  }),
  g.first ∙ sym h.first,
  g.second ∙ sym h.second,
)

-- ---- One call

abbrev pub both : List ℕ → List ℕ → Arrays
both xs ys = record { first = xs; second = ys }

pub array-at : (s : Side) (xs ys : List ℕ) → array_of s xs ys ≡ array_at (side_of s) (both xs ys)
array-at First xs ys = refl
array-at Second xs ys = refl

pub other-is : (s : Side) → side_of (other_side s) ≡ other (side_of s)
other-is First = refl
other-is Second = refl

pub room-is : (c : RowCall) → room_in (row_state_of c.state) (both c.first c.second) ≡ length (row_array_of c)
room-is c = sym (ap length (array-at (other_side c.state.side) c.first c.second ∙ ap (λ (s : Rule.Side). array_at s (both c.first c.second)) (other-is c.state.side)))

-- an answer as what is said
abbrev said_of : Answer → Said
said_of a = record { number = a.number; mark = a.mark; rows = a.rows; entries = a.entries; loose = a.loose; bytes = a.bytes; place = a.place }

module _ (bytes : List ℕ) (settings : DecodeSettings) where
  abbrev S : Settings
  S = settings_of settings

  -- what the rules say of it
  abbrev pub told : RowCall → Rule.RowStep
  told c = read_row S bytes (row_state_of c.state) (both c.first c.second)

  module _ (c : RowCall) (g : RowReading bytes settings c) where
    pub number_is : number_of c ≡ (told c).said.number
    number_is = ap (λ (a : Answer). a.number) g.answer

    said-is : said_of c.step.answer ≡ (told c).said
    said-is = ap said_of g.answer

    pub arrays-are : both c.first' c.second' ≡ (told c).arrays
    arrays-are = λ i. record { first = g.first i; second = g.second i }

    -- the end that a state has is of the list
    listed : (n place b loose : ℕ) → end_of c.state.end ≡ ended n place b loose → Ending n
    listed n place b loose e = subst EndOf e (end-listed c.state.end)
      where
        EndOf : Rule.End → Type 0
        EndOf unended = Unit {0}
        EndOf (ended n place b loose) = Ending n

    pub sides : ((told c).said.number ≡ more_to_come → (told c).state.side ≡ other (side_of c.state.side)) × (((told c).said.number ≡ more_to_come → ⊥) → (told c).state.side ≡ side_of c.state.side)
    sides = call-sides S bytes (row_state_of c.state) (both c.first c.second) (λ n place b loose e z. not_more n (listed n place b loose e) z)

    -- its changes
    pub changes-at : changes_of c ≡ take (count_of (told c)) (array_at (other (side_of c.state.side)) (told c).arrays)
    changes-at = ap₂ (λ (n : ℕ) (l : List ℕ). take n l) g.count (array-at c.step.array c.first' c.second' ∙ ap₂ (λ (s : Rule.Side) (xs : Arrays). array_at s xs) g.array arrays-are)

    pub changes-given : number_of c ≡ more_to_come → changes_of c ≡ reference_in (told c).state (told c).arrays
    changes-given e =
        changes-at
        ∙ ap₂ (λ (n : ℕ) (s : Rule.Side). take n (array_at s (told c).arrays))
        (ap (λ (b : Bool). cond b (told c).state.held (told c).said.loose) (eq-eqb (told c).said.number 15 (sym number_is ∙ e)))
        (sym (sides.0 (sym number_is ∙ e)))

    pub changes-loose : (number_of c ≡ more_to_come → ⊥) → changes_of c ≡ take (told c).said.loose (array_at (other (told c).state.side) (told c).arrays)
    changes-loose e =
        changes-at
        ∙ ap₂ (λ (n : ℕ) (s : Rule.Side). take n (array_at (other s) (told c).arrays))
        (ap (λ (b : Bool). cond b (told c).state.held (told c).said.loose) (ne_eqb (told c).said.number 15 (λ z. e (number_is ∙ z))))
        (sym (sides.1 (λ z. e (number_is ∙ z))))

  -- ---- Calls, as the rules' caller makes them

  abbrev pub at : RowState → List ℕ → List ℕ → List (List ℕ) → List ℕ → Caller
  at st xs ys rows marks = record { state = row_state_of st; arrays = both xs ys; rows = rows; marks = marks }

  pub handed-at : (st : RowState) (xs ys : List ℕ) (c : RowCall) → Handed st xs ys c → (rows : List (List ℕ)) (marks : List ℕ) → at c.state c.first c.second rows marks ≡ at st xs ys rows marks
  handed-at st xs ys c (s, f, t) rows marks = λ i. at (s i) (f i) (t i) rows marks

  -- a call that gives a row
  pub step-more : (c : RowCall) → RowReading bytes settings c → number_of c ≡ more_to_come → (rows : List (List ℕ)) (marks : List ℕ)
      → call_step S bytes (at c.state c.first c.second rows marks) ≡ more (at c.step.state c.first' c.second' (rows ++ changes_of c ∷ []) (marks ++ mark_of c ∷ []))
  unfolding call_step
  step-more c g e rows marks =
      ap (does_go_on (at c.state c.first c.second rows marks) (told c)) (eq-eqb (told c).said.number 15 (sym (number_is c g) ∙ e))
      ∙ (λ i. more (record {
        state = sym g.state i;
        arrays = sym (arrays-are c g) i;
        rows = rows ++ sym (changes-given c g e) i ∷ [];
        marks = marks ++ sym (ap (λ (a : Answer). a.mark) g.answer) i ∷ [];
      }))

  -- and one that does not
  step-done : (c : RowCall) → RowReading bytes settings c → (number_of c ≡ more_to_come → ⊥) → (rows : List (List ℕ)) (marks : List ℕ)
      → call_step S bytes (at c.state c.first c.second rows marks) ≡ done (record { said = said_of c.step.answer; rows = rows; marks = marks; loose = changes_of c })
  unfolding call_step
  step-done c g e rows marks =
      ap (does_go_on (at c.state c.first c.second rows marks) (told c)) (ne_eqb (told c).said.number 15 (λ z. e (number_is c g ∙ z)))
      ∙ (λ i. done (record { said = sym (said-is c g) i; rows = rows; marks = marks; loose = sym (changes-loose c g e) i }))

  followed : (cs : List RowCall) (last : RowCall) (st : RowState) (xs ys : List ℕ) → Follows bytes settings st xs ys cs last → (number_of last ≡ more_to_come → ⊥) → (rows : List (List ℕ)) (marks : List ℕ)
      → run (call_step S bytes) (suc (length cs)) (at st xs ys rows marks)
      ≡ done (record { said = said_of last.step.answer; rows = rows ++ map changes_of cs; marks = marks ++ map mark_of cs; loose = changes_of last })
  unfolding run Follows
  followed [] last st xs ys (h, g) e rows marks =
      ap (λ (k : Caller). run (call_step S bytes) 1 k) (sym (handed-at st xs ys last h rows marks))
      ∙ (rw (step-done last g e rows marks))
      ∙ (λ i. done (record { said = said_of last.step.answer; rows = sym (append-nil rows) i; marks = sym (append-nil marks) i; loose = changes_of last }))
  followed (c ∷ cs) last st xs ys (h, g, q, f) e rows marks =
      ap (λ (k : Caller). run (call_step S bytes) (suc (suc (length cs))) k) (sym (handed-at st xs ys c h rows marks))
      ∙ (rw (step-more c g q rows marks))
      ∙ followed cs last c.step.state c.first' c.second' f e (rows ++ changes_of c ∷ []) (marks ++ mark_of c ∷ [])
      ∙ (λ i. done (record {
        said = said_of last.step.answer;
        rows = append_assoc rows (changes_of c ∷ []) (map changes_of cs) i;
        marks = append_assoc marks (mark_of c ∷ []) (map mark_of cs) i;
        loose = changes_of last;
      }))

  -- ---- The state after rows is the form's own

  -- once a row is given, the tests are passed
  pub record Passed : Type 0 where
    pub wide : 0 < settings.columns
    pub narrow : is_too_wide settings.columns ≡ false
    pub size : length bytes ≤ most_bytes

  pub passed : (c : RowCall) → RowReading bytes settings c → number_of c ≡ more_to_come → Passed
  passed c g e =
      call-cases S bytes (row_state_of c.state) (both c.first c.second) (λ d. d.said.number ≡ more_to_come → Passed)
      (λ n place b loose u z. absurd (not_more n (listed c g n place b loose u) z))
      (λ u t z. absurd (omega arith)) (λ u t f z. absurd (omega arith)) (λ u t f s z. absurd (omega arith)) (λ u t f s k z. absurd (omega arith))
      (λ u t f s w o q z. record { wide = w; narrow = t; size = f })
      (sym (number_is c g) ∙ e)

  module _ (p : Passed) where
    abbrev OwnAt : RowState → List ℕ → List ℕ → List (List ℕ) → List ℕ → Type 0
    OwnAt st xs ys rows marks = Own S p.wide bytes (at st xs ys rows marks)

    -- what a call from a state of its own comes to
    module _ (c : RowCall) (rows : List (List ℕ)) (marks : List ℕ) (o : OwnAt c.state c.first c.second rows marks) where
      abbrev k : Caller
      k = at c.state c.first c.second rows marks

      comes-to : (w : RowOut) → row_in S p.wide bytes k ≡ w → told c ≡ after_row (row_state_of c.state) (both c.first c.second) (unless_few S bytes (row_state_of c.state) (both c.first c.second) w)
      comes-to w e =
          own-reads S p.wide bytes p.narrow p.size k o
          ∙ ap (λ (w : RowOut). after_row (row_state_of c.state) (both c.first c.second) (unless_few S bytes (row_state_of c.state) (both c.first c.second) w)) e

      -- a row is given, or the page ends with a number of the list
      own-cases : (C : Rule.RowStep → Type 0) → ((r : List ℕ) (mark : ℕ) (next : State) → row_in S p.wide bytes k ≡ row r mark next → C (after_row (row_state_of c.state) (both c.first c.second) (row r mark next)))
          → ((n place b : ℕ) (loose : List ℕ) → Ending n → C (after_row (row_state_of c.state) (both c.first c.second) (stop n place b loose))) → C (told c)
      own-cases C gives ends = cases (row_in S p.wide bytes k) refl
        where
          cases : (w : RowOut) → row_in S p.wide bytes k ≡ w → C (told c)
          cases (row r mark next) e = subst C (sym (comes-to (row r mark next) e)) (gives r mark next e)
          cases (stop n place b loose) e =
              let m : n ≤ no_entry = subst (Bounded (bits_of bytes)) e (row-bounded (strict_if_exact S) p.wide (bits_of bytes) (whole-bytes bytes) (room_in k.state k.arrays) (between k.state k.arrays) o.held.inside S.encoding) in
              subst C (sym (comes-to (stop n place b loose) e))
              (few-cases S bytes (row_state_of c.state) (both c.first c.second) n place b loose (λ w. C (after_row (row_state_of c.state) (both c.first c.second) w)) (ends 14 0 0 loose (inr refl)) (ends n place b loose (inl m)))

      own-after : RowReading bytes settings c → number_of c ≡ more_to_come → (r : List ℕ) × (mark : ℕ) × OwnAt c.step.state c.first' c.second' (rows ++ r ∷ []) (marks ++ mark ∷ [])
      own-after g e =
          own-cases (λ d. d.said.number ≡ more_to_come → row_state_of c.step.state ≡ d.state → both c.first' c.second' ≡ d.arrays
          → (r : List ℕ) × (mark : ℕ) × OwnAt c.step.state c.first' c.second' (rows ++ r ∷ []) (marks ++ mark ∷ []))
          (λ r mark next q z s t. (
            r,
            mark,
            subst (λ (k : Caller). Own S p.wide bytes k) (λ i. record { state = sym s i; arrays = sym t i; rows = rows ++ r ∷ []; marks = marks ++ mark ∷ [] }) (own-next S p.wide bytes k o r mark next q),
          ))
          (λ n place b loose h z s t. absurd (not_more n h z))
          (sym (number_is c g) ∙ e) g.state (arrays-are c g)

    own-along : (cs : List RowCall) (last : RowCall) (st : RowState) (xs ys : List ℕ) → Follows bytes settings st xs ys cs last → (rows : List (List ℕ)) (marks : List ℕ) → OwnAt st xs ys rows marks
        → (rows' : List (List ℕ)) × (marks' : List ℕ) × OwnAt last.state last.first last.second rows' marks' × (length rows' ≡ length rows + length cs)
    unfolding Follows
    own-along [] last st xs ys (h, g) rows marks o = (rows, marks, subst (λ (k : Caller). Own S p.wide bytes k) (sym (handed-at st xs ys last h rows marks)) o, (let z : length rows ≡ length rows + 0 = omega arith in z))
    own-along (c ∷ cs) last st xs ys (h, g, q, f) rows marks o =
        let (r, mark, after) = own-after c rows marks (subst (λ (k : Caller). Own S p.wide bytes k) (sym (handed-at st xs ys c h rows marks)) o) g q in
        let (rows', marks', own, l) = own-along cs last c.step.state c.first' c.second' f (rows ++ r ∷ []) (marks ++ mark ∷ []) after in
        (rows', marks', own, (let z : length rows' ≡ length rows + suc (length cs) = omega (arith, length-append rows (r ∷ [])) in z))

    -- from the first call of a page on
    own-page : (first second : List ℕ) (cs : List RowCall) (last : RowCall) → Page bytes settings first second cs last
        → (rows' : List (List ℕ)) × (marks' : List ℕ) × OwnAt last.state last.first last.second rows' marks' × (length rows' ≡ length cs)
    own-page first second cs last f =
        let start : OwnAt f.start first second [] []
        = subst (λ (k : Caller). Own S p.wide bytes k) (λ i. record { state = sym f.is_start i; arrays = both first second; rows = []; marks = [] }) (own-start S p.wide bytes (both first second)) in
        let (rows', marks', own, l) = own-along cs last f.start first second f.follows [] [] start in
        (rows', marks', own, (let z : length rows' ≡ length cs = omega (arith, l) in z))

  -- a page that gave a row passed the tests; or its first call is the last
  page-cases : (first second : List ℕ) (cs : List RowCall) (last : RowCall) → Page bytes settings first second cs last → (C : List RowCall → Type 0)
      → (Passed → C cs) → (row_state_of last.state ≡ Rule.row_start → RowReading bytes settings last → C []) → C cs
  unfolding Follows
  page-cases first second [] last f C some none = none (ap row_state_of f.follows.0.0 ∙ f.is_start) f.follows.1
  page-cases first second (c ∷ cs) last f C some none = some (passed c f.follows.1 f.follows.2)

  pub last-reads : (cs : List RowCall) (last : RowCall) (st : RowState) (xs ys : List ℕ) → Follows bytes settings st xs ys cs last → RowReading bytes settings last
  unfolding Follows
  last-reads [] last st xs ys (h, g) = g
  last-reads (c ∷ cs) last st xs ys (h, g, q, f) = last-reads cs last c.step.state c.first' c.second' f

-- ---- Page and row form agree

pub forms-agree : FormsAgree
forms-agree bytes settings page r four five first second fits cs last f e =
    let a = answer_in bytes settings page in
    let number : page.answer.number ≡ a.number = ap (λ (x : Answer). x.number) r.answer in
    let (m, l, q) = fitting-agree (settings_of settings) bytes (both first second) (length page.changes) (places page) (λ z. four (number ∙ z)) (λ z. five (number ∙ z))
    (subst (λ (rows : List (List ℕ)). FitIn (length first) (length second) rows a.loose) (rows_are a page r) (subst (FitIn (length first) (length second) (rows_of page)) (loose-are a page r) fits)) in
    let start : at bytes settings f.start first second [] [] ≡ caller_with (both first second) = λ i. record { state = f.is_start i; arrays = both first second; rows = []; marks = [] } in
    let over : over_of a ≡ record { said = said_of last.step.answer; rows = map changes_of cs; marks = map mark_of cs; loose = changes_of last }
    = run-once (call_step (settings_of settings) bytes) (suc m) (suc (length cs)) (caller_with (both first second)) _ _ q
    (ap (run (call_step (settings_of settings) bytes) (suc (length cs))) (sym start) ∙ followed bytes settings cs last f.start first second f.follows e [] []) in (
      sym (rows_are a page r ∙ ap (λ (o : Over). o.rows) over),
      sym (marks_are a page r (as_many bytes settings page) ∙ ap (λ (o : Over). o.marks) over),
      sym (r.answer ∙ ap (λ (o : Over). answer_of o.said) over),
      sym (loose-are a page r ∙ ap (λ (o : Over). o.loose) over),
    )

pub rows_end : RowsEnd
rows_end bytes settings first second cs last f =
    page-cases bytes settings first second cs last f (λ cs. length cs ≤ 8 * length bytes + 1)
    (λ p.
    let (rows, marks, o, l) = own-page bytes settings p first second cs last f in
    omega (arith, l, o.held.few, o.held.inside, length-bits_of bytes))
    (λ s g. omega arith)

-- ---- After the end

pub row-form-repeats : RowFormRepeats
row-form-repeats bytes settings c g h bytes' settings' d e k =
    let ys = both d.first d.second in
    let n = number_is bytes settings c g in
    let t : told bytes' settings' d ≡ record { said = (told bytes settings c).said; state = (told bytes settings c).state; arrays = ys }
    = ap (λ (p : Rule.RowState). read_row (settings_of settings') bytes' p ys) (ap row_state_of e ∙ g.state)
    ∙ repeats-end (settings_of settings) bytes (row_state_of c.state) (both c.first c.second) (settings_of settings') bytes' ys (subst Ending n h) in
    let side : side_of d.state.side ≡ side_of c.state.side
    = ap (λ (s : RowState). side_of s.side) e ∙ ap (λ (p : Rule.RowState). p.side) g.state ∙ (sides bytes settings c g).1 (λ z. not_more (number_of c) h (n ∙ z)) in (
      (λ i. record {
        answer = (k.answer ∙ ap (λ (x : Rule.RowStep). answer_of x.said) t ∙ sym g.answer) i;
        array = same-side d.step.array c.step.array (k.array ∙ ap other side ∙ sym g.array) i;
        count = (k.count ∙ ap count_of t ∙ sym g.count) i;
        state = same-state d.step.state c.step.state (k.state ∙ ap (λ (x : Rule.RowStep). x.state) t ∙ sym g.state) i;
      }),
      k.first ∙ ap (λ (x : Rule.RowStep). x.arrays.first) t,
      k.second ∙ ap (λ (x : Rule.RowStep). x.arrays.second) t,
    )

-- ---- Refusals

module _ (bytes : List ℕ) (settings : DecodeSettings) (c : RowCall) where
  abbrev held : ℕ
  held = c.state.held

  abbrev lent : Arrays
  lent = both c.first c.second

  -- the test of the state, in 01's words
  pub sound-passes : Sound bytes settings c → sound (settings_of settings) bytes (row_state_of c.state) lent ≡ true
  unfolding sound
  sound-passes s =
      rw (
        sym (array-at c.state.side c.first c.second),
        le-leb c.state.at (8 * length bytes) s.inside,
        le-leb held (length (reference_of c)) s.held,
        le-leb held (8 * length bytes + 1) s.few_held,
        le-leb c.state.rows (8 * length bytes + 1) s.few_rows,
        le-leb c.state.entries (8 * length bytes + 1) s.few_entries,
      )
      (rises-ascends s.rising)

  pub passes-sound : sound (settings_of settings) bytes (row_state_of c.state) lent ≡ true → Sound bytes settings c
  unfolding sound
  passes-sound e =
      let (a, e1) = both_true (leb c.state.at (8 * length bytes)) _ e in
      let (b, e2) = both_true (leb held (length (array_at (side_of c.state.side) lent))) _ e1 in
      let (d, e3) = both_true (leb held (8 * length bytes + 1)) _ e2 in
      let (f, e4) = both_true (leb c.state.rows (8 * length bytes + 1)) _ e3 in
      let (g, e5) = both_true (leb c.state.entries (8 * length bytes + 1)) _ e4 in
      let same = array-at c.state.side c.first c.second in
      record {
        inside = leb-true c.state.at (8 * length bytes) a;
        held = subst (λ (l : List ℕ). held ≤ length l) (sym same) (leb-true held (length (array_at (side_of c.state.side) lent)) b);
        few_held = leb-true held (8 * length bytes + 1) d;
        few_rows = leb-true c.state.rows (8 * length bytes + 1) f;
        few_entries = leb-true c.state.entries (8 * length bytes + 1) g;
        rising = subst (λ (l : List ℕ). Rising settings.columns 0 (take held l)) (sym same) (ascends-rises settings.columns 0 (take held (array_at (side_of c.state.side) lent)) e5);
      }

  -- what a call says before the page's end, of a number of the rules
  record Says (d : Rule.RowStep) : Type 0 where
    listed : Ending d.said.number ⊎ ((d.said.number ≡ bad_width) ⊎ ((d.said.number ≡ too_long) ⊎ ((d.said.number ≡ bad_rows) ⊎ (d.said.number ≡ more_to_come))))
    six : (d.said.number ≡ bad_width) ↔ (settings.columns ≡ most_pixels)
    seven : (d.said.number ≡ too_long) ↔ ((settings.columns ≡ most_pixels → ⊥) × (most_bytes < length bytes))
    eight : (d.said.number ≡ bad_rows) ↔ ((settings.columns ≡ most_pixels → ⊥) × (length bytes ≤ most_bytes) × (Sound bytes settings c → ⊥))
    none : settings.columns ≡ 0 → length bytes ≤ most_bytes → Sound bytes settings c → (d.said.number ≡ complete) × (d.said.rows ≡ 0) × (d.said.bytes ≡ 0)
    refused : bad_width ≤ d.said.number → d.said.number ≤ bad_rows → d ≡ Rule.refuses (settings_of settings) bytes (row_state_of c.state) lent d.said.number

  -- a row, or the page's end
  says-read : (settings.columns ≡ most_pixels → ⊥) → length bytes ≤ most_bytes → sound (settings_of settings) bytes (row_state_of c.state) lent ≡ true → 0 < settings.columns
      → (d : Rule.RowStep) → (n : ℕ) → d.said.number ≡ n → (Ending n ⊎ (n ≡ more_to_come)) → Says d
  says-read ne size good wide d n e h = record {
    listed = subst (λ (m : ℕ). Ending m ⊎ ((m ≡ bad_width) ⊎ ((m ≡ too_long) ⊎ ((m ≡ bad_rows) ⊎ (m ≡ more_to_come))))) (sym e) (list h);
    six = (λ z. absurd (apart h (omega arith) (omega arith) (sym e ∙ z)), λ z. absurd (ne z));
    seven = (λ z. absurd (apart h (omega arith) (omega arith) (sym e ∙ z)), λ z. absurd (omega (arith, z.1)));
    eight = (λ z. absurd (apart h (omega arith) (omega arith) (sym e ∙ z)), λ z. absurd (z.2 (passes-sound good)));
    none = λ z. absurd (omega arith);
    refused = λ l k. absurd (outside h (omega arith) (omega arith));
  }
    where
      list : (Ending n ⊎ (n ≡ more_to_come)) → Ending n ⊎ ((n ≡ bad_width) ⊎ ((n ≡ too_long) ⊎ ((n ≡ bad_rows) ⊎ (n ≡ more_to_come))))
      list (inl k) = inl k
      list (inr k) = inr (inr (inr (inr k)))

      apart : {m : ℕ} → (Ending n ⊎ (n ≡ more_to_come)) → bad_width ≤ m → m ≤ bad_rows → n ≡ m → ⊥
      apart (inl (inl k)) l u q = omega arith
      apart (inl (inr k)) l u q = omega arith
      apart (inr k) l u q = omega arith

      outside : (Ending n ⊎ (n ≡ more_to_come)) → bad_width ≤ n → n ≤ bad_rows → ⊥
      outside h l u = apart h l u refl

  says : c.state.end ≡ Unended → Says (told bytes settings c)
  says un =
      call-cases (settings_of settings) bytes (row_state_of c.state) lent Says
      (λ n place b loose e. absurd (let q : end_of c.state.end ≡ unended = ap end_of un in let z : ◌≡◌ {A = ℕ} 0 1 = cc in omega arith))
      (λ u e. let q : settings.columns ≡ most_pixels = eqb-true settings.columns most_pixels e in record {
        listed = inr (inl refl);
        six = (λ z. q, λ z. refl);
        seven = (λ z. absurd (omega arith), λ z. absurd (z.0 q));
        eight = (λ z. absurd (omega arith), λ z. absurd (z.0 q));
        none = λ z l s. absurd (omega (arith, q, z));
        refused = λ l k. refl;
      })
      (λ u e l. let q : settings.columns ≡ most_pixels → ⊥ = eqb-false settings.columns most_pixels e in record {
        listed = inr (inr (inl refl));
        six = (λ z. absurd (omega arith), λ z. absurd (q z));
        seven = (λ z. (q, l), λ z. refl);
        eight = (λ z. absurd (omega arith), λ z. absurd (omega (arith, z.1)));
        none = λ z k s. absurd (omega (arith, l, k));
        refused = λ l k. refl;
      })
      (λ u e l s. let q : settings.columns ≡ most_pixels → ⊥ = eqb-false settings.columns most_pixels e in record {
        listed = inr (inr (inr (inl refl)));
        six = (λ z. absurd (omega arith), λ z. absurd (q z));
        seven = (λ z. absurd (omega arith), λ z. absurd (omega (arith, z.1)));
        eight = (λ z. (q, l, λ k. true≢false (sym (sound-passes k) ∙ s)), λ z. refl);
        none = λ z k t. absurd (true≢false (sym (sound-passes t) ∙ s));
        refused = λ l k. refl;
      })
      (λ u e l s z. let q : settings.columns ≡ most_pixels → ⊥ = eqb-false settings.columns most_pixels e in record {
        listed = inl (inl (omega arith));
        six = (λ z. absurd (omega arith), λ z. absurd (q z));
        seven = (λ z. absurd (omega arith), λ z. absurd (omega (arith, z.1)));
        eight = (λ z. absurd (omega arith), λ z. absurd (z.2 (passes-sound s)));
        none = λ z k t. (refl, refl, refl);
        refused = λ l k. absurd (omega arith);
      })
      (λ u e l s w o q. rows (eqb-false settings.columns most_pixels e) l s w o
      (subst (Bounded (bits_of bytes)) q
      (row-bounded (strict_if_exact (settings_of settings)) w (bits_of bytes) (whole-bytes bytes) (room_in (row_state_of c.state) lent) (between (row_state_of c.state) lent) (omega (arith, (passes-sound s).inside, length-bits_of bytes)) (settings_of settings).encoding)))
    where
      rows : (settings.columns ≡ most_pixels → ⊥) → length bytes ≤ most_bytes → sound (settings_of settings) bytes (row_state_of c.state) lent ≡ true → 0 < settings.columns
          → (o : RowOut) → Bounded (bits_of bytes) o → Says (after_row (row_state_of c.state) lent (unless_few (settings_of settings) bytes (row_state_of c.state) lent o))
      rows ne l s w (row r mark next) h = says-read ne l s w _ 15 refl (inr refl)
      rows ne l s w (stop n place b loose) h =
          few-cases (settings_of settings) bytes (row_state_of c.state) lent n place b loose (λ k. Says (after_row (row_state_of c.state) lent k)) (says-read ne l s w _ 14 refl (inl (inr refl))) (says-read ne l s w _ n refl (inl (inl h)))

  module _ (g : RowReading bytes settings c) (un : c.state.end ≡ Unended) where
    answer-is : c.step.answer ≡ answer_of (told bytes settings c).said
    answer-is = g.answer

    row_listed : RowListed bytes settings c
    row_listed =
        let s = says un in
        let n = number_is bytes settings c g in
        record {
          listed = subst (λ (m : ℕ). Ending m ⊎ ((m ≡ bad_width) ⊎ ((m ≡ too_long) ⊎ ((m ≡ bad_rows) ⊎ (m ≡ more_to_come))))) (sym n) s.listed;
          six = subst (λ (m : ℕ). (m ≡ bad_width) ↔ (settings.columns ≡ most_pixels)) (sym n) s.six;
          seven = subst (λ (m : ℕ). (m ≡ too_long) ↔ ((settings.columns ≡ most_pixels → ⊥) × (most_bytes < length bytes))) (sym n) s.seven;
          eight = subst (λ (m : ℕ). (m ≡ bad_rows) ↔ ((settings.columns ≡ most_pixels → ⊥) × (length bytes ≤ most_bytes) × (Sound bytes settings c → ⊥))) (sym n) s.eight;
          without_columns = λ z l t.
              let (a, b, d) = s.none z l t in
              (n ∙ a, ap (λ (x : Answer). x.rows) g.answer ∙ b, ap (λ (x : Answer). x.bytes) g.answer ∙ d);
        }

    row-left : bad_width ≤ number_of c → number_of c ≤ bad_rows → Left c
    row-left l k =
        let n = number_is bytes settings c g in
        let r = (says un).refused (omega (arith, n)) (omega (arith, n)) in
        let a : c.step.answer ≡ answer_of (Rule.refuses (settings_of settings) bytes (row_state_of c.state) lent (told bytes settings c).said.number).said = g.answer ∙ ap (λ (x : Rule.RowStep). answer_of x.said) r in
        record {
          state = same-state c.step.state c.state (g.state ∙ ap (λ (x : Rule.RowStep). x.state) r);
          first = g.first ∙ ap (λ (x : Rule.RowStep). x.arrays.first) r;
          second = g.second ∙ ap (λ (x : Rule.RowStep). x.arrays.second) r;
          counts = (ap (λ (x : Answer). x.rows) a, ap (λ (x : Answer). x.entries) a, ap (λ (x : Answer). x.loose) a, ap (λ (x : Answer). x.bytes) a);
        }

pub row-refusals : RowRefusals
row-refusals bytes settings c g un = (row_listed bytes settings c g un, row-left bytes settings c g un)

-- no number with which a page ends is 5 or 8
not_listed : (n m : ℕ) → no_entry < m → (m ≡ too_few_rows → ⊥) → Ending n → n ≡ m → ⊥
not_listed n m h k (inl i) e = omega arith
not_listed n m h k (inr i) e = k (sym e ∙ i)

pub own-states : OwnStates
own-states bytes settings first second cs last f =
    let g = last-reads bytes settings cs last f.start first second f.follows in
    let n = number_is bytes settings last g in
    page-cases bytes settings first second cs last f (λ cs. number_of last ≡ bad_rows → ⊥)
    (λ p e.
    let (rows, marks, o, l) = own-page bytes settings p first second cs last f in
    own-cases bytes settings p last rows marks o (λ d. d.said.number ≡ bad_rows → ⊥) (λ r mark next q z. omega arith) (λ m place b loose h z. not_listed m 8 (omega arith) (λ k. omega arith) h z) (sym n ∙ e))
    (λ s h e.
    call-cases (settings_of settings) bytes (row_state_of last.state) (both last.first last.second) (λ d. d.said.number ≡ bad_rows → ⊥)
    (λ m place b loose u z. not_listed m 8 (omega arith) (λ k. omega arith) (listed bytes settings last h m place b loose u) z)
    (λ u t z. omega arith) (λ u t k z. omega arith)
    (λ u t k q z. true≢false
    (sym (start-sound (settings_of settings) bytes (both last.first last.second)) ∙ ap (λ (p : Rule.RowState). sound (settings_of settings) bytes p (both last.first last.second)) (sym s) ∙ q))
    (λ u t k q w z. omega arith)
    (λ u t k q w x y. rows x
    (subst (Bounded (bits_of bytes)) y
    (row-bounded (strict_if_exact (settings_of settings)) w (bits_of bytes) (whole-bytes bytes) (room_in (row_state_of last.state) (both last.first last.second)) (between (row_state_of last.state) (both last.first last.second)) (omega (arith, ap (λ (p : Rule.RowState). p.at) s)) (settings_of settings).encoding)))
    (sym n ∙ e))
  where
    rows : (o : RowOut) → Bounded (bits_of bytes) o
        → (after_row (row_state_of last.state) (both last.first last.second) (unless_few (settings_of settings) bytes (row_state_of last.state) (both last.first last.second) o)).said.number ≡ bad_rows → ⊥
    rows (row r mark next) h = λ z. omega arith
    rows (stop n place b loose) h =
        few-cases (settings_of settings) bytes (row_state_of last.state) (both last.first last.second) n place b loose
        (λ w. (after_row (row_state_of last.state) (both last.first last.second) w).said.number ≡ bad_rows → ⊥) (λ z. omega arith) (λ z. omega arith)

-- ---- 4, 5 and the marks

module _ (bytes : List ℕ) (settings : DecodeSettings) (p : Passed bytes settings) where
  -- how many changes the row of a state of its own has
  own-count : (c : RowCall) → RowReading bytes settings c → (rows : List (List ℕ)) (marks : List ℕ) → OwnAt bytes settings p c.state c.first c.second rows marks
      → c.step.count ≡ length (changes_in (row_in (settings_of settings) p.wide bytes (at bytes settings c.state c.first c.second rows marks)))
  own-count c g rows marks o = g.count ∙ cases (row_in (settings_of settings) p.wide bytes (at bytes settings c.state c.first c.second rows marks)) refl
    where
      ended-count : (n place b : ℕ) (loose : List ℕ) → (n ≡ more_to_come → ⊥) → count_of (after_row (row_state_of c.state) (both c.first c.second) (stop n place b loose)) ≡ length loose
      ended-count n place b loose ne = ap (λ (t : Bool). cond t c.state.held (length loose)) (ne_eqb n 15 ne)

      cases : (w : RowOut) → row_in (settings_of settings) p.wide bytes (at bytes settings c.state c.first c.second rows marks) ≡ w → count_of (told bytes settings c) ≡ length (changes_in w)
      cases (row r mark next) e = ap count_of (comes-to bytes settings p c rows marks o (row r mark next) e)
      cases (stop n place b loose) e =
          let m : n ≤ no_entry = subst (Bounded (bits_of bytes)) e (row-bounded (strict_if_exact (settings_of settings)) p.wide (bits_of bytes) (whole-bytes bytes) _ _ o.held.inside (settings_of settings).encoding) in
          ap count_of (comes-to bytes settings p c rows marks o (stop n place b loose) e)
          ∙ few-cases (settings_of settings) bytes (row_state_of c.state) (both c.first c.second) n place b loose (λ w. count_of (after_row (row_state_of c.state) (both c.first c.second) w) ≡ length loose) (ended-count 14 0 0 loose (λ z. omega arith)) (ended-count n place b loose (λ z. omega arith))

pub four-means : FourMeans
four-means bytes settings first second cs last f wide narrow size w g same-state' same-reference long =
    let S = settings_of settings in
    let p : Passed bytes settings = record { wide = wide; narrow = ne_eqb settings.columns most_pixels (λ z. omega arith); size = size } in
    let (rows, marks, o, l) = own-page bytes settings p first second cs last f in
    let k = at bytes settings last.state last.first last.second rows marks in
    let n = number_is bytes settings last (last-reads bytes settings cs last f.start first second f.follows) in
    let side : side_of w.state.side ≡ side_of last.state.side = ap (λ (s : RowState). side_of s.side) same-state' in
    let reference : array_at (side_of last.state.side) (both w.first w.second) ≡ array_at (side_of last.state.side) (both last.first last.second)
    = ap (λ (s : Rule.Side). array_at s (both w.first w.second)) (sym side) ∙ sym (array-at w.state.side w.first w.second) ∙ same-reference ∙ array-at last.state.side last.first last.second in
    let own : OwnAt bytes settings p w.state w.first w.second rows marks
    = subst (λ (s : RowState). OwnAt bytes settings p s w.first w.second rows marks) (sym same-state') (own-lent S wide bytes k o (both w.first w.second) reference) in
    let kw = at bytes settings w.state w.first w.second rows marks in
    let room : room_in kw.state kw.arrays ≡ length (row_array_of w) = room-is w in
    let last-room : room_in k.state k.arrays ≡ length (row_array_of last) = room-is last in
    let st : between kw.state kw.arrays ≡ between k.state k.arrays
    = (λ i. record { at = (same-state' i).at; reference = take (same-state' i).held (array_at (side_of (same-state' i).side) (both w.first w.second)); count = (same-state' i).rows; eols = (same-state' i).eols })
    ∙ ap (λ (l : List ℕ). record { at = last.state.at; reference = take last.state.held l; count = last.state.rows; eols = last.state.eols }) reference in
    let count : w.step.count ≡ length (changes_here S wide bytes p.narrow size k o)
    = own-count bytes settings p w g rows marks own ∙ ap (λ (x : RowOut). length (changes_in x)) (any_row S wide bytes p.narrow size kw own (room_in kw.state kw.arrays) (omega (arith, room)))
    ∙ ap (λ (s : State). length (changes_in (row_at S wide bytes (8 * length bytes + 1) s))) st in
    let x = four-exactly S wide bytes p.narrow size k o in
    ((λ e. omega (arith, x.0 (sym n ∙ e), count, last-room)), λ h. n ∙ x.1 (omega (arith, count, last-room)))

pub line-array-enough : LineArrayEnough
line-array-enough bytes settings first second cs last f wide narrow size long e =
    let S = settings_of settings in
    let p : Passed bytes settings = record { wide = wide; narrow = ne_eqb settings.columns most_pixels (λ z. omega arith); size = size } in
    let (rows, marks, o, l) = own-page bytes settings p first second cs last f in
    let k = at bytes settings last.state last.first last.second rows marks in
    let n = number_is bytes settings last (last-reads bytes settings cs last f.start first second f.follows) in
    let room : room_in k.state k.arrays ≡ length (row_array_of last) = room-is last in
    omega (arith, (four-exactly S wide bytes p.narrow size k o).0 (sym n ∙ e), few_changes S wide bytes p.narrow size k o (8 * length bytes + 1), room)

pub never-five : NeverFive
unfolding read_row
never-five bytes settings c g =
    let n = number_is bytes settings c g in
    let m = call-marked (settings_of settings) bytes (row_state_of c.state) (both c.first c.second) in
    let mark : mark_of c ≡ (told bytes settings c).said.mark = ap (λ (a : Answer). a.mark) g.answer in
    ((λ e. cases (end_of c.state.end) refl (sym n ∙ e)), omega (arith, mark, m.0), λ h. mark ∙ m.1 (λ z. h (n ∙ z)))
  where
    cases : (e : Rule.End) → end_of c.state.end ≡ e → (told bytes settings c).said.number ≡ no_row_end → ⊥
    cases unended e z = Laws.never-five (settings_of settings) bytes (row_state_of c.state) (both c.first c.second) e z
    cases (ended m place b loose) e z =
        not_listed m 5 (omega arith) (λ k. omega arith) (listed bytes settings c g m place b loose e)
        (sym (ap (λ (d : Rule.RowStep). d.said.number) (ap (Rule.unless_ended (settings_of settings) bytes (row_state_of c.state) (both c.first c.second)) e)) ∙ z)
