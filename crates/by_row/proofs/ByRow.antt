-- Laws of the row form's code: the tests of its state, and each way in which a call comes out. Assumes nothing.
use mathlib.Core.Path.{◌≡◌, refl, sym, ap, ap₂, ◌∙◌, subst}
use mathlib.Core.Logic.{inl, inr}
use mathlib.Core.Bool.{Bool, true, false, cond, ◌&&◌, true≢false}
use mathlib.Core.List.{List}
use Prim.Native.Nat.{ℕ, ◌+◌, ◌-◌, ◌*◌, ◌≤◌, ◌<◌}
use native.Mathlib.Omega.{arith}
use native.Mathlib.Numerals.{add-one}
use lib.Dec.{leb}
use lib.ListN.{length, take}
use lib.Seq.{length-take-le}
use borrow.Author.Tests.{leb-true, le-leb, lt-leb, eq-eqb, ne_eqb, lt-ltb, le-ltb}
use Rattle.std.specs.Prelude.{Ok, Err}
use Rattle.rules.specs.Bits.{bits_of}
use Rattle.rules.specs.Rows.{RowOut, row, stop}
use Rattle.rules.specs.Pages.{most_bytes, ascends, row_of, strict_if_exact, too_few, overlaid}
use Rattle.rules.specs.InSteps.{says}
use Rattle.rules.specs.ByRow as Rule
use Rattle.rules.specs.ByRow.{Arrays, unended, ended, gives, sound, unless_few, tested, read_row, unless_ended}
use Rattle.rules.proofs.Bits.{length-bits_of}
use Rattle.rules.proofs.Ascending.{ascends-rises}
use Rattle.rules.proofs.Budget.{whole-bytes}
use Rattle.rules.proofs.ByRow.{Bounded, row-bounded}
use Rattle.context.specs.declared.reference.Reference.{Reference}
use Rattle.context.specs.declared.reference.Reference.TheVariants.{Lent}
use Rattle.context.specs.Coding.{TabledFor, PairedFor}
use Rattle.settings.specs.declared.DecodeSettings.{DecodeSettings}
use Rattle.settings.specs.declared.State.{State}
use Rattle.settings.specs.Settings.{settings_of, strict_for}
use Rattle.settings.proofs.Ended.{kept-parts, stop-parts}
use Rattle.settings.specs.Between.{Row, kept_row, page_stop, state_of, row_for, changes_in, RowFrom, Rowed}
use Rattle.settings.specs.Ends.{Allowed}
use Rattle.settings.proofs.Ends.{short-allowed}
use Rattle.by_row.specs.declared.Side.{Side}
use Rattle.by_row.specs.declared.Side.TheVariants.{First, Second}
use Rattle.by_row.specs.declared.RowState.{RowState}
use Rattle.by_row.specs.declared.RowStep.{RowStep}
use Rattle.by_row.specs.ByRow.{side_of, other_side, Ending, end_of, row_state_of, answer_of, Gives, ReadsRow, said_for, refused_for, none_for, sound_for, given_for, Grows, Ends, arrays_at, NextFrom, Comes, Next, Tested}
use Rattle.by_row.proofs.States.{not_more}
use Rattle.by_row.proofs.Allowed.{RowAllowed, row-allowed}

other-is : (s : Side) → side_of (other_side s) ≡ Rule.other (side_of s)
other-is First = refl
other-is Second = refl

-- ---- The tests of the state

module _ (size columns : ℕ) (st : RowState) (array : List ℕ) where
  pub bad-at : 8 * size < st.at → false ≡ sound_for size columns st array
  bad-at h = rw (lt-leb st.at (8 * size) h)

  module _ (a : st.at ≤ 8 * size) where
    pub bad-array : length array < st.held → false ≡ sound_for size columns st array
    bad-array h = rw (le-leb st.at (8 * size) a, lt-leb st.held (length array) h)

    module _ (b : st.held ≤ length array) where
      pub bad-held : 8 * size + 1 < st.held → false ≡ sound_for size columns st array
      bad-held h = rw (le-leb st.at (8 * size) a, le-leb st.held (length array) b, lt-leb st.held (8 * size + 1) h)

      module _ (c : st.held ≤ 8 * size + 1) where
        pub bad-rows : 8 * size + 1 < st.rows → false ≡ sound_for size columns st array
        bad-rows h = rw (le-leb st.at (8 * size) a, le-leb st.held (length array) b, le-leb st.held (8 * size + 1) c, lt-leb st.rows (8 * size + 1) h)

        module _ (d : st.rows ≤ 8 * size + 1) where
          pub bad-entries : 8 * size + 1 < st.entries → false ≡ sound_for size columns st array
          bad-entries h =
              rw (le-leb st.at (8 * size) a, le-leb st.held (length array) b, le-leb st.held (8 * size + 1) c, le-leb st.rows (8 * size + 1) d, lt-leb st.entries (8 * size + 1) h)

          pub all-good : st.entries ≤ 8 * size + 1 → ascends columns (take st.held array) ≡ sound_for size columns st array
          all-good h =
              rw (le-leb st.at (8 * size) a, le-leb st.held (length array) b, le-leb st.held (8 * size + 1) c, le-leb st.rows (8 * size + 1) d, le-leb st.entries (8 * size + 1) h)

-- what passed the tests
record Good (size columns : ℕ) (st : RowState) (array : List ℕ) : Type 0 where
  inside : st.at ≤ 8 * size
  held : st.held ≤ length array
  rows : st.rows ≤ 8 * size + 1
  entries : st.entries ≤ 8 * size + 1
  rising : ascends columns (take st.held array) ≡ true

good-sound : (size columns : ℕ) (st : RowState) (array : List ℕ) → sound_for size columns st array ≡ true → Good size columns st array
good-sound size columns st array =
    tests (leb st.at (8 * size)) (leb-true _ _) (leb st.held (length array)) (leb-true _ _) (leb st.held (8 * size + 1)) (leb st.rows (8 * size + 1)) (leb-true _ _)
    (leb st.entries (8 * size + 1)) (leb-true _ _)
  where
    tests : (a : Bool) → (a ≡ true → st.at ≤ 8 * size) → (b : Bool) → (b ≡ true → st.held ≤ length array) → (c : Bool) → (d : Bool) → (d ≡ true → st.rows ≤ 8 * size + 1)
        → (e : Bool) → (e ≡ true → st.entries ≤ 8 * size + 1) → (a && (b && (c && (d && (e && ascends columns (take st.held array)))))) ≡ true → Good size columns st array
    tests true f true g true true h true i q = record { inside = f refl; held = g refl; rows = h refl; entries = i refl; rising = q }
    tests true f true g true true h false i q = absurd (true≢false (sym q))
    tests true f true g true false h e i q = absurd (true≢false (sym q))
    tests true f true g false d h e i q = absurd (true≢false (sym q))
    tests true f false g c d h e i q = absurd (true≢false (sym q))
    tests false f b g c d h e i q = absurd (true≢false (sym q))

-- ---- Any call

module _ (bytes : List ℕ) (settings : DecodeSettings) (st : RowState) (xs ys : List ℕ) where
  abbrev both : Arrays
  both = record { first = xs; second = ys }

  -- what stays as found
  as-found : (n place b rows entries loose : ℕ) → (n ≡ 15 → ⊥)
      → Gives (side_of st.side) (Rule.leaves (settings_of settings) bytes (row_state_of st) both (says n place b rows entries loose)) (record { answer = answer_of (says n place b rows entries loose); array = other_side st.side; count = loose; state = st }) xs ys
  as-found n place b rows entries loose ne = record { answer = refl; array = other-is st.side; count = rw (ne_eqb n 15 ne); state = refl; first = refl; second = refl }

  -- it repeats the end
  pub repeats : (n place b loose : ℕ) → Ending n → end_of st.end ≡ ended n place b loose → ReadsRow bytes settings st xs ys (said_for n place b loose st) xs ys
  unfolding read_row
  repeats n place b loose h e =
      subst (λ (d : Rule.RowStep). Gives (side_of st.side) d (said_for n place b loose st) xs ys) (sym (ap (unless_ended (settings_of settings) bytes (row_state_of st) both) e))
      (as-found n place b st.rows st.entries loose (not_more n h))

  -- or goes on to the tests
  pub goes_on : end_of st.end ≡ unended → (r : RowStep) (zs ws : List ℕ) → Tested bytes settings st xs ys r zs ws → ReadsRow bytes settings st xs ys r zs ws
  unfolding read_row
  goes_on e r zs ws g = subst (λ (d : Rule.RowStep). Gives (side_of st.side) d r zs ws) (sym (ap (unless_ended (settings_of settings) bytes (row_state_of st) both) e)) g

  pub tested-6 : settings.columns ≡ 4294967295 → Tested bytes settings st xs ys (refused_for 6 st) xs ys
  unfolding tested
  tested-6 e =
      subst (λ (d : Rule.RowStep). Gives (side_of st.side) d (refused_for 6 st) xs ys) (sym (rw (eq-eqb settings.columns 4294967295 e, tested)))
      (as-found 6 0 0 0 0 0 (λ z. omega arith))

  pub tested-7 : (settings.columns ≡ 4294967295 → ⊥) → most_bytes < length bytes → Tested bytes settings st xs ys (refused_for 7 st) xs ys
  unfolding tested
  tested-7 n h =
      subst (λ (d : Rule.RowStep). Gives (side_of st.side) d (refused_for 7 st) xs ys) (sym (rw (ne_eqb settings.columns 4294967295 n, lt-ltb most_bytes (length bytes) h, tested)))
      (as-found 7 0 0 0 0 0 (λ z. omega arith))

  -- the reference lies in the first array, or in the second
  pub in-first : st.side ≡ First → (r : RowStep) (zs : List ℕ) → Next bytes settings st xs ys r zs → Tested bytes settings st xs ys r xs zs
  in-first e r zs n =
      let m = subst (λ (s : Side). Comes (side_of s) xs (tested (settings_of settings) bytes (row_state_of st) (arrays_at (side_of s) xs ys)) r zs) e n in
      record { answer = m.answer; array = n.array; count = m.count; state = m.state; first = ap (λ (a : Arrays). a.first) m.arrays; second = ap (λ (a : Arrays). a.second) m.arrays }

  pub in-second : st.side ≡ Second → (r : RowStep) (zs : List ℕ) → Next bytes settings st ys xs r zs → Tested bytes settings st xs ys r zs ys
  in-second e r zs n =
      let m = subst (λ (s : Side). Comes (side_of s) ys (tested (settings_of settings) bytes (row_state_of st) (arrays_at (side_of s) ys xs)) r zs) e n in
      record { answer = m.answer; array = n.array; count = m.count; state = m.state; first = ap (λ (a : Arrays). a.first) m.arrays; second = ap (λ (a : Arrays). a.second) m.arrays }

-- ---- Once 6 and 7 are passed

-- by the array that holds the reference
at-reference : (side : Rule.Side) (reference xs : List ℕ) → Rule.array_at side (arrays_at side reference xs) ≡ reference
at-reference Rule.first reference xs = refl
at-reference Rule.second reference xs = refl

at_other : (side : Rule.Side) (reference xs : List ℕ) → Rule.array_at (Rule.other side) (arrays_at side reference xs) ≡ xs
at_other Rule.first reference xs = refl
at_other Rule.second reference xs = refl

module _ (bytes : List ℕ) (settings : DecodeSettings) (st : RowState) (reference xs : List ℕ) (from : NextFrom bytes settings) where
  abbrev lent : Arrays
  lent = arrays_at (side_of st.side) reference xs

  -- the test of the state is the rules'
  sound-is : sound (settings_of settings) bytes (row_state_of st) lent ≡ sound_for (length bytes) settings.columns st reference
  unfolding sound
  sound-is = ap (sound_for (length bytes) settings.columns st) (at-reference (side_of st.side) reference xs)

  narrow : settings.columns ≡ 4294967295 → ⊥
  narrow e = omega (arith, from.narrow)

  pub next-refused : false ≡ sound_for (length bytes) settings.columns st reference → Next bytes settings st reference xs (refused_for 8 st) xs
  unfolding tested
  next-refused e =
      subst (λ (d : Rule.RowStep). Comes (side_of st.side) reference d (refused_for 8 st) xs)
      (sym (rw (ne_eqb settings.columns 4294967295 narrow, le-ltb most_bytes (length bytes) from.size, sound-is ∙ sym e, tested)))
      (record { answer = refl; array = other-is st.side; count = refl; state = refl; arrays = refl })

  module _ (good : true ≡ sound_for (length bytes) settings.columns st reference) where
    pub next-none : settings.columns ≡ 0 → Next bytes settings st reference xs (none_for st) xs
    unfolding tested
    next-none z =
        subst (λ (d : Rule.RowStep). Comes (side_of st.side) reference d (none_for st) xs)
        (sym (rw (ne_eqb settings.columns 4294967295 narrow, le-ltb most_bytes (length bytes) from.size, sound-is ∙ sym good, eq-eqb settings.columns 0 z, tested)))
        (record { answer = refl; array = other-is st.side; count = refl; state = refl; arrays = refl })

    -- ---- The row

    -- the state between rows, whose reference is lent
    abbrev between : State
    between = record { at = st.at; rows = st.rows; reference = Lent; base = 0; eols = st.eols }

    abbrev lent_row : List ℕ
    lent_row = take st.held reference

    facts : Good (length bytes) settings.columns st reference
    facts = good-sound (length bytes) settings.columns st reference (sym good)

    pub held-length : st.held ≡ length lent_row
    held-length = sym (length-take-le st.held reference facts.held)

    module _ (some-columns : settings.columns ≡ 0 → ⊥) where
      wide : 0 < settings.columns
      wide = omega (arith, some-columns)

      pub next-asks : RowFrom bytes lent_row xs (strict_for settings) between
      next-asks = record {
        loading = record { size = from.size; inside = facts.inside };
        wide = wide;
        narrow = from.narrow;
        placed = omega arith;
        held = omega arith;
        rising = ascends-rises settings.columns 0 lent_row facts.rising;
      }

      abbrev outcome : RowOut
      outcome = row_of (settings_of settings).encoding (strict_if_exact (settings_of settings)) (bits_of bytes) (length xs - 0) (state_of lent_row xs between)

      standing : st.at ≤ length (bits_of bytes)
      standing = omega (arith, facts.inside, length-bits_of bytes)

      bounded : Bounded (bits_of bytes) outcome
      bounded = row-bounded (strict_if_exact (settings_of settings)) wide (bits_of bytes) (whole-bytes bytes) (length xs - 0) (state_of lent_row xs between) standing (settings_of settings).encoding

      -- the rules' row is this one
      outcome-is : Rule.row_here (settings_of settings) bytes (row_state_of st) lent ≡ outcome
      outcome-is =
          ap₂ (λ (n : ℕ) (l : List ℕ). row_of (settings_of settings).encoding (strict_if_exact (settings_of settings)) (bits_of bytes) n (record { at = st.at; reference = l; count = st.rows; eols = st.eols }))
          (ap length (at_other (side_of st.side) reference xs) ∙ (let z : length xs ≡ length xs - 0 = omega arith in z))
          (ap (take st.held) (at-reference (side_of st.side) reference xs))

      abbrev unless_few_here : RowOut → RowOut
      unless_few_here = unless_few (settings_of settings) bytes (row_state_of st) lent

      comes-to : (o : RowOut) → outcome ≡ o → tested (settings_of settings) bytes (row_state_of st) lent ≡ Rule.after_row (row_state_of st) lent (unless_few_here o)
      unfolding tested
      comes-to o e =
          (rw (ne_eqb settings.columns 4294967295 narrow, le-ltb most_bytes (length bytes) from.size, sound-is ∙ sym good, ne_eqb settings.columns 0 some-columns, tested))
          ∙ ap (λ (w : RowOut). Rule.after_row (row_state_of st) lent (unless_few_here w)) (outcome-is ∙ e)

      module _ (r : Row) (ys : List ℕ) (g : Rowed bytes lent_row xs (strict_for settings) between r ys) where
        -- the row's array
        stored : (o : RowOut) → outcome ≡ o → arrays_at (side_of st.side) reference ys ≡ Rule.written (Rule.other (side_of st.side)) (changes_in o) lent
        stored o e = cases (side_of st.side) (g.store ∙ ap (λ (w : RowOut). overlaid (changes_in w) xs) e)
          where
            cases : (side : Rule.Side) → ys ≡ overlaid (changes_in o) xs → arrays_at side reference ys ≡ Rule.written (Rule.other side) (changes_in o) (arrays_at side reference xs)
            cases Rule.first q = ap (λ (l : List ℕ). record { first = reference; second = l }) q
            cases Rule.second q = ap (λ (l : List ℕ). record { first = l; second = reference }) q

        module _ (count mark at : ℕ) (eols : Bool) (e : r ≡ Ok (kept_row count mark at eols)) where
          pub grows : Grows st count
          grows = cases outcome bounded (sym e ∙ g.answer)
            where
              cases : (o : RowOut) → Bounded (bits_of bytes) o → Ok (kept_row count mark at eols) ≡ row_for o → Grows st count
              cases (row c m next) h q =
                  let (z, marks, ats, eolss) = kept-parts q in
                  record { few_rows = omega (arith, facts.rows, from.size); few_entries = omega (arith, facts.entries, from.size); few_changes = omega (arith, h, length-bits_of bytes, from.size) }
              cases (stop n p b l) h q = absurd (let z : ◌≡◌ {A = ℕ} 0 1 = cc in omega arith)

          pub next-given : Next bytes settings st reference xs (given_for st count mark at eols) ys
          next-given = cases outcome refl (sym e ∙ g.answer)
            where
              cases : (o : RowOut) → outcome ≡ o → Ok (kept_row count mark at eols) ≡ row_for o → Next bytes settings st reference xs (given_for st count mark at eols) ys
              cases (row c m next) o q =
                  let (n, k, a, l) = kept-parts q in
                  subst (λ (d : Rule.RowStep). Comes (side_of st.side) reference d (given_for st count mark at eols) ys) (sym (comes-to (row c m next) o))
                  (record {
                    answer = λ i. answer_of (gives (k i) (add-one st.rows i) (st.entries + n i));
                    array = other-is st.side;
                    count = n;
                    state = λ i. record { at = a i; rows = add-one st.rows i; entries = st.entries + n i; eols = l i; side = other-is st.side i; held = n i; end = unended };
                    arrays = stored (row c m next) o;
                  })
              cases (stop n p b l) o q = absurd (let z : ◌≡◌ {A = ℕ} 0 1 = cc in omega arith)

        module _ (n place b loose : ℕ) (e : r ≡ Err (page_stop n place b loose)) where
          few : n ≤ 4
          few = cases outcome bounded (sym e ∙ g.answer)
            where
              cases : (o : RowOut) → Bounded (bits_of bytes) o → Err (page_stop n place b loose) ≡ row_for o → n ≤ 4
              cases (row c m next) h q = absurd (let z : ◌≡◌ {A = ℕ} 0 1 = cc in omega arith)
              cases (stop m p d l) h q = let (z, places, bytess, looses) = stop-parts q in omega arith

          -- it has what 01 allows
          allowed : Allowed n place b loose
          allowed = cases outcome (row-allowed (strict_if_exact (settings_of settings)) wide (bits_of bytes) (whole-bytes bytes) (length xs - 0) (state_of lent_row xs between) standing (settings_of settings).encoding) (sym e ∙ g.answer)
            where
              cases : (o : RowOut) → RowAllowed o → Err (page_stop n place b loose) ≡ row_for o → Allowed n place b loose
              cases (row c m next) h q = absurd (let z : ◌≡◌ {A = ℕ} 0 1 = cc in omega arith)
              cases (stop m p d l) h q =
                  let (n1, p1, b1, l1) = stop-parts q in
                  subst (λ (x : ℕ). Allowed x place b loose) (sym n1) (subst (λ (x : ℕ). Allowed m x b loose) (sym p1) (subst (λ (x : ℕ). Allowed m p x loose) (sym b1) (subst (Allowed m p d) (sym l1) h)))

          pub next-ends : Ending n × Allowed n place b loose
          next-ends = (inl few, allowed)

          -- and so has 14
          pub short-ends : true ≡ too_few (settings_of settings) n st.rows → Ending 14 × Allowed 14 0 0 loose
          short-ends t = (inr refl, short-allowed (settings_of settings) n st.rows place b loose (sym t) allowed)

          -- the end that is told, where it is the one that the rules put in place of the row's
          ended_so : (m p d : ℕ) → Ending m → ((k : List ℕ) → unless_few_here (stop n place b k) ≡ stop m p d k) → (s : RowStep) → Ends st m p d loose s → Next bytes settings st reference xs s ys
          ended_so m p d h t s f = cases outcome refl (sym e ∙ g.answer)
            where
              cases : (o : RowOut) → outcome ≡ o → Err (page_stop n place b loose) ≡ row_for o → Next bytes settings st reference xs s ys
              cases (row c k next) o q = absurd (let z : ◌≡◌ {A = ℕ} 0 1 = cc in omega arith)
              cases (stop n' p' b' l) o q =
                  let (n1, p1, b1, l1) = stop-parts q in
                  let to : outcome ≡ stop n place b l = o ∙ sym (λ i. stop (n1 i) (p1 i) (b1 i) l) in
                  subst (λ (d : Rule.RowStep). Comes (side_of st.side) reference d s ys) (sym (comes-to (stop n place b l) to ∙ ap (Rule.after_row (row_state_of st) lent) (t l)))
                  (record {
                    answer = f.answer ∙ (λ i. answer_of (says m p d st.rows st.entries (l1 i)));
                    array = ap side_of f.array ∙ other-is st.side;
                    count = f.count ∙ l1 ∙ sym (rw (ne_eqb m 15 (not_more m h)));
                    state = f.state ∙ (λ i. Rule.ended_with (row_state_of st) m p d (l1 i));
                    arrays = stored (stop n place b l) to;
                  })

          pub next-short : true ≡ too_few (settings_of settings) n st.rows → (s : RowStep) → Ends st 14 0 0 loose s → Next bytes settings st reference xs s ys
          next-short t s f = ended_so 14 0 0 (inr refl) (λ k. ap (λ (c : Bool). cond c (stop 14 0 0 k) (stop n place b k)) (sym t)) s f

          pub next-ended : false ≡ too_few (settings_of settings) n st.rows → (s : RowStep) → Ends st n place b loose s → Next bytes settings st reference xs s ys
          next-ended t s f = ended_so n place b (inl few) (λ k. ap (λ (c : Bool). cond c (stop 14 0 0 k) (stop n place b k)) (sym t)) s f

-- ---- The tables: a row whose reference is lent asks for none

pub none-tabled : {place : Reference} (w b : List ℕ) → place ≡ Lent → TabledFor place w b
none-tabled w b e = subst (λ (p : Reference). TabledFor p w b) (sym e) tt

pub none-paired : {place : Reference} (w b both : List ℕ) → place ≡ Lent → PairedFor place w b both
none-paired w b both e = subst (λ (p : Reference). PairedFor p w b both) (sym e) tt
