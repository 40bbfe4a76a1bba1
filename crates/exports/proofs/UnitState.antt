-- Laws of the numbers that C lends for the unit form's state: which numbers a reading has, that no two have the same, and how a call comes out. Assumes nothing.
use mathlib.Core.Path.{◌≡◌, refl, sym, ap, ◌∙◌, subst}
use mathlib.Core.Logic.{inl, inr}
use mathlib.Core.Bool.{Bool, true, false, cond, ◌&&◌, true≢false}
use mathlib.Core.List.{List, [], ◌∷◌}
use Prim.Native.Nat.{ℕ, ◌≤◌, ◌<◌}
use native.Mathlib.Omega.{arith}
use lib.Dec.{eqb, leb}
use lib.ListN.{length, get_or}
use borrow.Author.Tests.{eq-eqb, ne_eqb, eqb-true, le-leb, leb-true}
use Rattle.rules.specs.InSteps.{says_only}
use Rattle.rules.proofs.Bits.{both_true}
use Rattle.settings.specs.declared.DecodeSettings.{DecodeSettings}
use Rattle.by_unit.specs.declared.Phase.{Phase}
use Rattle.by_unit.specs.declared.Saved.{Saved}
use Rattle.by_unit.specs.declared.PageEnd.{PageEnd}
use Rattle.by_unit.specs.declared.EndCounts.{EndCounts}
use Rattle.by_unit.specs.declared.Reading.{Reading}
use Rattle.by_unit.specs.declared.Reading.TheVariants.{Open, Ended}
use Rattle.by_unit.specs.declared.Turn.{Turn}
use Rattle.by_unit.specs.Standing.{answer_of}
use Rattle.by_unit.specs.Reading.{ReadsUnits}
use Rattle.exports.specs.declared.UnitAnswer.{UnitAnswer}
use Rattle.exports.specs.declared.row_state.EndNumbers.{EndNumbers}
use Rattle.exports.specs.RowState as Row
use Rattle.exports.specs.RowState.{flag_number, Same}
use Rattle.exports.specs.UnitState.{phase_number, end_numbers, end_from, open_numbers, ended_numbers, numbers_of, Wordy, unfit_for, ReadsUnitsForC}
use Rattle.exports.proofs.RowState.{from_place, flag-few, flag_is}

-- ---- Which numbers a reading has

phase-few : (p : Phase) → phase_number p ≤ 3
phase-few Phase.Eols = omega arith
phase-few Phase.Mode = omega arith
phase-few Phase.First = omega arith
phase-few Phase.Second = omega arith

end-some : (e : PageEnd) → (end_numbers e).number ≡ 0 → ⊥
end-some e z = omega (arith, z)

and-true : {a b : Bool} → a ≡ true → b ≡ true → (a && b) ≡ true
and-true {a} {b} p q = ap (λ (x : Bool). x && b) p ∙ q

-- a test of two is one of them twice
pub and_again : (a b : Bool) → (a && (b && (true && true))) ≡ false → (a && (b && (a && b))) ≡ false
and_again true true e = e
and_again true false e = refl
and_again false b e = refl

pub sixteen : (r : Reading) → length (numbers_of r) ≡ 16
sixteen (Open s) = refl
sixteen (Ended e c) = refl

module _ (xs : List ℕ) where
  pub not-sixteen : (length xs ≡ 16 → ⊥) → (r : Reading) → Wordy r → numbers_of r ≡ xs → ⊥
  not-sixteen h (Open s) w e = h (sym (ap length e))
  not-sixteen h (Ended n c) w e = h (sym (ap length e))

  -- ---- An open page's

  module _ (open-end : get_or xs 12 0 ≡ 0) where
    -- no ended page has these
    only-open : ((s : Saved) → (s.position ≤ 4294967295) × (s.run ≤ 4294967295) → open_numbers s ≡ xs → ⊥) → (r : Reading) → Wordy r → numbers_of r ≡ xs → ⊥
    only-open h (Open s) w e = h s w e
    only-open h (Ended n c) w e = end-some n (ap (λ (l : List ℕ). get_or l 12 0) e ∙ open-end)

    pub open-zeros : (eqb (get_or xs 13 0) 0 && (eqb (get_or xs 14 0) 0 && (eqb (get_or xs 15 0) 0 && eqb 0 0))) ≡ false → (r : Reading) → Wordy r → numbers_of r ≡ xs → ⊥
    open-zeros f = only-open λ s w e. true≢false (sym (and-true (eq-eqb _ _ (sym (ap (λ (l : List ℕ). get_or l 13 0) e))) (and-true (eq-eqb _ _ (sym (ap (λ (l : List ℕ). get_or l 14 0) e))) (and-true (eq-eqb _ _ (sym (ap (λ (l : List ℕ). get_or l 15 0) e))) refl))) ∙ f)

    pub open-flags : (leb (get_or xs 5 0) 1 && (leb (get_or xs 7 0) 1 && leb (get_or xs 11 0) 1)) ≡ false → (r : Reading) → Wordy r → numbers_of r ≡ xs → ⊥
    open-flags f = only-open λ s w e.
        true≢false (sym (and-true (le-leb _ _ (subst (λ (n : ℕ). n ≤ 1) (ap (λ (l : List ℕ). get_or l 5 0) e) (flag-few s.black)))
        (and-true (le-leb _ _ (subst (λ (n : ℕ). n ≤ 1) (ap (λ (l : List ℕ). get_or l 7 0) e) (flag-few s.cut))) (le-leb _ _ (subst (λ (n : ℕ). n ≤ 1) (ap (λ (l : List ℕ). get_or l 11 0) e) (flag-few s.blank))))) ∙ f)

    pub open-words : (leb (get_or xs 4 0) 4294967295 && leb (get_or xs 8 0) 4294967295) ≡ false → (r : Reading) → Wordy r → numbers_of r ≡ xs → ⊥
    open-words f = only-open λ s w e.
        true≢false (sym (and-true (le-leb _ _ (subst (λ (n : ℕ). n ≤ 4294967295) (ap (λ (l : List ℕ). get_or l 4 0) e) w.0)) (le-leb _ _ (subst (λ (n : ℕ). n ≤ 4294967295) (ap (λ (l : List ℕ). get_or l 8 0) e) w.1))) ∙ f)

    pub open-phase : 3 < get_or xs 0 0 → (r : Reading) → Wordy r → numbers_of r ≡ xs → ⊥
    open-phase h = only-open λ s w e. omega (arith, phase-few s.phase, ap (λ (l : List ℕ). get_or l 0 0) e)

    -- the reading that has them
    module _ (long : length xs ≡ 16) (z : (eqb (get_or xs 13 0) 0 && (eqb (get_or xs 14 0) 0 && (eqb (get_or xs 15 0) 0 && eqb 0 0))) ≡ true) (f : (leb (get_or xs 5 0) 1 && (leb (get_or xs 7 0) 1 && leb (get_or xs 11 0) 1)) ≡ true)
        (w : (leb (get_or xs 4 0) 4294967295 && leb (get_or xs 8 0) 4294967295) ≡ true) (phase : Phase) (p : phase_number phase ≡ get_or xs 0 0) where
      abbrev opened : Saved
      opened = record {
        phase = phase;
        at = get_or xs 1 0;
        eols = get_or xs 2 0;
        rows = get_or xs 3 0;
        position = get_or xs 4 0;
        black = eqb (get_or xs 5 0) 1;
        loose = get_or xs 6 0;
        cut = eqb (get_or xs 7 0) 1;
        run = get_or xs 8 0;
        run_at = get_or xs 9 0;
        mode_at = get_or xs 10 0;
        blank = eqb (get_or xs 11 0) 1;
      }

      pub open_is : Wordy (Open opened) × (numbers_of (Open opened) ≡ xs)
      open_is =
          let (z1, z2) = both_true (eqb (get_or xs 13 0) 0) _ z in
          let (z3, z4) = both_true (eqb (get_or xs 14 0) 0) _ z2 in
          let (z5, z6) = both_true (eqb (get_or xs 15 0) 0) _ z4 in
          let (f1, f2) = both_true (leb (get_or xs 5 0) 1) _ f in
          let (f3, f4) = both_true (leb (get_or xs 7 0) 1) _ f2 in
          let (w1, w2) = both_true (leb (get_or xs 4 0) 4294967295) _ w in (
            (leb-true _ _ w1, leb-true _ _ w2),
            (λ i. p i ∷ get_or xs 1 0 ∷ get_or xs 2 0 ∷ get_or xs 3 0 ∷ get_or xs 4 0 ∷ flag_is (get_or xs 5 0) (leb-true _ _ f1) i ∷ get_or xs 6 0 ∷ flag_is (get_or xs 7 0) (leb-true _ _ f3) i ∷ get_or xs 8 0 ∷ get_or xs 9 0 ∷ get_or xs 10 0
                ∷ flag_is (get_or xs 11 0) (leb-true _ _ f4) i ∷ sym open-end i ∷ sym (eqb-true (get_or xs 13 0) 0 z1) i ∷ sym (eqb-true (get_or xs 14 0) 0 z3) i ∷ sym (eqb-true (get_or xs 15 0) 0 z5) i ∷ [])
                ∙ sym (from_place xs 0 16 long),
          )

  -- ---- An ended page's

  module _ (ended-end : get_or xs 12 0 ≡ 0 → ⊥) where
    only-ended : ((e : PageEnd) (c : EndCounts) → ended_numbers e c ≡ xs → ⊥) → (r : Reading) → Wordy r → numbers_of r ≡ xs → ⊥
    only-ended h (Ended e c) w q = h e c q
    only-ended h (Open s) w q = ended-end (sym (ap (λ (l : List ℕ). get_or l 12 0) q))

    -- four numbers of it are zero
    pub ended-zeros : (a b c d : ℕ) → ((e : PageEnd) (n : EndCounts) → (get_or (ended_numbers e n) a 0 ≡ 0) × (get_or (ended_numbers e n) b 0 ≡ 0) × (get_or (ended_numbers e n) c 0 ≡ 0) × (get_or (ended_numbers e n) d 0 ≡ 0))
        → (eqb (get_or xs a 0) 0 && (eqb (get_or xs b 0) 0 && (eqb (get_or xs c 0) 0 && eqb (get_or xs d 0) 0))) ≡ false → (r : Reading) → Wordy r → numbers_of r ≡ xs → ⊥
    ended-zeros a b c d h f = only-ended λ e n q.
        let (h1, h2, h3, h4) = h e n in
        true≢false (sym (and-true (eq-eqb _ _ (sym (ap (λ (l : List ℕ). get_or l a 0) q) ∙ h1)) (and-true (eq-eqb _ _ (sym (ap (λ (l : List ℕ). get_or l b 0) q) ∙ h2)) (and-true (eq-eqb _ _ (sym (ap (λ (l : List ℕ). get_or l c 0) q) ∙ h3)) (eq-eqb _ _ (sym (ap (λ (l : List ℕ). get_or l d 0) q) ∙ h4))))) ∙ f)

    module _ (long : length xs ≡ 16) (p : (eqb (get_or xs 0 0) 0 && (eqb (get_or xs 1 0) 0 && (eqb (get_or xs 2 0) 0 && eqb (get_or xs 4 0) 0))) ≡ true)
        (q : (eqb (get_or xs 5 0) 0 && (eqb (get_or xs 7 0) 0 && (eqb (get_or xs 8 0) 0 && eqb (get_or xs 9 0) 0))) ≡ true) (r : (eqb (get_or xs 10 0) 0 && (eqb (get_or xs 11 0) 0 && (eqb 0 0 && eqb 0 0))) ≡ true)
        (e : PageEnd) (h : end_numbers e ≡ Row.ended_numbers (get_or xs 12 0) (get_or xs 15 0) (get_or xs 14 0) (get_or xs 6 0)) where
      abbrev counted : EndCounts
      counted = record { rows = get_or xs 3 0; entries = get_or xs 13 0 }

      pub ended_is : Wordy (Ended e counted) × (numbers_of (Ended e counted) ≡ xs)
      ended_is =
          let (p1, p2) = both_true (eqb (get_or xs 0 0) 0) _ p in
          let (p3, p4) = both_true (eqb (get_or xs 1 0) 0) _ p2 in
          let (p5, p6) = both_true (eqb (get_or xs 2 0) 0) _ p4 in
          let (q1, q2) = both_true (eqb (get_or xs 5 0) 0) _ q in
          let (q3, q4) = both_true (eqb (get_or xs 7 0) 0) _ q2 in
          let (q5, q6) = both_true (eqb (get_or xs 8 0) 0) _ q4 in
          let (r1, r2) = both_true (eqb (get_or xs 10 0) 0) _ r in
          let (r3, r4) = both_true (eqb (get_or xs 11 0) 0) _ r2 in (
            tt,
            (λ i. sym (eqb-true (get_or xs 0 0) 0 p1) i ∷ sym (eqb-true (get_or xs 1 0) 0 p3) i ∷ sym (eqb-true (get_or xs 2 0) 0 p5) i ∷ get_or xs 3 0 ∷ sym (eqb-true (get_or xs 4 0) 0 p6) i ∷ sym (eqb-true (get_or xs 5 0) 0 q1) i ∷ (h i).loose ∷ sym (eqb-true (get_or xs 7 0) 0 q3) i ∷ sym (eqb-true (get_or xs 8 0) 0 q5) i ∷ sym (eqb-true (get_or xs 9 0) 0 q6) i
                ∷ sym (eqb-true (get_or xs 10 0) 0 r1) i ∷ sym (eqb-true (get_or xs 11 0) 0 r3) i ∷ (h i).number ∷ get_or xs 13 0 ∷ (h i).bytes ∷ (h i).place ∷ [])
                ∙ sym (from_place xs 0 16 long),
          )

-- ---- The end's numbers

end_back : (e : PageEnd) → end_from (end_numbers e) ≡ e
end_back (PageEnd.Done bytes) = refl
end_back (PageEnd.InvalidCode place loose) = refl
end_back (PageEnd.UnexpectedEof place loose) = refl
end_back (PageEnd.Overflow place loose) = refl
end_back (PageEnd.NoEntry loose) = refl
end_back (PageEnd.NoRowEnd loose) = refl
end_back PageEnd.Short = refl

pub end-other : (n : EndNumbers) → (n.number ≡ 1 → ⊥) → (n.number ≡ 2 → ⊥) → (n.number ≡ 3 → ⊥) → (n.number ≡ 4 → ⊥) → (n.number ≡ 5 → ⊥) → (n.number ≡ 6 → ⊥) → PageEnd.Short ≡ end_from n
end-other n h1 h2 h3 h4 h5 h6 = rw (ne_eqb n.number 1 h1, ne_eqb n.number 2 h2, ne_eqb n.number 3 h3, ne_eqb n.number 4 h4, ne_eqb n.number 5 h5, ne_eqb n.number 6 h6)

-- numbers are an end's exactly if the end that they would be has them
module _ (n own : EndNumbers) (end : PageEnd) (from : end ≡ end_from n) (has : own ≡ end_numbers end) (same : Bool) (told : Same own n same) where
  pub end_is : same ≡ true → end_numbers end ≡ n
  end_is q = sym has ∙ subst (Same own n) q told

  pub end_none : same ≡ false → (e : PageEnd) → end_numbers e ≡ n → ⊥
  end_none q e f = subst (Same own n) q told (has ∙ ap end_numbers (from ∙ ap end_from (sym f) ∙ end_back e) ∙ f)

-- ---- No two readings have the same numbers

abbrev phase_from : ℕ → Phase
phase_from n = cond (eqb n 0) Phase.Eols (cond (eqb n 1) Phase.Mode (cond (eqb n 2) Phase.First Phase.Second))

phase-back : (p : Phase) → phase_from (phase_number p) ≡ p
phase-back Phase.Eols = refl
phase-back Phase.Mode = refl
phase-back Phase.First = refl
phase-back Phase.Second = refl

flag-back : (b : Bool) → eqb (flag_number b) 1 ≡ b
flag-back true = refl
flag-back false = refl

pub same_numbers : (r s : Reading) → numbers_of r ≡ numbers_of s → r ≡ s
same_numbers r s e = sym (back r) ∙ ap from e ∙ back s
  where
    from : List ℕ → Reading
    from l =
        cond (eqb (get_or l 12 0) 0)
        (Open (record {
          phase = phase_from (get_or l 0 0);
          at = get_or l 1 0;
          eols = get_or l 2 0;
          rows = get_or l 3 0;
          position = get_or l 4 0;
          black = eqb (get_or l 5 0) 1;
          loose = get_or l 6 0;
          cut = eqb (get_or l 7 0) 1;
          run = get_or l 8 0;
          run_at = get_or l 9 0;
          mode_at = get_or l 10 0;
          blank = eqb (get_or l 11 0) 1;
        }))
        (Ended (end_from (Row.ended_numbers (get_or l 12 0) (get_or l 15 0) (get_or l 14 0) (get_or l 6 0))) (record { rows = get_or l 3 0; entries = get_or l 13 0 }))

    back : (r : Reading) → from (numbers_of r) ≡ r
    back (Open s) = λ i. Open (record {
      phase = phase-back s.phase i;
      at = s.at;
      eols = s.eols;
      rows = s.rows;
      position = s.position;
      black = flag-back s.black i;
      loose = s.loose;
      cut = flag-back s.cut i;
      run = s.run;
      run_at = s.run_at;
      mode_at = s.mode_at;
      blank = flag-back s.blank i;
    })
    back (Ended e c) = ends e
      where
        ends : (e : PageEnd) → from (ended_numbers e c) ≡ Ended e c
        ends (PageEnd.Done bytes) = refl
        ends (PageEnd.InvalidCode place loose) = refl
        ends (PageEnd.UnexpectedEof place loose) = refl
        ends (PageEnd.Overflow place loose) = refl
        ends (PageEnd.NoEntry loose) = refl
        ends (PageEnd.NoRowEnd loose) = refl
        ends PageEnd.Short = refl

-- ---- A call

module _ (bytes : List ℕ) (settings : DecodeSettings) (xs es ms numbers : List ℕ) (n : ℕ) where
  pub no-reading : ((r : Reading) → Wordy r → numbers_of r ≡ numbers → ⊥) → (a : UnitAnswer) → a.answer ≡ answer_of (says_only (unfit_for n settings.columns (length bytes))) → a.units ≡ 0 → ReadsUnitsForC bytes settings xs es ms numbers n a xs es ms numbers
  no-reading h a e u = inr (record { none = h; answer = e; units = u; same_changes = refl; same_ends = refl; same_marks = refl; same_numbers = refl })

  pub called : (r : Reading) → Wordy r → numbers_of r ≡ numbers → (turn : Turn) (ys fs ns : List ℕ) → ReadsUnits bytes settings xs es ms r n turn ys fs ns → (numbers' : List ℕ) → numbers' ≡ numbers_of turn.reading
      → ReadsUnitsForC bytes settings xs es ms numbers n (record { answer = turn.answer; units = turn.units }) ys fs ns numbers'
  called r w is turn ys fs ns g numbers' e = inl (record { reading = r; wordy = w; is = is; turn = turn; reads = g; answer = refl; units = refl; handed_back = e })
