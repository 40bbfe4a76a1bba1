-- Laws of the numbers that C lends for the row form's state: which numbers a state has, that no two states have the same, and how a call comes out. Assumes nothing.
use mathlib.Core.Path.{◌≡◌, refl, sym, ap, ◌∙◌, subst}
use mathlib.Core.Logic.{◌⊎◌, inl, inr}
use mathlib.Core.Bool.{Bool, true, false, cond}
use mathlib.Core.List.{List, [], ◌∷◌, ◌++◌, append-nil}
use Prim.Native.Nat.{ℕ, zero, suc, ◌+◌, ◌≤◌, ◌<◌}
use native.Mathlib.Omega.{arith}
use lib.Dec.{eqb}
use lib.ListN.{length, get_or, drop, drop_of_length-le}
use lib.Seq.{drop-cons, sets, sets-eq}
use borrow.Author.Tests.{ne_eqb}
use Rattle.rules.specs.InSteps.{says_only}
use Rattle.answer.specs.declared.Answer.{Answer}
use Rattle.settings.specs.declared.DecodeSettings.{DecodeSettings}
use Rattle.by_row.specs.declared.Side.{Side}
use Rattle.by_row.specs.declared.Side.TheVariants.{First, Second}
use Rattle.by_row.specs.declared.End.{End}
use Rattle.by_row.specs.declared.End.TheVariants.{Unended, Done, InvalidCode, UnexpectedEof, Overflow, NoRoom, Short}
use Rattle.by_row.specs.declared.RowState.{RowState}
use Rattle.by_row.specs.declared.RowStep.{RowStep}
use Rattle.by_row.specs.ByRow.{answer_of, ReadsRow}
use Rattle.exports.specs.declared.row_state.EndNumbers.{EndNumbers}
use Rattle.exports.specs.RowState.{side_number, flag_number, ended_numbers, end_numbers, end_from, numbers_of, Same, unfit, Fits, ReadsRowForC}

-- ---- Ten numbers

-- the entries from a place on
abbrev pub entries_from : List ℕ → ℕ → ℕ → List ℕ
entries_from xs i zero = []
entries_from xs i (suc n) = get_or xs i 0 ∷ entries_from xs (suc i) n

pub from_place : (xs : List ℕ) (i n : ℕ) → length xs ≡ i + n → drop i xs ≡ entries_from xs i n
from_place xs i zero h = drop_of_length-le xs {i = i} (omega arith)
from_place xs i (suc n) h = drop-cons xs i 0 (omega arith) ∙ ap (λ (l : List ℕ). get_or xs i 0 ∷ l) (from_place xs (suc i) n (omega arith))

ten : (xs : List ℕ) → length xs ≡ 10 → xs ≡ entries_from xs 0 10
ten xs h = from_place xs 0 10 h

-- ---- Which numbers a state has

side-few : (s : Side) → side_number s ≤ 1
side-few First = omega arith
side-few Second = omega arith

pub flag-few : (b : Bool) → flag_number b ≤ 1
flag-few true = omega arith
flag-few false = omega arith

pub flag_is : (n : ℕ) → n ≤ 1 → flag_number (eqb n 1) ≡ n
flag_is zero h = refl
flag_is (suc zero) h = refl
flag_is (suc (suc n)) h = absurd (omega arith)

pub not-ten : (xs : List ℕ) → (length xs ≡ 10 → ⊥) → (st : RowState) → numbers_of st ≡ xs → ⊥
not-ten xs h st e = h (sym (ap length e))

pub no-side : (xs : List ℕ) → 1 < get_or xs 0 0 → (st : RowState) → numbers_of st ≡ xs → ⊥
no-side xs h st e = omega (arith, side-few st.side, ap (λ (l : List ℕ). get_or l 0 0) e)

pub no_flag : (xs : List ℕ) → 1 < get_or xs 5 0 → (st : RowState) → numbers_of st ≡ xs → ⊥
no_flag xs h st e = omega (arith, flag-few st.eols, ap (λ (l : List ℕ). get_or l 5 0) e)

pub has-state : (xs : List ℕ) → length xs ≡ 10 → get_or xs 5 0 ≤ 1 → (side : Side) → side_number side ≡ get_or xs 0 0
    → (end : End) → end_numbers end ≡ ended_numbers (get_or xs 6 0) (get_or xs 7 0) (get_or xs 8 0) (get_or xs 9 0)
    → numbers_of (record { at = get_or xs 2 0; rows = get_or xs 3 0; entries = get_or xs 4 0; eols = eqb (get_or xs 5 0) 1; side = side; held = get_or xs 1 0; end = end }) ≡ xs
has-state xs h f side s end e =
    (λ i. s i ∷ get_or xs 1 0 ∷ get_or xs 2 0 ∷ get_or xs 3 0 ∷ get_or xs 4 0 ∷ flag_is (get_or xs 5 0) f i ∷ (e i).number ∷ (e i).place ∷ (e i).bytes ∷ (e i).loose ∷ [])
    ∙ sym (ten xs h)

-- ---- The end's numbers

end_back : (e : End) → end_from (end_numbers e) ≡ e
end_back Unended = refl
end_back (Done bytes) = refl
end_back (InvalidCode place loose) = refl
end_back (UnexpectedEof place loose) = refl
end_back (Overflow place loose) = refl
end_back (NoRoom loose) = refl
end_back Short = refl

pub end-other : (n : EndNumbers) → 5 < n.number → Short ≡ end_from n
end-other n h =
    rw (ne_eqb n.number 0 (λ e. omega (arith, e)), ne_eqb n.number 1 (λ e. omega (arith, e)), ne_eqb n.number 2 (λ e. omega (arith, e)), ne_eqb n.number 3 (λ e. omega (arith, e)), ne_eqb n.number 4 (λ e. omega (arith, e)), ne_eqb n.number 5 (λ e. omega (arith, e)))

-- numbers are an end's exactly if the end that they would be has them
module _ (n own : EndNumbers) (end : End) (from : end ≡ end_from n) (has : own ≡ end_numbers end) (same : Bool) (told : Same own n same) where
  pub end_is : same ≡ true → end_numbers end ≡ n
  end_is q = sym has ∙ subst (Same own n) q told

  pub end_none : same ≡ false → (e : End) → end_numbers e ≡ n → ⊥
  end_none q e f = subst (Same own n) q told (has ∙ ap end_numbers (from ∙ ap end_from (sym f) ∙ end_back e) ∙ f)

-- ---- No two states have the same numbers

abbrev side_from : ℕ → Side
side_from n = cond (eqb n 0) Second First

side-back : (s : Side) → side_from (side_number s) ≡ s
side-back First = refl
side-back Second = refl

flag-back : (b : Bool) → eqb (flag_number b) 1 ≡ b
flag-back true = refl
flag-back false = refl

pub same_numbers : (s t : RowState) → numbers_of s ≡ numbers_of t → s ≡ t
same_numbers s t e = sym (back s) ∙ ap from e ∙ back t
  where
    from : List ℕ → RowState
    from l = record {
      at = get_or l 2 0;
      rows = get_or l 3 0;
      entries = get_or l 4 0;
      eols = eqb (get_or l 5 0) 1;
      side = side_from (get_or l 0 0);
      held = get_or l 1 0;
      end = end_from (ended_numbers (get_or l 6 0) (get_or l 7 0) (get_or l 8 0) (get_or l 9 0));
    }

    back : (s : RowState) → from (numbers_of s) ≡ s
    back s = λ i. record { at = s.at; rows = s.rows; entries = s.entries; eols = flag-back s.eols i; side = side-back s.side i; held = s.held; end = end_back s.end i }

-- ---- A call

module _ (bytes : List ℕ) (settings : DecodeSettings) (encoding : ℕ) (numbers xs ys : List ℕ) where
  -- 6, 7 or 8, and everything as found
  unfit-left : ((st : RowState) → Fits numbers encoding st → ⊥) → (r : Answer) → r ≡ answer_of (says_only (unfit settings.columns (length bytes))) → ReadsRowForC bytes settings encoding numbers xs ys r numbers xs ys
  unfit-left h r e = inr (record { none = h; answer = e; same_numbers = refl; same_first = refl; same_second = refl })

  pub no-state : ((st : RowState) → numbers_of st ≡ numbers → ⊥) → (r : Answer) → r ≡ answer_of (says_only (unfit settings.columns (length bytes))) → ReadsRowForC bytes settings encoding numbers xs ys r numbers xs ys
  no-state h r e = unfit-left (λ st f. h st f.is) r e

  module _ (st : RowState) (is : numbers_of st ≡ numbers) where
    pub no-encoding : 2 < encoding → st.end ≡ Unended → (r : Answer) → r ≡ answer_of (says_only (unfit settings.columns (length bytes))) → ReadsRowForC bytes settings encoding numbers xs ys r numbers xs ys
    no-encoding h u r e = unfit-left none r e
      where
        none : (t : RowState) → Fits numbers encoding t → ⊥
        none t f = named f.named
          where
            named : (encoding ≤ 2) ⊎ (t.end ≡ Unended → ⊥) → ⊥
            named (inl few) = omega arith
            named (inr over) = over (ap (λ (s : RowState). s.end) (same_numbers t st (f.is ∙ sym is)) ∙ u)

    pub called : (encoding ≤ 2) ⊎ (st.end ≡ Unended → ⊥) → (step : RowStep) (zs ws : List ℕ) → ReadsRow bytes settings st xs ys step zs ws → (numbers' : List ℕ) → numbers' ≡ numbers_of step.state
        → ReadsRowForC bytes settings encoding numbers xs ys step.answer numbers' zs ws
    called named step zs ws g numbers' e = inl (record { state = st; fits = record { is = is; named = named }; step = step; reads = g; answer = refl; handed_back = e })
