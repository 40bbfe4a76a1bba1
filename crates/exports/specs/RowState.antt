-- The row form's state as the ten numbers that C lends: which array holds the row that was given last, and how many changes it has there; the next bit, the rows and
-- their entries, whether EOLs are expected, and the end. All are zero at a page's start.
use Rattle.std.specs.Prelude.{◌≡◌, ◌⊎◌, Bool, true, false, cond, List, [], ◌∷◌, ℕ, ◌≤◌, eqb, ltb, length, Option, Some, None}
use Rattle.rules.specs.Pages.{most_bytes, is_too_wide}
use Rattle.rules.specs.InSteps.{says_only}
use Rattle.answer.specs.declared.Answer.{Answer}
use Rattle.settings.specs.declared.DecodeSettings.{DecodeSettings}
use Rattle.settings.specs.declared.EncodingMode.{EncodingMode}
use Rattle.settings.specs.declared.EncodingMode.TheVariants.{Group4, Group3_1D, Group3_2D}
use Rattle.by_row.specs.declared.Side.{Side}
use Rattle.by_row.specs.declared.Side.TheVariants.{First, Second}
use Rattle.by_row.specs.declared.End.{End}
use Rattle.by_row.specs.declared.End.TheVariants.{Unended, Done, InvalidCode, UnexpectedEof, Overflow, NoRoom, Short}
use Rattle.by_row.specs.declared.RowState.{RowState}
use Rattle.by_row.specs.declared.RowStep.{RowStep}
use Rattle.by_row.specs.ByRow.{answer_of, ReadsRow}
use Rattle.exports.specs.declared.row_state.EndNumbers.{EndNumbers}

-- ---- The numbers

-- so that zero is the side before the first row
abbrev pub side_number : Side → ℕ
side_number First = 1
side_number Second = 0

abbrev pub flag_number : Bool → ℕ
flag_number true = 1
flag_number false = 0

abbrev pub ended_numbers : ℕ → ℕ → ℕ → ℕ → EndNumbers
ended_numbers number place bytes loose = record { number = number; place = place; bytes = bytes; loose = loose }

-- 0 while the page goes on, and else one more than the number that it ended with; its place, bytes and loose entries, which are 0 where 01 allows that number none
abbrev pub end_numbers : End → EndNumbers
end_numbers Unended = ended_numbers 0 0 0 0
end_numbers (Done bytes) = ended_numbers 1 0 bytes 0
end_numbers (InvalidCode place loose) = ended_numbers 2 place 0 loose
end_numbers (UnexpectedEof place loose) = ended_numbers 3 place 0 loose
end_numbers (Overflow place loose) = ended_numbers 4 place 0 loose
end_numbers (NoRoom loose) = ended_numbers 5 0 0 loose
end_numbers Short = ended_numbers 15 0 0 0

-- the end that numbers would be, if they are some end's
abbrev pub end_from : EndNumbers → End
end_from n =
    cond (eqb n.number 0) Unended
    (cond (eqb n.number 1) (Done n.bytes)
    (cond (eqb n.number 2) (InvalidCode n.place n.loose)
    (cond (eqb n.number 3) (UnexpectedEof n.place n.loose) (cond (eqb n.number 4) (Overflow n.place n.loose) (cond (eqb n.number 5) (NoRoom n.loose) Short)))))

abbrev pub numbers_of : RowState → List ℕ
numbers_of st =
    side_number st.side ∷ st.held ∷ st.at ∷ st.rows ∷ st.entries ∷ flag_number st.eols
    ∷ (end_numbers st.end).number ∷ (end_numbers st.end).place ∷ (end_numbers st.end).bytes ∷ (end_numbers st.end).loose ∷ []

abbrev pub Same : EndNumbers → EndNumbers → Bool → Type 0
Same m n true = m ≡ n
Same m n false = m ≡ n → ⊥

-- Numbers are told to be those of a state, or those that none has. So an end that no page has is none: a number off the list, or one with a count that 01 never
-- gives it, as 0 with a place or 1 with bytes.
abbrev pub EndTold : ℕ → ℕ → ℕ → ℕ → Option End → Type 0
EndTold number place bytes loose (Some e) = end_numbers e ≡ ended_numbers number place bytes loose
EndTold number place bytes loose None = (e : End) → end_numbers e ≡ ended_numbers number place bytes loose → ⊥

abbrev pub StateTold : List ℕ → Option RowState → Type 0
StateTold numbers (Some st) = numbers_of st ≡ numbers
StateTold numbers None = (st : RowState) → numbers_of st ≡ numbers → ⊥

-- ---- The call

-- the encodings' numbers are those of the listing
abbrev pub mode_of : ℕ → EncodingMode
mode_of n = cond (eqb n 0) Group4 (cond (eqb n 1) Group3_1D Group3_2D)

abbrev pub Ended : RowState → Bool → Type 0
Ended st true = st.end ≡ Unended → ⊥
Ended st false = st.end ≡ Unended

-- A state, and with it an encoding of the list; once the page has ended no setting is read, so that the encoding may be any.
pub record Fits (numbers : List ℕ) (encoding : ℕ) (st : RowState) : Type 0 where
  pub is : numbers_of st ≡ numbers
  pub named : (encoding ≤ 2) ⊎ (st.end ≡ Unended → ⊥)

-- the row form's call from the state that the numbers are
pub record Called (bytes : List ℕ) (settings : DecodeSettings) (encoding : ℕ) (numbers xs ys : List ℕ) (r : Answer) (numbers' zs ws : List ℕ) : Type 0 where
  pub state : RowState
  pub fits : Fits numbers encoding state
  pub step : RowStep
  pub reads : ReadsRow bytes settings state xs ys step zs ws
  pub answer : r ≡ step.answer
  pub handed_back : numbers' ≡ numbers_of step.state

-- 8 where there is none: "another length, or numbers that no state has"; 6 and 7 come first, and everything stays as found
abbrev pub unfit : ℕ → ℕ → ℕ
unfit columns size = cond (is_too_wide columns) 6 (cond (ltb most_bytes size) 7 8)

pub record Unfit (bytes : List ℕ) (settings : DecodeSettings) (encoding : ℕ) (numbers xs ys : List ℕ) (r : Answer) (numbers' zs ws : List ℕ) : Type 0 where
  pub none : (st : RowState) → Fits numbers encoding st → ⊥
  pub answer : r ≡ answer_of (says_only (unfit settings.columns (length bytes)))
  pub same_numbers : numbers' ≡ numbers
  pub same_first : zs ≡ xs
  pub same_second : ws ≡ ys

abbrev pub ReadsRowForC : List ℕ → DecodeSettings → ℕ → List ℕ → List ℕ → List ℕ → Answer → List ℕ → List ℕ → List ℕ → Type 0
ReadsRowForC bytes settings encoding numbers xs ys r numbers' zs ws =
    Called bytes settings encoding numbers xs ys r numbers' zs ws ⊎ Unfit bytes settings encoding numbers xs ys r numbers' zs ws
