-- No two states of the code stand for the same state of the rules, and each end has a number of the list. Assumes nothing.
use mathlib.Core.Path.{◌≡◌, refl, sym, ap, ◌∙◌}
use mathlib.Core.Logic.{inl, inr}
use mathlib.Core.Bool.{cond}
use Prim.Native.Nat.{ℕ}
use native.Mathlib.Omega.{arith}
use lib.Dec.{eqb}
use Rattle.rules.specs.ByRow as Rule
use Rattle.rules.specs.ByRow.{unended, ended}
use Rattle.by_row.specs.declared.Side.{Side}
use Rattle.by_row.specs.declared.Side.TheVariants.{First, Second}
use Rattle.by_row.specs.declared.End.{End}
use Rattle.by_row.specs.declared.End.TheVariants.{Unended, Done, InvalidCode, UnexpectedEof, Overflow, NoRoom, Short}
use Rattle.by_row.specs.declared.RowState.{RowState}
use Rattle.by_row.specs.ByRow.{side_of, Ending, end_of, row_state_of}

-- ---- What a state stands for, and back

abbrev side_from : Rule.Side → Side
side_from Rule.first = First
side_from Rule.second = Second

abbrev end_from : Rule.End → End
end_from unended = Unended
end_from (ended n place bytes loose) =
    cond (eqb n 0) (Done bytes) (cond (eqb n 1) (InvalidCode place loose) (cond (eqb n 2) (UnexpectedEof place loose) (cond (eqb n 3) (Overflow place loose) (cond (eqb n 4) (NoRoom loose) Short))))

side-back : (s : Side) → side_from (side_of s) ≡ s
side-back First = refl
side-back Second = refl

end_back : (e : End) → end_from (end_of e) ≡ e
end_back Unended = refl
end_back (Done bytes) = refl
end_back (InvalidCode place loose) = refl
end_back (UnexpectedEof place loose) = refl
end_back (Overflow place loose) = refl
end_back (NoRoom loose) = refl
end_back Short = refl

pub same-side : (s t : Side) → side_of s ≡ side_of t → s ≡ t
same-side s t e = sym (side-back s) ∙ ap side_from e ∙ side-back t

pub same-state : (s t : RowState) → row_state_of s ≡ row_state_of t → s ≡ t
same-state s t e = sym (back s) ∙ ap from e ∙ back t
  where
    from : Rule.RowState → RowState
    from p = record { at = p.at; rows = p.rows; entries = p.entries; eols = p.eols; side = side_from p.side; held = p.held; end = end_from p.end }

    back : (s : RowState) → from (row_state_of s) ≡ s
    back s = λ i. record { at = s.at; rows = s.rows; entries = s.entries; eols = s.eols; side = side-back s.side i; held = s.held; end = end_back s.end i }

-- ---- The numbers of the ends

-- an end is never 15
pub not_more : (n : ℕ) → Ending n → n ≡ 15 → ⊥
not_more n (inl h) e = omega arith
not_more n (inr h) e = omega arith

-- the number of an end; nothing where the page goes on
abbrev EndListed : Rule.End → Type 0
EndListed unended = Unit {0}
EndListed (ended n place bytes loose) = Ending n

pub end-listed : (e : End) → EndListed (end_of e)
end-listed Unended = tt
end-listed (Done bytes) = inl (omega arith)
end-listed (InvalidCode place loose) = inl (omega arith)
end-listed (UnexpectedEof place loose) = inl (omega arith)
end-listed (Overflow place loose) = inl (omega arith)
end-listed (NoRoom loose) = inl (omega arith)
end-listed Short = inr refl
