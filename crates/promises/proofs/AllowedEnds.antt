-- Proofs of specs/AllowedEnds.antt: a page's end is held in the state that the call hands back, whose type has what 01 allows. Assumes nothing.
use mathlib.Core.Path.{◌≡◌, refl, sym, ap, ◌∙◌, subst}
use mathlib.Core.Logic.{◌⊎◌, inl, inr, ⊎_elim}
use mathlib.Core.List.{List}
use Prim.Native.Nat.{ℕ, zero, suc, ◌≤◌, ◌<◌}
use native.Mathlib.Omega.{arith}
use Rattle.rules.specs.Answers.{invalid_code, overflow, no_entry, no_row_end, too_few_rows}
use Rattle.rules.specs.Rows.{Settings, RowOut, row, stop}
use Rattle.rules.specs.InSteps.{Said}
use Rattle.rules.specs.ByRow as Rule
use Rattle.rules.specs.ByRow.{Arrays, unended, ended, unless_few, after_row, read_row}
use Rattle.rules.specs.ByUnit as ByUnit
use Rattle.rules.specs.ByUnit.{as_group4, turn}
use Rattle.rules.proofs.ByRow.{few-cases, call-cases}
use Rattle.rules.proofs.ByUnit.{turn-ends}
use Rattle.answer.specs.declared.Answer.{Answer}
use Rattle.settings.specs.Settings.{settings_of}
use Rattle.settings.specs.Ends.{Allowed}
use Rattle.by_row.specs.declared.End.{End}
use Rattle.by_row.specs.declared.End.TheVariants as End
use Rattle.by_row.specs.ByRow.{end_of, row_state_of}
use Rattle.by_unit.specs.declared.PageEnd.{PageEnd}
use Rattle.by_unit.specs.declared.PageEnd.TheVariants as PageEnd
use Rattle.by_unit.specs.declared.EndCounts.{EndCounts}
use Rattle.by_unit.specs.declared.Reading.{Reading}
use Rattle.by_unit.specs.declared.Reading.TheVariants.{Open, Ended}
use Rattle.by_unit.specs.Reading.{Ending, said_of, reading_of}
use Rattle.promises.specs.AllowedEnds.{RowEndsAllowed, UnitEndsAllowed}

-- ---- Each number has what 01 allows it

done-allowed : (bytes : ℕ) → Allowed 0 0 bytes 0
done-allowed bytes = record { no_bytes = λ h. absurd (h refl); no_place = λ h. refl; no_loose = λ h. refl }

fault-allowed : (n place loose : ℕ) → invalid_code ≤ n → n ≤ overflow → Allowed n place 0 loose
fault-allowed n place loose h k =
    record { no_bytes = λ z. refl; no_place = ⊎_elim (λ z. absurd (omega arith)) (λ z. absurd (omega arith)); no_loose = ⊎_elim (λ z. absurd (omega arith)) (λ z. absurd (omega arith)) }

room-allowed : (n loose : ℕ) → invalid_code ≤ n → n ≤ no_row_end → Allowed n 0 0 loose
room-allowed n loose h k = record { no_bytes = λ z. refl; no_place = λ z. refl; no_loose = ⊎_elim (λ z. absurd (omega arith)) (λ z. absurd (omega arith)) }

short-allowed : Allowed 14 0 0 0
short-allowed = record { no_bytes = λ z. refl; no_place = λ z. refl; no_loose = λ z. refl }

-- ---- The row form

abbrev EndAllowed : Rule.End → Type 0
EndAllowed unended = Unit {0}
EndAllowed (ended n place bytes loose) = Allowed n place bytes loose

end-allowed : (e : End) → EndAllowed (end_of e)
end-allowed End.Unended = tt
end-allowed (End.Done bytes) = done-allowed bytes
end-allowed (End.InvalidCode place loose) = fault-allowed 1 place loose (omega arith) (omega arith)
end-allowed (End.UnexpectedEof place loose) = fault-allowed 2 place loose (omega arith) (omega arith)
end-allowed (End.Overflow place loose) = fault-allowed 3 place loose (omega arith) (omega arith)
end-allowed (End.NoRoom loose) = room-allowed 4 loose (omega arith) (omega arith)
end-allowed End.Short = short-allowed

-- an end that is said is held
module _ (S : Settings) (bytes : List ℕ) (p : Rule.RowState) (xs : Arrays) where
  abbrev Ends : Rule.RowStep → Type 0
  Ends d = (d.said.number ≤ no_entry) ⊎ (d.said.number ≡ too_few_rows)

  abbrev Holds : Rule.RowStep → Type 0
  Holds d = Ends d → d.state.end ≡ ended d.said.number d.said.place d.said.bytes d.said.loose

  no_end : (n : ℕ) {A : Type 0} → no_entry < n → (n ≡ too_few_rows → ⊥) → (n ≤ no_entry) ⊎ (n ≡ too_few_rows) → A
  no_end n h k (inl i) = absurd (omega arith)
  no_end n h k (inr i) = absurd (k i)

  row-holds : Holds (read_row S bytes p xs)
  row-holds =
      call-cases S bytes p xs Holds (λ n place b loose e h. e) (λ u e. no_end 6 (omega arith) (λ z. omega arith)) (λ u e f. no_end 7 (omega arith) (λ z. omega arith)) (λ u e f g. no_end 8 (omega arith) (λ z. omega arith))
      (λ u e f g c h. refl) (λ u e f g c o q. rows o)
    where
      rows : (o : RowOut) → Holds (after_row p xs (unless_few S bytes p xs o))
      rows (row r mark next) = no_end 15 (omega arith) (λ z. omega arith)
      rows (stop n place b loose) = few-cases S bytes p xs n place b loose (λ w. Holds (after_row p xs w)) (λ h. refl) (λ h. refl)

pub row-ends-allowed : RowEndsAllowed
row-ends-allowed bytes settings c g h =
    let held = row-holds (settings_of settings) bytes (row_state_of c.state) (record { first = c.first; second = c.second }) (subst (λ (a : Answer). (a.number ≤ no_entry) ⊎ (a.number ≡ too_few_rows)) g.answer h) in
    subst (λ (a : Answer). Allowed a.number a.place a.bytes a.loose) (sym g.answer)
    (subst EndAllowed (ap (λ (p : Rule.RowState). p.end) g.state ∙ held) (end-allowed c.step.state.end))

-- ---- The unit form

abbrev SaidAllowed : Said → Type 0
SaidAllowed d = Allowed d.number d.place d.bytes d.loose

said-allowed : (e : PageEnd) (c : EndCounts) → SaidAllowed (said_of e c)
said-allowed (PageEnd.Done bytes) c = done-allowed bytes
said-allowed (PageEnd.InvalidCode place loose) c = fault-allowed 1 place loose (omega arith) (omega arith)
said-allowed (PageEnd.UnexpectedEof place loose) c = fault-allowed 2 place loose (omega arith) (omega arith)
said-allowed (PageEnd.Overflow place loose) c = fault-allowed 3 place loose (omega arith) (omega arith)
said-allowed (PageEnd.NoEntry loose) c = room-allowed 4 loose (omega arith) (omega arith)
said-allowed (PageEnd.NoRowEnd loose) c = room-allowed 5 loose (omega arith) (omega arith)
said-allowed PageEnd.Short c = short-allowed

reading-allowed : (r : Reading) (d : Said) → reading_of r ≡ ByUnit.ended d → SaidAllowed d
reading-allowed (Ended e c) d q = subst SaidAllowed (let z : said_of e c ≡ d = cc in z) (said-allowed e c)
reading-allowed (Open s) d q = absurd (let z : ◌≡◌ {A = ℕ} 0 1 = cc in omega arith)

pub unit-ends-allowed : UnitEndsAllowed
unit-ends-allowed bytes settings c g some h =
    subst (λ (a : Answer). Allowed a.number a.place a.bytes a.loose) (sym g.answer)
    (reading-allowed c.turn.reading (told c.n).answer (g.reading ∙ ended_so c.n some (subst (λ (a : Answer). Ending a.number) g.answer h)))
  where
    told : ℕ → ByUnit.Turn
    told n = turn (as_group4 (settings_of settings)) bytes c.changes c.ends c.marks n (reading_of c.reading)

    ended_so : (n : ℕ) → 0 < n → Ending (told n).answer.number → (told n).reading ≡ ByUnit.ended (told n).answer
    ended_so zero p k = absurd (omega arith)
    ended_so (suc n) p k = turn-ends (as_group4 (settings_of settings)) bytes c.changes c.ends c.marks n (reading_of c.reading) k
