-- A row that ends the page does so with what 01 allows, from any state that stands in the data. Assumes nothing.
use mathlib.Core.Path.{◌≡◌, refl, ap}
use mathlib.Core.Logic.{⊎_elim}
use mathlib.Core.Bool.{Bool, cond}
use mathlib.Core.List.{List, []}
use Prim.Native.Nat.{ℕ, ◌≤◌, ◌<◌}
use native.Mathlib.Omega.{arith}
use lib.ListN.{length}
use Rattle.rules.specs.Lines.{Went, went, failed, two, read_line}
use Rattle.rules.specs.Rows.{Encoding, group4, group3_1_d, group3_2_d, Settings, State, recovered_mark, RowOut, row, stop, rules_of}
use Rattle.rules.specs.Group4.{eols_before, after_line4}
use Rattle.rules.specs.Group3.{Tagging, untagged, tagged, kept, after_line3, row3}
use Rattle.rules.specs.Pages.{row_of}
use Rattle.rules.proofs.Eols.{eols-ahead}
use Rattle.rules.proofs.Budget.{Bytes}
use Rattle.rules.proofs.Lines.{data-bound, read-broken}
use Rattle.rules.proofs.Rows.{row4-cases, row3-cases, mended-cases}
use Rattle.rules.proofs.Pages.{Does, row-does}
use Rattle.rules.proofs.Places.{RowPlaced, row-placed}
use Rattle.settings.specs.Ends.{Allowed}

abbrev pub RowAllowed : RowOut → Type 0
RowAllowed (row r mark next) = Unit {0}
RowAllowed (stop n place b loose) = Allowed n place b (length loose)

-- bytes come with 0 alone, and nothing is loose then
abbrev NoBytes : RowOut → Type 0
NoBytes (row r mark next) = Unit {0}
NoBytes (stop n place b loose) = (n ≡ 0 → ⊥) → b ≡ 0

abbrev Clean : RowOut → Type 0
Clean (row r mark next) = Unit {0}
Clean (stop n place b loose) = (n ≤ 4) × (n ≡ 0 → loose ≡ [])

module _ (S : Settings) (wide : 0 < S.columns) (bs : List Bool) (bytes : Bytes bs) (room : ℕ) (st : State) (inside : st.at ≤ length bs) where
  row4-bytes : NoBytes (row_of group4 S bs room st)
  unfolding row_of
  row4-bytes = row4-cases S bs room st NoBytes (λ e h. absurd (h refl)) (λ e w q. cases w)
    where
      cases : (w : Went) → NoBytes (after_line4 S bs st w)
      cases (went l) = tt
      cases (failed n p l) = λ h. refl

  row3-bytes : (t : Tagging) → NoBytes (row3 S t bs room st)
  row3-bytes t = row3-cases S t bs room st NoBytes (λ at e h. absurd (h refl)) (λ at e h. refl) (λ at expected e w q. cases at expected w)
    where
      mended : (at : ℕ) (expected : Bool) (w : Went) → NoBytes (kept S t bs st expected at recovered_mark w)
      mended at expected (went l) = tt
      mended at expected (failed n p l) = λ h. refl

      cases : (at : ℕ) (expected : Bool) (w : Went) → NoBytes (after_line3 S t bs (rules_of S room) st at expected w)
      cases at expected (went l) = tt
      cases at expected (failed n p l) = mended-cases S t bs (rules_of S room) st at expected n p l NoBytes (λ q s k w e. mended at expected w) (λ h. refl)

  row4-clean : Clean (row_of group4 S bs room st)
  unfolding row_of
  row4-clean = row4-cases S bs room st Clean (λ e. (omega arith, λ z. refl)) (λ e. cases)
    where
      cases : (w : Went) → read_line (rules_of S room) (two st.reference) bs (eols_before S bs st).at ≡ w → Clean (after_line4 S bs st w)
      cases (went l) e = tt
      cases (failed n p l) e =
          let f = read-broken (rules_of S room) wide (two st.reference) bs (eols_before S bs st).at (length bs) (data-bound bs) ((eols-ahead (cond S.end_of_block 2 (length bs)) bs st.at).inside inside) n p l e in
          (f.numbered.1, λ z. absurd (omega (arith, f.numbered.0)))

  of-does : (o : RowOut) → Does S bs room st o → Clean o
  of-does (row r mark next) d = tt
  of-does (stop n p b loose) d = (d.numbered, d.clean)

  both : (o : RowOut) → NoBytes o → Clean o → RowPlaced bs o → RowAllowed o
  both (row r mark next) a c p = tt
  both (stop n place b loose) a c p = record {
    no_bytes = a;
    no_place = ⊎_elim p.none p.later;
    no_loose = ⊎_elim (λ z. ap length (c.1 z)) (λ l. absurd (omega (arith, c.0)));
  }

  pub row-allowed : (enc : Encoding) → RowAllowed (row_of enc S bs room st)
  unfolding row_of
  row-allowed enc = both (row_of enc S bs room st) (no_bytes enc) (clean enc) (row-placed S bs bytes room st inside enc)
    where
      no_bytes : (enc : Encoding) → NoBytes (row_of enc S bs room st)
      no_bytes group4 = row4-bytes
      no_bytes group3_1_d = row3-bytes untagged
      no_bytes group3_2_d = row3-bytes tagged

      clean : (enc : Encoding) → Clean (row_of enc S bs room st)
      clean group4 = row4-clean
      clean group3_1_d = of-does (row_of group3_1_d S bs room st) (row-does S wide bs bytes room st group3_1_d tt inside)
      clean group3_2_d = of-does (row_of group3_2_d S bs room st) (row-does S wide bs bytes room st group3_2_d tt inside)
