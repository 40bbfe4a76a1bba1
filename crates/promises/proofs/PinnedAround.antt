-- The contracts of the functions for C, of the lent line and of the desk's settle their answers and the arrays after them. Assumes nothing.
use mathlib.Core.Path.{◌≡◌, sym, ap, ◌∙◌, subst}
use mathlib.Core.Logic.{inl, inr}
use mathlib.Core.Bool.{false}
use Rattle.settings.specs.declared.EncodingMode.TheVariants.{Group4}
use Rattle.settings.specs.declared.DecodeSettings.{DecodeSettings}
use Rattle.by_row.specs.declared.RowState.{RowState}
use Rattle.by_row.specs.declared.RowStep.{RowStep}
use Rattle.by_row.specs.ByRow.{ReadsRow}
use Rattle.exports.specs.Exports.{settings_for}
use Rattle.exports.specs.RowState.{mode_of, numbers_of, Called, ReadsRowForC}
use Rattle.exports.proofs.RowState.{same_numbers}
use Rattle.by_unit.specs.declared.Reading.{Reading}
use Rattle.by_unit.specs.declared.Turn.{Turn}
use Rattle.by_unit.specs.Reading.{ReadsUnits}
use Rattle.exports.specs.UnitState as Units
use Rattle.exports.specs.UnitState.{ReadsUnitsForC}
use Rattle.exports.proofs.UnitState as UnitLaws
use Rattle.listing_text.proofs.Standing.{says-once}
use Rattle.promises.specs.PinnedAround.{ForCGroup4Pinned, ForCGroup3Pinned, ForCCheckPinned, ForCRowPinned, ForCUnitsPinned, PushLinePinned, ParsePinned, PrintsPinned}
use Rattle.promises.proofs.OneAnswer.{settled-with}
use Rattle.promises.proofs.Pinned.{decode-pinned, push-pinned}
use Rattle.promises.proofs.Proper.{check-pinned}
use Rattle.promises.proofs.ByRow.{read-row-pinned}
use Rattle.promises.proofs.ByUnit.{read-units-pinned}

pub for-c-group3-pinned : ForCGroup3Pinned
for-c-group3-pinned encoding src columns rows block line aligned strict exact plain = decode-pinned src (settings_for columns rows block line aligned encoding strict exact plain)

pub for-c-group4-pinned : ForCGroup4Pinned
for-c-group4-pinned src columns rows block aligned strict exact plain = for-c-group3-pinned Group4 src columns rows block false aligned strict exact plain

pub for-c-check-pinned : ForCCheckPinned
for-c-check-pinned encoding src columns rows block line aligned strict exact plain = check-pinned src (settings_for columns rows block line aligned encoding strict exact plain)

pub for-c-row-pinned : ForCRowPinned
for-c-row-pinned src columns rows block line aligned encoding strict exact plain state first second r s xs ys es fs ms ns = cases
  where
    S : DecodeSettings
    S = settings_for columns rows block line aligned (mode_of encoding) strict exact plain

    same : Called src S encoding state first second r xs es ms → Called src S encoding state first second s ys fs ns → (r ≡ s) × (xs ≡ ys) × (es ≡ fs) × (ms ≡ ns)
    same g h =
        let states : h.state ≡ g.state = same_numbers h.state g.state (h.fits.is ∙ sym g.fits.is) in
        let once = read-row-pinned src S g.state first second g.step h.step es fs ms ns g.reads (subst (λ (st : RowState). ReadsRow src S st first second h.step fs ns) states h.reads) in (
          g.answer ∙ ap (λ (t : RowStep). t.answer) once.0 ∙ sym h.answer,
          g.handed_back ∙ ap (λ (t : RowStep). numbers_of t.state) once.0 ∙ sym h.handed_back,
          once.1,
          once.2,
        )

    cases : ReadsRowForC src S encoding state first second r xs es ms → ReadsRowForC src S encoding state first second s ys fs ns → (r ≡ s) × (xs ≡ ys) × (es ≡ fs) × (ms ≡ ns)
    cases (inl g) (inl h) = same g h
    cases (inl g) (inr h) = absurd (h.none g.state g.fits)
    cases (inr g) (inl h) = absurd (g.none h.state h.fits)
    cases (inr g) (inr h) = (g.answer ∙ sym h.answer, g.same_numbers ∙ sym h.same_numbers, g.same_first ∙ sym h.same_first, g.same_second ∙ sym h.same_second)

pub for-c-units-pinned : ForCUnitsPinned
for-c-units-pinned src columns rows block aligned strict exact plain changes ends marks state n r s xs ys es fs ms ns ps qs = cases
  where
    S : DecodeSettings
    S = settings_for columns rows block false aligned Group4 strict exact plain

    same : Units.Called src S changes ends marks state n r xs es ms ps → Units.Called src S changes ends marks state n s ys fs ns qs → (r ≡ s) × (xs ≡ ys) × (es ≡ fs) × (ms ≡ ns) × (ps ≡ qs)
    same g h =
        let readings : h.reading ≡ g.reading = UnitLaws.same_numbers h.reading g.reading (h.is ∙ sym g.is) in
        let once = read-units-pinned src S changes ends marks g.reading n g.turn h.turn xs ys es fs ms ns g.reads (subst (λ (st : Reading). ReadsUnits src S changes ends marks st n h.turn ys fs ns) readings h.reads) in (
          λ i. record { answer = (g.answer ∙ ap (λ (t : Turn). t.answer) once.0 ∙ sym h.answer) i; units = (g.units ∙ ap (λ (t : Turn). t.units) once.0 ∙ sym h.units) i },
          once.1,
          once.2,
          once.3,
          g.handed_back ∙ ap (λ (t : Turn). Units.numbers_of t.reading) once.0 ∙ sym h.handed_back,
        )

    cases : ReadsUnitsForC src S changes ends marks state n r xs es ms ps → ReadsUnitsForC src S changes ends marks state n s ys fs ns qs → (r ≡ s) × (xs ≡ ys) × (es ≡ fs) × (ms ≡ ns) × (ps ≡ qs)
    cases (inl g) (inl h) = same g h
    cases (inl g) (inr h) = absurd (h.none g.reading g.wordy g.is)
    cases (inr g) (inl h) = absurd (g.none h.reading h.wordy h.is)
    cases (inr g) (inr h) = (
      λ i. record { answer = (g.answer ∙ sym h.answer) i; units = (g.units ∙ sym h.units) i },
      g.same_changes ∙ sym h.same_changes,
      g.same_ends ∙ sym h.same_ends,
      g.same_marks ∙ sym h.same_marks,
      g.same_numbers ∙ sym h.same_numbers,
    )

pub push-line-pinned : PushLinePinned
push-line-pinned xs l count strict r s ys zs g h =
    let once = push-pinned xs l count strict r.number s.number r.line s.line ys zs g h in
    (λ i. record { number = once.0 i; line = once.1 i }, once.2)

pub parse-pinned : ParsePinned
parse-pinned = says-once

pub prints-pinned : PrintsPinned
prints-pinned before text = settled-with (λ r ys g. (g.count, g.array))
