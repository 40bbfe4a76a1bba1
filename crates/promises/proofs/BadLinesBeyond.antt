-- Bad lines beyond A13's settings and fill: what the rules say of them, over the contract of `decode`. Assumes nothing.
use mathlib.Core.Path.{◌≡◌, refl, sym, ap, ◌∙◌, subst}
use mathlib.Core.Logic.{◌⊎◌, inl, inr}
use mathlib.Core.Bool.{Bool, true, false}
use mathlib.Core.List.{List, [], ◌++◌}
use Prim.Native.Nat.{ℕ, ◌≤◌, ◌<◌}
use native.Mathlib.Omega.{arith}
use lib.ListN.{length}
use Rattle.rules.specs.Answers.{complete, most_pixels}
use Rattle.rules.specs.Group3.{Tagging, untagged, tagged}
use Rattle.rules.specs.Rows.{Settings}
use Rattle.rules.specs.Damage.{arrived_page, may_all, all_stop, Spared}
use Rattle.rules.specs.Damage2D.{arrived_page_2d, may_all_2d, SparedTo1D}
use Rattle.rules.proofs.Group3Back.{encoding_of as encodingFor}
use Rattle.rules.proofs.Mending.{Mends}
use Rattle.rules.proofs.MendedPage.{spared-count}
use Rattle.rules.proofs.BadLines.{Stopping, spared-length}
use Rattle.rules.proofs.LessFill.{all-stop}
use Rattle.rules.proofs.OneBadLine.{bad-lines-decode}
use Rattle.rules.proofs.BadLines2D.{bad-lines-2d}
use Rattle.answer.specs.declared.Answer.{Answer}
use Rattle.settings.specs.declared.DecodeSettings.{DecodeSettings}
use Rattle.settings.specs.declared.EncodingMode.{EncodingMode}
use Rattle.settings.specs.Settings.{encoding_of, settings_of}
use Rattle.promises.specs.Rooms.{places}
use Rattle.promises.specs.BadLinesBeyond.{ForBadLinesToo, BadLinesBeyondA13, BadLines2DBeyondA13}
use Rattle.promises.proofs.Rooms.{answer_in}
use Rattle.promises.proofs.BadLines.{number_is, handed-over, room-is}

-- the settings of the rules
mends : (t : Tagging) (encoding : EncodingMode) → encoding_of encoding ≡ encodingFor t → (columns rows : ℕ) (rest : List Bool) (settings : DecodeSettings) → 0 < columns → columns < most_pixels
    → ForBadLinesToo encoding columns rows rest settings → Mends t (settings_of settings) rows rest
mends t encoding same columns rows rest settings wide narrow s = record {
  encoded = ap encoding_of s.group_3 ∙ same;
  lenient = s.lenient;
  wide = omega (arith, s.same_columns);
  narrow = omega (arith, s.same_columns);
  counted = s.ends_in;
}

pub bad-lines-beyond : BadLinesBeyondA13
bad-lines-beyond columns fill lines bytes settings c a = (
  number_is bytes settings c a.reading ∙ d.0,
  ap (λ (x : Answer). x.rows) a.reading.answer ∙ spared-length d.1,
  handed-over bytes settings c a.reading (Spared lines) d.1,
)
  where
    S : Settings
    S = settings_of settings

    same : settings.columns ≡ columns
    same = a.set.same_columns

    goods : may_all settings.columns lines ≡ true
    goods = subst (λ (n : ℕ). may_all n lines ≡ true) (sym same) a.allowed

    stops : (3 ≤ fill) ⊎ (all_stop columns fill lines ≡ true) → Stopping S fill lines
    stops (inl three) = inl three
    stops (inr each) =
        inr (all-stop S a.set.lenient a.set.inexact (omega (arith, same, a.wide)) (omega (arith, same, a.narrow)) fill lines goods
        (subst (λ (n : ℕ). all_stop n fill lines ≡ true) (sym same) each))

    d : ((answer_in bytes settings c).number ≡ complete) × Spared lines (answer_in bytes settings c).rows (answer_in bytes settings c).marks
    d =
        bad-lines-decode S a.set.inexact fill a.rest lines a.some_lines goods (stops a.stopping)
        (mends untagged _ refl columns (length lines) a.rest settings a.wide a.narrow a.set) (omega (arith, same, a.narrow)) bytes a.small
        (a.there ∙ ap (λ (n : ℕ). arrived_page n fill lines ++ a.rest) (sym same)) (length c.changes) (places c)
        (room-is bytes settings c a.reading (length lines) columns same a.roomy)

pub bad-lines-2d-beyond : BadLines2DBeyondA13
bad-lines-2d-beyond columns fill lines bytes settings c a = (
  number_is bytes settings c a.reading ∙ d.0,
  ap (λ (x : Answer). x.rows) a.reading.answer ∙ spared-count d.1,
  handed-over bytes settings c a.reading (SparedTo1D false lines) d.1,
)
  where
    same : settings.columns ≡ columns
    same = a.set.same_columns

    d : ((answer_in bytes settings c).number ≡ complete) × SparedTo1D false lines (answer_in bytes settings c).rows (answer_in bytes settings c).marks
    d =
        bad-lines-2d (settings_of settings) a.set.inexact fill a.three lines a.some_lines
        (subst (λ (n : ℕ). may_all_2d n lines ≡ true) (sym same) a.allowed) a.rest
        (mends tagged _ refl columns (length lines) a.rest settings a.wide a.narrow a.set) (omega (arith, same, a.narrow)) bytes a.small
        (a.there ∙ ap (λ (n : ℕ). arrived_page_2d n fill [] lines ++ a.rest) (sym same)) (length c.changes) (places c)
        (room-is bytes settings c a.reading (length lines) columns same a.roomy)
