-- One row, by the encoding. Assumes nothing.
use mathlib.Core.Path.{◌≡◌, refl, sym, subst}
use mathlib.Core.Bool.{Bool, true, false}
use mathlib.Core.List.{List}
use Prim.Native.Nat.{ℕ, ◌-◌}
use native.Mathlib.Omega.{arith}
use lib.ListN.{length}
use Rattle.rules.specs.Bits.{bits_of}
use Rattle.rules.specs.Rows as Rule
use Rattle.rules.specs.Rows.{Settings, RowOut}
use Rattle.rules.specs.Group4.{row4}
use Rattle.rules.specs.Group3.{row3}
use Rattle.rules.specs.Pages.{row_of}
use Rattle.settings.specs.declared.DecodeSettings.{DecodeSettings}
use Rattle.settings.specs.declared.State.{State}
use Rattle.settings.specs.declared.EncodingMode.{EncodingMode}
use Rattle.settings.specs.declared.EncodingMode.TheVariants.{Group4, Group3_1D, Group3_2D}
use Rattle.settings.specs.Settings.{encoding_of, settings_of, is_group4, tagging_of}
use Rattle.settings.specs.Between.{state_of, Row, RowGives, Rowed}

-- the encoding's row is Group 4's, or Group 3's with or without tags
by_encoding : EncodingMode → Settings → List Bool → ℕ → Rule.State → RowOut
by_encoding Group4 S bs = row4 S bs
by_encoding Group3_1D S bs = row3 S (tagging_of Group3_1D) bs
by_encoding Group3_2D S bs = row3 S (tagging_of Group3_2D) bs

by-encoding : (e : EncodingMode) (S : Settings) (bs : List Bool) (room : ℕ) (st : Rule.State) → by_encoding e S bs room st ≡ row_of (encoding_of e) S bs room st
unfolding by_encoding row_of
by-encoding Group4 S bs room st = refl
by-encoding Group3_1D S bs room st = refl
by-encoding Group3_2D S bs room st = refl

module _ (bytes lent xs : List ℕ) (settings : DecodeSettings) (st : State) {r : Row} {ys : List ℕ} where
  rowed : (e : EncodingMode) → settings.encoding ≡ e → RowGives st.base xs (by_encoding e (settings_of settings) (bits_of bytes) (length xs - st.base) (state_of lent xs st)) r ys → Rowed bytes lent xs settings st r ys
  rowed e q g =
      subst (λ (d : EncodingMode). RowGives st.base xs (row_of (encoding_of d) (settings_of settings) (bits_of bytes) (length xs - st.base) (state_of lent xs st)) r ys) (sym q)
      (subst (λ (w : RowOut). RowGives st.base xs w r ys) (by-encoding e (settings_of settings) (bits_of bytes) (length xs - st.base) (state_of lent xs st)) g)

  pub rowed-4 : is_group4 settings.encoding ≡ true → RowGives st.base xs (row4 (settings_of settings) (bits_of bytes) (length xs - st.base) (state_of lent xs st)) r ys → Rowed bytes lent xs settings st r ys
  unfolding by_encoding
  rowed-4 k g = rowed Group4 (only settings.encoding k) g
    where
      only : (e : EncodingMode) → is_group4 e ≡ true → e ≡ Group4
      only Group4 k = refl
      only Group3_1D k = absurd (let z : ◌≡◌ {A = ℕ} 0 1 = cc in omega arith)
      only Group3_2D k = absurd (let z : ◌≡◌ {A = ℕ} 0 1 = cc in omega arith)

  pub rowed-3 : is_group4 settings.encoding ≡ false → RowGives st.base xs (row3 (settings_of settings) (tagging_of settings.encoding) (bits_of bytes) (length xs - st.base) (state_of lent xs st)) r ys → Rowed bytes lent xs settings st r ys
  unfolding by_encoding
  rowed-3 k g = rowed settings.encoding refl (subst (λ (w : RowOut). RowGives st.base xs w r ys) (same settings.encoding k) g)
    where
      same : (e : EncodingMode) → is_group4 e ≡ false → row3 (settings_of settings) (tagging_of e) (bits_of bytes) (length xs - st.base) (state_of lent xs st) ≡ by_encoding e (settings_of settings) (bits_of bytes) (length xs - st.base) (state_of lent xs st)
      same Group4 k = absurd (let z : ◌≡◌ {A = ℕ} 0 1 = cc in omega arith)
      same Group3_1D k = refl
      same Group3_2D k = refl
