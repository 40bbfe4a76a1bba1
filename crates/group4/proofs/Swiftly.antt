-- A row whose line is seen at once, and a white row under a white one. Assumes nothing.
use mathlib.Core.Path.{◌≡◌, refl, sym, ap, ◌∙◌, subst}
use mathlib.Core.Bool.{Bool, true, false, cond, not, ◌&&◌}
use mathlib.Core.List.{List, []}
use Prim.Native.Nat.{ℕ, zero, suc, ◌+◌, ◌-◌, ◌*◌, ◌<◌}
use native.Mathlib.Omega.{arith}
use lib.Dec.{eqb, leb}
use lib.ListN.{length, drop}
use borrow.Author.Tests.{not-true, eqb-true, eqb-false, lt-leb}
use Rattle.std.specs.Prelude.{Ok}
use Rattle.rules.specs.Bits.{bits_of, peek}
use Rattle.rules.specs.Codes.{black}
use Rattle.rules.specs.Lines.{line, went, two, read_line}
use Rattle.rules.specs.Rows as Rule
use Rattle.rules.specs.Rows.{RowOut, rules_of, aligned_if}
use Rattle.rules.specs.Group4.{eols_before, over, after_line4, row4}
use Rattle.rules.proofs.Bits.{both_true, length-bits_of}
use Rattle.bit_reader.proofs.Clear.{zeros-few, some_one}
use Rattle.codes.proofs.Eols.{closing, none_yet, without_eol}
use Rattle.codes.specs.declared.eol.Eols.{Eols}
use Rattle.codes.specs.Eols.{eols_of}
use Rattle.one_line.specs.White.{under_white}
use Rattle.one_line.proofs.WhiteLine.{white-line, under-white}
use Rattle.settings.specs.declared.DecodeSettings.{DecodeSettings}
use Rattle.settings.specs.declared.State.{State}
use Rattle.settings.specs.Settings.{settings_of}
use Rattle.settings.specs.Between.{state_of, Row, kept_row, RowFrom, RowGives}
use Rattle.settings.proofs.Ended.{unchanged}
use Rattle.group4.specs.Lined.{LineFrom, row_at, full_at, begun, white_at}
use Rattle.group4.proofs.Outcomes.{over-data, row-lined}

-- ---- A row that is seen at once

module _ {bytes lent xs : List ℕ} {settings : DecodeSettings} {st : State} (h : RowFrom bytes lent xs settings st) (seen : begun settings bytes st ≡ true) where
  abbrev S : Rule.Settings
  S = settings_of settings

  abbrev bs : List Bool
  bs = bits_of bytes

  here : Eols
  here = record { count = 0; at = st.at }

  not_full : full_at settings st.rows ≡ false
  not_full = not-true (full_at settings st.rows) (both_true (not (full_at settings st.rows)) (not (eqb (peek 11 (drop st.at bs)) 0)) seen).0

  some-bit : 0 < peek 11 (drop st.at bs)
  some-bit = positive _ (eqb-false (peek 11 (drop st.at bs)) 0 (not-true (eqb (peek 11 (drop st.at bs)) 0) (both_true (not (full_at settings st.rows)) (not (eqb (peek 11 (drop st.at bs)) 0)) seen).1))
    where
      positive : (n : ℕ) → (n ≡ 0 → ⊥) → 0 < n
      positive zero k = absurd (k refl)
      positive (suc n) k = omega arith

  pub bit-inside : st.at < 8 * length bytes
  bit-inside = omega (arith, (closing bytes st.at (some_one 11 (drop st.at bs) some-bit)).inside)

  no-eols : eols_of here ≡ eols_before S bs (state_of [] [] st)
  unfolding here
  no-eols =
      without_eol (none_yet (cond S.end_of_block 2 (length bs)) h.loading.inside) (most S.end_of_block)
      (closing bytes st.at (some_one 11 (drop st.at bs) some-bit)) (zeros-few 11 (drop st.at bs) some-bit)
    where
      most : (t : Bool) → 0 < cond t 2 (length bs)
      most true = omega arith
      most false = omega (arith, bit-inside, length-bits_of bytes)

  goes_on : false ≡ over S bs (state_of [] [] st) (eols_of here)
  unfolding here
  goes_on = sym (lt-leb (length bs) st.at (omega (arith, bit-inside, length-bits_of bytes))) ∙ over-data S bs (state_of [] [] st) (eols_of here) (none S.end_of_block) not_full
    where
      none : (t : Bool) → (t && leb 2 0) ≡ false
      none true = refl
      none false = refl

  pub line-seen : LineFrom bytes lent xs settings st st.at
  line-seen = record { row = h; loading = h.loading }

  pub row_seen : (r : Row) (ys : List ℕ) → RowGives st.base xs (row_at settings bytes lent xs st st.at) r ys → RowGives st.base xs (row4 S bs (length xs - st.base) (state_of lent xs st)) r ys
  unfolding here
  row_seen r ys g = row-lined h here no-eols goes_on r ys g

  pub row-white : white_at bytes lent st ≡ true → (next : ℕ) → next ≡ aligned_if settings.rows_are_byte_aligned (st.at + 1)
      → RowGives st.base xs (row4 S bs (length xs - st.base) (state_of lent xs st)) (Ok (kept_row 0 0 next st.eols)) xs
  row-white e next n =
      let (u, v) = both_true (under_white st.reference st.base lent) (eqb (peek 1 (drop st.at bs)) 1) e in
      let one = eqb-true (peek 1 (drop st.at bs)) 1 v in
      let o = white-line (rules_of S (length xs - st.base)) h.wide (omega (arith, h.narrow)) bs st.at one in
      let k : row_at settings bytes lent xs st st.at ≡ after_line4 S bs (state_of lent xs st) (went (line (st.at + 1) settings.columns black [] false)) =
      ap (after_line4 S bs (state_of lent xs st)) (ap (λ (l : List ℕ). read_line (rules_of S (length xs - st.base)) (two l) bs st.at) (under-white st.reference st.base lent xs u) ∙ o) in
      row_seen (Ok (kept_row 0 0 next st.eols)) xs
      (subst (λ (u : RowOut). RowGives st.base xs u (Ok (kept_row 0 0 next st.eols)) xs) (sym k)
      (record { answer = λ i. Ok (kept_row 0 0 (n i) st.eols); store = unchanged st.base xs }))
