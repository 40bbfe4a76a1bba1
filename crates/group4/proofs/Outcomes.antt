-- The end of a Group 4 page, test by test, and each way in which a row comes out. Assumes nothing.
use mathlib.Core.Path.{◌≡◌, refl, sym, ap, ◌∙◌, subst}
use mathlib.Core.Bool.{Bool, true, false, cond, not, ◌&&◌, ◌||◌}
use mathlib.Core.List.{List, [], ◌++◌}
use Prim.Native.Nat.{ℕ, ◌-◌, ◌≤◌}
use native.Mathlib.Omega.{arith}
use lib.Dec.{eqb, leb}
use lib.ListN.{length, take, drop, length-drop}
use Rattle.std.specs.Prelude.{Ok, Err}
use Rattle.rules.specs.Bits.{bits_of}
use Rattle.rules.specs.Eols as Eol
use Rattle.rules.specs.Lines.{Went, went, failed, two, read_line}
use Rattle.rules.specs.Rows as Rule
use Rattle.rules.specs.Rows.{RowOut, rules_of, aligned_if, finished}
use Rattle.rules.specs.Group4.{eols_before, over, after_line4, line_or_end, row4}
use Rattle.rules.specs.Pages.{overlaid}
use Rattle.rules.proofs.Bits.{length-bits_of}
use Rattle.rules.proofs.Eols.{eols-ahead}
use Rattle.rules.proofs.Lines.{read_whole}
use Rattle.bit_reader.specs.Cursor.{most_bits}
use Rattle.bit_reader.specs.Loaded.{Loading}
use Rattle.codes.specs.declared.eol.Eols.{Eols}
use Rattle.codes.specs.Eols.{eols_of}
use Rattle.context.specs.declared.line.Line.{Line}
use Rattle.context.specs.declared.step.Stop.{Stop}
use Rattle.context.specs.State.{changes_of}
use Rattle.context.specs.Outcome.{Step}
use Rattle.context.specs.Coding.{Lines, Lined}
use Rattle.context.proofs.State.{mark-is}
use Rattle.context.proofs.Carried.{step-on, step-stop}
use Rattle.settings.specs.declared.DecodeSettings.{DecodeSettings}
use Rattle.settings.specs.declared.State.{State}
use Rattle.settings.specs.Settings.{settings_of}
use Rattle.settings.specs.Between.{state_of, Row, kept_row, page_stop, row_for, changes_in, RowFrom, RowGives}
use Rattle.settings.proofs.Ended.{gives-stop}
use Rattle.group4.specs.Lined.{LineFrom, row_at}

-- ---- The page's end

module _ (S : Rule.Settings) (bs : List Bool) (st : Rule.State) (e : Eol.Eols) where
  abbrev tests : Bool → Bool → Bool
  tests a b = a || (b || leb (length bs) e.at)

  pub over-eofb : (S.end_of_block && leb 2 e.count) ≡ true → true ≡ over S bs st e
  over-eofb q = rw q

  pub over-full : (not (eqb S.rows 0) && eqb st.count S.rows) ≡ true → true ≡ over S bs st e
  over-full q = cases (S.end_of_block && leb 2 e.count) (not (eqb S.rows 0) && eqb st.count S.rows) q
    where
      cases : (a b : Bool) → b ≡ true → true ≡ tests a b
      cases true b q = refl
      cases false b q = rw q

  pub over-data : (S.end_of_block && leb 2 e.count) ≡ false → (not (eqb S.rows 0) && eqb st.count S.rows) ≡ false → leb (length bs) e.at ≡ over S bs st e
  over-data p q = rw (p, q)

-- ---- A row whose line begins at a bit

module _ {bytes lent xs : List ℕ} {settings : DecodeSettings} {st : State} {start : ℕ} (h : LineFrom bytes lent xs settings st start) where
  abbrev S : Rule.Settings
  S = settings_of settings

  abbrev bs : List Bool
  bs = bits_of bytes

  pub row-asks : Lines bytes lent xs st.base st.reference settings.columns start
  row-asks = record { starts = record { loading = h.loading; narrow = h.row.narrow }; placed = h.row.placed; rising = h.row.rising }

  -- the line was read
  module _ (r : Step) (ys : List ℕ)
      (l : Lined bytes lent xs st.base st.reference settings.columns start (record { strict = settings.strict; exact = settings.exact; plain = settings.plain }) r ys) where
    abbrev lined : ℕ → Went
    lined n = read_line (rules_of S n) (two (state_of lent xs st).reference) bs start

    room-is : length (drop st.base xs) ≡ length xs - st.base
    room-is = length-drop st.base xs

    -- where the line comes to an outcome, so does the row
    gives : (o : Went) → lined (length (drop st.base xs)) ≡ o → (a : Row) → a ≡ row_for (after_line4 S bs (state_of lent xs st) o) → changes_in (after_line4 S bs (state_of lent xs st) o) ≡ changes_of o → RowGives st.base xs (row_at settings bytes lent xs st start) a ys
    gives o t a k c =
        subst (λ (u : RowOut). RowGives st.base xs u a ys)
        (sym (ap (after_line4 S bs (state_of lent xs st)) (ap lined (sym room-is) ∙ t)))
        (record {
          answer = k;
          store = l.store ∙ ap (λ (o : Went). take st.base xs ++ overlaid (changes_of o) (drop st.base xs)) t ∙ ap (λ (c : List ℕ). take st.base xs ++ overlaid c (drop st.base xs)) (sym c);
        })

    pub line-inside : (m : Line) (at : ℕ) → r ≡ Ok (m, at) → at ≤ most_bits
    line-inside m at a =
        let (t, o, same, there) = step-on settings.columns (lined (length (drop st.base xs))) m at (sym a ∙ l.answer) in
        let f = read_whole (rules_of S (length (drop st.base xs))) h.row.wide (two (state_of lent xs st).reference) bs start t o in
        omega (arith, there, f.inside, length-bits_of bytes, h.loading.size)

    pub row_kept : (m : Line) (at next : ℕ) → r ≡ Ok (m, at) → next ≡ aligned_if settings.rows_are_byte_aligned at → RowGives st.base xs (row_at settings bytes lent xs st start) (Ok (kept_row m.changes m.cut next st.eols)) ys
    row_kept m at next a n =
        let (t, o, same, there) = step-on settings.columns (lined (length (drop st.base xs))) m at (sym a ∙ l.answer) in
        gives (went t) o (Ok (kept_row m.changes m.cut next st.eols))
        (λ i. Ok (kept_row (same i).changes (mark-is settings.columns t m same i) ((n ∙ ap (aligned_if settings.rows_are_byte_aligned) there) i) st.eols)) refl

    pub row-stops : (f : Stop) → r ≡ Err f → RowGives st.base xs (row_at settings bytes lent xs st start) (Err (page_stop f.number f.place 0 f.line.changes)) ys
    row-stops f a =
        let (t, o, same) = step-stop settings.columns (lined (length (drop st.base xs))) f (sym a ∙ l.answer) in
        gives (failed f.number f.place t) o (Err (page_stop f.number f.place 0 f.line.changes)) (λ i. Err (page_stop f.number f.place 0 (same i).changes)) refl

-- ---- A row, behind the EOLs before it

module _ {bytes lent xs : List ℕ} {settings : DecodeSettings} {st : State} (h : RowFrom bytes lent xs settings st) (e : Eols) (q : eols_of e ≡ eols_before (settings_of settings) (bits_of bytes) (state_of [] [] st)) where
  abbrev outcome : RowOut
  outcome = row4 (settings_of settings) (bits_of bytes) (length xs - st.base) (state_of lent xs st)

  eols-loading : Loading bytes e.at
  eols-loading =
      let a = (eols-ahead (cond settings.end_of_block 2 (length (bits_of bytes))) (bits_of bytes) st.at).inside (omega (arith, h.loading.inside, length-bits_of bytes)) in
      record { size = h.loading.size; inside = omega (arith, ap (λ (e : Eol.Eols). e.at) q, length-bits_of bytes) }

  pub end-loading : e.at ≤ most_bits
  end-loading = omega (arith, eols-loading.inside, eols-loading.size)

  pub line-from : LineFrom bytes lent xs settings st e.at
  line-from = record { row = h; loading = eols-loading }

  outcome-is : (o : Bool) → o ≡ over (settings_of settings) (bits_of bytes) (state_of [] [] st) (eols_of e) → outcome ≡ line_or_end (settings_of settings) (bits_of bytes) (length xs - st.base) (state_of lent xs st) (eols_of e) o
  unfolding row4
  outcome-is o p =
      (λ i. line_or_end (settings_of settings) (bits_of bytes) (length xs - st.base) (state_of lent xs st) (sym q i) (over (settings_of settings) (bits_of bytes) (state_of lent xs st) (sym q i)))
      ∙ ap (line_or_end (settings_of settings) (bits_of bytes) (length xs - st.base) (state_of lent xs st) (eols_of e)) (sym p)

  pub row_ends : true ≡ over (settings_of settings) (bits_of bytes) (state_of [] [] st) (eols_of e) → (r : Row) → r ≡ row_for (finished e.at) → RowGives st.base xs outcome r xs
  row_ends p r a = subst (λ (o : RowOut). RowGives st.base xs o r xs) (sym (outcome-is true p)) (gives-stop st.base xs 0 0 _ r a)

  -- the page goes on with the line behind them
  pub row-lined : false ≡ over (settings_of settings) (bits_of bytes) (state_of [] [] st) (eols_of e) → (r : Row) (ys : List ℕ) → RowGives st.base xs (row_at settings bytes lent xs st e.at) r ys → RowGives st.base xs outcome r ys
  row-lined p r ys g = subst (λ (o : RowOut). RowGives st.base xs o r ys) (sym (outcome-is false p)) g
