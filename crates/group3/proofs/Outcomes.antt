-- Each way in which a row comes out. Assumes nothing.
use mathlib.Core.Path.{◌≡◌, refl, sym, ap, ◌∙◌, subst}
use mathlib.Core.Bool.{Bool, true, false}
use mathlib.Core.List.{List, [], ◌++◌}
use Prim.Native.Nat.{ℕ, ◌-◌, ◌≤◌}
use native.Mathlib.Omega.{arith}
use lib.Dec.{eqb}
use lib.ListN.{length, take, drop, length-drop, length-append}
use lib.Seq.{length-take-le}
use Rattle.std.specs.Prelude.{Ok, Err}
use Rattle.rules.specs.Bits.{bits_of}
use Rattle.rules.specs.Lines as Rule
use Rattle.rules.specs.Lines.{Rules, Went, failed}
use Rattle.rules.specs.Rows as Page
use Rattle.rules.specs.Rows.{RowOut, rules_of, finished}
use Rattle.rules.specs.Group3.{Tagging, eols3, lacking, checked, before, row_from, row3}
use Rattle.rules.specs.Eols.{Eols}
use Rattle.rules.specs.Pages.{overlaid}
use Rattle.rules.proofs.Bits.{length-bits_of}
use Rattle.rules.proofs.Budget.{Sets, before-sets}
use Rattle.rules.proofs.Rows.{line3-damaged}
use Rattle.bit_reader.specs.Cursor.{most_bits}
use Rattle.context.specs.declared.line.Line.{Line}
use Rattle.context.specs.declared.step.Stop.{Stop}
use Rattle.context.specs.State.{line_for, changes_of}
use Rattle.context.specs.Coding.{StepsAt}
use Rattle.context.proofs.State.{mark-is}
use Rattle.context.proofs.Carried.{Carries, carries-holds, step-on, step-stop}
use Rattle.context.proofs.RowPart.{back-row}
use Rattle.context.specs.Outcome.{Step}
use Rattle.settings.specs.declared.DecodeSettings.{DecodeSettings}
use Rattle.settings.specs.declared.State.{State}
use Rattle.settings.specs.Settings.{settings_of, tagging_of}
use Rattle.settings.specs.Between.{state_of, Row, kept_row, page_stop, row_for, RowFrom, RowGives}
use Rattle.settings.proofs.Ended.{gives-stop}
use Rattle.group3.specs.declared.eob.Before.{Before}
use Rattle.group3.specs.declared.eob.Before.TheVariants.{Line as LineAt, End, NoEol}
use Rattle.group3.specs.Ahead.{aligned_from, before_of, before_in}
use Rattle.group3.specs.Lined.{LineFrom, line_in}
use Rattle.group3.specs.Recovery.{after_line_in, Damages, Lies, Recovers}
use Rattle.group3.proofs.Judging.{bytes_whole}

-- ---- A row whose line was read, or is damaged

module _ {bytes lent xs : List ℕ} {settings : DecodeSettings} {st : State} {at : ℕ} (h : LineFrom bytes lent xs settings st at) (expected : Bool)
    (r : Step) (zs : List ℕ) (s : StepsAt st.base settings.columns xs (line_in settings bytes lent xs st at) r zs) where
  abbrev base : ℕ
  base = st.base

  abbrev outcome : Went → RowOut
  outcome = after_line_in settings bytes lent xs st at expected

  pub line_read : (m : Line) (next : ℕ) → r ≡ Ok (m, next) → RowGives base xs (outcome (line_in settings bytes lent xs st at)) (Ok (kept_row m.changes m.cut next expected)) zs
  line_read m next e =
      let (t, o, same, there) = step-on settings.columns (line_in settings bytes lent xs st at) m next (sym e ∙ s.answer) in
      subst (λ (w : Went). RowGives base xs (outcome w) (Ok (kept_row m.changes m.cut next expected)) zs) (sym o)
      (record {
        answer = λ i. Ok (kept_row (same i).changes (mark-is settings.columns t m same i) (there i) expected);
        store = s.store ∙ ap (λ (w : Went). take base xs ++ overlaid (changes_of w) (drop base xs)) o;
      })

  module _ (f : Stop) (e : r ≡ Err f) where
    abbrev R : Rules
    R = rules_of (settings_of settings) (length xs - base)

    -- the line of the rules that failed, and where it lies
    lies : (u : Rule.Line) → line_in settings bytes lent xs st at ≡ failed f.number f.place u → f.line ≡ line_for settings.columns u → Lies base settings.columns xs u f.line zs × Damages base zs f.line
    lies u o same =
        let d = line3-damaged (settings_of settings) (tagging_of settings.encoding) (bits_of bytes) R h.row.wide (state_of lent xs st).reference at (omega (arith, h.loading.inside, length-bits_of bytes)) f.number f.place u o in
        let q : zs ≡ take base xs ++ overlaid u.changes (drop base xs) = s.store ∙ ap (λ (w : Went). take base xs ++ overlaid (changes_of w) (drop base xs)) o in
        let k : Carries settings.columns (drop base xs) u f.line (drop base zs) = record {
          line-is = same;
          store = ap (drop base) q ∙ back-row xs base h.row.held (overlaid u.changes (drop base xs));
          fits = d.line.fits;
          roomy = omega (arith, d.line.roomy, length-drop base xs);
          narrow = h.row.narrow;
        } in (
          record { inside = h.row.held; roomy = d.line.roomy; line-is = same; store = q },
          record { inside = omega (arith, ap length q, length-append (take base xs) (overlaid u.changes (drop base xs)), length-take-le base xs h.row.held); holds = carries-holds k },
        )

    pub line-damages : Damages base zs f.line
    line-damages = let (t, o, same) = step-stop settings.columns (line_in settings bytes lent xs st at) f (sym e ∙ s.answer) in (lies t o same).1

    pub line-recovers : (a : Row) (ys : List ℕ) → Recovers settings st at expected f.number f.place f.line zs a ys → RowGives base xs (outcome (line_in settings bytes lent xs st at)) a ys
    line-recovers a ys v =
        let (t, o, same) = step-stop settings.columns (line_in settings bytes lent xs st at) f (sym e ∙ s.answer) in
        subst (λ (w : Went). RowGives base xs (outcome w) a ys) (sym o) (v bytes lent xs t (lies t o same).0)

-- ---- A row, by what comes before it

module _ {bytes lent xs : List ℕ} {settings : DecodeSettings} {st : State} (h : RowFrom bytes lent xs settings st) (a : Before) (q : before_of settings bytes a ≡ before_in settings bytes st (eqb st.rows 0)) where
  abbrev S : Page.Settings
  S = settings_of settings

  abbrev t : Tagging
  t = tagging_of settings.encoding

  abbrev bs : List Bool
  bs = bits_of bytes

  abbrev room : ℕ
  room = length xs - st.base

  -- the reference has no part in what comes before
  any-reference : (first : Bool) → before_in settings bytes st first ≡ before S t bs (state_of lent xs st) first
  any-reference true = refl
  any-reference false = cases (lacking S t bs rows_done (state_of [] [] st) eols)
    where
      rows_done : Bool
      rows_done = eqb st.rows S.rows

      eols : Eols
      eols = eols3 bs t (aligned_from settings st)

      cases : (b : Bool) → checked S t bs rows_done (state_of [] [] st) eols b ≡ checked S t bs rows_done (state_of lent xs st) eols b
      cases true = refl
      cases false = refl

  before-is : before_of settings bytes a ≡ before S t bs (state_of lent xs st) (eqb st.rows 0)
  before-is = q ∙ any-reference (eqb st.rows 0)

  outcome-is : row3 S t bs room (state_of lent xs st) ≡ row_from S t bs room (state_of lent xs st) (before_of settings bytes a)
  unfolding row3
  outcome-is = ap (row_from S t bs room (state_of lent xs st)) (sym before-is)

  inside : st.at ≤ length bs
  inside = omega (arith, h.loading.inside, length-bits_of bytes)

  sets : Sets S t bs (bytes_whole bytes) (state_of lent xs st) (before_of settings bytes a)
  sets = subst (Sets S t bs (bytes_whole bytes) (state_of lent xs st)) (sym before-is) (before-sets S t bs (bytes_whole bytes) (state_of lent xs st))

  gives : (c : Before) → a ≡ c → (r : Row) (ys : List ℕ) → RowGives st.base xs (row_from S t bs room (state_of lent xs st) (before_of settings bytes c)) r ys → RowGives st.base xs (row3 S t bs room (state_of lent xs st)) r ys
  gives c e r ys g = subst (λ (o : RowOut). RowGives st.base xs o r ys) (sym (outcome-is ∙ ap (λ (c : Before). row_from S t bs room (state_of lent xs st) (before_of settings bytes c)) e)) g

  module _ (at : ℕ) where
    pub end-inside : a ≡ End at → at ≤ most_bits
    end-inside e = omega (arith, subst (λ (c : Before). Sets S t bs (bytes_whole bytes) (state_of lent xs st) (before_of settings bytes c)) e sets inside, length-bits_of bytes, h.loading.size)

    pub row_ends : a ≡ End at → (r : Row) → r ≡ row_for (finished at) → RowGives st.base xs (row3 S t bs room (state_of lent xs st)) r xs
    row_ends e r p = gives (End at) e r xs (gives-stop st.base xs 0 0 _ r p)

    pub row-lacks : a ≡ NoEol at → RowGives st.base xs (row3 S t bs room (state_of lent xs st)) (Err (page_stop 1 at 0 0)) xs
    row-lacks e = gives (NoEol at) e (Err (page_stop 1 at 0 0)) xs (gives-stop st.base xs 1 at 0 (Err (page_stop 1 at 0 0)) refl)

    module _ (expected : Bool) (e : a ≡ LineAt at expected) where
      pub row_line : LineFrom bytes lent xs settings st at
      row_line = record {
        row = h;
        loading = record {
          size = h.loading.size;
          inside = omega (arith, (subst (λ (c : Before). Sets S t bs (bytes_whole bytes) (state_of lent xs st) (before_of settings bytes c)) e sets).inside inside, length-bits_of bytes);
        };
      }

      pub row_gives : (r : Row) (ys : List ℕ) → RowGives st.base xs (after_line_in settings bytes lent xs st at expected (line_in settings bytes lent xs st at)) r ys → RowGives st.base xs (row3 S t bs room (state_of lent xs st)) r ys
      row_gives r ys g = gives (LineAt at expected) e r ys g
