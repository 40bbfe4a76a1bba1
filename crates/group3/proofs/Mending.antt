-- A damaged line, mended or not, in the store. Assumes nothing.
use mathlib.Core.Path.{◌≡◌, refl, sym, ap, ◌∙◌, subst}
use mathlib.Core.Bool.{Bool, true, false, cond, not, ◌&&◌}
use mathlib.Core.List.{List, ◌++◌}
use Prim.Native.Nat.{ℕ, ◌-◌}
use native.Mathlib.Omega.{arith}
use lib.Dec.{eqb, leb}
use lib.ListN.{length, take, drop, length-drop}
use borrow.Rule.Slice.PartMut.{mid_of, put_mid}
use Rattle.std.specs.Prelude.{Ok, Err}
use Rattle.rules.specs.Bits.{bits_of}
use Rattle.rules.specs.Lines as Rule
use Rattle.rules.specs.Lines.{Rules, Went, went, failed, push}
use Rattle.rules.specs.Rows.{Settings, RowOut, recovered_mark, rules_of}
use Rattle.rules.specs.Group3.{kept, whitened, recovered}
use Rattle.rules.specs.Pages.{overlaid}
use Rattle.context.specs.declared.line.Line.{Line}
use Rattle.context.specs.declared.line.PushFault.{PushFault}
use Rattle.context.specs.State.{rules_for, changes_of, Holds, Push, Comes, Pushes}
use Rattle.context.proofs.Carried.{Carries, carries-push, push-place, push-on, push-stop}
use Rattle.context.proofs.RowPart.{row-lent, row_back, back-front, back-row}
use Rattle.settings.specs.declared.DecodeSettings.{DecodeSettings}
use Rattle.settings.specs.declared.State.{State}
use Rattle.settings.specs.Settings.{settings_of, tagging_of}
use Rattle.settings.specs.Between.{state_of, Row, kept_row, page_stop, row_for, changes_in, RowGives}
use Rattle.group3.specs.Lined.{lines_by}
use Rattle.group3.specs.Recovery.{white_for, after_line_in, Damages, Lies, Recovers}

-- ---- Whether it is mended

pub not-expected : (a b c : Bool) → a ≡ false → false ≡ ((a && b) && c)
not-expected a b c q = rw q

pub not-strict : (a s c : Bool) → s ≡ true → false ≡ ((a && not s) && c)
not-strict true s c q = rw q
not-strict false s c q = refl

pub by_number : (a s c : Bool) → a ≡ true → s ≡ false → c ≡ ((a && not s) && c)
by_number a s c p q = rw (p, q)

-- what is asked of the line is asked of it turned white
pub white-holds : {base : ℕ} {zs : List ℕ} {l : Line} → Damages base zs l → Holds (mid_of base (length zs - base) zs) (white_for l)
white-holds {base} {zs} h = rw (row-lent zs base) (record { narrow = h.holds.narrow; fits = h.holds.fits; held = h.holds.held; coloured = omega arith; flagged = h.holds.flagged })

module _ (settings : DecodeSettings) (st : State) (at : ℕ) (expected : Bool) (number place : ℕ) {l : Line} {zs : List ℕ} (h : Damages st.base zs l) where
  abbrev base : ℕ
  base = st.base

  -- the line of the rules, and the store as it was before
  module _ (bytes lent xs : List ℕ) (u : Rule.Line) (v : Lies st.base settings.columns xs u l zs) where
    abbrev S : Settings
    S = settings_of settings

    abbrev R : Rules
    R = rules_of S (length xs - base)

    abbrev outcome : Bool → RowOut
    outcome b = recovered S (tagging_of settings.encoding) (bits_of bytes) R (state_of lent xs st) at expected number place u b

    abbrev white : Rule.Line
    white = whitened S (tagging_of settings.encoding) (bits_of bytes) u

    left : ((expected && not settings.strict) && leb number 3) ≡ false → RowGives base xs (after_line_in settings bytes lent xs st at expected (failed number place u)) (Err (page_stop number place 0 l.changes)) zs
    left q = subst (λ (b : Bool). RowGives base xs (outcome b) (Err (page_stop number place 0 l.changes)) zs) (sym q) (record { answer = ap (λ (m : Line). Err (page_stop number place 0 m.changes)) v.line-is; store = v.store })

    row_is : drop base zs ≡ overlaid u.changes (drop base xs)
    row_is = ap (drop base) v.store ∙ back-row xs base v.inside (overlaid u.changes (drop base xs))

    front-is : take base zs ≡ take base xs
    front-is = ap (take base) v.store ∙ back-front xs base v.inside (overlaid u.changes (drop base xs))

    carries : Carries settings.columns (drop base xs) white (white_for l) (drop base zs)
    carries =
        let p : l.position ≡ u.position = ap (λ (m : Line). m.position) v.line-is in
        let n : l.width ≡ settings.columns = ap (λ (m : Line). m.width) v.line-is in
        record {
          line-is = ap white_for v.line-is;
          store = row_is;
          fits = omega (arith, h.holds.fits);
          roomy = omega (arith, v.roomy, length-drop base xs);
          narrow = omega (arith, h.holds.narrow);
        }

    -- the push of white to the width
    module _ (q : ((expected && not settings.strict) && leb number 3) ≡ true) (r : Push) (ys : List ℕ)
        (p : Pushes (mid_of base (length zs - base) zs) (white_for l) (l.width - l.position) settings.strict r ys) where
      pushed : Went
      pushed = push R 0 (settings.columns - u.position) white

      comes : Comes settings.columns (drop base xs) pushed r ys
      unfolding pushed
      comes =
          let n : l.width - l.position ≡ settings.columns - u.position = ap (λ (m : Line). m.width - m.position) v.line-is in
          let c = carries-push carries (lines_by settings) (l.width - l.position) r ys (rw (row-lent zs base) at p) u.at 0 in
          subst (λ (k : ℕ). Comes settings.columns (drop base xs) (push (rules_of S k) 0 (settings.columns - u.position) white) r ys) (length-drop base xs)
          (subst (λ (k : ℕ). Comes settings.columns (drop base xs) (push (rules_for settings.columns (lines_by settings) (drop base xs)) 0 k white) r ys) n c)

      ended : (o : Went) → pushed ≡ o → (a : Row) → a ≡ row_for (kept S (tagging_of settings.encoding) (bits_of bytes) (state_of lent xs st) expected at recovered_mark o)
          → changes_in (kept S (tagging_of settings.encoding) (bits_of bytes) (state_of lent xs st) expected at recovered_mark o) ≡ changes_of o
          → RowGives base xs (after_line_in settings bytes lent xs st at expected (failed number place u)) a (put_mid base (length zs - base) zs ys)
      unfolding pushed
      ended o e a k c =
          subst (λ (b : Bool). RowGives base xs (outcome b) a (put_mid base (length zs - base) zs ys)) (sym q)
          (subst (λ (o : Went). RowGives base xs (kept S (tagging_of settings.encoding) (bits_of bytes) (state_of lent xs st) expected at recovered_mark o) a (put_mid base (length zs - base) zs ys)) (sym e)
          (record {
            answer = k;
            store =
                row_back zs base h.inside ys
                ∙ (λ i. front-is i ++ (comes.store ∙ ap (λ (o : Went). overlaid (changes_of o) (drop base xs)) e ∙ ap (λ (x : List ℕ). overlaid x (drop base xs)) (sym c)) i);
          }))

      mended-on : (m : Line) → r ≡ Ok m → RowGives base xs (after_line_in settings bytes lent xs st at expected (failed number place u)) (Ok (kept_row m.changes recovered_mark at expected)) (put_mid base (length zs - base) zs ys)
      mended-on m e =
          let (t, o, same) = push-on settings.columns pushed m (sym e ∙ comes.answer) in
          ended (went t) o (Ok (kept_row m.changes recovered_mark at expected)) (ap (λ (m : Line). Ok (kept_row m.changes recovered_mark at expected)) same) refl

      mended-stop : (f : PushFault) → r ≡ Err f → RowGives base xs (after_line_in settings bytes lent xs st at expected (failed number place u)) (Err (page_stop f.number 0 0 f.line.changes)) (put_mid base (length zs - base) zs ys)
      unfolding pushed
      mended-stop f e =
          let (p, t, o, same) = push-stop settings.columns pushed f (sym e ∙ comes.answer) in
          let z : p ≡ 0 = push-place R 0 (settings.columns - u.position) white t f.number p o ∙ nowhere (eqb f.number 4) in
          ended (failed f.number p t) o (Err (page_stop f.number 0 0 f.line.changes)) (λ i. Err (page_stop f.number (sym z i) 0 (same i).changes)) refl
        where
          nowhere : (b : Bool) → ◌≡◌ {A = ℕ} (cond b 0 0) 0
          nowhere true = refl
          nowhere false = refl

  -- ---- Each way out

  pub recovers-left : false ≡ ((expected && not settings.strict) && leb number 3) → Recovers settings st at expected number place l zs (Err (page_stop number place 0 l.changes)) zs
  recovers-left q bytes lent xs u v = left bytes lent xs u v (sym q)

  module _ (q : true ≡ ((expected && not settings.strict) && leb number 3)) (r : Push) (ys : List ℕ)
      (p : Pushes (mid_of st.base (length zs - st.base) zs) (white_for l) (l.width - l.position) settings.strict r ys) where
    pub recovers-on : (m : Line) → r ≡ Ok m → Recovers settings st at expected number place l zs (Ok (kept_row m.changes recovered_mark at expected)) (put_mid st.base (length zs - st.base) zs ys)
    recovers-on m e bytes lent xs u v = mended-on bytes lent xs u v (sym q) r ys p m e

    pub recovers-stop : (f : PushFault) → r ≡ Err f → Recovers settings st at expected number place l zs (Err (page_stop f.number 0 0 f.line.changes)) (put_mid st.base (length zs - st.base) zs ys)
    recovers-stop f e bytes lent xs u v = mended-stop bytes lent xs u v (sym q) r ys p f e
