-- Where the data was cut no EOL is left and no line is read: the next row is mended, or the page ends; behind a mended row it ends. Assumes nothing.
use mathlib.Core.Path.{◌≡◌, refl, sym, ap, ◌∙◌, subst}
use mathlib.Core.Bool.{Bool, true, false, cond, not, ◌&&◌, ◌||◌, and-false, true≢false}
use mathlib.Core.List.{List, [], ◌++◌, append_assoc}
use mathlib.Core.Logic.{◌⊎◌, inl, inr, ⊎_elim}
use mathlib.Core.Option.{none, some}
use Prim.Native.Nat.{ℕ, zero, suc, ◌+◌, ◌-◌, ◌≤◌, ◌<◌}
use native.Mathlib.Omega.{arith}
use lib.Dec.{eqb, leb}
use lib.ListN.{length, drop, length-drop}
use borrow.Author.Tests.{leb-true, ne_eqb}
use Rattle.rules.specs.Lines.{Rules, Line, Went, went, failed, one, read_line}
use Rattle.rules.specs.Eols.{zero_run, eols_to, all_eols, skip_to_eol}
use Rattle.rules.specs.Group3.{untagged, Before, at_line, at_end, searched, missing, checked, check_eob, before, kept, whitened, after_line3, row_from, row3}
use Rattle.rules.specs.Rows.{Settings, State, recovered_mark, RowOut, row, stop, rules_of}
use Rattle.rules.specs.Write.{eol_bits}
use Rattle.rules.specs.WriteGroup3.{times}
use Rattle.rules.proofs.Lines.{data-bound, read-broken, push-pushes, Each, Pushes, PushFails}
use Rattle.rules.proofs.Eols.{zeros-inside}
use Rattle.rules.proofs.Rows.{mended-cases}
use Rattle.rules.proofs.PageBack.{eol-zeros}
use Rattle.rules.proofs.CutPage.{zeros-cut, bits-cut}
use Rattle.rules.proofs.EolChains.{none-quiet, Chain, no_more, eol-then, fill-after}
use Rattle.rules.proofs.Group3Back.{from}
use Rattle.rules.proofs.NoLine.{Bare, bare-quiet, bare-skip}

-- ---- Where no line is read any more

module _ (S : Settings) (wide : 0 < S.columns) (bs : List Bool) where
  -- no line is read from a bit, whatever room there is
  abbrev pub Unread : ℕ → Type 0
  Unread at = (room : ℕ) (l : Line) → read_line (rules_of S room) one bs at ≡ went l → ⊥

  -- a row was read, EOLs are expected, and from here on there is no EOL and no line
  pub record Lost (st : State) : Type 0 where
    pub bare : Bare bs st.at
    pub unread : Unread st.at
    pub expected : st.eols ≡ true
    pub some_read : 0 < st.count

  abbrev R : ℕ → Rules
  R room = rules_of S room

  -- the row of such a line is mended, or its fault is the answer
  pub unread-row : (room : ℕ) (st : State) (at : ℕ) (expected : Bool) → at ≤ length bs → Unread at → (C : RowOut → Type 0)
      → ((n place : ℕ) (loose : List ℕ) → 1 ≤ n → C (stop n place 0 loose))
      → (expected ≡ true → (x : List ℕ) → C (row x recovered_mark (record { at = at; reference = x; count = suc st.count; eols = expected })))
      → C (after_line3 S untagged bs (R room) st at expected (read_line (R room) one bs at))
  unread-row room st at expected inside unread C stops mends = cases (read_line (R room) one bs at) refl
    where
      cases : (v : Went) → read_line (R room) one bs at ≡ v → C (after_line3 S untagged bs (R room) st at expected v)
      cases (went l) q = absurd (unread room l q)
      cases (failed n place l) q =
          mended-cases S untagged bs (R room) st at expected n place l C
          (λ e _ _ w p. pushed e w (subst (Each (Pushes (R room) 0 0 _) (PushFails (R room) 0 0 _)) p (push-pushes (R room) 0 0 0 (S.columns - l.position) (whitened S untagged bs l))))
          (stops n place l.changes (read-broken (R room) wide one bs at (length bs) (data-bound bs) inside n place l q).numbered.0)
        where
          pushed : expected ≡ true → (w : Went) → Each (Pushes (R room) 0 0 (whitened S untagged bs l)) (PushFails (R room) 0 0 (whitened S untagged bs l)) w
              → C (kept S untagged bs st expected at recovered_mark w)
          pushed e (went v) f = mends e v.changes
          pushed e (failed m p v) f = stops m p v.changes f.0

  -- the page ends there: at the rows' number or at the end of the data, or with a fault
  pub lost-row : (room : ℕ) (st : State) → Lost st → st.at ≤ length bs → (C : RowOut → Type 0)
      → ((eqb st.count S.rows ≡ true) ⊎ (length bs ≤ st.at) → (bytes : ℕ) → C (stop 0 0 bytes []))
      → ((n place : ℕ) (loose : List ℕ) → 1 ≤ n → C (stop n place 0 loose))
      → C (row3 S untagged bs room st)
  unfolding row3
  lost-row room st h inside C ends-here stops =
      subst (λ (b : Before S untagged bs). C (row_from S untagged bs room st b)) (sym is) (tests (eqb st.count S.rows) refl (leb (length bs) a) refl)
    where
      a : ℕ
      a = st.at

      from-here : from S untagged bs st ≡ a
      from-here = rw (h.expected, and-false S.aligned)

      is : before S untagged bs st (eqb st.count 0) ≡ checked S untagged bs (eqb st.count S.rows) st (eols_to 0 a) (not (eqb st.count S.rows || leb (length bs) a))
      is =
          ap (before S untagged bs st) (ne_eqb st.count 0 (λ z. omega (arith, h.some_read)))
          ∙ ap (check_eob S untagged bs st (eqb st.count S.rows)) (ap (all_eols bs) from-here ∙ bare-quiet bs a h.bare (length bs))
          ∙ ap (λ (b : Bool). checked S untagged bs (eqb st.count S.rows) st (eols_to 0 a) (b && not (eqb st.count S.rows || leb (length bs) a))) h.expected

      ended : (b : Bool) → b ≡ true → (eqb st.count S.rows ≡ true) ⊎ (length bs ≤ a)
          → C (row_from S untagged bs room st (cond ((S.end_of_block && false) || b) (at_end a) (at_line a st.eols)))
      ended b q w = rw (and-false S.end_of_block, q) (ends-here w _)

      searches : (strict : Bool) → leb (length bs) a ≡ false → C (row_from S untagged bs room st (missing S untagged bs strict a))
      searches true f = stops 1 a [] (omega arith)
      searches false f =
          let none_left : searched S untagged bs a (skip_to_eol bs a) ≡ at_line a false = ap (searched S untagged bs a) (bare-skip bs a h.bare) ∙ rw (and-false S.end_of_block, f) in
          subst (λ (b : Before S untagged bs). C (row_from S untagged bs room st b)) (sym none_left) (unread-row room st a false inside h.unread C stops (λ z. absurd (true≢false (sym z))))

      tests : (d : Bool) → eqb st.count S.rows ≡ d → (e : Bool) → leb (length bs) a ≡ e → C (row_from S untagged bs room st (checked S untagged bs d st (eols_to 0 a) (not (d || e))))
      tests true q e f = ended true refl (inl q)
      tests false q true f = ended (leb (length bs) a) f (inr (leb-true (length bs) a f))
      tests false q false f = searches S.strict f

-- ---- EOLs that are cut

-- EOLs from a bit on, and zeros behind them to the end of the data
abbrev pub ToZeros : List Bool → ℕ → Type 0
ToZeros bs at = (c : ℕ) × (e : ℕ) × Chain bs c at e × (zero_run (drop e bs) ≡ none) × (e ≤ length bs)

-- so many EOLs and zeros, cut
pub eols-cut : (all bs cut : List Bool) → bs ++ cut ≡ all → (j at : ℕ) (rest : List Bool) → at ≤ length bs → drop at all ≡ times j eol_bits ++ rest → zero_run rest ≡ none
    → ToZeros bs at
unfolding times
eols-cut all bs cut first zero at rest inside e q =
    let z : zero_run (drop at bs) ≡ none = ⊎_elim (λ f. f) (λ f. f ∙ ap zero_run (bits-cut all bs cut first at inside ∙ e) ∙ q) (zeros-cut (drop at bs) cut) in
    (0, at, no_more (none-quiet bs at z), z, inside)
eols-cut all bs cut first (suc j) at rest inside e q =
    ⊎_elim none-whole (one-whole (λ h. eols-cut all bs cut first j (at + 12) rest h (fill-after all 0 at (times j eol_bits ++ rest) there) q)) (zeros-cut (drop at bs) cut)
  where
    there : drop at all ≡ eol_bits ++ (times j eol_bits ++ rest)
    there = e ∙ append_assoc eol_bits (times j eol_bits) rest

    none-whole : zero_run (drop at bs) ≡ none → ToZeros bs at
    none-whole z = (0, at, no_more (none-quiet bs at z), z, inside)

    one-whole : (at + 12 ≤ length bs → ToZeros bs (at + 12)) → zero_run (drop at bs) ≡ zero_run (drop at bs ++ cut) → ToZeros bs at
    one-whole later f =
        let z : zero_run (drop at bs) ≡ some 11 = f ∙ ap zero_run (bits-cut all bs cut first at inside ∙ there) ∙ eol-zeros (times j eol_bits ++ rest) in
        let r = later (omega (arith, zeros-inside (drop at bs) 11 z, length-drop at bs)) in
        (suc r.0, r.1, eol-then (record { zeros = 11; run = z; many = omega arith }) r.2, r.3, r.4)
