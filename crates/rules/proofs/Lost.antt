-- A lenient Group 3 page is answered with 1, 2 or 3 only where no EOLs are expected: none were from the start, or they were given up, in a row that is kept or in the one that fails. Elsewhere
-- a line that fails is recovered. Assumes nothing.
use mathlib.Core.Path.{◌≡◌, refl, sym, ap, ◌∙◌, subst}
use mathlib.Core.Bool.{Bool, true, false, not, ◌&&◌, ◌||◌}
use mathlib.Core.Logic.{◌⊎◌, inl, inr, ⊎_elim}
use mathlib.Core.List.{List}
use mathlib.Core.Option.{Option, none, some}
use Prim.Native.Nat.{ℕ, zero, suc, ◌+◌, ◌-◌, ◌≤◌, ◌<◌}
use native.Mathlib.Omega.{arith}
use lib.Dec.{eqb, leb, ltb}
use lib.ListN.{length}
use borrow.Author.Tests.{ne_eqb, leb-false, ltb-false}
use Rattle.rules.specs.Machine.{Out, more, done, and_then, run}
use Rattle.rules.specs.Bits.{bits_of}
use Rattle.rules.specs.Lines.{Rules, Line, Went, went, failed, push}
use Rattle.rules.specs.Eols.{Eols, eols_to, all_eols, skip_to_eol}
use Rattle.rules.specs.Rows.{Encoding, group4, group3_1_d, group3_2_d, Settings, State, page_start, recovered_mark, RowOut, row, stop, rules_of, aligned_if}
use Rattle.rules.specs.Group3.{Tagging, untagged, tagged, eols3, Before, at_line, at_end, at_no_eol, searched, missing, check_eob, before, kept, whitened, recovered, after_line3, row3}
use Rattle.rules.specs.Pages.{Answer, Kept, none_kept, with_row, entries, page_step, row_of, read_page, strict_if_exact, unless_short, most_bytes, decode}
use Rattle.rules.specs.Standing.{NoEols, has_given_up}
use Rattle.rules.proofs.Eols.{Ahead, eols3-ahead}
use Rattle.rules.proofs.Budget.{Bytes, whole-bytes, judged-cases, eob-cases, from-here}
use Rattle.rules.proofs.Rows.{row3-cases}
use Rattle.rules.proofs.UntouchedMended.{given}
use Rattle.rules.proofs.Untouched.{Keeps, neither}
use Rattle.rules.proofs.Pages.{page-cases, Held}
use Rattle.rules.proofs.Standing.{kept-counted}
use Rattle.rules.proofs.Answers.{short-cases, short-rows, decode-reads}
use Rattle.rules.proofs.GivenUp.{none-gave-stays}
use Rattle.rules.proofs.Blamed.{From, fits-from, Last, page-last, ended-rows}

module _ (S : Settings) (lenient : S.strict ≡ false) (t : Tagging) (bs : List Bool) (st : State) where
  -- where none are expected before a line, none were behind the row before it, or none is left
  abbrev Lost : Before S t bs → Type 0
  Lost (at_line at true) = Unit {0}
  Lost (at_line at false) = (st.eols ≡ false) ⊎ (skip_to_eol bs st.at ≡ none)
  Lost (at_end at) = Unit {0}
  Lost (at_no_eol at) = ⊥

  searched-lost : (o : Option ℕ) → skip_to_eol bs st.at ≡ o → Lost (searched S t bs st.at o)
  searched-lost (some a) e = judged-cases S t bs st false true (eols3 bs t a) Lost tt (λ d l. tt)
  searched-lost none e = judged-cases S t bs st false false (eols_to 0 st.at) Lost tt (λ d l. inr e)

  eob-lost : (rows_done : Bool) (e : Eols) → Ahead bs (aligned_if (S.aligned && not st.eols) st.at) e → Lost (check_eob S t bs st rows_done e)
  eob-lost rows_done e a = eob-cases S t bs st rows_done e Lost (λ q z l. lacks q z) tt (λ l q ne. tt) (λ l q. inl q)
    where
      lacks : st.eols ≡ true → e.count ≡ 0 → Lost (missing S t bs S.strict e.at)
      lacks q z =
          subst (λ (b : Bool). Lost (missing S t bs b e.at)) (sym lenient)
          (subst (λ (i : ℕ). Lost (searched S t bs i (skip_to_eol bs i))) (sym (a.none_read z ∙ from-here S t bs st q)) (searched-lost (skip_to_eol bs st.at) refl))

  before-lost : (st.count ≡ 0 → ⊥) → (at : ℕ) → before S t bs st (eqb st.count 0) ≡ at_line at false → (st.eols ≡ false) ⊎ (skip_to_eol bs st.at ≡ none)
  before-lost later at e =
      subst Lost (ap (before S t bs st) (sym (ne_eqb st.count 0 later)) ∙ e)
      (eob-lost (eqb st.count S.rows) (eols3 bs t (aligned_if (S.aligned && not st.eols) st.at)) (eols3-ahead bs t (aligned_if (S.aligned && not st.eols) st.at)))

  -- no EOL is missed
  never-missed : (b : Bool) (at : ℕ) → before S t bs st b ≡ at_no_eol at → ⊥
  never-missed true at e = let y : ◌≡◌ {A = ℕ} 0 1 = cc in omega arith
  never-missed false at e =
      subst Lost e (eob-lost (eqb st.count S.rows) (eols3 bs t (aligned_if (S.aligned && not st.eols) st.at)) (eols3-ahead bs t (aligned_if (S.aligned && not st.eols) st.at)))

  -- A row that ends the page with 1, 2 or 3 began where none are expected.
  abbrev Bare : RowOut → Type 0
  Bare (row r mark next) = Unit {0}
  Bare (stop n place b loose) = 1 ≤ n → n ≤ 3 → (at : ℕ) × (before S t bs st (eqb st.count 0) ≡ at_line at false)

  row3-bare : (room : ℕ) → Bare (row3 S t bs room st)
  row3-bare room =
      row3-cases S t bs room st Bare (λ at q i j. absurd (omega arith)) (λ at q i j. absurd (never-missed (eqb st.count 0) at q)) (λ at expected q w m. cases at expected q w)
    where
      R : Rules
      R = rules_of S room

      -- what is recovered fails with 4 alone
      mends : (at : ℕ) (l : Line) (w : Went) → ((a : ℕ) → From a w) → Bare (kept S t bs st true at recovered_mark w)
      mends at l (went u) f = tt
      mends at l (failed n p u) f = λ i j. absurd (let h = f (suc p) j in omega arith)

      cases : (at : ℕ) (expected : Bool) → before S t bs st (eqb st.count 0) ≡ at_line at expected → (w : Went) → Bare (after_line3 S t bs R st at expected w)
      cases at expected q (went l) = tt
      cases at false q (failed n p l) = λ i j. (at, q)
      cases at true q (failed n p l) = subst (λ (b : Bool). Bare (recovered S t bs R st at true n p l (not b && leb n 3))) (sym lenient) (tests (leb n 3) refl)
        where
          tests : (b : Bool) → leb n 3 ≡ b → Bare (recovered S t bs R st at true n p l b)
          tests true e = mends at l (push R 0 (R.width - l.position) (whitened S t bs l)) (λ a. fits-from R bs a (whitened S t bs l))
          tests false e = λ i j. absurd (omega (arith, leb-false n 3 e))

-- ---- A page

module _ (S : Settings) (wide : 0 < S.columns) (bs : List Bool) (bytes : Bytes bs) (store places : ℕ) (lenient : S.strict ≡ false) (group3 : S.encoding ≡ group4 → ⊥) where
  -- whether they are expected behind the first row
  abbrev leads : Bool
  leads = ltb 0 (all_eols bs 0).count || S.end_of_line

  no-eols : leads ≡ false → NoEols S bs
  no-eols e = let f = neither (ltb 0 (all_eols bs 0).count) S.end_of_line e in record { none_leads = omega (arith, ltb-false 0 (all_eols bs 0).count f.0); never_asked = f.1 }

  -- what a row that ends the page with 1, 2 or 3 tells: of a page's first, and of a later one
  abbrev Tells : State → Type 0
  Tells st = (st ≡ page_start → leads ≡ false) × ((st.count ≡ 0 → ⊥) → (st.eols ≡ false) ⊎ (skip_to_eol bs st.at ≡ none))

  row3-tells : (t : Tagging) (room : ℕ) (st : State) (n p b : ℕ) (loose : List ℕ) → row3 S t bs room st ≡ stop n p b loose → 1 ≤ n → n ≤ 3 → Tells st
  row3-tells t room st n p b loose e i j =
      let (at, f) = subst (Bare S lenient t bs st) e (row3-bare S lenient t bs st room) i j in (
        λ z.
            let g : before S t bs page_start true ≡ at_line at false = ap (λ (s : State). before S t bs s (eqb s.count 0)) (sym z) ∙ f in
            let x : leads ≡ false = cc in
            x,
        λ later. before-lost S lenient t bs st later at f,
      )

  row-tells : (enc : Encoding) → (enc ≡ group4 → ⊥) → (room : ℕ) (st : State) (n p b : ℕ) (loose : List ℕ) → row_of enc S bs room st ≡ stop n p b loose → 1 ≤ n → n ≤ 3 → Tells st
  unfolding row_of
  row-tells group4 g room st n p b loose e i j = absurd (g refl)
  row-tells group3_1_d g room st n p b loose e i j = row3-tells untagged room st n p b loose e i j
  row-tells group3_2_d g room st n p b loose e i j = row3-tells tagged room st n p b loose e i j

  -- the first row
  row3-leads : (t : Tagging) (room : ℕ) (r : List ℕ) (mark : ℕ) (next : State) → row3 S t bs room page_start ≡ row r mark next → next.eols ≡ leads
  row3-leads t room r mark next e =
      let g = given S t wide bs room page_start r mark next e in
      let y : before S t bs page_start true ≡ at_line g.start g.expected = g.begins in
      let x : leads ≡ g.expected = cc in
      g.eols ∙ sym x

  row-leads : (enc : Encoding) → (enc ≡ group4 → ⊥) → (room : ℕ) (r : List ℕ) (mark : ℕ) (next : State) → row_of enc S bs room page_start ≡ row r mark next → next.eols ≡ leads
  unfolding row_of
  row-leads group4 g room r mark next e = absurd (g refl)
  row-leads group3_1_d g room r mark next e = row3-leads untagged room r mark next e
  row-leads group3_2_d g room r mark next e = row3-leads tagged room r mark next e

  abbrev step : Kept → Out Kept Answer
  step = page_step (row_of S.encoding S bs) store places

  -- the step that ends a page
  ends-tells : (k : Kept) (a : Answer) → step k ≡ done a → 1 ≤ a.number → a.number ≤ 3 → Tells k.state
  ends-tells k a =
      page-cases S.encoding S wide bs bytes store places k (λ o. o ≡ done a → 1 ≤ a.number → a.number ≤ 3 → Tells k.state)
      (λ r mark next e l q. absurd (let z : ◌≡◌ {A = ℕ} 0 1 = cc in omega arith))
      (λ r mark next e l q i j. absurd (let z : 5 ≡ a.number = cc in omega arith))
      (λ n p b loose e q i j. let y : n ≡ a.number = cc in row-tells S.encoding group3 (store - entries k.rows) k.state n p b loose e (omega arith) (omega arith))

  -- no EOLs are expected; or they are given up in one of the rows before; or none is left behind the last
  abbrev Gone : Kept → Type 0
  Gone k = (leads ≡ false) ⊎ ((0 < length k.rows) × (((f : Kept) → step none_kept ≡ more f → Keeps f.state k.state) → ⊥)) ⊎ (skip_to_eol bs k.state.at ≡ none)

  gone : (n : ℕ) (k : Kept) (a : Answer) → run step n none_kept ≡ more k → Held S.encoding S wide bs bytes store places k → step k ≡ done a → 1 ≤ a.number → a.number ≤ 3 → Gone k
  unfolding run
  gone zero k a q h e i j =
      let y : none_kept ≡ k = cc in
      inl ((ends-tells k a e i j).0 (ap (λ (x : Kept). x.state) (sym y)))
  gone (suc n) k a q h e i j = ⊎_elim (λ x. tests leads refl x) (λ x. inr (inr x)) ((ends-tells k a e i j).1 (λ z. omega (arith, h.counted, z, many)))
    where
      many : 0 < length k.rows
      many = omega (arith, (kept-counted S.encoding S wide bs bytes store places (suc n) none_kept k q).0)

      first : (f : Kept) → step none_kept ≡ more f → f.state.eols ≡ leads
      first f =
          page-cases S.encoding S wide bs bytes store places none_kept (λ o. o ≡ more f → f.state.eols ≡ leads)
          (λ r mark next e l q. let y : with_row none_kept r mark next ≡ f = cc in ap (λ (x : Kept). x.state.eols) (sym y) ∙ row-leads S.encoding group3 (store - entries none_kept.rows) r mark next e)
          (λ r mark next e l q. absurd (let z : ◌≡◌ {A = ℕ} 0 1 = cc in omega arith))
          (λ m place b loose e q. absurd (let z : ◌≡◌ {A = ℕ} 0 1 = cc in omega arith))

      one : (f : Kept) × (step none_kept ≡ more f)
      one =
          page-cases S.encoding S wide bs bytes store places none_kept (λ o. and_then o (run step n) ≡ more k → (f : Kept) × (o ≡ more f))
          (λ r mark next e l q. (with_row none_kept r mark next, refl))
          (λ r mark next e l q. absurd (let z : ◌≡◌ {A = ℕ} 0 1 = cc in omega arith))
          (λ m place b loose e q. absurd (let z : ◌≡◌ {A = ℕ} 0 1 = cc in omega arith)) q

      tests : (b : Bool) → leads ≡ b → k.state.eols ≡ false → Gone k
      tests false e x = inl e
      tests true e x = inr (inl (many, λ keeps. let z : true ≡ false = sym (keeps one.0 one.1 (first one.0 one.1 ∙ e)) ∙ x in let y : ◌≡◌ {A = ℕ} 0 1 = cc in omega arith))

-- of the page in bytes
pub decode-lost : (S : Settings) → 0 < S.columns → S.columns < 4294967295 → (bytes : List ℕ) → length bytes ≤ most_bytes → (store places : ℕ)
    → (strict_if_exact S).strict ≡ false → (S.encoding ≡ group4 → ⊥) → 1 ≤ (decode S bytes store places).number → (decode S bytes store places).number ≤ 3
    → NoEols S (bits_of bytes) ⊎ (has_given_up S bytes store places ≡ true)
    ⊎ ((k : Kept) × (run (page_step (row_of S.encoding (strict_if_exact S) (bits_of bytes)) store places) (length (decode S bytes store places).rows) none_kept ≡ more k) × (skip_to_eol (bits_of bytes) k.state.at ≡ none))
decode-lost S wide narrow bytes small store places lenient group3 i j =
    ⊎_elim (λ e. let b = no-eols T wide bs w store places lenient group3 e in inl (record { none_leads = b.none_leads; never_asked = b.never_asked }))
    (⊎_elim (λ lost. inr (inl (tests (has_given_up S bytes store places) refl lost.0 lost.1))) (λ e. inr (inr (k, subst (λ (n : ℕ). run (page_step (row_of S.encoding T bs) store places) n none_kept ≡ more k) (sym many) l.before-it, e))))
    (gone T wide bs w store places lenient group3 l.rows-read k (read_page T bs store places) l.before-it l.held_then l.ended-it (omega (arith, i, number)) (omega (arith, j, number)))
  where
    T : Settings
    T = strict_if_exact S

    bs : List Bool
    bs = bits_of bytes

    w : Bytes bs
    w = whole-bytes bytes

    l : Last T wide bs w store places none_kept (read_page T bs store places)
    l = page-last T wide bs w store places

    k : Kept
    k = l.kept_then

    reads : decode S bytes store places ≡ unless_short S (read_page T bs store places)
    reads = decode-reads S wide narrow bytes small store places

    number : (decode S bytes store places).number ≡ (read_page T bs store places).number
    number =
        ap (λ (a : Answer). a.number) reads
        ∙ short-cases S (read_page T bs store places) (λ a. a.number ≤ 3 → a.number ≡ (read_page T bs store places).number) (λ s h. absurd (omega arith)) (λ s h. refl) (omega (arith, j, ap (λ (a : Answer). a.number) reads))

    many : length (decode S bytes store places).rows ≡ l.rows-read
    many =
        ap (λ (a : Answer). length a.rows) reads ∙ ap length (short-rows S (read_page T bs store places) ∙ (ended-rows T wide bs w store places k (read_page T bs store places) l.ended-it).0)
        ∙ (kept-counted S.encoding T wide bs w store places l.rows-read none_kept k l.before-it).0 ∙ (let q : 0 + l.rows-read ≡ l.rows-read = omega arith in q)

    Stays : Type 0
    Stays = (f : Kept) → page_step (row_of S.encoding T bs) store places none_kept ≡ more f → Keeps f.state k.state

    stays : has_given_up S bytes store places ≡ false → 0 < length k.rows → (n : ℕ) → n ≤ length (decode S bytes store places).rows → run (page_step (row_of S.encoding T bs) store places) n none_kept ≡ more k → Stays
    stays e pos zero le q = absurd (omega (arith, pos, (kept-counted S.encoding T wide bs w store places 0 none_kept k q).0))
    stays e pos (suc n) le q = none-gave-stays S wide bytes store places e n k le q

    tests : (b : Bool) → has_given_up S bytes store places ≡ b → 0 < length k.rows → (Stays → ⊥) → has_given_up S bytes store places ≡ true
    tests true e pos lost = e
    tests false e pos lost = absurd (lost (stays e pos l.rows-read (omega (arith, many)) l.before-it))
