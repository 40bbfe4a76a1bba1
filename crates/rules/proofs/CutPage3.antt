-- A 1D page with EOLs that is cut, after any byte (02 A13, carried on): it gives its own first rows, and the row in which the cut fell is marked, or the answer says so, unless the cut fell
-- between two lines. Assumes nothing.
use mathlib.Core.Path.{◌≡◌, refl, sym, ap, ◌∙◌, subst}
use mathlib.Core.Bool.{Bool, true, false, cond}
use mathlib.Core.List.{List, [], ◌∷◌, ◌++◌}
use mathlib.Core.Logic.{◌⊎◌}
use mathlib.Core.Option.{none}
use Prim.Native.Nat.{ℕ, zero, suc, ◌-◌, ◌≤◌, ◌<◌}
use native.Mathlib.Omega.{arith}
use lib.Dec.{ltb}
use lib.ListN.{length}
use Rattle.rules.specs.Machine.{Out, more, done, and_then, run, ends}
use Rattle.rules.specs.Bits.{bits_of}
use Rattle.rules.specs.Eols.{zero_run}
use Rattle.rules.specs.Group3.{untagged, row3}
use Rattle.rules.specs.Rows.{group3_1_d, Settings, State, recovered_mark, RowOut}
use Rattle.rules.specs.Pages.{Answer, Kept, none_kept, with_row, end_with, entries, keep_row, page_step, row_of, rows_left, page_of, read_page, strict_if_exact, most_bytes, decode}
use Rattle.rules.specs.WriteGroup3.{filled, page3_bits}
use Rattle.rules.specs.Damage.{owns, arrived_page, up_to, all_clean}
use Rattle.rules.specs.Cut.{BetweenLines, CutBefore, CutTold, first_rows, marked}
use Rattle.rules.proofs.Machine.{ends-stops}
use Rattle.rules.proofs.Budget.{Bytes, whole-bytes}
use Rattle.rules.proofs.Pages.{page-falls}
use Rattle.rules.proofs.Answers.{short-cases, Refuses, too_wide, too_long, without_columns, decode-cases}
use Rattle.rules.specs.Rising.{Rows}
use Rattle.rules.proofs.Group3Back.{rows_are}
use Rattle.rules.proofs.BadLines.{front}
use Rattle.rules.proofs.OneBadLine.{own-page}
use Rattle.rules.proofs.LostRow.{Lost, lost-row}
use Rattle.rules.proofs.CutRow3.{At, cut-row, clean-snoc}

module _ (S : Settings) (wide : 0 < S.columns) (narrow : S.columns ≤ 4294967295) (fill : ℕ)
    (rows : List (List ℕ)) (some-rows : 0 < length rows) (counted : (S.rows ≡ 0) ⊎ (S.rows ≡ length rows))
    (all bs cut : List Bool) (first-bits : bs ++ cut ≡ all) (rest : List Bool) (closed : zero_run rest ≡ none) where
  abbrev Tells : Out Kept Answer → Type 0
  Tells (more k) = Unit {0}
  Tells (done a) = CutTold S.columns fill rows bs a.number a.rows a.marks

  module _ (store places : ℕ) where
    abbrev step : Kept → Out Kept Answer
    step = page_step (row3 S untagged bs) store places

    -- behind a mended row the page ends
    lost-ends : (n : ℕ) (k : Kept) (first last : List (List ℕ)) (x : List ℕ) → Lost S wide bs k.state → k.state.at ≤ length bs → rows ≡ first ++ last → CutBefore S.columns fill first last bs
        → k.rows ≡ first ++ x ∷ [] → k.marks ≡ all_clean first ++ recovered_mark ∷ [] → Tells (run step n k)
    unfolding run page_step
    lost-ends zero k first last x lost inside parts b p m = tt
    lost-ends (suc n) k first last x lost inside parts b p m =
        lost-row S wide bs (store - entries k.rows) k.state lost inside (λ o. Tells (and_then (keep_row (row3 S untagged bs) store places k o) (run step n))) (λ _ bytes. told 0) (λ i place loose _. told i)
      where
        told : (number : ℕ) → CutTold S.columns fill rows bs number k.rows k.marks
        told number = rw (p, m) (marked first last x parts b)

    rows_told : (n : ℕ) (k : Kept) (above : List ℕ) (last : List (List ℕ)) → At S wide narrow fill rows some-rows counted all bs cut first-bits rest closed k.state above k.rows last → k.marks ≡ all_clean k.rows → Tells (run step n k)
    unfolding run page_step
    rows_told zero k above last h m = tt
    rows_told (suc n) k above last h m =
        cut-row S wide narrow fill rows some-rows counted all bs cut first-bits rest closed (store - entries k.rows) k.state above k.rows last h (λ o. Tells (and_then (keep_row (row3 S untagged bs) store places k o) (run step n)))
        (λ i place bytes loose zero-says reached. told i zero-says reached)
        (λ x st' lost inside b. mended (ltb (length k.rows) places) x st' (lost-ends n (with_row k x recovered_mark st') k.rows last x lost inside h.parts b refl (ap (λ (l : List ℕ). l ++ recovered_mark ∷ []) m)))
        (λ r rs q st' at. goes_on (ltb (length k.rows) places) r st' (rows_told n (with_row k r 0 st') r rs at (ap (λ (l : List ℕ). l ++ 0 ∷ []) m ∙ clean-snoc k.rows r)))
      where
        told : (number : ℕ) → (number ≡ 0 → (last ≡ []) ⊎ BetweenLines S.columns fill k.rows bs) → ((number ≡ 4 → ⊥) → (number ≡ 5 → ⊥) → CutBefore S.columns fill k.rows last bs) → CutTold S.columns fill rows bs number k.rows k.marks
        told number a b = rw m (first_rows k.rows last h.parts a b)

        no_place : CutTold S.columns fill rows bs 5 k.rows k.marks
        no_place = told 5 (λ z. absurd (omega arith)) (λ _ z. absurd (z refl))

        mended : (b : Bool) (x : List ℕ) (st' : State) → Tells (run step n (with_row k x recovered_mark st'))
            → Tells (and_then (cond b (more (with_row k x recovered_mark st')) (done (end_with k 5 0 0 x))) (run step n))
        mended true x st' t = t
        mended false x st' t = no_place

        goes_on : (b : Bool) (r : List ℕ) (st' : State) → Tells (run step n (with_row k r 0 st')) → Tells (and_then (cond b (more (with_row k r 0 st')) (done (end_with k 5 0 0 r))) (run step n))
        goes_on true r st' t = t
        goes_on false r st' t = no_place

-- ---- A page that is cut

-- a number that is not 0, and not 4 or 5, says no less than 0
renumbered : {width fill : ℕ} {rows : List (List ℕ)} {bits : List Bool} {given : List (List ℕ)} {marks : List ℕ} → CutTold width fill rows bits 0 given marks
    → CutTold width fill rows bits 14 given marks
renumbered (first_rows first last parts zero-says reached) =
    first_rows first last parts (λ z. absurd (let y : ◌≡◌ {A = ℕ} 14 0 = z in omega arith))
    (λ _ _. reached (λ z. absurd (let y : ◌≡◌ {A = ℕ} 0 4 = z in omega arith)) (λ z. absurd (let y : ◌≡◌ {A = ℕ} 0 5 = z in omega arith)))
renumbered (marked first last x parts b) = marked first last x parts b

-- in bits
page-told : (S : Settings) → S.encoding ≡ group3_1_d → 0 < S.columns → S.columns ≤ 4294967295 → (fill : ℕ)
    → (rows : List (List ℕ)) → 0 < length rows → Rows S.columns rows → (S.rows ≡ 0) ⊎ (S.rows ≡ length rows) → (bs : List Bool) → Bytes bs → (cut rest : List Bool) → zero_run rest ≡ none
    → bs ++ cut ≡ page3_bits S.columns (filled fill) rows ++ rest → (store places : ℕ)
    → CutTold S.columns fill rows bs (read_page S bs store places).number (read_page S bs store places).rows (read_page S bs store places).marks
unfolding read_page ends row_of arrived_page up_to owns
page-told S encoded wide narrow fill rows some-rows rises counted bs bytes cut rest closed first-bits store places =
    subst (λ (f : ℕ → State → RowOut). Told (page_of (ends (page_step f store places) (rows_left bs) none_kept))) (sym (rows_are S untagged encoded bs))
    (subst (λ (o : Out Kept Answer). Told (page_of o)) (sym p.1) (subst Ended p.1 t))
  where
    all : List Bool
    all = page3_bits S.columns (filled fill) rows ++ rest

    Told : Answer → Type 0
    Told a = CutTold S.columns fill rows bs a.number a.rows a.marks

    Ended : Out Kept Answer → Type 0
    Ended = Tells S wide narrow fill rows some-rows counted all bs cut first-bits rest closed

    p : (a : Answer) × (ends (page_step (row3 S untagged bs) store places) (rows_left bs) none_kept ≡ done a)
    p = ends-stops (page_step (row3 S untagged bs) store places) (rows_left bs) (page-falls group3_1_d S wide bs bytes store places) none_kept

    t : Ended (ends (page_step (row3 S untagged bs) store places) (rows_left bs) none_kept)
    t = rows_told S wide narrow fill rows some-rows counted all bs cut first-bits rest closed store places _ none_kept [] rows (record {
      done-bits = [];
      split = ap (λ (l : List Bool). l ++ rest) (own-page S.columns fill rows) ∙ front S.columns fill [] (owns rows) rest;
      at-is = refl;
      reached = omega arith;
      upto = refl;
      parts = refl;
      count-is = refl;
      expected = λ z. absurd (omega arith);
      rises = rises;
    }) refl

module _ (S : Settings) (encoded : S.encoding ≡ group3_1_d) (wide : 0 < S.columns) (narrow : S.columns < 4294967295) (fill : ℕ)
    (rows : List (List ℕ)) (some-rows : 0 < length rows) (rises : Rows S.columns rows) (counted : (S.rows ≡ 0) ⊎ (S.rows ≡ length rows))
    (bytes : List ℕ) (small : length bytes ≤ most_bytes) (cut rest : List Bool) (closed : zero_run rest ≡ none)
    (first-bits : bits_of bytes ++ cut ≡ page3_bits S.columns (filled fill) rows ++ rest) (store places : ℕ) where
  -- any bytes that are the first of a page's, and of zeros behind it
  pub cut-told : CutTold S.columns fill rows (bits_of bytes) (decode S bytes store places).number (decode S bytes store places).rows (decode S bytes store places).marks
  cut-told =
      decode-cases S bytes (λ f. Told (f store places)) (λ n r. absurd (refuses r))
      (λ ok. short-cases S (read_page (strict_if_exact S) (bits_of bytes) store places) Told
      (λ l. renumbered (subst (λ (n : ℕ). CutTold S.columns fill rows (bits_of bytes) n page.rows page.marks) l.finished told)) (λ _. told))
    where
      Told : Answer → Type 0
      Told a = CutTold S.columns fill rows (bits_of bytes) a.number a.rows a.marks

      page : Answer
      page = read_page (strict_if_exact S) (bits_of bytes) store places

      told : Told page
      told = page-told (strict_if_exact S) encoded wide (omega arith) fill rows some-rows rises counted (bits_of bytes) (whole-bytes bytes) cut rest closed first-bits store places

      refuses : {n : ℕ} → Refuses S bytes n → ⊥
      refuses (too_wide c) = omega arith
      refuses (too_long h) = omega arith
      refuses (without_columns c) = omega arith
