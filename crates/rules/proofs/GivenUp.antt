-- EOLs that are given up, told row after row: what one row more adds, and how a reader that knows whether they were ever expected tells it; that none are in Group 4 and in what is
-- read strictly; and that where none were, EOLs that are expected behind a row are behind each later one. Assumes nothing.
use mathlib.Core.Path.{◌≡◌, refl, sym, ap, ◌∙◌, subst}
use mathlib.Core.Bool.{Bool, true, false, not, ◌&&◌, ◌||◌, or-true, or-false, or_assoc}
use mathlib.Core.List.{List, [], ◌∷◌, ◌++◌}
use Prim.Native.Nat.{ℕ, zero, suc, ◌+◌, ◌-◌, ◌≤◌, ◌<◌}
use native.Mathlib.Omega.{arith}
use lib.ListN.{length, length-append}
use Rattle.rules.specs.Machine.{Out, more, and_then, run}
use Rattle.rules.specs.Bits.{bits_of}
use Rattle.rules.specs.Rows.{Encoding, Settings, State, page_start, RowOut, row, stop}
use Rattle.rules.specs.Pages.{Answer, Kept, none_kept, with_row, entries, page_step, row_of, strict_if_exact, read_page, unless_short, decode}
use Rattle.rules.specs.Standing.{Sure, gives_up, has_given_up}
use Rattle.rules.proofs.Budget.{Bytes, whole-bytes}
use Rattle.rules.proofs.Answers.{decode-cases}
use Rattle.rules.proofs.PageBack.{entries-snoc}
use Rattle.rules.proofs.Pages.{page-cases}
use Rattle.rules.proofs.Untouched.{Keeps, neither}
use Rattle.rules.proofs.Standing.{Begun, row_sure, row-falls, row-counted}

-- what two tests say of EOLs that are kept
keeps-not : (a b : Bool) → (a && not b) ≡ false → a ≡ true → b ≡ true
keeps-not a true e x = refl
keeps-not true false e x = absurd (let z : ◌≡◌ {A = ℕ} 0 1 = cc in omega arith)
keeps-not false false e x = x

keeps-none : (a b : Bool) → (a ≡ true → b ≡ true) → (a && not b) ≡ false
keeps-none true b k = ap not (k refl)
keeps-none false b k = refl

module _ (row_at : ℕ → State → RowOut) where
  -- one row more
  pub gives-up-row : (n room : ℕ) (st : State) (r : List ℕ) (mark : ℕ) (next : State) → row_at room st ≡ row r mark next
      → gives_up row_at (suc n) room st ≡ ((st.eols && not next.eols) || gives_up row_at n (room - length r) next)
  unfolding gives_up
  gives-up-row n room st r mark next e = rw (e, gives_up)

  -- ---- As a page is read

  module _ (store : ℕ) where
    -- what was seen in the rows of a page so far, and what is still to be seen
    abbrev pub SeenIn : Kept → Bool → Type 0
    SeenIn k gave = (m : ℕ) → gives_up row_at (length k.rows + m) store page_start ≡ (gave || gives_up row_at m (store - entries k.rows) k.state)

    pub seen_start : SeenIn none_kept false
    unfolding entries
    seen_start m = ap (λ (n : ℕ). gives_up row_at n store page_start) (let q : 0 + m ≡ m = omega arith in q) ∙ ap (λ (n : ℕ). gives_up row_at m n page_start) (let q : store ≡ store - 0 = omega arith in q)

    pub seen_next : (k : Kept) (gave : Bool) → SeenIn k gave → (r : List ℕ) (mark : ℕ) (next : State) → row_at (store - entries k.rows) k.state ≡ row r mark next
        → SeenIn (with_row k r mark next) (gave || (k.state.eols && not next.eols))
    seen_next k gave s r mark next e m =
        ap (λ (n : ℕ). gives_up row_at n store page_start) (let q : length (k.rows ++ r ∷ []) + m ≡ length k.rows + suc m = omega (arith, length-append k.rows (r ∷ [])) in q)
        ∙ s (suc m)
        ∙ ap (λ (b : Bool). gave || b) (gives-up-row m (store - entries k.rows) k.state r mark next e)
        ∙ sym (or_assoc gave (k.state.eols && not next.eols) (gives_up row_at m (store - entries k.rows - length r) next))
        ∙ ap (λ (n : ℕ). (gave || (k.state.eols && not next.eols)) || gives_up row_at m n next)
        (let q : store - entries k.rows - length r ≡ store - entries (k.rows ++ r ∷ []) = omega (arith, entries-snoc k.rows r) in q)

    pub seen_end : (k : Kept) (gave : Bool) → SeenIn k gave → gives_up row_at (length k.rows) store page_start ≡ gave
    unfolding gives_up
    seen_end k gave s = ap (λ (n : ℕ). gives_up row_at n store page_start) (let q : length k.rows ≡ length k.rows + 0 = omega arith in q) ∙ s 0 ∙ or-false gave

-- ---- As the page loop tells it

-- what was told so far, and what a row adds, where EOLs are expected behind the row only if they were ever
told-next : (had before behind : Bool) → (before ≡ true → had ≡ true) → (had ≡ true → before ≡ false → behind ≡ false)
    → ((had && not before) || (before && not behind)) ≡ ((had || behind) && not behind)
told-next true true behind f g = refl
told-next false true behind f g = absurd (let q : false ≡ true = f refl in let z : ◌≡◌ {A = ℕ} 0 1 = cc in omega arith)
told-next true false true f g = absurd (let q : true ≡ false = g refl refl in let z : ◌≡◌ {A = ℕ} 0 1 = cc in omega arith)
told-next true false false f g = refl
told-next false false true f g = refl
told-next false false false f g = refl

module _ (enc : Encoding) (S : Settings) (wide : 0 < S.columns) (bs : List Bool) (bytes : Bytes bs) (store places : ℕ) where
  -- whether EOLs were expected behind a row so far: those that are not any more were given up
  pub record Had (k : Kept) (had : Bool) : Type 0 where
    pub seen : SeenIn (row_of enc S bs) store k (had && not k.state.eols)
    pub expected : k.state.eols ≡ true → had ≡ true
    pub none_yet : k.state.count ≡ 0 → had ≡ false

  pub had-start : Had none_kept false
  had-start = record { seen = seen_start (row_of enc S bs) store; expected = λ e. e; none_yet = λ e. refl }

  pub had-next : (k : Kept) (had : Bool) → Had k had → (r : List ℕ) (mark : ℕ) (next : State) → row_of enc S bs (store - entries k.rows) k.state ≡ row r mark next
      → Had (with_row k r mark next) (had || next.eols)
  had-next k had h r mark next e = record {
    seen =
        subst (SeenIn (row_of enc S bs) store (with_row k r mark next)) (told-next had k.state.eols next.eols h.expected falls)
        (seen_next (row_of enc S bs) store k (had && not k.state.eols) h.seen r mark next e);
    expected = λ x. ap (λ (b : Bool). had || b) x ∙ or-true had;
    none_yet = λ z. absurd (omega (arith, row-counted enc S wide bs bytes store places (store - entries k.rows) k.state r mark next e));
  }
    where
      falls : had ≡ true → k.state.eols ≡ false → next.eols ≡ false
      falls x y = row-falls S wide bs (store - entries k.rows) k.state r mark next enc (λ z. let q : true ≡ false = sym x ∙ h.none_yet z in let i : ◌≡◌ {A = ℕ} 0 1 = cc in omega arith) y e

  pub had-end : (k : Kept) (had : Bool) → Had k had → gives_up (row_of enc S bs) (length k.rows) store page_start ≡ (had && not k.state.eols)
  had-end k had h = seen_end (row_of enc S bs) store k (had && not k.state.eols) h.seen

-- ---- Where none are

module _ (enc : Encoding) (S : Settings) (wide : 0 < S.columns) (bs : List Bool) (bytes : Bytes bs) (store places : ℕ) where
  -- in Group 4, and in what is read strictly
  sure-none : Sure enc S → (n room : ℕ) (st : State) → Begun st → gives_up (row_of enc S bs) n room st ≡ false
  unfolding gives_up
  sure-none s zero room st b = refl
  sure-none s (suc n) room st b = cases (λ room next. sure-none s n room next) (row_of enc S bs room st) refl
    where
      cases : ((room : ℕ) (next : State) → Begun next → gives_up (row_of enc S bs) n room next ≡ false) → (o : RowOut) → row_of enc S bs room st ≡ o
          → gives_up (row_of enc S bs) (suc n) room st ≡ false
      cases later (row r mark next) e =
          gives-up-row (row_of enc S bs) n room st r mark next e
          ∙ ap (λ (x : Bool). x || gives_up (row_of enc S bs) n (room - length r) next) (keeps-none st.eols next.eols (row_sure S wide bs room st r mark next enc s b e).0)
          ∙ later (room - length r) next (λ z. absurd (omega (arith, row-counted enc S wide bs bytes store places room st r mark next e)))
      cases later (stop m place bytes loose) e = rw (e, gives_up)

  abbrev step : Kept → Out Kept Answer
  step = page_step (row_of enc S bs) store places

  -- none in n rows: none in the first, and none in those behind it
  none-next : (n : ℕ) (k : Kept) (r : List ℕ) (mark : ℕ) (next : State) → row_of enc S bs (store - entries k.rows) k.state ≡ row r mark next
      → gives_up (row_of enc S bs) (suc n) (store - entries k.rows) k.state ≡ false
      → Keeps k.state next × (gives_up (row_of enc S bs) n (store - entries (with_row k r mark next).rows) next ≡ false)
  none-next n k r mark next e z =
      let f = neither (k.state.eols && not next.eols) (gives_up (row_of enc S bs) n (store - entries k.rows - length r) next)
      (sym (gives-up-row (row_of enc S bs) n (store - entries k.rows) k.state r mark next e) ∙ z) in (
        keeps-not k.state.eols next.eols f.0,
        ap (λ (i : ℕ). gives_up (row_of enc S bs) n i next) (let q : store - entries (k.rows ++ r ∷ []) ≡ store - entries k.rows - length r = omega (arith, entries-snoc k.rows r) in q) ∙ f.1,
      )

  -- none in n rows and more: what is expected before them is expected behind them
  none-keeps : (n m t : ℕ) (k j : Kept) → t ≡ n + m → gives_up (row_of enc S bs) t (store - entries k.rows) k.state ≡ false → run step n k ≡ more j → Keeps k.state j.state
  unfolding run
  none-keeps zero m t k j s z = λ q x. let y : k ≡ j = cc in ap (λ (i : Kept). i.state.eols) (sym y) ∙ x
  none-keeps (suc n) m zero k j s z = absurd (omega arith)
  none-keeps (suc n) m (suc t) k j s z =
      page-cases enc S wide bs bytes store places k (λ o. and_then o (run step n) ≡ more j → Keeps k.state j.state)
      (λ r mark next e l q x. let f = none-next t k r mark next e z in none-keeps n m t (with_row k r mark next) j (omega arith) f.1 q (f.0 x))
      (λ r mark next e l q. absurd (let z : ◌≡◌ {A = ℕ} 0 1 = cc in omega arith))
      (λ m place b loose e q. absurd (let z : ◌≡◌ {A = ℕ} 0 1 = cc in omega arith))

  -- and so from a page's first row on
  none_stays : (n m : ℕ) (j : Kept) → gives_up (row_of enc S bs) (suc (n + m)) store page_start ≡ false → run step (suc n) none_kept ≡ more j
      → (f : Kept) → step none_kept ≡ more f → Keeps f.state j.state
  unfolding run entries
  none_stays n m j z q f w =
      page-cases enc S wide bs bytes store places none_kept (λ o. and_then o (run step n) ≡ more j → o ≡ more f → Keeps f.state j.state)
      (λ r mark next e l q w.
      let y : with_row none_kept r mark next ≡ f = cc in
      subst (λ (i : Kept). Keeps i.state j.state) y
      (none-keeps n m (n + m) (with_row none_kept r mark next) j refl
      (none-next (n + m) none_kept r mark next e (ap (λ (i : ℕ). gives_up (row_of enc S bs) (suc (n + m)) i page_start) (let q : store - 0 ≡ store = omega arith in q) ∙ z)).1 q))
      (λ r mark next e l q w. absurd (let z : ◌≡◌ {A = ℕ} 0 1 = cc in omega arith))
      (λ m place b loose e q w. absurd (let z : ◌≡◌ {A = ℕ} 0 1 = cc in omega arith)) q w

-- ---- A page

-- Group 4, and what is read strictly or exactly
pub sure-gave-none : (S : Settings) (bytes : List ℕ) (store places : ℕ) → Sure S.encoding (strict_if_exact S) → has_given_up S bytes store places ≡ false
unfolding has_given_up gives_up
sure-gave-none S bytes store places s =
    decode-cases S bytes (λ f. gives_up (row_of S.encoding (strict_if_exact S) (bits_of bytes)) (length (f store places).rows) store page_start ≡ false)
    (λ n r. refl)
    (λ a. sure-none S.encoding (strict_if_exact S) a.wide (bits_of bytes) (whole-bytes bytes) store places s (length (unless_short S (read_page (strict_if_exact S) (bits_of bytes) store places)).rows) store page_start (λ z. refl))

-- where none were given up, EOLs that are expected behind the first row are behind each that is kept: what `read-stands` asks
pub none-gave-stays : (S : Settings) (wide : 0 < S.columns) (bytes : List ℕ) (store places : ℕ) → has_given_up S bytes store places ≡ false
    → (n : ℕ) (k : Kept) → suc n ≤ length (decode S bytes store places).rows → run (page_step (row_of S.encoding (strict_if_exact S) (bits_of bytes)) store places) (suc n) none_kept ≡ more k
    → (f : Kept) → page_step (row_of S.encoding (strict_if_exact S) (bits_of bytes)) store places none_kept ≡ more f → Keeps f.state k.state
unfolding has_given_up
none-gave-stays S wide bytes store places z n k le =
    none_stays S.encoding (strict_if_exact S) wide (bits_of bytes) (whole-bytes bytes) store places n (length (decode S bytes store places).rows - suc n) k
    (ap (λ (i : ℕ). gives_up (row_of S.encoding (strict_if_exact S) (bits_of bytes)) i store page_start)
    (let q : suc (n + (length (decode S bytes store places).rows - suc n)) ≡ length (decode S bytes store places).rows = omega arith in q) ∙ z)
