-- Which rows a written page gives that is cut after any bit: those whose lines lie whole in the bits, as far as the settings want them and room is left. Assumes nothing.
use mathlib.Core.Path.{◌≡◌, refl, sym, ap, ◌∙◌, subst}
use mathlib.Core.Bool.{Bool, true, false, cond, not, ◌&&◌, ◌||◌, true≢false}
use mathlib.Core.List.{List, [], ◌∷◌, ◌++◌, append_assoc}
use mathlib.Core.Logic.{◌⊎◌, inl, inr, ⊎_elim}
use Prim.Native.Nat.{ℕ, zero, suc, ◌+◌, ◌-◌, ◌≤◌, ◌<◌}
use native.Mathlib.Omega.{arith}
use lib.Dec.{eqb, leb, ltb}
use lib.ListN.{length, take, drop, length-append}
use borrow.Author.Tests.{leb-true, leb-false, eqb-true, eqb-false, ltb-true, ltb-false}
use Rattle.rules.specs.Answers.{no_entry, no_row_end, most_pixels}
use Rattle.rules.specs.Machine.{Out, done, ends}
use Rattle.rules.specs.Bits.{bits_of}
use Rattle.rules.specs.Codes.{Colour}
use Rattle.rules.specs.Eols.{Eols, zero_run, eols_to, read_eols}
use Rattle.rules.specs.Lines.{Line, line, Went, went, failed, two, read_line}
use Rattle.rules.specs.Rows.{group4, Settings, State, RowOut, row, stop, rules_of}
use Rattle.rules.specs.Group4.{row4, after_line4, eols_before, over}
use Rattle.rules.specs.Pages.{Answer, Kept, none_kept, with_row, end_with, entries, page_step, row_of, rows_left, page_of, read_page, strict_if_exact, unless_short, most_bytes, decode}
use Rattle.rules.specs.Write.{line_bits, rows_bits, eofb, page_bits}
use Rattle.rules.specs.Rising.{Rising, none, Rows, no_rows, row_then}
use Rattle.rules.proofs.Machine.{Falls, ends_more, ends-done, ends-stops}
use Rattle.rules.proofs.Bits.{drop-after}
use Rattle.rules.proofs.Budget.{Bytes, whole-bytes}
use Rattle.rules.proofs.Agree.{agree-word}
use Rattle.rules.proofs.Answers.{short-cases, decode-reads}
use Rattle.rules.proofs.Lines.{read_whole}
use Rattle.rules.proofs.Local.{read-local}
use Rattle.rules.proofs.Eols.{no_one}
use Rattle.rules.proofs.ReadBack.{read-line}
use Rattle.rules.proofs.MoreRoom.{line-went}
use Rattle.rules.proofs.LessRoom.{Cut, same, short, line-cut}
use Rattle.rules.proofs.Rows.{row4-cases}
use Rattle.rules.proofs.Pages.{page-kept, page-full, page-stopped, page-falls, ends-behind}
use Rattle.rules.proofs.PageBack.{line-zeros, line-long, no-eols, Plain, after_row, read-4}
use Rattle.rules.proofs.CutPage.{zeros-cut, agrees, bits-cut}
use Rattle.promises.specs.Demand3.{Due}

-- the settings want so many rows
abbrev Asks : Settings → ℕ → Type 0
Asks S n = (S.rows ≡ 0) ⊎ (n ≤ S.rows)

-- and so fewer
fewer-asked : (S : Settings) {m n : ℕ} → n ≤ m → Asks S m → Asks S n
fewer-asked S h (inl e) = inl e
fewer-asked S h (inr k) = inr (omega arith)

module _ (S : Settings) (plain : Plain S) (all bs cut : List Bool) (first : bs ++ cut ≡ all) where
  abbrev L : List ℕ → List ℕ → List Bool
  L above r = line_bits S.columns (two above) r

  -- ---- One row

  module _ (room : ℕ) (st : State) (inside : st.at ≤ length bs) (r : List ℕ) (rest : List Bool) (up : Rising S.columns 0 st.reference) (up' : Rising S.columns 0 r)
      (there : drop st.at all ≡ L st.reference r ++ rest) where
    abbrev size : ℕ
    size = length (L st.reference r)

    -- no EOL stands before the line
    no-eols-here : eols_before S bs st ≡ eols_to 0 st.at
    no-eols-here =
        let z = line-zeros S.columns st.reference r plain.wide rest in
        ap (λ (b : Bool). read_eols (cond b 2 (length bs)) bs st.at) plain.blocked
        ∙ ⊎_elim (no_one 2 bs st.at)
        (λ f. no-eols 2 bs st.at z.0 (f ∙ ap zero_run (bits-cut all bs cut first st.at inside ∙ there) ∙ z.1) (omega (arith, z.2)))
        (zeros-cut (drop st.at bs) cut)

    -- a line that is read here is the row's, and lies in the bits
    row-only : (l : Line) → read_line (rules_of S room) (two st.reference) bs st.at ≡ went l
        → (st.at + size ≤ length bs) × (after_line4 S bs st (went l) ≡ row r 0 (after_row st size r))
    row-only l q =
        let w = read_whole (rules_of S room) plain.wide (two st.reference) bs st.at l q in
        let u = read-local (rules_of S room) bs all (two st.reference) st.at l q (agrees all bs cut first l.at w.inside) in
        let p = read-line (rules_of S (room + length r)) plain.wide plain.narrow (two st.reference) up r up' (omega arith) all rest st.at there in
        let g : l ≡ line (st.at + size) S.columns p.0 r false =
        cc (line-went S.columns S.strict S.exact room (room + length r) (omega arith) (two st.reference) all st.at l u, p.1) in
        (omega (arith, w.inside, ap (λ (x : Line). x.at) g), rw (g, plain.unaligned))

    -- a line that lies in the bits is read, unless there is no room for it
    row-there : st.at + size ≤ length bs → (n place : ℕ) (l : Line) → (n ≡ no_entry → ⊥) → read_line (rules_of S room) (two st.reference) bs st.at ≡ failed n place l → ⊥
    row-there h n place l no-four q = cases (line-cut S.columns S.strict S.exact room (room + length r) (omega arith) (two st.reference) bs st.at) q reads.1
      where
        here : drop st.at bs ≡ L st.reference r ++ drop (st.at + size) bs
        here =
            let a = agrees all bs cut first (st.at + size) h in
            agree-word (record { same = sym a.same; long = a.long'; long' = a.long }) st.at (L st.reference r) rest (omega arith) there

        reads : (c : Colour) × (read_line (rules_of S (room + length r)) (two st.reference) bs st.at ≡ went (line (st.at + size) S.columns c r false))
        reads = read-line (rules_of S (room + length r)) plain.wide plain.narrow (two st.reference) up r up' (omega arith) bs _ st.at here

        cases : {v w : Went} → Cut room v w → v ≡ failed n place l → w ≡ went (line (st.at + size) S.columns reads.0 r false) → ⊥
        cases (same f) x y = let z : ◌≡◌ {A = ℕ} 0 1 = cc in omega arith
        cases (short f g) x y = no-four (let z : n ≡ no_entry = cc in z)

    -- the tests before the line: the page is over, or it goes on
    over-here : over S bs st (eols_to 0 st.at) ≡ true → Asks S (suc st.count) → length bs < st.at + size
    over-here e asks = tests S.end_of_block (eqb S.rows 0) refl (eqb st.count S.rows) refl (leb (length bs) st.at) refl e
      where
        tests : (x a : Bool) → eqb S.rows 0 ≡ a → (b : Bool) → eqb st.count S.rows ≡ b → (c : Bool) → leb (length bs) st.at ≡ c
            → ((x && false) || ((not a && b) || c)) ≡ true → length bs < st.at + size
        tests x a p b q true s e = omega (arith, leb-true (length bs) st.at s, line-long S.columns st.reference r plain.wide)
        tests x false p true q false s e = absurd (⊎_elim (eqb-false S.rows 0 p) (λ h. omega (arith, eqb-true st.count S.rows q)) asks)
        tests true true p b q false s e = absurd (true≢false (sym e))
        tests false true p b q false s e = absurd (true≢false (sym e))
        tests true false p false q false s e = absurd (true≢false (sym e))
        tests false false p false q false s e = absurd (true≢false (sym e))

    goes_on : over S bs st (eols_to 0 st.at) ≡ false → Asks S st.count → Asks S (suc st.count)
    goes_on e asked = tests S.end_of_block (eqb S.rows 0) refl (eqb st.count S.rows) refl asked e
      where
        tests : (x a : Bool) → eqb S.rows 0 ≡ a → (b : Bool) → eqb st.count S.rows ≡ b → Asks S st.count
            → ((x && false) || ((not a && b) || leb (length bs) st.at)) ≡ false → Asks S (suc st.count)
        tests x true p b q h e = inl (eqb-true S.rows 0 p)
        tests true false p true q h e = absurd (true≢false e)
        tests false false p true q h e = absurd (true≢false e)
        tests x false p false q (inl h) e = inl h
        tests x false p false q (inr h) e = inr (omega (arith, eqb-false st.count S.rows q))

    -- The row is given only where its line lies in the bits and it is wanted; and so it is, unless there is no room.
    row_cut : Asks S st.count → (C : RowOut → Type 0)
        → ((n place bytes : ℕ) (loose : List ℕ) → ((n ≡ no_entry → ⊥) → Asks S (suc st.count) → length bs < st.at + size) → C (stop n place bytes loose))
        → (st.at + size ≤ length bs → Asks S (suc st.count) → C (row r 0 (after_row st size r)))
        → C (row4 S bs room st)
    row_cut asked C stops goes =
        row4-cases S bs room st C
        (λ e. stops 0 0 _ [] (λ _ asks. over-here (subst (λ (E : Eols). over S bs st E ≡ true) no-eols-here e) asks))
        (λ e w q. cases (goes_on (subst (λ (E : Eols). over S bs st E ≡ false) no-eols-here e) asked) w
        (ap (λ (E : Eols). read_line (rules_of S room) (two st.reference) bs E.at) (sym no-eols-here) ∙ q))
      where
        cases : Asks S (suc st.count) → (w : Went) → read_line (rules_of S room) (two st.reference) bs st.at ≡ w → C (after_line4 S bs st w)
        cases asks (went l) q = let o = row-only l q in subst C (sym o.1) (goes o.0 asks)
        cases asks (failed n place l) q = stops n place 0 l.changes (λ no-four _. tests (leb (st.at + size) (length bs)) refl no-four)
          where
            tests : (b : Bool) → leb (st.at + size) (length bs) ≡ b → (n ≡ no_entry → ⊥) → length bs < st.at + size
            tests true s no-four = absurd (row-there (leb-true (st.at + size) (length bs) s) n place l no-four q)
            tests false s no-four = leb-false (st.at + size) (length bs) s

  -- ---- The rows to come

  -- behind those kept the lines of m more lie in the bits, and they are wanted
  abbrev More : Kept → List (List ℕ) → ℕ → Type 0
  More k rs m = (k.state.at + length (rows_bits S.columns k.state.reference (take m rs)) ≤ length bs) × Asks S (k.state.count + m)

  -- the answer has only such rows; and it has all such, unless it is 4 or 5
  record Bounds (k : Kept) (rs : List (List ℕ)) (a : Answer) : Type 0 where
    only : (m : ℕ) → m ≤ length rs → length k.rows + m ≤ length a.rows → More k rs m
    every : (a.number ≡ no_entry → ⊥) → (a.number ≡ no_row_end → ⊥) → (m : ℕ) → m ≤ length rs → More k rs m → length k.rows + m ≤ length a.rows

  module _ (bytes : Bytes bs) (store places : ℕ) where
    abbrev step : Kept → Out Kept Answer
    step = page_step (row_of group4 S bs) store places

    falls : Falls step (rows_left bs)
    falls = page-falls group4 S plain.wide bs bytes store places

    -- the rows kept are the answer's first
    no-fewer : (k : Kept) (a : Answer) → ends step (rows_left bs) k ≡ done a → length k.rows ≤ length a.rows
    no-fewer k a e = let b = ends-behind group4 S plain.wide bs bytes store places k a e in omega (arith, ap length b.1, length-append k.rows b.0)

    rows_bound : (rs : List (List ℕ)) (k : Kept) (a : Answer) (rest : List Bool) → Rows S.columns rs → Rising S.columns 0 k.state.reference
        → k.state.at ≤ length bs → Asks S k.state.count
        → drop k.state.at all ≡ rows_bits S.columns k.state.reference rs ++ rest → ends step (rows_left bs) k ≡ done a → Bounds k rs a
    unfolding rows_bits row_of
    rows_bound [] k a rest no_rows up inside asked e q = record {
      only = λ m h l. let z : m ≡ 0 = omega arith in rw z (omega arith, fewer-asked S (omega arith) asked);
      every = λ _ _ m h _. omega (arith, no-fewer k a q);
    }
    rows_bound (r ∷ rs) k a rest (row_then h hs) up inside asked e q =
        row_cut (store - entries k.rows) k.state inside r later up h here asked (λ o. row_of group4 S bs (store - entries k.rows) k.state ≡ o → Bounds k (r ∷ rs) a)
        (λ n place bytes' loose reason s. ended n place bytes' loose (λ no-four _. reason no-four) (page-stopped group4 S plain.wide bs bytes store places k n place bytes' loose s))
        (λ fits asks s. tests s (rows_bound rs k' a rest hs h fits asks (drop-after all K later k.state.at here)) (ltb (length k.rows) places) refl)
        refl
      where
        K : List Bool
        K = L k.state.reference r

        later : List Bool
        later = rows_bits S.columns r rs ++ rest

        here : drop k.state.at all ≡ K ++ later
        here = e ∙ append_assoc K (rows_bits S.columns r rs) rest

        k' : Kept
        k' = with_row k r 0 (after_row k.state (length K) r)

        -- the line and those behind it
        parts : (m : ℕ) → length (K ++ rows_bits S.columns r (take m rs)) ≡ length K + length (rows_bits S.columns r (take m rs))
        parts m = length-append K (rows_bits S.columns r (take m rs))

        none_more : More k (r ∷ rs) 0
        none_more = (omega arith, fewer-asked S (omega arith) asked)

        -- the page ended before the row
        ended : (n place bytes' : ℕ) (loose : List ℕ) → ((n ≡ no_entry → ⊥) → (n ≡ no_row_end → ⊥) → Asks S (suc k.state.count) → length bs < k.state.at + length K)
            → step k ≡ done (end_with k n place bytes' loose) → Bounds k (r ∷ rs) a
        ended n place bytes' loose reason s = subst (Bounds k (r ∷ rs)) is (record { only = only_none; every = none-due })
          where
            is : end_with k n place bytes' loose ≡ a
            is = let z = ends-done step (rows_left bs) falls k (end_with k n place bytes' loose) s in cc

            only_none : (m : ℕ) → m ≤ suc (length rs) → length k.rows + m ≤ length k.rows → More k (r ∷ rs) m
            only_none zero _ _ = none_more
            only_none (suc m) _ l = absurd (omega arith)

            none-due : (n ≡ no_entry → ⊥) → (n ≡ no_row_end → ⊥) → (m : ℕ) → m ≤ suc (length rs) → More k (r ∷ rs) m → length k.rows + m ≤ length k.rows
            none-due no-four no-five zero _ _ = omega arith
            none-due no-four no-five (suc m) _ (l, asks) = absurd (omega (arith, parts m, reason no-four no-five (fewer-asked S (omega arith) asks)))

        tests : row_of group4 S bs (store - entries k.rows) k.state ≡ row r 0 (after_row k.state (length K) r)
            → (ends step (rows_left bs) k' ≡ done a → Bounds k' rs a) → (b : Bool) → ltb (length k.rows) places ≡ b → Bounds k (r ∷ rs) a
        tests s next true p = record { only = with-this; every = all-due }
          where
            b : Bounds k' rs a
            b =
                next (sym (ends_more step (rows_left bs) falls k k' (page-kept group4 S plain.wide bs bytes store places k r 0 _ s (ltb-true _ _ p))) ∙ q)

            one_more : length k'.rows ≡ suc (length k.rows)
            one_more = omega (arith, length-append k.rows (r ∷ []))

            with-this : (m : ℕ) → m ≤ suc (length rs) → length k.rows + m ≤ length a.rows → More k (r ∷ rs) m
            with-this zero _ _ = none_more
            with-this (suc m) h l = let g = b.only m (omega arith) (omega (arith, one_more)) in (omega (arith, parts m, g.0), fewer-asked S (omega arith) g.1)

            all-due : (a.number ≡ no_entry → ⊥) → (a.number ≡ no_row_end → ⊥) → (m : ℕ) → m ≤ suc (length rs) → More k (r ∷ rs) m → length k.rows + m ≤ length a.rows
            all-due no-four no-five zero _ _ = omega (arith, no-fewer k a q)
            all-due no-four no-five (suc m) h (l, asks) =
                omega (arith, one_more, b.every no-four no-five m (omega arith) (omega (arith, parts m), fewer-asked S (omega arith) asks))
        tests s next false p = ended 5 0 0 r (λ _ no-five. absurd (no-five refl)) (page-full group4 S plain.wide bs bytes store places k r 0 _ s (ltb-false _ _ p))

-- ---- A page that is cut

-- of a page of these rows, of which the bits arrived, the answer has rows only that are due; and it has all of them, unless it is 4 or 5
pub record GivesDue (S : Settings) (rows : List (List ℕ)) (bs : List Bool) (a : Answer) : Type 0 where
  pub only : (n : ℕ) → n ≤ length rows → n ≤ length a.rows → Due S.columns S.rows rows bs n
  pub every : (a.number ≡ no_entry → ⊥) → (a.number ≡ no_row_end → ⊥) → (n : ℕ) → Due S.columns S.rows rows bs n → n ≤ length a.rows

-- bits of whole bytes with which a written page begins
read-due : (S : Settings) → Plain S → (rows : List (List ℕ)) → Rows S.columns rows → (bs : List Bool) → Bytes bs → (cut rest : List Bool)
    → bs ++ cut ≡ page_bits S.columns rows ++ rest → (store places : ℕ) → GivesDue S rows bs (read_page S bs store places)
unfolding page_bits row_of
read-due S plain rows rises bs bytes cut rest e store places = record {
  only = λ n h l. let d = b.only n h (omega arith) in record { of_page = h; whole = omega (arith, d.0); asked = fewer-asked S (omega arith) d.1 };
  every = λ no-four no-five n d. omega (arith, b.every no-four no-five n d.of_page (omega (arith, d.whole), fewer-asked S (omega arith) d.asked));
}
  where
    p : (a : Answer) × (ends (page_step (row4 S bs) store places) (rows_left bs) none_kept ≡ done a)
    p = ends-stops (page_step (row4 S bs) store places) (rows_left bs) (page-falls group4 S plain.wide bs bytes store places) none_kept

    is : p.0 ≡ read_page S bs store places
    is = sym (ap page_of p.1) ∙ sym (read-4 S plain.encoded bs store places)

    b : Bounds S plain (page_bits S.columns rows ++ rest) bs cut e none_kept rows (read_page S bs store places)
    b =
        rows_bound S plain (page_bits S.columns rows ++ rest) bs cut e bytes store places rows none_kept (read_page S bs store places) (eofb ++ rest) rises none (omega arith)
        (inr (omega arith)) (append_assoc (rows_bits S.columns [] rows) eofb rest) (p.1 ∙ ap done is)

-- a page that lacks rows (A12) has the same ones
short-due : (S : Settings) (rows : List (List ℕ)) (bs : List Bool) (a : Answer) → GivesDue (strict_if_exact S) rows bs a → GivesDue S rows bs (unless_short S a)
short-due S rows bs a g =
    short-cases S a (GivesDue S rows bs)
    (λ l. record { only = g.only; every = λ _ _. g.every (λ z. omega (arith, l.finished)) (λ z. omega (arith, l.finished)) })
    (λ _. record { only = g.only; every = g.every })

-- Bytes with which a written page begins: `decode` gives the rows that are due.
pub cut-gives-due : (S : Settings) → Plain S → S.columns < most_pixels → (rows : List (List ℕ)) → Rows S.columns rows
    → (bytes : List ℕ) → length bytes ≤ most_bytes → (cut rest : List Bool)
    → bits_of bytes ++ cut ≡ page_bits S.columns rows ++ rest → (store places : ℕ) → GivesDue S rows (bits_of bytes) (decode S bytes store places)
cut-gives-due S plain narrow rows rises bytes small cut rest e store places =
    rw (decode-reads S plain.wide narrow bytes small store places)
    (short-due S rows (bits_of bytes) _ (read-due (strict_if_exact S) plain' rows rises (bits_of bytes) (whole-bytes bytes) cut rest e store places))
  where
    plain' : Plain (strict_if_exact S)
    plain' = record { encoded = plain.encoded; blocked = plain.blocked; unaligned = plain.unaligned; wide = plain.wide; narrow = plain.narrow }
