-- Damage never reaches back, row after row and for the page: rows that stand are the first rows of any other data that agree with these up to the bit behind them. Strict pages and
-- Group 4 have no other rows. Assumes nothing.
use mathlib.Core.Path.{◌≡◌, refl, sym, ap, ◌∙◌, subst}
use mathlib.Core.Logic.{◌⊎◌, inl, inr, ⊎_elim}
use mathlib.Core.Bool.{Bool, true, false, ◌||◌}
use mathlib.Core.List.{List, [], ◌∷◌, ◌++◌}
use Prim.Native.Nat.{ℕ, zero, suc, ◌+◌, ◌-◌, ◌≤◌, ◌<◌}
use native.Mathlib.Omega.{arith}
use lib.Dec.{eqb, ltb}
use lib.ListN.{length, length-append}
use borrow.Author.Tests.{eqb-true, eqb-false, eq-eqb, ne_eqb}
use Rattle.rules.specs.Machine.{Out, more, and_then, run, ends}
use Rattle.rules.specs.Bits.{bits_of}
use Rattle.rules.specs.Eols.{all_eols}
use Rattle.rules.specs.Rows.{Encoding, group4, group3_1_d, group3_2_d, Settings, State, page_start, recovered_mark, RowOut, row}
use Rattle.rules.specs.Group3.{Tagging, untagged, tagged, at_line, before, row3}
use Rattle.rules.specs.Lines.{Went, went, failed}
use Rattle.rules.specs.Group4.{after_line4, row4}
use Rattle.rules.specs.Pages.{Answer, Kept, none_kept, with_row, entries, page_step, rows_left, page_of, row_of, read_page, strict_if_exact, most_bytes, decode}
use Rattle.rules.specs.Standing.{AgreeTo, WasRead, SettledBy, Sure, NoEols, last_or}
use Rattle.rules.proofs.Bits.{length-bits_of}
use Rattle.rules.proofs.Machine.{ends_more, ends-stops}
use Rattle.rules.proofs.Eols.{skip-finds}
use Rattle.rules.proofs.Agree.{Agree, agree_less}
use Rattle.rules.proofs.Budget.{Bytes, whole-bytes}
use Rattle.rules.proofs.Answers.{short-rows, short-marks, decode-reads}
use Rattle.rules.proofs.Pages.{Goes, row_goes, page-cases, page-kept, page-falls, ends-behind}
use Rattle.rules.proofs.Untouched.{Keeps, Settled, row4-same, row3-same, row_same}
use Rattle.rules.proofs.UntouchedMended.{next_of, mark_of, read-marked, before-eols, Given, given, follows, mended-same}
use Rattle.rules.proofs.Rows.{row4-cases}

-- data that agree in their first bits do so as lists of bits
pub agree_of : {p : ℕ} {bytes bytes' : List ℕ} → AgreeTo p bytes bytes' → Agree p (bits_of bytes) (bits_of bytes')
agree_of {p} {bytes} {bytes'} a = record { same = a.same; long = omega (arith, a.long, length-bits_of bytes); long' = omega (arith, a.long', length-bits_of bytes') }

-- ---- Rows that stand

-- from one page so far to another, by a row or more, each of which keeps EOLs, and of the last of which more is known: its mark, and the state behind it
pub data Stands (Ends : ℕ → State → Type 0) (row_at : ℕ → State → RowOut) (store places : ℕ) : Kept → Kept → Type 0 where
  last_row : {k : Kept} {r : List ℕ} {mark : ℕ} {next : State} → row_at (store - entries k.rows) k.state ≡ row r mark next → length k.rows < places
      → Keeps k.state next → Ends mark next → Stands Ends row_at store places k (with_row k r mark next)
  one_more : {k j : Kept} {r : List ℕ} {mark : ℕ} {next : State} → row_at (store - entries k.rows) k.state ≡ row r mark next → length k.rows < places
      → Keeps k.state next → Stands Ends row_at store places (with_row k r mark next) j → Stands Ends row_at store places k j

-- it was read
abbrev pub Read : ℕ → State → Type 0
Read mark next = WasRead mark

-- it hangs on the first p bits
abbrev pub SettledIn : ℕ → List Bool → ℕ → State → Type 0
SettledIn p bs mark next = SettledBy p bs mark next.at

-- what is known of the last row may be told otherwise
pub stands-as : {Ends Ends' : ℕ → State → Type 0} {row_at : ℕ → State → RowOut} {store places : ℕ} {k j : Kept} (n : ℕ) → ((mark : ℕ) (next : State) → next.at ≤ n → Ends mark next → Ends' mark next)
    → j.state.at ≤ n → Stands Ends row_at store places k j → Stands Ends' row_at store places k j
stands-as n f le (last_row {mark = mark} {next = next} e h q w) = last_row e h q (f mark next le w)
stands-as n f le (one_more e h q s) = one_more e h q (stands-as n f le s)

-- the next EOL lies behind the reader
pub settled-inside : (p : ℕ) (bs : List Bool) (mark at : ℕ) → SettledBy p bs mark at → at ≤ p
settled-inside p bs mark at (inl w) = w.1
settled-inside p bs mark at (inr (eol, e, h)) = let f = (skip-finds (length bs) bs at eol e).forward in omega arith

pub stands-inside : (p : ℕ) (bs : List Bool) {row_at : ℕ → State → RowOut} {store places : ℕ} {k j : Kept} → Stands (SettledIn p bs) row_at store places k j → j.state.at ≤ p
stands-inside p bs (last_row {mark = mark} {next = next} e h q w) = settled-inside p bs mark next.at w
stands-inside p bs (one_more e h q s) = stands-inside p bs s

module _ (enc : Encoding) (S : Settings) (wide : 0 < S.columns) (bs : List Bool) (bytes : Bytes bs) (store places : ℕ) where
  -- the reader moves on
  pub row-ahead : (room : ℕ) (st : State) (r : List ℕ) (mark : ℕ) (next : State) → row_of enc S bs room st ≡ row r mark next → st.at ≤ next.at
  row-ahead room st r mark next e = (subst (Goes bs st) e (row_goes S wide bs bytes room st enc)).forward

  pub stands-ahead : {Ends : ℕ → State → Type 0} {k j : Kept} → Stands Ends (row_of enc S bs) store places k j → k.state.at ≤ j.state.at
  stands-ahead {k = k} (last_row {r = r} {mark = mark} {next = next} e h q w) = row-ahead (store - entries k.rows) k.state r mark next e
  stands-ahead {k = k} (one_more {r = r} {mark = mark} {next = next} e h q s) = omega (arith, row-ahead (store - entries k.rows) k.state r mark next e, stands-ahead s)

  -- they are the first of the page's
  pub stands-ends : {Ends : ℕ → State → Type 0} {k j : Kept} → Stands Ends (row_of enc S bs) store places k j → ends (page_step (row_of enc S bs) store places) (rows_left bs) k ≡ ends (page_step (row_of enc S bs) store places) (rows_left bs) j
  stands-ends {k = k} (last_row {r = r} {mark = mark} {next = next} e h q w) =
      ends_more (page_step (row_of enc S bs) store places) (rows_left bs) (page-falls enc S wide bs bytes store places) k (with_row k r mark next) (page-kept enc S wide bs bytes store places k r mark next e h)
  stands-ends {k = k} (one_more {r = r} {mark = mark} {next = next} e h q s) =
      ends_more (page_step (row_of enc S bs) store places) (rows_left bs) (page-falls enc S wide bs bytes store places) k (with_row k r mark next) (page-kept enc S wide bs bytes store places k r mark next e h)
      ∙ stands-ends s

-- the row behind one more, where there is one
module _ (row_at : ℕ → State → RowOut) (store places : ℕ) where
  record Then (k j : Kept) : Type 0 where
    r : List ℕ
    mark : ℕ
    next : State
    read : row_at (store - entries k.rows) k.state ≡ row r mark next
    keeps : Keeps k.state next

  then : {k j : Kept} {Ends : ℕ → State → Type 0} → Stands Ends row_at store places k j → Then k j
  then (last_row {r = r} {mark = mark} {next = next} e h q w) = record { r = r; mark = mark; next = next; read = e; keeps = q }
  then (one_more {r = r} {mark = mark} {next = next} e h q s) = record { r = r; mark = mark; next = next; read = e; keeps = q }

module _ (S : Settings) (wide : 0 < S.columns) (bs cs : List Bool) (bytes : Bytes bs) (store places : ℕ) where
  then-ahead : (enc : Encoding) {k j : Kept} {Ends : ℕ → State → Type 0} (s : Stands Ends (row_of enc S bs) store places k j) → (then (row_of enc S bs) store places s).next.at ≤ j.state.at
  unfolding then
  then-ahead enc (last_row e h q w) = omega arith
  then-ahead enc (one_more e h q s) = stands-ahead enc S wide bs bytes store places s

  -- read; or recovered, and then the next EOL lies before the row that follows
  pub followed3 : (t : Tagging) (room room' : ℕ) (st : State) (r r' : List ℕ) (mark mark' : ℕ) (next next' : State) (n : ℕ) → row3 S t bs room st ≡ row r mark next → Keeps st next
      → row3 S t bs room' next ≡ row r' mark' next' → Keeps next next' → next.at ≤ n → next'.at ≤ n → Agree n bs cs → row3 S t cs room st ≡ row r mark next
  followed3 t room room' st r r' mark mark' next next' n e q e' q' h h' a = tests (eqb mark recovered_mark) refl
    where
      tests : (b : Bool) → eqb mark recovered_mark ≡ b → row3 S t cs room st ≡ row r mark next
      tests false c = row3-same S wide bs cs room st r mark next (agree_less next.at h a) t (eqb-false mark recovered_mark c, λ z. q) e
      tests true c =
          let m : mark ≡ recovered_mark = eqb-true mark recovered_mark c in
          let d : row3 S t bs room st ≡ row r recovered_mark next = e ∙ ap (λ (i : ℕ). row r i next) m in
          let f = follows S t wide bs room room' st r r' mark' next next' d e' q' in
          mended-same S t bs cs room st r next f.0 (agree_less (f.0 + 11) (omega (arith, f.2)) a) f.1 d ∙ ap (λ (i : ℕ). row r i next) (sym m)

  -- a row that another follows
  followed : (enc : Encoding) {Ends : ℕ → State → Type 0} (k j : Kept) (r : List ℕ) (mark : ℕ) (next : State) → row_of enc S bs (store - entries k.rows) k.state ≡ row r mark next → Keeps k.state next
      → Stands Ends (row_of enc S bs) store places (with_row k r mark next) j → Agree j.state.at bs cs → row_of enc S cs (store - entries k.rows) k.state ≡ row r mark next
  unfolding row_of
  followed group4 k j r mark next e q s a =
      row4-same S wide bs cs (store - entries k.rows) k.state r mark next (agree_less next.at (stands-ahead group4 S wide bs bytes store places s) a) e
  followed group3_1_d k j r mark next e q s a =
      let h = then (row_of group3_1_d S bs) store places s in
      followed3 untagged (store - entries k.rows) _ k.state r h.r mark h.mark next h.next j.state.at e q h.read h.keeps
      (stands-ahead group3_1_d S wide bs bytes store places s) (then-ahead group3_1_d s) a
  followed group3_2_d k j r mark next e q s a =
      let h = then (row_of group3_2_d S bs) store places s in
      followed3 tagged (store - entries k.rows) _ k.state r h.r mark h.mark next h.next j.state.at e q h.read h.keeps
      (stands-ahead group3_2_d S wide bs bytes store places s) (then-ahead group3_2_d s) a

  -- a row that hangs on the first p bits
  pub row-settles : (p : ℕ) → Agree p bs cs → (enc : Encoding) (room : ℕ) (st : State) (r : List ℕ) (mark : ℕ) (next : State) → SettledBy p bs mark next.at → Keeps st next
      → row_of enc S bs room st ≡ row r mark next → row_of enc S cs room st ≡ row r mark next
  unfolding row_of
  row-settles p a enc room st r mark next (inl w) q = row_same S wide bs cs room st r mark next (agree_less next.at w.1 a) enc (w.0, λ z. q)
  row-settles p a enc room st r mark next (inr (eol, sk, h)) q = tests (eqb mark recovered_mark) refl
    where
      near : Agree next.at bs cs
      near = agree_less next.at (settled-inside p bs mark next.at (inr (eol, sk, h))) a

      mends : (t : Tagging) → mark ≡ recovered_mark → row3 S t bs room st ≡ row r mark next → row3 S t cs room st ≡ row r mark next
      mends t m e = mended-same S t bs cs room st r next eol (agree_less (eol + 11) h a) sk (e ∙ ap (λ (i : ℕ). row r i next) m) ∙ ap (λ (i : ℕ). row r i next) (sym m)

      tests : (b : Bool) → eqb mark recovered_mark ≡ b → row_of enc S bs room st ≡ row r mark next → row_of enc S cs room st ≡ row r mark next
      tests false c = row_same S wide bs cs room st r mark next near enc (eqb-false mark recovered_mark c, λ z. q)
      tests true c = encoded enc
        where
          encoded : (enc : Encoding) → row_of enc S bs room st ≡ row r mark next → row_of enc S cs room st ≡ row r mark next
          encoded group4 = row4-same S wide bs cs room st r mark next near
          encoded group3_1_d = mends untagged (eqb-true mark recovered_mark c)
          encoded group3_2_d = mends tagged (eqb-true mark recovered_mark c)

  -- Damage never reaches back: rows of which the last hangs on the first p bits, over other data that agree with these in them.
  pub stands-over : (p : ℕ) → Agree p bs cs → (enc : Encoding) {k j : Kept} → Stands (SettledIn p bs) (row_of enc S bs) store places k j → Stands (λ mark next. Unit {0}) (row_of enc S cs) store places k j
  stands-over p a enc {k} (last_row {r = r} {mark = mark} {next = next} e h q w) = last_row (row-settles p a enc (store - entries k.rows) k.state r mark next w q e) h q tt
  stands-over p a enc {k} {j} (one_more {r = r} {mark = mark} {next = next} e h q s) =
      one_more (followed enc k j r mark next e q s (agree_less j.state.at (stands-inside p bs s) a)) h q (stands-over p a enc s)

-- ---- The page

-- these rows and marks are an answer's first
abbrev pub Fronts : Kept → Answer → Type 0
Fronts k a = (rest : List (List ℕ)) × (a.rows ≡ k.rows ++ rest) × (later : List ℕ) × (a.marks ≡ k.marks ++ later)

module _ (S : Settings) (wide : 0 < S.columns) (store places : ℕ) where
  pub page-fronts : (bs : List Bool) → Bytes bs → (k : Kept) {Ends : ℕ → State → Type 0} → Stands Ends (row_of S.encoding S bs) store places none_kept k → Fronts k (read_page S bs store places)
  unfolding read_page
  page-fronts bs bytes k s =
      let p = ends-stops (page_step (row_of S.encoding S bs) store places) (rows_left bs) (page-falls S.encoding S wide bs bytes store places) none_kept in
      subst (λ (o : Out Kept Answer). Fronts k (page_of o)) (sym p.1)
      (ends-behind S.encoding S wide bs bytes store places k p.0 (sym (stands-ends S.encoding S wide bs bytes store places s) ∙ p.1))

-- Damage never reaches back: rows that stand in the one are the first rows of both pages, with their marks.
module _ (S : Settings) (wide : 0 < S.columns) (narrow : S.columns < 4294967295) (store places : ℕ) where
  abbrev T : Settings
  T = strict_if_exact S

  decode-fronts : (bytes : List ℕ) → length bytes ≤ most_bytes → (k : Kept) {Ends : ℕ → State → Type 0} → Stands Ends (row_of S.encoding T (bits_of bytes)) store places none_kept k → Fronts k (decode S bytes store places)
  decode-fronts bytes small k s =
      let (rest, x, later, y) = page-fronts T wide store places (bits_of bytes) (whole-bytes bytes) k s in
      let d = decode-reads S wide narrow bytes small store places in
      (rest, ap (λ (a : Answer). a.rows) d ∙ short-rows S (read_page T (bits_of bytes) store places) ∙ x, later, ap (λ (a : Answer). a.marks) d ∙ short-marks S (read_page T (bits_of bytes) store places) ∙ y)

  pub never_back : (bytes bytes' : List ℕ) → length bytes ≤ most_bytes → length bytes' ≤ most_bytes → (p : ℕ) → Agree p (bits_of bytes) (bits_of bytes')
      → (k : Kept) → Stands (SettledIn p (bits_of bytes)) (row_of S.encoding T (bits_of bytes)) store places none_kept k → Fronts k (decode S bytes store places) × Fronts k (decode S bytes' store places)
  never_back bytes bytes' small small' p a k s =
      (decode-fronts bytes small k s, decode-fronts bytes' small' k (stands-over T wide (bits_of bytes) (bits_of bytes') (whole-bytes bytes) store places p a S.encoding s))

-- ---- Which rows stand

-- at the start of a page no EOLs are expected
abbrev pub Begun : State → Type 0
Begun s = s.count ≡ 0 → s.eols ≡ false

module _ (S : Settings) (wide : 0 < S.columns) (bs : List Bool) (room : ℕ) (st : State) (r : List ℕ) (mark : ℕ) (next : State) where
  row4-eols : row4 S bs room st ≡ row r mark next → (next.eols ≡ st.eols) × WasRead mark
  row4-eols = row4-cases S bs room st (λ o. o ≡ row r mark next → (next.eols ≡ st.eols) × WasRead mark) (λ h f. absurd (let z : ◌≡◌ {A = ℕ} 0 1 = cc in omega arith)) (λ h w q. cases w)
    where
      cases : (w : Went) → after_line4 S bs st w ≡ row r mark next → (next.eols ≡ st.eols) × WasRead mark
      cases (went l) f = (ap (λ (s : State). s.eols) (sym (ap (next_of next) f)), λ m. read-marked l (ap mark_of f ∙ m))
      cases (failed n p l) f = absurd (let z : ◌≡◌ {A = ℕ} 0 1 = cc in omega arith)

  module _ (t : Tagging) (e : row3 S t bs room st ≡ row r mark next) where
    g : Given S t wide bs room st r mark next
    g = given S t wide bs room st r mark next e

    -- once rows were kept, they are expected as before, or a lenient reader gave them up
    row3-eols : (st.count ≡ 0 → ⊥) → (st.eols ≡ next.eols) ⊎ ((st.eols ≡ true) × (S.strict ≡ false))
    row3-eols n = ⊎_elim (λ x. inl (x ∙ sym g.eols)) inr (before-eols S t bs st g.start g.expected (ap (before S t bs st) (sym (ne_eqb st.count 0 n)) ∙ g.begins))

    row3-settled : S.strict ≡ true → Settled st mark next
    row3-settled s = (
      (λ m. let z : true ≡ false = sym s ∙ (g.mended m).2 in let y : ◌≡◌ {A = ℕ} 0 1 = cc in omega arith),
      (λ c x. ⊎_elim (λ h. sym h ∙ x) (λ h. absurd (let z : true ≡ false = sym s ∙ h.1 in let y : ◌≡◌ {A = ℕ} 0 1 = cc in omega arith)) (row3-eols (eqb-false st.count 0 c))),
    )

  -- in Group 4 and in what is read strictly every row is settled, from any state
  pub row_settled : (enc : Encoding) → Sure enc S → row_of enc S bs room st ≡ row r mark next → Settled st mark next
  unfolding row_of
  row_settled group4 s e = let f = row4-eols e in (f.1, λ c x. f.0 ∙ x)
  row_settled group3_1_d (inl s) e = absurd (let y : ◌≡◌ {A = ℕ} 0 1 = cc in omega arith)
  row_settled group3_1_d (inr s) e = row3-settled untagged e s
  row_settled group3_2_d (inl s) e = absurd (let y : ◌≡◌ {A = ℕ} 0 1 = cc in omega arith)
  row_settled group3_2_d (inr s) e = row3-settled tagged e s

  -- and keeps EOLs, where none are expected before the first row
  pub row_sure : (enc : Encoding) → Sure enc S → Begun st → row_of enc S bs room st ≡ row r mark next → Keeps st next × WasRead mark
  row_sure enc s b e = let f = row_settled enc s e in (λ x. f.1 (ne_eqb st.count 0 (λ n. let z : true ≡ false = sym x ∙ b n in let y : ◌≡◌ {A = ℕ} 0 1 = cc in omega arith)) x, f.0)

  -- those that are not expected stay so
  pub row-falls : (enc : Encoding) → (st.count ≡ 0 → ⊥) → st.eols ≡ false → row_of enc S bs room st ≡ row r mark next → next.eols ≡ false
  unfolding row_of
  row-falls group4 n x e = (row4-eols e).0 ∙ x
  row-falls group3_1_d n x e = ⊎_elim (λ h. sym h ∙ x) (λ h. absurd (let z : true ≡ false = sym h.0 ∙ x in let y : ◌≡◌ {A = ℕ} 0 1 = cc in omega arith)) (row3-eols untagged e n)
  row-falls group3_2_d n x e = ⊎_elim (λ h. sym h ∙ x) (λ h. absurd (let z : true ≡ false = sym h.0 ∙ x in let y : ◌≡◌ {A = ℕ} 0 1 = cc in omega arith)) (row3-eols tagged e n)

  -- where none are expected behind it, it was not recovered
  row-unmended : (enc : Encoding) → next.eols ≡ false → row_of enc S bs room st ≡ row r mark next → WasRead mark
  unfolding row_of
  row-unmended group4 x e = (row4-eols e).1
  row-unmended group3_1_d x e = λ m. let z : true ≡ false = sym ((g untagged e).mended m).1 ∙ sym (g untagged e).eols ∙ x in let y : ◌≡◌ {A = ℕ} 0 1 = cc in omega arith
  row-unmended group3_2_d x e = λ m. let z : true ≡ false = sym ((g tagged e).mended m).1 ∙ sym (g tagged e).eols ∙ x in let y : ◌≡◌ {A = ℕ} 0 1 = cc in omega arith

  -- the first row of a page that expects none
  module _ (first : st.count ≡ 0) (start : st.at ≡ 0) (none : st.eols ≡ false) (b : NoEols S bs) where
    row3-bare : (t : Tagging) → row3 S t bs room st ≡ row r mark next → next.eols ≡ false
    row3-bare t e =
        let y : before S t bs st true ≡ at_line (g t e).start (g t e).expected = ap (before S t bs st) (sym (eq-eqb st.count 0 first)) ∙ (g t e).begins in
        let x : (ltb 0 (all_eols bs st.at).count || S.end_of_line) ≡ (g t e).expected = cc in
        (g t e).eols ∙ sym x ∙ (λ i. ltb 0 (all_eols bs (start i)).count || S.end_of_line) ∙ (λ i. ltb 0 (b.none_leads i) || b.never_asked i)

    row-bare : (enc : Encoding) → row_of enc S bs room st ≡ row r mark next → next.eols ≡ false
    unfolding row_of
    row-bare group4 e = (row4-eols e).0 ∙ none
    row-bare group3_1_d e = row3-bare untagged e
    row-bare group3_2_d e = row3-bare tagged e

pub last_snoc : (m : ℕ) (xs : List ℕ) (x : ℕ) → last_or m (xs ++ x ∷ []) ≡ x
unfolding last_or
last_snoc m [] x = refl
last_snoc m (y ∷ xs) x = last_snoc y xs x

module _ (enc : Encoding) (S : Settings) (wide : 0 < S.columns) (bs : List Bool) (bytes : Bytes bs) (store places : ℕ) where
  abbrev step : Kept → Out Kept Answer
  step = page_step (row_of enc S bs) store places

  pub row-counted : (room : ℕ) (st : State) (r : List ℕ) (mark : ℕ) (next : State) → row_of enc S bs room st ≡ row r mark next → next.count ≡ suc st.count
  row-counted room st r mark next e = (subst (Goes bs st) e (row_goes S wide bs bytes room st enc)).counted

  -- so many steps keep so many rows, with as many marks
  pub kept-counted : (n : ℕ) (j k : Kept) → run step n j ≡ more k → (length k.rows ≡ length j.rows + n) × (length k.marks ≡ length j.marks + n)
  unfolding run
  kept-counted zero j k = λ q. let y : j ≡ k = cc in (omega (arith, ap (λ (x : Kept). length x.rows) y), omega (arith, ap (λ (x : Kept). length x.marks) y))
  kept-counted (suc n) j k =
      page-cases enc S wide bs bytes store places j
      (λ o. and_then o (run step n) ≡ more k → (length k.rows ≡ length j.rows + suc n) × (length k.marks ≡ length j.marks + suc n))
      (λ r mark next e l q.
      let c = kept-counted n (with_row j r mark next) k q in
      (omega (arith, c.0, length-append j.rows (r ∷ [])), omega (arith, c.1, length-append j.marks (mark ∷ []))))
      (λ r mark next e l q. absurd (let z : ◌≡◌ {A = ℕ} 0 1 = cc in omega arith))
      (λ m place b loose e q. absurd (let z : ◌≡◌ {A = ℕ} 0 1 = cc in omega arith))

  -- the same rows by the page's steps: what makes a row stand, on the way from one page so far to another
  module _ (Ends : ℕ → State → Type 0) (P : Kept → Kept → Type 0)
      (goes : (n : ℕ) (k j : Kept) (r : List ℕ) (mark : ℕ) (next : State) → row_of enc S bs (store - entries k.rows) k.state ≡ row r mark next → run step (suc n) (with_row k r mark next) ≡ more j
      → step k ≡ more (with_row k r mark next) → P k j → Keeps k.state next × P (with_row k r mark next) j)
      (last : (k : Kept) (r : List ℕ) (mark : ℕ) (next : State) → row_of enc S bs (store - entries k.rows) k.state ≡ row r mark next → step k ≡ more (with_row k r mark next)
      → P k (with_row k r mark next) → Keeps k.state next × Ends mark next) where
    run-stands : (n : ℕ) (k j : Kept) → P k j → run step (suc n) k ≡ more j → Stands Ends (row_of enc S bs) store places k j
    unfolding run
    run-stands zero k j p =
        page-cases enc S wide bs bytes store places k (λ o. and_then o (run step 0) ≡ more j → Stands Ends (row_of enc S bs) store places k j)
        (λ r mark next e l q.
        let y : with_row k r mark next ≡ j = cc in
        let f = last k r mark next e (page-kept enc S wide bs bytes store places k r mark next e l) (subst (P k) (sym y) p) in
        subst (Stands Ends (row_of enc S bs) store places k) y (last_row e l f.0 f.1))
        (λ r mark next e l q. absurd (let z : ◌≡◌ {A = ℕ} 0 1 = cc in omega arith))
        (λ m place b loose e q. absurd (let z : ◌≡◌ {A = ℕ} 0 1 = cc in omega arith))
    run-stands (suc m) k j p =
        page-cases enc S wide bs bytes store places k (λ o. and_then o (run step (suc m)) ≡ more j → Stands Ends (row_of enc S bs) store places k j)
        (λ r mark next e l q.
        let f = goes m k j r mark next e q (page-kept enc S wide bs bytes store places k r mark next e l) p in
        one_more e l f.0 (run-stands m (with_row k r mark next) j f.1 q))
        (λ r mark next e l q. absurd (let z : ◌≡◌ {A = ℕ} 0 1 = cc in omega arith))
        (λ m place b loose e q. absurd (let z : ◌≡◌ {A = ℕ} 0 1 = cc in omega arith))

  -- In Group 4 and in what is read strictly all rows stand.
  pub sure-stands : Sure enc S → (n : ℕ) (j : Kept) → run step (suc n) none_kept ≡ more j → Stands Read (row_of enc S bs) store places none_kept j
  sure-stands s n j =
      run-stands Read (λ k j. Begun k.state)
      (λ m k j r mark next e q w b. ((row_sure S wide bs (store - entries k.rows) k.state r mark next enc s b e).0, λ z. absurd (omega (arith, row-counted (store - entries k.rows) k.state r mark next e))))
      (λ k r mark next e w b. row_sure S wide bs (store - entries k.rows) k.state r mark next enc s b e)
      n none_kept j (λ z. refl)

  -- EOLs that are not expected behind a row are not behind any later one
  eols-fall : (n : ℕ) (k j : Kept) → (k.state.count ≡ 0 → ⊥) → k.state.eols ≡ false → run step n k ≡ more j → j.state.eols ≡ false
  unfolding run
  eols-fall zero k j c x = λ q. let y : k ≡ j = cc in ap (λ (i : Kept). i.state.eols) (sym y) ∙ x
  eols-fall (suc n) k j c x =
      page-cases enc S wide bs bytes store places k (λ o. and_then o (run step n) ≡ more j → j.state.eols ≡ false)
      (λ r mark next e l q.
      eols-fall n (with_row k r mark next) j (λ z. omega (arith, row-counted (store - entries k.rows) k.state r mark next e)) (row-falls S wide bs (store - entries k.rows) k.state r mark next enc c x e) q)
      (λ r mark next e l q. absurd (let z : ◌≡◌ {A = ℕ} 0 1 = cc in omega arith))
      (λ m place b loose e q. absurd (let z : ◌≡◌ {A = ℕ} 0 1 = cc in omega arith))

  -- So they do where no EOLs are expected behind the first row: no row is recovered.
  module _ (first : (f : Kept) → step none_kept ≡ more f → f.state.eols ≡ false) where
    record Bare (k : Kept) : Type 0 where
      none : k.state.eols ≡ false
      next-too : (f : Kept) → step k ≡ more f → f.state.eols ≡ false

    bare-next : (k : Kept) (r : List ℕ) (mark : ℕ) (next : State) → row_of enc S bs (store - entries k.rows) k.state ≡ row r mark next → next.eols ≡ false → Bare (with_row k r mark next)
    bare-next k r mark next e x = record {
      none = x;
      next-too = λ f.
          page-cases enc S wide bs bytes store places (with_row k r mark next) (λ o. o ≡ more f → f.state.eols ≡ false)
          (λ r' mark' next' e' l q.
          let y : with_row (with_row k r mark next) r' mark' next' ≡ f = cc in
          ap (λ (i : Kept). i.state.eols) (sym y)
          ∙ row-falls S wide bs (store - entries (with_row k r mark next).rows) next r' mark' next' enc (λ z. omega (arith, row-counted (store - entries k.rows) k.state r mark next e)) x e')
          (λ r' mark' next' e' l q. absurd (let z : ◌≡◌ {A = ℕ} 0 1 = cc in omega arith))
          (λ m place b loose e' q. absurd (let z : ◌≡◌ {A = ℕ} 0 1 = cc in omega arith));
    }

    keeps-none : (k : Kept) (next : State) → Bare k → Keeps k.state next
    keeps-none k next b x = absurd (let z : true ≡ false = sym x ∙ b.none in let y : ◌≡◌ {A = ℕ} 0 1 = cc in omega arith)

    pub bare-stands : (n : ℕ) (j : Kept) → run step (suc n) none_kept ≡ more j → Stands Read (row_of enc S bs) store places none_kept j
    bare-stands n j =
        run-stands Read (λ k j. Bare k)
        (λ m k j r mark next e q w b. (keeps-none k next b, bare-next k r mark next e (b.next-too (with_row k r mark next) w)))
        (λ k r mark next e w b. (keeps-none k next b, row-unmended S wide bs (store - entries k.rows) k.state r mark next enc (b.next-too (with_row k r mark next) w) e))
        n none_kept j (record { none = refl; next-too = first })

  -- as of a page that does not begin with an EOL, with end_of_line off
  pub bare-first : NoEols S bs → (f : Kept) → step none_kept ≡ more f → f.state.eols ≡ false
  bare-first b f =
      page-cases enc S wide bs bytes store places none_kept (λ o. o ≡ more f → f.state.eols ≡ false)
      (λ r mark next e l q. let y : with_row none_kept r mark next ≡ f = cc in ap (λ (i : Kept). i.state.eols) (sym y) ∙ row-bare S wide bs (store - entries none_kept.rows) page_start r mark next refl refl refl b enc e)
      (λ r mark next e l q. absurd (let z : ◌≡◌ {A = ℕ} 0 1 = cc in omega arith))
      (λ m place b loose e q. absurd (let z : ◌≡◌ {A = ℕ} 0 1 = cc in omega arith))

  -- Elsewhere those do of whose last row enough is known, where EOLs are expected behind it if they were behind the first.
  module _ (Ends : ℕ → State → Type 0) (j : Kept) (last : Ends (last_or 0 j.marks) j.state) where
    record Holds (k i : Kept) : Type 0 where
      same : i ≡ j
      begun : Begun k.state
      later : (k.state.count ≡ 0 → ⊥) → Keeps k.state j.state
      first : k.state.count ≡ 0 → (f : Kept) → step k ≡ more f → Keeps f.state j.state

    -- behind each row
    holds-next : (n : ℕ) (k : Kept) (r : List ℕ) (mark : ℕ) (next : State) → row_of enc S bs (store - entries k.rows) k.state ≡ row r mark next → run step n (with_row k r mark next) ≡ more j
        → step k ≡ more (with_row k r mark next) → Holds k j → Keeps k.state next × Keeps next j.state
    holds-next n k r mark next e q w h = tests (eqb k.state.count 0) refl next.eols refl
      where
        c : next.count ≡ suc k.state.count
        c = row-counted (store - entries k.rows) k.state r mark next e

        fallen : next.eols ≡ false → j.state.eols ≡ true → ⊥
        fallen x y = let z : true ≡ false = sym y ∙ eols-fall n (with_row k r mark next) j (λ z. omega (arith, c)) x q in let i : ◌≡◌ {A = ℕ} 0 1 = cc in omega arith

        tests : (b : Bool) → eqb k.state.count 0 ≡ b → (x : Bool) → next.eols ≡ x → Keeps k.state next × Keeps next j.state
        tests true z x y =
            let u = eqb-true k.state.count 0 z in
            (λ v. absurd (let i : true ≡ false = sym v ∙ h.begun u in let o : ◌≡◌ {A = ℕ} 0 1 = cc in omega arith), h.first u (with_row k r mark next) w)
        tests false z true y = (λ v. y, λ v. kept k.state.eols refl)
          where
            kept : (b : Bool) → k.state.eols ≡ b → j.state.eols ≡ true
            kept true o = h.later (eqb-false k.state.count 0 z) o
            kept false o = absurd (let i : true ≡ false = sym y ∙ row-falls S wide bs (store - entries k.rows) k.state r mark next enc (eqb-false k.state.count 0 z) o e in let p : ◌≡◌ {A = ℕ} 0 1 = cc in omega arith)
        tests false z false y = (λ v. absurd (fallen y (h.later (eqb-false k.state.count 0 z) v)), λ v. absurd (let i : true ≡ false = sym v ∙ y in let o : ◌≡◌ {A = ℕ} 0 1 = cc in omega arith))

    pub read-stands : (n : ℕ) → ((f : Kept) → step none_kept ≡ more f → Keeps f.state j.state) → run step (suc n) none_kept ≡ more j → Stands Ends (row_of enc S bs) store places none_kept j
    unfolding run
    read-stands n first =
        run-stands Ends Holds
        (λ m k i r mark next e q w h.
        let f = holds-next (suc m) k r mark next e (q ∙ ap (λ (x : Kept). more x) h.same) w (subst (Holds k) h.same h) in
        (f.0, record { same = h.same; begun = λ z. absurd (omega (arith, row-counted (store - entries k.rows) k.state r mark next e)); later = λ z. f.1; first = λ z. absurd (omega (arith, row-counted (store - entries k.rows) k.state r mark next e)) }))
        (λ k r mark next e w h.
        let f = holds-next 0 k r mark next e (ap (λ (x : Kept). more x) h.same) w (subst (Holds k) h.same h) in
        (f.0, subst (λ (m : ℕ). Ends m next) (last_snoc 0 k.marks mark) (subst (λ (x : Kept). Ends (last_or 0 x.marks) x.state) (sym h.same) last)))
        n none_kept j (record { same = refl; begun = λ z. refl; later = λ z. absurd (z refl); first = λ z. first })
