-- A Group 3 page that is written is read back: its rows and its length, where nothing but zeros follows. One argument over the kind of line and over what
-- stands between lines; each layout adds only what is read before a line and at the end. Assumes nothing.
use mathlib.Core.Path.{◌≡◌, refl, sym, ap, ap₂, ◌∙◌, subst}
use mathlib.Core.Bool.{Bool, true, false, cond, not, ◌&&◌, ◌||◌, and-false}
use mathlib.Core.List.{List, [], ◌∷◌, ◌++◌, append_assoc}
use mathlib.Core.Logic.{◌⊎◌, inl, inr}
use mathlib.Core.Option.{none, some}
use Prim.Native.Nat.{ℕ, zero, suc, ◌+◌, ◌-◌, ◌≤◌, ◌<◌}
use native.Mathlib.Omega.{arith}
use native.Mathlib.Nat.{zero-add}
use lib.Dec.{T, eqb, leb}
use lib.ListN.{length, drop, replicate, length-append, length-replicate, length-drop}
use borrow.Author.Tests.{lt-ltb, le-leb, lt-leb, eq-eqb, ne_eqb, eqb-false, eqb-true}
use Rattle.rules.specs.Bits.{front_bit}
use Rattle.rules.specs.Codes.{Colour, white, Code, code_bits}
use Rattle.rules.specs.Runs.{Made, last, next, For}
use Rattle.rules.specs.Lines.{Rules, Kind, one, two, read_line}
use Rattle.rules.specs.Eols.{zero_run, Eols, eols_to, all_eols}
use Rattle.rules.specs.Group3.{Tagging, untagged, tagged, between_tags, eols3, Before, at_line, at_end, leading, judged, checked, check_eob, before, line3, tagged_line, after_line3, row_from, row3}
use Rattle.rules.specs.Rows.{Encoding, group3_1_d, group3_2_d, Settings, State, page_start, RowOut, row, rules_of, aligned_if, finished}
use Rattle.rules.specs.Pages.{entries, row_of, read_page}
use Rattle.rules.specs.Write.{codes_bits, run_bits, bits_1d, line_bits, eol_bits}
use Rattle.rules.specs.WriteGroup3.{Layout, bare, filled, mixed, k_of, kind_next, left_next, tag_of, ahead, times, ending, framed, coded_lines, page3_bits}
use Rattle.rules.proofs.Bits.{drop-after, fits_after}
use Rattle.rules.proofs.Codes.{holds_one, zeros_before, shape}
use Rattle.rules.proofs.WriteRuns.{made-run}
use Rattle.rules.proofs.Eols.{zeros-inside}
use Rattle.rules.specs.Rising.{Rising, none as no-changes, Rows, no_rows, row_then}
use Rattle.rules.proofs.ReadBack.{Proper, Reads, read-line}
use Rattle.rules.specs.Damage.{all_clean}
use Rattle.rules.proofs.PageBack.{Soon, line-zeros, Given, page-ends, row-given, given-page, whole}
use Rattle.rules.proofs.EolChains.{Quiet, soon-quiet, none-quiet, chain-all, eol-long, after-bit, fill-then, fill-after, fill_one, eols-chain, tags-stay, tags-chain}

-- ---- What a line begins with

-- a word with a one, whatever follows
pub word-zeros : (xs rest : List Bool) → T (holds_one xs) → zero_run (xs ++ rest) ≡ some (zeros_before xs)
unfolding zero_run holds_one zeros_before
word-zeros [] rest t = absurd t
word-zeros (true ∷ xs) rest t = refl
word-zeros (false ∷ xs) rest t = rw (word-zeros xs rest t)

code-begins : (colour : Colour) (c : Code) {run : ℕ} → For colour run c → (rest : List Bool) → Soon 7 (code_bits c ++ rest)
code-begins colour c f rest =
    let s = shape colour c f.member in
    (zeros_before (code_bits c), word-zeros (code_bits c) rest s.has_one, s.leading)

made-begins : {colour : Colour} {n : ℕ} {cs : List Code} → Made colour n cs → (rest : List Bool) → Soon 7 (codes_bits cs ++ rest)
unfolding codes_bits
made-begins {colour} (last {c = c} f h) rest = rw (append_assoc (code_bits c) [] rest) (code-begins colour c f rest)
made-begins {colour} (next {c = c} {cs = cs} f h m) rest = rw (append_assoc (code_bits c) (codes_bits cs) rest) (code-begins colour c f (codes_bits cs ++ rest))

-- a line of either kind begins with seven zeros at most
pub line-begins : (width : ℕ) → 0 < width → (kind : Kind) (r : List ℕ) (rest : List Bool)
    → Soon 7 (line_bits width kind r ++ rest)
unfolding line_bits bits_1d run_bits
line-begins width wide one [] rest = made-begins (made-run white (width - 0)) rest
line-begins width wide one (x ∷ xs) rest =
    rw (append_assoc (run_bits white (x - 0)) _ rest) (made-begins (made-run white (x - 0)) _)
line-begins width wide (two reference) r rest =
    let z = line-zeros width reference r wide rest in
    (z.0, z.1, omega (arith, z.2))

-- ---- Before a row, by the EOLs that stand there

module _ (S : Settings) (t : Tagging) (bs : List Bool) (st : State) where
  -- the bit from which they are read
  abbrev pub from : ℕ
  from = aligned_if (S.aligned && not st.eols) st.at

  module _ (E : Eols) (found : eols3 bs t from ≡ E) where
    check : (rows_done : Bool) → eqb st.count S.rows ≡ rows_done → before S t bs st false ≡ check_eob S t bs st rows_done E
    check d q = ap₂ (λ (b : Bool) (x : Eols). check_eob S t bs st b x) q found

    -- fewer than six, and more rows to come: on behind them
    pub goes_on : eqb st.count S.rows ≡ false → E.count < 6 → E.at < length bs → (E.count ≡ 0 → st.eols ≡ false) → before S t bs st false ≡ at_line E.at st.eols
    goes_on q few inside none_read = check false q ∙ tests (eqb E.count 0) (eqb-true E.count 0)
      where
        judges : judged S t bs false st.eols E ≡ at_line E.at st.eols
        judges = rw (lt-leb 6 E.count few, and-false S.end_of_block, lt-leb (length bs) E.at inside)

        tests : (b : Bool) → (b ≡ true → E.count ≡ 0)
            → checked S t bs false st E ((b && st.eols) && not (false || leb (length bs) E.at)) ≡ at_line E.at st.eols
        tests true h = rw (none_read (h refl)) (ap (λ (x : Bool). judged S t bs false x E) (sym (none_read (h refl))) ∙ judges ∙ ap (at_line E.at) (none_read (h refl)))
        tests false h = judges

    -- all rows are there: the end
    pub ends-rows : eqb st.count S.rows ≡ true → before S t bs st false ≡ at_end E.at
    ends-rows q = check true q ∙ tests (eqb E.count 0 && st.eols) (S.end_of_block && leb 6 E.count) refl
      where
        tests : (a b : Bool) → (S.end_of_block && leb 6 E.count) ≡ b → checked S t bs true st E (a && false) ≡ at_end E.at
        tests a true q = rw (and-false a, q)
        tests a false q = rw (and-false a, q)

    -- six: the end
    pub ends-six : S.end_of_block ≡ true → 6 ≤ E.count → before S t bs st false ≡ at_end E.at
    ends-six q h = check (eqb st.count S.rows) refl ∙ rw (ne_eqb E.count 0 (λ z. omega arith)) (tests S.end_of_block q)
      where
        tests : (b : Bool) → b ≡ true
            → ◌≡◌ {A = Before S t bs} (cond ((b && leb 6 E.count) || (eqb st.count S.rows || leb (length bs) E.at)) (at_end E.at) (at_line E.at st.eols)) (at_end E.at)
        tests true e = rw (le-leb 6 E.count h)
        tests false e = absurd (let z : ◌≡◌ {A = ℕ} 0 1 = cc in omega arith)

-- ---- Layouts

-- how a page of a layout is read, and whether it has EOLs
abbrev pub tagging_for : Layout → Tagging
tagging_for bare = untagged
tagging_for (filled fill) = untagged
tagging_for (mixed k) = tagged

abbrev pub encoding_of : Tagging → Encoding
encoding_of untagged = group3_1_d
encoding_of tagged = group3_2_d

abbrev pub has_eols : Layout → Bool
has_eols bare = false
has_eols (filled fill) = true
has_eols (mixed k) = true

-- the bits before a line that are read as EOLs: all but a tag bit
abbrev lead : Layout → ℕ
lead bare = 0
lead (filled fill) = fill + 12
lead (mixed k) = 12

lead-fits : (layout : Layout) (kind : Kind) → lead layout ≤ length (ahead layout kind)
lead-fits bare kind = omega arith
lead-fits (filled fill) kind = omega (arith, length-append (replicate fill false) eol_bits, length-replicate fill false, eol-long)
lead-fits (mixed k) kind = omega (arith, length-append eol_bits (tag_of kind ∷ []), eol-long)

-- how many EOLs are read before a line
abbrev before-one : Layout → ℕ
before-one layout = cond (has_eols layout) 1 0

module _ (bs : List Bool) where
  -- a tag bit before a line ends no EOL, and neither does the line's first one
  tag-soon : (b : Bool) (l : List Bool) → Soon 7 l → Soon 10 (b ∷ l)
  unfolding zero_run
  tag-soon true l h = (0, refl, omega arith)
  tag-soon false l (z, e, h) = (suc z, rw e, omega arith)

  tag-then : (a : ℕ) (b : Bool) (l : List Bool) → drop a bs ≡ b ∷ l → Soon 7 l → (front_bit (drop a bs) ≡ false) ⊎ Quiet bs (suc a)
  tag-then a false l d s = inl (ap front_bit d)
  tag-then a true l d (z, q, h) = inr (soon-quiet bs (suc a) (z, ap zero_run (after-bit bs a true l d) ∙ q, omega arith))

  -- what is read before a line: at the page's start, and later
  eols-before : (layout : Layout) (kind : Kind) (at : ℕ) (l : List Bool) → drop at bs ≡ ahead layout kind ++ l → Soon 7 l
      → (all_eols bs at ≡ eols_to (before-one layout) (at + lead layout)) × (eols3 bs (tagging_for layout) at ≡ eols_to (before-one layout) (at + lead layout))
  eols-before bare kind at l e (z, q, h) =
      let r : all_eols bs at ≡ eols_to 0 (at + 0) = soon-quiet bs at (z, ap zero_run e ∙ q, omega arith) (length bs) ∙ ap (eols_to 0) (let p : at ≡ at + 0 = omega arith in p) in
      (r, r)
  eols-before (filled fill) kind at l e (z, q, h) =
      let r = chain-all (fill_one bs fill at l (e ∙ append_assoc (replicate fill false) eol_bits l) (z, q, omega arith)) in
      (r, r)
  eols-before (mixed k) kind at l e h =
      let here : drop at bs ≡ eol_bits ++ (tag_of kind ∷ l) = e ∙ append_assoc eol_bits (tag_of kind ∷ []) l in
      let r : all_eols bs at ≡ eols_to 1 (at + 12) = chain-all (fill_one bs 0 at (tag_of kind ∷ l) here (tag-soon (tag_of kind) l h)) in
      (r, ap (λ (x : Eols). cond (eqb x.count 0) x (between_tags (length bs) bs x)) r ∙ tags-stay bs (length bs) (at + 12) (tag-then (at + 12) (tag_of kind) l (fill-after bs 0 at (tag_of kind ∷ l) here) h))

  -- the line behind it, by its tag bit where there is one
  line-behind : (S : Settings) (layout : Layout) (R : Rules) (left : ℕ) (reference : List ℕ) → left ≤ k_of layout - 1 → (at : ℕ) (l : List Bool)
      → drop at bs ≡ ahead layout (kind_next left reference) ++ l
      → line3 S (tagging_for layout) bs R reference (at + lead layout) (tagging_for layout) ≡ read_line R (kind_next left reference) bs (at + length (ahead layout (kind_next left reference)))
  unfolding eol_bits
  line-behind S bare R zero reference h at l e = refl
  line-behind S bare R (suc left) reference h at l e = absurd (omega arith)
  line-behind S (filled fill) R zero reference h at l e =
      ap (λ (n : ℕ). read_line R one bs (at + n)) (let q : fill + 12 ≡ length (replicate fill false ++ eol_bits) = rw (length-append, length-replicate) in q)
  line-behind S (filled fill) R (suc left) reference h at l e = absurd (omega arith)
  line-behind S (mixed k) R left reference h at l e =
      rw (lt-ltb (at + 12) (length bs) (omega (arith, fits_after bs (tag_of kind ∷ []) l (at + 12) here (omega arith))))
      (ap (tagged_line S tagged bs R reference (at + 12)) (ap front_bit here) ∙ by-tag left)
    where
      kind : Kind
      kind = kind_next left reference

      here : drop (at + 12) bs ≡ tag_of kind ∷ l
      here = fill-after bs 0 at (tag_of kind ∷ l) (e ∙ append_assoc eol_bits (tag_of kind ∷ []) l)

      by-tag : (left : ℕ) → tagged_line S tagged bs R reference (at + 12) (tag_of (kind_next left reference)) ≡ read_line R (kind_next left reference) bs (at + 13)
      by-tag zero = ap (read_line R one bs) (let p : suc (at + 12) ≡ at + 13 = omega arith in p)
      by-tag (suc left) = ap (read_line R (two reference) bs) (let p : suc (at + 12) ≡ at + 13 = omega arith in p)

  -- what is read behind the last line
  eols-end : (layout : Layout) (at : ℕ) (rest : List Bool) → drop at bs ≡ ending layout ++ rest → zero_run rest ≡ none
      → eols3 bs (tagging_for layout) at ≡ eols_to (cond (has_eols layout) 6 0) (at + length (ending layout))
  unfolding times zero_run
  eols-end bare at rest e q = none-quiet bs at (ap zero_run e ∙ q) (length bs) ∙ ap (eols_to 0) (let p : at ≡ at + 0 = omega arith in p)
  eols-end (filled fill) at rest e q =
      let here : drop at bs ≡ replicate fill false ++ (eol_bits ++ (times 5 eol_bits ++ rest)) = e ∙ append_assoc (replicate fill false) (eol_bits ++ times 5 eol_bits) rest ∙ ap (λ (l : List Bool). replicate fill false ++ l) (append_assoc eol_bits (times 5 eol_bits) rest) in
      let size : at + (fill + 12) + length (times 5 eol_bits) ≡ at + length (replicate fill false ++ (eol_bits ++ times 5 eol_bits)) =
      omega (arith, length-append (replicate fill false) (eol_bits ++ times 5 eol_bits), length-append eol_bits (times 5 eol_bits), length-replicate fill false, eol-long) in
      chain-all (fill-then bs fill at _ here (eols-chain bs 5 (at + (fill + 12)) rest (fill-after bs fill at _ here) q)) ∙ ap (eols_to 6) size
  eols-end (mixed k) at rest e q =
      let tag1 : List Bool = eol_bits ++ true ∷ [] in
      let here : drop at bs ≡ eol_bits ++ (true ∷ (times 5 tag1 ++ rest)) = e ∙ append_assoc tag1 (times 5 tag1) rest ∙ append_assoc eol_bits (true ∷ []) (times 5 tag1 ++ rest) in
      let size : suc (at + 12) + length (times 5 tag1) ≡ at + length (tag1 ++ times 5 tag1) = omega (arith, length-append tag1 (times 5 tag1), length-append eol_bits (true ∷ []), eol-long) in
      ap (λ (x : Eols). cond (eqb x.count 0) x (between_tags (length bs) bs x)) (chain-all (fill_one bs 0 at _ here (0, refl, omega arith)))
      ∙ tags-chain bs (length bs) 5 1 (at + 12) rest (fill-after bs 0 at _ here) q (omega (arith, ap length here, length-drop at bs, length-append eol_bits (true ∷ (times 5 tag1 ++ rest)), eol-long)) (omega arith)
      ∙ ap (eols_to 6) size

-- ---- Settings

-- What the settings must say of a page of n rows, with or without EOLs. Without: end_of_line off, unaligned, and the true number of rows. With them:
-- end_of_block, and no number of rows or the true one; end_of_line and alignment do not matter.
abbrev pub Says : Settings → ℕ → Bool → Type 0
Says S n false = (S.end_of_line ≡ false) × (S.aligned ≡ false) × (S.rows ≡ n)
Says S n true = (S.end_of_block ≡ true) × ((S.rows ≡ 0) ⊎ (S.rows ≡ n))

pub record Told (S : Settings) (n : ℕ) (layout : Layout) : Type 0 where
  pub encoded : S.encoding ≡ encoding_of (tagging_for layout)
  pub wide : 0 < S.columns
  pub narrow : S.columns ≤ 4294967295
  pub says : Says S n (has_eols layout)

module _ (S : Settings) (n : ℕ) where
  -- no number of rows, or the true one
  pub true-rows : (eols : Bool) → Says S n eols → (S.rows ≡ 0) ⊎ (S.rows ≡ n)
  true-rows false (_, _, e) = inr e
  true-rows true (_, e) = e

  -- with rows to come, and some read, it is not reached
  not-all : (S.rows ≡ 0) ⊎ (S.rows ≡ n) → (count : ℕ) → 0 < count → count < n → eqb count S.rows ≡ false
  not-all (inl e) count h k = ne_eqb count S.rows (λ q. omega arith)
  not-all (inr e) count h k = ne_eqb count S.rows (λ q. omega arith)

  module _ (bs : List Bool) (layout : Layout) (says : Says S n (has_eols layout)) (st : State) where
    abbrev t : Tagging
    t = tagging_for layout

    -- EOLs are read from the bit at which the reader stands
    from-here : (eols : Bool) → Says S n eols → st.eols ≡ eols → from S t bs st ≡ st.at
    from-here false (_, a, _) q = rw a
    from-here true _ q = rw (q, and-false S.aligned)

    -- before a line
    lands : (kind : Kind) (l : List Bool) → st.count < n → (0 < st.count → st.eols ≡ has_eols layout) → drop st.at bs ≡ ahead layout kind ++ l → Soon 7 l
        → before S t bs st (eqb st.count 0) ≡ at_line (st.at + lead layout) (has_eols layout)
    lands kind l few expects e soon = tests (eqb st.count 0) refl
      where
        E : Eols
        E = eols_to (before-one layout) (st.at + lead layout)

        leads : (eols : Bool) → Says S n eols → leading S t bs (eols_to (cond eols 1 0) (st.at + lead layout)) ≡ at_line (st.at + lead layout) eols
        leads false (q, _, _) = ap (at_line (st.at + lead layout)) q
        leads true _ = refl

        one_at_most : (eols : Bool) → cond eols 1 0 < 6
        one_at_most false = omega arith
        one_at_most true = omega arith

        none_read : (eols : Bool) → ◌≡◌ {A = ℕ} (cond eols 1 0) 0 → eols ≡ false
        none_read false z = refl
        none_read true z = absurd (omega arith)

        tests : (b : Bool) → eqb st.count 0 ≡ b → before S t bs st b ≡ at_line (st.at + lead layout) (has_eols layout)
        tests true q = ap (leading S t bs) (eols-before bs layout kind st.at l e soon).0 ∙ leads (has_eols layout) says
        tests false q =
            let some_read : 0 < st.count = omega (arith, eqb-false st.count 0 q) in
            let found = ap (eols3 bs t) (from-here (has_eols layout) says (expects some_read)) ∙ (eols-before bs layout kind st.at l e soon).1 in
            goes_on S t bs st E found (not-all (true-rows (has_eols layout) says) st.count some_read few) (one_at_most (has_eols layout))
            (omega (arith, lead-fits layout kind, zeros-inside l soon.0 soon.1, ap length e, length-append (ahead layout kind) l, length-drop st.at bs))
            (λ z. expects some_read ∙ none_read (has_eols layout) z)
            ∙ ap (at_line (st.at + lead layout)) (expects some_read)

    -- behind the last line
    stops-here : (rest : List Bool) → st.count ≡ n → st.eols ≡ has_eols layout → drop st.at bs ≡ ending layout ++ rest → zero_run rest ≡ none
        → before S t bs st false ≡ at_end (st.at + length (ending layout))
    stops-here rest all expects e q =
        by (has_eols layout) says (ap (eols3 bs t) (from-here (has_eols layout) says expects) ∙ eols-end bs layout st.at rest e q)
      where
        by : (eols : Bool) → Says S n eols → eols3 bs t (from S t bs st) ≡ eols_to (cond eols 6 0) (st.at + length (ending layout))
            → before S t bs st false ≡ at_end (st.at + length (ending layout))
        by false (_, _, c) found = ends-rows S t bs st _ found (eq-eqb st.count S.rows (all ∙ sym c))
        by true (b, _) found = ends-six S t bs st _ found b (omega arith)

-- ---- The rows of a page

module _ (S : Settings) (n : ℕ) (layout : Layout) (told : Told S n layout) (bs : List Bool) where
  abbrev row_at : ℕ → State → RowOut
  row_at = row3 S (tagging_for layout) bs

  -- a row's bits, of the kind that comes next: what stands before its line, and the line
  abbrev front : ℕ → List ℕ → List Bool
  front left above = ahead layout (kind_next left above)

  abbrev line : ℕ → List ℕ → List ℕ → List Bool
  line left above r = line_bits S.columns (kind_next left above) r

  -- the state after a row of so many bits
  abbrev after : ℕ → State → List ℕ → State
  after size st r = record { at = st.at + size; reference = r; count = suc st.count; eols = has_eols layout }

  -- what holds between rows, of which so many are to come
  record Standing (left : ℕ) (st : State) (later : ℕ) : Type 0 where
    few-left : left ≤ k_of layout - 1
    counted : st.count + later ≡ n
    expects : 0 < st.count → st.eols ≡ has_eols layout
    rises : Rising S.columns 0 st.reference

  stands_on : (left : ℕ) (st : State) (later size : ℕ) (r : List ℕ) → Rising S.columns 0 r → Standing left st (suc later) → Standing (left_next (k_of layout) left) (after size st r) later
  stands_on left st later size r up h = record { few-left = fewer left h.few-left; counted = omega (arith, h.counted); expects = λ _. refl; rises = up }
    where
      fewer : (left : ℕ) → left ≤ k_of layout - 1 → left_next (k_of layout) left ≤ k_of layout - 1
      fewer zero h = omega arith
      fewer (suc left) h = omega arith

  -- a row that is written, of either kind
  read-row3 : (room left later : ℕ) (st : State) (r : List ℕ) (rest : List Bool) → Standing left st (suc later) → Rising S.columns 0 r → length r ≤ room
      → drop st.at bs ≡ front left st.reference ++ (line left st.reference r ++ rest)
      → row_at room st ≡ row r 0 (after (length (front left st.reference) + length (line left st.reference r)) st r)
  unfolding row3
  read-row3 room left later st r rest h up roomy e =
      ap (row_from S t bs room st) (lands S n bs layout told.says st kind (L ++ rest) (omega (arith, h.counted)) h.expects e (line-begins S.columns told.wide kind r rest))
      ∙ ap (after_line3 S t bs (rules_of S room) st (st.at + lead layout) (has_eols layout)) (line-behind bs S layout (rules_of S room) left st.reference h.few-left st.at (L ++ rest) e ∙ reads.1)
      ∙ ap (λ (a : ℕ). row r 0 (record { at = a; reference = r; count = suc st.count; eols = has_eols layout })) (let q : st.at + length F + length L ≡ st.at + (length F + length L) = omega arith in q)
    where
      t : Tagging
      t = tagging_for layout

      kind : Kind
      kind = kind_next left st.reference

      F : List Bool
      F = front left st.reference

      L : List Bool
      L = line left st.reference r

      proper : (left : ℕ) → Proper S.columns (kind_next left st.reference)
      proper zero = tt
      proper (suc left) = h.rises

      reads : Reads (rules_of S room) kind bs (st.at + length F) (length L) r
      reads = read-line (rules_of S room) told.wide told.narrow kind (proper left) r up roomy bs rest (st.at + length F) (drop-after bs F (L ++ rest) st.at e)

  -- the end of the page
  read-end3 : (room left : ℕ) (st : State) (rest : List Bool) → 0 < n → Standing left st 0 → drop st.at bs ≡ ending layout ++ rest → zero_run rest ≡ none
      → row_at room st ≡ finished (st.at + length (ending layout))
  unfolding row3
  read-end3 room left st rest some-rows h e q =
      let some_read : 0 < st.count = omega (arith, h.counted) in
      ap (λ (b : Bool). row_from S (tagging_for layout) bs room st (before S (tagging_for layout) bs st b)) (ne_eqb st.count 0 (λ z. omega arith))
      ∙ ap (row_from S (tagging_for layout) bs room st) (stops-here S n bs layout told.says st rest (omega (arith, h.counted)) (h.expects some_read) e q)

  abbrev lines : ℕ → List ℕ → List (List ℕ) → List Bool
  lines left reference rs = framed layout (coded_lines S.columns (k_of layout) left reference rs)

  -- all its rows, and its end
  read-rows3 : (rs : List (List ℕ)) (room left : ℕ) (st : State) (rest : List Bool) → 0 < n → Standing left st (length rs) → Rows S.columns rs → entries rs ≤ room → zero_run rest ≡ none
      → drop st.at bs ≡ lines left st.reference rs ++ rest
      → Given row_at room st rs (all_clean rs) (st.at + length (lines left st.reference rs))
  unfolding coded_lines framed entries
  read-rows3 [] room left st rest some-rows h no_rows roomy q e = page-ends (read-end3 room left st rest some-rows h e q)
  read-rows3 (r ∷ rs) room left st rest some-rows h (row_then up ups) roomy q e =
      row-given (read-row3 room left (length rs) st r (later ++ rest) h up (omega arith) here)
      (subst (Given row_at (room - length r) next' rs (all_clean rs)) size
      (read-rows3 rs (room - length r) (left_next (k_of layout) left) next' rest some-rows (stands_on left st (length rs) _ r up h) ups (omega arith) q there))
    where
      F : List Bool
      F = front left st.reference

      L : List Bool
      L = line left st.reference r

      later : List Bool
      later = lines (left_next (k_of layout) left) r rs

      next' : State
      next' = after (length F + length L) st r

      here : drop st.at bs ≡ F ++ (L ++ (later ++ rest))
      here = e ∙ simp append_assoc

      there : drop (st.at + (length F + length L)) bs ≡ later ++ rest
      there =
          ap (λ (a : ℕ). drop a bs) (let z : st.at + (length F + length L) ≡ st.at + length F + length L = omega arith in z)
          ∙ drop-after bs L (later ++ rest) (st.at + length F) (drop-after bs F (L ++ (later ++ rest)) st.at here)

      size : st.at + (length F + length L) + length later ≡ st.at + length (F ++ (L ++ later))
      size = omega (arith, length-append F (L ++ later), length-append L later)

-- ---- A page

-- a Group 3 page is read by rows of its tagging
pub rows_are : (S : Settings) (t : Tagging) → S.encoding ≡ encoding_of t → (bs : List Bool) → row_of S.encoding S bs ≡ row3 S t bs
unfolding row_of
rows_are S t e bs = ap (λ (c : Encoding). row_of c S bs) e ∙ by t
  where
    by : (t : Tagging) → row_of (encoding_of t) S bs ≡ row3 S t bs
    by untagged = refl
    by tagged = refl

-- a page has no more rows than bits
lines_long : (width : ℕ) → 0 < width → (layout : Layout) (left : ℕ) (reference : List ℕ) (rows : List (List ℕ))
    → length rows ≤ length (framed layout (coded_lines width (k_of layout) left reference rows))
unfolding coded_lines framed
lines_long width wide layout left reference [] = omega arith
lines_long width wide layout left reference (r ∷ rs) =
    let kind = kind_next left reference in
    let line = line_bits width kind r in
    let later = framed layout (coded_lines width (k_of layout) (left_next (k_of layout) left) r rs) in
    let z = line-begins width wide kind r [] in
    omega (
      arith,
      length-append (ahead layout kind) (line ++ later),
      length-append line later,
      zeros-inside (line ++ []) z.0 z.1,
      length-append line [],
      lines_long width wide layout (left_next (k_of layout) left) r rs,
    )

-- A Group 3 page of some rows, of any layout, is read back, strict, lenient or exact: its rows, all clean, and its length, with room for them, where no one follows it.
pub read-page3 : (S : Settings) (layout : Layout) (rows : List (List ℕ)) → Told S (length rows) layout → 0 < length rows → Rows S.columns rows
    → (store places : ℕ) → entries rows ≤ store → length rows ≤ places → (rest : List Bool) → zero_run rest ≡ none
    → read_page S (page3_bits S.columns layout rows ++ rest) store places ≡ whole (length (page3_bits S.columns layout rows)) rows (all_clean rows)
unfolding page3_bits
read-page3 S layout rows told some-rows rises store places roomy placed rest q =
    given-page S bs store places
    (subst (λ (f : ℕ → State → RowOut). Given f store page_start rows (all_clean rows) (0 + length page)) (sym (rows_are S (tagging_for layout) told.encoded bs))
    (read-rows3 S (length rows) layout told bs rows store 0 page_start rest some-rows stands rises roomy q refl))
    placed (omega (arith, length-append page rest, lines_long S.columns told.wide layout 0 [] rows))
    ∙ ap (λ (a : ℕ). whole a rows (all_clean rows)) (zero-add (length page))
  where
    page : List Bool
    page = page3_bits S.columns layout rows

    bs : List Bool
    bs = page ++ rest

    stands : Standing S (length rows) layout told bs 0 page_start (length rows)
    stands = record { few-left = omega arith; counted = omega arith; expects = λ h. absurd (omega arith); rises = no-changes }
