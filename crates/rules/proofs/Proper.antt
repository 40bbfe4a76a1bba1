-- Laws of proper pages: two with the same rows by the same writer are the same bytes; what a writer wrote is proper; a page that is proper is so by the writer that is found; and where a
-- page parts from what would be written. Assumes nothing.
use mathlib.Core.Path.{◌≡◌, refl, sym, ap, ◌∙◌, subst}
use mathlib.Core.Logic.{◌⊎◌}
use mathlib.Core.Bool.{Bool, true, false, cond, ◌&&◌}
use mathlib.Core.List.{List, [], ◌∷◌, ◌++◌, append_assoc}
use mathlib.Core.Option.{Option, none, some}
use Prim.Native.Nat.{ℕ, zero, suc, ◌+◌, ◌-◌, ◌*◌, ◌≤◌, ◌<◌, min}
use native.Mathlib.Omega.{arith}
use native.Mathlib.Nat.{min-eq_left, min-le_right, le-min}
use lib.Dec.{eqb, leb, ltb}
use lib.ListN.{length, take, drop, replicate, get_or, length-append, length-take, length-replicate}
use lib.Seq.{take_at, drop_at, length-take-le}
use borrow.Author.Tests.{leb-true, le-leb, lt-ltb, le-ltb, ltb-true, ltb-false, eq-eqb, eqb-true}
use Rattle.rules.specs.Bits.{bits_of, front_bit}
use Rattle.rules.specs.Answers.{complete}
use Rattle.rules.specs.Rising.{Rows}
use Rattle.rules.specs.Lookup.{shared}
use Rattle.rules.specs.Eols.{zero_run}
use Rattle.rules.specs.Rows.{Encoding, group4, group3_1_d, group3_2_d, Settings, bytes_to}
use Rattle.rules.specs.Pages.{Answer, entries, most_bytes, decode}
use Rattle.rules.specs.Write.{line_bits, eol_bits, page_bits, to_byte, Written, rows_in, ends_rise, all_ascend, write_page}
use Rattle.rules.specs.Lines.{Kind, one, two}
use Rattle.rules.specs.WriteGroup3.{Layout, bare, filled, mixed, CodedLine, kind_next, left_next, coded_lines, tag_of, framed, page3_bits, write_group3}
use Rattle.rules.specs.Proper.{Writer, t6, t4, most_fill, most_k, writes_for, writes_rows, writer_bits, padded, taken, Proper, IsProper}
use Rattle.rules.specs.Proper.{layout_by, layout_in, kind_by, tags_along, zeros_first, k_by, writer_in, page_for, parts_at, parts_nowhere, is_proper}
use Rattle.rules.proofs.Bits.{both_true, length-bits_of, bits_of-inj}
use Rattle.rules.proofs.PageBack.{eol-zeros, Plain}
use Rattle.rules.proofs.RoundTrip.{bits-split, bits-append, page-returns, page-written}
use Rattle.rules.proofs.Writes.{wrote}
use Rattle.rules.proofs.Store.{length-rows_in}
use Rattle.rules.proofs.Group3Back.{Told, line-begins}
use Rattle.rules.proofs.EolChains.{zeros-then, eol-long}
use Rattle.rules.proofs.Group3Trip.{blank_none, page3-returns, page3-written, page-bytes}

-- bytes are below 256
abbrev pub AreBytes : List ℕ → Type 0
AreBytes bytes = (i : ℕ) → get_or bytes i 0 < 256

-- Two pages that are proper by the same writer, with the same rows, are the same bytes.
pub proper-once : (S : Settings) (bytes bytes' : List ℕ) (a a' : Answer) (w : Writer) → Proper S bytes a w → Proper S bytes' a' w → a.rows ≡ a'.rows
    → AreBytes (take a.bytes bytes) → AreBytes (take a'.bytes bytes') → take a.bytes bytes ≡ take a'.bytes bytes'
proper-once S bytes bytes' a a' w p p' e h h' =
    let q : bits_of (take a.bytes bytes) ≡ bits_of (take a'.bytes bytes') = p.same ∙ ap (λ (rows : List (List ℕ)). padded (writer_bits S.columns w rows)) e ∙ sym p'.same in
    bits_of-inj (take a.bytes bytes) (take a'.bytes bytes') (omega (arith, ap length q, length-bits_of (take a.bytes bytes), length-bits_of (take a'.bytes bytes'))) h h' q

-- So damage that changes the bytes of a page and leaves it proper by the same writer has made other rows of it.
pub proper-other : (S : Settings) (bytes bytes' : List ℕ) (a a' : Answer) (w : Writer) → Proper S bytes a w → Proper S bytes' a' w
    → AreBytes (take a.bytes bytes) → AreBytes (take a'.bytes bytes') → (take a.bytes bytes ≡ take a'.bytes bytes' → ⊥) → a.rows ≡ a'.rows → ⊥
proper-other S bytes bytes' a a' w p p' h h' n e = n (proper-once S bytes bytes' a a' w p p' e h h')

-- ---- What a writer wrote

-- the first bytes are the page's, with zeros to a byte
front-bits : (xs rest : List Bool) (bytes : List ℕ) → bits_of bytes ≡ padded xs ++ rest → bits_of (take (bytes_to (length xs)) bytes) ≡ padded xs
unfolding padded to_byte
front-bits xs rest bytes e =
    sym (take_at (bits_of (take m bytes)) (bits_of (drop m bytes)) (m * 8) (omega (arith, length-bits_of (take m bytes), length-take-le m bytes fits)))
    ∙ ap (take (m * 8)) (bits-split m bytes ∙ e)
    ∙ take_at (padded xs) rest (m * 8) long
  where
    m : ℕ
    m = bytes_to (length xs)

    long : length (padded xs) ≡ m * 8
    long = omega (arith, length-append xs (to_byte (length xs)), length-replicate (bytes_to (length xs) * 8 - length xs) false)

    fits : m ≤ length bytes
    fits = omega (arith, long, ap length e, length-append (padded xs) rest, length-bits_of bytes)

-- a page of some rows is one of those that every writer writes
some-rowed : (enc : Encoding) (n : ℕ) → 0 < n → writes_rows enc n ≡ true
unfolding writes_rows
some-rowed group4 n h = refl
some-rowed group3_1_d n h = lt-ltb 0 n h
some-rowed group3_2_d n h = lt-ltb 0 n h

module _ (S : Settings) (narrow : S.columns < 4294967295) (rows : List (List ℕ)) (rises : Rows S.columns rows)
    (bytes : List ℕ) (small : length bytes ≤ most_bytes) (rest : List Bool) (store places : ℕ) (roomy : entries rows ≤ store) (placed : length rows ≤ places) where
  -- T.6's, whatever follows it
  pub wrote-proper : Plain S → (S.rows ≡ 0) ⊎ (S.rows ≡ length rows) → bits_of bytes ≡ padded (writer_bits S.columns t6 rows) ++ rest
      → Proper S bytes (decode S bytes store places) t6
  unfolding padded writer_bits writes_for writes_rows
  wrote-proper plain counted e =
      let r = page-returns S plain narrow rows rises bytes small (to_byte (length (page_bits S.columns rows)) ++ rest)
      (e ∙ append_assoc (page_bits S.columns rows) (to_byte (length (page_bits S.columns rows))) rest) counted store places roomy placed in
      subst (λ (a : Answer). Proper S bytes a t6) (sym r)
      (record {
        whole = refl;
        writer = ap (λ enc. writes_for enc t6) plain.encoded;
        rowed = ap (λ enc. writes_rows enc (length rows)) plain.encoded;
        same = front-bits (page_bits S.columns rows) rest bytes e;
      })

  -- Group 3's, with nothing or zeros behind it
  pub wrote3-proper : (layout : Layout) → Told S (length rows) layout → 0 < length rows → writes_for S.encoding (t4 layout) ≡ true → zero_run (to_byte (length (page3_bits S.columns layout rows)) ++ rest) ≡ none
      → bits_of bytes ≡ padded (writer_bits S.columns (t4 layout) rows) ++ rest → Proper S bytes (decode S bytes store places) (t4 layout)
  unfolding padded writer_bits
  wrote3-proper layout told some-rows may blank e =
      let r = page3-returns S layout rows told narrow some-rows rises bytes small (to_byte (length (page3_bits S.columns layout rows)) ++ rest) blank
      (e ∙ append_assoc (page3_bits S.columns layout rows) (to_byte (length (page3_bits S.columns layout rows))) rest) store places roomy placed in
      subst (λ (a : Answer). Proper S bytes a (t4 layout)) (sym r)
      (record {
        whole = refl;
        writer = may;
        rowed = some-rowed S.encoding (length rows) some-rows;
        same = front-bits (page3_bits S.columns layout rows) rest bytes e;
      })

-- what `write_page` wrote: the first bytes of the output, alone or with any others behind them
pub write-page-proper : (S : Settings) → Plain S → (changes ends out out' : List ℕ) → (write_page S.columns changes ends out).number ≡ 0
    → length out' ≡ length out → bits_of out' ≡ (write_page S.columns changes ends out).bits → (S.rows ≡ 0) ⊎ (S.rows ≡ length (rows_in 0 changes ends))
    → (more' : List ℕ) → (write_page S.columns changes ends out).end + length more' ≤ most_bytes
    → (store places : ℕ) → entries (rows_in 0 changes ends) ≤ store → length (rows_in 0 changes ends) ≤ places
    → Proper S (take (write_page S.columns changes ends out).end out' ++ more') (decode S (take (write_page S.columns changes ends out).end out' ++ more') store places) t6
unfolding write_page writer_bits padded
write-page-proper S plain changes ends out out' zero-said same bits counted more' small store places roomy placed =
    let xs = page_bits S.columns (rows_in 0 changes ends) in
    let k = wrote S.columns (ends_rise (length changes) 0 ends && all_ascend S.columns (rows_in 0 changes ends)) xs (bytes_to (length xs)) out 0 zero-said in
    let w = page-written S.columns plain.narrow changes ends out zero-said in
    let end_is : (write_page S.columns changes ends out).end ≡ bytes_to (length (page_bits S.columns (rows_in 0 changes ends))) = w.end_is in
    let b = page-bytes xs out out' (omega (arith, k.fits, length-bits_of out)) same (bits ∙ ap (λ (x : Written). x.bits) k.is) in
    subst (λ (n : ℕ). Proper S (take n out' ++ more') (decode S (take n out' ++ more') store places) t6) (sym end_is)
    (wrote-proper S w.narrow (rows_in 0 changes ends) w.rises (take (bytes_to (length xs)) out' ++ more')
    (omega (arith, end_is, length-append (take (bytes_to (length xs)) out') more', length-take (bytes_to (length xs)) out')) (bits_of more') store places roomy placed plain counted
    (bits-append (take (bytes_to (length xs)) out') more' ∙ ap (λ (l : List Bool). l ++ bits_of more') b))

-- what the Group 3 writers wrote, alone or with zeros behind it
pub write3-proper : (S : Settings) (layout : Layout) (fine : Bool) → (changes ends out out' : List ℕ) → Told S (length (rows_in 0 changes ends)) layout → writes_for S.encoding (t4 layout) ≡ true
    → (write_group3 layout fine S.columns changes ends out).number ≡ 0 → length out' ≡ length out → bits_of out' ≡ (write_group3 layout fine S.columns changes ends out).bits
    → (zeros : ℕ) → (write_group3 layout fine S.columns changes ends out).end + zeros ≤ most_bytes
    → (store places : ℕ) → entries (rows_in 0 changes ends) ≤ store → length (rows_in 0 changes ends) ≤ places
    → Proper S (take (write_group3 layout fine S.columns changes ends out).end out' ++ replicate zeros 0)
    (decode S (take (write_group3 layout fine S.columns changes ends out).end out' ++ replicate zeros 0) store places) (t4 layout)
unfolding writer_bits padded
write3-proper S layout fine changes ends out out' told may zero-said same bits zeros small store places roomy placed =
    let xs = page3_bits S.columns layout (rows_in 0 changes ends) in
    let p = page3-written layout fine S.columns changes ends out told.narrow zero-said in
    let b = page-bytes xs out out' p.fits same (bits ∙ p.bits_are) in
    subst (λ (n : ℕ). Proper S (take n out' ++ replicate zeros 0) (decode S (take n out' ++ replicate zeros 0) store places) (t4 layout)) (sym p.end_is)
    (wrote3-proper S p.narrow (rows_in 0 changes ends) p.rises (take (bytes_to (length xs)) out' ++ replicate zeros 0)
    (omega (arith, p.end_is, length-append (take (bytes_to (length xs)) out') (replicate zeros 0), length-take (bytes_to (length xs)) out', length-replicate {A = ℕ} zeros 0)) (bits_of (replicate zeros 0)) store places roomy placed
    layout told (omega (arith, p.some-rows, length-rows_in 0 changes ends)) may (blank_none (length xs) zeros)
    (bits-append (take (bytes_to (length xs)) out') (replicate zeros 0) ∙ ap (λ (l : List Bool). l ++ bits_of (replicate zeros 0)) b))

-- ---- The layout that is found

-- the bits of a page's bytes begin with the writer's
proper-front : (S : Settings) (bytes : List ℕ) (a : Answer) (w : Writer) → Proper S bytes a w
    → (rest : List Bool) × (bits_of (taken bytes a) ≡ writer_bits S.columns w a.rows ++ rest)
unfolding padded
proper-front S bytes a w p = (to_byte (length (writer_bits S.columns w a.rows)), p.same)

module _ (width : ℕ) (wide : 0 < width) where
  bare-found : (r : List ℕ) (rs : List (List ℕ)) (rest : List Bool) → layout_in (page3_bits width bare (r ∷ rs) ++ rest) ≡ bare
  unfolding layout_in page3_bits framed coded_lines
  bare-found r rs rest =
      let (z, e, h) = line-begins width wide one r (framed bare (coded_lines width 1 0 r rs) ++ rest) in
      ap layout_by (ap zero_run (append_assoc (line_bits width one r) (framed bare (coded_lines width 1 0 r rs)) rest) ∙ e) ∙ rw (lt-ltb z 11 (omega arith))

  filled-found : (fill : ℕ) → fill ≤ most_fill → (r : List ℕ) (rs : List (List ℕ)) (rest : List Bool) → layout_in (page3_bits width (filled fill) (r ∷ rs) ++ rest) ≡ filled fill
  unfolding layout_in page3_bits framed coded_lines
  filled-found fill few r rs rest =
      ap layout_by
      (ap zero_run (append_assoc (replicate fill false ++ eol_bits) (line_bits width one r ++ framed (filled fill) (coded_lines width 1 0 r rs)) rest ∙ append_assoc (replicate fill false) eol_bits _)
      ∙ zeros-then fill (eol_bits ++ _) 11 (eol-zeros _))
      ∙ rw (le-ltb (fill + 11) 11 (omega arith))
      (ap (λ (n : ℕ). filled n) (min-eq_left (let q : fill + 11 - 11 ≤ most_fill = omega arith in q) ∙ (let q : fill + 11 - 11 ≡ fill = omega arith in q)))

-- the layout of a proper 1D page is the one that is found
pub found-1d : (S : Settings) → 0 < S.columns → S.encoding ≡ group3_1_d → (bytes : List ℕ) (a : Answer) (layout : Layout) → Proper S bytes a (t4 layout) → 0 < length a.rows
    → layout_in (bits_of (taken bytes a)) ≡ layout
unfolding writer_bits writes_for
found-1d S wide enc bytes a layout p some-rows = cases layout a.rows some-rows (proper-front S bytes a (t4 layout) p) (ap (λ (e : Encoding). writes_for e (t4 layout)) (sym enc) ∙ p.writer)
  where
    cases : (layout : Layout) (rows : List (List ℕ)) → 0 < length rows → (rest : List Bool) × (bits_of (taken bytes a) ≡ page3_bits S.columns layout rows ++ rest)
        → writes_for group3_1_d (t4 layout) ≡ true → layout_in (bits_of (taken bytes a)) ≡ layout
    cases layout [] h f w = absurd (omega arith)
    cases bare (r ∷ rs) h (rest, e) w = ap layout_in e ∙ bare-found S.columns wide r rs rest
    cases (filled fill) (r ∷ rs) h (rest, e) w = ap layout_in e ∙ filled-found S.columns wide fill (leb-true fill most_fill w) r rs rest
    cases (mixed k) (r ∷ rs) h (rest, e) w = absurd (let y : ◌≡◌ {A = ℕ} 0 1 = cc in omega arith)

-- the tag bits of a page's lines
tag_list : ℕ → ℕ → List (List ℕ) → List Bool
tag_list k left [] = []
tag_list k left (r ∷ rs) = tag_of (kind_next left []) ∷ tag_list k (left_next k left) rs

tags-few : (k left : ℕ) (rs : List (List ℕ)) → left < length rs → zeros_first (tag_list k left rs) ≡ left
unfolding tag_list zeros_first
tags-few k left [] h = absurd (omega arith)
tags-few k zero (r ∷ rs) h = refl
tags-few k (suc left) (r ∷ rs) h = ap suc (tags-few k left rs (omega arith))

tags-all : (k left : ℕ) (rs : List (List ℕ)) → length rs ≤ left → zeros_first (tag_list k left rs) ≡ length rs
unfolding tag_list zeros_first
tags-all k left [] h = refl
tags-all k zero (r ∷ rs) h = absurd (omega arith)
tags-all k (suc left) (r ∷ rs) h = ap suc (tags-all k left rs (omega arith))

framed-any : (k m : ℕ) (ls : List CodedLine) → framed (mixed k) ls ≡ framed (mixed m) ls
unfolding framed
framed-any k m [] = refl
framed-any k m (l ∷ ls) = ap (λ (x : List Bool). (eol_bits ++ tag_of l.kind ∷ []) ++ (l.bits ++ x)) (framed-any k m ls)

kind-tag : (left : ℕ) (reference : List ℕ) → kind_by (tag_of (kind_next left [])) reference ≡ kind_next left reference
kind-tag zero reference = refl
kind-tag (suc left) reference = refl

tag_same : (left : ℕ) (reference : List ℕ) → tag_of (kind_next left reference) ≡ tag_of (kind_next left [])
tag_same zero reference = refl
tag_same (suc left) reference = refl

module _ (width : ℕ) where
  -- lines that are all 2D do not depend on K
  lines-free : (k left m left' : ℕ) (reference : List ℕ) (rs : List (List ℕ)) → length rs ≤ left → length rs ≤ left' → coded_lines width k left reference rs ≡ coded_lines width m left' reference rs
  unfolding coded_lines
  lines-free k left m left' reference [] h h' = refl
  lines-free k zero m left' reference (r ∷ rs) h h' = absurd (omega arith)
  lines-free k (suc left) m zero reference (r ∷ rs) h h' = absurd (omega arith)
  lines-free k (suc left) m (suc left') reference (r ∷ rs) h h' = ap (λ (ls : List CodedLine). record { kind = two reference; bits = line_bits width (two reference) r } ∷ ls) (lines-free k left m left' r rs (omega arith) (omega arith))

  page-free : (m k : ℕ) (r : List ℕ) (rs : List (List ℕ)) → length rs ≤ m - 1 → length rs ≤ k - 1 → coded_lines width m 0 [] (r ∷ rs) ≡ coded_lines width k 0 [] (r ∷ rs)
  unfolding coded_lines
  page-free m k r rs h g = ap (λ (ls : List CodedLine). record { kind = one; bits = line_bits width one r } ∷ ls) (lines-free m (m - 1) k (k - 1) r rs h g)

  tags-along : (k left : ℕ) (reference : List ℕ) (rows : List (List ℕ)) (rest : List Bool)
      → tags_along width (framed (mixed k) (coded_lines width k left reference rows) ++ rest) reference rows ≡ tag_list k left rows
  unfolding tags_along framed coded_lines tag_list
  tags-along k left reference [] rest = refl
  tags-along k left reference (r ∷ rs) rest =
      ap (λ (t : Bool). t ∷ tags_along width (drop (13 + length (line_bits width (kind_by t reference) r)) bits) r rs) first
      ∙ ap (λ (i : Kind). tag_of (kind_next left []) ∷ tags_along width (drop (13 + length (line_bits width i r)) bits) r rs) (kind-tag left reference)
      ∙ ap (λ (l : List Bool). tag_of (kind_next left []) ∷ l) (ap (λ (l : List Bool). tags_along width l r rs) behind ∙ tags-along k (left_next k left) r rs rest)
    where
      later : List Bool
      later = framed (mixed k) (coded_lines width k (left_next k left) r rs)

      tag : Bool
      tag = tag_of (kind_next left reference)

      line : List Bool
      line = line_bits width (kind_next left reference) r

      bits : List Bool
      bits = ((eol_bits ++ tag ∷ []) ++ (line ++ later)) ++ rest

      first : front_bit (drop 12 bits) ≡ tag_of (kind_next left [])
      first = ap front_bit (ap (drop 12) (append_assoc (eol_bits ++ tag ∷ []) (line ++ later) rest ∙ append_assoc eol_bits (tag ∷ []) ((line ++ later) ++ rest)) ∙ drop_at eol_bits (tag ∷ ((line ++ later) ++ rest)) 12 eol-long) ∙ tag_same left reference

      behind : drop (13 + length line) bits ≡ later ++ rest
      behind =
          ap (drop (13 + length line)) (append_assoc (eol_bits ++ tag ∷ []) (line ++ later) rest ∙ ap (λ (l : List Bool). (eol_bits ++ tag ∷ []) ++ l) (append_assoc line later rest) ∙ sym (append_assoc (eol_bits ++ tag ∷ []) line (later ++ rest)))
          ∙ drop_at ((eol_bits ++ tag ∷ []) ++ line) (later ++ rest) (13 + length line) (omega (arith, length-append (eol_bits ++ tag ∷ []) line, length-append eol_bits (tag ∷ []), eol-long))

  -- K is found, up to what makes no difference
  k-found : (k : ℕ) → 1 ≤ k → k ≤ most_k → (r : List ℕ) (rs : List (List ℕ)) (rest : List Bool) (m : ℕ) → m ≡ k_by (tags_along width (page3_bits width (mixed k) (r ∷ rs) ++ rest) [] (r ∷ rs))
      → (page3_bits width (mixed m) (r ∷ rs) ≡ page3_bits width (mixed k) (r ∷ rs)) × (1 ≤ m) × (m ≤ k)
  unfolding page3_bits tag_list
  k-found k some-k few-k r rs rest m e = cases (ltb (k - 1) (length rs)) refl
    where
      before : m ≡ min (suc (zeros_first (tag_list k (k - 1) rs))) most_k
      before = e ∙ ap k_by (tags-along k 0 [] (r ∷ rs) rest)

      -- no more 2D lines come than K lets
      few : zeros_first (tag_list k (k - 1) rs) ≤ k - 1
      few = few-by (ltb (k - 1) (length rs)) refl
        where
          few-by : (b : Bool) → ltb (k - 1) (length rs) ≡ b → zeros_first (tag_list k (k - 1) rs) ≤ k - 1
          few-by true h = omega (arith, tags-few k (k - 1) rs (ltb-true (k - 1) (length rs) h))
          few-by false h = omega (arith, tags-all k (k - 1) rs (ltb-false (k - 1) (length rs) h), ltb-false (k - 1) (length rs) h)

      is : m ≡ suc (zeros_first (tag_list k (k - 1) rs))
      is = before ∙ min-eq_left (omega (arith, few))

      cases : (b : Bool) → ltb (k - 1) (length rs) ≡ b → (framed (mixed m) (coded_lines width m 0 [] (r ∷ rs)) ≡ framed (mixed k) (coded_lines width k 0 [] (r ∷ rs))) × (1 ≤ m) × (m ≤ k)
      cases true h =
          let z = tags-few k (k - 1) rs (ltb-true (k - 1) (length rs) h) in
          let y : m ≡ k = omega (arith, is, z) in
          (ap (λ (n : ℕ). framed (mixed n) (coded_lines width n 0 [] (r ∷ rs))) y, omega arith, omega arith)
      cases false h =
          let g = ltb-false (k - 1) (length rs) h in
          let z = tags-all k (k - 1) rs g in
          (framed-any m k (coded_lines width m 0 [] (r ∷ rs)) ∙ ap (framed (mixed k)) (page-free m k r rs (omega (arith, is, z)) (omega arith)), omega (arith, is), omega (arith, is, z))

-- A page that is proper is so by the writer that is found.
pub found : (S : Settings) → 0 < S.columns → (bytes : List ℕ) (a : Answer) → IsProper S bytes a
    → Proper S bytes a (writer_in S.encoding S.columns (bits_of (taken bytes a)) a.rows)
unfolding writer_in writes_for writes_rows writer_bits
found S wide bytes a (w, p) = cases S.encoding refl w p
  where
    choose : Encoding → Writer
    choose enc = writer_in enc S.columns (bits_of (taken bytes a)) a.rows

    never : (enc : Encoding) (w : Writer) → S.encoding ≡ enc → Proper S bytes a w → writes_for enc w ≡ true
    never enc w e p = ap (λ (c : Encoding). writes_for c w) (sym e) ∙ p.writer

    some-rows : (enc : Encoding) → S.encoding ≡ enc → writes_rows enc (length a.rows) ≡ true
    some-rows enc e = ap (λ (c : Encoding). writes_rows c (length a.rows)) (sym e) ∙ p.rowed

    mixes : (k : ℕ) → (rows : List (List ℕ)) → a.rows ≡ rows → 0 < length rows → writes_for group3_2_d (t4 (mixed k)) ≡ true → S.encoding ≡ group3_2_d → Proper S bytes a (t4 (mixed k)) → Proper S bytes a (choose group3_2_d)
    mixes k [] q h f e p = absurd (omega arith)
    mixes k (r ∷ rs) q h f e p =
        let b = both_true (leb 1 k) (leb k most_k) f in
        let (rest, there) = proper-front S bytes a (t4 (mixed k)) p in
        let g = k-found S.columns k (leb-true 1 k b.0) (leb-true k most_k b.1) r rs rest (k_by (tags_along S.columns (bits_of (taken bytes a)) [] a.rows))
        ((λ i. k_by (tags_along S.columns (there i) [] a.rows)) ∙ (λ i. k_by (tags_along S.columns (page3_bits S.columns (mixed k) (q i) ++ rest) [] (q i)))) in
        let h = leb-true k most_k b.1 in
        record {
          whole = p.whole;
          writer = ap (λ (c : Encoding). writes_for c (choose group3_2_d)) e
              ∙ rw (le-leb 1 (k_by (tags_along S.columns (bits_of (taken bytes a)) [] a.rows)) g.1, le-leb (k_by (tags_along S.columns (bits_of (taken bytes a)) [] a.rows)) most_k (omega (arith, g.2)));
          rowed = p.rowed;
          same = p.same ∙ ap padded (ap (page3_bits S.columns (mixed k)) q ∙ sym g.0 ∙ ap (page3_bits S.columns (mixed (k_by (tags_along S.columns (bits_of (taken bytes a)) [] a.rows)))) (sym q));
        }

    cases : (enc : Encoding) → S.encoding ≡ enc → (w : Writer) → Proper S bytes a w → Proper S bytes a (choose enc)
    cases group4 e t6 p = p
    cases group4 e (t4 layout) p = let f = never group4 (t4 layout) e p in absurd (let y : ◌≡◌ {A = ℕ} 0 1 = cc in omega arith)
    cases group3_1_d e t6 p = let f = never group3_1_d t6 e p in absurd (let y : ◌≡◌ {A = ℕ} 0 1 = cc in omega arith)
    cases group3_1_d e (t4 layout) p =
        subst (λ (l : Layout). Proper S bytes a (t4 l)) (sym (found-1d S wide e bytes a layout p (ltb-true 0 (length a.rows) (some-rows group3_1_d e)))) p
    cases group3_2_d e t6 p = let f = never group3_2_d t6 e p in absurd (let y : ◌≡◌ {A = ℕ} 0 1 = cc in omega arith)
    cases group3_2_d e (t4 bare) p = let f = never group3_2_d (t4 bare) e p in absurd (let y : ◌≡◌ {A = ℕ} 0 1 = cc in omega arith)
    cases group3_2_d e (t4 (filled fill)) p = let f = never group3_2_d (t4 (filled fill)) e p in absurd (let y : ◌≡◌ {A = ℕ} 0 1 = cc in omega arith)
    cases group3_2_d e (t4 (mixed k)) p = mixes k a.rows refl (ltb-true 0 (length a.rows) (some-rows group3_2_d e)) (never group3_2_d (t4 (mixed k)) e p) e p

-- ---- Where a page parts

-- up to there both are the same, and there they are not, or one of them ends
pub shared-first : (xs ys : List Bool) → take (shared xs ys) xs ≡ take (shared xs ys) ys
unfolding shared
shared-first [] ys = refl
shared-first (x ∷ xs) [] = refl
shared-first (true ∷ xs) (true ∷ ys) = ap (λ (l : List Bool). true ∷ l) (shared-first xs ys)
shared-first (true ∷ xs) (false ∷ ys) = refl
shared-first (false ∷ xs) (true ∷ ys) = refl
shared-first (false ∷ xs) (false ∷ ys) = ap (λ (l : List Bool). false ∷ l) (shared-first xs ys)

pub shared-parts : (xs ys : List Bool) → shared xs ys < length xs → shared xs ys < length ys → get_or xs (shared xs ys) true ≡ get_or ys (shared xs ys) true → ⊥
unfolding shared
shared-parts [] ys h k e = omega arith
shared-parts (x ∷ xs) [] h k e = omega arith
shared-parts (true ∷ xs) (true ∷ ys) h k e = shared-parts xs ys (omega arith) (omega arith) e
shared-parts (true ∷ xs) (false ∷ ys) h k e = let y : ◌≡◌ {A = ℕ} 0 1 = cc in omega arith
shared-parts (false ∷ xs) (true ∷ ys) h k e = let y : ◌≡◌ {A = ℕ} 0 1 = cc in omega arith
shared-parts (false ∷ xs) (false ∷ ys) h k e = shared-parts xs ys (omega arith) (omega arith) e

-- a list shares all of itself with itself
shared-self : (xs : List Bool) → shared xs xs ≡ length xs
unfolding shared
shared-self [] = refl
shared-self (true ∷ xs) = ap suc (shared-self xs)
shared-self (false ∷ xs) = ap suc (shared-self xs)

take-length : (xs : List Bool) → take (length xs) xs ≡ xs
take-length [] = refl
take-length (x ∷ xs) = ap (λ (l : List Bool). x ∷ l) (take-length xs)

-- bytes that are a page part from it nowhere,
pub nowhere : (page : List Bool) (bytes : List ℕ) → bits_of bytes ≡ page → parts_nowhere page bytes ≡ true
nowhere page bytes e =
    let s : shared page (bits_of bytes) ≡ length page = ap (shared page) e ∙ shared-self page in
    rw (eq-eqb (shared page (bits_of bytes)) (length page) s, eq-eqb (shared page (bits_of bytes)) (length (bits_of bytes)) (s ∙ ap length (sym e)))

-- and bytes that part from it nowhere are the page
pub nowhere-same : (page : List Bool) (bytes : List ℕ) → parts_nowhere page bytes ≡ true → bits_of bytes ≡ page
nowhere-same page bytes h =
    let b = both_true (eqb (parts_at page bytes) (length page)) (eqb (parts_at page bytes) (length (bits_of bytes))) h in
    sym (take-length (bits_of bytes))
    ∙ ap (λ (n : ℕ). take n (bits_of bytes)) (sym (eqb-true (parts_at page bytes) (length (bits_of bytes)) b.1))
    ∙ sym (shared-first page (bits_of bytes))
    ∙ ap (λ (n : ℕ). take n page) (eqb-true (parts_at page bytes) (length page) b.0)
    ∙ take-length page

-- ---- What is answered of a page that was read

-- the writer that is found writes in the page's encoding, with a fill or a K that it allows
pub found-writes : (enc : Encoding) (width : ℕ) (bits : List Bool) (rows : List (List ℕ)) → writes_for enc (writer_in enc width bits rows) ≡ true
unfolding writes_for writer_in layout_in
found-writes group4 width bits rows = refl
found-writes group3_1_d width bits rows = filling (zero_run bits)
  where
    filling : (z : Option ℕ) → writes_for group3_1_d (t4 (layout_by z)) ≡ true
    filling none = refl
    filling (some z) = elim (ltb z 11) as (λ b. writes_for group3_1_d (t4 (cond b bare (filled (min (z - 11) most_fill)))) ≡ true)
        [ true ↦ refl | false ↦ le-leb (min (z - 11) most_fill) most_fill (min-le_right (z - 11) most_fill) ]
found-writes group3_2_d width bits rows = counting (tags_along width bits [] rows)
  where
    counting : (tags : List Bool) → leb 1 (k_by tags) && leb (k_by tags) most_k ≡ true
    counting [] = refl
    counting (tag ∷ tags) =
        let m = min (suc (zeros_first tags)) most_k in
        rw (le-leb 1 m (le-min (omega arith) (omega arith)), le-leb m most_k (min-le_right (suc (zeros_first tags)) most_k))

module _ (S : Settings) (bytes : List ℕ) (a : Answer) where
  -- a page is proper exactly where it is said to be
  pub proper-said : 0 < S.columns → IsProper S bytes a → is_proper S bytes a ≡ true
  unfolding is_proper
  proper-said wide p =
      let f = found S wide bytes a p in
      rw (eq-eqb a.number 0 f.whole, f.rowed, nowhere (page_for S.encoding S.columns a.rows (taken bytes a)) (taken bytes a) f.same)

  pub said-proper : is_proper S bytes a ≡ true → Proper S bytes a (writer_in S.encoding S.columns (bits_of (taken bytes a)) a.rows)
  unfolding is_proper
  said-proper h =
      let b = both_true (eqb a.number complete) _ h in
      let c = both_true (writes_rows S.encoding (length a.rows)) _ b.1 in
      record {
        whole = eqb-true a.number complete b.0;
        writer = found-writes S.encoding S.columns (bits_of (taken bytes a)) a.rows;
        rowed = c.0;
        same = nowhere-same (page_for S.encoding S.columns a.rows (taken bytes a)) (taken bytes a) c.1;
      }
