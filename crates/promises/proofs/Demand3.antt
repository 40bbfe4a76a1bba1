-- Demand 3 is met: by the rules' laws on reading back, over the contracts of the four functions. Assumes nothing.
use mathlib.Core.Path.{◌≡◌, refl, sym, ap, ◌∙◌, subst}
use mathlib.Core.Logic.{◌⊎◌}
use mathlib.Core.Bool.{Bool}
use mathlib.Core.List.{List, [], ◌∷◌, ◌++◌, append_assoc, append-nil}
use Prim.Native.Nat.{ℕ, zero, suc, ◌+◌, ◌-◌, ◌≤◌}
use native.Mathlib.Omega.{arith}
use lib.ListN.{length, take, drop, length-append, length-take, take-append-drop}
use lib.Seq.{take_at, take-append-le, length-take-le}
use Rattle.rules.specs.Answers.{complete, most_pixels}
use Rattle.rules.specs.Bits.{bits_of}
use Rattle.rules.specs.Rows.{bytes_to}
use Rattle.rules.specs.Lines.{two}
use Rattle.rules.specs.Pages as Page
use Rattle.rules.specs.Pages.{most_bytes, entries, joined, overlaid, decode, places_in, read_one_line, changes_after}
use Rattle.rules.specs.Write.{page_bits, rows_in, write_line, write_page}
use Rattle.rules.proofs.Bits.{length-bits_of}
use Rattle.rules.specs.Rising.{Rows}
use Rattle.rules.specs.Damage.{all_clean}
use Rattle.rules.proofs.PageBack.{Plain, whole}
use Rattle.rules.proofs.ReadBack.{rows_same}
use Rattle.rules.proofs.RoundTrip.{line-returns, bits-split, page-returns, page-cut, line-written, PageWritten, page-written}
use Rattle.rules.proofs.Store.{length-rows_in}
use Rattle.answer.specs.Answer.{answer_of, row_answer_of}
use Rattle.answer.specs.declared.Answer.{Answer}
use Rattle.settings.specs.declared.DecodeSettings.{DecodeSettings}
use Rattle.settings.specs.Settings.{encoding_of, settings_of}
use Rattle.one_line.specs.OneLine.{ReadOne}
use Rattle.writer.specs.Outcome.{Answers}
use Rattle.promises.specs.Demand3.{Back, LineReadsBack, WrittenLineReadsBack, LinesApart, Plainly, WrittenPageReadsBack, Due, CutPageGivesFirstRows}
use Rattle.promises.proofs.Demand1.{in-store}
use Rattle.promises.proofs.CutRows.{GivesDue, cut-gives-due}

-- ---- Lines

-- an answer of one whole row
back : (bytes : List ℕ) (at columns : ℕ) (strict : Bool) (reference row changes : List ℕ) (after : ℕ) (r : Answer) (changes' : List ℕ)
    → read_one_line bytes at columns strict reference (length changes) ≡ record { number = 0; place = 0; bytes = after; rows = row ∷ []; marks = 0 ∷ []; loose = [] }
    → ReadOne bytes at columns strict reference changes r changes' → Back row after r changes'
unfolding entries joined changes_after overlaid
back bytes at columns strict reference row changes after r changes' e c =
    let a = c.answer ∙ ap row_answer_of e in
    record {
      done = ap (λ (x : Answer). x.number) a;
      one_row = ap (λ (x : Answer). x.rows) a;
      as_many = ap (λ (x : Answer). x.entries) a ∙ (let q : length row + 0 ≡ length row = omega arith in q);
      same =
          ap (take (length row)) (c.store ∙ ap (λ (x : Page.Answer). changes_after x changes) e ∙ ap (λ (l : List ℕ). (l ++ []) ++ drop (length (l ++ [])) changes) (append-nil row) ∙ ap (λ (l : List ℕ). l ++ drop (length l) changes) (append-nil row))
          ∙ take_at row (drop (length row) changes) (length row) refl;
      after_it = ap (λ (x : Answer). x.bytes) a;
    }

pub line-reads-back : LineReadsBack
line-reads-back columns reference row wide narrow up up' bytes at rest small e strict changes r changes' roomy c =
    back bytes at columns strict reference row changes _ r changes'
    (line-returns columns wide narrow strict reference row up up' (length changes) roomy bytes small at rest e) c

pub written-line-reads-back : WrittenLineReadsBack
written-line-reads-back columns reference row out at w out' narrow written z strict changes r changes' roomy c =
    let n : (write_line columns reference row out at).number ≡ complete = sym (ap (λ (x : Answer). x.number) written.answer) ∙ z in
    let l = line-written columns narrow reference row out at n in
    let end = ap (λ (x : Answer). x.bytes) written.answer ∙ l.end_is in
    subst (λ (after : ℕ). Back row after r changes') (sym end)
    (line-reads-back columns reference row l.wide l.narrow l.rises l.rises' out' at l.rest (omega (arith, written.size, l.short))
    (ap (drop at) written.bits ∙ l.there) strict changes r changes' roomy c)

pub lines-apart : LinesApart
lines-apart columns reference row other wide narrow up up' up'' rest e =
    rows_same columns wide (omega arith) (two reference) up row other up' up'' rest [] (e ∙ sym (append-nil _))

-- ---- Pages

-- a prefix that is no longer than another is its front
prefix : (xs ys zs ws : List Bool) → xs ++ ys ≡ zs ++ ws → length zs ≤ length xs → xs ≡ zs ++ drop (length zs) xs
prefix xs ys zs ws e h =
    sym (take-append-drop (length zs) xs)
    ∙ ap (λ (l : List Bool). l ++ drop (length zs) xs) (sym (take-append-le (length zs) xs ys h) ∙ ap (take (length zs)) e ∙ take_at zs ws (length zs) refl)

module _ (columns : ℕ) (changes ends out : List ℕ) (w : Answer) (out' : List ℕ) (narrow : columns ≤ most_pixels)
    (written : Answers (write_page columns changes ends out) out w out') (z : w.number ≡ complete) where
  number : (write_page columns changes ends out).number ≡ complete
  number = sym (ap (λ (x : Answer). x.number) written.answer) ∙ z

  p : PageWritten columns changes ends out (write_page columns changes ends out)
  p = page-written columns narrow changes ends out number

  pub P : List Bool
  P = page_bits columns (rows_in 0 changes ends)

  page-bytes : w.bytes ≡ bytes_to (length P)
  unfolding P
  page-bytes = ap (λ (x : Answer). x.bytes) written.answer ∙ p.end_is

  out-bits : bits_of out' ≡ P ++ p.rest
  unfolding P
  out-bits = written.bits ∙ p.there

  pub plain : (settings : DecodeSettings) → Plainly columns settings → Plain (settings_of settings)
  plain settings s = record {
    encoded = ap encoding_of s.group_4;
    blocked = s.blocked;
    unaligned = s.unaligned;
    wide = omega (arith, p.wide, s.same_columns);
    narrow = omega (arith, p.narrow, s.same_columns);
  }

  rises : (settings : DecodeSettings) → Plainly columns settings → Rows settings.columns (rows_in 0 changes ends)
  rises settings s = subst (λ (n : ℕ). Rows n (rows_in 0 changes ends)) (sym s.same_columns) p.rises

  -- the page's bits stand at the front of any data that begins with its bytes
  fronted : (bytes : List ℕ) → take w.bytes bytes ≡ take w.bytes out' → (rest : List Bool) × (bits_of bytes ≡ P ++ rest)
  fronted bytes e =
      (_, sym (bits-split w.bytes bytes) ∙ ap (λ (l : List Bool). l ++ bits_of (drop w.bytes bytes)) (ap bits_of e ∙ front) ∙ append_assoc P _ _)
    where
      reach : w.bytes ≤ length out'
      reach = omega (arith, page-bytes, length-bits_of out', ap length out-bits, length-append P p.rest)

      front : bits_of (take w.bytes out') ≡ P ++ drop (length P) (bits_of (take w.bytes out'))
      front =
          prefix (bits_of (take w.bytes out')) (bits_of (drop w.bytes out')) P p.rest (bits-split w.bytes out' ∙ out-bits)
          (omega (arith, page-bytes, length-bits_of (take w.bytes out'), length-take-le w.bytes out' reach))

  -- the same bits for settings of these columns
  for-settings : (settings : DecodeSettings) → Plainly columns settings → (bytes : List ℕ) (rest : List Bool) → bits_of bytes ≡ P ++ rest
      → bits_of bytes ≡ page_bits settings.columns (rows_in 0 changes ends) ++ rest
  unfolding P
  for-settings settings s bytes rest e = e ∙ ap (λ (n : ℕ). page_bits n (rows_in 0 changes ends) ++ rest) (sym s.same_columns)

  same_size : (settings : DecodeSettings) → Plainly columns settings → length (page_bits settings.columns (rows_in 0 changes ends)) ≡ length P
  unfolding P
  same_size settings s = ap (λ (n : ℕ). length (page_bits n (rows_in 0 changes ends))) s.same_columns

  read_whole : (bytes : List ℕ) → length bytes ≤ most_bytes → take w.bytes bytes ≡ take w.bytes out' → (settings : DecodeSettings) → Plainly columns settings
      → (settings.rows ≡ 0) ⊎ (settings.rows ≡ length (rows_in 0 changes ends)) → (store places : ℕ)
      → entries (rows_in 0 changes ends) ≤ store → length (rows_in 0 changes ends) ≤ places
      → decode (settings_of settings) bytes store places ≡ whole (length P) (rows_in 0 changes ends) (all_clean (rows_in 0 changes ends))
  read_whole bytes small e settings s counted store places roomy placed =
      let f = fronted bytes e in
      page-returns (settings_of settings) (plain settings s) (omega (arith, p.narrow, s.same_columns)) (rows_in 0 changes ends)
      (rises settings s) bytes small f.0 (for-settings settings s bytes f.0 f.1) counted store places roomy placed
      ∙ ap (λ (n : ℕ). whole n (rows_in 0 changes ends) (all_clean (rows_in 0 changes ends))) (same_size settings s)

  -- as `decode` is called
  pub page-is-whole : (bytes : List ℕ) → length bytes ≤ most_bytes → take w.bytes bytes ≡ take w.bytes out' → (settings : DecodeSettings) → Plainly columns settings
      → (settings.rows ≡ 0) ⊎ (settings.rows ≡ length ends) → (store places marks : List ℕ)
      → entries (rows_in 0 changes ends) ≤ length store → length ends ≤ length places → length ends ≤ length marks
      → decode (settings_of settings) bytes (length store) (places_in places marks) ≡ whole (length P) (rows_in 0 changes ends) (all_clean (rows_in 0 changes ends))
  page-is-whole bytes small e settings s counted store places marks roomy placed marked =
      read_whole bytes small e settings s
      (subst (λ (n : ℕ). (settings.rows ≡ 0) ⊎ (settings.rows ≡ n)) (sym (length-rows_in 0 changes ends)) counted) (length store) (places_in places marks) roomy
      (omega (arith, length-rows_in 0 changes ends))

  read-cut : length out' ≤ most_bytes → (cut : ℕ) (settings : DecodeSettings) → Plainly columns settings → (store places : ℕ)
      → (n : ℕ) × ((decode (settings_of settings) (take cut out') store places).rows ≡ take n (rows_in 0 changes ends))
  read-cut small cut settings s store places =
      page-cut (settings_of settings) (plain settings s) (omega (arith, p.narrow, s.same_columns)) (rows_in 0 changes ends)
      (rises settings s) out' small p.rest (for-settings settings s out' p.rest out-bits) cut store places

  due-cut : length out' ≤ most_bytes → (cut : ℕ) (settings : DecodeSettings) → Plainly columns settings → (store places : ℕ)
      → GivesDue (settings_of settings) (rows_in 0 changes ends) (bits_of (take cut out')) (decode (settings_of settings) (take cut out') store places)
  due-cut small cut settings s store places =
      cut-gives-due (settings_of settings) (plain settings s) (omega (arith, p.narrow, s.same_columns)) (rows_in 0 changes ends) (rises settings s) (take cut out')
      (omega (arith, length-take cut out')) (bits_of (drop cut out')) p.rest (bits-split cut out' ∙ for-settings settings s out' p.rest out-bits) store places

pub written-page-reads-back : WrittenPageReadsBack
written-page-reads-back columns changes ends out w out' narrow written z bytes small e settings s counted store places marks r store' places' marks' roomy placed marked called = (
  ap (λ (x : Answer). x.number) a,
  ap (λ (x : Answer). x.bytes) a ∙ sym (page-bytes columns changes ends out w out' narrow written z),
  in-store _ store places marks r store' places' marks' called ∙ ap (λ (x : Page.Answer). x.rows) is,
)
  where
    is : decode (settings_of settings) bytes (length store) (places_in places marks) ≡ whole (length (P columns changes ends out w out' narrow written z)) (rows_in 0 changes ends) (all_clean (rows_in 0 changes ends))
    is = page-is-whole columns changes ends out w out' narrow written z bytes small e settings s counted store places marks roomy placed marked

    a : r ≡ answer_of (whole (length (P columns changes ends out w out' narrow written z)) (rows_in 0 changes ends) (all_clean (rows_in 0 changes ends)))
    a = called.answer ∙ ap answer_of is

-- the first of some rows are as many as there are of them
taken : (n : ℕ) (rows : List (List ℕ)) → (length (take n rows) ≤ length rows) × (take n rows ≡ take (length (take n rows)) rows)
taken zero rows = (omega arith, refl)
taken (suc n) [] = (omega arith, refl)
taken (suc n) (r ∷ rows) = let t = taken n rows in (omega (arith, t.0), ap (λ (l : List (List ℕ)). r ∷ l) t.1)

pub cut-page-gives-first-rows : CutPageGivesFirstRows
cut-page-gives-first-rows columns changes ends out w out' narrow written z cut settings s store places marks r store' places' marks' called = (
  length (take c.0 rows),
  in-store _ store places marks r store' places' marks' called ∙ c.1 ∙ (taken c.0 rows).1,
  of-columns _ (g.only _ (taken c.0 rows).0 (omega (arith, ap length c.1))),
  λ no-four no-five m d. omega (arith, ap length c.1, g.every (λ q. no-four (number_is ∙ q)) (λ q. no-five (number_is ∙ q)) m (for-columns m d)),
)
  where
    rows : List (List ℕ)
    rows = rows_in 0 changes ends

    a : Page.Answer
    a = decode (settings_of settings) (take cut out') (length store) (places_in places marks)

    small : length out' ≤ most_bytes
    small = omega (arith, written.size, (p columns changes ends out w out' narrow written z).short)

    c : (n : ℕ) × (a.rows ≡ take n rows)
    c = read-cut columns changes ends out w out' narrow written z small cut settings s (length store) (places_in places marks)

    g : GivesDue (settings_of settings) rows (bits_of (take cut out')) a
    g = due-cut columns changes ends out w out' narrow written z small cut settings s (length store) (places_in places marks)

    number_is : r.number ≡ a.number
    number_is = ap (λ (x : Answer). x.number) called.answer

    of-columns : (n : ℕ) → Due settings.columns settings.rows rows (bits_of (take cut out')) n → Due columns settings.rows rows (bits_of (take cut out')) n
    of-columns n = subst (λ (i : ℕ). Due i settings.rows rows (bits_of (take cut out')) n) s.same_columns

    for-columns : (n : ℕ) → Due columns settings.rows rows (bits_of (take cut out')) n → Due settings.columns settings.rows rows (bits_of (take cut out')) n
    for-columns n = subst (λ (i : ℕ). Due i settings.rows rows (bits_of (take cut out')) n) (sym s.same_columns)
