-- What is answered of data that was held against a page: zeros to a byte, the end of the data, and the tests that come first. Assumes nothing.
use mathlib.Core.Path.{◌≡◌, refl, sym, ap, ap₂, ◌∙◌}
use mathlib.Core.Bool.{Bool, true, false, cond, ◌&&◌}
use mathlib.Core.List.{List, ◌++◌}
use mathlib.Core.Option.{Option, none, some}
use Prim.Native.Nat.{min, ℕ, ◌+◌, ◌-◌, ◌*◌, ◌≤◌}
use native.Mathlib.Omega.{arith}
use lib.Dec.{eqb, ltb}
use lib.ListN.{length, drop, replicate}
use Rattle.rules.specs.Bits.{bits_for, bits_of}
use Rattle.rules.specs.Lookup.{shared}
use Rattle.rules.specs.Rows.{Encoding, group4, group3_1_d, group3_2_d, bytes_to}
use Rattle.rules.specs.Pages.{no_line, most_bytes}
use Rattle.rules.specs.Write.{to_byte, rows_in}
use Rattle.rules.specs.WriteGroup3.{Layout, bare, filled, mixed, some_good}
use Rattle.rules.specs.Eols.{zero_run}
use Rattle.rules.specs.Proper.{most_fill, writes_rows, writer_bits, padded, layout_by, layout_in, writer_in, not_asked, parts_from}
use Rattle.rules.proofs.Bits.{both_true, length-bits_of}
use Rattle.bit_reader.specs.Loaded.{Loading}
use Rattle.row_store.specs.Store.{good_rows}
use Rattle.writer.specs.declared.Parting.{Parting}
use Rattle.writer.specs.Putting.{Sound}
use Rattle.writer.specs.Paging.{page_of}
use Rattle.writer.specs.Outcome.{first_tests, parting_of}
use Rattle.writer.specs.Meeting.{Met, Meets, Facings, parting_from}
use Rattle.writer.specs.Paging3.{page3_of}
use Rattle.writer.specs.Meeting3.{all_tests, found_in, found_page}
use Rattle.writer.proofs.Answering.{First, first-passed}
use Rattle.writer.proofs.EolCodes.{zeros-spell}
use Rattle.writer.proofs.Leaving.{begins-shared, shared-all, left-all, left-none, left-last, left-parts, left-on, meets-as}

-- ---- Zeros to a byte

module _ {bytes : List ℕ} {at : ℕ} (l : Loading bytes at) (n : ℕ) (e : n ≡ bytes_to at * 8 - at) where
  -- none
  pub zeros-none : n ≡ 0 → Meets bytes at (to_byte at) (record { at = at; same = true })
  unfolding to_byte
  zeros-none z = left-none (left-all (to_byte at) l) (ap (λ (i : ℕ). replicate i false) (sym e ∙ z)) refl refl

  -- or a code of zeros
  module _ (some-zeros : n ≡ 0 → ⊥) where
    pub zeros-sound : Sound (record { size = n; word = 0 })
    zeros-sound = (zeros-spell n (omega (arith, some-zeros)) (omega arith)).sound

    pub zeros-met : {r : Met} → Meets bytes at (bits_for n 0) r → Meets bytes at (to_byte at) r
    unfolding to_byte
    zeros-met = meets-as ((zeros-spell n (omega (arith, some-zeros)) (omega arith)).bits ∙ ap (λ (i : ℕ). replicate i false) e)

-- ---- The end of the data

-- a page's bits, zeros and all: whether they are met, and the data ends with them
said : {bytes : List ℕ} (page : List Bool) {r : Met} → Meets bytes 0 page r → {s : Bool} → s ≡ (r.same && eqb r.at (8 * length bytes))
    → ◌≡◌ {A = Parting} (record { number = 0; same = s; place = r.at })
    (record { number = 0; same = eqb (shared page (bits_of bytes)) (length page) && eqb (shared page (bits_of bytes)) (length (bits_of bytes)); place = shared page (bits_of bytes) })
said {bytes} page {r} m e =
    ap₂ (λ (s : Bool) (p : ℕ). record { number = 0; same = s; place = p }) (e ∙ ap₂ (λ (a b : Bool). a && b) whole ends) place
  where
    place : r.at ≡ shared page (bits_of bytes)
    place = m.place ∙ (let z : 0 + shared page (bits_of bytes) ≡ shared page (bits_of bytes) = omega arith in z)

    whole : r.same ≡ eqb (shared page (bits_of bytes)) (length page)
    whole = m.whole ∙ begins-shared page (bits_of bytes)

    ends : eqb r.at (8 * length bytes) ≡ eqb (shared page (bits_of bytes)) (length (bits_of bytes))
    ends = ap₂ eqb place (sym (length-bits_of bytes))

module _ {bytes : List ℕ} {met : Met} (l : Loading bytes met.at) (xs : List Bool) (m : Meets bytes 0 xs met) where
  abbrev whole : List Bool
  whole = xs ++ to_byte (length xs)

  begin : Loading bytes 0
  begin = record { size = l.size; inside = omega arith }

  -- the page itself is not met,
  pub page-parts : met.same ≡ false → Meets bytes 0 (padded xs) met
  unfolding padded
  page-parts d = left-parts (left-all whole begin) xs (to_byte (length xs)) refl m d

  -- or it is, and its zeros tell
  pub page-ends : met.same ≡ true → {r : Met} → Meets bytes met.at (to_byte met.at) r → Meets bytes 0 (padded xs) r
  unfolding padded
  page-ends d z = left-last (left-on (left-all whole begin) xs (to_byte (length xs)) refl m d) (to_byte met.at) (ap to_byte there) z
    where
      there : length xs ≡ met.at
      there = sym (m.place ∙ ap (λ (n : ℕ). 0 + n) (shared-all xs (drop 0 (bits_of bytes)) (sym m.whole ∙ d)) ∙ (let q : 0 + length xs ≡ length xs = omega arith in q))

-- what is answered of them
pub page-told : {bytes : List ℕ} (xs : List Bool) {r : Met} → Meets bytes 0 (padded xs) r → {s : Bool} → s ≡ (r.same && eqb r.at (8 * length bytes))
    → ◌≡◌ {A = Parting} (record { number = 0; same = s; place = r.at }) (parting_from xs bytes)
page-told xs = said (padded xs)

-- ---- The tests that come first

-- rows that passed them can be held against
pub faced : {columns : ℕ} {bytes : List ℕ} → First columns (length bytes) → columns ≤ 4294967295 → (changes ends : List ℕ) → good_rows columns changes 0 ends ≡ true → Facings columns changes ends bytes
faced first h changes ends e = record { wide = first.wide; narrow = first.narrow h; good = e; small = first.small }

module _ (enc : Encoding) (columns : ℕ) (changes ends bytes : List ℕ) where
  abbrev told : Parting
  told = parting_of (parts_from enc columns changes ends bytes)

  -- 6 and 7
  pub first_said : (n : ℕ) → n ≡ first_tests columns (length bytes) → (n ≡ 0 → ⊥) → parting_of (not_asked n) ≡ told
  unfolding parts_from
  first_said n e h = ap (λ (k : ℕ). parting_of (not_asked k)) e ∙ tests (no_line columns) refl (ltb most_bytes (length bytes)) refl
    where
      tests : (a : Bool) → no_line columns ≡ a → (b : Bool) → ltb most_bytes (length bytes) ≡ b → parting_of (not_asked (first_tests columns (length bytes))) ≡ told
      tests true i b j = rw (i, parts_from)
      tests false i true j = rw (i, j, parts_from)
      tests false i false j = absurd (h (e ∙ rw (i, j)))

  module _ (first : First columns (length bytes)) where
    -- 8
    pub rows-said : (writes_rows enc (length ends) && good_rows columns changes 0 ends) ≡ false → parting_of (not_asked 8) ≡ told
    unfolding parts_from
    rows-said e = rw (first.line, first.output, e, parts_from)

    -- and what is told of good rows
    pub page-said : (writes_rows enc (length ends) && good_rows columns changes 0 ends) ≡ true
        → parting_from (writer_bits columns (writer_in enc columns (bits_of bytes) (rows_in 0 changes ends)) (rows_in 0 changes ends)) bytes ≡ told
    unfolding parts_from
    page-said e = rw (first.line, first.output, e, parts_from)

-- ---- A T.6 page, also of no rows

module _ (columns : ℕ) (changes ends bytes : List ℕ) (first : First columns (length bytes)) where
  pub rows-said-4 : good_rows columns changes 0 ends ≡ false → parting_of (not_asked 8) ≡ told group4 columns changes ends bytes
  unfolding writes_rows
  rows-said-4 e = rows-said group4 columns changes ends bytes first e

  pub page-said-4 : good_rows columns changes 0 ends ≡ true → parting_from (page_of columns changes ends) bytes ≡ told group4 columns changes ends bytes
  unfolding writes_rows writer_bits writer_in
  page-said-4 e = page-said group4 columns changes ends bytes first e

-- ---- A Group 3 page

-- a layout that is found in the first zeros is that of 1D lines
same_layout : (width : ℕ) (bits : List Bool) (rows : List (List ℕ)) (layout : Layout) → layout ≡ layout_in bits → found_in layout width bits rows ≡ layout_in bits
unfolding layout_in
same_layout width bits rows layout e = ap (λ (l : Layout). found_in l width bits rows) e ∙ zeros (zero_run bits)
  where
    zeros : (o : Option ℕ) → found_in (layout_by o) width bits rows ≡ layout_by o
    zeros none = refl
    zeros (some z) = elim (ltb z 11) as (λ b. found_in (cond b bare (filled (min (z - 11) most_fill))) width bits rows ≡ cond b bare (filled (min (z - 11) most_fill))) [ true ↦ refl | false ↦ refl ]

module _ (columns : ℕ) (changes ends : List ℕ) (bytes : ℕ) where
  -- 6 and 7
  pub tests-first : (n : ℕ) → n ≡ first_tests columns bytes → (n ≡ 0 → ⊥) → n ≡ all_tests columns changes ends bytes
  tests-first n e h = e ∙ tests (no_line columns) refl (ltb most_bytes bytes) refl
    where
      tests : (a : Bool) → no_line columns ≡ a → (b : Bool) → ltb most_bytes bytes ≡ b → first_tests columns bytes ≡ all_tests columns changes ends bytes
      tests true i b j = rw i
      tests false i true j = rw (i, j)
      tests false i false j = absurd (h (e ∙ rw (i, j)))

  module _ (first : First columns bytes) where
    -- 8, and 0
    pub tests-bad : some_good columns changes ends ≡ false → 8 ≡ all_tests columns changes ends bytes
    tests-bad e = rw (first.line, first.output, e)

    pub tests-good : some_good columns changes ends ≡ true → 0 ≡ all_tests columns changes ends bytes
    tests-good e = rw (first.line, first.output, e)

  -- what is known where they give 0
  pub record Passed3 : Type 0 where
    pub first : First columns bytes
    pub good : some_good columns changes ends ≡ true

  pub passed3 : all_tests columns changes ends bytes ≡ 0 → Passed3
  passed3 h = tests (no_line columns) refl (ltb most_bytes bytes) refl (some_good columns changes ends) refl
    where
      tests : (a : Bool) → no_line columns ≡ a → (b : Bool) → ltb most_bytes bytes ≡ b → (d : Bool) → some_good columns changes ends ≡ d → Passed3
      tests true i b j d k = absurd (let y : 6 ≡ 0 = rw i at h in omega arith)
      tests false i true j d k = absurd (let y : 7 ≡ 0 = rw (i, j) at h in omega arith)
      tests false i false j true k = record { first = first-passed columns bytes (rw (i, j)); good = k }
      tests false i false j false k = absurd (let y : 8 ≡ 0 = rw (i, j, k) at h in omega arith)

module _ (columns : ℕ) (changes ends bytes : List ℕ) where
  abbrev Group3 : Encoding → Type 0
  Group3 enc = (n : ℕ) → writes_rows enc n ≡ ltb 0 n

  -- a refusal,
  refused3 : (enc : Encoding) → Group3 enc → (n : ℕ) → n ≡ all_tests columns changes ends (length bytes) → (n ≡ 0 → ⊥) → parting_of (not_asked n) ≡ told enc columns changes ends bytes
  refused3 enc w n e h = ap (λ (k : ℕ). parting_of (not_asked k)) e ∙ tests (no_line columns) refl (ltb most_bytes (length bytes)) refl (some_good columns changes ends) refl
    where
      tests : (a : Bool) → no_line columns ≡ a → (b : Bool) → ltb most_bytes (length bytes) ≡ b → (d : Bool) → some_good columns changes ends ≡ d
          → parting_of (not_asked (all_tests columns changes ends (length bytes))) ≡ told enc columns changes ends bytes
      tests true i b j d k = rw i (first_said enc columns changes ends bytes 6 (rw i) (λ z. omega arith))
      tests false i true j d k = rw (i, j) (first_said enc columns changes ends bytes 7 (rw (i, j)) (λ z. omega arith))
      tests false i false j false k = rw (i, j, k) (rows-said enc columns changes ends bytes (first-passed columns (length bytes) (rw (i, j))) (ap (λ (b : Bool). b && good_rows columns changes 0 ends) (w (length ends)) ∙ k))
      tests false i false j true k = absurd (h (e ∙ rw (i, j, k)))

  -- or what is told of the page
  module _ (p : Passed3 columns changes ends (length bytes)) where
    pub faced3 : columns ≤ 4294967295 → Facings columns changes ends bytes
    faced3 h = faced p.first h changes ends (both_true (ltb 0 (length ends)) (good_rows columns changes 0 ends) p.good).1

    rowed3 : (enc : Encoding) → Group3 enc → (writes_rows enc (length ends) && good_rows columns changes 0 ends) ≡ true
    rowed3 enc w = ap (λ (b : Bool). b && good_rows columns changes 0 ends) (w (length ends)) ∙ p.good

    pub said-1d : (layout : Layout) → layout ≡ layout_in (bits_of bytes) → parting_from (found_page layout columns changes ends bytes) bytes ≡ told group3_1_d columns changes ends bytes
    unfolding writes_rows writer_bits writer_in
    said-1d layout e =
        ap (λ (l : Layout). parting_from (page3_of l columns changes ends) bytes) (same_layout columns (bits_of bytes) (rows_in 0 changes ends) layout e)
        ∙ page-said group3_1_d columns changes ends bytes p.first (rowed3 group3_1_d (λ _. refl))

    pub said-2d : parting_from (found_page (mixed 0) columns changes ends bytes) bytes ≡ told group3_2_d columns changes ends bytes
    unfolding writes_rows writer_bits writer_in
    said-2d = page-said group3_2_d columns changes ends bytes p.first (rowed3 group3_2_d (λ _. refl))

  pub refused-1d : (n : ℕ) → n ≡ all_tests columns changes ends (length bytes) → (n ≡ 0 → ⊥) → parting_of (not_asked n) ≡ told group3_1_d columns changes ends bytes
  unfolding writes_rows
  refused-1d = refused3 group3_1_d (λ _. refl)

  pub refused-2d : (n : ℕ) → n ≡ all_tests columns changes ends (length bytes) → (n ≡ 0 → ⊥) → parting_of (not_asked n) ≡ told group3_2_d columns changes ends bytes
  unfolding writes_rows
  refused-2d = refused3 group3_2_d (λ _. refl)
