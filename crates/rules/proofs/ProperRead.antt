-- What is held against the rows of a store, behind a reading, is what is said of the page that was read. Assumes nothing.
use mathlib.Core.Path.{◌≡◌, refl, sym, ap, ap₂, ◌∙◌, subst}
use mathlib.Core.Bool.{Bool, true, false, ◌&&◌}
use mathlib.Core.List.{List, [], ◌∷◌}
use Prim.Native.Nat.{ℕ, ◌≤◌, ◌<◌}
use native.Mathlib.Omega.{arith}
use lib.ListN.{length, take, length-take}
use borrow.Author.Tests.{eq-eqb, ne_eqb, le-ltb}
use Rattle.rules.specs.Answers.{complete, bad_width, bad_rows}
use Rattle.rules.specs.Bits.{bits_of}
use Rattle.rules.specs.Lookup.{shared}
use Rattle.rules.specs.Rising.{Rows}
use Rattle.rules.specs.Rows.{Encoding, group4, group3_1_d, group3_2_d, Settings}
use Rattle.rules.specs.Pages.{Answer, refusal, most_bytes, decode, places_in, changes_after, ends_after}
use Rattle.rules.specs.Write.{eol_bits, eofb, to_byte, page_bits, rows_bits, rows_in, ends_rise, all_ascend}
use Rattle.rules.specs.Proper.{writes_rows, writer_bits, writer_in, padded, taken, page_for, parts_at, parts_nowhere, Parting, not_asked, parts_from, is_proper, parts_in}
use Rattle.rules.proofs.Answers.{Refuses, too_wide, too_long, without_columns, decode-cases}
use Rattle.rules.proofs.Store.{length-ends}
use Rattle.rules.proofs.Stored.{Holds, decode-held, decode-modest, ends-kept, rows-stored, rows-good}

-- no bits share none
shared-none : (xs : List Bool) → shared xs [] ≡ 0
unfolding shared
shared-none [] = refl
shared-none (true ∷ xs) = refl
shared-none (false ∷ xs) = refl

-- what is said where neither 6 nor 7 is: 8, or where the bytes part from a page
said : Bool → List Bool → List ℕ → Parting
said false page bytes = not_asked bad_rows
said true page bytes = record { number = complete; same = parts_nowhere page bytes; place = parts_at page bytes }

module _ (enc : Encoding) (columns : ℕ) (changes ends bytes : List ℕ) where
  from-said : 0 < columns → (columns ≡ 4294967295 → ⊥) → length bytes ≤ most_bytes
      → (ends_rise (length changes) 0 ends && all_ascend columns (rows_in 0 changes ends)) ≡ true
      → parts_from enc columns changes ends bytes ≡ said (writes_rows enc (length ends)) (page_for enc columns (rows_in 0 changes ends) bytes) bytes
  unfolding parts_from said
  from-said wide narrow small good = by (writes_rows enc (length ends)) refl
    where
      by : (b : Bool) → writes_rows enc (length ends) ≡ b → parts_from enc columns changes ends bytes ≡ said b (page_for enc columns (rows_in 0 changes ends) bytes) bytes
      by true e = rw (ne_eqb columns 0 (λ q. omega arith), ne_eqb columns 4294967295 narrow, le-ltb most_bytes (length bytes) small, good, e, parts_from)
      by false e = rw (ne_eqb columns 0 (λ q. omega arith), ne_eqb columns 4294967295 narrow, le-ltb most_bytes (length bytes) small, good, e, parts_from)

-- a parting says of a page whether it is proper, and where it parts
pub record Says (S : Settings) (bytes : List ℕ) (a : Answer) (p : Parting) : Type 0 where
  pub same-is : p.same ≡ is_proper S bytes a
  pub place_is : p.place ≡ parts_in S bytes a

-- of a page that was done, and that a writer might have written
says-done : (S : Settings) (bytes : List ℕ) (a : Answer) → a.number ≡ complete
    → Says S bytes a (said (writes_rows S.encoding (length a.rows)) (page_for S.encoding S.columns a.rows (taken bytes a)) (taken bytes a))
unfolding is_proper parts_in said
says-done S bytes a done = by (writes_rows S.encoding (length a.rows)) refl
  where
    by : (b : Bool) → writes_rows S.encoding (length a.rows) ≡ b
        → Says S bytes a (said b (page_for S.encoding S.columns a.rows (taken bytes a)) (taken bytes a))
    by true e = record { same-is = rw (eq-eqb a.number complete done, e, is_proper); place_is = rw (eq-eqb a.number complete done, e, parts_in) }
    by false e = record { same-is = rw (eq-eqb a.number complete done, e, is_proper); place_is = rw (eq-eqb a.number complete done, e, parts_in) }

-- no bytes are no page: T.6's writer writes EOFB at least, and Group 3's write no page of no rows
empty-differs : (enc : Encoding) (width : ℕ) → (writes_rows enc 0 && parts_nowhere (page_for enc width [] []) []) ≡ false
unfolding writes_rows writer_in writer_bits page_bits rows_bits eofb eol_bits padded shared bits_of to_byte
empty-differs group4 width = refl
empty-differs group3_1_d width = refl
empty-differs group3_2_d width = refl

empty-parts : (enc : Encoding) (width : ℕ) → ◌≡◌ {A = ℕ} (elim (writes_rows enc 0) as (λ _. ℕ) [ true ↦ parts_at (page_for enc width [] []) [] | false ↦ 0 ]) 0
unfolding writes_rows bits_of
empty-parts group4 width = shared-none (page_for group4 width [] [])
empty-parts group3_1_d width = refl
empty-parts group3_2_d width = refl

-- without columns no page is proper, and none parts behind bit 0
says-empty : (S : Settings) (bytes : List ℕ) → Says S bytes (refusal complete) (not_asked bad_width)
unfolding is_proper parts_in bits_of
says-empty S bytes = record { same-is = sym (empty-differs S.encoding S.columns); place_is = sym (empty-parts S.encoding S.columns) }

module _ (S : Settings) (bytes xs es ms : List ℕ) where
  -- the rows of an answer, as the store holds them behind it, against the bytes that it took
  abbrev pub against : Answer → Parting
  against a = parts_from S.encoding S.columns (changes_after a xs) (take (length a.rows) (ends_after a es)) (taken bytes a)

  -- a page that was done, read with columns that a writer allows
  module _ (a : Answer) (held : Holds (length xs) (places_in es ms) a) (rises : Rows S.columns a.rows) (done : a.number ≡ complete)
      (wide : 0 < S.columns) (narrow : S.columns ≡ 4294967295 → ⊥) (small : length bytes ≤ most_bytes) where
    as_many : length (take (length a.rows) (ends_after a es)) ≡ length a.rows
    as_many = ap length (ends-kept a xs es ms held) ∙ length-ends 0 a.rows

    fits : length (taken bytes a) ≤ most_bytes
    fits = omega (arith, length-take a.bytes bytes)

    against-is : against a ≡ said (writes_rows S.encoding (length a.rows)) (page_for S.encoding S.columns a.rows (taken bytes a)) (taken bytes a)
    against-is =
        from-said S.encoding S.columns (changes_after a xs) (take (length a.rows) (ends_after a es)) (taken bytes a) wide narrow fits
        (rows-good a xs es ms held S.columns rises)
        ∙ ap₂ (λ (n : ℕ) (rows : List (List ℕ)). said (writes_rows S.encoding n) (page_for S.encoding S.columns rows (taken bytes a)) (taken bytes a))
        as_many (rows-stored a xs es ms held)

    allowed-says : Says S bytes a (against a)
    allowed-says = subst (Says S bytes a) (sym against-is) (says-done S bytes a done)

  pub read-says : (decode S bytes (length xs) (places_in es ms)).number ≡ complete
      → Says S bytes (decode S bytes (length xs) (places_in es ms)) (against (decode S bytes (length xs) (places_in es ms)))
  unfolding parts_from
  read-says =
      decode-cases S bytes (λ f. Told (f (length xs) (places_in es ms)))
      (λ n r held rises done. refused n r done)
      (λ ok held rises done. allowed-says _ held rises done ok.wide ok.narrow ok.small)
      (decode-held S bytes (length xs) (places_in es ms))
      (decode-modest S bytes (length xs) (places_in es ms)).rising
    where
      Told : Answer → Type 0
      Told a = Holds (length xs) (places_in es ms) a → Rows S.columns a.rows → a.number ≡ complete → Says S bytes a (against a)

      refused : (n : ℕ) → Refuses S bytes n → n ≡ complete → Says S bytes (refusal n) (against (refusal n))
      refused n (too_wide e) done = absurd (omega arith)
      refused n (too_long e) done = absurd (omega arith)
      refused n (without_columns e) done = subst (Says S bytes (refusal complete)) (rw (eq-eqb S.columns 0 e, parts_from)) (says-empty S bytes)
