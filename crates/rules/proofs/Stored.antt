-- Behind a reading the lent arrays hold the answer's page: its rows are the rows of the store, and pass test 8. Assumes nothing.
use mathlib.Core.Path.{◌≡◌, refl, ap, ap₂, ◌∙◌}
use mathlib.Core.Bool.{true, ◌&&◌}
use mathlib.Core.List.{List, [], ◌∷◌, ◌++◌, append_assoc}
use Prim.Native.Nat.{ℕ, ◌+◌, ◌*◌, ◌≤◌}
use native.Mathlib.Omega.{arith}
use lib.ListN.{length, take, drop, length-append}
use lib.Seq.{take_at}
use borrow.Author.Tests.{le-leb}
use Rattle.rules.specs.Bits.{bits_of}
use Rattle.rules.specs.Rows.{Settings}
use Rattle.rules.specs.Pages.{Answer, entries, most_bytes, read_page, strict_if_exact, decode, places_in, overlaid, joined, ends_from}
use Rattle.rules.specs.Pages.{changes_after, ends_after, marks_after}
use Rattle.rules.specs.Rising.{Rows, no_rows, row_then}
use Rattle.rules.specs.Write.{rows_in, ends_rise, all_ascend}
use Rattle.rules.proofs.Answers.{short-cases, decode-cases}
use Rattle.rules.proofs.Ascending.{rises-ascends}
use Rattle.rules.proofs.Bits.{length-bits_of}
use Rattle.rules.proofs.Budget.{whole-bytes}
use Rattle.rules.proofs.Marks.{decode-came, came-as-many}
use Rattle.rules.proofs.Pages.{read-answered}
use Rattle.rules.proofs.Store.{length-overlaid, length-joined, length-ends, rows_back}

-- ---- Every answer

-- an answer whose rows, marks and loose entries the arrays hold
pub record Holds (store places : ℕ) (a : Answer) : Type 0 where
  pub placed : length a.rows ≤ places
  pub as_many : length a.marks ≡ length a.rows
  pub roomy : entries a.rows + length a.loose ≤ store

pub decode-held : (S : Settings) (bytes : List ℕ) (store places : ℕ) → Holds store places (decode S bytes store places)
unfolding entries
decode-held S bytes store places = record { placed = fits.0; as_many = came-as-many (decode-came S bytes store places).1; roomy = fits.1 }
  where
    Fits : Answer → Type 0
    Fits a = (length a.rows ≤ places) × (entries a.rows + length a.loose ≤ store)

    fits : Fits (decode S bytes store places)
    fits =
        decode-cases S bytes (λ f. Fits (f store places)) (λ n r. (omega arith, omega arith))
        (λ ok.
        let a = read-answered S.encoding (strict_if_exact S) ok.wide (bits_of bytes) (whole-bytes bytes) store places refl in
        short-cases S (read_page (strict_if_exact S) (bits_of bytes) store places) Fits (λ l. (a.placed, a.roomy)) (λ n. (a.placed, a.roomy)))

-- its bytes are no more than there are, its rows no more than the bits and one, and each ascends strictly below the width
pub record Modest (S : Settings) (bytes : List ℕ) (a : Answer) : Type 0 where
  pub few_bytes : a.bytes ≤ length bytes
  pub few_rows : length a.rows ≤ 8 * most_bytes + 1
  pub rising : Rows S.columns a.rows

pub decode-modest : (S : Settings) (bytes : List ℕ) (store places : ℕ) → Modest S bytes (decode S bytes store places)
decode-modest S bytes store places =
    decode-cases S bytes (λ f. Modest S bytes (f store places))
    (λ n r. record { few_bytes = omega arith; few_rows = omega arith; rising = no_rows })
    (λ ok.
    let a = read-answered S.encoding (strict_if_exact S) ok.wide (bits_of bytes) (whole-bytes bytes) store places refl in
    let l = length-bits_of bytes in
    let rows : length (read_page (strict_if_exact S) (bits_of bytes) store places).rows ≤ 8 * most_bytes + 1 = omega (arith, a.few_rows, ok.small, l) in
    short-cases S (read_page (strict_if_exact S) (bits_of bytes) store places) (Modest S bytes)
    (λ lacks. record { few_bytes = omega arith; few_rows = rows; rising = a.rising })
    (λ stays. record { few_bytes = omega (arith, a.few_bytes, l); few_rows = rows; rising = a.rising }))

-- ---- The store

pub rows-ascend : {width : ℕ} {rows : List (List ℕ)} → Rows width rows → all_ascend width rows ≡ true
unfolding all_ascend
rows-ascend no_rows = refl
rows-ascend (row_then r rs) = rw (rises-ascends r) (rows-ascend rs)

-- ends of rows that the store holds do not fall or pass it
pub ends-rise : (store base : ℕ) (rows : List (List ℕ)) → base + entries rows ≤ store → ends_rise store base (ends_from base rows) ≡ true
unfolding entries ends_rise ends_from
ends-rise store base [] h = refl
ends-rise store base (r ∷ rows) h =
    rw (le-leb base (base + length r) (omega arith), le-leb (base + length r) store (omega arith)) (ends-rise store (base + length r) rows (omega arith))

module _ (a : Answer) (xs es ms : List ℕ) (h : Holds (length xs) (places_in es ms) a) where
  pub ends-kept : take (length a.rows) (ends_after a es) ≡ ends_from 0 a.rows
  unfolding ends_after overlaid
  ends-kept = take_at (ends_from 0 a.rows) (drop (length (ends_from 0 a.rows)) es) (length a.rows) (length-ends 0 a.rows)

  pub marks-kept : take (length a.rows) (marks_after a ms) ≡ a.marks
  unfolding marks_after overlaid
  marks-kept = take_at a.marks (drop (length a.marks) ms) (length a.rows) h.as_many

  pub changes_long : length (changes_after a xs) ≡ length xs
  unfolding changes_after
  changes_long =
      length-overlaid (joined a.rows ++ a.loose) xs (omega (arith, h.roomy, length-append (joined a.rows) a.loose, length-joined a.rows))

  pub rows-stored : rows_in 0 (changes_after a xs) (take (length a.rows) (ends_after a es)) ≡ a.rows
  unfolding changes_after overlaid
  rows-stored =
      let front = joined a.rows in
      let rest = drop (length (front ++ a.loose)) xs in
      ap₂ (λ (ys fs : List ℕ). rows_in 0 ys fs) (append_assoc front a.loose rest) ends-kept ∙ rows_back a.rows (a.loose ++ rest)

  -- no end falls or passes the array, and rows that ascend pass test 8
  pub ends-stored : ends_rise (length (changes_after a xs)) 0 (take (length a.rows) (ends_after a es)) ≡ true
  ends-stored = rw (changes_long, ends-kept) (ends-rise (length xs) 0 a.rows (omega (arith, h.roomy)))

  pub rows-good : (width : ℕ) → Rows width a.rows
      → (ends_rise (length (changes_after a xs)) 0 (take (length a.rows) (ends_after a es))
      && all_ascend width (rows_in 0 (changes_after a xs) (take (length a.rows) (ends_after a es)))) ≡ true
  rows-good width rises = ap₂ ◌&&◌ ends-stored (ap (all_ascend width) rows-stored ∙ rows-ascend rises)
