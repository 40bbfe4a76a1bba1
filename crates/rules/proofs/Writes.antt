-- What a writer answers, by its tests; and what its 0 says. Assumes nothing.
use mathlib.Core.Path.{◌≡◌, refl, sym, ◌∙◌}
use mathlib.Core.Bool.{Bool, true, false, ◌||◌, true≢false}
use mathlib.Core.List.{List}
use Prim.Native.Nat.{ℕ, ◌+◌, ◌*◌, ◌≤◌, ◌<◌}
use native.Mathlib.Omega.{arith}
use lib.Dec.{leb, ltb}
use lib.ListN.{length}
use borrow.Author.Tests.{leb-true, leb-false, ltb-true, ltb-false}
use Rattle.rules.specs.Bits.{bits_of}
use Rattle.rules.specs.Rows.{bytes_to}
use Rattle.rules.specs.Pages.{most_bytes, no_line}
use Rattle.rules.specs.Write.{written_at, Written, unwritten, writes, rows_in}
use Rattle.rules.specs.WriteGroup3.{Layout, page3_bits, some_good, write_group3}
use Rattle.rules.proofs.Bits.{length-bits_of}

module _ (columns : ℕ) (good : Bool) (xs : List Bool) (end : ℕ) (out : List ℕ) (at : ℕ) where
  -- once the bits fit, they are written
  abbrev pub done : Written
  done = record { number = 0; end = end; bits = written_at at xs (bits_of out) }

  pub writes-cases : (C : Written → Type 0)
      → (no_line columns ≡ true → C (unwritten 6 out))
      → (no_line columns ≡ false → most_bytes < length out → C (unwritten 7 out))
      → (no_line columns ≡ false → length out ≤ most_bytes → good ≡ false → C (unwritten 8 out))
      → (no_line columns ≡ false → length out ≤ most_bytes → good ≡ true → 8 * length out < at + length xs → C (unwritten 9 out))
      → (no_line columns ≡ false → length out ≤ most_bytes → good ≡ true → at + length xs ≤ 8 * length out → C done)
      → C (writes columns good xs end out at)
  unfolding writes
  writes-cases C six seven eight nine zero' =
      tests (no_line columns) refl (ltb most_bytes (length out)) (ltb-true _ _) (ltb-false _ _) good refl (leb (at + length xs) (length (bits_of out))) (leb-true _ _) (leb-false _ _)
    where
      tests : (a : Bool) → no_line columns ≡ a → (b : Bool) → (b ≡ true → most_bytes < length out) → (b ≡ false → length out ≤ most_bytes) → (c : Bool) → good ≡ c
          → (d : Bool) → (d ≡ true → at + length xs ≤ length (bits_of out)) → (d ≡ false → length (bits_of out) < at + length xs)
          → C (elim a as (λ _. Written) [
            | true ↦ unwritten 6 out
            | false ↦ elim b as (λ _. Written) [
              | true ↦ unwritten 7 out
              | false ↦ elim c as (λ _. Written) [
                | false ↦ unwritten 8 out
                | true ↦ elim d as (λ _. Written) [ false ↦ unwritten 9 out | true ↦ done ]
              ]
            ]
          ])
      tests true i b j k c l d m n = six i
      tests false i true j k c l d m n = seven i (j refl)
      tests false i false j k false l d m n = eight i (k refl) l
      tests false i false j k true l false m n = nine i (k refl) l (omega (arith, n refl, length-bits_of out))
      tests false i false j k true l true m n = zero' i (k refl) l (omega (arith, m refl, length-bits_of out))

  -- all tests were passed, and the bits stand in the output
  pub record Wrote (w : Written) : Type 0 where
    pub line : no_line columns ≡ false
    pub short : length out ≤ most_bytes
    pub good-is : good ≡ true
    pub fits : at + length xs ≤ 8 * length out
    pub is : w ≡ done

  pub wrote : (writes columns good xs end out at).number ≡ 0 → Wrote (writes columns good xs end out at)
  wrote =
      writes-cases (λ w. w.number ≡ 0 → Wrote w)
      (λ i e. absurd (omega arith))
      (λ i h e. absurd (omega arith))
      (λ i h g e. absurd (omega arith))
      (λ i h g f e. absurd (omega arith))
      (λ i h g f e. record { line = i; short = h; good-is = g; fits = f; is = refl })

-- ---- A Group 3 writer, whose caller's number is tested too

module _ (layout : Layout) (fine : Bool) (columns : ℕ) (changes ends out : List ℕ) where
  abbrev pub bits3 : List Bool
  bits3 = page3_bits columns layout (rows_in 0 changes ends)

  abbrev good : Bool
  good = some_good columns changes ends

  pub write3-cases : (C : Written → Type 0)
      → (no_line columns ≡ true → C (unwritten 6 out))
      → (no_line columns ≡ false → most_bytes < length out → C (unwritten 7 out))
      → (no_line columns ≡ false → length out ≤ most_bytes → fine ≡ false → C (unwritten 10 out))
      → (no_line columns ≡ false → length out ≤ most_bytes → fine ≡ true → good ≡ false → C (unwritten 8 out))
      → (no_line columns ≡ false → length out ≤ most_bytes → fine ≡ true → good ≡ true → 8 * length out < 0 + length bits3 → C (unwritten 9 out))
      → (no_line columns ≡ false → length out ≤ most_bytes → fine ≡ true → good ≡ true → 0 + length bits3 ≤ 8 * length out
      → C (done columns good bits3 (bytes_to (length bits3)) out 0))
      → C (write_group3 layout fine columns changes ends out)
  unfolding write_group3
  write3-cases C six seven ten eight nine zero' = tests fine refl (no_line columns) refl (ltb most_bytes (length out)) refl
    where
      tests : (a : Bool) → fine ≡ a → (b : Bool) → no_line columns ≡ b → (c : Bool) → ltb most_bytes (length out) ≡ c
          → C (elim (a || (b || c)) as (λ _. Written) [ false ↦ unwritten 10 out | true ↦ writes columns good bits3 (bytes_to (length bits3)) out 0 ])
      tests true i b j c k =
          writes-cases columns good bits3 (bytes_to (length bits3)) out 0 C six seven (λ n l g. eight n l i g) (λ n l g f. nine n l i g f) (λ n l g f. zero' n l i g f)
      tests false i true j c k =
          writes-cases columns good bits3 (bytes_to (length bits3)) out 0 C six seven
          (λ n l g. absurd (true≢false (sym j ∙ n))) (λ n l g f. absurd (true≢false (sym j ∙ n))) (λ n l g f. absurd (true≢false (sym j ∙ n)))
      tests false i false j true k =
          let long : most_bytes < length out = ltb-true most_bytes (length out) k in
          writes-cases columns good bits3 (bytes_to (length bits3)) out 0 C six seven
          (λ n l g. absurd (omega arith)) (λ n l g f. absurd (omega arith)) (λ n l g f. absurd (omega arith))
      tests false i false j false k = ten j (ltb-false most_bytes (length out) k) i
