-- What a Group 3 writer leaves when its answer is 0, and what the reader answers to the bytes of its page, with nothing or zero bytes behind them. Assumes nothing.
use mathlib.Core.Path.{◌≡◌, refl, sym, ap, ◌∙◌, subst}
use mathlib.Core.Bool.{Bool, true, false, ◌&&◌, true≢false}
use mathlib.Core.List.{List, [], ◌++◌, append_assoc}
use mathlib.Core.Logic.{◌⊎◌, inl, inr}
use mathlib.Core.Option.{none}
use Prim.Native.Nat.{ℕ, zero, suc, ◌+◌, ◌-◌, ◌*◌, ◌≤◌, ◌<◌}
use native.Mathlib.Omega.{arith}
use lib.Dec.{leb, ltb}
use lib.ListN.{length, take, drop, replicate, length-take, length-append, length-replicate}
use lib.Seq.{take_at, length-take-le}
use borrow.Author.Tests.{ltb-true}
use Rattle.rules.specs.Bits.{bit, bits_for, bits_of}
use Rattle.rules.specs.Eols.{zero_run}
use Rattle.rules.specs.Rows.{group3_1_d, group3_2_d, Settings, bytes_to}
use Rattle.rules.specs.Pages.{entries, strict_if_exact, unless_short, most_bytes, decode, read_page}
use Rattle.rules.specs.Write.{to_byte, written_at, Written, rows_in, ends_rise, all_ascend}
use Rattle.rules.specs.WriteGroup3.{Layout, mixed, page3_bits, write_group3, layout_1d, write_1d, write_2d}
use Rattle.rules.proofs.Bits.{both_true, length-bits_of}
use Rattle.rules.proofs.Answers.{decode-reads}
use Rattle.rules.specs.Rising.{Rows}
use Rattle.rules.specs.Damage.{all_clean}
use Rattle.rules.proofs.PageBack.{ascend-rows, whole}
use Rattle.rules.proofs.Writes.{bits3, write3-cases}
use Rattle.rules.proofs.RoundTrip.{bits-split, bits-append, all_there, allowed}
use Rattle.rules.proofs.Store.{length-rows_in}
use Rattle.rules.proofs.Group3Back.{has_eols, Says, Told, true-rows, read-page3}

-- ---- Reading

-- zeros hold no one: those to a byte, and zero bytes
pub blank_none : (n zeros : ℕ) → zero_run (to_byte n ++ bits_of (replicate zeros 0)) ≡ none
unfolding to_byte zero_run bits_of bits_for bit
blank_none n zeros = before (bytes_to n * 8 - n) (bits_of (replicate zeros 0)) (bytes zeros)
  where
    before : (m : ℕ) (bits : List Bool) → zero_run bits ≡ none → zero_run (replicate m false ++ bits) ≡ none
    before zero bits e = e
    before (suc m) bits e = rw (before m bits e)

    bytes : (m : ℕ) → zero_run (bits_of (replicate m 0)) ≡ none
    bytes zero = refl
    bytes (suc m) = rw (bytes m)

-- exact implies strict (A12), which a page does not need
strict-told : (S : Settings) (n : ℕ) (layout : Layout) → Told S n layout → Told (strict_if_exact S) n layout
strict-told S n layout t = record { encoded = t.encoded; wide = t.wide; narrow = t.narrow; says = same (has_eols layout) t.says }
  where
    same : (eols : Bool) → Says S n eols → Says (strict_if_exact S) n eols
    same false h = h
    same true h = h

-- A Group 3 page in bytes, with zeros behind it, is answered with its rows, all clean, and its length.
pub page3-returns : (S : Settings) (layout : Layout) (rows : List (List ℕ)) → Told S (length rows) layout → S.columns < 4294967295
    → 0 < length rows → Rows S.columns rows → (bytes : List ℕ) → length bytes ≤ most_bytes
    → (rest : List Bool) → zero_run rest ≡ none → bits_of bytes ≡ page3_bits S.columns layout rows ++ rest
    → (store places : ℕ) → entries rows ≤ store → length rows ≤ places
    → decode S bytes store places ≡ whole (length (page3_bits S.columns layout rows)) rows (all_clean rows)
page3-returns S layout rows told narrow some-rows rises bytes small rest q there store places roomy placed =
    decode-reads S told.wide narrow bytes small store places
    ∙ ap (unless_short S)
    (ap (λ (bs : List Bool). read_page (strict_if_exact S) bs store places) there
    ∙ read-page3 (strict_if_exact S) layout rows (strict-told S (length rows) layout told) some-rows rises store places roomy placed rest q)
    ∙ all_there S (length (page3_bits S.columns layout rows)) rows (all_clean rows) (true-rows S (length rows) (has_eols layout) told.says)

-- ---- Writing

module _ (layout : Layout) (fine : Bool) (columns : ℕ) (changes ends out : List ℕ) where
  abbrev xs : List Bool
  xs = bits3 layout fine columns changes ends out

  -- what a Group 3 writer's 0 says: an allowed number, a width, rows and an output that are allowed, the page's bits and zeros to a byte, and its bytes
  pub record Page3Written (w : Written) : Type 0 where
    pub fine-is : fine ≡ true
    pub wide : 0 < columns
    pub narrow : columns < 4294967295
    pub some-rows : 0 < length ends
    pub rises : Rows columns (rows_in 0 changes ends)
    pub short : length out ≤ most_bytes
    pub fits : length xs ≤ 8 * length out
    pub bits_are : w.bits ≡ written_at 0 xs (bits_of out)
    pub end_is : w.end ≡ bytes_to (length xs)

  -- so it does
  pub page3-written : columns ≤ 4294967295 → (write_group3 layout fine columns changes ends out).number ≡ 0 → Page3Written (write_group3 layout fine columns changes ends out)
  page3-written in-32 =
      write3-cases layout fine columns changes ends out (λ w. w.number ≡ 0 → Page3Written w)
      (λ n e. absurd (omega arith))
      (λ n l e. absurd (omega arith))
      (λ n l f e. absurd (omega arith))
      (λ n l f g e. absurd (omega arith))
      (λ n l f g h e. absurd (omega arith))
      (λ n l f g h e.
      let p = allowed columns in-32 n in
      let r = both_true (ltb 0 (length ends)) (ends_rise (length changes) 0 ends && all_ascend columns (rows_in 0 changes ends)) g in
      record {
        fine-is = f;
        wide = p.0;
        narrow = p.1;
        some-rows = ltb-true 0 (length ends) r.0;
        rises = ascend-rows columns (rows_in 0 changes ends) (both_true (ends_rise (length changes) 0 ends) (all_ascend columns (rows_in 0 changes ends)) r.1).1;
        short = l;
        fits = omega arith;
        bits_are = refl;
        end_is = refl;
      })

-- the first bytes of the output are the page, and zeros to a byte
pub page-bytes : (xs : List Bool) (out out' : List ℕ) → length xs ≤ 8 * length out → length out' ≡ length out → bits_of out' ≡ written_at 0 xs (bits_of out)
    → bits_of (take (bytes_to (length xs)) out') ≡ xs ++ to_byte (length xs)
unfolding written_at to_byte
page-bytes xs out out' fits same e =
    sym (take_at (bits_of (take m out')) (bits_of (drop m out')) (m * 8) size)
    ∙ ap (take (m * 8)) (bits-split m out' ∙ e)
    ∙ take_at (xs ++ to_byte (0 + length xs)) _ (m * 8) (omega (arith, length-append xs (to_byte (0 + length xs)), length-replicate (bytes_to (0 + length xs) * 8 - (0 + length xs)) false))
    ∙ ap (λ (n : ℕ). xs ++ to_byte n) (let q : 0 + length xs ≡ length xs = omega arith in q)
  where
    m : ℕ
    m = bytes_to (length xs)

    size : length (bits_of (take m out')) ≡ m * 8
    size = omega (arith, length-bits_of (take m out'), length-take-le m out' (omega arith))

-- ---- The two, one after the other

-- the page that was written, read with nothing or zero bytes behind it and room enough, is answered with its rows, all clean (A5), and its bytes
abbrev pub Returns : Written → Settings → List ℕ → List ℕ → List ℕ → Type 0
Returns w S changes ends out =
    (out' : List ℕ) (zeros : ℕ) → w.end + zeros ≤ most_bytes → w.number ≡ 0 → length out' ≡ length out → bits_of out' ≡ w.bits
    → (store places : ℕ) → entries (rows_in 0 changes ends) ≤ store → length ends ≤ places
    → decode S (take w.end out' ++ replicate zeros 0) store places
    ≡ record { number = 0; place = 0; bytes = w.end; rows = rows_in 0 changes ends; marks = all_clean (rows_in 0 changes ends); loose = [] }

module _ (S : Settings) (changes ends out : List ℕ) where
  -- a page of any layout
  written3-returns : (layout : Layout) (fine : Bool) → Told S (length ends) layout → Returns (write_group3 layout fine S.columns changes ends out) S changes ends out
  written3-returns layout fine told out' zeros small z same bits store places roomy placed =
      ap (λ (n : ℕ). decode S (take n out' ++ replicate zeros 0) store places) p.end_is
      ∙ page3-returns S layout rows (subst (λ (n : ℕ). Told S n layout) (sym as_many) told) p.narrow (omega (arith, p.some-rows, as_many)) p.rises
      (take size out' ++ replicate zeros 0) (omega (arith, p.end_is, length-append (take size out') (replicate zeros 0), length-take size out', length-replicate {A = ℕ} zeros 0))
      (to_byte (length page) ++ bits_of (replicate zeros 0)) (blank_none (length page) zeros) there store places roomy (omega (arith, as_many))
      ∙ ap (λ (n : ℕ). record { number = 0; place = 0; bytes = n; rows = rows; marks = all_clean rows; loose = [] }) (sym p.end_is)
    where
      p : Page3Written layout fine S.columns changes ends out (write_group3 layout fine S.columns changes ends out)
      p = page3-written layout fine S.columns changes ends out told.narrow z

      rows : List (List ℕ)
      rows = rows_in 0 changes ends

      page : List Bool
      page = page3_bits S.columns layout rows

      size : ℕ
      size = bytes_to (length page)

      as_many : length rows ≡ length ends
      as_many = length-rows_in 0 changes ends

      there : bits_of (take size out' ++ replicate zeros 0) ≡ page ++ (to_byte (length page) ++ bits_of (replicate zeros 0))
      there =
          bits-append (take size out') (replicate zeros 0)
          ∙ ap (λ (l : List Bool). l ++ bits_of (replicate zeros 0)) (page-bytes page out out' p.fits same (bits ∙ p.bits_are))
          ∙ append_assoc page (to_byte (length page)) (bits_of (replicate zeros 0))

-- ---- A3

-- A3's settings: end_of_block and end_of_line on exactly where the page has EOLs; the true number of rows, or 0 with EOLs; unaligned
pub record Told1D (S : Settings) (eols : Bool) (n : ℕ) : Type 0 where
  pub encoded : S.encoding ≡ group3_1_d
  pub wide : 0 < S.columns
  pub narrow : S.columns ≤ 4294967295
  pub blocked : S.end_of_block ≡ eols
  pub lined : S.end_of_line ≡ eols
  pub unaligned : S.aligned ≡ false
  pub counted : (S.rows ≡ n) ⊎ ((S.rows ≡ 0) × (eols ≡ true))

pub told-1d : (S : Settings) (eols : Bool) (fill n : ℕ) → Told1D S eols n → Told S n (layout_1d eols fill)
told-1d S true fill n t = record { encoded = t.encoded; wide = t.wide; narrow = t.narrow; says = (t.blocked, counts t.counted) }
  where
    counts : (S.rows ≡ n) ⊎ ((S.rows ≡ 0) × (true ≡ true)) → (S.rows ≡ 0) ⊎ (S.rows ≡ n)
    counts (inl e) = inr e
    counts (inr (e, _)) = inl e
told-1d S false fill n t = record { encoded = t.encoded; wide = t.wide; narrow = t.narrow; says = (t.lined, t.unaligned, counts t.counted) }
  where
    counts : (S.rows ≡ n) ⊎ ((S.rows ≡ 0) × (false ≡ true)) → S.rows ≡ n
    counts (inl e) = e
    counts (inr (_, f)) = absurd (true≢false (sym f))

-- ---- A10

-- A10's settings: end_of_block; the true number of rows, or 0; unaligned. It says nothing on end_of_line, so either.
pub record Told2D (S : Settings) (n : ℕ) : Type 0 where
  pub encoded : S.encoding ≡ group3_2_d
  pub wide : 0 < S.columns
  pub narrow : S.columns ≤ 4294967295
  pub blocked : S.end_of_block ≡ true
  pub unaligned : S.aligned ≡ false
  pub counted : (S.rows ≡ 0) ⊎ (S.rows ≡ n)

pub told-2d : (S : Settings) (k n : ℕ) → Told2D S n → Told S n (mixed k)
told-2d S k n t = record { encoded = t.encoded; wide = t.wide; narrow = t.narrow; says = (t.blocked, t.counted) }

-- ---- Both

module _ (S : Settings) (changes ends out : List ℕ) where
  pub write_1d-returns : (eols : Bool) (fill : ℕ) → Told1D S eols (length ends) → Returns (write_1d eols fill S.columns changes ends out) S changes ends out
  unfolding write_1d
  write_1d-returns eols fill t = written3-returns S changes ends out (layout_1d eols fill) (leb fill 64) (told-1d S eols fill (length ends) t)

  pub write_2d-returns : (k : ℕ) → Told2D S (length ends) → Returns (write_2d k S.columns changes ends out) S changes ends out
  unfolding write_2d
  write_2d-returns k t = written3-returns S changes ends out (mixed k) (leb 1 k && leb k 65535) (told-2d S k (length ends) t)
