-- What the writers wrote is proper, as `is_proper` says it. Assumes nothing.
use mathlib.Core.Path.{◌≡◌, refl, sym, ap, ◌∙◌, subst}
use mathlib.Core.Logic.{◌⊎◌}
use mathlib.Core.Bool.{Bool, true, false, ◌&&◌}
use mathlib.Core.List.{List, ◌++◌, append-nil}
use Prim.Native.Nat.{ℕ, ◌*◌, ◌≤◌}
use native.Mathlib.Omega.{arith}
use lib.Dec.{leb}
use lib.ListN.{length, take, drop, length-drop, length-take, take-append-drop}
use lib.Seq.{length-take-le}
use Rattle.rules.specs.Bits.{bits_of}
use Rattle.rules.specs.Rows.{Encoding, group3_1_d, Settings, bytes_to}
use Rattle.rules.specs.Pages.{most_bytes, entries, decode}
use Rattle.rules.specs.Write.{page_bits, rows_in, ends_rise, all_ascend, write_page}
use Rattle.rules.specs.WriteGroup3.{Layout, mixed, layout_1d, write_group3, write_1d, write_2d}
use Rattle.rules.specs.Proper.{t6, t4, most_fill, most_k, writes_for, is_proper}
use Rattle.rules.proofs.Bits.{length-bits_of}
use Rattle.rules.proofs.PageBack.{Plain}
use Rattle.rules.proofs.RoundTrip.{page-written}
use Rattle.rules.proofs.Writes.{wrote}
use Rattle.rules.proofs.Store.{length-rows_in}
use Rattle.rules.proofs.Group3Back.{Told}
use Rattle.rules.proofs.Group3Trip.{Page3Written, page3-written, Told1D, told-1d, Told2D, told-2d}
use Rattle.rules.proofs.Proper.{write-page-proper, write3-proper, proper-said}

module _ (S : Settings) (changes ends out out' : List ℕ) (store places : ℕ)
    (roomy : entries (rows_in 0 changes ends) ≤ store) (placed : length ends ≤ places) where
  rows-placed : length (rows_in 0 changes ends) ≤ places
  rows-placed = omega (arith, length-rows_in 0 changes ends)

  -- a page of any layout, which its writer allows
  written3 : (layout : Layout) (fine : Bool) → Told S (length ends) layout → writes_for S.encoding (t4 layout) ≡ true
      → (write_group3 layout fine S.columns changes ends out).number ≡ 0 → length out' ≡ length out
      → bits_of out' ≡ (write_group3 layout fine S.columns changes ends out).bits
      → is_proper S (take (write_group3 layout fine S.columns changes ends out).end out')
      (decode S (take (write_group3 layout fine S.columns changes ends out).end out') store places) ≡ true
  written3 layout fine told may done same bits =
      subst (λ (bytes : List ℕ). is_proper S bytes (decode S bytes store places) ≡ true) (append-nil (take end out'))
      (proper-said S _ _ told.wide (
        t4 layout,
        write3-proper S layout fine changes ends out out' (subst (λ (n : ℕ). Told S n layout) (sym (length-rows_in 0 changes ends)) told)
            may done same bits 0 (omega (arith, p.end_is, p.fits, p.short)) store places roomy rows-placed,
      ))
    where
      p : Page3Written layout fine S.columns changes ends out (write_group3 layout fine S.columns changes ends out)
      p = page3-written layout fine S.columns changes ends out told.narrow done

      end : ℕ
      end = (write_group3 layout fine S.columns changes ends out).end

  pub written-1d : (eols : Bool) (fill : ℕ) → Told1D S eols (length ends)
      → (write_1d eols fill S.columns changes ends out).number ≡ 0 → length out' ≡ length out → bits_of out' ≡ (write_1d eols fill S.columns changes ends out).bits
      → is_proper S (take (write_1d eols fill S.columns changes ends out).end out')
      (decode S (take (write_1d eols fill S.columns changes ends out).end out') store places) ≡ true
  unfolding write_1d writes_for
  written-1d eols fill told done same bits =
      written3 (layout_1d eols fill) (leb fill most_fill) (told-1d S eols fill (length ends) told)
      (ap (λ (enc : Encoding). writes_for enc (t4 (layout_1d eols fill))) told.encoded ∙ may eols) done same bits
    where
      allowed : leb fill most_fill ≡ true
      allowed = (page3-written (layout_1d eols fill) (leb fill most_fill) S.columns changes ends out told.narrow done).fine-is

      may : (b : Bool) → writes_for group3_1_d (t4 (layout_1d b fill)) ≡ true
      may true = allowed
      may false = refl

  pub written-2d : (k : ℕ) → Told2D S (length ends)
      → (write_2d k S.columns changes ends out).number ≡ 0 → length out' ≡ length out → bits_of out' ≡ (write_2d k S.columns changes ends out).bits
      → is_proper S (take (write_2d k S.columns changes ends out).end out')
      (decode S (take (write_2d k S.columns changes ends out).end out') store places) ≡ true
  unfolding write_2d writes_for
  written-2d k told done same bits =
      written3 (mixed k) (leb 1 k && leb k most_k) (told-2d S k (length ends) told)
      (ap (λ (enc : Encoding). writes_for enc (t4 (mixed k))) told.encoded
      ∙ (page3-written (mixed k) (leb 1 k && leb k most_k) S.columns changes ends out told.narrow done).fine-is) done same bits

  -- T.6's, whatever bytes follow
  pub written-page : Plain S → (write_page S.columns changes ends out).number ≡ 0 → length out' ≡ length out → bits_of out' ≡ (write_page S.columns changes ends out).bits
      → (S.rows ≡ 0) ⊎ (S.rows ≡ length ends)
      → (bytes : List ℕ) → length bytes ≤ most_bytes
      → take (write_page S.columns changes ends out).end bytes ≡ take (write_page S.columns changes ends out).end out'
      → is_proper S bytes (decode S bytes store places) ≡ true
  unfolding write_page
  written-page plain done same bits counted bytes small e =
      subst (λ (l : List ℕ). is_proper S l (decode S l store places) ≡ true) (ap (λ (l : List ℕ). l ++ drop end bytes) (sym e) ∙ take-append-drop end bytes)
      (proper-said S _ _ plain.wide (
        t6,
        write-page-proper S plain changes ends out out' done same bits
            (subst (λ (n : ℕ). (S.rows ≡ 0) ⊎ (S.rows ≡ n)) (sym (length-rows_in 0 changes ends)) counted) (drop end bytes) (omega (arith, length-drop end bytes, long))
            store places roomy rows-placed,
      ))
    where
      end : ℕ
      end = (write_page S.columns changes ends out).end

      xs : List Bool
      xs = page_bits S.columns (rows_in 0 changes ends)

      -- the page lies in the output, so its bytes are there
      fits : length xs ≤ 8 * length out
      fits = omega (
        arith,
        (wrote S.columns (ends_rise (length changes) 0 ends && all_ascend S.columns (rows_in 0 changes ends)) xs (bytes_to (length xs)) out 0 done).fits,
        length-bits_of out,
      )

      end_is : end ≡ bytes_to (length xs)
      end_is = (page-written S.columns plain.narrow changes ends out done).end_is

      long : end ≤ length bytes
      long = omega (arith, ap length e, length-take end bytes, length-take-le end out' (omega (arith, end_is, fits)))
