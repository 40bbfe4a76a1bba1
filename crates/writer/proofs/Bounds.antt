-- How many bits a line, what stands around it, and a page have at most. Assumes nothing.
use mathlib.Core.Path.{◌≡◌, refl, sym, ap, ◌∙◌}
use mathlib.Core.Bool.{Bool, true, false, true≢false}
use mathlib.Core.List.{List, [], ◌∷◌, ◌++◌}
use Prim.Native.Nat.{ℕ, zero, suc, ◌+◌, ◌-◌, ◌*◌, ◌/◌, ◌^◌, ◌≤◌, ◌<◌}
use native.Mathlib.Nat.{suc-mul, mul-le-mul_right}
use native.Mathlib.Omega.{arith}
use lib.ListN.{length, get_or, drop, replicate, length-append, length-drop, length-replicate}
use lib.Seq.{length-take-le}
use lib.Dec.{ltb}
use borrow.Author.Tests.{ltb-true, ltb-false}
use Rattle.rules.specs.Codes.{Colour, white, opposite}
use Rattle.rules.specs.Lines.{Kind}
use Rattle.rules.specs.Write.{run_bits, bits_1d, line_bits, rows_bits, eol_bits, eofb, page_bits, rows_in}
use Rattle.rules.specs.WriteGroup3.{Layout, bare, filled, mixed, k_of, kind_next, left_next, coded_lines, ahead, times, ending, framed, page3_bits}
use Rattle.rules.specs.Rising.{Rising, none, some}
use Rattle.rules.proofs.Ascending.{rises-lower}
use Rattle.writer.specs.Coding.{line_of}
use Rattle.row_store.specs.Store.{good_rows}
use Rattle.writer.specs.Paging.{page_of, Pages}
use Rattle.writer.specs.Paging3.{Laid, line_from, page3_of}
use Rattle.writer.specs.Bounds.{last_end, most_row, most_bits, Measured}
use Rattle.writer.proofs.RunCodes.{run-few}
use Rattle.writer.proofs.Turns.{line-few}
use Rattle.row_store.proofs.GoodRows.{row_to, good}

-- ---- A line

-- a terminating code to each run, and a make-up code to each 64 pixels
runs-few : (width : ℕ) (c : Colour) (p : ℕ) (rest : List ℕ) → p ≤ width → Rising width p rest
    → length (bits_1d width c p rest) ≤ 13 * length rest + 13 + 13 * ((width - p) / 64)
unfolding bits_1d
runs-few width c p [] k none = omega (arith, run-few c (width - p))
runs-few width c p (x ∷ xs) k (some a b r) =
    omega (
      arith,
      length-append (run_bits c (x - p)) (bits_1d width (opposite c) x xs),
      run-few c (x - p),
      runs-few width (opposite c) x xs (omega arith) (rises-lower (omega arith) r),
    )

-- of either kind
pub kind-few : (width : ℕ) (single : Bool) (above row : List ℕ) → Rising width 0 above → Rising width 0 row
    → length (line_from width single above row) ≤ 2 * length above + 15 * length row + 13 * (width / 64) + 30
unfolding line_bits
kind-few width true above row rises rises' = omega (arith, runs-few width white 0 row (omega arith) rises')
kind-few width false above row rises rises' = line-few width above row rises rises'

-- what stands before it, and the end
pub ahead-few : (layout : Layout) → Laid layout → (kind : Kind) → length (ahead layout kind) ≤ 76
unfolding eol_bits
ahead-few bare h kind = omega arith
ahead-few (filled fill) h kind = omega (arith, length-append (replicate fill false) eol_bits, length-replicate fill false)
ahead-few (mixed k) h kind = omega arith

pub end-few : (layout : Layout) → Laid layout → length (ending layout) ≤ 136
unfolding times eol_bits
end-few bare h = omega arith
end-few (filled fill) h = omega (arith, length-append (replicate fill false) (times 6 eol_bits), length-replicate fill false)
end-few (mixed k) h = omega arith

-- ---- The rows of a page

-- a row that lies in the array has as many changes as its end says
row-length : (changes : List ℕ) (base end : ℕ) → base ≤ end → end ≤ length changes → length (row_to changes base end) ≡ end - base
row-length changes base end h k = length-take-le (end - base) (drop base changes) (omega (arith, length-drop base changes))

module _ (width : ℕ) (changes : List ℕ) where
  -- of a T.6 page
  rows_few : (above : List ℕ) (base : ℕ) (ends : List ℕ) → Rising width 0 above → good_rows width changes base ends ≡ true
      → length (rows_bits width above (rows_in base changes ends)) + 17 * base ≤ 2 * length above + 17 * last_end base ends + length ends * most_row width
  unfolding rows_bits rows_in last_end
  rows_few above base [] rises g = omega arith
  rows_few above base (e ∷ es) rises g =
      let t = good width changes base (e ∷ es) 0 (omega arith) g in
      let row = row_to changes base e in
      omega (
        arith,
        length-append (line_of width above row) (rows_bits width row (rows_in e changes es)),
        line-few width above row rises t.rises,
        row-length changes base e t.low t.high,
        t.low,
        rows_few row e es t.rises t.rest,
        suc-mul (length es) (most_row width),
      )

  -- of a Group 3 page, with its end
  framed-few : (layout : Layout) → Laid layout → (left : ℕ) (above : List ℕ) (base : ℕ) (ends : List ℕ) → Rising width 0 above → good_rows width changes base ends ≡ true
      → length (framed layout (coded_lines width (k_of layout) left above (rows_in base changes ends))) + 17 * base
      ≤ 2 * length above + 17 * last_end base ends + length ends * most_row width + 136
  unfolding framed coded_lines rows_in last_end
  framed-few layout laid left above base [] rises g = omega (arith, end-few layout laid)
  framed-few layout laid left above base (e ∷ es) rises g =
      let t = good width changes base (e ∷ es) 0 (omega arith) g in
      let row = row_to changes base e in
      let others = framed layout (coded_lines width (k_of layout) (left_next (k_of layout) left) row (rows_in e changes es)) in
      omega (
        arith,
        length-append (ahead layout (kind_next left above)) (line_bits width (kind_next left above) row ++ others),
        length-append (line_bits width (kind_next left above) row) others,
        ahead-few layout laid (kind_next left above),
        either left row t.rises,
        row-length changes base e t.low t.high,
        t.low,
        framed-few layout laid (left_next (k_of layout) left) row e es t.rises t.rest,
        suc-mul (length es) (most_row width),
      )
    where
      either : (left : ℕ) (row : List ℕ) → Rising width 0 row
          → length (line_bits width (kind_next left above) row) ≤ 2 * length above + 15 * length row + 13 * (width / 64) + 30
      either zero row r = kind-few width true above row rises r
      either (suc left) row r = kind-few width false above row rises r

  -- ---- Whole pages

  module _ (ends : List ℕ) (g : good_rows width changes 0 ends ≡ true) where
    pub page-few : length (page_of width changes ends) ≤ most_bits width (length ends) (last_end 0 ends)
    unfolding page_bits eofb eol_bits
    page-few = omega (arith, length-append (rows_bits width [] (rows_in 0 changes ends)) eofb, rows_few [] 0 ends none g)

    pub page3-few : (layout : Layout) → Laid layout → length (page3_of layout width changes ends) ≤ most_bits width (length ends) (last_end 0 ends)
    unfolding page3_bits
    page3-few layout laid = omega (arith, framed-few layout laid 0 [] 0 ends none g)

-- ---- The last end

-- no rows end at 0
pub none_last : (ends : List ℕ) → length ends ≡ 0 → 0 ≡ last_end 0 ends
unfolding last_end
none_last [] h = refl
none_last (e ∷ es) h = absurd (omega arith)

pub last-is : (ends : List ℕ) → 0 < length ends → get_or ends (length ends - 1) 0 ≡ last_end 0 ends
unfolding last_end
last-is [] h = absurd (omega arith)
last-is (e ∷ es) h = by e es
  where
    by : (e : ℕ) (es : List ℕ) → get_or (e ∷ es) (length (e ∷ es) - 1) 0 ≡ last_end e es
    by e [] = refl
    by e (f ∷ es) = ap (λ (n : ℕ). get_or (e ∷ f ∷ es) n 0) (let q : length (e ∷ f ∷ es) - 1 ≡ suc (length (f ∷ es) - 1) = omega arith in q) ∙ by f es

-- ---- Whether it fits

-- the bound is a number
pub rows_fit : (rows width : ℕ) → rows ≤ 4294967296 → width ≤ 4294967295 → rows * most_row width < 2 ^ 62
rows_fit rows width h k = omega (arith, mul-le-mul_right (most_row width) h)

-- by the bound,
pub surely : {xs : List Bool} {most : ℕ} {out : List ℕ} → length xs ≤ most → most ≤ 8 * length out → Measured xs out false out
surely h k = record { over = λ e. absurd (true≢false (sym e)); fits = λ _. omega arith; kept = refl }

-- and by the count
pub counted : {xs : List Bool} {out : List ℕ} {end : ℕ} {out' : List ℕ} → Pages false xs out end out' → Measured xs out (ltb (8 * length out') end) out'
counted {xs} {out} {end} {out'} p = record {
  over = λ e. p.over (omega (arith, ltb-true (8 * length out') end e, p.size));
  fits = λ e. let l = ltb-false (8 * length out') end e in omega (arith, (p.fits (omega (arith, l, p.size))).next, l, p.size);
  kept = p.kept refl;
}
