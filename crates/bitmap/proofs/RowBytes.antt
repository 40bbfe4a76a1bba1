-- A row's bytes, word by word, and a store's rows, stride by stride. Assumes nothing.
use mathlib.Core.Path.{◌≡◌, refl, sym, ap, ◌∙◌}
use mathlib.Core.Bool.{Bool, true, false, cond, not}
use mathlib.Core.List.{List, [], ◌∷◌, ◌++◌, append_assoc}
use Prim.Native.Nat.{ℕ, zero, suc, ◌+◌, ◌-◌, ◌*◌, ◌≤◌, ◌<◌}
use native.Mathlib.Omega.{arith}
use native.Mathlib.Numerals.{add-one}
use native.Mathlib.Nat.{suc-mul, mul-le-mul_right}
use lib.Dec.{ltb}
use lib.ListN.{length, get_or, take, drop, set, length-append, length-drop, drop_of_length-le}
use lib.Seq.{take-length, take_all, take-suc-set, drop-cons, drop-drop, length-take-le}
use borrow.Author.Tests.{ltb-true, ltb-false, lt-ltb, le-ltb}
use Rattle.rules.specs.Codes.{Colour, white, black}
use Rattle.rules.specs.Pixels.{colour_at}
use Rattle.rules.specs.Rising.{Rising}
use Rattle.rules.specs.Rows.{bytes_to}
use Rattle.rules.specs.Write.{rows_in}
use Rattle.bitmap.specs.Packed.{bit_for, packed, bytes_from, padded, row_bytes, laid, painted_from, reach}
use Rattle.bitmap.specs.Steps.{colour_after, is_black, pixels_to, black_to, black_in, ones_from, Turnable, Standing, Has, Puts, top_bytes}
use Rattle.bitmap.specs.declared.pixels.Span.{Span}
use Rattle.bitmap.proofs.Packing.{packed-same, packed-zeros, packed-ones, packed-not, bytes-add, length-bytes, top-bytes}
use Rattle.bitmap.proofs.Colours.{change-high, turnable, turned-is, behind-all}

-- ---- The pixels of a word

-- before the first word
pub standing-start : {width : ℕ} {row : List ℕ} → Rising width 0 row → Standing width row 0 false 0
unfolding colour_after colour_at
standing-start r = record { rises = r; inside = omega arith; shade = refl; passed = λ i h. refl; ahead = λ h. omega arith }

module _ {width : ℕ} {row : List ℕ} {from : ℕ} {w : Span} (h : Has width row from w) where
  -- left of the width a pixel is the row's
  inside : (i : ℕ) → i < width → i < from + 64 → black_to w.next row i ≡ black_in width row i
  unfolding padded
  inside i l k = sym (rw (lt-ltb i width l) (ap is_black (h.whole i k)))

  -- a word that the width does not cut
  pub word-inside : from + 64 ≤ width → w.bits ≡ packed (black_in width row) 64 from
  word-inside k = h.bits ∙ packed-same (black_to w.next row) (black_in width row) 64 from (λ j a b. inside j (omega arith) b)

  module _ (low : from < width) (high : width ≤ from + 64) where
    -- in the last word all changes are taken
    all-taken : w.next ≡ length row
    all-taken = by (ltb w.next (length row)) refl
      where
        by : (t : Bool) → ltb w.next (length row) ≡ t → w.next ≡ length row
        by true e =
            let l = ltb-true w.next (length row) e in
            absurd (omega (arith, h.standing.ahead l, change-high w.next h.standing.rises l))
        by false e = omega (arith, ltb-false w.next (length row) e, h.standing.inside)

    -- behind the width they leave one colour, where the row itself is white
    behind-width : (i : ℕ) → width ≤ i → black_to w.next row i ≡ w.black
    behind-width i k =
        ap (λ (n : ℕ). is_black (pixels_to n row i)) all-taken
        ∙ ap (λ (l : List ℕ). is_black (colour_at white l i)) (take-length row)
        ∙ ap is_black (behind-all h.standing.rises i k)
        ∙ ap (λ (n : ℕ). is_black (colour_after n)) (sym all-taken)
        ∙ sym h.standing.shade

    white-behind : (i : ℕ) → width ≤ i → black_in width row i ≡ false
    unfolding padded
    white-behind i k = rw (le-ltb i width k)

    -- a row that ends in white
    pub last-white : w.black ≡ false → w.bits ≡ packed (black_in width row) 64 from
    last-white e = h.bits ∙ packed-same (black_to w.next row) (black_in width row) 64 from (λ j a b. by j b (ltb j width) refl)
      where
        by : (j : ℕ) → j < from + 64 → (t : Bool) → ltb j width ≡ t → black_to w.next row j ≡ black_in width row j
        by j b true q = inside j (ltb-true j width q) b
        by j b false q = behind-width j (ltb-false j width q) ∙ e ∙ sym (white-behind j (ltb-false j width q))

    -- one that ends in black, inside the word
    module _ (dark : w.black ≡ true) (cut : width < from + 64) where
      pub last-turns : Turnable true w.bits (width - from)
      last-turns = turnable (black_to w.next row) (black_in width row) from width w.bits true (omega arith) cut h.bits
          (λ j l. inside j l (omega arith)) (λ j l. behind-width j l ∙ dark) white-behind

      pub last-black : w.bits - ones_from (width - from) ≡ packed (black_in width row) 64 from
      last-black = turned-is (black_to w.next row) (black_in width row) from width w.bits true (omega arith) cut h.bits
          (λ j l. inside j l (omega arith)) (λ j l. behind-width j l ∙ dark) white-behind

-- ---- As the caller wants them

abbrev pub shown_in : Bool → ℕ → List ℕ → ℕ → Bool
shown_in one width row i = bit_for one (padded width row i)

not-black : (c : Colour) → not (is_black c) ≡ bit_for false c
not-black white = refl
not-black black = refl

pub shown-word : (one : Bool) (width : ℕ) (row : List ℕ) (from : ℕ) {bits r : ℕ} → bits ≡ packed (black_in width row) 64 from
    → r ≡ cond one bits (18446744073709551615 - bits) → r ≡ packed (shown_in one width row) 64 from
shown-word true width row from e f = f ∙ e
shown-word false width row from e f =
    omega (
      arith,
      e,
      f,
      packed-not (black_in width row) 64 from,
      packed-same (λ j. not (black_in width row j)) (shown_in false width row) 64 from (λ j a b. not-black (padded width row j)),
    )

-- ---- The bytes of a row

module _ (one : Bool) (width : ℕ) (row : List ℕ) where
  pub bytes-none : [] ≡ bytes_from (shown_in one width row) 0 0
  unfolding bytes_from
  bytes-none = refl

  -- n bytes behind the first i
  pub bytes_next : (n i bits : ℕ) {out out' : List ℕ} → n ≤ 8 → bits ≡ packed (shown_in one width row) 64 (8 * i) → Puts n i bits out out'
      → take i out ≡ bytes_from (shown_in one width row) i 0 → take (i + n) out' ≡ bytes_from (shown_in one width row) (i + n) 0
  bytes_next n i bits h e p q =
      let z : zero + i ≡ i = omega arith in
      p.front
      ∙ ap (λ (l : List ℕ). l ++ top_bytes n bits) q
      ∙ ap (λ (b : ℕ). bytes_from (shown_in one width row) i 0 ++ top_bytes n b) e
      ∙ ap (λ (l : List ℕ). bytes_from (shown_in one width row) i 0 ++ l) (top-bytes (shown_in one width row) n i h)
      ∙ ap (λ (j : ℕ). bytes_from (shown_in one width row) i 0 ++ bytes_from (shown_in one width row) n j) (sym z)
      ∙ sym (bytes-add (shown_in one width row) i n 0)

  -- all of them
  pub bytes-all : (n : ℕ) {out : List ℕ} → length out ≡ bytes_to width → n ≡ bytes_to width → take n out ≡ bytes_from (shown_in one width row) n 0
      → out ≡ row_bytes one width row
  unfolding row_bytes
  bytes-all n {out} size e f = sym (take_all n out (omega (arith, size, e))) ∙ f ∙ ap (λ (k : ℕ). bytes_from (shown_in one width row) k 0) e

  pub length-row : length (row_bytes one width row) ≡ bytes_to width
  unfolding row_bytes
  length-row = length-bytes (shown_in one width row) (bytes_to width) 0

-- ---- A row without changes

-- each of its pixels is white
blank-pixel : (one : Bool) (width i : ℕ) → shown_in one width [] i ≡ not one
unfolding padded colour_at
blank-pixel one width i = by (ltb i width)
  where
    by : (t : Bool) → bit_for one (cond t white white) ≡ not one
    by true = refl
    by false = refl

-- and each of its bytes the same
blank-byte : (one : Bool) (width i : ℕ) → packed (shown_in one width []) 8 i ≡ cond one 0 255
blank-byte one width i = by one (λ j. blank-pixel one width j)
  where
    by : (o : Bool) → ((j : ℕ) → shown_in one width [] j ≡ not o) → packed (shown_in one width []) 8 i ≡ cond o 0 255
    by true h = packed-zeros (shown_in one width []) 8 i (λ j a b. h j)
    by false h = omega (arith, packed-ones (shown_in one width []) 8 i (λ j a b. h j))

pub blank-next : (one : Bool) (width i b : ℕ) (out : List ℕ) → b ≡ cond one 0 255 → i < length out
    → take i out ≡ bytes_from (shown_in one width []) i 0 → take (i + 1) (set out i b) ≡ bytes_from (shown_in one width []) (i + 1) 0
unfolding bytes_from
blank-next one width i b out e h f =
    let s : i + 1 ≡ suc i = omega arith in
    ap (λ (n : ℕ). take n (set out i b)) s
    ∙ take-suc-set out i b h
    ∙ ap (λ (l : List ℕ). l ++ b ∷ []) f
    ∙ ap (λ (v : ℕ). bytes_from (shown_in one width []) i 0 ++ v ∷ []) (e ∙ sym (blank-byte one width (8 * (0 + i))))
    ∙ sym (bytes-add (shown_in one width []) i 1 0)

pub no-changes : (one : Bool) (width : ℕ) (row : List ℕ) {out : List ℕ} → length row ≡ 0 → out ≡ row_bytes one width [] → out ≡ row_bytes one width row
no-changes one width [] e f = f
no-changes one width (x ∷ xs) e f = absurd (omega (arith, e))

-- ---- The rows of a store

-- a row lies in the bytes, and they stay as many
pub row_room : (width stride rows k size : ℕ) → k < rows → reach width stride rows ≤ size → k * stride + bytes_to width ≤ size
row_room width stride zero k size h r = absurd (omega arith)
row_room width stride (suc rows) k size h r =
    let l : k ≤ rows = omega arith in
    omega (arith, r, mul-le-mul_right stride l)

pub laid-length : (at n m : ℕ) (out : List ℕ) {xs ys : List ℕ} → xs ≡ ys → length ys ≡ m → m ≡ n → at + n ≤ length out
    → length (take at out ++ (xs ++ drop n (drop at out))) ≡ length out
laid-length at n m out {xs} {ys} e f g h =
    omega (
      arith,
      ap length e,
      f,
      g,
      length-append (take at out) (xs ++ drop n (drop at out)),
      length-append xs (drop n (drop at out)),
      length-take-le at out (omega arith),
      length-drop n (drop at out),
      length-drop at out,
    )

module _ (one : Bool) (width stride : ℕ) (changes : List ℕ) where
  -- a row that is painted in its place
  pub painted-next : (base k : ℕ) (ends out row' : List ℕ) (h : k < length ends) → k * stride + bytes_to width ≤ length out
      → row' ≡ row_bytes one width (take (get_or ends k 0 - base) (drop base changes))
      → {whole : List ℕ} → painted_from one width stride (k * stride) (rows_in base changes (drop k ends)) out ≡ whole
      → painted_from one width stride ((k + 1) * stride) (rows_in (get_or ends k 0) changes (drop (k + 1) ends))
      (take (k * stride) out ++ (row' ++ drop (k * stride + bytes_to width - k * stride) (drop (k * stride) out))) ≡ whole
  unfolding painted_from rows_in laid
  painted-next base k ends out row' h room e f =
      let s : k * stride + stride ≡ (k + 1) * stride = omega (arith, suc-mul k stride, add-one k) in
      let d : k * stride + (k * stride + bytes_to width - k * stride) ≡ k * stride + bytes_to width = omega arith in
      ap at (sym (append_assoc (take (k * stride) out) row' (drop (k * stride + bytes_to width - k * stride) (drop (k * stride) out))))
      ∙ ap (λ (l : List ℕ). at l) (ap (λ (n : List ℕ). take (k * stride) out ++ row' ++ n) (drop-drop (k * stride + bytes_to width - k * stride) (k * stride) out ∙ ap (λ (n : ℕ). drop n out) d))
      ∙ ap (λ (l : List ℕ). at (take (k * stride) out ++ l ++ drop (k * stride + bytes_to width) out)) e
      ∙ ap (λ (n : ℕ). at (take (k * stride) out ++ r ++ drop (k * stride + n) out)) (sym (length-row one width _))
      ∙ ap (λ (n : ℕ). painted_from one width stride n (rows_in (get_or ends k 0) changes (drop (k + 1) ends)) (laid (k * stride) r out)) (sym s)
      ∙ ap (λ (n : ℕ). painted_from one width stride (k * stride + stride) (rows_in (get_or ends k 0) changes (drop n ends)) (laid (k * stride) r out)) (add-one k)
      ∙ sym (ap (λ (l : List ℕ). painted_from one width stride (k * stride) (rows_in base changes l) out) (drop-cons ends k 0 h))
      ∙ f
    where
      at : List ℕ → List ℕ
      at l = painted_from one width stride ((k + 1) * stride) (rows_in (get_or ends k 0) changes (drop (k + 1) ends)) l

      r : List ℕ
      r = row_bytes one width (take (get_or ends k 0 - base) (drop base changes))

  -- past the last row
  pub painted-all : (at base k : ℕ) (ends out : List ℕ) → length ends ≤ k → {whole : List ℕ}
      → painted_from one width stride at (rows_in base changes (drop k ends)) out ≡ whole → out ≡ whole
  unfolding painted_from rows_in
  painted-all at base k ends out h f = ap (λ (l : List ℕ). painted_from one width stride at (rows_in base changes l) out) (sym (drop_of_length-le ends h)) ∙ f
