-- Painting and reading: the pixels that are painted, those that are read, and that each undoes the other. Assumes nothing.
use mathlib.Core.Path.{◌≡◌, refl, sym, ap, ◌∙◌}
use mathlib.Core.Bool.{Bool, true, false, true≢false}
use mathlib.Core.List.{List, [], ◌∷◌, ◌++◌}
use Prim.Native.Nat.{ℕ, zero, suc, ◌+◌, ◌-◌, ◌*◌, ◌/◌, ◌%◌, ◌^◌, ◌≤◌, ◌<◌}
use native.Mathlib.Omega.{arith}
use native.Mathlib.Nat.{zero-mul, suc-mul, mul-le-mul_right, le_refl}
use lib.Dec.{eqb}
use lib.ListN.{length, get_or, take, drop, length-append}
use lib.Seq.{get_or-take, get_or-append-add, length-take-le}
use borrow.Author.Tests.{eqb-true, eqb-false, lt-ltb, le-ltb}
use Rattle.rules.specs.Bits.{bit, value_of}
use Rattle.rules.specs.Codes.{Colour, white, black, opposite, differ}
use Rattle.rules.specs.Pixels.{Pixels, pixels_of, colour_at, changing}
use Rattle.rules.specs.Rising as Rise
use Rattle.rules.specs.Rising.{Rising, none, some}
use Rattle.rules.specs.Rows.{bytes_to}
use Rattle.rules.proofs.Ascending.{rises-lower}
use Rattle.bitmap.specs.Packed.{bit_for, colour_for, packed, bytes_from, padded, row_bytes, laid, painted_from, pixels_at, turns_from, rows_at, reach}
use Rattle.bitmap.specs.Turning.{colour_before}
use Rattle.bitmap.proofs.Packing.{packed-middle}
use Rattle.bitmap.proofs.RowBytes.{length-row}
use Rattle.bitmap.proofs.Turnings.{changing-before, laid-length}

-- ---- The bytes that are painted

-- a bit of a number of bits
bit-packed : (f : ℕ → Bool) (i a c : ℕ) → bit c (packed f (a + 1 + c) i) ≡ f (i + a)
unfolding bit packed
bit-packed f i a c =
    ap (λ (v : ℕ). eqb v 1) (packed-middle f a 1 c i ∙ one (f (i + a))) ∙ back (f (i + a))
  where
    one : (b : Bool) → value_of b * 2 ^ 0 + 0 ≡ value_of b
    one true = refl
    one false = refl

    back : (b : Bool) → eqb (value_of b) 1 ≡ b
    back true = refl
    back false = refl

-- byte j of a row's bytes
bytes-at : (f : ℕ → Bool) (n j k : ℕ) → k < n → get_or (bytes_from f n j) k 0 ≡ packed f 8 (8 * (j + k))
unfolding bytes_from
bytes-at f zero j k h = absurd (omega arith)
bytes-at f (suc n) j zero h = let e : j + 0 ≡ j = omega arith in rw e refl
bytes-at f (suc n) j (suc k) h = let e : suc j + k ≡ j + suc k = omega arith in rw (← e) (bytes-at f n (suc j) k (omega arith))

-- and each of its bits
pixel-of : (f : ℕ → Bool) (n x : ℕ) → x / 8 < n → bit (7 - x % 8) (get_or (bytes_from f n 0) (x / 8) 0) ≡ f x
pixel-of f n x h =
    let z : 0 + x / 8 ≡ x / 8 = omega arith in
    let e : 8 ≡ x % 8 + 1 + (7 - x % 8) = omega arith in
    let p : 8 * (x / 8) + x % 8 ≡ x = omega arith in
    ap (bit (7 - x % 8)) (bytes-at f n 0 (x / 8) h ∙ ap (λ (k : ℕ). packed f 8 (8 * k)) z ∙ ap (λ (k : ℕ). packed f k (8 * (x / 8))) e)
    ∙ bit-packed f (8 * (x / 8)) (x % 8) (7 - x % 8)
    ∙ ap f p

left : (xs ys : List ℕ) (n : ℕ) → n < length xs → get_or (xs ++ ys) n 0 ≡ get_or xs n 0
left [] ys n h = absurd (omega arith)
left (x ∷ xs) ys zero h = refl
left (x ∷ xs) ys (suc n) h = left xs ys n (omega arith)

-- bytes that are laid, and those before and behind them
laid-at : (at k : ℕ) (xs out : List ℕ) → at ≤ length out → k < length xs → get_or (laid at xs out) (at + k) 0 ≡ get_or xs k 0
unfolding laid
laid-at at k xs out h l = front (take at out) (length-take-le at out h)
  where
    front : (ps : List ℕ) → length ps ≡ at → get_or (ps ++ xs ++ drop (at + length xs) out) (at + k) 0 ≡ get_or xs k 0
    front ps e =
        left (ps ++ xs) (drop (at + length xs) out) (at + k) (omega (arith, length-append ps xs))
        ∙ ap (λ (n : ℕ). get_or (ps ++ xs) (n + k) 0) (sym e)
        ∙ get_or-append-add ps xs k 0

laid-before : (at k : ℕ) (xs out : List ℕ) → at ≤ length out → k < at → get_or (laid at xs out) k 0 ≡ get_or out k 0
unfolding laid
laid-before at k xs out h l =
    left (take at out ++ xs) (drop (at + length xs) out) k (omega (arith, length-append (take at out) xs, length-take-le at out h))
    ∙ left (take at out) xs k (omega (arith, length-take-le at out h))
    ∙ get_or-take at out k 0 l

module _ (one : Bool) (width stride : ℕ) (wide : bytes_to width ≤ stride) where
  -- room for rows from a byte on
  abbrev fits_at : ℕ → ℕ → ℕ → Type 0
  fits_at at rows size = (k : ℕ) → k < rows → at + k * stride + bytes_to width ≤ size

  fits-here : (at rows size : ℕ) → fits_at at (suc rows) size → at + bytes_to width ≤ size
  fits-here at rows size f = omega (arith, f 0 (omega arith), zero-mul stride)

  fits-later : (at rows size : ℕ) → fits_at at (suc rows) size → fits_at (at + stride) rows size
  fits-later at rows size f k h = omega (arith, f (suc k) (omega arith), suc-mul k stride)

  row-length : (at : ℕ) (r out : List ℕ) → at + bytes_to width ≤ length out → length (laid at (row_bytes one width r) out) ≡ length out
  row-length at r out h = laid-length at (row_bytes one width r) out (omega (arith, length-row one width r))

  -- what lies before the rows stays
  painted-before : (rows : List (List ℕ)) (at k : ℕ) (out : List ℕ) → fits_at at (length rows) (length out) → k < at
      → get_or (painted_from one width stride at rows out) k 0 ≡ get_or out k 0
  unfolding painted_from
  painted-before [] at k out f h = refl
  painted-before (r ∷ rs) at k out f h =
      let here = fits-here at (length rs) (length out) f in
      painted-before rs (at + stride) k (laid at (row_bytes one width r) out) (λ n l. omega (arith, fits-later at (length rs) (length out) f n l, row-length at r out here)) (omega arith)
      ∙ laid-before at k (row_bytes one width r) out (omega arith) h

  painted-size : (rows : List (List ℕ)) (at : ℕ) (out : List ℕ) → fits_at at (length rows) (length out) → length (painted_from one width stride at rows out) ≡ length out
  unfolding painted_from
  painted-size [] at out f = refl
  painted-size (r ∷ rs) at out f =
      let here = fits-here at (length rs) (length out) f in
      painted-size rs (at + stride) (laid at (row_bytes one width r) out) (λ n l. omega (arith, fits-later at (length rs) (length out) f n l, row-length at r out here)) ∙ row-length at r out here

  -- a byte of row y
  painted-at : (rows : List (List ℕ)) (at y j : ℕ) (out : List ℕ) → fits_at at (length rows) (length out) → y < length rows → j < bytes_to width
      → get_or (painted_from one width stride at rows out) (at + y * stride + j) 0 ≡ get_or (row_bytes one width (get_or rows y [])) j 0
  unfolding painted_from
  painted-at [] at y j out f h l = absurd (omega arith)
  painted-at (r ∷ rs) at zero j out f h l =
      let here = fits-here at (length rs) (length out) f in
      let e : at + 0 * stride + j ≡ at + j = omega (arith, zero-mul stride) in
      rw e
      (painted-before rs (at + stride) (at + j) (laid at (row_bytes one width r) out) (λ n l. omega (arith, fits-later at (length rs) (length out) f n l, row-length at r out here)) (omega arith)
      ∙ laid-at at j (row_bytes one width r) out (omega arith) (omega (arith, length-row one width r)))
  painted-at (r ∷ rs) at (suc y) j out f h l =
      let here = fits-here at (length rs) (length out) f in
      let e : at + suc y * stride + j ≡ at + stride + y * stride + j = omega (arith, suc-mul y stride) in
      rw e
      (painted-at rs (at + stride) y j (laid at (row_bytes one width r) out) (λ n l. omega (arith, fits-later at (length rs) (length out) f n l, row-length at r out here)) (omega arith) l)

  colour-back : (c : Colour) → colour_for one (bit_for one c) ≡ c
  colour-back c = by one c
    where
      by : (o : Bool) (c : Colour) → colour_for o (bit_for o c) ≡ c
      by true white = refl
      by true black = refl
      by false white = refl
      by false black = refl

  reach-each : (rows size k : ℕ) → reach width stride rows ≤ size → k < rows → 0 + k * stride + bytes_to width ≤ size
  reach-each zero size k r h = absurd (omega arith)
  reach-each (suc rows) size k r h = let l : k ≤ rows = omega arith in omega (arith, r, mul-le-mul_right stride l)

  pub painted-length : (rows : List (List ℕ)) (out : List ℕ) → reach width stride (length rows) ≤ length out
      → length (painted_from one width stride 0 rows out) ≡ length out
  painted-length rows out r = painted-size rows 0 out (λ k q. reach-each (length rows) (length out) k r q)

  -- each pixel that is painted
  pub painted-pixel : (rows : List (List ℕ)) (out : List ℕ) → reach width stride (length rows) ≤ length out → (y x : ℕ) → y < length rows → x < 8 * bytes_to width
      → pixels_at one (painted_from one width stride 0 rows out) (y * stride) x ≡ padded width (get_or rows y []) x
  unfolding pixels_at row_bytes
  painted-pixel rows out r y x h l =
      let z : y * stride + x / 8 ≡ 0 + y * stride + x / 8 = omega arith in
      let j : x / 8 < bytes_to width = omega arith in
      let row = get_or rows y [] in
      ap (λ (b : ℕ). colour_for one (bit (7 - x % 8) b))
      (ap (λ (n : ℕ). get_or (painted_from one width stride 0 rows out) n 0) z ∙ painted-at rows 0 y (x / 8) out (λ k q. reach-each (length rows) (length out) k r q) h j)
      ∙ ap (colour_for one) (pixel-of (λ i. bit_for one (padded width row i)) (bytes_to width) x j)
      ∙ colour-back (padded width row x)

pub padded-inside : (width : ℕ) (row : List ℕ) (x : ℕ) → x < width → padded width row x ≡ pixels_of row x
unfolding padded
padded-inside width row x h = rw (lt-ltb x width h) refl

pub padded-behind : (width : ℕ) (row : List ℕ) (x : ℕ) → width ≤ x → padded width row x ≡ white
unfolding padded
padded-behind width row x h = rw (le-ltb x width h) refl

-- ---- The changes of pixels

same_or : (c d : Colour) → differ c d ≡ false → d ≡ c
same_or white white e = refl
same_or black black e = refl
same_or white black e = absurd (true≢false e)
same_or black white e = absurd (true≢false e)

other-or : (c d : Colour) → differ c d ≡ true → d ≡ opposite c
other-or white black e = refl
other-or black white e = refl
other-or white white e = absurd (true≢false (sym e))
other-or black black e = absurd (true≢false (sym e))

differ_self : (c : Colour) → differ c c ≡ false
differ_self white = refl
differ_self black = refl

differ-turned : (c : Colour) → differ c (opposite c) ≡ true
differ-turned white = refl
differ-turned black = refl

-- left of its first change a row has its first colour
first-colour : (c : Colour) (x : ℕ) {width low : ℕ} {row : List ℕ} → x < low → Rising width low row → colour_at c row x ≡ c
unfolding colour_at
first-colour c x h none = refl
first-colour c x h (some {x = z} a b r) = rw (lt-ltb x z (omega arith)) refl

-- from its first change on it is that of the others
cons-behind : (c : Colour) (z x : ℕ) (xs : List ℕ) → z ≤ x → colour_at c (z ∷ xs) x ≡ colour_at (opposite c) xs x
unfolding colour_at
cons-behind c z x xs h = rw (le-ltb x z h) refl

nil-colour : (c : Colour) (x : ℕ) → colour_at c [] x ≡ c
unfolding colour_at
nil-colour c x = refl

module _ (line : Pixels) where
  turns-zero : (i : ℕ) → turns_from line 0 i ≡ []
  unfolding turns_from
  turns-zero i = refl

  before-is : (i : ℕ) → colour_before line (suc i) ≡ line i
  unfolding colour_before
  before-is i = refl

  turns-true : (n i : ℕ) → changing line i ≡ true → turns_from line (suc n) i ≡ i ∷ turns_from line n (suc i)
  unfolding turns_from
  turns-true n i e = rw (turns_from, e) refl

  turns-false : (n i : ℕ) → changing line i ≡ false → turns_from line (suc n) i ≡ turns_from line n (suc i)
  unfolding turns_from
  turns-false n i e = rw (turns_from, e) refl

  -- they rise
  rising-from : (n i width : ℕ) → i + n ≡ width → Rising width i (turns_from line n i)
  unfolding turns_from
  rising-from zero i width e = none
  rising-from (suc n) i width e = by (changing line i) (rising-from n (suc i) width (omega arith))
    where
      by : (b : Bool) → Rising width (suc i) (turns_from line n (suc i))
          → Rising width i (elim b as (λ _. List ℕ) [ true ↦ i ∷ turns_from line n (suc i) | false ↦ turns_from line n (suc i) ])
      by true r = some (le_refl i) (omega arith) r
      by false r = rises-lower (omega arith) r

  pub turns-rise : (width : ℕ) → Rising width 0 (turns_from line width 0)
  turns-rise width = rising-from width 0 width (omega arith)

  -- a row of these changes has these pixels
  pixels-from : (n i x : ℕ) (c : Colour) → c ≡ colour_before line i → i ≤ x → x < i + n → colour_at c (turns_from line n i) x ≡ line x
  pixels-from zero i x c e h l = absurd (omega arith)
  pixels-from (suc n) i x c e h l = by (changing line i) refl (eqb x i) refl (λ d p q. pixels-from n (suc i) x d p q (omega arith))
    where
      later : Rising (suc i + n) (suc i) (turns_from line n (suc i))
      later = rising-from n (suc i) (suc i + n) refl

      at : (b : Bool) → changing line i ≡ b → differ c (line i) ≡ b
      at b q = ap (λ (d : Colour). differ d (line i)) e ∙ sym (changing-before line i) ∙ q

      by : (b : Bool) → changing line i ≡ b → (t : Bool) → eqb x i ≡ t
          → ((d : Colour) → d ≡ colour_before line (suc i) → suc i ≤ x → colour_at d (turns_from line n (suc i)) x ≡ line x)
          → colour_at c (turns_from line (suc n) i) x ≡ line x
      by true q true t rec =
          let here = eqb-true x i t in
          ap (λ (l : List ℕ). colour_at c l x) (turns-true n i q)
          ∙ cons-behind c i x (turns_from line n (suc i)) h
          ∙ first-colour (opposite c) x (omega arith) later
          ∙ sym (other-or c (line i) (at true q))
          ∙ ap line (sym here)
      by true q false t rec =
          ap (λ (l : List ℕ). colour_at c l x) (turns-true n i q)
          ∙ cons-behind c i x (turns_from line n (suc i)) h
          ∙ rec (opposite c) (sym (other-or c (line i) (at true q)) ∙ sym (before-is i)) (omega (arith, eqb-false x i t))
      by false q true t rec =
          let here = eqb-true x i t in
          ap (λ (l : List ℕ). colour_at c l x) (turns-false n i q)
          ∙ first-colour c x (omega arith) later
          ∙ sym (same_or c (line i) (at false q))
          ∙ ap line (sym here)
      by false q false t rec =
          ap (λ (l : List ℕ). colour_at c l x) (turns-false n i q)
          ∙ rec c (sym (same_or c (line i) (at false q)) ∙ sym (before-is i)) (omega (arith, eqb-false x i t))

  pub turns-pixels : (width x : ℕ) → x < width → pixels_of (turns_from line width 0) x ≡ line x
  unfolding colour_before
  turns-pixels width x h = pixels-from width 0 x white refl (omega arith) (omega arith)

  -- and a row of these pixels has these changes
  row_from : (n i width : ℕ) (c : Colour) {row : List ℕ} → i + n ≡ width → c ≡ colour_before line i → Rising width i row
      → ((x : ℕ) → i ≤ x → x < width → line x ≡ colour_at c row x) → turns_from line n i ≡ row
  row_from zero i width c e b none h = turns-zero i
  row_from zero i width c e b (some p q r) h = absurd (omega arith)
  row_from (suc n) i width c e b none h =
      let here : line i ≡ c = h i (le_refl i) (omega arith) ∙ nil-colour c i in
      turns-false n i (changing-before line i ∙ ap (λ (d : Colour). differ d (line i)) (sym b) ∙ ap (differ c) here ∙ differ_self c)
      ∙ row_from n (suc i) width c (omega arith) (sym here ∙ sym (before-is i)) none (λ x p q. h x (omega arith) q)
  row_from (suc n) i width c e b (some {x = z} {xs = xs} p q r) h = by (eqb z i) refl
      (λ d s t k. row_from n (suc i) width d {row = s} (omega arith) t k)
    where
      by : (t : Bool) → eqb z i ≡ t
          → ((d : Colour) (s : List ℕ) → d ≡ colour_before line (suc i) → Rising width (suc i) s
          → ((x : ℕ) → suc i ≤ x → x < width → line x ≡ colour_at d s x) → turns_from line n (suc i) ≡ s)
          → turns_from line (suc n) i ≡ z ∷ xs
      by true t rec =
          let at = eqb-true z i t in
          let here : line i ≡ opposite c =
          h i (le_refl i) (omega arith) ∙ cons-behind c z i xs (omega arith) ∙ first-colour (opposite c) i (omega arith) r in
          turns-true n i (changing-before line i ∙ ap (λ (d : Colour). differ d (line i)) (sym b) ∙ ap (differ c) here ∙ differ-turned c)
          ∙ ap (λ (l : List ℕ). i ∷ l)
          (rec (opposite c) xs (sym here ∙ sym (before-is i)) (rises-lower (omega arith) r)
          (λ x a l. h x (omega arith) l ∙ cons-behind c z x xs (omega arith)))
          ∙ ap (λ (m : ℕ). m ∷ xs) (sym at)
      by false t rec =
          let apart = eqb-false z i t in
          let here : line i ≡ c = h i (le_refl i) (omega arith) ∙ first-colour c i (omega arith) (some (le_refl z) q r) in
          turns-false n i (changing-before line i ∙ ap (λ (d : Colour). differ d (line i)) (sym b) ∙ ap (differ c) here ∙ differ_self c)
          ∙ rec c (z ∷ xs) (sym here ∙ sym (before-is i)) (some (omega arith) q r) (λ x a l. h x (omega arith) l)

  pub turns-row : (width : ℕ) {row : List ℕ} → Rising width 0 row → ((x : ℕ) → x < width → line x ≡ pixels_of row x) → turns_from line width 0 ≡ row
  unfolding colour_before
  turns-row width r h = row_from width 0 width white (omega arith) refl r (λ x a b. h x b)

-- ---- Rows

-- row y of those that are read
pub rows-at : (one : Bool) (width stride : ℕ) (bytes : List ℕ) (rows at y : ℕ) → y < rows
    → get_or (rows_at one width stride bytes rows at) y [] ≡ turns_from (pixels_at one bytes (at + y * stride)) width 0
unfolding rows_at
rows-at one width stride bytes zero at y h = absurd (omega arith)
rows-at one width stride bytes (suc rows) at zero h = let e : at + 0 * stride ≡ at = omega (arith, zero-mul stride) in rw e refl
rows-at one width stride bytes (suc rows) at (suc y) h =
    let e : at + stride + y * stride ≡ at + suc y * stride = omega (arith, suc-mul y stride) in
    rows-at one width stride bytes rows (at + stride) y (omega arith) ∙ ap (λ (n : ℕ). turns_from (pixels_at one bytes n) width 0) e

-- they rise
pub rows-rise : (one : Bool) (width stride : ℕ) (bytes : List ℕ) (rows at : ℕ) → Rise.Rows width (rows_at one width stride bytes rows at)
unfolding rows_at
rows-rise one width stride bytes zero at = Rise.no_rows
rows-rise one width stride bytes (suc rows) at = Rise.row_then (turns-rise (pixels_at one bytes at) width) (rows-rise one width stride bytes rows (at + stride))

pub row-rises : {width : ℕ} {rows : List (List ℕ)} (y : ℕ) → Rise.Rows width rows → y < length rows → Rising width 0 (get_or rows y [])
row-rises y Rise.no_rows h = absurd (omega arith)
row-rises zero (Rise.row_then r rs) h = r
row-rises (suc y) (Rise.row_then r rs) h = row-rises y rs (omega arith)
