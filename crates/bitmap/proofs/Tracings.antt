-- The changes of a row, word by word, and of all rows, row by row. Assumes nothing.
use mathlib.Core.Path.{◌≡◌, refl, sym, ap, ◌∙◌}
use mathlib.Core.Bool.{Bool, true, false, cond}
use mathlib.Core.List.{List, [], ◌∷◌, ◌++◌}
use Prim.Native.Nat.{ℕ, zero, suc, ◌+◌, ◌-◌, ◌*◌, ◌%◌, ◌≤◌, ◌<◌}
use native.Mathlib.Omega.{arith}
use native.Mathlib.Nat.{zero-add, zero-mul, suc-mul}
use native.Mathlib.Numerals.{add-one}
use lib.Dec.{leb}
use lib.ListN.{length, length-append, drop}
use borrow.Author.Tests.{leb-true, le-leb}
use Rattle.rules.specs.Pages.{entries, joined, ends_from, overlaid}
use Rattle.rules.specs.Pixels.{Pixels}
use Rattle.rules.proofs.Store.{length-joined, joined_snoc, ends_snoc, entries-append, length-ends}
use Rattle.rules.proofs.PageBack.{entries-snoc}
use Rattle.bitmap.specs.Packed.{laid, pixels_at, turns_from, rows_at}
use Rattle.bitmap.specs.Steps.{is_black}
use Rattle.bitmap.specs.Turning.{colour_before, recorded, up_to, Roomy, Traced, Turns, Starts, Row, Lies, Rows}
use Rattle.bitmap.specs.declared.tracing.Turn.{Turn}
use Rattle.bitmap.proofs.RowBytes.{row_room}
use Rattle.bitmap.proofs.Turnings.{turns-few, turns-through, recorded-none, recorded_more, recorded-length}

-- ---- A row

up_to-inside : (width end : ℕ) → end ≤ width → up_to width end ≡ end
up_to-inside width end h = rw (le-leb end width h) refl

up_to-most : (width end : ℕ) → up_to width end ≤ width
up_to-most width end = by (leb end width) refl
  where
    by : (t : Bool) → leb end width ≡ t → cond t end width ≤ width
    by true q = leb-true end width q
    by false q = omega arith

up_to-past : (width end : ℕ) → width ≤ end → up_to width end ≡ width
up_to-past width end h = by (leb end width) refl
  where
    by : (t : Bool) → leb end width ≡ t → cond t end width ≡ width
    by true q = omega (arith, leb-true end width q)
    by false q = refl

up_to-low : (width from end : ℕ) → from ≤ end → from ≤ width → from ≤ up_to width end
up_to-low width from end h k = by (leb end width)
  where
    by : (t : Bool) → from ≤ cond t end width
    by true = h
    by false = k

-- what is read of a row once its words before `from` are
pub record Read (line : Pixels) (width first : ℕ) (write : Bool) (before : List ℕ) (from next : ℕ) (black : Bool) (changes : List ℕ) : Type 0 where
  pub even : from % 8 ≡ 0
  pub near : from < width + 64
  pub count : next ≡ first + length (turns_from line (up_to width from) 0)
  pub shade : from ≤ width → black ≡ is_black (colour_before line from)
  pub entries : changes ≡ recorded write first (turns_from line (up_to width from) 0) before

pub read-start : (line : Pixels) (width first : ℕ) (write : Bool) (before : List ℕ) → Read line width first write before 0 first false before
unfolding turns_from colour_before
read-start line width first write before =
    let z = up_to-inside width 0 (omega arith) in
    record {
      even = refl;
      near = omega arith;
      count = rw z (omega arith);
      shade = λ h. refl;
      entries = rw z (recorded-none write first before);
    }

module _ {line : Pixels} {width first : ℕ} {write : Bool} {before : List ℕ} {from next : ℕ} {black : Bool} {changes : List ℕ}
    (s : Read line width first write before from next black changes) where
  pub read-few : next ≤ first + width
  read-few = omega (arith, s.count, turns-few line (up_to width from) 0, up_to-most width from)

  module _ (room : Roomy write first (turns_from line width 0) before) where
    -- what is read has room
    enough : (q : ℕ) → q ≤ width → write ≡ true → first + length (turns_from line q 0) ≤ length before
    enough q h w =
        let t = turns-through line q width h in
        omega (arith, room w, ap length t, length-append (turns_from line q 0) (turns_from line (width - q) q))

    pub read_length : length changes ≡ length before
    read_length =
        ap length s.entries ∙ recorded-length write first (turns_from line (up_to width from) 0) before (enough (up_to width from) (up_to-most width from))

    module _ (h : from < width) where
      through : turns_from line (up_to width (from + 64)) 0 ≡ turns_from line from 0 ++ turns_from line (up_to width (from + 64) - from) from
      through = turns-through line from (up_to width (from + 64)) (up_to-low width from (from + 64) (omega arith) (omega arith))

      long : length (turns_from line (up_to width (from + 64)) 0) ≡ length (turns_from line from 0) + length (turns_from line (up_to width (from + 64) - from) from)
      long = ap length through ∙ length-append (turns_from line from 0) (turns_from line (up_to width (from + 64) - from) from)

      counted : next ≡ first + length (turns_from line from 0)
      counted = s.count ∙ ap (λ (n : ℕ). first + length (turns_from line n 0)) (up_to-inside width from (omega arith))

      -- and so has the next word
      pub word_room : Roomy write next (turns_from line (up_to width (from + 64) - from) from) changes
      word_room w = omega (arith, enough (up_to width (from + 64)) (up_to-most width (from + 64)) w, long, counted, read_length)

      pub read_next : {r : Turn} {changes' : List ℕ} → Turns line width from next write changes r changes'
          → Read line width first write before (from + 64) r.next r.black changes'
      read_next {r} {changes'} t = record {
        even = omega (arith, s.even);
        near = omega arith;
        count = omega (arith, t.count, counted, long);
        shade = t.shade;
        entries =
            t.entries
            ∙ ap (λ (l : List ℕ). recorded write next later l)
            (s.entries ∙ ap (λ (n : ℕ). recorded write first (turns_from line n 0) before) (up_to-inside width from (omega arith)))
            ∙ ap (λ (n : ℕ). recorded write n later (recorded write first (turns_from line from 0) before)) counted
            ∙ recorded_more write first (turns_from line from 0) later before
            (λ w. omega (arith, enough (up_to width (from + 64)) (up_to-most width (from + 64)) w, long))
            ∙ ap (λ (l : List ℕ). recorded write first l before) (sym through);
      }
        where
          later : List ℕ
          later = turns_from line (up_to width (from + 64) - from) from

  -- all of it
  pub read_all : width ≤ from → Row line width first write before next changes
  read_all h =
      let e = up_to-past width from h in
      record {
        count = s.count ∙ ap (λ (n : ℕ). first + length (turns_from line n 0)) e;
        entries = s.entries ∙ ap (λ (n : ℕ). recorded write first (turns_from line n 0) before) e;
      }

-- what the next word asks
pub word-asks : (one : Bool) (width : ℕ) (bytes : List ℕ) (at first : ℕ) {write : Bool} {before : List ℕ} {from next : ℕ} {black : Bool} {changes : List ℕ}
    → Starts width bytes at first → Read (pixels_at one bytes at) width first write before from next black changes → from < width
    → Traced one width bytes at from next black
word-asks one width bytes at first a s h = record {
  small = a.small;
  inside = a.inside;
  even = s.even;
  left = h;
  few = a.few;
  shade = s.shade (omega arith);
  low = omega (arith, read-few s, a.low, a.few);
}

-- ---- All rows

laid-over : (w : Bool) (xs array : List ℕ) → recorded w 0 xs array ≡ cond w (overlaid xs array) array
unfolding laid overlaid
laid-over true xs array = ap (λ (n : ℕ). xs ++ drop n array) (zero-add (length xs))
laid-over false xs array = refl

module _ (one : Bool) (width stride : ℕ) (bytes : List ℕ) where
  abbrev row_of : ℕ → List ℕ
  row_of at = turns_from (pixels_at one bytes at) width 0

  abbrev up_to_row : ℕ → List (List ℕ)
  up_to_row k = rows_at one width stride bytes k 0

  pub rows-add : (k m at : ℕ) → rows_at one width stride bytes (k + m) at ≡ rows_at one width stride bytes k at ++ rows_at one width stride bytes m (at + k * stride)
  unfolding rows_at
  rows-add zero m at = let e : zero + m ≡ m = omega arith in let p : at + 0 * stride ≡ at = omega (arith, zero-mul stride) in rw (e, p)
  rows-add (suc k) m at =
      let e : suc k + m ≡ suc (k + m) = omega arith in
      let p : at + stride + k * stride ≡ at + suc k * stride = omega (arith, suc-mul k stride) in
      rw (e, rows-add k m (at + stride), p)

  rows_snoc : (k : ℕ) → up_to_row (k + 1) ≡ up_to_row k ++ row_of (k * stride) ∷ []
  unfolding rows_at
  rows_snoc k = rows-add k 1 0 ∙ ap (λ (n : ℕ). up_to_row k ++ row_of n ∷ []) (zero-add (k * stride))

  pub length-rows : (k at : ℕ) → length (rows_at one width stride bytes k at) ≡ k
  unfolding rows_at
  length-rows zero at = refl
  length-rows (suc k) at = ap suc (length-rows k (at + stride))

  module _ (rows : ℕ) (write : Bool) (changes₀ ends₀ : List ℕ) where
    -- what is read of the rows once k of them are
    pub record Store (k next : ℕ) (changes ends : List ℕ) : Type 0 where
      pub inside : k ≤ rows
      pub count : next ≡ entries (up_to_row k)
      pub low : next ≤ 8 * (k * stride)
      pub entered : changes ≡ recorded write 0 (joined (up_to_row k)) changes₀
      pub ended : ends ≡ recorded write 0 (ends_from 0 (up_to_row k)) ends₀

    pub store-start : Store 0 0 changes₀ ends₀
    unfolding rows_at joined ends_from entries
    store-start = record {
      inside = omega arith;
      count = refl;
      low = omega arith;
      entered = recorded-none write 0 changes₀;
      ended = recorded-none write 0 ends₀;
    }

    module _ (asks : Lies one width stride rows bytes write (length changes₀) (length ends₀)) {k next : ℕ} {changes ends : List ℕ} (s : Store k next changes ends) where
      -- some of the rows have no more entries than all
      within : (m : ℕ) → m ≤ rows → entries (up_to_row m) ≤ entries (up_to_row rows)
      within m h =
          let e : m + (rows - m) ≡ rows = omega arith in
          let t = ap entries (ap up_to_row (sym e) ∙ rows-add m (rows - m) 0) in
          omega (arith, t, entries-append (up_to_row m) (rows_at one width stride bytes (rows - m) (0 + m * stride)))

      pub changes-length : length changes ≡ length changes₀
      changes-length =
          ap length s.entered
          ∙ recorded-length write 0 (joined (up_to_row k)) changes₀ (λ w. omega (arith, asks.roomy w, length-joined (up_to_row k), within k s.inside))

      pub ends-length : length ends ≡ length ends₀
      ends-length =
          ap length s.ended
          ∙ recorded-length write 0 (ends_from 0 (up_to_row k)) ends₀ (λ w. omega (arith, asks.ended w, length-ends 0 (up_to_row k), length-rows k 0, s.inside))

      module _ (h : k < rows) where
        one_more : entries (up_to_row (k + 1)) ≡ entries (up_to_row k) + length (row_of (k * stride))
        one_more = ap entries (rows_snoc k) ∙ entries-snoc (up_to_row k) (row_of (k * stride))

        pub row-asks : Starts width bytes (k * stride) next
        row-asks =
            let r = row_room width stride rows k (length bytes) h asks.reached in
            record { small = asks.small; inside = r; few = omega (arith, asks.few); low = omega (arith, s.low, r, asks.small) }

        pub row-roomy : Roomy write next (row_of (k * stride)) changes
        row-roomy w = omega (arith, asks.roomy w, within (k + 1) (omega arith), one_more, s.count, changes-length)

        pub end-roomy : write ≡ true → k < length ends
        end-roomy w = omega (arith, asks.ended w, ends-length)

        pub store-next : {next' : ℕ} {changes' ends' : List ℕ} → Row (pixels_at one bytes (k * stride)) width next write changes next' changes'
            → ends' ≡ recorded write k (next' ∷ []) ends → Store (k + 1) next' changes' ends'
        store-next {next'} r e = record {
          inside = omega arith;
          count = counted;
          low =
              omega (arith, s.low, r.count, turns-few (pixels_at one bytes (k * stride)) width 0, asks.wide, suc-mul k stride, add-one k);
          entered =
              r.entries
              ∙ ap (λ (l : List ℕ). recorded write next (row_of (k * stride)) l) s.entered
              ∙ ap (λ (n : ℕ). recorded write n (row_of (k * stride)) (recorded write 0 (joined (up_to_row k)) changes₀)) place
              ∙ recorded_more write 0 (joined (up_to_row k)) (row_of (k * stride)) changes₀
              (λ w. omega (arith, asks.roomy w, within (k + 1) (omega arith), one_more, length-joined (up_to_row k)))
              ∙ ap (λ (l : List ℕ). recorded write 0 l changes₀) (sym (ap joined (rows_snoc k) ∙ joined_snoc (up_to_row k) (row_of (k * stride))));
          ended =
              e
              ∙ ap (λ (l : List ℕ). recorded write k (next' ∷ []) l) s.ended
              ∙ ap (λ (n : ℕ). recorded write n (next' ∷ []) (recorded write 0 (ends_from 0 (up_to_row k)) ends₀)) end-place
              ∙ recorded_more write 0 (ends_from 0 (up_to_row k)) (next' ∷ []) ends₀
              (λ w. omega (arith, asks.ended w, length-ends 0 (up_to_row k), length-rows k 0))
              ∙ ap (λ (n : ℕ). recorded write 0 (ends_from 0 (up_to_row k) ++ n ∷ []) ends₀) ended_at
              ∙ ap (λ (l : List ℕ). recorded write 0 l ends₀) (sym (ap (ends_from 0) (rows_snoc k) ∙ ends_snoc 0 (up_to_row k) (row_of (k * stride))));
        }
          where
            counted : next' ≡ entries (up_to_row (k + 1))
            counted = omega (arith, r.count, s.count, one_more)

            place : next ≡ 0 + length (joined (up_to_row k))
            place = omega (arith, s.count, length-joined (up_to_row k))

            end-place : k ≡ 0 + length (ends_from 0 (up_to_row k))
            end-place = omega (arith, length-ends 0 (up_to_row k), length-rows k 0)

            ended_at : next' ≡ 0 + entries (up_to_row k) + length (row_of (k * stride))
            ended_at = omega (arith, counted, one_more)

      -- all of them
      pub store-all : rows ≤ k → Rows (up_to_row rows) write changes₀ ends₀ next changes ends
      store-all h =
          let e : k ≡ rows = omega (arith, s.inside) in
          record {
            count = s.count ∙ ap (λ (n : ℕ). entries (up_to_row n)) e;
            entered = s.entered ∙ ap (λ (n : ℕ). recorded write 0 (joined (up_to_row n)) changes₀) e ∙ laid-over write (joined (up_to_row rows)) changes₀;
            ended = s.ended ∙ ap (λ (n : ℕ). recorded write 0 (ends_from 0 (up_to_row n)) ends₀) e ∙ laid-over write (ends_from 0 (up_to_row rows)) ends₀;
          }
