-- Pixels in bytes: the promises of specs/Bitmaps.antt are met. Assumes nothing.
use mathlib.Core.Path.{◌≡◌, sym, ap, ap₂, ◌∙◌}
use mathlib.Core.Bool.{Bool, true, false, ◌&&◌, true≢false}
use mathlib.Core.List.{List, [], ◌++◌, append-nil}
use Prim.Native.Nat.{ℕ, zero, suc, ◌+◌, ◌*◌, ◌/◌, ◌≤◌, ◌<◌}
use native.Mathlib.Omega.{arith}
use native.Mathlib.Nat.{zero-add}
use lib.ListN.{length, get_or, take, drop}
use lib.Seq.{take_at, ext_get_or}
use Rattle.rules.specs.Pages as Page
use Rattle.rules.specs.Pages.{entries, joined, ends_from, overlaid, changes_after, ends_after, decode}
use Rattle.rules.specs.Pixels.{pixels_of}
use Rattle.rules.specs.Rising.{Rows}
use Rattle.rules.specs.Rows.{Settings, bytes_to}
use Rattle.rules.specs.Write.{rows_in, ends_rise, all_ascend}
use Rattle.rules.proofs.Bits.{both_true}
use Rattle.rules.proofs.PageBack.{ascend-rows}
use Rattle.rules.proofs.Store.{length-ends, rows_back}
use Rattle.rules.proofs.Stored.{Holds, decode-held, decode-modest, rows-stored, rows-good}
use Rattle.row_store.specs.Store.{good_rows}
use Rattle.answer.specs.Answer.{answer_of}
use Rattle.answer.specs.declared.Answer.{Answer}
use Rattle.settings.specs.Settings.{settings_of}
use Rattle.heads.proofs.RowsAt.{rows-length}
use Rattle.bitmap.specs.Packed.{paint, unpaint, padded, pixels_at, painted_from, turns_from, rows_at, reach, read_rows}
use Rattle.bitmap.proofs.Fitting.{Fits, is-painted, IsPainted, eight-is-bad}
use Rattle.bitmap.proofs.Unpainting.{is_read, IsRead, reads}
use Rattle.bitmap.proofs.Tracings.{length-rows}
use Rattle.bitmap.proofs.Inverse.{painted-pixel, painted-length, padded-inside, padded-behind, turns-pixels, turns-row, rows-at, rows-rise, row-rises}
use Rattle.promises.specs.Bitmaps.{Shows, Painting, PaintShows, DecodedShows, Unpainting, UnpaintShows, WrittenShows, GivenBackShows, PaintedReadsBack, ReadPaintsBack, PaintPinned, UnpaintPinned}
use Rattle.promises.specs.Rooms.{Call, rows_of, places}
use Rattle.promises.proofs.Demand3.{written-page-reads-back}

-- ---- Painting

module _ (one : Bool) (columns stride : ℕ) (changes ends out : List ℕ) (r : Answer) (out' : List ℕ) (p : Painting one columns stride changes ends out r out') (z : r.number ≡ 0) where
  abbrev rows : List (List ℕ)
  rows = rows_in 0 changes ends

  as_many : length (rows_in 0 changes ends) ≡ length ends
  as_many = rows-length 0 changes ends

  told : IsPainted one columns stride changes ends out (paint one columns stride changes ends out)
  told = is-painted one columns stride changes ends out (sym (ap (λ (a : Answer). a.number) p.answer) ∙ z)

  out-is : out' ≡ painted_from one columns stride 0 (rows_in 0 changes ends) out
  out-is = p.bytes ∙ told.is

  reached : reach columns stride (length (rows_in 0 changes ends)) ≤ length out
  reached = rw as_many told.fit.room

  pixel : (y x : ℕ) → y < length ends → x < 8 * bytes_to columns → pixels_at one out' (y * stride) x ≡ padded columns (get_or (rows_in 0 changes ends) y []) x
  pixel y x h l =
      ap (λ (bytes : List ℕ). pixels_at one bytes (y * stride) x) out-is
      ∙ painted-pixel one columns stride told.fit.wide (rows_in 0 changes ends) out reached y x (omega (arith, as_many)) l

  rise : Rows columns (rows_in 0 changes ends)
  rise =
      ascend-rows columns (rows_in 0 changes ends)
      (both_true (ends_rise (length changes) 0 ends) (all_ascend columns (rows_in 0 changes ends)) told.good).1

  shows : Shows one columns stride (rows_in 0 changes ends) out'
  shows y x h l = pixel y x (omega (arith, as_many)) (omega arith) ∙ padded-inside columns (get_or (rows_in 0 changes ends) y []) x l

  long : length out' ≡ length out
  long = ap length out-is ∙ painted-length one columns stride told.fit.wide (rows_in 0 changes ends) out reached

pub paint-shows : PaintShows
paint-shows one columns stride changes ends out r out' p z = (
  shows one columns stride changes ends out r out' p z,
  λ y x h k l. pixel one columns stride changes ends out r out' p z y x h l ∙ padded-behind columns (get_or (rows_in 0 changes ends) y []) x k,
  long one columns stride changes ends out r out' p z,
)

-- what `decode` leaves is the rules' rows, which rise
pub decoded-shows : DecodedShows
decoded-shows bytes settings c narrow called one stride out r out' p = (not-bad, λ z. rw (← stored) (shows one settings.columns stride c.changes' (take c.answer.rows c.ends') out r out' p z))
  where
    S : Settings
    S = settings_of settings

    a : Page.Answer
    a = decode S bytes (length c.changes) (places c)

    held : Holds (length c.changes) (places c) a
    held = decode-held S bytes (length c.changes) (places c)

    count : c.answer.rows ≡ length a.rows
    count = ap (λ (x : Answer). x.rows) called.answer

    ends_are : take c.answer.rows c.ends' ≡ take (length a.rows) (ends_after a c.ends)
    ends_are = ap (λ (n : ℕ). take n c.ends') count ∙ ap (take (length a.rows)) called.ends

    stored : rows_in 0 c.changes' (take c.answer.rows c.ends') ≡ a.rows
    stored = ap₂ (λ (xs es : List ℕ). rows_in 0 xs es) called.changes ends_are ∙ rows-stored a c.changes c.ends c.marks held

    good : good_rows settings.columns c.changes' 0 (take c.answer.rows c.ends') ≡ true
    good =
        ap₂ (λ (xs es : List ℕ). good_rows settings.columns xs 0 es) called.changes ends_are
        ∙ rows-good a c.changes c.ends c.marks held settings.columns
        (decode-modest S bytes (length c.changes) (places c)).rising

    not-bad : r.number ≡ 8 → ⊥
    not-bad e =
        true≢false
        (sym good
        ∙ eight-is-bad one settings.columns stride c.changes' (take c.answer.rows c.ends') out
        (sym (ap (λ (x : Answer). x.number) p.answer) ∙ e))

-- ---- Reading a bitmap

module _ (one : Bool) (columns stride rows : ℕ) (bytes changes ends : List ℕ) (r : Answer) (changes' ends' : List ℕ)
    (u : Unpainting one columns stride rows bytes changes ends r changes' ends') (z : r.number ≡ 0) where
  abbrev all : List (List ℕ)
  all = rows_at one columns stride bytes rows 0

  read : IsRead one columns stride rows bytes (length changes) (length ends) (unpaint one columns stride rows bytes (length changes) (length ends))
  read = is_read one columns stride rows bytes (length changes) (length ends) (sym (ap (λ (a : Answer). a.number) u.answer) ∙ z)

  answer-is : r ≡ answer_of (read_rows (reach columns stride rows) (rows_at one columns stride bytes rows 0))
  answer-is = u.answer ∙ ap answer_of read.is

  -- the rows as they lie in the store
  in-store : rows_in 0 changes' (take rows ends') ≡ rows_at one columns stride bytes rows 0
  unfolding changes_after ends_after overlaid
  in-store =
      ap₂ (λ (xs es : List ℕ). rows_in 0 xs (take rows es)) (u.entered ∙ ap (λ (a : Page.Answer). changes_after a changes) read.is)
      (u.ended ∙ ap (λ (a : Page.Answer). ends_after a ends) read.is)
      ∙ ap₂ (λ (xs es : List ℕ). rows_in 0 (xs ++ drop (length (joined all ++ [])) changes) es) (append-nil (joined all))
      (take_at (ends_from 0 all) (drop (length (ends_from 0 all)) ends) rows (length-ends 0 all ∙ length-rows one columns stride bytes rows 0))
      ∙ rows_back all (drop (length (joined all ++ [])) changes)

  shown : Shows one columns stride (rows_in 0 changes' (take rows ends')) bytes
  shown y x h l =
      let n : y < rows = omega (arith, ap length in-store, length-rows one columns stride bytes rows 0) in
      sym
      (ap (λ (rs : List (List ℕ)). pixels_of (get_or rs y []) x) in-store
      ∙ ap (λ (row : List ℕ). pixels_of row x) (rows-at one columns stride bytes rows 0 y n)
      ∙ ap (λ (at : ℕ). pixels_of (turns_from (pixels_at one bytes at) columns 0) x) (zero-add (y * stride))
      ∙ turns-pixels (pixels_at one bytes (y * stride)) columns x l)

  counted : length (rows_in 0 changes' (take rows ends')) ≡ rows
  counted = ap length in-store ∙ length-rows one columns stride bytes rows 0

  ends_long : length (take rows ends') ≡ rows
  ends_long = sym (rows-length 0 changes' (take rows ends')) ∙ counted

pub unpaint-shows : UnpaintShows
unpaint-shows one columns stride rows bytes changes ends r changes' ends' u z = (
  ap (λ (a : Answer). a.rows) (answer-is one columns stride rows bytes changes ends r changes' ends' u z) ∙ length-rows one columns stride bytes rows 0,
  counted one columns stride rows bytes changes ends r changes' ends' u z,
  rw (in-store one columns stride rows bytes changes ends r changes' ends' u z) (rows-rise one columns stride bytes rows 0),
  shown one columns stride rows bytes changes ends r changes' ends' u z,
)

-- rows that a reading gives back are those that the bitmap shows
module _ (one : Bool) (columns stride rows : ℕ) (bitmap changes ends : List ℕ) (r : Answer) (changes' ends' : List ℕ)
    (u : Unpainting one columns stride rows bitmap changes ends r changes' ends') (z : r.number ≡ 0) where
  many : r.entries ≡ entries (rows_in 0 changes' (take rows ends'))
  many =
      ap (λ (a : Answer). a.entries) (answer-is one columns stride rows bitmap changes ends r changes' ends' u z)
      ∙ sym (ap entries (in-store one columns stride rows bitmap changes ends r changes' ends' u z))

  long-ends : length (take rows ends') ≡ rows
  long-ends = ends_long one columns stride rows bitmap changes ends r changes' ends' u z

  back-shows : (c : Call) → rows_of c ≡ rows_in 0 changes' (take rows ends') → (length (rows_of c) ≡ rows) × Shows one columns stride (rows_of c) bitmap
  back-shows c e = (
    ap length e ∙ counted one columns stride rows bitmap changes ends r changes' ends' u z,
    rw e (shown one columns stride rows bitmap changes ends r changes' ends' u z),
  )

pub written-shows : WrittenShows
written-shows one columns stride rows bitmap changes ends r changes' ends' u z out w out' narrow written e bytes small same settings s asked c roomy placed marked called =
    let count = many one columns stride rows bitmap changes ends r changes' ends' u z in
    let long = long-ends one columns stride rows bitmap changes ends r changes' ends' u z in
    let back = written-page-reads-back columns changes' (take rows ends') out w out' narrow written e bytes small same settings s (rw long asked)
    c.changes c.ends c.marks c.answer c.changes' c.ends' c.marks' (omega (arith, roomy, count))
    (omega (arith, placed, long)) (omega (arith, marked, long)) called in
    let sees = back-shows one columns stride rows bitmap changes ends r changes' ends' u z c back.2 in
    (back.0, sees.0, sees.1)

pub given-back-shows : GivenBackShows
given-back-shows one columns stride rows bitmap changes ends r changes' ends' u z w bytes settings gives c roomy placed marked called =
    let count = many one columns stride rows bitmap changes ends r changes' ends' u z in
    let long = long-ends one columns stride rows bitmap changes ends r changes' ends' u z in
    let back = gives c.changes c.ends c.marks c.answer c.changes' c.ends' c.marks' (omega (arith, roomy, count))
    (omega (arith, placed, long)) (omega (arith, marked, long)) called in
    let sees = back-shows one columns stride rows bitmap changes ends r changes' ends' u z c back.2 in
    (back.0, sees.0, sees.1)

-- ---- Each undoes the other

pub painted-reads-back : PaintedReadsBack
painted-reads-back one columns stride changes ends out r out' p z store places s store' places' roomy placed u = (done, in-store one columns stride (length ends) out' store places s store' places' u done ∙ same)
  where
    t : IsPainted one columns stride changes ends out (paint one columns stride changes ends out)
    t = told one columns stride changes ends out r out' p z

    many : length (rows_in 0 changes ends) ≡ length ends
    many = rows-length 0 changes ends

    wide : length out' ≡ length out
    wide = long one columns stride changes ends out r out' p z

    each : (y : ℕ) → y < length ends → turns_from (pixels_at one out' (y * stride)) columns 0 ≡ get_or (rows_in 0 changes ends) y []
    each y h =
        turns-row (pixels_at one out' (y * stride)) columns
        (row-rises y (rise one columns stride changes ends out r out' p z) (omega (arith, many)))
        (λ x l. shows one columns stride changes ends out r out' p z y x (omega (arith, many)) l)

    same : rows_at one columns stride out' (length ends) 0 ≡ rows_in 0 changes ends
    same =
        ext_get_or [] (rows_at one columns stride out' (length ends) 0) (rows_in 0 changes ends)
        (length-rows one columns stride out' (length ends) 0 ∙ sym many)
        (λ y h.
        let n : y < length ends = omega (arith, length-rows one columns stride out' (length ends) 0) in
        rows-at one columns stride out' (length ends) 0 y n
        ∙ ap (λ (at : ℕ). turns_from (pixels_at one out' at) columns 0) (zero-add (y * stride))
        ∙ each y n)

    fit : Fits columns stride (length ends) (length out')
    fit = rw wide t.fit

    done : s.number ≡ 0
    done =
        ap (λ (a : Answer). a.number)
        (u.answer ∙ ap answer_of (reads one columns stride (length ends) out' (length store) (length places) fit placed (rw same roomy)))

pub read-paints-back : ReadPaintsBack
read-paints-back one columns stride rows bytes changes ends r changes' ends' u z other step out s out' p q y x h l =
    let many = counted one columns stride rows bytes changes ends r changes' ends' u z in
    let n : y < length (rows_in 0 changes' (take rows ends')) = omega (arith, many) in
    shows other columns step changes' (take rows ends') out s out' p q y x n l
    ∙ sym (shown one columns stride rows bytes changes ends r changes' ends' u z y x n l)

-- ---- Pinned down

pub paint-pinned : PaintPinned
paint-pinned one columns stride changes ends out r s xs ys p q = (p.answer ∙ sym q.answer, p.bytes ∙ sym q.bytes)

pub unpaint-pinned : UnpaintPinned
unpaint-pinned one columns stride rows bytes changes ends r s xs ys es fs p q =
    (p.answer ∙ sym q.answer, p.entered ∙ sym q.entered, p.ended ∙ sym q.ended)
