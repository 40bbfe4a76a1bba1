-- The ticks of a page that `decode` answered, and its rows under the boxes: what an answer 0 of `heads` on it tells, by the form's numbers. Assumes nothing.
use mathlib.Core.Path.{◌≡◌, sym, ap, ap₂, ◌∙◌}
use mathlib.Core.Bool.{true, ◌&&◌}
use mathlib.Core.List.{List, [], append-nil}
use Prim.Native.Nat.{ℕ, zero, suc, ◌+◌, ◌*◌, ◌/◌, ◌%◌, ◌≤◌, ◌<◌}
use native.Mathlib.Omega.{arith}
use lib.Dec.{eqb}
use lib.IntN.{pos}
use lib.ListN.{length, get_or}
use Rattle.rules.specs.Pages as Page
use Rattle.rules.specs.Pages.{joined, ends_from, decode}
use Rattle.rules.specs.Write.{all_ascend, rows_in}
use Rattle.rules.proofs.Marks.{at-most-at, decode-came, came-as-many, came-listed}
use Rattle.rules.proofs.Store.{length-joined, length-ends, rows_back}
use Rattle.settings.specs.declared.DecodeSettings.{DecodeSettings}
use Rattle.settings.specs.Settings.{settings_of}
use Rattle.heads.specs.Form as Heads
use Rattle.heads.specs.Form.{black_in, ticked, sound, heads_on}
use Rattle.heads.specs.Numbers.{box_in, form_in}
use Rattle.heads.specs.declared.Box.{Box}
use Rattle.heads.specs.declared.HeadsAnswer.{HeadsAnswer}
use Rattle.heads.proofs.Answering.{heads-on}
use Rattle.heads.proofs.Marks as Mark
use Rattle.heads.proofs.Numbered.{form-at}
use Rattle.rules.proofs.Stored.{ends-rise, decode-modest, rows-ascend}
use Rattle.form_file.specs.FormFile as Form
use Rattle.promises.specs.Heads.{Asked, Answers, is_sound, box_at, OneTick}
use Rattle.promises.proofs.Heads.{heads-are-ticked, only-clean-rows, form-shaped}

-- ---- The boxes in the form's numbers

-- the box of a digit in a column is the box of this number
box-is : (boxes : List ℕ) (column digit : ℕ) → column < 2 → digit < 10 → box_at (form_in boxes) digit column ≡ Form.box_at boxes (2 * digit + column)
box-is boxes zero digit h k =
    ap (λ (l : List Box). get_or l 0 (record { left = 0; right = 0; top = 0; bottom = 0 })) (form-at boxes digit k)
    ∙ ap (λ (n : ℕ). box_in boxes n) (let e : 8 * digit ≡ 4 * (2 * digit + 0) = omega arith in e)
box-is boxes (suc zero) digit h k =
    ap (λ (l : List Box). get_or l 1 (record { left = 0; right = 0; top = 0; bottom = 0 })) (form-at boxes digit k)
    ∙ ap (λ (n : ℕ). box_in boxes n) (let e : 8 * digit + 4 ≡ 4 * (2 * digit + 1) = omega arith in e)
box-is boxes (suc (suc n)) digit h k = absurd (omega arith)

-- ---- A page that was answered

module _ (s : DecodeSettings) (src : List ℕ) (store room : ℕ) (boxes : List ℕ) (tick : ℕ) where
  abbrev said : Page.Answer
  said = decode (settings_of s) src store room

  -- the page, and in a store of its own
  abbrev page : Heads.Page
  page = record { columns = s.columns; rows = said.rows }

  abbrev asked : Asked
  asked = record {
    columns = s.columns;
    changes = joined said.rows;
    ends = ends_from 0 said.rows;
    marks = said.marks;
    form = form_in boxes;
    least = tick;
    quota = pos 0;
  }

  abbrev r : HeadsAnswer
  r = heads_on page said.marks (form_in boxes) tick (pos 0)

  back : rows_in 0 (joined said.rows) (ends_from 0 said.rows) ≡ said.rows
  back = ap (λ (xs : List ℕ). rows_in 0 xs (ends_from 0 said.rows)) (sym (append-nil (joined said.rows))) ∙ rows_back said.rows []

  is-sound : is_sound asked ≡ true
  unfolding sound
  is-sound =
      let came = (decode-came (settings_of s) src store room).1 in
      ap₂ ◌&&◌
      (ap₂ ◌&&◌ (ends-rise (length (joined said.rows)) 0 said.rows (omega (arith, length-joined said.rows)))
      (ap (all_ascend s.columns) back ∙ rows-ascend (decode-modest (settings_of s) src store room).rising))
      (Mark.all-marked (length (ends_from 0 said.rows)) said.marks (omega (arith, length-ends 0 said.rows, came-as-many came)) (λ n h. at-most-at (came-listed came) n))

  answers : Answers asked r
  answers =
      ap (λ (rows : List (List ℕ)). heads_on (record { columns = s.columns; rows = rows }) said.marks (form_in boxes) tick (pos 0)) (sym back)
      ∙ heads-on s.columns (joined said.rows) (ends_from 0 said.rows) said.marks (form_in boxes) tick (pos 0) is-sound

  -- in a column one digit's box is ticked, and no other
  pub record Alone (column digit : ℕ) : Type 0 where
    pub of_ten : digit < 10
    pub each : (other : ℕ) → other < 10 → ticked tick (black_in page (Form.box_at boxes (2 * other + column))) ≡ eqb other digit

  alone : (column digit : ℕ) → column < 2 → OneTick asked column digit → Alone column digit
  alone column digit h t = record {
    of_ten = t.of_ten;
    each = λ other k.
        ap₂ (λ (rows : List (List ℕ)) (b : Box). ticked tick (black_in (record { columns = s.columns; rows = rows }) b)) (sym back) (sym (box-is boxes column other h k))
        ∙ t.each other k;
  }

  -- the heads that were answered are those that are ticked alone
  pub record Ticks : Type 0 where
    pub tens : ℕ
    pub units : ℕ
    pub of_tens : Alone 0 tens
    pub of_units : Alone 1 units
    pub heads_are : r.heads ≡ 10 * tens + units

  module _ (z : r.number ≡ 0) where
    pub ticks : Ticks
    ticks =
        let t = heads-are-ticked asked r (form-shaped boxes) answers z in
        record { tens = t.0; units = t.1; of_tens = alone 0 t.0 (omega arith) t.2.of_tens; of_units = alone 1 t.1 (omega arith) t.2.of_units; heads_are = t.3 }

    -- and each row of which a box holds a pixel is marked clean
    pub clean-boxes : (k y : ℕ) → k < 20 → (b : Box) → Form.box_at boxes k ≡ b → b.top ≤ y → y < b.bottom → b.left < b.right → b.left < s.columns → y < length said.rows
        → get_or said.marks y 0 ≡ 0
    clean-boxes k y h b is top bottom wide left row =
        let n : 2 * (k / 2) + k % 2 ≡ k = omega arith in
        let e : box_at (form_in boxes) (k / 2) (k % 2) ≡ b = box-is boxes (k % 2) (k / 2) (omega arith) (omega arith) ∙ ap (λ (i : ℕ). Form.box_at boxes i) n ∙ is in
        only-clean-rows asked r (form-shaped boxes) answers z y b.left
        (record {
          digit = k / 2;
          column = k % 2;
          of_ten = omega arith;
          of_two = omega arith;
          inside = rw e (record { left = omega arith; right = wide; top = top; bottom = bottom });
          row = omega (arith, length-ends 0 said.rows);
          place = left;
        })
