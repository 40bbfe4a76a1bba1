-- What an auditor asks of the heads is met. Assumes nothing.
use mathlib.Core.Path.{◌≡◌, refl, sym, ap, ◌∙◌}
use mathlib.Core.Bool.{Bool, true, false, not, ◌&&◌, ◌||◌, true≢false}
use mathlib.Core.List.{List, [], ◌∷◌}
use mathlib.Core.Logic.{◌⊎◌, inl, inr, ⊎_elim}
use Prim.Native.Nat.{ℕ, zero, suc, ◌+◌, ◌-◌, ◌*◌, ◌≤◌, ◌<◌}
use native.Mathlib.Omega.{arith}
use lib.Dec.{eqb, leb, ltb}
use lib.IntN.{ℤ, pos, ◌-ℤ◌}
use lib.ListN.{length, get_or}
use lib.Seq.{ext_get_or}
use borrow.Author.Tests.{leb-true, ltb-true, le-leb, lt-ltb, eqb-true, eqb-false}
use Rattle.rules.specs.Answers.{complete, bad_rows, bad_form, not_one_tick, mended_row}
use Rattle.heads.specs.Form.{all, sum, ink, Page, pixel, black_in, ticked, ticks, told, refusal, tick_table, heads_in, given, touches, clean_under, clean, heads}
use Rattle.heads.specs.Numbers.{form_in, heads_from}
use Rattle.heads.specs.declared.Box.{Box}
use Rattle.heads.specs.declared.HeadsAnswer.{HeadsAnswer}
use Rattle.heads.proofs.Tests.{all-get, all-not, every-at, every-not}
use Rattle.heads.proofs.Sums.{sum_same}
use Rattle.heads.proofs.Twos.{no_box, table-long, table-row}
use Rattle.heads.proofs.OneTick as Column
use Rattle.heads.proofs.OneTick.{ticks-one, one-ticks}
use Rattle.heads.proofs.Numbered.{form-long, form-at}
use Rattle.heads.proofs.Answering.{heads-8, heads-on, from-8, from-11, from_on, heads-cases}
use Rattle.promises.specs.Heads.{Asked, Answers, Shaped, is_sound, is_given, is_clean, Passes, page_of, box_at, is_ticked, In, Touched, OneTick, OneEach, HeadsAreTicked, TickedAreHeads, EveryTickTells, QuotaLeft, HeadsListed, Exactly, HeadsRefused, OnlyCleanRows, MendedAnswers13, ThirteenIsMended, SamePixelsSameHeads, EightyAreAForm, OthersAreNone}

abbrev table_of : Asked → List (List ℕ)
table_of a = tick_table (page_of a) a.form

abbrev read_of : Asked → HeadsAnswer
read_of a = heads_in (table_of a) a.least a.quota

-- the definition's case principle, of what was asked
cases : (a : Asked) (P : HeadsAnswer → Type 0) → (is_sound a ≡ false → P (refusal bad_rows)) → (is_sound a ≡ true → is_given a ≡ false → P (refusal bad_form))
    → (is_sound a ≡ true → is_given a ≡ true → is_clean a ≡ false → P (refusal mended_row)) → (Passes a → P (read_of a)) → {r : HeadsAnswer} → Answers a r → P r
cases a P p8 p11 p13 p0 =
    heads-cases a.columns a.changes a.ends a.marks a.form a.least a.quota P p8 p11 p13 (λ s g k. p0 (record { sound = s; given = g; clean = k }))

not-both : {b : Bool} → b ≡ true → b ≡ false → ⊥
not-both e f = true≢false (sym e ∙ f)

-- ---- The ticks of the table, and those of the boxes

module _ (a : Asked) (shape : Shaped a.form) where
  long : length (table_of a) ≡ 10
  long = table-long (page_of a) a.form shape.ten

  -- a cell of the table is its box's count
  cell : (column digit : ℕ) → column < 2 → digit < 10 → get_or (get_or (table_of a) digit []) column 0 ≡ black_in (page_of a) (box_at a.form digit column)
  cell zero digit h k = ap (λ (l : List ℕ). get_or l 0 0) (table-row (page_of a) a.form digit (shape.two digit k))
  cell (suc zero) digit h k = ap (λ (l : List ℕ). get_or l 1 0) (table-row (page_of a) a.form digit (shape.two digit k))
  cell (suc (suc n)) digit h k = absurd (omega arith)

  module _ (column digit : ℕ) (h : column < 2) where
    none_before : (n : ℕ) → 0 + n ≡ n
    none_before n = omega arith

    to-boxes : Column.OneTick a.least column 0 (table_of a) digit → OneTick a column digit
    to-boxes t = record {
      of_ten = omega (arith, t.high, long);
      each = λ n k. ap (ticked a.least) (sym (cell column n h k)) ∙ t.each n (omega (arith, long)) ∙ ap (λ m. eqb m digit) (none_before n);
    }

    to-table : OneTick a column digit → Column.OneTick a.least column 0 (table_of a) digit
    to-table t = record {
      low = omega arith;
      high = omega (arith, t.of_ten, long);
      each = λ n k. ap (ticked a.least) (cell column n h (omega (arith, long))) ∙ t.each n (omega (arith, long)) ∙ ap (λ m. eqb m digit) (sym (none_before n));
    }

  -- a digit in each column: the answer of the table
  abbrev answer_for : ℕ → ℕ → HeadsAnswer
  answer_for tens units = record { number = 0; heads = 10 * tens + units; left = a.quota -ℤ pos (10 * tens + units) }

  ticked-read : (tens units : ℕ) → OneEach a tens units → read_of a ≡ answer_for tens units
  unfolding heads_in
  ticked-read tens units o =
      rw (
        one-ticks a.least 0 0 (table_of a) tens (to-table 0 tens (omega arith) o.of_tens),
        one-ticks a.least 1 0 (table_of a) units (to-table 1 units (omega arith) o.of_units),
      )

  -- the table says heads, or 12
  data Read : HeadsAnswer → Type 0 where
    says : (tens units : ℕ) → OneEach a tens units → Read (answer_for tens units)
    neither : Read (refusal not_one_tick)

  read-says : Read (read_of a)
  unfolding heads_in
  read-says = by (ticks a.least 0 0 (table_of a)) (ticks a.least 1 0 (table_of a)) (ticks-one a.least 0 0 (table_of a)) (ticks-one a.least 1 0 (table_of a))
    where
      by : (t u : List ℕ) → ((d : ℕ) → t ≡ d ∷ [] → Column.OneTick a.least 0 0 (table_of a) d) → ((d : ℕ) → u ≡ d ∷ [] → Column.OneTick a.least 1 0 (table_of a) d)
          → Read (told a.quota t u)
      by (t ∷ []) (u ∷ []) f g = says t u (record { of_tens = to-boxes 0 t (omega arith) (f t refl); of_units = to-boxes 1 u (omega arith) (g u refl) })
      by (t ∷ []) [] f g = neither
      by (t ∷ []) (u ∷ v ∷ us) f g = neither
      by [] u f g = neither
      by (t ∷ s ∷ ts) u f g = neither

-- ---- What a 0 tells

record Zero (a : Asked) (r : HeadsAnswer) : Type 0 where
  passes : Passes a
  tens : ℕ
  units : ℕ
  one_each : OneEach a tens units
  heads_are : r.heads ≡ 10 * tens + units
  left_is : r.left ≡ a.quota -ℤ pos (10 * tens + units)

zero_of : (a : Asked) (r : HeadsAnswer) → Shaped a.form → Answers a r → r.number ≡ complete → Zero a r
zero_of a r shape =
    cases a (λ r. r.number ≡ complete → Zero a r) (λ s e. absurd (omega arith)) (λ s g e. absurd (omega arith)) (λ s g k e. absurd (omega arith))
    (λ p. by p (read-says a shape))
  where
    by : Passes a → {r : HeadsAnswer} → Read a shape r → r.number ≡ complete → Zero a r
    by p (says t u o) e = record { passes = p; tens = t; units = u; one_each = o; heads_are = refl; left_is = refl }
    by p neither e = absurd (omega arith)

-- and so it passed the tests
pub zero-passes : (a : Asked) (r : HeadsAnswer) → Shaped a.form → Answers a r → r.number ≡ complete → Passes a
zero-passes a r shape c e = (zero_of a r shape c e).passes

pub heads-are-ticked : HeadsAreTicked
heads-are-ticked a r shape c e = let z = zero_of a r shape c e in (z.tens, z.units, z.one_each, z.heads_are)

pub quota-left : QuotaLeft
quota-left a r shape c e =
    let z = zero_of a r shape c e in
    (omega (arith, z.heads_are, z.one_each.of_tens.of_ten, z.one_each.of_units.of_ten), z.left_is ∙ ap (λ n. a.quota -ℤ pos n) (sym z.heads_are))

pub every-tick-tells : EveryTickTells
every-tick-tells a b r s shape shape' c d e f g = by
  where
    y : Zero a r
    y = zero_of a r shape c e

    z : Zero b s
    z = zero_of b s shape' d f

    sum_is : 10 * y.tens + y.units ≡ 10 * z.tens + z.units
    sum_is = sym y.heads_are ∙ g ∙ z.heads_are

    same-tens : y.tens ≡ z.tens
    same-tens = omega (arith, sum_is, y.one_each.of_units.of_ten, z.one_each.of_units.of_ten)

    same_units : y.units ≡ z.units
    same_units = omega (arith, sum_is, same-tens)

    by : (column digit : ℕ) → column < 2 → digit < 10 → is_ticked a column digit ≡ is_ticked b column digit
    by zero digit h k = y.one_each.of_tens.each digit k ∙ ap (eqb digit) same-tens ∙ sym (z.one_each.of_tens.each digit k)
    by (suc zero) digit h k = y.one_each.of_units.each digit k ∙ ap (eqb digit) same_units ∙ sym (z.one_each.of_units.each digit k)
    by (suc (suc n)) digit h k = absurd (omega arith)

-- ---- The answers

pub ticked-are-heads : TickedAreHeads
ticked-are-heads a r tens units shape c p o =
    cases a (λ r. (r.number ≡ complete) × (r.heads ≡ 10 * tens + units))
    (λ s. absurd (not-both p.sound s)) (λ s g. absurd (not-both p.given g)) (λ s g k. absurd (not-both p.clean k))
    (λ q. rw (ticked-read a shape tens units o) (refl, refl))
    c

pub heads-listed : HeadsListed
unfolding heads_in
heads-listed a r =
    cases a (λ r. (r.number ≡ complete) ⊎ ((r ≡ refusal bad_rows) ⊎ ((r ≡ refusal bad_form) ⊎ ((r ≡ refusal mended_row) ⊎ (r ≡ refusal not_one_tick)))))
    (λ s. inr (inl refl)) (λ s g. inr (inr (inl refl))) (λ s g k. inr (inr (inr (inl refl))))
    (λ p. by (ticks a.least 0 0 (table_of a)) (ticks a.least 1 0 (table_of a)))
  where
    by : (t u : List ℕ) → ((told a.quota t u).number ≡ complete)
        ⊎ ((told a.quota t u ≡ refusal bad_rows) ⊎ ((told a.quota t u ≡ refusal bad_form) ⊎ ((told a.quota t u ≡ refusal mended_row) ⊎ (told a.quota t u ≡ refusal not_one_tick))))
    by (t ∷ []) (u ∷ []) = inl refl
    by (t ∷ []) [] = inr (inr (inr (inr refl)))
    by (t ∷ []) (u ∷ v ∷ us) = inr (inr (inr (inr refl)))
    by [] u = inr (inr (inr (inr refl)))
    by (t ∷ s ∷ ts) u = inr (inr (inr (inr refl)))

pub heads-refused : HeadsRefused
heads-refused a r shape =
    cases a (Exactly a)
    (λ s. record {
      eight = ((λ e. s), λ f. refl);
      eleven = ((λ e. absurd (omega arith)), λ f. absurd (not-both f.0 s));
      thirteen = ((λ e. absurd (omega arith)), λ f. absurd (not-both f.0 s));
      twelve = ((λ e. absurd (omega arith)), λ f. absurd (not-both f.0.sound s));
    })
    (λ s g. record {
      eight = ((λ e. absurd (omega arith)), λ f. absurd (not-both s f));
      eleven = ((λ e. (s, g)), λ f. refl);
      thirteen = ((λ e. absurd (omega arith)), λ f. absurd (not-both f.1 g));
      twelve = ((λ e. absurd (omega arith)), λ f. absurd (not-both f.0.given g));
    })
    (λ s g k. record {
      eight = ((λ e. absurd (omega arith)), λ f. absurd (not-both s f));
      eleven = ((λ e. absurd (omega arith)), λ f. absurd (not-both g f.1));
      thirteen = ((λ e. (s, g, k)), λ f. refl);
      twelve = ((λ e. absurd (omega arith)), λ f. absurd (not-both f.0.clean k));
    })
    (λ p. by p (read-says a shape) refl)
  where
    by : Passes a → {r : HeadsAnswer} → Read a shape r → read_of a ≡ r → Exactly a r
    by p (says t u o) q = record {
      eight = ((λ e. absurd (omega arith)), λ f. absurd (not-both p.sound f));
      eleven = ((λ e. absurd (omega arith)), λ f. absurd (not-both p.given f.1));
      thirteen = ((λ e. absurd (omega arith)), λ f. absurd (not-both p.clean f.2));
      twelve = ((λ e. absurd (omega arith)), λ f. absurd (f.1 t u o));
    }
    by p neither q = record {
      eight = ((λ e. absurd (omega arith)), λ f. absurd (not-both p.sound f));
      eleven = ((λ e. absurd (omega arith)), λ f. absurd (not-both p.given f.1));
      thirteen = ((λ e. absurd (omega arith)), λ f. absurd (not-both p.clean f.2));
      twelve = ((λ e. (p, λ t u o. absurd (let z : ◌≡◌ {A = ℕ} 12 0 = ap (λ (x : HeadsAnswer). x.number) (sym q ∙ ticked-read a shape t u o) in omega arith))), λ f. refl);
    }

-- ---- The rows under the boxes

abbrev test_at : Asked → ℕ → ℕ → ℕ → Bool
test_at a digit column y = not (touches a.columns (box_at a.form digit column) y) || eqb (get_or a.marks y 0) 0

-- a row that a box touches is clean where all of its rows are
pub under-clean : (columns rows : ℕ) (marks : List ℕ) (b : Box) → clean_under columns rows marks b ≡ true
    → (y : ℕ) → b.top ≤ y → y < b.bottom → b.left < b.right → b.left < columns → y < rows → get_or marks y 0 ≡ 0
unfolding clean_under
under-clean columns rows marks b e y top bottom wide left row =
    eqb-true (get_or marks y 0) 0
    (rw (le-leb b.top y top, lt-ltb y b.bottom bottom, lt-ltb b.left b.right wide, lt-ltb b.left columns left)
    at (every-at (λ y. not (touches columns b y) || eqb (get_or marks y 0) 0) rows 0 e y (omega arith) (omega arith)))

-- where the test of 13 is passed, each row that is touched is clean
touched-clean : (a : Asked) → Shaped a.form → is_clean a ≡ true → (y x : ℕ) → Touched a y x → get_or a.marks y 0 ≡ 0
unfolding clean
touched-clean a shape k y x t =
    let test = clean_under a.columns (length a.ends) a.marks in
    let under =
    all-get test (get_or a.form t.digit []) t.column no_box (all-get (all test) a.form t.digit [] k (omega (arith, shape.ten, t.of_ten)))
    (omega (arith, shape.two t.digit t.of_ten, t.of_two)) in
    under-clean a.columns (length a.ends) a.marks (box_at a.form t.digit t.column) under y t.inside.top t.inside.bottom
    (omega (arith, t.inside.left, t.inside.right)) (omega (arith, t.inside.left, t.place)) t.row

pub only-clean-rows : OnlyCleanRows
only-clean-rows a r shape c e = touched-clean a shape (zero_of a r shape c e).passes.clean

pub mended-answers-13 : MendedAnswers13
mended-answers-13 a r shape c s g y x t m =
    cases a (λ r. r.number ≡ mended_row) (λ f. absurd (not-both s f)) (λ s' f. absurd (not-both g f)) (λ s' g' k. refl)
    (λ p. absurd (m (touched-clean a shape p.clean y x t)))
    c

-- a box that touches a row holds its pixel at the box's left edge
touched : (columns : ℕ) (b : Box) (y m : ℕ) → (not (touches columns b y) || eqb m 0) ≡ false → In b y b.left × (b.left < columns) × (m ≡ 0 → ⊥)
touched columns b y m e =
    by (leb b.top y) (leb-true b.top y) (ltb y b.bottom) (ltb-true y b.bottom) (ltb b.left b.right) (ltb-true b.left b.right)
    (ltb b.left columns) (ltb-true b.left columns) (eqb m 0) (eqb-false m 0) e
  where
    by : (p : Bool) → (p ≡ true → b.top ≤ y) → (q : Bool) → (q ≡ true → y < b.bottom) → (s : Bool) → (s ≡ true → b.left < b.right)
        → (t : Bool) → (t ≡ true → b.left < columns) → (z : Bool) → (z ≡ false → m ≡ 0 → ⊥) → (not ((p && q) && (s && t)) || z) ≡ false
        → In b y b.left × (b.left < columns) × (m ≡ 0 → ⊥)
    by true f true g true h true k false l e = (record { left = omega arith; right = h refl; top = f refl; bottom = g refl }, k refl, l refl)
    by true f true g true h true k true l e = absurd (true≢false e)
    by true f true g true h false k z l e = absurd (true≢false e)
    by true f true g false h t k z l e = absurd (true≢false e)
    by true f false g s h t k z l e = absurd (true≢false e)
    by false f q g s h t k z l e = absurd (true≢false e)

pub thirteen-is-mended : ThirteenIsMended
unfolding clean clean_under
thirteen-is-mended a r shape c e =
    let test = clean_under a.columns (length a.ends) a.marks in
    let k = ((heads-refused a r shape c).thirteen.0 e).2 in
    let f = all-not (all test) a.form [] k in
    let hd : f.0 < 10 = omega (arith, f.1, shape.ten) in
    let b = all-not test (get_or a.form f.0 []) no_box f.2 in
    let y = every-not (test_at a f.0 b.0) (length a.ends) 0 b.2 in
    let t = touched a.columns (box_at a.form f.0 b.0) y.0 (get_or a.marks y.0 0) y.2 in (
      y.0,
      (box_at a.form f.0 b.0).left,
      record { digit = f.0; column = b.0; of_ten = hd; of_two = omega (arith, b.1, shape.two f.0 hd); inside = t.0; row = omega (arith, y.1); place = t.1 },
      t.2,
    )

-- ---- The pixels in the boxes

-- a box's count depends on its pixels alone
same_count : (page page' : Page) (b : Box) → ((y x : ℕ) → In b y x → pixel page y x ≡ pixel page' y x) → black_in page b ≡ black_in page' b
unfolding black_in
same_count page page' b f =
    sum_same (λ y. sum (λ x. ink (pixel page y x)) (b.right - b.left) b.left) (λ y. sum (λ x. ink (pixel page' y x)) (b.right - b.left) b.left) (b.bottom - b.top) b.top
    (λ y p q. sum_same (λ x. ink (pixel page y x)) (λ x. ink (pixel page' y x)) (b.right - b.left) b.left
    (λ x k l. ap ink (f y x (record { left = k; right = omega arith; top = p; bottom = omega arith }))))

same-table : (page page' : Page) (form : List (List Box)) → Shaped form
    → ((digit column y x : ℕ) → digit < 10 → column < 2 → In (box_at form digit column) y x → pixel page y x ≡ pixel page' y x)
    → tick_table page form ≡ tick_table page' form
same-table page page' form shape f =
    let long = table-long page form shape.ten in
    let long' = table-long page' form shape.ten in
    ext_get_or [] (tick_table page form) (tick_table page' form) (omega arith) (λ i h.
    let k : i < 10 = omega arith in
    table-row page form i (shape.two i k)
    ∙ (let a = same_count page page' (box_at form i 0) (λ y x p. f i 0 y x k (omega arith) p) in
    let b = same_count page page' (box_at form i 1) (λ y x p. f i 1 y x k (omega arith) p) in
    rw (a, b))
    ∙ sym (table-row page' form i (shape.two i k)))

-- the answer, where 8 and 13 do not apply, depends on what is given and on the table alone
abbrev by_table : List (List Box) → ℕ → ℤ → List (List ℕ) → HeadsAnswer
by_table form least quota table = elim (given form least quota) [ false ↦ refusal bad_form | true ↦ heads_in table least quota ]

by-table : (a : Asked) (r : HeadsAnswer) → Answers a r → is_sound a ≡ true → is_clean a ≡ true → r ≡ by_table a.form a.least a.quota (table_of a)
by-table a r c s k =
    cases a (λ r. r ≡ by_table a.form a.least a.quota (table_of a))
    (λ s'. absurd (not-both s s')) (λ s' g. sym (rw (by_table, g))) (λ s' g k'. absurd (not-both k k')) (λ p. sym (rw (by_table, p.given)))
    c

pub same-pixels-same-heads : SamePixelsSameHeads
same-pixels-same-heads a b r s shape c d form least quota sa sb ka kb f =
    by-table a r c sa ka
    ∙ (let t = same-table (page_of a) (page_of b) a.form shape f in rw (t, form, least, quota))
    ∙ sym (by-table b s d sb kb)

-- ---- A form in an array

pub form-shaped : (boxes : List ℕ) → Shaped (form_in boxes)
form-shaped boxes = record { ten = form-long boxes; two = λ digit h. ap length (form-at boxes digit h) }

pub eighty-are-a-form : EightyAreAForm
eighty-are-a-form a boxes r eighty same e = (rw same (form-shaped boxes), e ∙ rw same (by (is_sound a) refl))
  where
    by : (s : Bool) → is_sound a ≡ s
        → heads_from a.columns a.changes a.ends a.marks boxes a.least a.quota ≡ heads a.columns a.changes a.ends a.marks (form_in boxes) a.least a.quota
    by false s =
        sym (from-8 a.columns a.changes a.ends a.marks boxes a.least a.quota s)
        ∙ heads-8 a.columns a.changes a.ends a.marks (form_in boxes) a.least a.quota s
    by true s =
        sym (from_on a.columns a.changes a.ends a.marks boxes a.least a.quota s eighty)
        ∙ heads-on a.columns a.changes a.ends a.marks (form_in boxes) a.least a.quota s

pub others-are-none : OthersAreNone
others-are-none a boxes r other e = (
  (λ s. e ∙ sym (from-8 a.columns a.changes a.ends a.marks boxes a.least a.quota s)),
  λ s. e ∙ sym (from-11 a.columns a.changes a.ends a.marks boxes a.least a.quota s other),
)
