-- Where a form fits: a place that stands, how many fail, an offset by them, and the best of the offsets. Assumes nothing.
use mathlib.Core.Path.{◌≡◌, refl, sym, ap, ap₂, ◌∙◌}
use mathlib.Core.Bool.{Bool, true, false, not, ◌&&◌, true≢false}
use mathlib.Core.List.{List}
use Prim.Native.Nat.{ℕ, zero, suc, ◌+◌, ◌-◌, ◌*◌, ◌≤◌, ◌<◌}
use native.Mathlib.Numerals.{add-one}
use native.Mathlib.Omega.{arith}
use lib.Dec.{leb, eqb, ltb}
use lib.ListN.{length, get_or}
use borrow.Author.Tests.{eq-eqb, ne_eqb, lt-ltb, le-ltb, not-false}
use Rattle.heads.specs.Form.{every, Page, black_in}
use Rattle.heads.specs.declared.Box.{Box}
use Rattle.heads.proofs.Tests.{both, every-all}
use Rattle.form_file.specs.First.{count_of}
use Rattle.form_file.specs.FormFile.{box_at, place_at}
use Rattle.booking.specs.Found.{moved_box, moved_places, box_inside, boxes_inside, places_inside, right_of, down_of, is_inside, failing, fits_at, best_from}
use Rattle.booking.specs.Testing.{holds_at}
use Rattle.booking.specs.Moving.{stands_by, fails_by, Upto, Failed}
use Rattle.booking.proofs.Placed.{black-holds, white-holds}
use Rattle.booking.proofs.Moved.{place-box, place-kind, place-asked}

-- ---- A place

module _ (rows across down u v : ℕ) (page : Page) (places : List ℕ) (k : ℕ) {b : Box} (q : b ≡ place_at places k) {t : Bool}
    (e : t ≡ box_inside across down u v page.columns rows b) (count : ℕ) where
  at_place : t ≡ box_inside across down u v page.columns rows (place_at places k)
  at_place = e ∙ ap (box_inside across down u v page.columns rows) q

  pub stands-outside : t ≡ false → false ≡ stands_by rows count across down u v page places k
  stands-outside f = sym (ap (λ (s : Bool). s && holds_at page (moved_places across down u v count places) k) (sym at_place ∙ f))

  module _ (f : t ≡ true) (h : k < count) {n : ℕ} {m : Box} (c : n ≡ black_in page m) (p : m ≡ moved_box across down u v b) where
    abbrev moved : List ℕ
    moved = moved_places across down u v count places

    there : m ≡ place_at moved k
    there = p ∙ ap (moved_box across down u v) q ∙ sym (place-box across down u v count places k h)

    pub stands-black : get_or places (7 * k) 0 ≡ 1 → leb (get_or places (7 * k + 5) 0) n ≡ stands_by rows count across down u v page places k
    stands-black z =
        ap (λ (a : ℕ). leb a n) (sym (place-asked across down u v count places k h))
        ∙ black-holds page moved k c there (place-kind across down u v count places k h ∙ z)
        ∙ sym (ap (λ (s : Bool). s && holds_at page moved k) (sym at_place ∙ f))

    pub stands-white : (get_or places (7 * k) 0 ≡ 1 → ⊥) → leb n (get_or places (7 * k + 5) 0) ≡ stands_by rows count across down u v page places k
    stands-white z =
        ap (λ (a : ℕ). leb n a) (sym (place-asked across down u v count places k h))
        ∙ white-holds page moved k c there (λ w. z (sym (place-kind across down u v count places k h) ∙ w))
        ∙ sym (ap (λ (s : Bool). s && holds_at page moved k) (sym at_place ∙ f))

-- ---- How many pass a test

pub count-some : (test : ℕ → Bool) (n i x : ℕ) → i ≤ x → x < i + n → test x ≡ true → 1 ≤ count_of test n i
unfolding count_of
count-some test zero i x h k e = absurd (omega arith)
count-some test (suc n) i x h k e = by (test i) refl (eqb i x) (λ z. eqb_is i x z) (λ z. count-some test n (suc i) x z (omega arith) e)
  where
    eqb_is : (a b : ℕ) → eqb a b ≡ false → a ≡ b → ⊥
    eqb_is a b z q = absurd (true≢false (sym (eq-eqb a b q) ∙ z))

    by : (s : Bool) → test i ≡ s → (t : Bool) → (t ≡ false → i ≡ x → ⊥) → (suc i ≤ x → 1 ≤ count_of test n (suc i)) → 1 ≤ elim s [ true ↦ suc (count_of test n (suc i)) | false ↦ count_of test n (suc i) ]
    by true p t f r = omega arith
    by false p t f r = r (differ i x h (λ z. true≢false (sym e ∙ ap test (sym z) ∙ p)))
      where
        differ : (a b : ℕ) → a ≤ b → (a ≡ b → ⊥) → suc a ≤ b
        differ a b l n = omega arith

pub count-start : (test : ℕ → Bool) (n : ℕ) → 0 + count_of test (n - 0) 0 ≡ count_of test n 0
count-start test n = let e : n - 0 ≡ n = omega arith in rw e (omega arith)

pub count_none : (test : ℕ → Bool) (n : ℕ) → count_of test n 0 ≡ 0 → (k : ℕ) → k < n → test k ≡ false
count_none test n e k h = by (test k) refl
  where
    by : (t : Bool) → test k ≡ t → test k ≡ false
    by true p = absurd (let z = count-some test n 0 k (omega arith) (omega arith) p in omega arith)
    by false p = p

-- ---- An offset

module _ (across down count : ℕ) (boxes places : List ℕ) (page : Page) (rows i : ℕ) (same : rows ≡ length page.rows) where
  abbrev u : ℕ
  u = right_of across down count boxes places page i

  abbrev v : ℕ
  v = down_of across down count boxes places page i

  abbrev fails : ℕ → Bool
  fails = fails_by rows count across down u v page places

  abbrev boxed : Bool
  boxed = boxes_inside across down u v page.columns rows boxes

  abbrev placed : Bool
  placed = places_inside across down u v page.columns rows count places

  -- by the page's rows
  total : count_of fails count 0 ≡ failing across down count boxes places page i
  total = rw same

  inside : (boxed && placed) ≡ is_inside across down count boxes places page i
  inside = rw same

  nor : (t : Bool) → (t && false) ≡ false
  nor true = refl
  nor false = refl

  misses : 1 ≤ count_of fails count 0 → false ≡ fits_at across down count boxes places page i
  unfolding fits_at
  misses h = sym (rw (fits_at, ne_eqb (failing across down count boxes places page i) 0 (λ z. let w = total in omega arith)) (nor (is_inside across down count boxes places page i)))

  -- a place that fails
  pub fits-fails : (k : ℕ) → k < count → {t : Bool} → t ≡ stands_by rows count across down u v page places k → t ≡ false → false ≡ fits_at across down count boxes places page i
  fits-fails k h e f = misses (count-some fails count 0 k (omega arith) (omega arith) (ap not (sym e ∙ f)))

  module _ {n : ℕ} (few : Upto 1 (count_of fails count 0) n) where
    pub fits-some : (n ≡ 0 → ⊥) → false ≡ fits_at across down count boxes places page i
    fits-some z = misses (above n (count_of fails count 0) few.few z)
      where
        above : (a b : ℕ) → a ≤ b → (a ≡ 0 → ⊥) → 1 ≤ b
        above a b l d = omega arith

    -- none does
    pub fits-none : n ≡ 0 → {t : Bool} → t ≡ boxed → t ≡ fits_at across down count boxes places page i
    unfolding fits_at
    fits-none z e =
        let none : count_of fails count 0 ≡ 0 = sym (few.all (omega arith)) ∙ z in
        let all : placed ≡ true =
        every-all (λ k. box_inside across down u v page.columns rows (place_at places k)) count 0
        (λ k l h. (both _ _ (not-false _ (count_none fails count none k (omega arith)))).0) in
        e ∙ sym (rw (fits_at, eq-eqb (failing across down count boxes places page i) 0 (sym total ∙ none), ← inside, all) (plain boxed))
      where
        plain : (t : Bool) → ((t && true) && true) ≡ t
        plain true = refl
        plain false = refl

  -- ---- How many fail there, where it lies inside

  module _ (limit : ℕ) where
    outside : (boxed && placed) ≡ false → Failed (is_inside across down count boxes places page i) limit (failing across down count boxes places page i) limit
    outside e = record { outside = λ z. refl; within = λ z. absurd (true≢false (sym z ∙ sym inside ∙ e)) }

    pub failed-many : {n : ℕ} → Upto limit (count_of fails count 0) n → limit ≤ n → Failed (is_inside across down count boxes places page i) limit (failing across down count boxes places page i) limit
    failed-many {n = n} m l = record {
      outside = λ z. refl;
      within = λ z. let f = m.few in let s = total in record { few = omega arith; small = omega arith; all = λ h. omega arith };
    }

    pub failed-boxes : {t : Bool} → t ≡ boxed → t ≡ false → Failed (is_inside across down count boxes places page i) limit (failing across down count boxes places page i) limit
    failed-boxes e f = outside (ap (λ (s : Bool). s && placed) (sym e ∙ f))

    pub failed-places : {t : Bool} → t ≡ placed → t ≡ false → Failed (is_inside across down count boxes places page i) limit (failing across down count boxes places page i) limit
    failed-places e f = outside (ap (λ (s : Bool). boxed && s) (sym e ∙ f) ∙ nor boxed)

    pub failed-inside : {s t : Bool} → s ≡ boxed → s ≡ true → t ≡ placed → t ≡ true → {n : ℕ} → Upto limit (count_of fails count 0) n
        → Failed (is_inside across down count boxes places page i) limit (failing across down count boxes places page i) n
    failed-inside e f g h m = record {
      outside = λ z. absurd (true≢false (sym (ap₂ ◌&&◌ (sym e ∙ f) (sym g ∙ h)) ∙ inside ∙ z));
      within = λ z. rw total at m;
    }

-- ---- The best of the offsets

module _ (across down count : ℕ) (boxes places : List ℕ) (page : Page) where
  abbrev best_of : ℕ → ℕ → ℕ → ℕ → ℕ
  best_of = best_from across down count boxes places page

  abbrev is_in : ℕ → Bool
  is_in = is_inside across down count boxes places page

  abbrev few : ℕ → ℕ
  few = failing across down count boxes places page

  pub best-start : (n best fewest : ℕ) → best_of (n - 0) 0 best fewest ≡ best_of n 0 best fewest
  best-start n best fewest = let e : n - 0 ≡ n = omega arith in rw e

  module _ (i last best fewest : ℕ) where
    pub best-past : last ≤ i → best ≡ best_of (last - i) i best fewest
    unfolding best_from
    best-past h = let e : last - i ≡ 0 = omega arith in rw e

    module _ (h : i < last) {r : ℕ} (f : Failed (is_in i) fewest (few i) r) where
      one_more : last - i ≡ suc (last - (i + 1))
      one_more = omega arith

      abbrev goes : Bool → ℕ → ℕ
      goes t j = elim t [ true ↦ best_of (last - (i + 1)) j i (few i) | false ↦ best_of (last - (i + 1)) j best fewest ]

      step : best_of (suc (last - (i + 1))) i best fewest ≡ goes (is_in i && ltb (few i) fewest) (suc i)
      unfolding best_from
      step = refl

      next : {t : Bool} → (is_in i && ltb (few i) fewest) ≡ t → best_of (last - i) i best fewest ≡ goes t (i + 1)
      next e = ap (λ (n : ℕ). best_of n i best fewest) one_more ∙ step ∙ ap₂ goes e (sym (add-one i))

      pub best-hit : r < fewest → best_of (last - (i + 1)) (i + 1) i r ≡ best_of (last - i) i best fewest
      best-hit l = by (is_in i) refl
        where
          by : (t : Bool) → is_in i ≡ t → best_of (last - (i + 1)) (i + 1) i r ≡ best_of (last - i) i best fewest
          by false p = absurd (let z = f.outside p in omega arith)
          by true p =
              let z : r ≡ few i = (f.within p).all l in
              ap (best_of (last - (i + 1)) (i + 1) i) z ∙ sym (next {t = true} (rw (p, lt-ltb (few i) fewest (omega arith))))

      pub best-miss : fewest ≤ r → best_of (last - (i + 1)) (i + 1) best fewest ≡ best_of (last - i) i best fewest
      best-miss l = sym (next {t = false} (by (is_in i) refl))
        where
          by : (t : Bool) → is_in i ≡ t → (is_in i && ltb (few i) fewest) ≡ false
          by false p = rw p
          by true p = let z = (f.within p).few in rw (p, le-ltb (few i) fewest (omega arith))

  -- one that is told lies inside
  pub best-inside : (last n i best fewest : ℕ) → (best < last → is_in best ≡ true) → best_of n i best fewest < last → is_in (best_of n i best fewest) ≡ true
  unfolding best_from
  best-inside last zero i best fewest f h = f h
  best-inside last (suc n) i best fewest f h =
      by (is_in i && ltb (few i) fewest) refl (best-inside last n (suc i) i (few i)) (best-inside last n (suc i) best fewest f) h
    where
      by : (t : Bool) → (is_in i && ltb (few i) fewest) ≡ t
          → ((i < last → is_in i ≡ true) → best_of n (suc i) i (few i) < last → is_in (best_of n (suc i) i (few i)) ≡ true)
          → (best_of n (suc i) best fewest < last → is_in (best_of n (suc i) best fewest) ≡ true)
          → elim t [ true ↦ best_of n (suc i) i (few i) | false ↦ best_of n (suc i) best fewest ] < last
          → is_in (elim t [ true ↦ best_of n (suc i) i (few i) | false ↦ best_of n (suc i) best fewest ]) ≡ true
      by true e here there l = here (λ z. (both (is_in i) _ e).0) l
      by false e here there l = there l
