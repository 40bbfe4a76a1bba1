-- A form that is moved: its edges, its boxes one by one, and its numbers as they are stored. Assumes nothing.
use mathlib.Core.Path.{◌≡◌, refl, sym, ap, ap₂, ◌∙◌}
use mathlib.Core.Bool.{Bool, true, false, not, ◌&&◌}
use mathlib.Core.List.{List, [], ◌∷◌, ◌++◌, append_assoc, append-nil}
use Prim.Native.Nat.{ℕ, zero, suc, ◌+◌, ◌-◌, ◌*◌, ◌≤◌, ◌<◌}
use native.Mathlib.Numerals.{add-one}
use native.Mathlib.Omega.{arith}
use lib.Dec.{leb, eqb}
use lib.ListN.{length, get_or, take, drop, set, length-append, get_or-append}
use lib.Seq.{take_at, get_or-append-add}
use borrow.Author.Tests.{le-leb, lt-leb, leb-true}
use Rattle.rules.specs.Pages.{overlaid}
use Rattle.rules.proofs.Store.{overlaid-one}
use Rattle.heads.specs.Form.{every, Page, black_in}
use Rattle.heads.specs.Numbers.{box_in}
use Rattle.heads.specs.declared.Box.{Box}
use Rattle.heads.proofs.Tests.{both}
use Rattle.form_file.specs.Heard.{place_numbers}
use Rattle.form_file.specs.FormFile.{box_at, place_at}
use Rattle.booking.specs.Found.{listed, moved_box, moved_four, moved_seven, moved_boxes, moved_places, box_inside}
use Rattle.booking.specs.Moving.{Edged, Movable, is_between}

-- ---- Whether a box lies inside

module _ (low high last by back : ℕ) where
  pub between-low : low + by < back → false ≡ is_between low high last by back
  between-low h = sym (rw (lt-leb back (low + by) h))

  module _ (h : back ≤ low + by) where
    pub between-order : high < low → false ≡ is_between low high last by back
    between-order k = sym (rw (le-leb back (low + by) h, lt-leb low high k))

    pub between-high : low ≤ high → leb (high + by) (last + back) ≡ is_between low high last by back
    between-high k = sym (rw (le-leb back (low + by) h, le-leb low high k))

  -- so both can be moved
  pub between-edged : is_between low high last by back ≡ true → last ≤ 4294967295 → Edged low by back × Edged high by back
  between-edged e l =
      let p = both _ _ e in
      let q = both _ _ p.1 in
      let a = leb-true back (low + by) p.0 in
      let b = leb-true low high q.0 in
      let c = leb-true (high + by) (last + back) q.1 in
      (record { low = a; high = omega arith }, record { low = omega arith; high = omega arith })

module _ (across down u v columns rows : ℕ) (b : Box) where
  abbrev wide : Bool
  wide = is_between b.left b.right columns u across

  abbrev high : Bool
  high = is_between b.top b.bottom rows v down

  pub inside-wide : {t : Bool} → t ≡ wide → t ≡ false → false ≡ box_inside across down u v columns rows b
  unfolding box_inside
  inside-wide e f = sym (rw (box_inside, sym e ∙ f))

  pub inside-high : {t r : Bool} → t ≡ wide → t ≡ true → r ≡ high → r ≡ box_inside across down u v columns rows b
  unfolding box_inside
  inside-high e f g = g ∙ sym (rw (box_inside, sym e ∙ f))

  pub inside-movable : columns ≤ 4294967295 → rows ≤ 4294967295 → box_inside across down u v columns rows b ≡ true → Movable across down u v b
  unfolding box_inside
  inside-movable l m e =
      let p = both wide high e in
      let x = between-edged b.left b.right columns u across p.0 l in
      let y = between-edged b.top b.bottom rows v down p.1 m in
      record { left = x.0; right = x.1; top = y.0; bottom = y.1 }

-- of a box that is another
pub inside-told : (across down u v columns rows : ℕ) {b b' : Box} {s t : Bool} → t ≡ box_inside across down u v columns rows b' → b' ≡ b → t ≡ s → box_inside across down u v columns rows b ≡ s
inside-told across down u v columns rows e q f = ap (box_inside across down u v columns rows) (sym q) ∙ sym e ∙ f

-- ---- Each of several, one by one

module _ (test : ℕ → Bool) where
  pub every-start : (n : ℕ) → every test (n - 0) 0 ≡ every test n 0
  every-start n = let e : n - 0 ≡ n = omega arith in rw e

  module _ (i last : ℕ) where
    pub every-past : last ≤ i → true ≡ every test (last - i) i
    unfolding every
    every-past h = let e : last - i ≡ 0 = omega arith in rw e

    module _ (h : i < last) where
      one_more : last - i ≡ suc (last - (i + 1))
      one_more = omega arith

      pub every_here : test i ≡ false → false ≡ every test (last - i) i
      unfolding every
      every_here e = sym (rw (one_more, every, e))

      pub every-next : test i ≡ true → every test (last - (i + 1)) (i + 1) ≡ every test (last - i) i
      unfolding every
      every-next e = let g : i + 1 ≡ suc i = omega arith in sym (rw (one_more, every, e, g))

-- ---- Lists one behind the other

module _ (f : ℕ → List ℕ) where
  pub listed_more : (n i : ℕ) → listed f (suc n) i ≡ listed f n i ++ f (i + n)
  unfolding listed
  listed_more zero i = append-nil (f i) ∙ (let e : i ≡ i + 0 = omega arith in ap f e)
  listed_more (suc n) i =
      ap (λ (l : List ℕ). f i ++ l) (listed_more n (suc i) ∙ (let e : suc i + n ≡ i + suc n = omega arith in ap (λ (k : ℕ). listed f n (suc i) ++ f k) e))
      ∙ sym (append_assoc (f i) (listed f n (suc i)) (f (i + suc n)))

  pub listed_next : (k : ℕ) → listed f k 0 ++ f k ≡ listed f (k + 1) 0
  listed_next k = sym (rw (add-one k) (listed_more k 0 ∙ (let e : 0 + k ≡ k = omega arith in ap (λ (j : ℕ). listed f k 0 ++ f j) e)))

  -- the part of one of them
  pub listed-part : (n k i : ℕ) → k < n → listed f n i ≡ listed f k i ++ (f (i + k) ++ listed f (n - (k + 1)) (suc (i + k)))
  unfolding listed
  listed-part zero k i h = absurd (omega arith)
  listed-part (suc n) zero i h =
      (let e : n ≡ suc n - (0 + 1) = omega arith in let g : i ≡ i + 0 = omega arith in ap₂ (λ (m j : ℕ). f j ++ listed f m (suc j)) e g)
  listed-part (suc n) (suc k) i h =
      ap (λ (l : List ℕ). f i ++ l)
      (listed-part n k (suc i) (omega arith)
      ∙ (let e : n - (k + 1) ≡ suc n - (suc k + 1) = omega arith in
      let g : suc i + k ≡ i + suc k = omega arith in
      ap₂ (λ (m j : ℕ). listed f k (suc i) ++ (f j ++ listed f m (suc j))) e g))
      ∙ sym (append_assoc (f i) (listed f k (suc i)) (f (i + suc k) ++ listed f (suc n - (suc k + 1)) (suc (i + suc k))))

-- ---- Boxes: four numbers, and places: seven

module _ (across down u v : ℕ) where
  pub fours-long : (boxes : List ℕ) (n i : ℕ) → length (listed (moved_four across down u v boxes) n i) ≡ 4 * n
  unfolding listed
  fours-long boxes zero i = refl
  fours-long boxes (suc n) i = let e = fours-long boxes n (suc i) in omega arith

  pub sevens-long : (places : List ℕ) (n i : ℕ) → length (listed (moved_seven across down u v places) n i) ≡ 7 * n
  unfolding listed
  sevens-long places zero i = refl
  sevens-long places (suc n) i = let e = sevens-long places n (suc i) in omega arith

  pub boxes_long : (boxes : List ℕ) → length (moved_boxes across down u v boxes) ≡ 80
  unfolding moved_boxes
  boxes_long boxes = fours-long boxes 20 0

  pub places_long : (count : ℕ) (places : List ℕ) → length (moved_places across down u v count places) ≡ 7 * count
  unfolding moved_places
  places_long count places = sevens-long places count 0

  -- a number of a place that was moved
  module _ (count : ℕ) (places : List ℕ) (k : ℕ) (h : k < count) where
    pub place-number : (j : ℕ) → j < 7 → get_or (moved_places across down u v count places) (7 * k + j) 0 ≡ get_or (moved_seven across down u v places k) j 0
    unfolding moved_places
    place-number j l =
        let front = listed (moved_seven across down u v places) k 0 in
        let behind = listed (moved_seven across down u v places) (count - (k + 1)) (suc (0 + k)) in
        let z : 0 + k ≡ k = omega arith in
        ap (λ (xs : List ℕ). get_or xs (7 * k + j) 0) (listed-part (moved_seven across down u v places) count k 0 h)
        ∙ ap (λ (n : ℕ). get_or (front ++ (moved_seven across down u v places (0 + k) ++ behind)) (n + j) 0) (sym (sevens-long places k 0))
        ∙ get_or-append-add front (moved_seven across down u v places (0 + k) ++ behind) j 0
        ∙ get_or-append (moved_seven across down u v places (0 + k)) behind 0 j (omega arith)
        ∙ ap (λ (n : ℕ). get_or (moved_seven across down u v places n) j 0) z

    pub place-box : place_at (moved_places across down u v count places) k ≡ moved_box across down u v (place_at places k)
    place-box =
        let a : 7 * k + 1 + 1 ≡ 7 * k + 2 = omega arith in
        let b : 7 * k + 1 + 2 ≡ 7 * k + 3 = omega arith in
        let c : 7 * k + 1 + 3 ≡ 7 * k + 4 = omega arith in
        cc (place-number 1 (omega arith), a, place-number 2 (omega arith), b, place-number 3 (omega arith), c, place-number 4 (omega arith))

    pub place-kind : get_or (moved_places across down u v count places) (7 * k) 0 ≡ get_or places (7 * k) 0
    place-kind = (let e : 7 * k ≡ 7 * k + 0 = omega arith in ap (λ (n : ℕ). get_or (moved_places across down u v count places) n 0) e) ∙ place-number 0 (omega arith)

    pub place-asked : get_or (moved_places across down u v count places) (7 * k + 5) 0 ≡ get_or places (7 * k + 5) 0
    place-asked = place-number 5 (omega arith)

-- ---- Numbers that are stored behind those that were

pub put_four : (xs array : List ℕ) (n a b c d : ℕ) → length xs ≡ n → n + 4 ≤ length array
    → set (set (set (set (overlaid xs array) n a) (n + 1) b) (n + 2) c) (n + 3) d ≡ overlaid (xs ++ a ∷ b ∷ c ∷ d ∷ []) array
put_four xs array n a b c d l h =
    let one = overlaid-one xs array a n l (omega arith) in
    let l1 : length (xs ++ a ∷ []) ≡ n + 1 = length-append xs (a ∷ []) ∙ (omega arith) in
    let two = overlaid-one (xs ++ a ∷ []) array b (n + 1) l1 (omega arith) in
    let l2 : length ((xs ++ a ∷ []) ++ b ∷ []) ≡ n + 2 = length-append (xs ++ a ∷ []) (b ∷ []) ∙ (omega arith) in
    let three = overlaid-one ((xs ++ a ∷ []) ++ b ∷ []) array c (n + 2) l2 (omega arith) in
    let l3 : length (((xs ++ a ∷ []) ++ b ∷ []) ++ c ∷ []) ≡ n + 3 = length-append ((xs ++ a ∷ []) ++ b ∷ []) (c ∷ []) ∙ (omega arith) in
    let four = overlaid-one (((xs ++ a ∷ []) ++ b ∷ []) ++ c ∷ []) array d (n + 3) l3 (omega arith) in
    rw (one, two, three)
    (four
    ∙ ap (λ (l : List ℕ). overlaid l array)
    (append_assoc ((xs ++ a ∷ []) ++ b ∷ []) (c ∷ []) (d ∷ []) ∙ append_assoc (xs ++ a ∷ []) (b ∷ []) (c ∷ d ∷ []) ∙ append_assoc xs (a ∷ []) (b ∷ c ∷ d ∷ [])))

pub put-seven : (xs array : List ℕ) (n a b c d e f g : ℕ) → length xs ≡ n → n + 7 ≤ length array
    → set (set (set (set (set (set (set (overlaid xs array) n a) (n + 1) b) (n + 2) c) (n + 3) d) (n + 4) e) (n + 5) f) (n + 6) g
    ≡ overlaid (xs ++ a ∷ b ∷ c ∷ d ∷ e ∷ f ∷ g ∷ []) array
put-seven xs array n a b c d e f g l h =
    let ys = xs ++ a ∷ b ∷ c ∷ d ∷ [] in
    let l4 : length ys ≡ n + 4 = length-append xs (a ∷ b ∷ c ∷ d ∷ []) ∙ (omega arith) in
    let five = overlaid-one ys array e (n + 4) l4 (omega arith) in
    let l5 : length (ys ++ e ∷ []) ≡ n + 5 = length-append ys (e ∷ []) ∙ (omega arith) in
    let six = overlaid-one (ys ++ e ∷ []) array f (n + 5) l5 (omega arith) in
    let l6 : length ((ys ++ e ∷ []) ++ f ∷ []) ≡ n + 6 = length-append (ys ++ e ∷ []) (f ∷ []) ∙ (omega arith) in
    let seven = overlaid-one ((ys ++ e ∷ []) ++ f ∷ []) array g (n + 6) l6 (omega arith) in
    rw (put_four xs array n a b c d l (omega arith), five, six)
    (seven
    ∙ ap (λ (k : List ℕ). overlaid k array)
    (append_assoc (ys ++ e ∷ []) (f ∷ []) (g ∷ []) ∙ append_assoc ys (e ∷ []) (f ∷ g ∷ []) ∙ append_assoc xs (a ∷ b ∷ c ∷ d ∷ []) (e ∷ f ∷ g ∷ [])))

-- one box more, one place more, behind those that were moved
module _ (across down u v : ℕ) (k : ℕ) {m b : Box} (is : m ≡ moved_box across down u v b) (lent out : List ℕ) where
  pub fours-next : (boxes : List ℕ) → b ≡ box_at boxes k → 4 * k + 4 ≤ length lent → out ≡ overlaid (listed (moved_four across down u v boxes) k 0) lent
      → set (set (set (set out (4 * k) m.left) (4 * k + 1) m.right) (4 * k + 2) m.top) (4 * k + 3) m.bottom
      ≡ overlaid (listed (moved_four across down u v boxes) (k + 1) 0) lent
  fours-next boxes at h o =
      rw o
      (put_four (listed (moved_four across down u v boxes) k 0) lent (4 * k) m.left m.right m.top m.bottom (fours-long across down u v boxes k 0) h
      ∙ ap (λ (xs : List ℕ). overlaid xs lent)
      (ap (λ (x : Box). listed (moved_four across down u v boxes) k 0 ++ x.left ∷ x.right ∷ x.top ∷ x.bottom ∷ []) (is ∙ ap (moved_box across down u v) at)
      ∙ listed_next (moved_four across down u v boxes) k))

  pub sevens-next : (places : List ℕ) → b ≡ place_at places k → 7 * k + 7 ≤ length lent → out ≡ overlaid (listed (moved_seven across down u v places) k 0) lent
      → set (set (set (set (set (set (set out (7 * k) (get_or places (7 * k) 0)) (7 * k + 1) m.left) (7 * k + 2) m.right) (7 * k + 3) m.top) (7 * k + 4) m.bottom)
      (7 * k + 5) (get_or places (7 * k + 5) 0)) (7 * k + 6) (get_or places (7 * k + 6) 0)
      ≡ overlaid (listed (moved_seven across down u v places) (k + 1) 0) lent
  sevens-next places at h o =
      rw o
      (put-seven (listed (moved_seven across down u v places) k 0) lent (7 * k) (get_or places (7 * k) 0) m.left m.right m.top m.bottom (get_or places (7 * k + 5) 0)
      (get_or places (7 * k + 6) 0) (sevens-long across down u v places k 0) h
      ∙ ap (λ (xs : List ℕ). overlaid xs lent)
      (ap (λ (x : Box). listed (moved_seven across down u v places) k 0 ++ place_numbers (get_or places (7 * k) 0) x (get_or places (7 * k + 5) 0) (get_or places (7 * k + 6) 0))
      (is ∙ ap (moved_box across down u v) at)
      ∙ listed_next (moved_seven across down u v places) k))
