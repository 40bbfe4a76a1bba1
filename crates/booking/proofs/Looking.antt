-- Whether a form can be looked for, and what is found by it. Assumes nothing.
use mathlib.Core.Path.{◌≡◌, refl, sym, ap, ap₂, ◌∙◌}
use mathlib.Core.Bool.{Bool, true, false, not, ◌&&◌}
use mathlib.Core.List.{List, ◌++◌}
use Prim.Native.Nat.{ℕ, zero, suc, ◌+◌, ◌-◌, ◌*◌, ◌/◌, ◌≤◌, ◌<◌}
use native.Mathlib.Numerals.{add-one}
use native.Mathlib.Omega.{arith}
use lib.Dec.{leb, eqb, ltb}
use lib.ListN.{length, take, drop}
use lib.Seq.{take_at}
use borrow.Author.Tests.{eq-eqb, ne_eqb, le-leb, lt-leb, lt-ltb, le-ltb, leb-true, eqb-true}
use Rattle.rules.specs.Pages.{overlaid}
use Rattle.settings.specs.declared.EncodingMode.{EncodingMode}
use Rattle.heads.specs.Form.{Page, page_in, sound}
use Rattle.heads.proofs.Tests.{both, every-at}
use Rattle.heads.proofs.RowsAt.{rows-length}
use Rattle.form_file.specs.FormFile.{box_at, place_at}
use Rattle.form_file.specs.Heard.{has_shift}
use Rattle.form_file.specs.declared.Form.{Form}
use Rattle.form_file.proofs.Firsts.{first_passes}
use Rattle.ledger.specs.Verdicts.{other_ticks}
use Rattle.booking.specs.Tests.{finding, plainly, on_page}
use Rattle.booking.specs.Testing.{tested_on}
use Rattle.booking.specs.Found as Found
use Rattle.booking.specs.Found.{moved_boxes, moved_places, box_inside, boxes_inside, right_of, down_of, is_inside, fits_at, reach, fits_in, found_at, differs, other_fit, found_behind, first, best, looked_for, can_look_for, on_form}
use Rattle.booking.specs.Moving.{BoxesMovable, PlacesMovable, Seekable, Looking, Lying}
use Rattle.booking.specs.declared.Finding.{Finding}
use Rattle.booking.proofs.Moved.{inside-movable, boxes_long, places_long}
use Rattle.booking.proofs.Seeking.{best-inside}

-- ---- Whether it can be looked for

module _ (form : Form) (boxes places : List ℕ) where
  pub can-boxes : (length boxes ≡ 80 → ⊥) → false ≡ can_look_for form boxes places
  unfolding can_look_for
  can-boxes e = sym (rw (can_look_for, ne_eqb (length boxes) 80 e))

  module _ (b : length boxes ≡ 80) where
    pub can-places : length places / 7 < form.places → false ≡ can_look_for form boxes places
    unfolding can_look_for
    can-places h = sym (rw (can_look_for, eq-eqb (length boxes) 80 b, lt-leb form.places (length places / 7) h))

    module _ (p : form.places ≤ length places / 7) where
      rest : can_look_for form boxes places ≡ (leb form.places 256 && (leb form.across 1000 && leb form.down 1000))
      unfolding can_look_for
      rest = rw (can_look_for, eq-eqb (length boxes) 80 b, le-leb form.places (length places / 7) p)

      pub can-count : 256 < form.places → false ≡ can_look_for form boxes places
      can-count h = sym (rest ∙ rw (lt-leb form.places 256 h))

      module _ (n : form.places ≤ 256) where
        pub can-across : 1000 < form.across → false ≡ can_look_for form boxes places
        can-across h = sym (rest ∙ rw (le-leb form.places 256 n, lt-leb form.across 1000 h))

        pub can-down : form.across ≤ 1000 → leb form.down 1000 ≡ can_look_for form boxes places
        can-down h = sym (rest ∙ rw (le-leb form.places 256 n, le-leb form.across 1000 h))

  -- what that tells
  pub record Can : Type 0 where
    pub boxed : length boxes ≡ 80
    pub placed : 7 * form.places ≤ length places
    pub few : form.places ≤ 256
    pub aside : form.across ≤ 1000
    pub away : form.down ≤ 1000

  pub can-is : can_look_for form boxes places ≡ true → Can
  unfolding can_look_for
  can-is e =
      let p = both _ _ e in
      let q = both _ _ p.0 in
      let r = both _ _ p.1 in
      let s = both _ _ r.1 in
      let m = leb-true form.places (length places / 7) q.1 in
      record {
        boxed = eqb-true (length boxes) 80 q.0;
        placed = omega arith;
        few = leb-true form.places 256 r.0;
        aside = leb-true form.across 1000 s.0;
        away = leb-true form.down 1000 s.1;
      }

-- there are not too many offsets
less : (a b m : ℕ) → b ≤ m → a * b ≤ a * m
less zero b m h = omega arith
less (suc a) b m h = let e = less a b m h in omega arith

pub offsets-few : (across down : ℕ) → across ≤ 1000 → down ≤ 1000 → (2 * across + 1) * (2 * down + 1) ≤ 4004001
offsets-few across down h l = omega (arith, less (2 * across + 1) (2 * down + 1) 2001 (omega arith))

-- ---- A page in a store

module _ (columns rows : ℕ) (changes ends marks : List ℕ) (form : Form) (boxes places : List ℕ) (l : Looking columns rows changes ends marks form boxes places) where
  pub seekable : Seekable columns rows form.across form.places changes ends boxes places
  unfolding sound
  seekable =
      let c = can-is form boxes places l.can in record {
        good = (both _ _ l.sound).0;
        rows_are = l.rows_are;
        near = c.aside;
        boxed = c.boxed;
        placed = c.placed;
        few = c.few;
      }

  pub lying : rows ≤ 4294967295 → (i : ℕ) → is_inside form.across form.down form.places boxes places (page_in columns changes ends) i ≡ true → Lying columns changes ends marks form boxes places i
  lying h i e = record { sound = l.sound; marked = l.marked; short = omega (arith, l.rows_are); can = l.can; inside = e }

-- an offset that fits lies inside
pub fits-inside : (across down count : ℕ) (boxes places : List ℕ) (page : Page) (i : ℕ) → fits_at across down count boxes places page i ≡ true → is_inside across down count boxes places page i ≡ true
unfolding fits_at
fits-inside across down count boxes places page i e = (both _ _ e).0

module _ (columns : ℕ) (changes ends marks : List ℕ) (form : Form) (boxes places : List ℕ) (i : ℕ) (l : Lying columns changes ends marks form boxes places i) (w : columns ≤ 4294967295) where
  abbrev page : Page
  page = page_in columns changes ends

  abbrev u : ℕ
  u = right_of form.across form.down form.places boxes places page i

  abbrev v : ℕ
  v = down_of form.across form.down form.places boxes places page i

  rows_few : length page.rows ≤ 4294967295
  rows_few = omega (arith, rows-length 0 changes ends, l.short)

  pub boxes-movable : BoxesMovable form.across form.down u v boxes
  boxes-movable = record {
    long = (can-is form boxes places l.can).boxed;
    each = λ k h. inside-movable form.across form.down u v columns (length page.rows) (box_at boxes k) w rows_few
        (every-at (λ j. box_inside form.across form.down u v columns (length page.rows) (box_at boxes j)) 20 0 (both _ _ l.inside).0 k (omega arith) (omega arith));
  }

  pub places-movable : PlacesMovable form.across form.down u v form.places places
  places-movable = record {
    long = (can-is form boxes places l.can).placed;
    each = λ k h. inside-movable form.across form.down u v columns (length page.rows) (place_at places k) w rows_few
        (every-at (λ j. box_inside form.across form.down u v columns (length page.rows) (place_at places j)) form.places 0 (both (boxes_inside form.across form.down u v columns (length page.rows) boxes) _ l.inside).1 k (omega arith) (omega arith));
  }

-- ---- What is found at an offset

-- the front of what is lent is what was stored there
front : (xs lent : List ℕ) (n : ℕ) → length xs ≡ n → take n (overlaid xs lent) ≡ xs
unfolding overlaid
front xs lent n e = take_at xs (drop (length xs) lent) n e

module _ (form : Form) (boxes places : List ℕ) (encoding : EncodingMode) (page : Page) (marks : List ℕ) (i : ℕ) where
  abbrev right : ℕ
  right = right_of form.across form.down form.places boxes places page i

  abbrev below : ℕ
  below = down_of form.across form.down form.places boxes places page i

  pub found_in : (lent lent' : List ℕ) {bs ps : List ℕ} → bs ≡ overlaid (moved_boxes form.across form.down right below boxes) lent
      → ps ≡ overlaid (moved_places form.across form.down right below form.places places) lent'
      → tested_on form (take 80 bs) (take (7 * form.places) ps) encoding page marks ≡ found_at form boxes places encoding page marks i
  unfolding found_at
  found_in lent lent' b p =
      ap₂ (λ (xs ys : List ℕ). tested_on form xs ys encoding page marks)
      (ap (take 80) b ∙ front _ lent 80 (boxes_long form.across form.down right below boxes))
      (ap (take (7 * form.places)) p ∙ front _ lent' (7 * form.places) (places_long form.across form.down right below form.places places))

  -- ---- Whether it differs

  module _ (heads : ℕ) {t : Bool} (e : t ≡ fits_in form boxes places encoding page marks i) where
    pub differs-unfit : t ≡ false → false ≡ differs form boxes places encoding page marks heads i
    differs-unfit z = sym (rw (sym e ∙ z))

    module _ (z : t ≡ true) {f : Finding} (q : f ≡ found_at form boxes places encoding page marks i) where
      pub differs-number : (f.number ≡ 0 → ⊥) → true ≡ differs form boxes places encoding page marks heads i
      differs-number n = sym (rw (sym e ∙ z, ← q, ne_eqb f.number 0 n))

      pub differs-heads : f.number ≡ 0 → not (eqb f.heads heads) ≡ differs form boxes places encoding page marks heads i
      differs-heads n = sym (rw (sym e ∙ z, ← q, eq-eqb f.number 0 n))

-- ---- Behind the first that fits

module _ (form : Form) (boxes places : List ℕ) (encoding : EncodingMode) (page : Page) (marks : List ℕ) where
  abbrev found : ℕ → Finding
  found = found_at form boxes places encoding page marks

  abbrev last : ℕ
  last = reach form boxes places encoding page marks

  module _ (i j : ℕ) (one : Finding) (is : one ≡ found i) (next : j ≡ other_fit form boxes places encoding page marks one.heads (i + 1)) where
    at : j ≡ other_fit form boxes places encoding page marks (found i).heads (suc i)
    at = next ∙ ap₂ (other_fit form boxes places encoding page marks) (ap (λ (f : Finding). f.heads) is) (add-one i)

    pub behind-inside : i < last → j < last → is_inside form.across form.down form.places boxes places page j ≡ true
    behind-inside l h =
        rw (sym next) at (fits-inside form.across form.down form.places boxes places page (other_fit form boxes places encoding page marks one.heads (i + 1))
        (both _ _ (first_passes (differs form boxes places encoding page marks one.heads) (last - (i + 1)) (i + 1) (omega (arith, next)))).0)

    pub behind-none : last ≤ j → one ≡ found_behind form boxes places encoding page marks i
    unfolding found_behind
    behind-none h = is ∙ sym (rw (found_behind, le-ltb (other_fit form boxes places encoding page marks (found i).heads (suc i)) last (omega (arith, at))))

    module _ (h : j < last) (f : Finding) (q : f ≡ found j) where
      abbrev told : Bool → Finding
      told t = elim t [ false ↦ found j | true ↦ finding other_ticks 0 0 0 0 (found i).heads (found j).heads ]

      abbrev pick : Bool → Bool → ℕ → Finding
      pick t u k = elim t [ false ↦ found i | true ↦ elim u [ false ↦ found k | true ↦ finding other_ticks 0 0 0 0 (found i).heads (found k).heads ] ]

      starts : (k : ℕ) → k ≡ other_fit form boxes places encoding page marks (found i).heads (suc i)
          → found_behind form boxes places encoding page marks i ≡ pick (ltb k last) (eqb (found k).number 0) k
      unfolding found_behind
      starts k e = sym (ap (λ (n : ℕ). pick (ltb n last) (eqb (found n).number 0) n) e)

      opens : found_behind form boxes places encoding page marks i ≡ told (eqb (found j).number 0)
      opens = starts j at ∙ ap (λ (t : Bool). pick t (eqb (found j).number 0) j) (lt-ltb j last h)

      pub behind-fails : (f.number ≡ 0 → ⊥) → f ≡ found_behind form boxes places encoding page marks i
      behind-fails n = q ∙ sym (opens ∙ ap told (ne_eqb (found j).number 0 (λ z. n (ap (λ (g : Finding). g.number) q ∙ z))))

      pub behind-other : f.number ≡ 0 → finding other_ticks 0 0 0 0 one.heads f.heads ≡ found_behind form boxes places encoding page marks i
      behind-other n =
          ap₂ (λ (a b : ℕ). finding other_ticks 0 0 0 0 a b) (ap (λ (g : Finding). g.heads) is) (ap (λ (g : Finding). g.heads) q)
          ∙ sym (opens ∙ ap told (eq-eqb (found j).number 0 (sym (ap (λ (g : Finding). g.number) q) ∙ n)))

  -- ---- The whole

  abbrev picked : Bool → Bool → Bool → ℕ → ℕ → Finding
  picked t u v i j =
      elim t [
        | true ↦ elim u [ false ↦ found i | true ↦ found_behind form boxes places encoding page marks i ]
        | false ↦ elim v [ true ↦ found j | false ↦ plainly 11 ]
      ]

  module _ (i : ℕ) (is : i ≡ first form boxes places encoding page marks) where
    looked : (j : ℕ) → j ≡ best form boxes places encoding page marks → looked_for form boxes places encoding page marks ≡ picked (ltb i last) (eqb (found i).number 0) (ltb j last) i j
    unfolding looked_for
    looked j to = sym (ap₂ (λ (a b : ℕ). picked (ltb a last) (eqb (found a).number 0) (ltb b last) a b) is to)

    pub first-inside : i < last → is_inside form.across form.down form.places boxes places page i ≡ true
    first-inside h =
        fits-inside form.across form.down form.places boxes places page i
        (rw (sym is) at (first_passes (fits_in form boxes places encoding page marks) last 0 (omega arith)))

    module _ (h : i < last) (f : Finding) (q : f ≡ found i) where
      pub looked-fails : (f.number ≡ 0 → ⊥) → f ≡ looked_for form boxes places encoding page marks
      looked-fails n =
          let j = best form boxes places encoding page marks in
          q ∙ sym (looked j refl ∙ ap₂ (λ (t u : Bool). picked t u (ltb j last) i j) (lt-ltb i last h) (ne_eqb (found i).number 0 (λ z. n (ap (λ (g : Finding). g.number) q ∙ z))))

      pub looked-behind : f.number ≡ 0 → found_behind form boxes places encoding page marks i ≡ looked_for form boxes places encoding page marks
      looked-behind n =
          let j = best form boxes places encoding page marks in
          sym (looked j refl ∙ ap₂ (λ (t u : Bool). picked t u (ltb j last) i j) (lt-ltb i last h) (eq-eqb (found i).number 0 (sym (ap (λ (g : Finding). g.number) q) ∙ n)))

    module _ (h : last ≤ i) (j : ℕ) (to : j ≡ best form boxes places encoding page marks) where
      pub looked-nowhere : last ≤ j → plainly 11 ≡ looked_for form boxes places encoding page marks
      looked-nowhere l = sym (looked j to ∙ ap₂ (λ (t u : Bool). picked t (eqb (found i).number 0) u i j) (le-ltb i last h) (le-ltb j last l))

      pub best-is : j < last → is_inside form.across form.down form.places boxes places page j ≡ true
      best-is l =
          rw (sym to) at (best-inside form.across form.down form.places boxes places page last last 0 last (suc form.places) (λ z. absurd (omega arith)) (omega (arith, to)))

      pub looked-best : j < last → found j ≡ looked_for form boxes places encoding page marks
      looked-best l = sym (looked j to ∙ ap₂ (λ (t u : Bool). picked t (eqb (found i).number 0) u i j) (le-ltb i last h) (lt-ltb j last l))

  -- ---- With a shift or without

  pub form-still : {t : Bool} → t ≡ has_shift form → t ≡ false → on_page form boxes places encoding page marks ≡ on_form form boxes places encoding page marks
  unfolding on_form
  form-still e z = sym (rw (on_form, sym e ∙ z))

  module _ {t : Bool} (e : t ≡ has_shift form) (z : t ≡ true) {s : Bool} (c : s ≡ can_look_for form boxes places) where
    pub form-cannot : s ≡ false → plainly 11 ≡ on_form form boxes places encoding page marks
    unfolding on_form
    form-cannot y = sym (rw (on_form, sym e ∙ z, sym c ∙ y))

    pub form-looks : s ≡ true → looked_for form boxes places encoding page marks ≡ on_form form boxes places encoding page marks
    unfolding on_form
    form-looks y = sym (rw (on_form, sym e ∙ z, sym c ∙ y))
