-- Where a form lies, and whether it can be moved there. Assumes nothing.
use mathlib.Core.Path.{◌≡◌, refl, sym, ap, ap₂, ◌∙◌}
use mathlib.Core.Bool.{Bool, true, false, not, ◌&&◌}
use mathlib.Core.List.{List}
use Prim.Native.Nat.{ℕ, ◌+◌, ◌*◌, ◌/◌, ◌≤◌, ◌<◌}
use native.Mathlib.Omega.{arith}
use lib.Dec.{leb, eqb, ltb}
use lib.ListN.{length}
use borrow.Author.Tests.{eq-eqb, ne_eqb, le-leb, lt-leb, lt-ltb, le-ltb, leb-true, eqb-true}
use Rattle.row_store.specs.Store.{good_rows}
use Rattle.heads.specs.Form.{Page, page_in}
use Rattle.heads.proofs.Tests.{both, every-at}
use Rattle.form_file.specs.FormFile.{box_at, place_at}
use Rattle.form_file.specs.Heard.{has_shift}
use Rattle.form_file.specs.declared.Form.{Form}
use Rattle.booking.specs.Found.{offsets, box_inside, boxes_inside, places_inside, can_look_for}
use Rattle.booking.specs.Moving.{BoxesMovable, PlacesMovable, Seekable}
use Rattle.booking.specs.Showing.{lies_still, lies_first, lies_best, offset_of, lies_on, lies_at, can_move}
use Rattle.booking.specs.declared.Lies.{Lies}
use Rattle.booking.proofs.Moved.{inside-movable}
use Rattle.booking.proofs.Looking.{can-is}

-- ---- By the offsets

module _ (form : Form) (boxes places : List ℕ) (page : Page) where
  abbrev last : ℕ
  last = offsets form.across form.down

  abbrev picked : Bool → Bool → ℕ → ℕ → Lies
  picked t u i j =
      elim t [ true ↦ offset_of form boxes places page true i | false ↦ elim u [ true ↦ offset_of form boxes places page false j | false ↦ lies_still form ] ]

  module _ (i : ℕ) (is : i ≡ lies_first form boxes places page) where
    lies : (j : ℕ) → j ≡ lies_best form boxes places page → lies_on form boxes places page ≡ picked (ltb i last) (ltb j last) i j
    unfolding lies_on
    lies j to = sym (ap₂ (λ (a b : ℕ). picked (ltb a last) (ltb b last) a b) is to)

    pub lies-first : i < last → offset_of form boxes places page true i ≡ lies_on form boxes places page
    lies-first h = let j = lies_best form boxes places page in sym (lies j refl ∙ ap (λ (t : Bool). picked t (ltb j last) i j) (lt-ltb i last h))

    module _ (h : last ≤ i) (j : ℕ) (to : j ≡ lies_best form boxes places page) where
      pub lies-best : j < last → offset_of form boxes places page false j ≡ lies_on form boxes places page
      lies-best l = sym (lies j to ∙ ap₂ (λ (t u : Bool). picked t u i j) (le-ltb i last h) (lt-ltb j last l))

      pub lies-nowhere : last ≤ j → lies_still form ≡ lies_on form boxes places page
      lies-nowhere l = sym (lies j to ∙ ap₂ (λ (t u : Bool). picked t u i j) (le-ltb i last h) (le-ltb j last l))

-- ---- On a store

module _ (columns : ℕ) (changes ends : List ℕ) (form : Form) (boxes places : List ℕ) {s : Bool} (e : s ≡ (has_shift form && can_look_for form boxes places)) where
  abbrev told : Bool → Bool → Lies
  told t u = elim (t && u) [ false ↦ lies_still form | true ↦ lies_on form boxes places (page_in columns changes ends) ]

  pub at-still : s ≡ false → lies_still form ≡ lies_at columns changes ends form boxes places
  unfolding lies_at
  at-still z = sym (ap (λ (t : Bool). told t (leb (length ends) 4294967295 && good_rows columns changes 0 ends)) (sym e ∙ z))

  module _ (z : s ≡ true) {l : Bool} (o : l ≡ (leb (length ends) 4294967295 && good_rows columns changes 0 ends)) where
    pub at-no-page : l ≡ false → lies_still form ≡ lies_at columns changes ends form boxes places
    unfolding lies_at
    at-no-page y = sym (ap₂ told (sym e ∙ z) (sym o ∙ y))

    pub at-page : l ≡ true → lies_on form boxes places (page_in columns changes ends) ≡ lies_at columns changes ends form boxes places
    unfolding lies_at
    at-page y = sym (ap₂ told (sym e ∙ z) (sym o ∙ y))

    pub at-short : l ≡ true → length ends ≤ 4294967295
    at-short y = leb-true (length ends) 4294967295 (both _ _ (sym o ∙ y)).0

    pub at-seekable : l ≡ true → Seekable columns (length ends) form.across form.places changes ends boxes places × (form.down ≤ 1000)
    at-seekable y =
        let c = can-is form boxes places (both (has_shift form) _ (sym e ∙ z)).1 in (
          record {
            good = (both (leb (length ends) 4294967295) _ (sym o ∙ y)).1;
            rows_are = refl;
            near = c.aside;
            boxed = c.boxed;
            placed = c.placed;
            few = c.few;
          },
          c.away,
        )

-- ---- Whether it can be moved

module _ (form : Form) (rows u v : ℕ) (boxes places : List ℕ) (room room' : ℕ) where
  abbrev boxed : Bool
  boxed = boxes_inside form.across form.down u v form.columns rows boxes

  abbrev placed : Bool
  placed = places_inside form.across form.down u v form.columns rows form.places places

  pub moves-boxes : (length boxes ≡ 80 → ⊥) → false ≡ can_move form rows u v boxes places room room'
  unfolding can_move
  moves-boxes h = sym (rw (can_move, ne_eqb (length boxes) 80 h))

  module _ (b : length boxes ≡ 80) where
    pub moves-places : length places / 7 < form.places → false ≡ can_move form rows u v boxes places room room'
    unfolding can_move
    moves-places h = sym (rw (can_move, eq-eqb (length boxes) 80 b, lt-leb form.places (length places / 7) h))

    module _ (p : form.places ≤ length places / 7) where
      pub moves-room : room < 80 → false ≡ can_move form rows u v boxes places room room'
      unfolding can_move
      moves-room h = sym (rw (can_move, eq-eqb (length boxes) 80 b, le-leb form.places (length places / 7) p, lt-leb 80 room h))

      module _ (r : 80 ≤ room) where
        pub moves-room' : room' / 7 < form.places → false ≡ can_move form rows u v boxes places room room'
        unfolding can_move
        moves-room' h = sym (rw (can_move, eq-eqb (length boxes) 80 b, le-leb form.places (length places / 7) p, le-leb 80 room r, lt-leb form.places (room' / 7) h))

        module _ (q : form.places ≤ room' / 7) where
          rest : can_move form rows u v boxes places room room' ≡ (boxed && placed)
          unfolding can_move
          rest = rw (can_move, eq-eqb (length boxes) 80 b, le-leb form.places (length places / 7) p, le-leb 80 room r, le-leb form.places (room' / 7) q)

          pub moves-outside : {t : Bool} → t ≡ boxed → t ≡ false → false ≡ can_move form rows u v boxes places room room'
          moves-outside e z = sym (rest ∙ ap (λ (x : Bool). x && placed) (sym e ∙ z))

          pub moves-inside : {t w : Bool} → t ≡ boxed → t ≡ true → w ≡ placed → w ≡ can_move form rows u v boxes places room room'
          moves-inside e z f = f ∙ sym (rest ∙ ap (λ (x : Bool). x && placed) (sym e ∙ z))

  -- what that tells
  pub record Can : Type 0 where
    pub boxes-go : BoxesMovable form.across form.down u v boxes
    pub places-go : PlacesMovable form.across form.down u v form.places places
    pub roomy : 80 ≤ room
    pub roomy' : 7 * form.places ≤ room'

  pub can-move : form.columns ≤ 4294967295 → rows ≤ 4294967295 → can_move form rows u v boxes places room room' ≡ true → Can
  unfolding can_move
  can-move w l e =
      let p = both _ (boxed && placed) e in
      let q = both (eqb (length boxes) 80 && leb form.places (length places / 7)) _ p.0 in
      let x = both _ _ q.0 in
      let y = both _ _ q.1 in
      let i = both boxed placed p.1 in
      let m = leb-true form.places (length places / 7) x.1 in
      let n = leb-true form.places (room' / 7) y.1 in
      record {
        boxes-go = record {
          long = eqb-true (length boxes) 80 x.0;
          each = λ k h. inside-movable form.across form.down u v form.columns rows (box_at boxes k) w l
              (every-at (λ j. box_inside form.across form.down u v form.columns rows (box_at boxes j)) 20 0 i.0 k (omega arith) (omega arith));
        };
        places-go = record {
          long = omega arith;
          each = λ k h. inside-movable form.across form.down u v form.columns rows (place_at places k) w l
              (every-at (λ j. box_inside form.across form.down u v form.columns rows (place_at places j)) form.places 0 i.1 k (omega arith) (omega arith));
        };
        roomy = leb-true 80 room y.0;
        roomy' = omega arith;
      }
