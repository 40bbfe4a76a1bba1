-- Rows that are not clean: by their marks, under a box, and the first of them. Assumes nothing.
use mathlib.Core.Path.{◌≡◌, refl, sym, ◌∙◌}
use mathlib.Core.Bool.{Bool, true, false, ◌&&◌, ◌||◌, true≢false}
use mathlib.Core.List.{List}
use Prim.Native.Nat.{ℕ, ◌-◌, ◌≤◌, ◌<◌}
use native.Mathlib.Omega.{arith}
use lib.Dec.{leb, ltb, eqb}
use lib.ListN.{length, get_or, get_or-eq_default}
use borrow.Author.Tests.{ltb-true, ltb-false, leb-true, leb-false, le-leb, lt-ltb, le-ltb, eq-eqb, ne_eqb, not-false}
use Rattle.heads.specs.Form.{every, clean_under}
use Rattle.heads.specs.Steps.{clean_rows}
use Rattle.heads.specs.declared.Box.{Box}
use Rattle.heads.proofs.Tests.{same_truth, every-at, every-all}
use Rattle.heads.proofs.Marks.{under, under_none, under_some}
use Rattle.form_file.specs.First.{first_of}
use Rattle.booking.specs.Testing.{unclean_at, unclean_above}
use Rattle.form_file.proofs.Firsts.{first-low, first_passes}
use Rattle.booking.proofs.Firsts.{first_past, first-behind, first_some}

module _ (marks : List ℕ) where
  -- ---- By its mark

  pub unclean-mark : (y : ℕ) → (get_or marks y 0 ≡ 0 → ⊥) → unclean_at marks y ≡ true
  unclean-mark y h = rw (ne_eqb (get_or marks y 0) 0 h)

  pub clean-mark : (y : ℕ) → get_or marks y 0 ≡ 0 → unclean_at marks y ≡ false
  clean-mark y h = rw (eq-eqb (get_or marks y 0) 0 h)

  -- a row past the marks is clean
  pub unclean-marked : (y : ℕ) → unclean_at marks y ≡ true → y < length marks
  unclean-marked y e = by (ltb y (length marks)) (ltb-true y (length marks)) (ltb-false y (length marks))
    where
      by : (t : Bool) → (t ≡ true → y < length marks) → (t ≡ false → length marks ≤ y) → y < length marks
      by true f g = f refl
      by false f g = absurd (true≢false (sym e ∙ clean-mark y (get_or-eq_default marks 0 (g refl))))

  -- ---- From a top to a bottom

  module _ (top bottom : ℕ) where
    abbrev first : ℕ
    first = first_of (unclean_at marks) (bottom - top) top

    -- each is clean where the first that is not lies behind them
    pub rows-clean : leb bottom first ≡ clean_rows (length marks) marks top bottom
    unfolding clean_rows
    rows-clean =
        same_truth (leb bottom first) (every (under (length marks) marks) (bottom - top) top)
        (λ e. every-all (under (length marks) marks) (bottom - top) top (λ x h k.
        into x (unclean_at marks x) refl (leb-true bottom first e) (first_some (unclean_at marks) (bottom - top) top x h k) (omega arith)))
        (λ e. le-leb bottom first (let p = first-behind (unclean_at marks) (bottom - top) top (λ x h k.
        out x (leb (length marks) x) (leb-true (length marks) x) (eqb (get_or marks x 0) 0) refl (every-at (under (length marks) marks) (bottom - top) top e x h k)) in omega arith))
      where
        either : (s t : Bool) → t ≡ true → (s || t) ≡ true
        either true t e = refl
        either false t e = e

        into : (x : ℕ) → (t : Bool) → unclean_at marks x ≡ t → bottom ≤ first → (unclean_at marks x ≡ true → first ≤ x) → x < bottom → under (length marks) marks x ≡ true
        into x true p l r h = absurd (let q = r p in omega arith)
        into x false p l r h = either (leb (length marks) x) (eqb (get_or marks x 0) 0) (not-false (eqb (get_or marks x 0) 0) p)

        out : (x : ℕ) → (s : Bool) → (s ≡ true → length marks ≤ x) → (t : Bool) → eqb (get_or marks x 0) 0 ≡ t → (s || t) ≡ true → unclean_at marks x ≡ false
        out x true f t p e = clean-mark x (get_or-eq_default marks 0 (f refl))
        out x false f true p e = rw p
        out x false f false p e = absurd (true≢false (sym e))

  -- ---- Above a row

  module _ (low : ℕ) where
    pub above-unclean : (y : ℕ) → y < low → (get_or marks y 0 ≡ 0 → ⊥) → unclean_above marks low y ≡ true
    above-unclean y h e = rw (lt-ltb y low h, ne_eqb (get_or marks y 0) 0 e)

    pub above_clean : (y : ℕ) → get_or marks y 0 ≡ 0 → unclean_above marks low y ≡ false
    above_clean y e = rw (eq-eqb (get_or marks y 0) 0 e) (neither (ltb y low))
      where
        neither : (t : Bool) → (t && false) ≡ false
        neither true = refl
        neither false = refl

    -- from there on there is none
    pub above-none : (y : ℕ) → low ≤ y → y ≤ length marks → length marks ≡ first_of (unclean_above marks low) (length marks - y) y
    above-none y h k =
        let p = first-behind (unclean_above marks low) (length marks - y) y (λ x l m. rw (le-ltb x low (omega arith))) in
        omega arith

    pub above-past : (y : ℕ) → length marks ≤ y → y ≤ length marks → length marks ≡ first_of (unclean_above marks low) (length marks - y) y
    above-past y h k = let p = first_past (unclean_above marks low) y (length marks) h in omega arith

  -- ---- Under a box

  module _ (columns : ℕ) (b : Box) where
    abbrev first_in : ℕ
    first_in = first_of (unclean_at marks) (b.bottom - b.top) b.top

    pub under_first : b.left < b.right → b.left < columns → leb b.bottom first_in ≡ clean_under columns (length marks) marks b
    under_first h k = rows-clean b.top b.bottom ∙ under_some columns (length marks) marks b h k

    -- where it is not clean, there is such a row, on the page
    pub under-unclean : clean_under columns (length marks) marks b ≡ false → first_in < length marks
    under-unclean e =
        by (ltb b.left b.right) refl (ltb b.left columns) refl
      where
        on-page : leb b.bottom first_in ≡ false → first_in < length marks
        on-page f =
            unclean-marked first_in (first_passes (unclean_at marks) (b.bottom - b.top) b.top
            (let l = leb-false b.bottom first_in f in let m = first-low (unclean_at marks) (b.bottom - b.top) b.top in omega arith))

        by : (s : Bool) → ltb b.left b.right ≡ s → (t : Bool) → ltb b.left columns ≡ t → first_in < length marks
        by true p true q = on-page (under_first (ltb-true b.left b.right p) (ltb-true b.left columns q) ∙ e)
        by true p false q = absurd (true≢false (under_none columns (length marks) marks b (rw (p, q)) ∙ e))
        by false p t q = absurd (true≢false (under_none columns (length marks) marks b (rw p) ∙ e))
