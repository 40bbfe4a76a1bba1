-- The tests of marks, row by row, and which rows a box touches. Assumes nothing.
use mathlib.Core.Path.{◌≡◌, refl, sym, ◌∙◌}
use mathlib.Core.Bool.{Bool, true, false, not, ◌&&◌, ◌||◌}
use mathlib.Core.List.{List, []}
use Prim.Native.Nat.{ℕ, suc, ◌+◌, ◌-◌, ◌≤◌, ◌<◌}
use native.Mathlib.Omega.{arith}
use lib.Dec.{leb, ltb, eqb}
use lib.ListN.{length, get_or, take, drop}
use lib.Seq.{length-take-le, get_or-take}
use borrow.Author.Tests.{leb-true, ltb-true, ltb-false, le-leb, lt-leb, lt-ltb, eq-eqb, ne_eqb}
use Rattle.heads.specs.Form.{every, all, marked, touches, clean_under, clean}
use Rattle.heads.specs.Steps.{clean_rows}
use Rattle.heads.specs.declared.Box.{Box}
use Rattle.heads.proofs.Tests.{same_truth, all_past, all_here, all-all, every-at, every-all}
use Rattle.heads.proofs.Twos.{no_box}

-- ---- A mark for each row

module _ (rows : ℕ) (marks : List ℕ) where
  abbrev test : ℕ → Bool
  test m = leb m 2

  abbrev kept : List ℕ
  kept = take rows marks

  pub marked-few : length marks < rows → false ≡ marked rows marks
  unfolding marked
  marked-few h = sym (rw (lt-leb rows (length marks) h))

  module _ (enough : rows ≤ length marks) where
    pub marked_all : (b : Bool) → b ≡ all test kept → b ≡ marked rows marks
    unfolding marked
    marked_all b e = rw (le-leb rows (length marks) enough) e

    module _ (k : ℕ) where
      pub marks-past : rows ≤ k → true ≡ all test (drop k kept)
      marks-past h = all_past test kept k (omega (arith, length-take-le rows marks enough))

      module _ (h : k < rows) where
        here : all test (drop k kept) ≡ (leb (get_or marks k 0) 2 && all test (drop (k + 1) kept))
        here = all_here test kept k 0 (omega (arith, length-take-le rows marks enough)) ∙ rw (get_or-take rows marks k 0 h)

        pub marks-bad : 2 < get_or marks k 0 → false ≡ all test (drop k kept)
        marks-bad e = sym (here ∙ rw (lt-leb (get_or marks k 0) 2 e))

        pub marks-next : get_or marks k 0 ≤ 2 → all test (drop (k + 1) kept) ≡ all test (drop k kept)
        marks-next e = sym (here ∙ rw (le-leb (get_or marks k 0) 2 e))

-- ---- The rows under a box

module _ (rows : ℕ) (marks : List ℕ) where
  abbrev pub under : ℕ → Bool
  under y = leb rows y || eqb (get_or marks y 0) 0

  -- below the page nothing is left to test
  pub under-below : (n y : ℕ) → rows ≤ y → true ≡ every under n y
  under-below n y h = sym (every-all under n y (λ x p q. rw (le-leb rows x (omega arith))))

  module _ (y last : ℕ) where
    pub under-past : last ≤ y → true ≡ every under (last - y) y
    unfolding every
    under-past h = let e : last - y ≡ 0 = omega arith in rw e

    module _ (h : y < last) (k : y < rows) where
      first : every under (last - y) y ≡ (under y && every under (last - (y + 1)) (y + 1))
      unfolding every
      first =
          let e : last - y ≡ suc (last - (y + 1)) = omega arith in
          let g : y + 1 ≡ suc y = omega arith in
          rw (e, g)

      pub under-bad : (get_or marks y 0 ≡ 0 → ⊥) → false ≡ every under (last - y) y
      under-bad e = sym (first ∙ rw (lt-leb rows y k, ne_eqb (get_or marks y 0) 0 e))

      pub under_next : get_or marks y 0 ≡ 0 → every under (last - (y + 1)) (y + 1) ≡ every under (last - y) y
      under_next e = sym (first ∙ rw (lt-leb rows y k, eq-eqb (get_or marks y 0) 0 e))

-- ---- The rows that a box touches

module _ (columns rows : ℕ) (marks : List ℕ) (b : Box) where
  abbrev tested : ℕ → Bool
  tested y = not (touches columns b y) || eqb (get_or marks y 0) 0

  -- a box without a pixel on the page touches none
  pub under_none : (ltb b.left b.right && ltb b.left columns) ≡ false → true ≡ clean_under columns rows marks b
  unfolding clean_under
  under_none e = sym (every-all tested rows 0 (λ x p q. rw e (none (leb b.top x && ltb x b.bottom) (eqb (get_or marks x 0) 0))))
    where
      none : (s t : Bool) → (not (s && false) || t) ≡ true
      none true t = refl
      none false t = refl

  -- any other touches those between its top and its bottom
  pub under_some : b.left < b.right → b.left < columns → clean_rows rows marks b.top b.bottom ≡ clean_under columns rows marks b
  unfolding clean_rows clean_under
  under_some h k =
      same_truth (every (under rows marks) (b.bottom - b.top) b.top) (every tested rows 0)
      (λ e. every-all tested rows 0 (λ x p q. rw (lt-ltb b.left b.right h, lt-ltb b.left columns k)
      (into x (omega arith) (leb b.top x) (leb-true b.top x) (ltb x b.bottom) (ltb-true x b.bottom) (λ l m. every-at (under rows marks) (b.bottom - b.top) b.top e x l (omega arith)))))
      (λ e. every-all (under rows marks) (b.bottom - b.top) b.top (λ x p q. out x p (omega arith) (ltb x rows) (ltb-true x rows) (ltb-false x rows) (λ m. every-at tested rows 0 e x (omega arith) (omega arith))))
    where
      into : (x : ℕ) → x < rows → (s : Bool) → (s ≡ true → b.top ≤ x) → (t : Bool) → (t ≡ true → x < b.bottom)
          → (b.top ≤ x → x < b.bottom → under rows marks x ≡ true) → (not ((s && t) && (true && true)) || eqb (get_or marks x 0) 0) ≡ true
      into x l true f true g r = rw (lt-leb rows x l) at (r (f refl) (g refl))
      into x l true f false g r = refl
      into x l false f t g r = refl

      out : (x : ℕ) → b.top ≤ x → x < b.bottom → (t : Bool) → (t ≡ true → x < rows) → (t ≡ false → rows ≤ x)
          → (x < rows → tested x ≡ true) → under rows marks x ≡ true
      out x l m true f g r =
          rw (lt-leb rows x (f refl))
          (rw (le-leb b.top x l, lt-ltb x b.bottom m, lt-ltb b.left b.right h, lt-ltb b.left columns k) at (r (f refl)))
      out x l m false f g r = rw (le-leb rows x (g refl))

-- ---- Marks that pass

pub all-marked : (rows : ℕ) (marks : List ℕ) → rows ≤ length marks → ((n : ℕ) → n < rows → get_or marks n 0 ≤ 2) → marked rows marks ≡ true
unfolding marked
all-marked rows marks h f =
    rw (le-leb rows (length marks) h)
    (all-all (λ m. leb m 2) (take rows marks) 0
    (λ i k. let l : i < rows = omega (arith, length-take-le rows marks h) in rw (get_or-take rows marks i 0 l) (le-leb (get_or marks i 0) 2 (f i l))))

-- a page of clean rows passes 13 with any form
pub all-clean : (columns rows : ℕ) (marks : List ℕ) (form : List (List Box)) → ((n : ℕ) → n < rows → get_or marks n 0 ≡ 0) → clean columns rows marks form ≡ true
unfolding clean clean_under
all-clean columns rows marks form f =
    all-all (all (clean_under columns rows marks)) form [] (λ i h. all-all (clean_under columns rows marks) (get_or form i []) no_box (λ j k.
    every-all (tested columns rows marks (get_or (get_or form i []) j no_box)) rows 0
    (λ y p q. rw (eq-eqb (get_or marks y 0) 0 (f y (omega arith))) (either (not (touches columns (get_or (get_or form i []) j no_box) y))))))
  where
    either : (b : Bool) → (b || true) ≡ true
    either true = refl
    either false = refl
