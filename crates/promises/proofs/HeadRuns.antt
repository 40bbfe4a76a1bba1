-- The black pixels of a row, counted by its black runs, each cut to the box, are those of the pixels. Assumes nothing.
use mathlib.Core.Path.{◌≡◌, refl, sym, ◌∙◌}
use mathlib.Core.Bool.{Bool, true, false, cond}
use mathlib.Core.List.{List, [], ◌∷◌}
use Prim.Native.Nat.{ℕ, zero, suc, ◌+◌, ◌-◌, ◌≤◌, ◌<◌}
use native.Mathlib.Omega.{arith}
use lib.Dec.{ltb}
use lib.ListN.{get_or}
use borrow.Author.Tests.{ltb-true, ltb-false, lt-ltb, le-ltb}
use Rattle.rules.specs.Codes.{Colour, white, black}
use Rattle.rules.specs.Pixels.{colour_at}
use Rattle.rules.specs.Rising.{Rising, none, some}
use Rattle.heads.specs.Form.{sum, ink}
use Rattle.heads.specs.Steps.{within, black_between, black_rows}
use Rattle.promises.specs.Heads.{runs_black, RunsAreCounted}
use Rattle.heads.proofs.Sums.{sum_same, sum-none, sum-each, sum_through}
use Rattle.heads.proofs.Runs.{Cut, cut-within}
use Rattle.heads.proofs.Pixelled.{box_rows}

sum_both : (f g : ℕ → ℕ) (n i : ℕ) → sum (λ x. f x + g x) n i ≡ sum f n i + sum g n i
unfolding sum
sum_both f g zero i = refl
sum_both f g (suc n) i = omega (arith, sum_both f g n (suc i))

-- before its first change a row has its first colour
before-first : (c : Colour) (i : ℕ) {width low : ℕ} {xs : List ℕ} → i < low → Rising width low xs → colour_at c xs i ≡ c
unfolding colour_at
before-first c i h none = refl
before-first c i {xs = x ∷ xs} h (some k l r) = rw (lt-ltb i x (omega arith))

-- a black run, pixel by pixel
between : ℕ → ℕ → ℕ → ℕ
between x y i = cond (ltb i x) 0 (cond (ltb i y) 1 0)

-- the first run, and the others
split-run : (i x y : ℕ) {width : ℕ} {xs : List ℕ} → x < y → Rising width (suc y) xs → ink (colour_at white (x ∷ y ∷ xs) i) ≡ between x y i + ink (colour_at white xs i)
unfolding colour_at between
split-run i x y {xs = xs} h r = by (ltb i x) (ltb-true i x) (ltb i y) (ltb-true i y) (λ l. before-first white i l r)
  where
    by : (s : Bool) → (s ≡ true → i < x) → (t : Bool) → (t ≡ true → i < y) → (i < suc y → colour_at white xs i ≡ white)
        → ink (cond s white (cond t black (colour_at white xs i))) ≡ cond s 0 (cond t 1 0) + ink (colour_at white xs i)
    by true f t g w = let e = f refl in rw (w (omega arith))
    by false f true g w = let e = g refl in rw (w (omega arith))
    by false f false g w = omega arith

-- a run, cut
module _ (left right x y : ℕ) (h : left ≤ right) (k : x < y) where
  abbrev m : ℕ
  m = within left right x

  abbrev n : ℕ
  n = within left right y

  cx : Cut left right x m
  cx = cut-within left right x h

  cy : Cut left right y n
  cy = cut-within left right y h

  in_order : m ≤ n
  in_order = by (ltb n m) (ltb-true n m) (ltb-false n m)
    where
      by : (t : Bool) → (t ≡ true → n < m) → (t ≡ false → m ≤ n) → m ≤ n
      by true f g =
          let e = f refl in
          absurd (omega (arith, cx.before n cy.low e, cy.behind n (omega arith) (omega (arith, cx.high))))
      by false f g = g refl

  cut-run : sum (between x y) (right - left) left ≡ n - m
  unfolding between
  cut-run =
      sum_through (between x y) left m right cx.low cx.high
      ∙ (let one = sum-none (between x y) (m - left) left (λ i p q. rw (lt-ltb i x (cx.before i p (omega (arith, cx.low))))) in
      let rest = sum_through (between x y) m n right in_order cy.high in
      let two = sum-each (between x y) (n - m) m (λ i p q. rw (le-ltb i x (cx.behind i p (omega (arith, in_order, cy.high))), lt-ltb i y (cy.before i (omega (arith, cx.low)) (omega (arith, in_order))))) in
      let three = sum-none (between x y) (right - n) n (λ i p q. rw (le-ltb i x (cx.behind i (omega (arith, in_order)) (omega (arith, cy.high))), le-ltb i y (cy.behind i p (omega (arith, cy.high))))) in
      omega arith)

-- the last run, to the right edge
last-run : (left right x : ℕ) → left ≤ right → sum (λ i. ink (colour_at white (x ∷ []) i)) (right - left) left ≡ right - within left right x
unfolding colour_at
last-run left right x h =
    let c = cut-within left right x h in
    sum_through (λ i. ink (colour_at white (x ∷ []) i)) left (within left right x) right c.low c.high
    ∙ (let one = sum-none (λ i. ink (colour_at white (x ∷ []) i)) (within left right x - left) left (λ i p q. rw (lt-ltb i x (c.before i p (omega (arith, c.low))))) in
    let two = sum-each (λ i. ink (colour_at white (x ∷ []) i)) (right - within left right x) (within left right x) (λ i p q. rw (le-ltb i x (c.behind i p (omega (arith, c.high))))) in
    omega arith)

pub runs-black : (left right : ℕ) → left ≤ right → {width low : ℕ} {row : List ℕ} → Rising width low row → black_between white row left right ≡ runs_black left right row
unfolding black_between runs_black colour_at
runs-black left right h none = sum-none (λ i. ink (colour_at white [] i)) (right - left) left (λ i p q. refl)
runs-black left right h (some {x = x} a b none) = last-run left right x h
runs-black left right h (some {x = x} a b (some {x = y} {xs = xs} k l r)) =
    sum_same (λ i. ink (colour_at white (x ∷ y ∷ xs) i)) (λ i. between x y i + ink (colour_at white xs i)) (right - left) left (λ i p q. split-run i x y k r)
    ∙ sum_both (between x y) (λ i. ink (colour_at white xs i)) (right - left) left
    ∙ (let one = cut-run left right x y h k in
    let rest = runs-black left right h r in
    omega arith)

pub runs-are-counted : RunsAreCounted
unfolding black_rows
runs-are-counted page b rises h =
    sym (box_rows page b h)
    ∙ sum_same (λ y. black_between white (get_or page.rows y []) b.left (within 0 page.columns b.right))
    (λ y. runs_black b.left (within 0 page.columns b.right) (get_or page.rows y [])) (b.bottom - b.top) b.top
    (λ y p q. runs-black b.left (within 0 page.columns b.right) h (rises y))
