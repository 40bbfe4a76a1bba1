-- A page that is being put, row by row, by any writer of pages: what holds between two rows, and what a row does. Assumes nothing.
use mathlib.Core.Path.{◌≡◌, refl, ap, ◌∙◌}
use mathlib.Core.Bool.{Bool, true, false}
use mathlib.Core.List.{List, [], ◌++◌}
use Prim.Native.Nat.{ℕ, ◌+◌, ◌*◌, ◌^◌, ◌≤◌, ◌<◌}
use native.Mathlib.Omega.{arith}
use lib.Dec.{leb}
use lib.ListN.{length, get_or, length-append}
use borrow.Author.Tests.{leb-true, leb-false}
use Rattle.rules.specs.Bits.{bits_of}
use Rattle.rules.specs.Write.{to_byte, written_at}
use Rattle.writer.specs.Putting.{inked, Cleared, Room, Puts}
use Rattle.writer.specs.Paging.{Sheet, Pages}
use Rattle.writer.proofs.Owing.{Owes, owes-all, owes-put, puts-zeros}
use Rattle.writer.proofs.AtRows.{AtRow, first-row, next_row}

-- the rows from the k-th on are left, under the row from `from` to `base`, and `todo` is what is left of the page's bits
pub record Between (write : Bool) (width : ℕ) (changes ends start : List ℕ) (all : List Bool) (next from base k : ℕ) (todo : List Bool) (out : List ℕ) : Type 0 where
  pub rows : AtRow width changes ends from base k
  pub inside : next ≤ 8 * length start
  pub owes : Owes write next todo out 0 all start
  pub zeros : Cleared write next out

-- at the first bit of the output there is no byte to fill
zeros-first : (write : Bool) (bs : List Bool) → inked write 0 [] bs ≡ bs
unfolding inked written_at to_byte
zeros-first true bs = refl
zeros-first false bs = refl

-- before the first, under a white row
pub before-rows : {write : Bool} {width : ℕ} {changes ends : List ℕ} {all : List Bool} {bytes : ℕ} (out : List ℕ) → Sheet write width changes ends all bytes
    → Between write width changes ends out all 0 0 0 0 all out
before-rows {write} {all = all} out s = record {
  rows = first-row s.good;
  inside = omega arith;
  owes = owes-all write 0 all out;
  zeros = zeros-first write (bits_of out);
}

module _ {write : Bool} {width : ℕ} {changes ends start : List ℕ} {all : List Bool} {next from base k : ℕ} {todo : List Bool} {out : List ℕ}
    (g : Between write width changes ends start all next from base k todo out) (s : Sheet write width changes ends all (length start)) where
  -- ---- A row

  module _ (h : k < length ends) where
    -- where its bits come first of what is left,
    module _ (this others : List Bool) (e : todo ≡ this ++ others) where
      -- they can be put,
      pub row_fits : length this < 2 ^ 40 → Room write next (length this) (length out)
      row_fits few = record {
        countable = omega (arith, g.inside, s.small);
        inside = λ w. omega (arith, s.inside w, g.owes.count, g.owes.size, ap length e ∙ length-append this others);
      }

      module _ {r : ℕ} {out' : List ℕ} (p : Puts write next this out r out') where
        -- and then the page does not fit,
        pub too_long : 8 * length out' < r → Pages write all start r out'
        too_long l = record {
          fits = λ i. absurd (omega (arith, p.size, g.owes.size));
          over = λ _. omega (arith, p.next, p.size, g.owes.size, g.owes.count, ap length e ∙ length-append this others);
          size = p.size ∙ g.owes.size;
          kept = λ w. p.kept w ∙ g.owes.kept w;
        }

        -- or the others are left
        pub row-behind : r ≤ 8 * length out' → Between write width changes ends start all r base (get_or ends k 0) (k + 1) others out'
        row-behind l = record {
          rows = next_row g.rows h;
          inside = omega (arith, p.size, g.owes.size);
          owes = owes-put g.owes this others e (λ w. omega (arith, s.inside w)) p;
          zeros = puts-zeros (λ w. omega (arith, s.inside w, g.owes.count, g.owes.size, ap length e ∙ length-append this others)) p;
        }

-- ---- The end

-- once all is put, the page is
pub page-is : {write : Bool} {all : List Bool} {start : List ℕ} {r : ℕ} {out' : List ℕ} → Puts write 0 all start r out' → Pages write all start r out'
page-is p = record { fits = λ _. p; over = λ l. omega (arith, p.next); size = p.size; kept = p.kept }

-- a page that fits is put
pub page-put : {xs : List Bool} {out : List ℕ} {r : ℕ} {out' : List ℕ} → Pages true xs out r out' → length xs ≤ 8 * length out → Puts true 0 xs out r out'
page-put {xs} {out} {r} {out'} p h = tests (leb r (8 * length out)) (leb-true r (8 * length out)) (leb-false r (8 * length out))
  where
    tests : (b : Bool) → (b ≡ true → r ≤ 8 * length out) → (b ≡ false → 8 * length out < r) → Puts true 0 xs out r out'
    tests true f g = p.fits (f refl)
    tests false f g = absurd (omega (arith, p.over (g refl)))
