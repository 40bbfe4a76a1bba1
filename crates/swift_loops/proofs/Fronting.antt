-- Runs that are taken from the front of some bits, as a line reads them. Assumes nothing.
use mathlib.Core.Path.{◌≡◌, refl, ap, ◌∙◌}
use mathlib.Core.Bool.{cond}
use mathlib.Core.List.{List}
use Prim.Native.Nat.{ℕ, zero, suc, ◌+◌, ◌-◌, ◌/◌, ◌^◌, ◌≤◌, ◌<◌}
use native.Mathlib.Omega.{arith}
use lib.Dec.{eqb}
use lib.ListN.{get_or, drop}
use borrow.Author.Tests.{ne_eqb}
use Rattle.rules.specs.Bits.{bits_of, peek}
use Rattle.rules.specs.Codes.{Colour, opposite}
use Rattle.rules.specs.Lookup.{lookup_table}
use Rattle.rules.proofs.Lookup.{table_at}
use Rattle.tables.specs.Tables.{colour_of, Lookups}
use Rattle.bit_reader.specs.Loaded.{Ahead}
use Rattle.bit_reader.proofs.Window.{ahead-first}
use Rattle.codes.specs.Fronts.{Fronted, FrontRun}
use Rattle.codes.specs.declared.front.Front.{Front}

-- by the table's entry for the first 13 of 26 bits that are there
module _ (colour : Colour) {table : List ℕ} (t : table ≡ lookup_table colour) {bytes : List ℕ} {at live bits : ℕ} (h : Ahead bytes at live bits) (enough : 26 ≤ live) {top : ℕ} where
  pub front-known : top ≡ peek 13 (drop at (bits_of bytes)) → {r : Front} → Fronted table (get_or table top 0) bits r → 0 < r.pixels + r.size → FrontRun colour bytes at r
  front-known k f some =
      f.read colour bytes at live t h enough
      (ap (λ (i : ℕ). get_or table i 0) k ∙ ap (λ (l : List ℕ). get_or l (peek 13 (drop at (bits_of bytes))) 0) t ∙ table_at colour (drop at (bits_of bytes)))
      some

  -- or by the first 13 of the bits themselves
  pub front_reads : top ≡ bits / 2 ^ 51 → {r : Front} → Fronted table (get_or table top 0) bits r → 0 < r.pixels + r.size → FrontRun colour bytes at r
  front_reads k f some = front-known (k ∙ ahead-first h 13 (omega arith)) f some

-- the other colour, by its number
pub turned-number : (c : ℕ) → c ≤ 1 → opposite (colour_of c) ≡ colour_of (1 - c)
turned-number zero h = refl
turned-number (suc zero) h = refl
turned-number (suc (suc c)) h = absurd (omega arith)

-- the table of a colour, and of the other one, by the colour's number
module _ {w b : List ℕ} (l : Lookups w b) where
  pub own-table : (m : ℕ) → cond (eqb m 0) w b ≡ lookup_table (colour_of m)
  own-table zero = l.of_white
  own-table (suc m) = rw (ne_eqb (suc m) 0 (λ e. omega arith)) l.of_black

  pub other-table : (m : ℕ) → cond (eqb m 0) b w ≡ lookup_table (opposite (colour_of m))
  other-table zero = l.of_black
  other-table (suc m) = rw (ne_eqb (suc m) 0 (λ e. omega arith)) l.of_white
