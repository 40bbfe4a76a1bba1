-- No entry is lost: one computed test of each part of the tables.
use mathlib.Core.Path.{◌≡◌, refl, sym, ap, ◌∙◌, subst}
use mathlib.Core.Bool.{Bool, true}
use Prim.Native.Nat.{ℕ, ◌+◌, ◌-◌, ◌*◌, ◌/◌, ◌%◌, ◌≤◌, ◌<◌}
use native.Mathlib.Nat.{zero-add, mod-lt, div-add-mod}
use native.Mathlib.Omega.{arith}
use lib.Dec.{ltb, eqb}
use lib.ListN.{get_or}
use borrow.Author.Tests.{ltb-true, eqb-true}
use Rattle.rules.specs.Codes.{Colour, white, black}
use Rattle.rules.specs.Lookup.{lookup_table}
use Rattle.rules.proofs.Lookup.{tabulate-at}
use Rattle.tables.specs.Pairs.{pair_table}
use Rattle.tables.specs.Tables.{colour_of}
use Rattle.tables.proofs.Colours.{Picks, picked}
use Rattle.tables.proofs.PairTable.{pair-at}
use Rattle.squeezed.specs.Words.{entry_of, squeezed, pair_of}
use Rattle.squeezed.proofs.Tests.{every, every-at}
use Rattle.squeezed.proofs.Quarters.{Fit}
use Rattle.squeezed.proofs.Words.{entries, pairs}

-- ---- What the tables have

pub entry-of : (colour : Colour) (top : ℕ) → top < 8192 → get_or (lookup_table colour) top 0 ≡ entry_of colour top
unfolding lookup_table entry_of
entry-of colour top h = tabulate-at (entry_of colour) 8192 0 top h ∙ ap (entry_of colour) (zero-add top)

pub pair-of : (top : ℕ) → top < 2048 → get_or pair_table top 0 ≡ pair_of top
unfolding pair_of
pair-of top h = pair-at top h

-- ---- All entries have 16 bits

short : (ℕ → ℕ) → ℕ → Bool
short table place = ltb (table place) 65536

entries-short : every (short squeezed) 1120 ≡ true
unfolding every short entries
entries-short = refl

pairs-short : every (short pair_of) 2048 ≡ true
unfolding every short pairs
pairs-short = refl

fits : (table : ℕ → ℕ) (n : ℕ) → every (short table) (4 * n) ≡ true → Fit table n
unfolding short
fits table n e place h = ltb-true (table place) 65536 (every-at (short table) (4 * n) e place h)

pub entries_fit : Fit squeezed 280
entries_fit = fits squeezed 280 entries-short

pub pairs-fit : Fit pair_of 512
pairs-fit = fits pair_of 512 pairs-short

-- ---- No entry is lost

-- all bits that share a place have the same entry: those from wide × i on, `wide` of them
one_entry : Colour → ℕ → ℕ → ℕ → Bool
unfolding entries
one_entry colour wide i entry = every (λ k. eqb entry (entry_of colour (wide * i + k))) wide

-- at the places from `base` on stand the entries of the bits from wide × first on
kept : Colour → ℕ → ℕ → ℕ → ℕ → Bool
unfolding one_entry entries
kept colour wide base first k = one_entry colour wide (first + k) (squeezed (base + (first + k)))

module _ (colour : Colour) (wide base first n : ℕ) (e : every (kept colour wide base first) n ≡ true) where
  found : (top : ℕ) → 0 < wide → first ≤ top / wide → top / wide < first + n → squeezed (base + top / wide) ≡ entry_of colour top
  unfolding kept one_entry
  found top w p q =
      eqb-true here (entry_of colour (wide * i + top % wide))
      (every-at (λ k. eqb here (entry_of colour (wide * i + k))) wide there (top % wide) (mod-lt top w))
      ∙ ap (entry_of colour) (div-add-mod top wide)
    where
      i : ℕ
      i = top / wide

      here : ℕ
      here = squeezed (base + i)

      there : one_entry colour wide i here ≡ true
      there =
          subst (λ (i : ℕ). one_entry colour wide i (squeezed (base + i)) ≡ true) (let z : first + (i - first) ≡ i = omega arith in z)
          (every-at (kept colour wide base first) n e (i - first) (omega arith))

-- white bits by their first 12 where they begin with seven zeros, and else by their first 9
pub few-white : (top : ℕ) → top < 64 → squeezed (512 + top / 2) ≡ entry_of white top
unfolding every kept
few-white top h = found white 2 512 0 32 refl top (omega arith) (omega arith) (omega arith)

pub more-white : (top : ℕ) → 64 ≤ top → top < 8192 → squeezed (top / 16) ≡ entry_of white top
unfolding every kept
more-white top g h = ap squeezed (sym (zero-add (top / 16))) ∙ found white 16 0 4 508 refl top (omega arith) (omega arith) (omega arith)

-- black bits by all 13 where they begin with four zeros, and else by their first 6
pub few-black : (top : ℕ) → top < 512 → squeezed (544 + top) ≡ entry_of black top
unfolding every kept
few-black top h =
    ap squeezed (let q : 544 + top ≡ 544 + top / 1 = omega arith in q)
    ∙ found black 1 544 0 512 refl top (omega arith) (omega arith) (omega arith)

pub more-black : (top : ℕ) → 512 ≤ top → top < 8192 → squeezed (1056 + top / 128) ≡ entry_of black top
unfolding every kept
more-black top g h = found black 128 1056 4 60 refl top (omega arith) (omega arith) (omega arith)

-- what is found in a colour, where its number was tested
pub of-picked : (colour : Colour) (n top : ℕ) → Picks colour n → {entry : ℕ} → entry ≡ entry_of colour top
    → entry ≡ entry_of (colour_of n) top
of-picked colour n top p e = e ∙ ap (λ (c : Colour). entry_of c top) (sym (picked colour n p))
