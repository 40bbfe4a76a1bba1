-- The entries of the pair table: which runs one stands for. Assumes nothing.
use mathlib.Core.Path.{◌≡◌, refl, ap, ◌∙◌}
use mathlib.Core.Bool.{Bool, true, false, cond, ◌&&◌}
use mathlib.Core.List.{List}
use Prim.Native.Nat.{ℕ, ◌+◌, ◌*◌, ◌<◌}
use native.Mathlib.Nat.{zero-add}
use lib.Dec.{ltb}
use lib.ListN.{get_or, drop}
use borrow.Author.Tests.{ltb-true}
use Rattle.rules.specs.Bits.{bit, bits_for}
use Rattle.rules.specs.Codes.{white, black, codes_of, code_bits}
use Rattle.rules.specs.Lookup.{Entry, valid, invalid, begins, shared, code_in, longest_shared, lookup, tabulate}
use Rattle.rules.proofs.Bits.{both_true}
use Rattle.rules.proofs.Lookup.{tabulate-at}
use Rattle.tables.specs.Pairs.{is_short, with_white, with_black, pair_in, pair_table}

-- the table, such that it computes, as `computed` of Entries.antt
unfoldable pub computed-pairs : List ℕ
unfolding bit bits_for codes_of code_bits begins shared code_in longest_shared lookup tabulate pair_in pair_table
computed-pairs = pair_table

pub pair-at : (i : ℕ) → i < 2048 → get_or pair_table i 0 ≡ pair_in (bits_for 11 i)
unfolding pair_table
pair-at i h = tabulate-at (λ (i : ℕ). pair_in (bits_for 11 i)) 2048 0 i h ∙ ap (λ (i : ℕ). pair_in (bits_for 11 i)) (zero-add i)

pub record PairEntry (bs : List Bool) (n : ℕ) : Type 0 where
  pub run : ℕ
  pub size : ℕ
  pub run' : ℕ
  pub size' : ℕ
  pub first : lookup black bs ≡ valid run size
  pub second : lookup white (drop size bs) ≡ valid run' size'
  pub some-black : 0 < run
  pub few-black : run < 64
  pub some-white : 0 < run'
  pub few-white : run' < 64
  pub number : n ≡ run + 64 * run' + 4096 * (size + size')

pub pair-entry : (bs : List Bool) → (pair_in bs ≡ 0 → ⊥) → PairEntry bs (pair_in bs)
unfolding pair_in
pair-entry bs some = blacks (lookup black bs) refl some
  where
    tests : (run size run' size' : ℕ) → lookup black bs ≡ valid run size → lookup white (drop size bs) ≡ valid run' size'
        → (b : Bool) → (is_short run && is_short run') ≡ b → (cond b (run + 64 * run' + 4096 * (size + size')) 0 ≡ 0 → ⊥) → PairEntry bs (cond b (run + 64 * run' + 4096 * (size + size')) 0)
    tests run size run' size' p q false e n = absurd (n refl)
    tests run size run' size' p q true e n =
        let (s, t) = both_true (is_short run) (is_short run') e in
        let (s0, s1) = both_true (ltb 0 run) (ltb run 64) s in
        let (t0, t1) = both_true (ltb 0 run') (ltb run' 64) t in
        record {
          run = run;
          size = size;
          run' = run';
          size' = size';
          first = p;
          second = q;
          some-black = ltb-true 0 run s0;
          few-black = ltb-true run 64 s1;
          some-white = ltb-true 0 run' t0;
          few-white = ltb-true run' 64 t1;
          number = refl;
        }

    whites : (run size : ℕ) → lookup black bs ≡ valid run size → (o : Entry) → lookup white (drop size bs) ≡ o → (with_white run size o ≡ 0 → ⊥) → PairEntry bs (with_white run size o)
    whites run size p (invalid size') q n = absurd (n refl)
    whites run size p (valid run' size') q n = tests run size run' size' p q (is_short run && is_short run') refl n

    blacks : (o : Entry) → lookup black bs ≡ o → (with_black bs o ≡ 0 → ⊥) → PairEntry bs (with_black bs o)
    blacks (invalid size) p n = absurd (n refl)
    blacks (valid run size) p n = whites run size p (lookup white (drop size bs)) refl n
