-- The squeezed tables, as a computation.
use Prim.Native.Nat.{ℕ}
use Rattle.rules.specs.Bits.{bit, bits_for}
use Rattle.rules.specs.Codes.{codes_of, code_bits}
use Rattle.rules.specs.Lookup.{begins, shared, code_in, longest_shared, lookup}
use Rattle.tables.specs.Pairs.{pair_in}
use Rattle.squeezed.specs.Words.{entry_of, squeezed, pair_of, packed}

-- the entries of the lookups and of the pairs, such that they compute: a test of them is then `refl`
unfoldable pub entries : ℕ → ℕ
unfolding bit bits_for codes_of code_bits begins shared code_in longest_shared lookup entry_of squeezed
entries place = squeezed place

unfoldable pub pairs : ℕ → ℕ
unfolding bit bits_for codes_of code_bits begins shared code_in longest_shared lookup pair_in pair_of
pairs top = pair_of top

-- and their words: each number of the source is held to the rule
unfoldable pub code-word : ℕ → ℕ
unfolding entries packed
code-word i = packed squeezed i

unfoldable pub pair-word : ℕ → ℕ
unfolding pairs packed
pair-word i = packed pair_of i
