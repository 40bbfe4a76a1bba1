-- The rule of a lookup table, as a computation.
use mathlib.Core.List.{List}
use Prim.Native.Nat.{ℕ}
use Rattle.rules.specs.Bits.{bit, bits_for}
use Rattle.rules.specs.Codes.{Colour, codes_of, code_bits}
use Rattle.rules.specs.Lookup.{begins, shared, code_in, longest_shared, lookup, tabulate, lookup_table}

-- the rule's table, such that it computes: each number of the source's table is then held to the rule by `refl`
unfoldable pub computed : Colour → List ℕ
unfolding bit bits_for codes_of code_bits begins shared code_in longest_shared lookup tabulate lookup_table
computed colour = lookup_table colour
