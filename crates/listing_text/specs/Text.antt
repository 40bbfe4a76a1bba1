-- Text as bytes: words, and numbers "decimal without leading zeros" (01 "Sheets on the wall").
use Rattle.std.specs.Prelude.{true, false, List, [], ◌∷◌, ◌++◌, ℕ, zero, suc, ◌+◌, ◌/◌, ◌%◌, ltb}
use Prim.Native.Char.{code}
use Prim.Native.String.{String, [] as none, ◌∷◌ as ◌then◌}

-- the bytes of a quoted word
unfoldable pub ascii : String → List ℕ
ascii none = []
ascii (c then cs) = code c ∷ ascii cs

abbrev pub tab : ℕ
tab = 9

abbrev pub newline : ℕ
newline = 10

-- the byte of a digit; that of `0` is 48
abbrev pub digit : ℕ → ℕ
digit d = 48 + d

-- a number in at most k digits: the last is its remainder by 10
unfoldable pub digits : ℕ → ℕ → List ℕ
digits zero n = []
digits (suc k) n = elim (ltb n 10) [ true ↦ digit n ∷ [] | false ↦ digits k (n / 10) ++ digit (n % 10) ∷ [] ]

-- a number n has no more than n + 1 digits
unfoldable pub decimal : ℕ → List ℕ
decimal n = digits (suc n) n
