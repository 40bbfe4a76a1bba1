-- EOLs: at least eleven zeros, then a one (T.4 4.1.2 and, for the fill before it, 4.1.3; 01 "Codes"; `read_eols` and `skip_to_eol` of codes.rs).
use Rattle.std.specs.Prelude.{◌≡◌, Bool, true, false, cond, List, [], ◌∷◌, ℕ, zero, suc, ◌+◌, ◌≤◌, ltb, length, drop}
use Rattle.std.proofs.Math.Option.{Option, none, some}

-- the zeros before the first one, where there is a one
unfoldable pub zero_run : List Bool → Option ℕ
zero_run [] = none
zero_run (true ∷ bs) = some 0
zero_run (false ∷ bs) = elim (zero_run bs) [ none ↦ none | some z ↦ some (suc z) ]

-- an EOL stands at a bit: its zeros, and their number
pub record EolAt (bs : List Bool) (at : ℕ) : Type 0 where
  pub zeros : ℕ
  pub run : zero_run (drop at bs) ≡ some zeros
  pub many : 11 ≤ zeros

-- The bit after an EOL that begins at a bit. "Zeros without a closing one are no EOL and aren't consumed."
abbrev pub eol_after : ℕ → Option ℕ → Option ℕ
eol_after at none = none
eol_after at (some z) = cond (ltb z 11) none (some (at + suc z))

-- how many EOLs were read, and the bit after them
pub record Eols : Type 0 where
  pub count : ℕ
  pub at : ℕ

abbrev pub eols_to : ℕ → ℕ → Eols
eols_to n a = record { count = n; at = a }

-- the EOLs from a bit on, at most so many
unfoldable pub read_eols : ℕ → List Bool → ℕ → Eols
read_eols zero bs at = eols_to 0 at
read_eols (suc most) bs at =
    elim (eol_after at (zero_run (drop at bs))) [
      | none ↦ eols_to 0 at
      | some a ↦ let later = read_eols most bs a in eols_to (suc later.count) later.at
    ]

-- all of them: there are fewer than bits
abbrev pub all_eols : List Bool → ℕ → Eols
all_eols bs at = read_eols (length bs) bs at

-- The first bit, fill included, of the next EOL: past each one that ends no EOL. There are at most as many such ones as bits.
unfoldable pub skip : ℕ → List Bool → ℕ → Option ℕ
skip zero bs at = none
skip (suc n) bs at =
    elim (zero_run (drop at bs)) [
      | none ↦ none
      | some z ↦ elim (ltb z 11) [ true ↦ skip n bs (at + suc z) | false ↦ some at ]
    ]

abbrev pub skip_to_eol : List Bool → ℕ → Option ℕ
skip_to_eol bs at = skip (length bs) bs at
