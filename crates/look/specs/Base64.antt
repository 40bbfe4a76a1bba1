-- Bytes as letters, digits, `+` and `/`: base 64 (RFC 4648, 4). Three bytes are four digits of six bits; what is missing of the last three is `=`.
use Rattle.std.specs.Prelude.{◌≡◌, true, false, List, [], ◌∷◌, ℕ, ◌+◌, ◌-◌, ◌*◌, ◌/◌, ◌%◌, eqb, ltb, leb, length}
use Rattle.listing_text.specs.Listed.{Prints}

-- the byte of a digit below 64 (table 1)
unfoldable pub letter : ℕ → ℕ
letter d =
    elim (ltb d 26) [
      | true ↦ 65 + d
      | false ↦ elim (ltb d 52) [ true ↦ 71 + d | false ↦ elim (ltb d 62) [ true ↦ d - 4 | false ↦ elim (eqb d 62) [ true ↦ 43 | false ↦ 47 ] ] ]
    ]

abbrev pub pad : ℕ
pad = 61

-- the digits of a byte that stands first of three, of the second behind the first, of the third behind the second, and of the third
abbrev pub digit1 : ℕ → ℕ
digit1 a = a / 4

abbrev pub digit2 : ℕ → ℕ → ℕ
digit2 a b = a % 4 * 16 + b / 16

abbrev pub digit3 : ℕ → ℕ → ℕ
digit3 b c = b % 16 * 4 + c / 64

abbrev pub digit4 : ℕ → ℕ
digit4 c = c % 64

unfoldable pub base64 : List ℕ → List ℕ
base64 [] = []
base64 (a ∷ []) = letter (digit1 a) ∷ letter (digit2 a 0) ∷ pad ∷ pad ∷ []
base64 (a ∷ b ∷ []) = letter (digit1 a) ∷ letter (digit2 a b) ∷ letter (digit3 b 0) ∷ pad ∷ []
base64 (a ∷ b ∷ c ∷ more) = letter (digit1 a) ∷ letter (digit2 a b) ∷ letter (digit3 b c) ∷ letter (digit4 c) ∷ base64 more

-- text that fits is written, and its length told; else nothing is, and 0
abbrev pub Encodes : List ℕ → List ℕ → ℕ → List ℕ → Type 0
Encodes bytes before r after =
    elim (leb ((length bytes + 2) / 3 * 4) (length before)) [ true ↦ Prints before (base64 bytes) r after | false ↦ (r ≡ 0) × (after ≡ before) ]

-- ---- As it is read

-- the digit of a byte
unfoldable pub value_of : ℕ → ℕ
value_of c =
    elim (leb 97 c) [
      | true ↦ c - 71
      | false ↦ elim (leb 65 c) [ true ↦ c - 65 | false ↦ elim (leb 48 c) [ true ↦ c + 4 | false ↦ elim (eqb c 43) [ true ↦ 62 | false ↦ 63 ] ] ]
    ]

abbrev pub byte1 : ℕ → ℕ → ℕ
byte1 p q = p * 4 + q / 16

abbrev pub byte2 : ℕ → ℕ → ℕ
byte2 q r = q % 16 * 16 + r / 4

abbrev pub byte3 : ℕ → ℕ → ℕ
byte3 r s = r % 4 * 64 + s

-- four digits are three bytes, or two, or one, by the `=` among them
unfoldable pub bytes_of : List ℕ → List ℕ
bytes_of (w ∷ x ∷ y ∷ z ∷ more) =
    elim (eqb y pad) [
      | true ↦ byte1 (value_of w) (value_of x) ∷ []
      | false ↦
          elim (eqb z pad) [
            | true ↦ byte1 (value_of w) (value_of x) ∷ byte2 (value_of x) (value_of y) ∷ []
            | false ↦ byte1 (value_of w) (value_of x) ∷ byte2 (value_of x) (value_of y) ∷ byte3 (value_of y) (value_of z) ∷ bytes_of more
          ]
    ]
bytes_of (w ∷ x ∷ y ∷ []) = []
bytes_of (w ∷ x ∷ []) = []
bytes_of (w ∷ []) = []
bytes_of [] = []
