-- The standard's own words on pixels (T.4 4.2.1.1, T.6 2.2.1): a line is a colour for each position, and a0 to b2 are found among its
-- pixels. Lines.antt has the same on lists of changes; that both agree, for rows that ascend strictly below the width, is
-- proved (proofs/Pixels.antt).
use Rattle.std.specs.Prelude.{Bool, true, false, cond, ◌&&◌, List, [], ◌∷◌, ℕ, zero, suc, ◌-◌, ltb}
use Rattle.rules.specs.Codes.{Colour, white, opposite, differ}

-- the colour of each position, from 0 on
abbrev pub Pixels : Type 0
Pixels = ℕ → Colour

-- the pixels of a row of changes: it starts white, and turns at each change
unfoldable pub colour_at : Colour → List ℕ → Pixels
colour_at colour [] i = colour
colour_at colour (x ∷ xs) i = cond (ltb i x) colour (colour_at (opposite colour) xs i)

abbrev pub pixels_of : List ℕ → Pixels
pixels_of row = colour_at white row

-- "An element whose colour is different from that of the previous element along the same line"; before the first stands an imaginary
-- white one.
unfoldable pub changing : Pixels → ℕ → Bool
changing line zero = differ white (line zero)
changing line (suc i) = differ (line i) (line (suc i))

-- the first of n positions from i on that passes a test; `absent` where none does
unfoldable pub first_of : ℕ → (ℕ → Bool) → ℕ → ℕ → ℕ
first_of absent test zero i = absent
first_of absent test (suc n) i = elim (test i) [ true ↦ i | false ↦ first_of absent test n (suc i) ]

-- the first such position from i on; where there is none, "the imaginary element situated just after the last actual element"
abbrev pub first_from : ℕ → (ℕ → Bool) → ℕ → ℕ
first_from width test i = first_of width test (width - i) i

-- a0: "At the start of the coding line a0 is set on an imaginary white changing element situated just before the first element on the line."
pub data A0 : Type 0 where
  imaginary : A0
  on : ℕ → A0

-- "a0 lies before the line while the position is 0, else at the position"
abbrev pub a0_at : ℕ → A0
a0_at zero = imaginary
a0_at (suc p) = on (suc p)

-- where the positions to the right of a0 begin
abbrev pub right_of : A0 → ℕ
right_of imaginary = 0
right_of (on i) = suc i

module _ (width : ℕ) where
  -- "a1: The next changing element to the right of a0 on the coding line."
  unfoldable pub a1_on : Pixels → A0 → ℕ
  a1_on coding a0 = first_from width (changing coding) (right_of a0)

  -- "a2: The next changing element to the right of a1 on the coding line."
  unfoldable pub a2_on : Pixels → A0 → ℕ
  a2_on coding a0 = first_from width (changing coding) (suc (a1_on coding a0))

  -- "b1: The first changing element on the reference line to the right of a0 and of opposite colour to a0."
  unfoldable pub b1_on : Pixels → A0 → Colour → ℕ
  b1_on reference a0 colour = first_from width (λ i. changing reference i && differ colour (reference i)) (right_of a0)

  -- "b2: The next changing element to the right of b1 on the reference line."
  unfoldable pub b2_on : Pixels → A0 → Colour → ℕ
  b2_on reference a0 colour = first_from width (changing reference) (suc (b1_on reference a0 colour))
