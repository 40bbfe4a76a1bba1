-- A form as eighty numbers in one array: for each digit from 0 to 9 its tens box, then its units box, each as left, right, top and bottom. As C has it,
-- `uint32_t boxes[10][2][4]`.
use Rattle.std.specs.Prelude.{true, false, List, [], ◌∷◌, ℕ, zero, suc, ◌+◌, ◌*◌, eqb, ℤ, length, get_or}
use Rattle.heads.specs.Form.{page_in, sound, refusal, heads_on}
use Rattle.heads.specs.declared.Box.{Box}
use Rattle.heads.specs.declared.HeadsAnswer.{HeadsAnswer}

-- the box whose four numbers begin at a place
abbrev pub box_in : List ℕ → ℕ → Box
box_in numbers at = record { left = get_or numbers at 0; right = get_or numbers (at + 1) 0; top = get_or numbers (at + 2) 0; bottom = get_or numbers (at + 3) 0 }

-- the two boxes of a digit
abbrev pub boxes_of : List ℕ → ℕ → List Box
boxes_of numbers digit = box_in numbers (8 * digit) ∷ box_in numbers (8 * digit + 4) ∷ []

-- those of n digits from one on
unfoldable pub form_from : List ℕ → ℕ → ℕ → List (List Box)
form_from numbers zero digit = []
form_from numbers (suc n) digit = boxes_of numbers digit ∷ form_from numbers n (suc digit)

abbrev pub form_in : List ℕ → List (List Box)
form_in numbers = form_from numbers 10 0

-- the answer of `heads`; where there are not eighty numbers, they are no form: 11, in its place behind 8
unfoldable pub heads_from : ℕ → List ℕ → List ℕ → List ℕ → List ℕ → ℕ → ℤ → HeadsAnswer
heads_from columns changes ends marks boxes least quota =
    elim (sound columns changes ends marks) [
      | false ↦ refusal 8
      | true ↦ elim (eqb (length boxes) 80) [ false ↦ refusal 11 | true ↦ heads_on (page_in columns changes ends) marks (form_in boxes) least quota ]
    ]
