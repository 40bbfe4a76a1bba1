-- A contract whose every answer is one value permits one answer. Assumes nothing.
use mathlib.Core.Path.{◌≡◌, sym, ◌∙◌, ap}
use Rattle.promises.specs.OneAnswer.{OneAnswer, OneWith, EquationsPinned}

module _ {A : Type 0} {C : A → Type 0} {w : A} where
  pub settled : ((r : A) → C r → r ≡ w) → OneAnswer C
  settled is r s g h = is r g ∙ sym (is s h)

module _ {A B : Type 0} {C : A → B → Type 0} {w : A} {v : B} where
  pub settled-with : ((r : A) (ys : B) → C r ys → (r ≡ w) × (ys ≡ v)) → OneWith C
  settled-with is r s xs ys g h = ((is r xs g).0 ∙ sym (is s ys h).0, (is r xs g).1 ∙ sym (is s ys h).1)

-- an answer is settled by what it means, where a way leads back from there
module _ {A B : Type 0} (means : A → B) (back : B → A) where
  pub settled-by : ((r : A) → back (means r) ≡ r) → (w : B) → OneAnswer (λ (r : A). means r ≡ w)
  settled-by way w = settled (λ r e. sym (way r) ∙ ap back e)

pub equations-pinned : EquationsPinned
equations-pinned A w = settled (λ r e. e)
