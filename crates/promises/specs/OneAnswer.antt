-- When a contract permits one answer only: alone, or with what it leaves in one lent array or in three (01 "Pinning the answers down").
use Rattle.std.specs.Prelude.{◌≡◌}

module _ {A : Type 0} where
  abbrev pub OneAnswer : (A → Type 0) → Type 0
  OneAnswer C = (r s : A) → C r → C s → r ≡ s

module _ {A B : Type 0} where
  abbrev pub OneWith : (A → B → Type 0) → Type 0
  OneWith C = (r s : A) (xs ys : B) → C r xs → C s ys → (r ≡ s) × (xs ≡ ys)

  abbrev pub OneWithThree : (A → B → B → B → Type 0) → Type 0
  OneWithThree C = (r s : A) (xs ys es fs ms ns : B) → C r xs es ms → C s ys fs ns → (r ≡ s) × (xs ≡ ys) × (es ≡ fs) × (ms ≡ ns)

-- a contract that is an equation of the whole answer
abbrev pub EquationsPinned : Type 1
EquationsPinned = (A : Type 0) (w : A) → OneAnswer (λ (r : A). r ≡ w)
