-- A white reference.
use Rattle.std.specs.Prelude.{Bool, List, ℕ, eqb, length}
use Rattle.context.specs.declared.reference.Reference.{Reference}
use Rattle.context.specs.declared.reference.Reference.TheVariants.{Lent, Kept}

-- the reference has no changes
abbrev pub under_white : Reference → ℕ → List ℕ → Bool
under_white Lent base lent = eqb (length lent) 0
under_white (Kept start) base lent = eqb start base
