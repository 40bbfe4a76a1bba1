use mathlib.Core.Path.{ap, ◌∙◌}
use native.Mathlib.Omega.{arith}
use lib.IntN.{ℤ, pos, ◌-ℤ◌}
use mir.Facts.{to_z-of_z}
use mir.Syntax.{w32}
use mir.Val.{SFits}
use Rattle.ledger.specs.Books.{size}
use Rattle.ledger.proofs.quota.size_left.Goals as goal

pub returns : goal.returns
returns c = let g = c.struct_told-1.given in let h : SFits w32 c.args.b.quota = record { sfits = omega (arith, g) } in c.left_size.ensures ∙ ap (λ (q : ℤ). size (q -ℤ pos c.args.b.heads)) (to_z-of_z h)
