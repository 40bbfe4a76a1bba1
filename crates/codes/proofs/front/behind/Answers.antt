-- The 13 bits behind an entry's code.
use mathlib.Core.Path.{ap, ◌∙◌}
use Prim.Native.Nat.{ℕ, ◌*◌, ◌/◌, ◌%◌, ◌^◌}
use Rattle.codes.proofs.front.behind.Goals as goal

pub returns : goal.returns
returns c =
    ((c.top13.ensures.0 ∙ ap (λ (n : ℕ). c.args.bits * 2 ^ n % 2 ^ 64 / 2 ^ 51) c.size_in.ensures.0), c.top13.ensures.1)
