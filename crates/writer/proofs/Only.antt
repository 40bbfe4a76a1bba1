-- A writer's contract permits one answer and one output. Assumes nothing.
use mathlib.Core.Path.{◌≡◌, sym, ◌∙◌}
use mathlib.Core.List.{List}
use Prim.Native.Nat.{ℕ, ◌<◌}
use lib.ListN.{get_or}
use Rattle.rules.specs.Write.{Written}
use Rattle.rules.proofs.Bits.{bits_of-inj}
use Rattle.answer.specs.declared.Answer.{Answer}
use Rattle.writer.specs.Outcome.{Answers}

-- numbers that bytes hold
abbrev pub Bytes : List ℕ → Type 0
Bytes xs = (i : ℕ) → get_or xs i 0 < 256

-- any two answers with outputs of bytes that a contract permits are equal, for a line and for a page
pub only_one : {w : Written} {out : List ℕ} {r s : Answer} {o p : List ℕ} → Answers w out r o → Answers w out s p → Bytes o → Bytes p → (r ≡ s) × (o ≡ p)
only_one {o = o} {p = p} f g a b =
    (f.answer ∙ sym g.answer, bits_of-inj o p (f.size ∙ sym g.size) a b (f.bits ∙ sym g.bits))
