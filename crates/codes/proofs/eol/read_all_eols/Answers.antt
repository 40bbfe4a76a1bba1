-- `codes::eol::read_all_eols` meets its contract. Assumes nothing.
use mathlib.Core.Path.{sym, ap, ◌∙◌}
use Prim.Native.Nat.{ℕ}
use Rattle.rules.specs.Bits.{bits_of}
use Rattle.rules.specs.Eols.{read_eols}
use Rattle.rules.proofs.Bits.{length-bits_of}
use Rattle.codes.proofs.eol.read_all_eols.Goals as goal

pub returns : goal.returns
returns c =
    let a = c.args in
    let bytes = a.src.now in
    c.read_eols.ensures ∙ ap (λ (n : ℕ). read_eols n (bits_of bytes) a.from) (sym (length-bits_of bytes))
