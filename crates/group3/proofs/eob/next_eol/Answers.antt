-- `group3::eob::next_eol` meets its contract. Assumes nothing.
use mathlib.Core.Path.{sym, ap, ◌∙◌}
use Prim.Native.Nat.{ℕ, ◌/◌, ◌^◌}
use lib.ListN.{drop}
use Rattle.rules.specs.Bits.{bits_of}
use Rattle.rules.proofs.Bits.{peek-high}
use Rattle.group3.proofs.Judging.{none_left}
use Rattle.group3.proofs.eob.next_eol.Goals as goal

pub returns-then-peek-eq0 : goal.returns-then-peek-eq0
returns-then-peek-eq0 c =
    let a = c.args in
    none_left c.requires (sym (ap (λ (w : ℕ). w / 2 ^ 21) c.peek.ensures ∙ peek-high 11 21 (drop a.at (bits_of a.src.now))) ∙ c.if-peek-eq0.true)
