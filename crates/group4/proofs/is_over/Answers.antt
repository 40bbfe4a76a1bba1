-- `group4::is_over` meets its contract. Assumes nothing.
use mathlib.Core.Path.{sym, ap, ◌∙◌}
use mathlib.Core.List.{[]}
use Prim.Native.Nat.{ℕ}
use lib.Dec.{leb}
use Rattle.rules.specs.Bits.{bits_of}
use Rattle.rules.proofs.Bits.{length-bits_of}
use Rattle.codes.specs.Eols.{eols_of}
use Rattle.settings.specs.Between.{state_of}
use Rattle.settings.specs.Settings.{settings_of}
use Rattle.group4.proofs.Outcomes.{over-eofb, over-full, over-data}
use Rattle.group4.proofs.is_over.Goals as goal

pub returns-then-is_eofb : goal.returns-then-is_eofb
returns-then-is_eofb c =
    let a = c.args in
    c.if-is_eofb.true ∙ over-eofb (settings_of a.settings) (bits_of a.src.now) (state_of [] [] a.state) (eols_of a.eols) (sym c.is_eofb.ensures ∙ c.if-is_eofb.true)

pub returns-then-is_full : goal.returns-then-is_full
returns-then-is_full c =
    let a = c.args in
    c.if-is_full.true ∙ over-full (settings_of a.settings) (bits_of a.src.now) (state_of [] [] a.state) (eols_of a.eols) (sym c.is_full.ensures ∙ c.if-is_full.true)

pub returns-else-is_full : goal.returns-else-is_full
returns-else-is_full c =
    let a = c.args in
    c.at_end.ensures
    ∙ ap (λ (n : ℕ). leb n a.eols.at) (sym (length-bits_of a.src.now))
    ∙ over-data (settings_of a.settings) (bits_of a.src.now) (state_of [] [] a.state) (eols_of a.eols) (sym c.is_eofb.ensures ∙ c.if-is_eofb.false) (sym c.is_full.ensures ∙ c.if-is_full.false)
