-- `listing_text::settings_line::parse` meets its contract. The invariant: whatever the bytes from `at` on say, the whole says. Assumes nothing.
use mathlib.Core.List.{List}
use mathlib.Core.Path.{sym, ◌∙◌, subst}
use Prim.Native.Nat.{ℕ, ◌+◌}
use native.Mathlib.Omega.{arith}
use lib.ListN.{set}
use Rattle.listing_text.proofs.Standing.{says-bad, says-stands, spread}
use Rattle.listing_text.proofs.Parting.{Whole, none_read, number-missing, mark-missing, line-short, line-whole, one_more, tenth, whole_long}
use Rattle.listing_text.specs.Reading.{Stands}
use Rattle.listing_text.proofs.settings_line.parse.Goals.{Else-k-lt6}
use Rattle.listing_text.proofs.settings_line.parse.Goals as goal

-- the line, where a line feed ends it behind seven numbers, eight or nine
whole : (c : Else-k-lt6) → Whole c.args.bytes.now (c.in_ok-number.number.next + 1) (set c.loop-k.n c.loop-k.k c.in_ok-number.number.value)
whole c =
    line-whole _ _ _ _ c.loop-k.invariant c.in_ok-number.number c.in_ok-number.ensures (sym c.byte-behind.ensures ∙ c.if-behind-eq10.true) (omega (arith, c.if-k-lt6.false)) c.loop-k-test.true

pub loop-k-init : goal.loop-k-init
loop-k-init c = none_read _

pub read_number-requires : goal.read_number-requires
read_number-requires c = c.loop-k.invariant.inside

pub returns-in_err-number : goal.returns-in_err-number
returns-in_err-number c = rw c.from_residual.ensures (says-bad _ (number-missing _ _ _ _ c.loop-k.invariant c.in_err-number.ensures))

pub returns-then-k-lt6 : goal.returns-then-k-lt6
returns-then-k-lt6 c =
    says-bad _ (line-short _ _ _ _ c.loop-k.invariant c.in_ok-number.number c.in_ok-number.ensures (sym c.byte-behind.ensures ∙ c.if-behind-eq10.true) (omega (arith, c.if-k-lt6.true)))

pub returns-then-behind-eq10 : goal.returns-then-behind-eq10
returns-then-behind-eq10 c =
    let w = whole (goal.at.returns-then-behind-eq10 c).Else-k-lt6 in
    let number = c.in_ok-number.number in
    says-stands _ _ _ c.stand.result w
    (subst (λ (ns : List ℕ). Stands ns (number.next + 1) c.stand.result) (sym (spread 9 0 (set c.loop-k.n c.loop-k.k number.value) (sym (whole_long w)))) c.stand.ensures)

pub returns-then-behind-ne9 : goal.returns-then-behind-ne9
returns-then-behind-ne9 c =
    says-bad _ (mark-missing _ _ _ _ c.loop-k.invariant c.in_ok-number.number c.in_ok-number.ensures (λ e. c.if-behind-eq10.false (c.byte-behind.ensures ∙ e)) (λ e. c.if-behind-ne9.true (c.byte-behind.ensures ∙ e)))

pub loop-k-preserved : goal.loop-k-preserved
loop-k-preserved c =
    one_more _ _ _ _ c.loop-k.invariant c.in_ok-number.number c.in_ok-number.ensures (sym c.byte-behind.ensures ∙ c.if-behind-ne9.false) c.loop-k-test.true

pub returns : goal.returns
returns c = says-bad _ (tenth _ _ _ _ c.loop-k.invariant c.loop-k-test.false)
