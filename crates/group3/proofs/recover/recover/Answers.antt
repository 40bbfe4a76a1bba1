-- `group3::recover::recover` meets its contract. Assumes nothing.
use mathlib.Core.Path.{◌≡◌, sym, ◌∙◌}
use mathlib.Core.Bool.{true, not, ◌&&◌}
use lib.Dec.{leb}
use borrow.Author.Tests.{not-true, not-false}
use Rattle.group3.proofs.Mending.{white-holds, recovers-left, recovers-on, recovers-stop}
use Rattle.group3.proofs.recover.recover.Goals as goal

pub returns-then-not-is_kept : goal.returns-then-not-is_kept
returns-then-not-is_kept c = let a = c.args in recovers-left a.settings a.state a.at a.expected a.number a.place c.requires (sym (not-true _ c.if-not-is_kept.true-raw) ∙ c.is_kept.ensures)

pub push_pixels-requires : goal.push_pixels-requires
push_pixels-requires c = rw c.whitened.ensures (white-holds c.requires)

pub returns-in-Ok : goal.returns-in-Ok
returns-in-Ok c =
    let a = c.args in
    recovers-on a.settings a.state a.at a.expected a.number a.place c.requires ((let h-is-kept : let a = c.args in true ≡ ((a.expected && not a.settings.strict) && leb a.number 3) = sym (not-false _ c.if-not-is_kept.false-raw) ∙ c.is_kept.ensures in h-is-kept)) _ _ (rw c.whitened.ensures at c.push_pixels.ensures) _ c.in-Ok.is

pub returns-in-Err : goal.returns-in-Err
returns-in-Err c =
    let a = c.args in
    recovers-stop a.settings a.state a.at a.expected a.number a.place c.requires ((let h-is-kept : let a = c.args in true ≡ ((a.expected && not a.settings.strict) && leb a.number 3) = sym (not-false _ c.if-not-is_kept.false-raw) ∙ c.is_kept.ensures in h-is-kept)) _ _ (rw c.whitened.ensures at c.push_pixels.ensures) _ c.in-Err.is
