-- `ledger_file::total::number_ahead` meets its contract. Assumes nothing.
use Rattle.form_file.specs.Steps.{ahead}
use Rattle.form_file.proofs.Ahead.{ahead_in}
use Rattle.ledger_file.specs.Fields.{number_in}
use Rattle.ledger_file.specs.Total.{is_a_digit}
use lib.ListN.{take}
use native.Mathlib.Omega.{arith}
use Prim.Native.Nat.{ℕ, ◌-◌}
use mathlib.Core.Path.{◌≡◌, ap, ◌∙◌}
use Rattle.ledger_file.proofs.total.number_ahead.Goals as goal

pub slice_bounds-number_in-end : goal.slice_bounds-number_in-end
slice_bounds-number_in-end c = omega (arith, c.digits_end-k.ensures, ahead_in is_a_digit c.args.word.now)

pub returns : goal.returns
returns c =
    let word = c.args.word.now in
    let k = c.digits_end-k.result in
    let z : k - 0 ≡ ahead is_a_digit word = omega (arith, c.digits_end-k.ensures) in
    c.number_in.ensures ∙ ap (λ (j : ℕ). number_in (take j word)) z
