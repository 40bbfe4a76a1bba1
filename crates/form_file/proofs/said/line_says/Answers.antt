-- `form_file::said::line_says` meets its contract. Assumes nothing.
use mathlib.Core.Path.{◌≡◌, ap, ◌∙◌}
use mathlib.Core.List.{List}
use Prim.Native.Nat.{ℕ, ◌-◌}
use native.Mathlib.Omega.{arith}
use lib.ListN.{take}
use Rattle.form_file.specs.Said.{line_says}
use Rattle.form_file.specs.Steps.{ahead, is_plain, words_in}
use Rattle.form_file.proofs.Ahead.{ahead_in, before-comment}
use Rattle.form_file.proofs.said.line_says.Goals as goal

pub slice_bounds-says-end : goal.slice_bounds-says-end
slice_bounds-says-end c = omega (arith, ahead_in is_plain c.args.line.now, c.uncommented-end.ensures)

pub returns : goal.returns
returns c =
    let line = c.args.line.now in
    let end : c.uncommented-end.result - 0 ≡ ahead is_plain line = omega (arith, c.uncommented-end.ensures) in
    c.says.ensures ∙ ap (λ (xs : List ℕ). line_says (words_in xs)) (ap (λ (k : ℕ). take k line) end ∙ before-comment line)
