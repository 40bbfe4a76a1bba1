-- `ccitt::page` meets its contract. The invariant: the machine stands where the arrays say, `expected` whether EOLs were behind one of its rows, and `places` is the shorter of the two. Assumes nothing.
use mathlib.Core.Path.{◌≡◌}
use Rattle.rules.specs.Pages.{places_in}
use Rattle.ccitt.proofs.Paging.{Turn, turns_left}
use Rattle.ccitt.proofs.page.Given as goal

abbrev pub invariant-loop-number : goal.invariant-loop-number
invariant-loop-number l =
    (l.places ≡ places_in l.initial.ends l.initial.marks) × Turn l.src l.settings l.initial.changes l.initial.ends l.initial.marks l.changes l.ends l.marks l.state l.expected

abbrev pub decreases-loop-number : goal.decreases-loop-number
decreases-loop-number l = turns_left l.src l.state
