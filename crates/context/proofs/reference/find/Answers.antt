-- What the search rules of its parts is what they ensure.
use native.Mathlib.Omega.{arith}
use Rattle.tables.specs.Tables.{colour_of}
use Rattle.context.proofs.Search.{place-near, finds}
use Rattle.context.proofs.reference.find.Goals as goal

pub scan-stop-requires : goal.scan-stop-requires
scan-stop-requires c = rw c.right_of_a0.ensures c.requires.passed

pub overflow_add-place : goal.overflow_add-place
overflow_add-place c = omega (arith, c.scan-stop.ensures.passed.inside, place-near c.scan-stop.result (colour_of c.args.colour))

pub returns : goal.returns
returns c =
    finds (colour_of c.args.colour) c.requires.rising c.scan-stop.ensures c.right_of_a0.ensures
    c.b1_place-place.ensures
    c.change_or.ensures
    c.change_or-2.ensures
