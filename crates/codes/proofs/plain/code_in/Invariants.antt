-- `codes::plain::code_in` meets its contract. The loop's invariant: going on from the bits taken gives what comparing from the first gives. Assumes nothing.
use lib.ListN.{drop}
use Rattle.rules.specs.Bits.{bits_of}
use Rattle.codes.specs.Plain.{Listed}
use Rattle.codes.proofs.Comparing.{Comparing}
use Rattle.codes.proofs.plain.code_in.Given as goal

abbrev pub invariant-loop-before : goal.invariant-loop-before
invariant-loop-before l = (h : Listed l.terminating l.makeup l.common) → Comparing h.colour (drop l.at (bits_of l.src)) l.before l.word
