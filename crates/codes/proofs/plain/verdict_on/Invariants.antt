-- `codes::plain::verdict_on` meets its contract. The loop's invariant: what was met, and what the codes from the i-th on say, is what all say. Assumes nothing.
use Rattle.codes.specs.Plain.{codes_in}
use Rattle.codes.proofs.Verdicts.{Looking}
use Rattle.codes.proofs.plain.verdict_on.Given as goal

abbrev pub invariant-loop-i : goal.invariant-loop-i
invariant-loop-i l = Looking (codes_in l.terminating l.makeup l.common) l.taken l.word l.begun l.i
