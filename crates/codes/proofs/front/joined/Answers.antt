-- A make-up code, and a terminating code behind it, by their entries.
use mathlib.Core.Path.{sym, ◌∙◌}
use native.Mathlib.Omega.{arith}
use Rattle.codes.proofs.Fronts.{two-codes, front-none, front-makeups, front-two}
use Rattle.codes.proofs.front.joined.Goals as goal

pub returns-then-run-eq4095 : goal.returns-then-run-eq4095
returns-then-run-eq4095 c = λ table bits there. record {
  is = front-none table _ bits c.requires (sym c.run_in-run.ensures ∙ c.if-run-eq4095.true);
  few = omega arith;
  narrow = omega arith;
  read = λ colour bytes at live t h k e p. absurd (omega arith);
}

pub returns-then-more-gt63 : goal.returns-then-more-gt63
returns-then-more-gt63 c = λ table bits there. record {
  is = front-makeups table _ bits c.requires (λ z. c.if-run-eq4095.false (c.run_in-run.ensures ∙ z)) there (omega (arith, c.run_in-more.ensures, c.if-more-gt63.true));
  few = omega arith;
  narrow = omega arith;
  read = λ colour bytes at live t h k e p. absurd (omega arith);
}

pub returns : goal.returns
returns c =
    let last = c.run_in-more in
    let run = c.run_in-run in
    let size = c.size_in in
    let n = c.if-run-eq4095 in
    λ table bits there. record {
      is = rw (run.ensures, last.ensures, size.ensures.0, c.size_in-2.ensures.0) (front-two table _ bits c.requires (λ z. n.false (run.ensures ∙ z)) there (omega (arith, last.ensures, c.if-more-gt63.false)));
      few = omega (arith, size.ensures.1, c.size_in-2.ensures.1);
      narrow = omega (arith, run.ensures, last.ensures);
      read = λ colour bytes at live t h k e p.
          rw (run.ensures, last.ensures, size.ensures.0, c.size_in-2.ensures.0)
          (two-codes colour h k e (λ z. n.false (run.ensures ∙ z)) t there c.requires (omega (arith, last.ensures, c.if-more-gt63.false)));
    }
