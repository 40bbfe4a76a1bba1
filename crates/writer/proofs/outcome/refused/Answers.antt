-- `writer::outcome::refused` meets its contract. The tests of `first_tests`, one after the other. Assumes nothing.
use mathlib.Core.Path.{refl}
use native.Mathlib.Omega.{arith}
use borrow.Author.Tests.{eq-eqb, ne_eqb, lt-ltb, le-ltb}
use Rattle.rules.specs.Pages.{most_bytes}
use Rattle.writer.proofs.outcome.refused.Goals as goal
use Rattle.writer.proofs.outcome.refused.Goals.{then-columns-eq0-via-then-columns-eq0, then-columns-eq0-via-else-columns-eq0+then-columns-eq-MOST_PIXELS}

pub returns-then-columns-eq0 : goal.returns-then-columns-eq0
returns-then-columns-eq0 c =
    elim c.then-columns-eq0.branch [
      | then-columns-eq0-via-then-columns-eq0 w ↦ (rw (eq-eqb c.args.columns 0 w.if-columns-eq0.true) refl, λ e. omega (arith, e))
      | then-columns-eq0-via-else-columns-eq0+then-columns-eq-MOST_PIXELS w ↦ (rw (ne_eqb c.args.columns 0 w.if-columns-eq0.false, eq-eqb c.args.columns 4294967295 w.if-columns-eq-MOST_PIXELS.true) refl, λ e. omega (arith, e))
    ]

pub returns-then-bytes-gt-MOST_BYTES : goal.returns-then-bytes-gt-MOST_BYTES
returns-then-bytes-gt-MOST_BYTES c = (
  rw (
    ne_eqb c.args.columns 0 c.if-columns-eq0.false,
    ne_eqb c.args.columns 4294967295 c.if-columns-eq-MOST_PIXELS.false,
    lt-ltb most_bytes c.args.bytes c.if-bytes-gt-MOST_BYTES.true,
  ) refl,
  λ e. omega (arith, e),
)

pub returns : goal.returns
returns c =
    rw (
      ne_eqb c.args.columns 0 c.if-columns-eq0.false,
      ne_eqb c.args.columns 4294967295
          c.if-columns-eq-MOST_PIXELS.false,
      le-ltb most_bytes c.args.bytes c.if-bytes-gt-MOST_BYTES.false,
    )
