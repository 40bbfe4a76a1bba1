-- Where the table is lent it is the colour's.
use mathlib.Core.Path.{subst}
use mathlib.Core.List.{List}
use Prim.Native.Nat.{ℕ}
use lib.ListN.{get_or}
use Rattle.tables.specs.Tables.{colour_of}
use Rattle.codes.specs.Fronts.{Fronted}
use Rattle.codes.proofs.Fronts.{table-length}
use Rattle.codes.proofs.front.front_run_by.Goals as goal

pub front_run-requires : goal.front_run-requires
front_run-requires c = (c.requires.0, table-length (colour_of c.args.colour) (c.requires.1 c.if-lent.true))

pub returns-then-lent : goal.returns-then-lent
returns-then-lent c =
    subst (λ (t : List ℕ). Fronted t (get_or t c.args.top 0) c.args.bits c.front_run.result) (c.requires.1 c.if-lent.true) c.front_run.ensures
