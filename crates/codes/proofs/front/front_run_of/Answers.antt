-- As `front_run`, by the entries of a colour's table.
use mathlib.Core.Path.{ap, ◌∙◌, subst}
use Prim.Native.Nat.{ℕ}
use lib.ListN.{get_or}
use Rattle.rules.specs.Lookup.{lookup_table}
use Rattle.tables.specs.Tables.{colour_of}
use Rattle.codes.specs.Fronts.{Fronted}
use Rattle.codes.proofs.Fronts.{one-front}
use Rattle.codes.proofs.front.front_run_of.Goals as goal

pub returns-then-run-lt64 : goal.returns-then-run-lt64
returns-then-run-lt64 c =
    subst (λ (e : ℕ). Fronted (lookup_table (colour_of c.args.colour)) e c.args.bits (record { pixels = c.run_in-run.result; size = c.size_in.result })) c.entry-first.ensures
    (one-front _ c.run_in-run.ensures c.size_in.ensures c.if-run-lt64.true)

pub returns : goal.returns
returns c =
    let table = lookup_table (colour_of c.args.colour) in
    subst (λ (e : ℕ). Fronted table e c.args.bits c.joined.result) c.entry-first.ensures
    (c.joined.ensures table _ (c.entry-last.ensures ∙ ap (λ (i : ℕ). get_or table i 0) c.behind.ensures.0))
